use Rattle.std.proofs.Common.{arith}
use Rattle.json_length.proofs.Lengths.{members_printed}
use Rattle.json_length.proofs.laws.one_object_length.Goals as goal

pub returns-clause-some : goal.returns-clause-some
returns-clause-some c = λ key v ms. omega (arith, members_printed key v ms)
