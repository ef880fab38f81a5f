use Rattle.std.proofs.Common.{rules}
use Rattle.std.proofs.lemmas.Slice.Eq.{bytes_eq-Decides}
use Rattle.httparse.specs.Grammar.{trim_ows}
use Rattle.http_ends.proofs.fields.is_connection_option.Goals as goal

pub returns : goal.returns
unfolding trim_ows
returns c = search (rules, bytes_eq-Decides)
