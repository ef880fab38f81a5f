use Rattle.std.proofs.Common.{refl}
use Rattle.dtdl_cmd.specs.declared.status.Status.TheVariants as status
use Rattle.dtdl_cmd.proofs.OneMake.{one_make}
use Rattle.dtdl_cmd.proofs.laws.one_make.Goals as goal

pub returns : goal.returns
returns c = λ words input other shelf files output sink n before makes from too one two.
    one_make c.one_text.ensures words input other shelf files output sink n before status.Ok status.Ok makes from too refl refl one two
