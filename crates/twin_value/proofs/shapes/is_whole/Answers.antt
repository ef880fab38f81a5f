use Rattle.std.proofs.Common.{◌≡◌, true, false}
use Rattle.json_decimal.specs.Decimals.{number_of}
use Rattle.json_tree.specs.View.{view}
use Rattle.twin_value.specs.Fits.{number_in}
use Rattle.twin_value.proofs.Enumerated.{whole_no}
use Rattle.twin_value.proofs.shapes.is_whole.Goals as goal

pub returns-else-number-whole : goal.returns-else-number-whole
returns-else-number-whole c = (
  λ h. let e : false ≡ true = h in absurd cc,
  λ h. absurd (whole_no (number_in (view c.args.tree.now)) (number_of c.in-Some.decimal.now) c.in-Some-as_i32.number c.args.whole c.in-Some.ensures c.in-Some-as_i32.ensures (λ e. c.if-number-whole.false cc) h),
)
