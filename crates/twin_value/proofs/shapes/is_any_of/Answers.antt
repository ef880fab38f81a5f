use Rattle.std.proofs.Common.{◌≡◌, refl, true, false}
use Rattle.json_tree.specs.View.{view}
use Rattle.twin_value.proofs.Enumerated.{any_there, none_more, none_whole}
use Rattle.twin_value.proofs.shapes.is_any_of.Goals as goal

pub returns-then-is_enum_value : goal.returns-then-is_enum_value
returns-then-is_enum_value c = (
  λ _. any_there c.args.entries.now (view c.args.tree.now) c.loop-entry.entry-index c.entry-item.result c.loop-entry-test.true c.entry-item.is (c.if-is_enum_value.ensures.0 refl),
  λ _. refl,
)

pub loop-entry-preserved : goal.loop-entry-preserved
loop-entry-preserved c =
    none_more c.args.entries.now (view c.args.tree.now) c.loop-entry.entry-index c.entry-item.result c.loop-entry-test.true c.entry-item.is c.loop-entry.invariant
    (λ h. let e : false ≡ true = c.if-is_enum_value.ensures.1 h in cc)

pub returns : goal.returns
returns c = (
  λ h. let e : false ≡ true = h in absurd cc,
  λ h. absurd (none_whole c.args.entries.now (view c.args.tree.now) c.loop-entry.entry-index c.loop-entry-test.false c.loop-entry.invariant h),
)
