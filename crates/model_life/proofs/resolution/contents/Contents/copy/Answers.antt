use Rattle.std.proofs.Common.{◌++◌, map, ap, ◌∙◌, subst}
use Rattle.std.specs.Ordering.{nat_cmp}
use Rattle.std.specs.Cmp.Lexicographic.{slice_cmp}
use Rattle.std.specs.List.Sorted.{IsStrictlySortedBy}
use Rattle.model_life.specs.resolution.Machinery.Families.{declared_by}
use Rattle.model_life.proofs.resolution.Declared.{contents_sorted, contents_values}
use Rattle.model_life.proofs.resolution.contents.Contents.copy.Goals as goal

pub contents-init : goal.contents-init
contents-init c =
    ap (λ xs. xs ++ map (λ d. declared_by d.0.now d.1.now) c.into_iter-declared-iterator.result) c.in_ok-copies.ensures.items
    ∙ ap (map (λ d. declared_by d.0.now d.1.now)) (c.into_iter-declared-iterator.ensures.into_iter_gives ∙ c.values-declared-items.ensures.rest)
    ∙ contents_values c.self.inside.by_name.entries
    ∙ c.self.view_is

pub returns-clause-sorted : goal.returns-clause-sorted
returns-clause-sorted c =
    subst (λ rs. IsStrictlySortedBy (slice_cmp nat_cmp) (map (λ r. r.content.name) rs)) c.self.view_is
    (contents_sorted c.self.inside.by_name.entries c.self.invariant.0 c.self.invariant.1)
