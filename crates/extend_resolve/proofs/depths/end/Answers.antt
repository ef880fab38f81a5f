use Rattle.std.proofs.Common.{◌≡◌, ℕ, ◌<◌, List, ◌++◌, [], ◌∷◌, false, length, set, Option, Some, None, sym, ap, ◌∙◌, subst, get_or}
use Rattle.std.specs.Option.{is_some}
use Rattle.std.specs.List.{AllByRecursion}
use Rattle.extend_resolve.specs.Machinery.Links.{links_at}
use Rattle.extend_resolve.specs.Machinery.Deepening.{depth_over, IsDeepening}
use Rattle.extend_resolve.proofs.Opening.{all_from, same_within}
use Rattle.extend_resolve.proofs.Deepening.{tried_told, tried_stuck, deepening_step}
use Rattle.extend_resolve.proofs.depths.end.Goals as goal

pub depth_over-requires-clause-below : goal.depth_over-requires-clause-below
depth_over-requires-clause-below c =
    let next : c.as_slice.result.now ≡ links_at c.args.links.now c.args.number =
    c.as_slice.ensures ∙ c.index-links-number.is ∙ same_within c.args.links.now c.args.number c.index-links-number.result [] c.requires.below in
    subst (AllByRecursion (λ y. y < length c.args.depths.now)) (sym next)
    (all_from (λ y. y < length c.args.depths.now) (links_at c.args.links.now c.args.number) (λ y link. subst (λ n. y < n) (sym c.requires.so_far.same) (c.requires.within c.args.number y link)))

pub returns-in_default-clause-tried : goal.returns-in_default-clause-tried
returns-in_default-clause-tried c =
    let next : c.as_slice.result.now ≡ links_at c.args.links.now c.args.number =
    c.as_slice.ensures ∙ c.index-links-number.is ∙ same_within c.args.links.now c.args.number c.index-links-number.result [] c.requires.below in
    let over : c.depth_over.result ≡ depth_over c.args.depths.now 0 (links_at c.args.links.now c.args.number) = c.depth_over.ensures ∙ ap (depth_over c.args.depths.now 0) next in
    tried_stuck c.args.links.now c.args.depths.now c.args.ended.now.items c.requires.so_far c.args.number (sym over ∙ c.in_default.is)

pub returns-clause-so_far : goal.returns-clause-so_far
returns-clause-so_far c =
    let next : c.as_slice.result.now ≡ links_at c.args.links.now c.args.number =
    c.as_slice.ensures ∙ c.index-links-number.is ∙ same_within c.args.links.now c.args.number c.index-links-number.result [] c.requires.below in
    let over : c.depth_over.result ≡ depth_over c.args.depths.now 0 (links_at c.args.links.now c.args.number) = c.depth_over.ensures ∙ ap (depth_over c.args.depths.now 0) next in
    let untold : is_some (get_or c.args.depths.now c.args.number None) ≡ false = sym c.is_some.ensures ∙ c.if-is_some.false in
    subst (IsDeepening c.args.links.now (set c.args.depths.now c.args.number (Some c.in-Some.depth))) (sym c.in_ok-push.ensures.items)
    (deepening_step c.args.links.now c.args.depths.now c.args.ended.now.items c.requires.so_far c.args.number c.in-Some.depth c.requires.below untold (sym over ∙ c.in-Some.is))
