use Rattle.std.proofs.Common.{◌≡◌, ℕ, ◌+◌, ◌<◌, List, [], ◌++◌, length, take, drop, refl, sym, ap, ◌∙◌, subst, arith}
use Rattle.std.specs.List.{AllByRecursion}
use Rattle.extend_resolve.specs.Machinery.Links.{links_at}
use Rattle.extend_resolve.specs.Machinery.Deepening.{with_child, LeadBack}
use Rattle.extend_resolve.proofs.Opening.{same_within}
use Rattle.extend_resolve.proofs.Deepening.{given_back, low_links, back_step, length_child}
use Rattle.extend_resolve.proofs.depths.children_of.Goals as goal

pub add_child-requires : goal.add_child-requires
add_child-requires c =
    let low : c.links.child < length c.args.links.now = omega (arith, c.links-test.true) in
    let next : c.as_slice.result.now ≡ links_at c.args.links.now c.links.child =
    c.as_slice.ensures ∙ c.index-links-child.is ∙ same_within c.args.links.now c.links.child c.index-links-child.result [] low in
    let all : AllByRecursion (λ y. y < length c.links.children.items) (links_at c.args.links.now c.links.child) =
    low_links c.args.links.now c.requires.within c.links.children.items c.links.child c.links.invariant.same in
    record {
      below = subst (λ xs. AllByRecursion (λ y. y < length xs) c.as_slice.result.now) (sym c.as_mut_slice.ensures.value)
          (subst (AllByRecursion (λ y. y < length c.links.children.items)) (sym next) all);
    }

pub links-preserved : goal.links-preserved
links-preserved c =
    let low : c.links.child < length c.args.links.now = omega (arith, c.links-test.true) in
    let was : List (List ℕ) = c.links.children.items in
    let next : c.as_slice.result.now ≡ links_at c.args.links.now c.links.child =
    c.as_slice.ensures ∙ c.index-links-child.is ∙ same_within c.args.links.now c.links.child c.index-links-child.result [] low in
    let made : c.add_child.new.children ≡ with_child was c.links.child (links_at c.args.links.now c.links.child) =
    c.in_ok-add_child.ensures ∙ ap (λ xs. with_child xs c.links.child c.as_slice.result.now) c.as_mut_slice.ensures.value ∙ ap (with_child was c.links.child) next in
    let long : length c.add_child.new.children ≡ length was = ap length made ∙ length_child c.links.child was (links_at c.args.links.now c.links.child) in
    let back : take c.links.children.len (c.add_child.new.children ++ drop (length c.add_child.new.children) was) ≡ c.add_child.new.children =
    given_back c.links.children.len c.add_child.new.children was long (omega (arith, c.links.children.ok.0)) in
    subst (λ xs. LeadBack c.args.links.now xs (c.links.child + 1)) (sym (back ∙ made))
    (back_step c.args.links.now c.requires.within was c.links.child low c.links.invariant)
