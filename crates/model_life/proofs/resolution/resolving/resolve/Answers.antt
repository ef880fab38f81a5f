use Rattle.std.proofs.Common.{◌≡◌, ◌↔◌, List, sym, ap, ◌∙◌, subst}
use Rattle.std.specs.Prelude.{Contains}
use Rattle.std.specs.Option.{option_copied}
use Rattle.std.proofs.lemmas.Option.{same_Some}
use Rattle.dtdl_terms.specs.Sets.{InOrder}
use Rattle.dtdl_terms.specs.declared.interface.Interface.{Interface}
use Rattle.model_life.specs.resolution.Resolving.{HasPart, IsResolved, IsSource, ListsContents}
use Rattle.model_life.specs.resolution.Machinery.Families.{IsThere}
use Rattle.model_life.proofs.resolution.Families.{stands}
use Rattle.model_life.proofs.resolution.Declared.{one_content}
use Rattle.model_life.proofs.resolution.Assembly.{seen, one_declared, found_ancestors, found_sources, in_order, parts_there, lists_contents, lists_ancestors, lists_named, lists_parts, sources}
use Rattle.model_life.proofs.resolution.resolving.resolve.Goals as goal

pub ancestors_of-requires-clause-there : goal.ancestors_of-requires-clause-there
ancestors_of-requires-clause-there c = stands c.args.set.now c.args.id.now c.unwrap-interface.result.now (sym c.get.ensures ∙ ap option_copied c.unwrap-interface.ensures)

pub resolved_of-resolved-requires-clause-one : goal.resolved_of-resolved-requires-clause-one
resolved_of-resolved-requires-clause-one c =
    let i : Interface = c.unwrap-interface.result.now in
    let there : IsThere c.args.set.now i = stands c.args.set.now c.args.id.now i (sym c.get.ensures ∙ ap option_copied c.unwrap-interface.ensures) in
    one_declared c.args.set.now i (seen c.as_slice-3.result.now)
    (found_ancestors c.args.set.now i c.in_ok-found.found c.as_slice-3.result.now c.in-Ok.ancestors.items c.as_slice-3.ensures.value c.in-Ok.ensures.each c.in-Ok.ensures.ordered c.in_ok-found.ensures.each)
    (one_content c.args.set.now c.requires.sound c.requires.declared i there)

pub add_all_ancestors-requires-clause-there : goal.add_all_ancestors-requires-clause-there
add_all_ancestors-requires-clause-there c =
    subst (λ xs. (q : Interface) → Contains (seen xs) q → IsThere c.args.set.now q) (sym c.as_slice-2.ensures.value)
    (parts_there c.args.set.now c.unwrap-interface.result.now (seen c.in-Ok-parts.parts.items)
    (c.in-Ok-parts.ensures.each c.unwrap-interface.result.now
    (found_ancestors c.args.set.now c.unwrap-interface.result.now c.in_ok-found.found c.as_slice.result.now c.in-Ok.ancestors.items c.as_slice.ensures.value c.in-Ok.ensures.each c.in-Ok.ensures.ordered c.in_ok-found.ensures.each)))

pub resolved_of-resolved-requires-clause-there : goal.resolved_of-resolved-requires-clause-there
resolved_of-resolved-requires-clause-there c =
    subst (λ xs. (q : Interface) → Contains (seen xs) q → IsThere c.args.set.now q) (sym c.as_slice-5.ensures.value)
    (parts_there c.args.set.now c.unwrap-interface.result.now (seen c.in-Ok-parts.parts.items)
    (c.in-Ok-parts.ensures.each c.unwrap-interface.result.now
    (found_ancestors c.args.set.now c.unwrap-interface.result.now c.in_ok-found.found c.as_slice.result.now c.in-Ok.ancestors.items c.as_slice.ensures.value c.in-Ok.ensures.each c.in-Ok.ensures.ordered c.in_ok-found.ensures.each)))

pub returns : goal.returns
returns c i found =
    let set : List Interface = c.args.set.now in
    let j : Interface = c.unwrap-interface.result.now in
    let same : j ≡ i = same_Some j i (sym (ap option_copied c.unwrap-interface.ensures) ∙ c.get.ensures ∙ found) in
    let lists : ListsContents set j c.in_ok-resolved.field-0.contents =
    lists_contents set j (seen c.as_slice-3.result.now)
    (found_ancestors set j c.in_ok-found.found c.as_slice-3.result.now c.in-Ok.ancestors.items c.as_slice-3.ensures.value c.in-Ok.ensures.each c.in-Ok.ensures.ordered c.in_ok-found.ensures.each)
    c.in_ok-resolved.field-0.contents c.in_ok-resolved.ensures.each c.in_ok-resolved.ensures.sorted in
    let own : (q : Interface) → Contains (seen c.in-Ok-parts.parts.items) q ↔ HasPart set j q =
    c.in-Ok-parts.ensures.each j
    (found_ancestors set j c.in_ok-found.found c.as_slice.result.now c.in-Ok.ancestors.items c.as_slice.ensures.value c.in-Ok.ensures.each c.in-Ok.ensures.ordered c.in_ok-found.ensures.each) in
    let are : (q : Interface) → Contains (seen c.as_slice-2.result.now) q ↔ HasPart set j q =
    subst (λ xs. (q : Interface) → Contains (seen xs) q ↔ HasPart set j q) (sym c.as_slice-2.ensures.value) own in
    let parts : (q : Interface) → Contains (seen c.as_slice-5.result.now) q ↔ HasPart set j q =
    subst (λ xs. (q : Interface) → Contains (seen xs) q ↔ HasPart set j q) (sym c.as_slice-5.ensures.value) own in
    let from : (a : Interface) → IsThere c.add_all_ancestors.new.found a ↔ IsSource set j a =
    sources set j (seen c.as_slice-2.result.now) are c.in_ok-found.found c.add_all_ancestors.new.found c.in_ok-found.ensures.each c.in-Ok-add_all_ancestors.ensures in
    subst (λ x. IsResolved set x c.in_ok-resolved.field-0) same
    (record {
      contents = lists;
      ancestors = lists_ancestors set j c.as_slice-3.result.now c.in_ok-resolved.field-0.ancestors c.in_ok-resolved.ensures.ancestors
          (in_order c.in_ok-found.found c.as_slice-3.result.now c.in-Ok.ancestors.items c.as_slice-3.ensures.value c.in-Ok.ensures.each c.in-Ok.ensures.ordered)
          (found_ancestors set j c.in_ok-found.found c.as_slice-3.result.now c.in-Ok.ancestors.items c.as_slice-3.ensures.value c.in-Ok.ensures.each c.in-Ok.ensures.ordered c.in_ok-found.ensures.each);
      named = lists_named set j c.as_slice-4.result.now c.in_ok-resolved.field-0.named c.in_ok-resolved.ensures.named
          (in_order c.add_all_ancestors.new.found c.as_slice-4.result.now c.in-Ok-list.sources.items c.as_slice-4.ensures.value c.in-Ok-list.ensures.each c.in-Ok-list.ensures.ordered)
          (found_sources set j c.add_all_ancestors.new.found c.as_slice-4.result.now c.in-Ok-list.sources.items c.as_slice-4.ensures.value c.in-Ok-list.ensures.each c.in-Ok-list.ensures.ordered from);
      parts = lists_parts set j (seen c.as_slice-5.result.now) parts c.in_ok-resolved.field-0.parts
          (subst (λ xs. InOrder (seen xs)) (sym c.as_slice-5.ensures.value) c.in-Ok-parts.ensures.ordered) c.in_ok-resolved.ensures.parts;
    })
