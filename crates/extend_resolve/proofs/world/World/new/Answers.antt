use Rattle.std.proofs.Common.{◌≡◌, ℕ, List, Bool, map, length, Bor, Option, None, refl, sym, ap, ◌∙◌, subst}
use Rattle.std.specs.List.{filter_map, AllByRecursion, list_any}
use Rattle.std.specs.Option.{is_some}
use Rattle.std.proofs.lemmas.List.{length-map}
use Rattle.dtdl_terms.specs.Sets.{interface_at}
use Rattle.dtdl_terms.specs.declared.interface.Interface.{Interface}
use Rattle.extend_resolve.specs.Machinery.Numbers.{kept_at}
use Rattle.extend_resolve.specs.Machinery.Gathering.{component_id, IsGathered}
use Rattle.extend_resolve.proofs.Gathered.{world_made, all_from_map, map_map}
use Rattle.extend_resolve.proofs.world.World.new.Goals as goal

pub returns : goal.returns
returns c =
    let now : Bor Interface → Interface = λ n. n.now in
    let new : List Interface = map (λ u. u.interface) c.args.new.now in
    let nodes : List Interface = map now c.in_ok-nodes.nodes.items in
    let links_of : Interface → List ℕ = λ i. filter_map (λ p. kept_at p c.gather.new.numbers.entries) i.parents in
    let composed_of : Interface → Bool = λ i. list_any (λ d. is_some (component_id d)) i.contents in
    world_made c.args.set.now new nodes c.gather.new.numbers.entries
    (all_from_map (λ u. u.interface) (λ i. interface_at i.id c.args.set.now ≡ None) c.args.new.now c.requires.apart)
    (subst (IsGathered c.args.set.now new nodes) (sym (length-map c.in_ok-nodes.nodes.items now)) c.in_ok-nodes.ensures.gathered)
    c.in_ok-nodes.ensures.numbered
    c.in_ok-links.links.items c.in_ok-composed.composed.items
    (c.in_ok-links.ensures ∙ ap (map (λ n. links_of n.now)) c.as_slice.ensures.value ∙ sym (map_map links_of now c.in_ok-nodes.nodes.items))
    (c.in_ok-composed.ensures ∙ ap (map (λ n. composed_of n.now)) c.as_slice-2.ensures.value ∙ sym (map_map composed_of now c.in_ok-nodes.nodes.items))
