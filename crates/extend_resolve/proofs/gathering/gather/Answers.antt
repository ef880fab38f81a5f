use Rattle.std.proofs.Common.{◌≡◌, ℕ, ◌+◌, ◌-◌, ◌<◌, ◌≤◌, ◌++◌, List, [], ◌∷◌, map, length, get_or, Bor, Some, refl, sym, ap, ◌∙◌, subst, arith}
use Rattle.std.specs.Prelude.{slice_get}
use Rattle.std.specs.Option.{option_map}
use Rattle.std.proofs.lemmas.List.{length-map}
use Rattle.std.proofs.lemmas.Option.{slice_get-map, slice_get_read}
use Rattle.dtdl_terms.specs.declared.interface.Interface.{Interface}
use Rattle.dtdl_terms.specs.declared.uploaded.Uploaded.{Uploaded}
use Rattle.extend_resolve.specs.Machinery.Gathering.{AreNumbered, IsGathered, with_ids, with_components}
use Rattle.extend_resolve.proofs.Gathered.{gathered_begins, gathered_step, gathered_fits}
use Rattle.extend_resolve.proofs.gathering.gather.Goals as goal

pub open-init : goal.open-init
open-init c =
    let now : Bor Interface → Interface = λ n. n.now in
    let new : List Interface = map (λ u. u.interface) c.args.new.now in
    let nodes : map now c.add_all_components.new.nodes.items ≡ with_components c.args.set.now new new =
    c.in_ok-add_all_components.ensures.nodes
    ∙ ap (λ xs. with_components c.args.set.now xs new) (c.in_ok-put_new.ensures.nodes ∙ ap (λ xs. map now xs ++ new) c.new-nodes.ensures.items) in
    record {
      numbered = c.in_ok-add_all_components.ensures.numbered;
      gathered = subst (λ xs. IsGathered c.args.set.now new xs 0) (sym nodes) (gathered_begins c.args.set.now new);
      within = omega arith;
    }

pub open-smaller : goal.open-smaller
open-smaller c =
    let now : Bor Interface → Interface = λ n. n.now in
    let new : List Interface = map (λ u. u.interface) c.args.new.now in
    let fits : length (map now c.open.nodes.items) ≤ length new + length c.args.set.now = gathered_fits c.args.set.now new (map now c.open.nodes.items) c.open.at c.open.invariant.gathered in
    let nodes : length (map now c.open.nodes.items) ≡ length c.open.nodes.items = length-map c.open.nodes.items now in
    let long : length new ≡ length c.args.new.now = length-map c.args.new.now (λ u. u.interface) in
    let below : c.open.at < length c.open.nodes.items = omega (arith, c.open-test.true) in
    omega (arith, fits, nodes, long, below)

pub open-preserved : goal.open-preserved
open-preserved c =
    let now : Bor Interface → Interface = λ n. n.now in
    let new : List Interface = map (λ u. u.interface) c.args.new.now in
    let nodes : List Interface = map now c.open.nodes.items in
    let node : Interface = c.index-node.result.now.now in
    let below : c.open.at < length c.open.nodes.items = omega (arith, c.open-test.true) in
    let read : slice_get c.open.nodes.items c.open.at ≡ Some c.index-node.result.now =
    slice_get_read c.open.nodes.items (length c.open.nodes.items) c.open.at c.index-node.result.now refl below c.index-node.ensures in
    let here : slice_get nodes c.open.at ≡ Some node = slice_get-map now c.open.nodes.items c.open.at ∙ ap (option_map now) read in
    let step = gathered_step c.args.set.now new nodes c.open.at node here c.open.invariant.gathered in
    let longer : length (map now c.add_parents.new.nodes.items) ≡ length c.add_parents.new.nodes.items = length-map c.add_parents.new.nodes.items now in
    let long : length nodes ≡ length c.open.nodes.items = length-map c.open.nodes.items now in
    let grows : length nodes ≤ length (map now c.add_parents.new.nodes.items) = subst (λ xs. length nodes ≤ length xs) (sym c.in_ok-add_parents.ensures.nodes) step.1 in
    record {
      numbered = c.in_ok-add_parents.ensures.numbered;
      gathered = subst (λ xs. IsGathered c.args.set.now new xs (c.open.at + 1)) (sym c.in_ok-add_parents.ensures.nodes) step.0;
      within = omega (arith, below, longer, long, grows);
    }

pub returns-clause-gathered : goal.returns-clause-gathered
returns-clause-gathered c =
    let same : c.open.at ≡ length c.open.nodes.items = let low : c.open.at ≤ length c.open.nodes.items = c.open.invariant.within in omega (arith, c.open-test.false, low) in
    subst (IsGathered c.args.set.now (map (λ u. u.interface) c.args.new.now) (map (λ n. n.now) c.open.nodes.items)) same c.open.invariant.gathered
