use Rattle.std.proofs.Common.{◌≡◌, ◌+◌, length, sym, ap, ◌∙◌, subst, arith}
use Rattle.dtdl_terms.specs.declared.spot.Spot.TheVariants as spots
use Rattle.extend_resolve.specs.Machinery.Firsts.{IsLeastFound, AtSpot}
use Rattle.extend_resolve.specs.Machinery.Links.{links_at}
use Rattle.extend_resolve.specs.Machinery.Owners.{AreFresh}
use Rattle.extend_resolve.specs.Machinery.Judges.{Broken, OfParents, KnowsOwners}
use Rattle.extend_resolve.proofs.Members.{read_links}
use Rattle.extend_resolve.proofs.Owning.{names_length, fresh_names, later_fresh}
use Rattle.extend_resolve.proofs.Firsts.{earlier_least, least_weaker, parents_more, parents_less}
use Rattle.extend_resolve.proofs.Judging.{declared_below, own_names_below, owned_first, own_kept, ready_owners, ready_with, owned_with}
use Rattle.extend_resolve.proofs.judge.Judge.judge_parents.Goals as goal

pub index-requires : goal.index-requires
index-requires c =
    let low = declared_below c.args.self.now c.args.index c.args.uploaded.now c.requires.judging in
    let ok = c.args.self.now.names.declared.ok in
    omega (arith, low, ok)

pub add-requires : goal.add-requires
add-requires c =
    own_names_below c.args.self.now c.args.index c.args.uploaded.now c.requires.judging c.as_mut_slice.result.now c.as_slice.result.now
    (read_links c.args.self.now.names.declared.items c.args.index c.as_slice.result.now c.index.result.now (declared_below c.args.self.now c.args.index c.args.uploaded.now c.requires.judging) c.as_slice.ensures c.index.ensures)
    (ap length c.as_mut_slice.ensures.value ∙ c.requires.ready.owners_length)

pub parents-init : goal.parents-init
parents-init c =
    let j = c.args.self.now in
    let u = c.args.uploaded.now in
    let names : c.as_slice.result.now ≡ links_at j.names.declared.items c.args.index =
    read_links j.names.declared.items c.args.index c.as_slice.result.now c.index.result.now (declared_below j c.args.index u c.requires.judging) c.as_slice.ensures c.index.ensures in
    let size : length c.as_mut_slice.result.now ≡ j.names.bound = ap length c.as_mut_slice.ensures.value ∙ c.requires.ready.owners_length in
    let fresh : AreFresh c.as_mut_slice.result.now c.args.index (length j.new.now) = subst (λ os. AreFresh os c.args.index (length j.new.now)) (sym c.as_mut_slice.ensures.value) c.requires.ready.fresh in
    let same : length c.add.new.owners ≡ length c.args.scratch.now.owners.items = ap length c.add.ensures ∙ names_length c.args.index c.unwrap_or.result c.as_mut_slice.result.now c.as_slice.result.now ∙ ap length c.as_mut_slice.ensures.value in
    record {
      ready = ready_owners j c.args.scratch.now (c.args.index + 1) c.add.new.owners same
          c.requires.ready.marks_length c.requires.ready.owners_length c.requires.ready.composed_length c.requires.ready.composed c.requires.ready.marks
          (subst (λ os. AreFresh os (c.args.index + 1) (length j.new.now)) (sym c.add.ensures)
          (fresh_names c.args.index c.unwrap_or.result c.as_mut_slice.result.now c.as_slice.result.now (length j.new.now)
          (own_names_below j c.args.index u c.requires.judging c.as_mut_slice.result.now c.as_slice.result.now names size)
          (later_fresh c.as_mut_slice.result.now c.args.index (length j.new.now) fresh)));
      owned = λ low. owned_with j c.args.scratch.now c.args.index 0 u c.add.new.owners same
          (subst (λ os. KnowsOwners j os c.args.index u 0) (sym c.add.ensures)
          (owned_first j c.args.index u c.requires.judging c.as_mut_slice.result.now c.unwrap_or.result c.as_slice.result.now
          (own_kept j c.args.index u c.requires.judging c.unwrap_or.result c.args.own c.requires.own c.unwrap_or.ensures) names size fresh));
      least = λ r s h. absurd (omega (arith, h.1));
    }

pub parents-preserved : goal.parents-preserved
parents-preserved c =
    let u = c.args.uploaded.now in
    let at = c.parents.at in
    let same_owners : length c.judge_parent.new.owners ≡ length c.parents.scratch.owners.items = c.judge_parent.auto.owners ∙ ap length c.as_mut_slice-in-parents-2.ensures.value in
    record {
      ready = ready_with c.args.self.now c.parents.scratch (c.args.index + 1) c.judge_parent.new.marks c.judge_parent.new.owners
          (c.judge_parent.auto.marks ∙ ap length c.as_mut_slice-in-parents.ensures.value) same_owners
          c.parents.invariant.ready.marks_length c.parents.invariant.ready.owners_length c.parents.invariant.ready.composed_length c.parents.invariant.ready.composed
          c.in_ok-found.ensures.clear c.in_ok-found.ensures.fresh;
      owned = λ low. owned_with c.args.self.now c.parents.scratch c.args.index (at + 1) u c.judge_parent.new.owners same_owners (c.in_ok-found.ensures.owned low);
      least = subst (IsLeastFound u (OfParents (Broken c.args.self.now c.args.index u) (at + 1))) (sym c.earlier-first.ensures)
          (least_weaker u _ (OfParents (Broken c.args.self.now c.args.index u) (at + 1)) _
          (parents_more (Broken c.args.self.now c.args.index u) at) (parents_less (Broken c.args.self.now c.args.index u) at)
          (earlier_least u (OfParents (Broken c.args.self.now c.args.index u) at) (AtSpot (Broken c.args.self.now c.args.index u) (spots.Parent at)) c.parents.first c.in_ok-found.found c.parents.invariant.least c.in_ok-found.ensures.least));
    }

pub returns-clause-least : goal.returns-clause-least
returns-clause-least c =
    let same : c.parents.at ≡ length c.args.uploaded.now.interface.parents = omega (arith, c.parents-test.false, c.parents.auto.at-end, c.len-at-end.ensures) in
    subst (λ n. IsLeastFound c.args.uploaded.now (OfParents (Broken c.args.self.now c.args.index c.args.uploaded.now) n) c.parents.first) same c.parents.invariant.least
