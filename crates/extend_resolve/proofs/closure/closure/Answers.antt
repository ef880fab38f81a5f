use Rattle.std.proofs.Common.{◌≡◌, ◌<◌, ℕ, ◌+◌, [], length, get_or, rules, refl, sym, ap, ◌∙◌, subst, length-append, arith}
use Rattle.std.specs.List.{AllByRecursion}
use Rattle.extend_resolve.specs.Machinery.Links.{IsIn, links_at, IsOpening, push_new, add_new}
use Rattle.extend_resolve.proofs.Opening.{opening_begins, opening_step, opening_fits, opening_ends, all_from, added, links_read}
use Rattle.extend_resolve.proofs.closure.closure.Goals as goal

pub open-init : goal.open-init
open-init c = record {
  opening = subst (λ xs. IsOpening c.args.links.now c.args.start xs 0) (sym (c.in_ok-add.ensures.found ∙ ap (λ xs. push_new xs c.args.start) c.new-found.ensures.items)) (opening_begins c.args.links.now c.args.start c.requires.start);
  marked = c.in_ok-add.ensures.marked;
  within = omega arith;
  bound = c.add.auto.marks ∙ c.requires.bound;
}

pub visit-requires-clause-below : goal.visit-requires-clause-below
visit-requires-clause-below c =
    let x : ℕ = get_or c.open.found.items c.open.at 0 in
    let next : c.as_slice.result.now ≡ links_at c.args.links.now x = links_read c.args.links.now c.args.start c.open.found.items c.open.at c.index-number.result.now c.index-links-number.result c.as_slice.result.now (omega (arith, c.open-test.true)) c.open.invariant.opening c.index-number.ensures c.index-links-number.is c.as_slice.ensures in
    subst (AllByRecursion (λ y. y < length c.open.marks)) (sym next)
    (all_from (λ y. y < length c.open.marks) (links_at c.args.links.now x) (λ y link. subst (λ n. y < n) (sym c.open.invariant.bound) (c.requires.within x y link)))

pub open-smaller : goal.open-smaller
open-smaller c = let fits = opening_fits c.args.links.now c.args.start c.open.found.items c.open.at c.open.invariant.opening in omega (arith, fits, c.open-test.true)

pub open-preserved : goal.open-preserved
open-preserved c =
    let x : ℕ = get_or c.open.found.items c.open.at 0 in
    let next : c.as_slice.result.now ≡ links_at c.args.links.now x = links_read c.args.links.now c.args.start c.open.found.items c.open.at c.index-number.result.now c.index-links-number.result c.as_slice.result.now (omega (arith, c.open-test.true)) c.open.invariant.opening c.index-number.ensures c.index-links-number.is c.as_slice.ensures in
    let found : c.visit.new.found.items ≡ add_new c.open.found.items (links_at c.args.links.now x) = c.in_ok-visit.ensures.found ∙ ap (add_new c.open.found.items) next in
    let low : c.open.at < length c.open.found.items = omega (arith, c.open-test.true) in
    let stepped : IsOpening c.args.links.now c.args.start (add_new c.open.found.items (links_at c.args.links.now x)) (c.open.at + 1) =
    opening_step c.args.links.now c.args.start c.open.found.items c.open.at 0 c.requires.within low c.open.invariant.opening in
    let more = added c.open.found.items (links_at c.args.links.now x) in
    let grows : length c.visit.new.found.items ≡ length c.open.found.items + length more.0 =
    ap length (found ∙ more.1) ∙ length-append c.open.found.items more.0 in
    record {
      opening = subst (λ xs. IsOpening c.args.links.now c.args.start xs (c.open.at + 1)) (sym found) stepped;
      marked = c.in_ok-visit.ensures.marked;
      within = omega (arith, low, grows);
      bound = c.visit.auto.marks ∙ c.open.invariant.bound;
    }

pub unmark-requires-clause-below : goal.unmark-requires-clause-below
unmark-requires-clause-below c =
    subst (λ n. AllByRecursion (λ y. y < n) c.as_slice-2.result.now) (sym c.open.invariant.bound)
    (subst (AllByRecursion (λ y. y < length c.args.links.now)) (sym c.as_slice-2.ensures.value) c.open.invariant.opening.below)

pub returns-clause-each : goal.returns-clause-each
returns-clause-each c =
    opening_ends c.args.links.now c.args.start c.open.found.items c.open.at (omega (arith, c.open-test.false)) c.open.invariant.opening
