use Rattle.std.proofs.Common.{◌≡◌, ℕ, ◌+◌, ◌-◌, ◌<◌, ◌≤◌, List, [], ◌++◌, length, take, drop, get_or, Option, None, replicate, rules, length-append, refl, sym, ap, ◌∙◌, subst, arith}
use Rattle.std.specs.List.{AllByRecursion}
use Rattle.std.proofs.Math.Seq.{take-length}
use Rattle.extend_resolve.specs.Machinery.Links.{IsIn, links_at}
use Rattle.extend_resolve.specs.Machinery.Deepening.{IsDeepening, Grows, IsTried, LeadBack}
use Rattle.extend_resolve.proofs.Opening.{in_at, all_from, same_within}
use Rattle.extend_resolve.proofs.Deepening.{given_back, deepening_begins, deepening_fits, ended_below, first_tried, rise_step, depths_told}
use Rattle.extend_resolve.proofs.depths.depths.Goals as goal

pub numbers-init : goal.numbers-init
numbers-init c =
    let all : c.in_ok-depths.depths.items ≡ replicate (length c.args.links.now) None = c.in_ok-depths.ensures.items_if_clones_equal (λ y h. search rules) in
    let long : length c.in_ok-depths.depths.items ≡ length c.args.links.now = omega (arith, c.in_ok-depths.ensures.len, c.in_ok-depths.depths.ok.0) in
    record {
      so_far = subst (IsDeepening c.args.links.now c.in_ok-depths.depths.items) (sym c.new-ended.ensures.items) (deepening_begins c.args.links.now c.in_ok-depths.depths.items all long);
      tried = λ x low. absurd (omega (arith, low));
    }

pub numbers-preserved : goal.numbers-preserved
numbers-preserved c =
    let was : List (Option ℕ) = c.numbers.depths.items in
    let long : length c.end.new.depths ≡ length was = c.in_ok-end.ensures.so_far.same ∙ sym c.numbers.invariant.so_far.same in
    let back : take c.numbers.depths.len (c.end.new.depths ++ drop (length c.end.new.depths) was) ≡ c.end.new.depths =
    given_back c.numbers.depths.len c.end.new.depths was long (omega (arith, c.numbers.depths.ok.0)) in
    record {
      so_far = subst (λ xs. IsDeepening c.args.links.now xs c.end.new.ended.items) (sym back) c.in_ok-end.ensures.so_far;
      tried = first_tried c.args.links.now c.numbers.ended.items c.end.new.ended.items c.numbers.number c.in_ok-end.ensures.grows c.numbers.invariant.tried c.in_ok-end.ensures.tried;
    }

pub index-requires : goal.index-requires
index-requires c =
    let ended : List ℕ = c.ended.ended.items in
    let low : c.ended.at < length ended = omega (arith, c.ended-test.true, c.ended.ended.ok.0) in
    let number : c.index-number.result.now ≡ get_or ended c.ended.at 0 = c.index-number.ensures ∙ same_within ended c.ended.at c.index-number.result.now 0 low in
    let below : get_or ended c.ended.at 0 < length c.args.links.now =
    ended_below c.args.links.now c.ended.depths.items ended c.ended.invariant.so_far (get_or ended c.ended.at 0) (in_at ended c.ended.at 0 low) in
    omega (arith, number, below, c.in_ok-children.ensures.same, c.in_ok-children.children.ok.0)

pub end_all-requires-clause-below : goal.end_all-requires-clause-below
end_all-requires-clause-below c =
    let ended : List ℕ = c.ended.ended.items in
    let children : List (List ℕ) = c.in_ok-children.children.items in
    let low : c.ended.at < length ended = omega (arith, c.ended-test.true, c.ended.ended.ok.0) in
    let number : c.index-number.result.now ≡ get_or ended c.ended.at 0 = c.index-number.ensures ∙ same_within ended c.ended.at c.index-number.result.now 0 low in
    let below : get_or ended c.ended.at 0 < length c.args.links.now =
    ended_below c.args.links.now c.ended.depths.items ended c.ended.invariant.so_far (get_or ended c.ended.at 0) (in_at ended c.ended.at 0 low) in
    let inside : c.index-number.result.now < length children = omega (arith, number, below, c.in_ok-children.ensures.same) in
    let next : c.as_slice.result.now ≡ links_at children c.index-number.result.now =
    c.as_slice.ensures ∙ c.index.ensures ∙ same_within children c.index-number.result.now c.index.result.now [] inside in
    subst (AllByRecursion (λ x. x < length c.args.links.now)) (sym next)
    (all_from (λ x. x < length c.args.links.now) (links_at children c.index-number.result.now) (λ x here. c.in_ok-children.ensures.below c.index-number.result.now x here))

pub ended-smaller : goal.ended-smaller
ended-smaller c =
    let fits : length c.ended.ended.items ≤ length c.args.links.now = deepening_fits c.args.links.now c.ended.depths.items c.ended.ended.items c.ended.invariant.so_far in
    omega (arith, fits, c.ended-test.true, c.ended.ended.ok.0)

pub ended-preserved : goal.ended-preserved
ended-preserved c =
    let before : List ℕ = c.ended.ended.items in
    let now : List ℕ = c.end_all.new.ended.items in
    let children : List (List ℕ) = c.in_ok-children.children.items in
    let was : List (Option ℕ) = c.ended.depths.items in
    let long : length c.end_all.new.depths ≡ length was = c.in_ok-end_all.ensures.so_far.same ∙ sym c.ended.invariant.so_far.same in
    let back : take c.ended.depths.len (c.end_all.new.depths ++ drop (length c.end_all.new.depths) was) ≡ c.end_all.new.depths =
    given_back c.ended.depths.len c.end_all.new.depths was long (omega (arith, c.ended.depths.ok.0)) in
    let low : c.ended.at < length before = omega (arith, c.ended-test.true, c.ended.ended.ok.0) in
    let number : c.index-number.result.now ≡ get_or before c.ended.at 0 = c.index-number.ensures ∙ same_within before c.ended.at c.index-number.result.now 0 low in
    let below : get_or before c.ended.at 0 < length c.args.links.now =
    ended_below c.args.links.now was before c.ended.invariant.so_far (get_or before c.ended.at 0) (in_at before c.ended.at 0 low) in
    let inside : c.index-number.result.now < length children = omega (arith, number, below, c.in_ok-children.ensures.same) in
    let next : c.as_slice.result.now ≡ links_at children (get_or before c.ended.at 0) =
    c.as_slice.ensures ∙ c.index.ensures ∙ same_within children c.index-number.result.now c.index.result.now [] inside ∙ ap (links_at children) number in
    let grows : Grows before now = c.in_ok-end_all.ensures.grows in
    let longer : length now ≡ length before + length grows.0 = ap length grows.1 ∙ length-append before grows.0 in
    let tried : AllByRecursion (IsTried c.args.links.now before now) (links_at children (get_or before c.ended.at 0)) =
    subst (AllByRecursion (IsTried c.args.links.now before now)) next c.in_ok-end_all.ensures.tried in
    record {
      so_far = subst (λ xs. IsDeepening c.args.links.now xs now) (sym back) c.in_ok-end_all.ensures.so_far;
      tried = rise_step c.args.links.now children c.in_ok-children.ensures before now c.ended.at low grows c.ended.invariant.tried tried;
      within = omega (arith, low, longer);
    }

pub returns : goal.returns
returns c =
    let ended : List ℕ = c.ended.ended.items in
    let within : c.ended.at ≤ length ended = c.ended.invariant.within in
    let whole : c.ended.at ≡ length ended = omega (arith, c.ended-test.false, c.ended.ended.ok.0, within) in
    depths_told c.args.links.now c.ended.depths.items ended c.ended.invariant.so_far c.requires.within
    (λ x low. subst (λ done. IsTried c.args.links.now done ended x) (ap (λ n. take n ended) whole ∙ take-length ended) (c.ended.invariant.tried x low))
