-- The first of the breaches of one interface, as it is found.
use Rattle.std.proofs.Common.{◌≡◌, ◌≢◌, ◌↔◌, ℕ, ◌+◌, ◌<◌, ◌≤◌, ◌⊎◌, inl, inr, Bool, true, false, cond, Option, Some, None, refl, sym, ap, ◌∙◌, subst, true≢false, Ordering, Less, Equal, Greater, arith}
use Rattle.std.specs.Ordering.{nat_cmp, ordering_then, ordering_reverse, is_gt}
use Rattle.std.specs.Cmp.{IsTotalOrder}
use Rattle.std.specs.Cmp.Lexicographic.{slice_cmp}
use Rattle.std.proofs.lemmas.Bool.{cases_lt}
use Rattle.std.proofs.lemmas.Bool.Decides.{nat_tests}
use Rattle.std.proofs.lemmas.Cmp.{nat_list_cmp_total, nat_cmp_total, on_total, then_total, upto, tied_itself}
use Rattle.dtdl_terms.specs.declared.spot.Spot.{Spot}
use Rattle.dtdl_terms.specs.declared.spot.Spot.TheVariants as spots
use Rattle.dtdl_terms.specs.declared.uploaded.Uploaded.{Uploaded}
use Rattle.extend_resolve.specs.declared.first.Found.{Found}
use Rattle.extend_resolve.specs.declared.rule.SetRule.{SetRule}
use Rattle.extend_resolve.specs.Breaches.{set_rule_number, place_in}
use Rattle.extend_resolve.specs.Machinery.Firsts.{found_cmp, earlier_of, found_if, IsLeastFound, AtSpot}
use Rattle.extend_resolve.specs.Machinery.Judges.{OfParents, OfContents}

abbrev pub at : SetRule → Spot → Found
at r s = record { spot = s; rule = r }

gt_false : (o : Ordering) → o ≢ Greater → is_gt o ≡ false
gt_false Less h = refl
gt_false Equal h = refl
gt_false Greater h = absurd (h refl)

not_greater : (o : Ordering) → is_gt o ≡ false → o ≢ Greater
not_greater o h e = true≢false (sym (ap is_gt e) ∙ h)

gt_greater : (o : Ordering) → is_gt o ≡ true → o ≡ Greater
gt_greater Less h = absurd (true≢false (sym h))
gt_greater Equal h = absurd (true≢false (sym h))
gt_greater Greater h = refl

upto_numbers : (a b : ℕ) → a ≤ b → nat_cmp a b ≢ Greater
upto_numbers a b low = not_greater (nat_cmp a b) (grind (arith, nat_tests))

equal_then : (o p : Ordering) → o ≡ Equal → p ≢ Greater → ordering_then o p ≢ Greater
equal_then o p e h g = h (sym (ap (λ x. ordering_then x p) e) ∙ g)

module _ (u : Uploaded) where
  order : IsTotalOrder (found_cmp u)
  order = then_total (on_total (λ (f : Found). place_in u f.spot) nat_list_cmp_total) (on_total (λ (f : Found). set_rule_number f.rule) nat_cmp_total)

  chain : (f g h : Found) → found_cmp u f g ≢ Greater → found_cmp u g h ≢ Greater → found_cmp u f h ≢ Greater
  chain f g h low high = not_greater (found_cmp u f h) (upto order f g h (gt_false (found_cmp u f g) low) (gt_false (found_cmp u g h) high))

  turned : (f g : Found) → found_cmp u f g ≡ Greater → found_cmp u g f ≢ Greater
  turned f g e = not_greater (found_cmp u g f) (ap is_gt (order.antisymm g f ∙ ap ordering_reverse e))

  pub least_weaker : (P Q : SetRule → Spot → Type 0) (o : Option Found) → ((r : SetRule) (s : Spot) → P r s → Q r s) → ((r : SetRule) (s : Spot) → Q r s → P r s) → IsLeastFound u P o → IsLeastFound u Q o
  least_weaker P Q None f g least = λ r s q. least r s (g r s q)
  least_weaker P Q (Some x) f g least = (f x.rule x.spot least.0, λ r s q. least.1 r s (g r s q))

  pub earlier_least : (P Q : SetRule → Spot → Type 0) (a b : Option Found) → IsLeastFound u P a → IsLeastFound u Q b → IsLeastFound u (λ r s. P r s ⊎ Q r s) (earlier_of u a b)
  earlier_least P Q None None la lb = λ r s h. elim h [ inl p ↦ la r s p | inr q ↦ lb r s q ]
  earlier_least P Q None (Some g) la lb = (inr lb.0, λ r s h. elim h [ inl p ↦ absurd (la r s p) | inr q ↦ lb.1 r s q ])
  earlier_least P Q (Some f) None la lb = (inl la.0, λ r s h. elim h [ inl p ↦ la.1 r s p | inr q ↦ absurd (lb r s q) ])
  earlier_least P Q (Some f) (Some g) la lb =
      elim (is_gt (found_cmp u f g)) as (λ b. is_gt (found_cmp u f g) ≡ b → IsLeastFound u (λ r s. P r s ⊎ Q r s) (cond b (Some g) (Some f))) [
        | true ↦ λ e. (
          inr lb.0,
          λ r s h. elim h [
            | inl p ↦ chain g f (at r s) (turned f g (gt_greater (found_cmp u f g) e)) (la.1 r s p)
            | inr q ↦ lb.1 r s q
          ],
        )
        | false ↦ λ e. (
          inl la.0,
          λ r s h. elim h [
            | inl p ↦ la.1 r s p
            | inr q ↦ chain f g (at r s) (not_greater (found_cmp u f g) e) (lb.1 r s q)
          ],
        )
      ] refl

  same_place : (s : Spot) → slice_cmp nat_cmp (place_in u s) (place_in u s) ≡ Equal
  same_place s = tied_itself nat_list_cmp_total (place_in u s)

  -- a rule is the least at a place where it is broken and no rule with a lesser number is
  pub least_at : (P : SetRule → Spot → Type 0) (rule : SetRule) (spot : Spot) → P rule spot → ((r : SetRule) → P r spot → set_rule_number rule ≤ set_rule_number r) → IsLeastFound u (AtSpot P spot) (Some (at rule spot))
  least_at P rule spot broken low = (
    (refl, broken),
    λ r s h. subst (λ t. found_cmp u (at rule spot) (at r t) ≢ Greater) (sym h.0)
        (equal_then (slice_cmp nat_cmp (place_in u spot) (place_in u spot)) (nat_cmp (set_rule_number rule) (set_rule_number r)) (same_place spot)
        (upto_numbers (set_rule_number rule) (set_rule_number r) (low r (subst (P r) h.0 h.1)))),
  )

  pub none_at : (P : SetRule → Spot → Type 0) (spot : Spot) → ((r : SetRule) → P r spot → ⊥) → IsLeastFound u (AtSpot P spot) None
  none_at P spot never = λ r s h. never r (subst (P r) h.0 h.1)

  -- where a test tells whether a rule is broken, and no other can be at that place
  pub least_if : (P : SetRule → Spot → Type 0) (b : Bool) (rule : SetRule) (spot : Spot) → (b ≡ true) ↔ P rule spot → ((r : SetRule) → P r spot → r ≡ rule) → IsLeastFound u (AtSpot P spot) (found_if b rule spot)
  least_if P true rule spot tells alone = least_at P rule spot (tells.0 refl) (λ r h. let e = ap set_rule_number (alone r h) in omega (arith, e))
  least_if P false rule spot tells alone = none_at P spot (λ r h. true≢false (sym (tells.1 (subst (λ x. P x spot) (alone r h) h))))

-- ---- places one after another
pub below_or : (l n : ℕ) → l < n + 1 → (l ≡ n) ⊎ (l < n)
below_or l n low = elim (cases_lt l n) [ inl h ↦ inr h | inr h ↦ inl (omega (arith, h, low)) ]

module _ (P : SetRule → Spot → Type 0) where
  pub parents_more : (n : ℕ) (r : SetRule) (s : Spot) → OfParents P n r s ⊎ AtSpot P (spots.Parent n) r s → OfParents P (n + 1) r s
  parents_more n r s (inl (l, low, h)) = (l, omega (arith, low), h)
  parents_more n r s (inr h) = (n, omega arith, h)

  pub parents_less : (n : ℕ) (r : SetRule) (s : Spot) → OfParents P (n + 1) r s → OfParents P n r s ⊎ AtSpot P (spots.Parent n) r s
  parents_less n r s (l, low, h) =
      elim (below_or l n low) [
        | inl e ↦ inr (subst (λ k. AtSpot P (spots.Parent k) r s) e h)
        | inr less ↦ inl (l, less, h)
      ]

  pub contents_more : (n : ℕ) (r : SetRule) (s : Spot) → OfContents P n r s ⊎ AtSpot P (spots.ContentSchema n) r s → OfContents P (n + 1) r s
  contents_more n r s (inl (l, low, h)) = (l, omega (arith, low), h)
  contents_more n r s (inr h) = (n, omega arith, h)

  pub contents_less : (n : ℕ) (r : SetRule) (s : Spot) → OfContents P (n + 1) r s → OfContents P n r s ⊎ AtSpot P (spots.ContentSchema n) r s
  contents_less n r s (l, low, h) =
      elim (below_or l n low) [
        | inl e ↦ inr (subst (λ k. AtSpot P (spots.ContentSchema k) r s) e h)
        | inr less ↦ inl (l, less, h)
      ]
