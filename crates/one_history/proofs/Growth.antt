-- Histories that grow.
use Rattle.std.proofs.Common.{◌≡◌, ◌≢◌, ℕ, suc, ◌⊎◌, List, [], ◌∷◌, ◌++◌, Bool, true, false, if◌then◌else◌, sym, refl, ap, ◌∙◌, subst, inl, inr, ⊎_elim, arith, append-nil, append_assoc, length, length-append}
use mathlib.Core.List.{head-eq_of_cons-eq, tail-eq_of_cons-eq}
use Rattle.std.proofs.lemmas.Bool.Decides.{nat_tests}
use Rattle.one_history.specs.declared.history.Entry.{Entry}
use Rattle.one_history.specs.Histories.{state_after, IsHistory, is_same, own, GrowsByOthers, GrowsByCall, entry}
use Rattle.one_history.specs.Machinery.Rules.{StandsIn}

same_numbers : (xs ys : List ℕ) → is_same xs ys ≡ true → xs ≡ ys
same_numbers [] [] e = refl
same_numbers [] (y ∷ ys) e = grind arith
same_numbers (x ∷ xs) [] e = grind arith
same_numbers (x ∷ xs) (y ∷ ys) e =
    let both : (x ≡ y) × (is_same xs ys ≡ true) = grind (arith, nat_tests) in
    let rest : xs ≡ ys = same_numbers xs ys both.1 in
    (λ i. both.0 i ∷ rest i)

same_self : (n : List ℕ) → is_same n n ≡ true
same_self [] = refl
same_self (x ∷ xs) = let rest = same_self xs in grind (arith, nat_tests)

module _ {A R : Type 0} where
  own_step : (b : Bool) (e : Entry A R) (ls bs : List (Entry A R)) → (if b then e ∷ (ls ++ bs) else (ls ++ bs)) ≡ (if b then e ∷ ls else ls) ++ bs
  own_step true e ls bs = refl
  own_step false e ls bs = refl

  pub own_append : (n : List ℕ) (xs ys : List (Entry A R)) → own n (xs ++ ys) ≡ own n xs ++ own n ys
  own_append n [] ys = refl
  own_append n (e ∷ es) ys = ap (λ (z : List (Entry A R)). if is_same e.number n then e ∷ z else z) (own_append n es ys) ∙ own_step (is_same e.number n) e (own n es) (own n ys)

  skips : (b : Bool) (m n : List ℕ) (e : Entry A R) (es : List (Entry A R)) → is_same m n ≡ b → m ≢ n → (if b then e ∷ es else es) ≡ es
  skips true m n e es is apart = absurd (apart (same_numbers m n is))
  skips false m n e es is apart = refl

  pub own_absent : (n : List ℕ) (es : List (Entry A R)) → ((e : Entry A R) → StandsIn es e → e.number ≢ n) → own n es ≡ []
  own_absent n [] absent = refl
  own_absent n (e ∷ es) absent = skips (is_same e.number n) e.number n e (own n es) refl (absent e (0, refl)) ∙ own_absent n es (λ x h. absent x (suc h.0, h.1))

  pub grow_none : (n : List ℕ) (xs : List (Entry A R)) → GrowsByOthers n xs xs
  grow_none n xs = ([], sym (append-nil xs), refl)

  pub grow_more : (n : List ℕ) (xs ys zs : List (Entry A R)) → GrowsByOthers n xs ys → own n zs ≡ [] → GrowsByOthers n xs (ys ++ zs)
  grow_more n xs ys zs g none_own = (
    g.0 ++ zs,
    ap (λ (l : List (Entry A R)). l ++ zs) g.1 ∙ append_assoc xs g.0 zs,
    own_append n g.0 zs ∙ ap (λ (l : List (Entry A R)). l ++ own n zs) g.2 ∙ none_own,
  )

  -- both gaps, one after the other
  pub grow_twice : (n : List ℕ) (xs ys zs : List (Entry A R)) → GrowsByOthers n xs ys → GrowsByOthers n ys zs → GrowsByOthers n xs zs
  grow_twice n xs ys zs f g = subst (GrowsByOthers n xs) (sym g.1) (grow_more n xs ys g.0 f g.2)

  none_left : (bs : List (Entry A R)) (x : Entry A R) (after : List (Entry A R)) → [] ≡ bs ++ x ∷ after → ⊥
  none_left bs x after e = let l = ap length e in absurd (omega (arith, length-append bs (x ∷ after)))

  last_of : (log : List (Entry A R)) (e : Entry A R) (before : List (Entry A R)) (x : Entry A R) (after : List (Entry A R)) → log ++ e ∷ [] ≡ before ++ x ∷ after
      → ((log ≡ before) × (e ≡ x)) ⊎ ((rest : List (Entry A R)) × (log ≡ before ++ x ∷ rest))
  last_of [] e [] x after is = inl (refl, head-eq_of_cons-eq is)
  last_of [] e (b ∷ bs) x after is = absurd (none_left bs x after (tail-eq_of_cons-eq is))
  last_of (l ∷ ls) e [] x after is = inr (ls, ap (λ (z : Entry A R). z ∷ ls) (head-eq_of_cons-eq is))
  last_of (l ∷ ls) e (b ∷ bs) x after is = let head : l ≡ b = head-eq_of_cons-eq is in
      ⊎_elim (λ (h : (ls ≡ bs) × (e ≡ x)). inl ((λ i. head i ∷ h.0 i), h.1)) (λ (h : (rest : List (Entry A R)) × (ls ≡ bs ++ x ∷ rest)). inr (h.0, (λ i. head i ∷ h.1 i)))
      (last_of ls e bs x after (tail-eq_of_cons-eq is))

  -- an entry of the number is one of its own
  pub own_mine : (n : List ℕ) (e : Entry A R) (es : List (Entry A R)) → e.number ≡ n → own n (e ∷ es) ≡ e ∷ own n es
  own_mine n e es is = ap (λ b. if b then e ∷ own n es else own n es) (ap (λ (z : List ℕ). is_same z n) is ∙ same_self n)

  -- growth by others leaves the own entries
  pub own_of_others : (n : List ℕ) (before after : List (Entry A R)) → GrowsByOthers n before after → own n after ≡ own n before
  own_of_others n before after g = ap (own n) g.1 ∙ own_append n before g.0 ∙ ap (λ (z : List (Entry A R)). own n before ++ z) g.2 ∙ append-nil (own n before)

  -- a call is one more of them
  pub own_of_call : (n : List ℕ) (ask : A) (reply : R) (before after : List (Entry A R)) → GrowsByCall n ask reply before after → own n after ≡ own n before ++ entry ask reply n ∷ []
  own_of_call n ask reply before after g =
      let e : Entry A R = entry ask reply n in
      let one : own n (e ∷ []) ≡ e ∷ [] = ap (λ b. if b then e ∷ [] else []) (same_self n) in
      ap (own n) g.1 ∙ own_append n (before ++ g.0) (e ∷ []) ∙ (λ i. own_of_others n before (before ++ g.0) (g.0, refl, g.2) i ++ one i)

module _ {S A R : Type 0} (sound : A → Type 0) (allowed : S → A → R → Type 0) (follows : S → A → R → S) where
  pub history_none : (s : S) → IsHistory sound allowed follows s []
  history_none s before x after is = absurd (none_left before x after is)

  pub history_one : (s : S) (log : List (Entry A R)) (e : Entry A R) → IsHistory sound allowed follows s log → sound e.ask → allowed (state_after follows s log) e.ask e.reply → IsHistory sound allowed follows s (log ++ e ∷ [])
  history_one s log e legal may gives before x after is = ⊎_elim
      (λ (h : (log ≡ before) × (e ≡ x)). subst (λ (z : List (Entry A R) × Entry A R). sound z.1.ask × allowed (state_after follows s z.0) z.1.ask z.1.reply) (λ i. (h.0 i, h.1 i)) (may, gives))
      (λ (h : (rest : List (Entry A R)) × (log ≡ before ++ x ∷ rest)). legal before x h.0 h.1)
      (last_of log e before x after is)

  pub history_less : (s : S) (xs ys log : List (Entry A R)) → log ≡ xs ++ ys → IsHistory sound allowed follows s log → IsHistory sound allowed follows s xs
  history_less s xs ys log whole legal before x after is = legal before x (after ++ ys) (whole ∙ ap (λ (z : List (Entry A R)). z ++ ys) is ∙ append_assoc before (x ∷ after) ys)

  pub state_one : (s : S) (log : List (Entry A R)) (e : Entry A R) → state_after follows s (log ++ e ∷ []) ≡ follows (state_after follows s log) e.ask e.reply
  state_one s [] e = refl
  state_one s (x ∷ xs) e = state_one (follows s x.ask x.reply) xs e
