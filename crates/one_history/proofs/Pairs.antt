-- Where two passes made one call each, and one was told of the other's, the history is these two calls.
use Rattle.std.proofs.Common.{◌≡◌, ℕ, zero, suc, ◌+◌, ◌≤◌, ◌⊎◌, List, [], ◌∷◌, ◌++◌, Bool, true, false, if◌then◌else◌, length, sym, refl, ap, ◌∙◌, subst, inl, inr, ⊎_elim, arith, le_refl, length-append}
use Rattle.std.specs.Prelude.{Contains, Any}
use mathlib.Core.Option.{some, some-injective}
use mathlib.Core.List.{IsPrefix}
use lib.ListN.{get_elem?}
use Rattle.one_history.specs.declared.history.Entry.{Entry}
use Rattle.one_history.specs.Histories.{state_after, IsHistory, is_same, own, GrowsByOthers, GrowsByCall, entry}
use Rattle.one_history.specs.declared.shared.Pass.{Pass}
use Rattle.one_history.specs.Machinery.Rules.{StandsIn}
use Rattle.one_history.specs.Passes.{seen, number, IsWholeHistory}
use Rattle.one_history.proofs.Places.{has_one}
use Rattle.one_history.proofs.Closing.{has_contains, contains_has, any_has}
use Rattle.one_history.proofs.Growth.{own_mine, own_of_others, own_of_call}

module _ {A R : Type 0} where
  skip_le : (b : Bool) (e : Entry A R) (es : List (Entry A R)) → length es ≤ length (if b then e ∷ es else es)
  skip_le true e es = omega arith
  skip_le false e es = le_refl (length es)

  count_own : (a b : List ℕ) (log : List (Entry A R)) → ((e : Entry A R) → StandsIn log e → (e.number ≡ a) ⊎ (e.number ≡ b)) → length log ≤ length (own a log) + length (own b log)
  count_own a b [] each = omega arith
  count_own a b (e ∷ es) each =
      let rest : length es ≤ length (own a es) + length (own b es) = count_own a b es (λ x h. each x (suc h.0, h.1)) in
      let la : length (own a es) ≤ length (own a (e ∷ es)) = skip_le (is_same e.number a) e (own a es) in
      let lb : length (own b es) ≤ length (own b (e ∷ es)) = skip_le (is_same e.number b) e (own b es) in
      ⊎_elim
      (λ (is : e.number ≡ a). let m : length (own a (e ∷ es)) ≡ length (e ∷ own a es) = ap length (own_mine a e es is) in omega arith)
      (λ (is : e.number ≡ b). let m : length (own b (e ∷ es)) ≡ length (e ∷ own b es) = ap length (own_mine b e es is) in omega arith)
      (each e (0, refl))

  nothing : (xs : List (Entry A R)) → length xs ≡ 0 → xs ≡ []
  nothing [] e = refl
  nothing (x ∷ xs) e = absurd (omega arith)

  pub only_two : (a b : List ℕ) (x y : A) (r u : R) (none p q q' log : List (Entry A R)) → none ≡ [] → GrowsByCall a x r none p → IsPrefix p q → GrowsByCall b y u q q' → IsPrefix q' log
      → own a log ≡ entry x r a ∷ [] → own b log ≡ entry y u b ∷ [] → ((e : Entry A R) → StandsIn log e → (e.number ≡ a) ⊎ (e.number ≡ b))
      → log ≡ entry x r a ∷ entry y u b ∷ []
  only_two a b x y r u none p q q' log empty g pre h post mine yours each =
      let e1 : Entry A R = entry x r a in
      let e2 : Entry A R = entry y u b in
      let short : length log ≤ length (own a log) + length (own b log) = count_own a b log each in
      let la : length (own a log) ≡ 1 = ap length mine in
      let lb : length (own b log) ≡ 1 = ap length yours in
      let whole : log ≡ ((((g.0 ++ e1 ∷ []) ++ pre.0) ++ h.0) ++ e2 ∷ []) ++ post.0 =
      sym post.1 ∙ ap (λ (z : List (Entry A R)). z ++ post.0) (h.1 ∙ ap (λ (z : List (Entry A R)). (z ++ h.0) ++ e2 ∷ []) (sym pre.1 ∙ ap (λ (z : List (Entry A R)). z ++ pre.0) (g.1 ∙ ap (λ (z : List (Entry A R)). (z ++ g.0) ++ e1 ∷ []) empty))) in
      let len : length log ≡ ((((length g.0 + 1) + length pre.0) + length h.0) + 1) + length post.0 =
      ap length whole ∙ omega (arith, length-append ((((g.0 ++ e1 ∷ []) ++ pre.0) ++ h.0) ++ e2 ∷ []) post.0, length-append (((g.0 ++ e1 ∷ []) ++ pre.0) ++ h.0) (e2 ∷ []), length-append ((g.0 ++ e1 ∷ []) ++ pre.0) h.0, length-append (g.0 ++ e1 ∷ []) pre.0, length-append g.0 (e1 ∷ [])) in
      let n1 : g.0 ≡ [] = nothing g.0 (omega arith) in
      let n2 : pre.0 ≡ [] = nothing pre.0 (omega arith) in
      let n3 : h.0 ≡ [] = nothing h.0 (omega arith) in
      let n4 : post.0 ≡ [] = nothing post.0 (omega arith) in
      whole ∙ (λ i. ((((n1 i ++ e1 ∷ []) ++ n2 i) ++ n3 i) ++ e2 ∷ []) ++ n4 i)

module _ {X : Type 0} where
  two_at : (x y z : X) (k : ℕ) → get_elem? (x ∷ y ∷ []) k ≡ some z → (x ≡ z) ⊎ (y ≡ z)
  two_at x y z zero e = inl (some-injective x z e)
  two_at x y z (suc k) e = inr (has_one y z (k, e))

  -- an element of a pair is one of the two
  pub one_of_two : (x y z : X) → Contains (x ∷ y ∷ []) z → (x ≡ z) ⊎ (y ≡ z)
  one_of_two x y z h = let k = contains_has (x ∷ y ∷ []) z h in two_at x y z k.0 k.1

  pub any_of_two : (P : X → Type 0) (x y : X) → Any P (x ∷ y ∷ []) → P x ⊎ P y
  any_of_two P x y h = let a = any_has P (x ∷ y ∷ []) h in ⊎_elim (λ (e : x ≡ a.0). inl (subst P (sym e) a.2)) (λ (e : y ≡ a.0). inr (subst P (sym e) a.2)) (two_at x y a.0 a.1.0 a.1.1)

module _ {O S A R : Type 0} (state : O → S) (sound : A → Type 0) (allowed : S → A → R → Type 0) (follows : S → A → R → S) where
  -- what a history of two calls says of its replies and of the last state
  pub pair_ends : (object last : O) (x y : A) (r u : R) (a b : List ℕ) (log : List (Entry A R)) → log ≡ entry x r a ∷ entry y u b ∷ [] → IsHistory sound allowed follows (state object) log → state last ≡ state_after follows (state object) log
      → allowed (state object) x r × allowed (follows (state object) x r) y u × (state last ≡ follows (follows (state object) x r) y u)
  pair_ends object last x y r u a b log is legal end = (
    (legal [] (entry x r a) (entry y u b ∷ []) is).1,
    (legal (entry x r a ∷ []) (entry y u b) [] is).1,
    end ∙ ap (state_after follows (state object)) is,
  )

  -- the first pass p asked and was told about before q asked
  pub asked_both : (object last : O) (x y : A) (r u : R) (p0 p1 p2 q0 q1 q2 : Pass O A R) (log : List (Entry A R))
      → seen p0 ≡ [] → seen q0 ≡ []
      → GrowsByCall (number p0) x r (seen p0) (seen p1) → number p1 ≡ number p0
      → GrowsByOthers (number p1) (seen p1) (seen p2) → number p2 ≡ number p1
      → GrowsByOthers (number q0) (seen q0) (seen q1) → number q1 ≡ number q0 → IsPrefix (seen p1) (seen q1)
      → GrowsByCall (number q1) y u (seen q1) (seen q2) → number q2 ≡ number q1
      → IsWholeHistory state sound allowed follows object (p2 ∷ q2 ∷ []) last log
      → allowed (state object) x r × allowed (follows (state object) x r) y u × (state last ≡ follows (follows (state object) x r) y u)
  asked_both object last x y r u p0 p1 p2 q0 q1 q2 log none none' g np1 gp np2 gq nq1 pre h nq2 w =
      let a : List ℕ = number p0 in
      let b : List ℕ = number q1 in
      let first = w.each p2 (has_contains (p2 ∷ q2 ∷ []) p2 (0, refl)) in
      let second = w.each q2 (has_contains (p2 ∷ q2 ∷ []) q2 (1, refl)) in
      let mine : own a log ≡ entry x r a ∷ [] =
      subst (λ (z : List ℕ). own z log ≡ own z (seen p2)) (np2 ∙ np1) first.1
      ∙ subst (λ (z : List ℕ). own z (seen p2) ≡ own z (seen p1)) np1 (own_of_others (number p1) (seen p1) (seen p2) gp)
      ∙ own_of_call a x r (seen p0) (seen p1) g
      ∙ ap (λ (z : List (Entry A R)). own a z ++ entry x r a ∷ []) none in
      let yours : own b log ≡ entry y u b ∷ [] =
      subst (λ (z : List ℕ). own z log ≡ own z (seen q2)) nq2 second.1
      ∙ own_of_call b y u (seen q1) (seen q2) h
      ∙ ap (λ (z : List (Entry A R)). z ++ entry y u b ∷ []) (subst (λ (z : List ℕ). own z (seen q1) ≡ own z (seen q0)) (sym nq1) (own_of_others (number q0) (seen q0) (seen q1) gq) ∙ ap (own b) none') in
      let each : (e : Entry A R) → StandsIn log e → (e.number ≡ a) ⊎ (e.number ≡ b) =
      λ e k. ⊎_elim (λ (t : number p2 ≡ e.number). inl (sym t ∙ np2 ∙ np1)) (λ (t : number q2 ≡ e.number). inr (sym t ∙ nq2))
      (any_of_two (λ (z : Pass O A R). number z ≡ e.number) p2 q2 (w.others e (has_contains log e k))) in
      pair_ends object last x y r u a b log (only_two a b x y r u (seen p0) (seen p1) (seen q1) (seen q2) log none g pre h second.0 mine yours each) w.legal w.state_is
