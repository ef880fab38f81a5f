-- The history and the passes, over steps that change who stands where.
use Rattle.std.proofs.Common.{◌≡◌, ◌≢◌, ℕ, ◌<◌, ◌⊎◌, List, [], ◌∷◌, ◌++◌, length, sym, refl, ap, ◌∙◌, subst, inl, inr, ⊎_elim, arith, length-append}
use mathlib.Core.Logic.{dite}
use mathlib.Core.List.{IsPrefix, head-eq_of_cons-eq, tail-eq_of_cons-eq}
use native.Mathlib.Decide.{ℕ_discrete}
use Rattle.one_history.specs.declared.history.Entry.{Entry}
use Rattle.one_history.specs.declared.history.Member.{Member}
use Rattle.one_history.specs.Histories.{IsHistory, GrowsByOthers}
use Rattle.one_history.specs.Machinery.Rules.{StandsIn, saw, grown, born, WasMade, Story}
use Rattle.one_history.proofs.Places.{has_append, has_right}
use Rattle.one_history.proofs.Growth.{own_absent, grow_none, grow_more}

module _ {O S A R : Type 0} (state : O → S) (sound : A → Type 0) (allowed : S → A → R → Type 0) (follows : S → A → R → S) (key : O) where
  abbrev Log : Type 0
  Log = List (Entry A R)

  abbrev Who : Type 1
  Who = ℕ → Member O A R → Type 0

  abbrev Tale : Log → Who → (Log → Type 0) → Type 0
  Tale log has told = Story state sound allowed follows key log has told

  -- the passes stand elsewhere
  pub story_moved : (log : Log) (has has' : Who) (told told' : Log → Type 0) (sigma : ℕ → ℕ)
      → ((j : ℕ) (m : Member O A R) → has' j m → (i : ℕ) × has i m × (j ≡ sigma i))
      → ((i : ℕ) (m : Member O A R) → has i m → has' (sigma i) m)
      → ((es : Log) → told' es → IsPrefix es log)
      → Tale log has told → Tale log has' told'
  story_moved log has has' told told' sigma back forth prefixes s = record {
    legal = s.legal;
    opened = λ j m h. let b = back j m h in s.opened b.0 m b.1;
    seen = λ j m h. let b = back j m h in s.seen b.0 m b.1;
    older = prefixes;
    apart = λ i j m n h k e. let b = back i m h in let c = back j n k in b.2 ∙ ap sigma (s.apart b.0 c.0 m n b.1 c.1 e) ∙ sym c.2;
    made = λ j m h. let b = back j m h in ⊎_elim (λ (e : m.number ≡ []). inl e)
        (λ (w : (i : ℕ) × (p : Member O A R) × (k : ℕ) × has i p × (m.number ≡ p.number ++ k ∷ []) × (k < p.made)). inr (sigma w.0, w.1, w.2, forth w.0 w.1 w.3, w.4, w.5)) (s.made b.0 m b.1);
    written = λ e h. let w = s.written e h in (sigma w.0, w.1, forth w.0 w.1 w.2, w.3);
    whole = let w = s.whole in (sigma w.0, w.1, forth w.0 w.1 w.2, w.3);
  }

  -- The pass m, alone in its seat, has seen all of the history, to which its own entries may have been added
  pub story_to : (log added : Log) (has has' : Who) (told told' : Log → Type 0) (id : ℕ) (m : Member O A R)
      → has id m
      → ((n : Member O A R) → has id n → m ≡ n)
      → ((j : ℕ) (n : Member O A R) → has' j n → ((j ≡ id) × (saw m (log ++ added) ≡ n)) ⊎ ((j ≢ id) × has j n))
      → ((j : ℕ) (n : Member O A R) → j ≢ id → has j n → has' j n)
      → has' id (saw m (log ++ added))
      → IsHistory sound allowed follows (state key) (log ++ added)
      → ((e : Entry A R) → StandsIn added e → e.number ≡ m.number)
      → ((es : Log) → told' es → IsPrefix es (log ++ added))
      → Tale log has told → Tale (log ++ added) has' told'
  story_to log added has has' told told' id m here only back forth there legal mine prefixes s =
      let was : (j : ℕ) (n : Member O A R) → has' j n → (p : Member O A R) × has j p × (p.number ≡ n.number) =
      λ j n h. ⊎_elim (λ (t : (j ≡ id) × (saw m (log ++ added) ≡ n)). (m, subst (λ (z : ℕ). has z m) (sym t.0) here, ap (λ (z : Member O A R). z.number) t.1)) (λ (t : (j ≢ id) × has j n). (n, t.1, refl)) (back j n h) in
      let now : (j : ℕ) (n : Member O A R) → has j n → (p : Member O A R) × has' j p × (p.number ≡ n.number) × (p.made ≡ n.made) =
      λ j n h. dite (ℕ_discrete j id)
      (λ (e : j ≡ id). let same : m ≡ n = only n (subst (λ (z : ℕ). has z n) e h) in (saw m (log ++ added), subst (λ (z : ℕ). has' z (saw m (log ++ added))) (sym e) there, ap (λ (z : Member O A R). z.number) same, ap (λ (z : Member O A R). z.made) same))
      (λ (ne : j ≢ id). (n, forth j n ne h, refl, refl)) in
      record {
        legal = legal;
        opened = λ j n h. ⊎_elim (λ (t : (j ≡ id) × (saw m (log ++ added) ≡ n)). ap (λ (z : Member O A R). z.opening) (sym t.1) ∙ s.opened id m here) (λ (t : (j ≢ id) × has j n). s.opened j n t.1) (back j n h);
        seen = λ j n h. ⊎_elim (λ (t : (j ≡ id) × (saw m (log ++ added) ≡ n)). subst (λ (z : Member O A R). GrowsByOthers z.number z.seen (log ++ added)) t.1 (grow_none m.number (log ++ added)))
            (λ (t : (j ≢ id) × has j n). grow_more n.number n.seen log added (s.seen j n t.1) (own_absent n.number added (λ e there. λ same. t.0 (s.apart j id n m t.1 here (sym same ∙ mine e there)))))
            (back j n h);
        older = prefixes;
        apart = λ i j n p h k e. let b = was i n h in let c = was j p k in s.apart i j b.0 c.0 b.1 c.1 (b.2 ∙ e ∙ sym c.2);
        made = λ j n h. let b = was j n h in ⊎_elim (λ (e : b.0.number ≡ []). inl (sym b.2 ∙ e))
            (λ (w : (i : ℕ) × (p : Member O A R) × (k : ℕ) × has i p × (b.0.number ≡ p.number ++ k ∷ []) × (k < p.made)). let c = now w.0 w.1 w.3 in
            inr (w.0, c.0, w.2, c.1, sym b.2 ∙ w.4 ∙ ap (λ (z : List ℕ). z ++ w.2 ∷ []) (sym c.2), subst (λ (z : ℕ). w.2 < z) (sym c.3) w.5))
            (s.made j b.0 b.1);
        written = λ e h. ⊎_elim (λ (t : StandsIn log e). let w = s.written e t in let c = now w.0 w.1 w.2 in (w.0, c.0, c.1, c.2 ∙ w.3)) (λ (t : StandsIn added e). (id, saw m (log ++ added), there, sym (mine e t))) (has_append log added e h);
        whole = (id, saw m (log ++ added), there, refl);
      }

  long_tail : (xs : List ℕ) (k : ℕ) → xs ++ k ∷ [] ≡ [] → ⊥
  long_tail xs k e = let l = ap length e in absurd (omega (arith, length-append xs (k ∷ [])))

  -- two lists that end alike
  last_number : (xs ys : List ℕ) (a b : ℕ) → xs ++ a ∷ [] ≡ ys ++ b ∷ [] → (xs ≡ ys) × (a ≡ b)
  last_number [] [] a b e = (refl, head-eq_of_cons-eq e)
  last_number [] (y ∷ ys) a b e = absurd (long_tail ys b (sym (tail-eq_of_cons-eq e)))
  last_number (x ∷ xs) [] a b e = absurd (long_tail xs a (tail-eq_of_cons-eq e))
  last_number (x ∷ xs) (y ∷ ys) a b e = let r = last_number xs ys a b (tail-eq_of_cons-eq e) in let head : x ≡ y = head-eq_of_cons-eq e in ((λ i. head i ∷ r.0 i), r.1)

  -- no pass has the number that the next split of m gives
  unborn : (log : Log) (has : Who) (told : Log → Type 0) (id : ℕ) (m : Member O A R) → has id m → ((n : Member O A R) → has id n → m ≡ n) → Tale log has told
      → (j : ℕ) (p : Member O A R) → has j p → p.number ≡ m.number ++ m.made ∷ [] → ⊥
  unborn log has told id m here only s j p h e = ⊎_elim (λ (z : p.number ≡ []). long_tail m.number m.made (sym e ∙ z))
      (λ (w : (i : ℕ) × (q : Member O A R) × (k : ℕ) × has i q × (p.number ≡ q.number ++ k ∷ []) × (k < q.made)).
      let ends : (w.1.number ≡ m.number) × (w.2 ≡ m.made) = last_number w.1.number m.number w.2 m.made (sym w.4 ∙ e) in
      let place : w.0 ≡ id = s.apart w.0 id w.1 m w.3 here ends.0 in
      let same : m ≡ w.1 = only w.1 (subst (λ (z : ℕ). has z w.1) place w.3) in
      let below : w.2 < m.made = subst (λ (z : Member O A R). w.2 < z.made) (sym same) w.5 in
      let is = ends.1 in
      absurd (omega arith))
      (s.made j p h)

  -- The pass m, alone in its seat, has split one off, which stands in a new seat
  pub story_split : (log : Log) (has has' : Who) (told told' : Log → Type 0) (id new : ℕ) (m : Member O A R)
      → has id m
      → ((n : Member O A R) → has id n → m ≡ n)
      → ((j : ℕ) (n : Member O A R) → has' j n → ((j ≡ id) × (grown m ≡ n)) ⊎ (((j ≡ new) × (born m ≡ n)) ⊎ ((j ≢ id) × has j n)))
      → ((j : ℕ) (n : Member O A R) → j ≢ id → has j n → has' j n)
      → has' id (grown m)
      → has' new (born m)
      → ((es : Log) → told' es → IsPrefix es log)
      → Tale log has told → Tale log has' told'
  story_split log has has' told told' id new m here only back forth there child prefixes s =
      let kind : (j : ℕ) (n : Member O A R) → has' j n → ((p : Member O A R) × has j p × (p.number ≡ n.number)) ⊎ ((j ≡ new) × (born m ≡ n)) =
      λ j n h. ⊎_elim (λ (t : (j ≡ id) × (grown m ≡ n)). inl (m, subst (λ (z : ℕ). has z m) (sym t.0) here, ap (λ (z : Member O A R). z.number) t.1))
      (λ (u : ((j ≡ new) × (born m ≡ n)) ⊎ ((j ≢ id) × has j n)). ⊎_elim (λ (t : (j ≡ new) × (born m ≡ n)). inr t) (λ (t : (j ≢ id) × has j n). inl (n, t.1, refl)) u)
      (back j n h) in
      let now : (j : ℕ) (n : Member O A R) → has j n → (p : Member O A R) × has' j p × (p.number ≡ n.number) × ((k : ℕ) → k < n.made → k < p.made) × (p.seen ≡ n.seen) =
      λ j n h. dite (ℕ_discrete j id)
      (λ (e : j ≡ id). let same : m ≡ n = only n (subst (λ (z : ℕ). has z n) e h) in (
        grown m,
        subst (λ (z : ℕ). has' z (grown m)) (sym e) there,
        ap (λ (z : Member O A R). z.number) same,
        (λ k l. let l' : k < m.made = subst (λ (z : Member O A R). k < z.made) (sym same) l in omega arith),
        ap (λ (z : Member O A R). z.seen) same,
      ))
      (λ (ne : j ≢ id). (n, forth j n ne h, refl, (λ k l. l), refl)) in
      let bare : (j : ℕ) (p : Member O A R) → has j p → p.number ≡ m.number ++ m.made ∷ [] → ⊥ = unborn log has told id m here only s in
      let carry : (number : List ℕ) → WasMade has number → WasMade has' number =
      λ number w. ⊎_elim (λ (e : number ≡ []). inl e)
      (λ (w : (i : ℕ) × (p : Member O A R) × (k : ℕ) × has i p × (number ≡ p.number ++ k ∷ []) × (k < p.made)). let c = now w.0 w.1 w.3 in
      inr (w.0, c.0, w.2, c.1, w.4 ∙ ap (λ (z : List ℕ). z ++ w.2 ∷ []) (sym c.2), c.3 w.2 w.5)) w in
      record {
        legal = s.legal;
        opened = λ j n h. ⊎_elim (λ (t : (j ≡ id) × (grown m ≡ n)). ap (λ (z : Member O A R). z.opening) (sym t.1) ∙ s.opened id m here)
            (λ (u : ((j ≡ new) × (born m ≡ n)) ⊎ ((j ≢ id) × has j n)). ⊎_elim (λ (t : (j ≡ new) × (born m ≡ n)). ap (λ (z : Member O A R). z.opening) (sym t.1) ∙ s.opened id m here) (λ (t : (j ≢ id) × has j n). s.opened j n t.1) u)
            (back j n h);
        seen = λ j n h. ⊎_elim (λ (t : (j ≡ id) × (grown m ≡ n)). subst (λ (z : Member O A R). GrowsByOthers z.number z.seen log) t.1 (s.seen id m here))
            (λ (u : ((j ≡ new) × (born m ≡ n)) ⊎ ((j ≢ id) × has j n)). ⊎_elim
            (λ (t : (j ≡ new) × (born m ≡ n)). let g = s.seen id m here in subst (λ (z : Member O A R). GrowsByOthers z.number z.seen log) t.1
            (g.0, g.1, own_absent (m.number ++ m.made ∷ []) g.0 (λ e in_it. λ same. let w = s.written e (subst (λ (z : Log). StandsIn z e) (sym g.1) (has_right m.seen g.0 e in_it)) in bare w.0 w.1 w.2 (w.3 ∙ same))))
            (λ (t : (j ≢ id) × has j n). s.seen j n t.1) u)
            (back j n h);
        older = prefixes;
        apart = λ i j n p h k e. ⊎_elim
            (λ (b : (q : Member O A R) × has i q × (q.number ≡ n.number)). ⊎_elim
            (λ (c : (q : Member O A R) × has j q × (q.number ≡ p.number)). s.apart i j b.0 c.0 b.1 c.1 (b.2 ∙ e ∙ sym c.2))
            (λ (c : (j ≡ new) × (born m ≡ p)). absurd (bare i b.0 b.1 (b.2 ∙ e ∙ ap (λ (z : Member O A R). z.number) (sym c.1))))
            (kind j p k))
            (λ (b : (i ≡ new) × (born m ≡ n)). ⊎_elim
            (λ (c : (q : Member O A R) × has j q × (q.number ≡ p.number)). absurd (bare j c.0 c.1 (c.2 ∙ sym e ∙ ap (λ (z : Member O A R). z.number) (sym b.1))))
            (λ (c : (j ≡ new) × (born m ≡ p)). b.0 ∙ sym c.0)
            (kind j p k))
            (kind i n h);
        made = λ j n h. ⊎_elim
            (λ (b : (q : Member O A R) × has j q × (q.number ≡ n.number)). subst (WasMade has') b.2 (carry b.0.number (s.made j b.0 b.1)))
            (λ (b : (j ≡ new) × (born m ≡ n)). inr (id, grown m, m.made, there, ap (λ (z : Member O A R). z.number) (sym b.1), omega arith))
            (kind j n h);
        written = λ e h. let w = s.written e h in let c = now w.0 w.1 w.2 in (w.0, c.0, c.1, c.2 ∙ w.3);
        whole = let w = s.whole in let c = now w.0 w.1 w.2 in (w.0, c.0, c.1, c.4 ∙ w.3);
      }
