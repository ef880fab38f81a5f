-- Where all passes have come back, the rule tells the whole history.
use Rattle.std.proofs.Common.{◌≡◌, ℕ, zero, suc, ◌+◌, ◌<◌, List, [], ◌∷◌, ◌++◌, length, get_or, sym, refl, ap, ◌∙◌, subst, ⊎_elim, arith, length-append, append-nil, append_assoc}
use Rattle.std.specs.Prelude.{Some, Contains, Any}
use Rattle.std.specs.declared.option.Option.{Option}
use mathlib.Core.Option.{Option as Home, some, some-injective, some-ne-none}
use mathlib.Core.List.{IsPrefix}
use lib.ListN.{get_elem?}
use Rattle.atomic_table.specs.Table.{State, Me}
use Rattle.atomic_table.proofs.Lists.{at_index}
use Rattle.one_history.specs.declared.history.Entry.{Entry}
use Rattle.one_history.specs.declared.history.Member.{Member}
use Rattle.one_history.specs.declared.history.Turn.{Turn}
use Rattle.one_history.specs.declared.history.Turn.TheVariants.{Idle, Waits, Serves}
use Rattle.one_history.specs.declared.history.View.{View}
use Rattle.one_history.specs.declared.shared.Pass.{Pass}
use Rattle.one_history.specs.Histories.{state_after, own}
use Rattle.one_history.specs.Machinery.Rules.{StandsIn, alone, Stands, IsServed, IsInTurn, Kept, AreApart}
use Rattle.one_history.specs.Passes.{seen, number, made, members_of, IsComplete, IsWholeHistory}
use Rattle.one_history.proofs.Places.{has_one, has_none, has_append, has_left, has_right, at_below, at_once}
use Rattle.one_history.proofs.Growth.{own_append}
use Rattle.one_history.proofs.Views.{stands_here}
use Rattle.one_history.proofs.Told.{me_seen, me_number, me_made}

module _ {X : Type 0} where
  read_at : (l : List X) (i : ℕ) (a d : X) → get_elem? l i ≡ some a → get_or l i d ≡ a
  read_at [] i a d e = absurd (some-ne-none a (sym e))
  read_at (x ∷ xs) zero a d e = some-injective x a e
  read_at (x ∷ xs) (suc i) a d e = read_at xs i a d e

  pub has_contains : (l : List X) (x : X) → StandsIn l x → Contains l x
  has_contains l x h = (h.0, at_below l x h.0 h.1, read_at l h.0 x x h.1)

  pub contains_has : (l : List X) (x : X) → Contains l x → StandsIn l x
  contains_has l x h = (h.0, at_index l h.0 x h.1 (sym h.2))

  pub has_any : (P : X → Type 0) (l : List X) (x : X) → StandsIn l x → P x → Any P l
  has_any P l x h p = (h.0, x, at_below l x h.0 h.1, read_at l h.0 x x h.1, p)

  pub any_has : (P : X → Type 0) (l : List X) → Any P l → (x : X) × StandsIn l x × P x
  any_has P l h = (h.1, (h.0, at_index l h.0 h.1 h.2 (sym h.3)), h.4)

module _ {O A R : Type 0} where
  one_member : (drawn serving : ℕ) (log : List (Entry A R)) (ms : List (Member O A R)) (turn : Turn) → IsInTurn drawn serving log ms turn → IsServed turn → (m : Member O A R) × (ms ≡ m ∷ [])
  one_member drawn serving log ms Idle i h = absurd h
  one_member drawn serving log ms (Waits t) i h = absurd h
  one_member drawn serving log ms (Serves t) i h = (i.2.0, i.2.1)

module _ {O S A R : Type 0} (state : O → S) (sound : A → Type 0) (allowed : S → A → R → Type 0) (follows : S → A → R → S) (key : O) where
  abbrev V : Type 0
  V = View O A R

  abbrev Rule : State (Option O) V → Type 0
  Rule = Kept state sound allowed follows key

  abbrev Root : List (Member O A R) → Type 0
  Root ms = (m : Member O A R) × StandsIn ms m × (m.number ≡ [])

  abbrev Kids : List (Member O A R) → Type 0
  Kids ms = (m : Member O A R) → StandsIn ms m → (k : ℕ) → k < m.made → (n : Member O A R) × StandsIn ms n × (n.number ≡ m.number ++ k ∷ [])

  -- each pass stands in the one seat
  all_here : (s : State (Option O) V) (r : Rule s) (id : ℕ) (v : V) → get_elem? s.views id ≡ some v → Root v.members → Kids v.members
      → (fuel j : ℕ) (m : Member O A R) → Stands s.views j m → length m.number < fuel → j ≡ id
  all_here s r id v at root kids zero j m h short = absurd (omega arith)
  all_here s r id v at root kids (suc fuel) j m h short = ⊎_elim
      (λ (e : m.number ≡ []). r.story.apart j id m root.0 h (v, at, root.1) (e ∙ sym root.2))
      (λ (w : (i : ℕ) × (q : Member O A R) × (k : ℕ) × Stands s.views i q × (m.number ≡ q.number ++ k ∷ []) × (k < q.made)).
      let len : length m.number ≡ length (w.1.number ++ w.2 ∷ []) = ap length w.4 in
      let place : w.0 ≡ id = all_here s r id v at root kids fuel w.0 w.1 w.3 (omega (arith, length-append w.1.number (w.2 ∷ []))) in
      let here : StandsIn v.members w.1 = stands_here s.views id v w.1 at (subst (λ (z : ℕ). Stands s.views z w.1) place w.3) in
      let n = kids w.1 here w.2 w.5 in
      r.story.apart j id m n.0 h (v, at, n.1) (w.4 ∙ sym n.2))
      (r.story.made j m h)

  here : (s : State (Option O) V) (r : Rule s) (id : ℕ) (v : V) → get_elem? s.views id ≡ some v → Root v.members → Kids v.members → (j : ℕ) (m : Member O A R) → Stands s.views j m → StandsIn v.members m
  here s r id v at root kids j m h = let place : j ≡ id = all_here s r id v at root kids (length m.number + 1) j m h (omega arith) in
      stands_here s.views id v m at (subst (λ (z : ℕ). Stands s.views z m) place h)

  -- the object is at home, in the state that the whole history leaves
  pub ends_home : (s : State (Option O) V) (r : Rule s) (id : ℕ) (v : V) → get_elem? s.views id ≡ some v → v.turn ≡ Idle → Root v.members → Kids v.members
      → (o : O) × (get_elem? s.homes 0 ≡ some (some (Some o))) × (state o ≡ state_after follows (state key) r.log)
  ends_home s r id v at calm root kids = ⊎_elim
      (λ (h : (o : O) × (r.slot ≡ some (Some o)) × (state o ≡ state_after follows (state key) r.log)).
      (h.0, ap (λ (l : List (Home (Option O))). get_elem? l 0) r.homes ∙ ap (λ (z : Home (Option O)). some z) h.1, h.2))
      (λ (h : (j : ℕ) × (d : V) × (get_elem? s.views j ≡ some d) × IsServed d.turn).
      let m = one_member r.drawn r.serving r.log h.1.members h.1.turn (r.queue.turns h.0 h.1 h.2) h.3 in
      let stands : Stands s.views h.0 m.0 = (h.1, h.2, subst (λ (z : List (Member O A R)). StandsIn z m.0) (sym m.1) (0, refl)) in
      let place : h.0 ≡ id = all_here s r id v at root kids (length m.0.number + 1) h.0 m.0 stands (omega arith) in
      let same : h.1 ≡ v = at_once s.views h.1 v id (subst (λ (z : ℕ). get_elem? s.views z ≡ some h.1) place h.2) at in
      absurd (subst IsServed calm (subst (λ (z : V). IsServed z.turn) same h.3)))
      r.queue.home

  -- what was known of the passes when they came
  abbrev pub Owns : List (Pass O A R) → Type 0
  Owns ps = (p : Pass O A R) → StandsIn ps p → (m : Member O A R) × (p.seat.me ≡ (alone m, []))

  member_in : (ps : List (Pass O A R)) (p : Pass O A R) (m : Member O A R) (k : ℕ) → get_elem? ps k ≡ some p → p.seat.me ≡ (alone m, []) → StandsIn (members_of ps) m
  member_in [] p m k e is = absurd (some-ne-none p (sym e))
  member_in (q ∷ qs) p m zero e is = has_left q.seat.me.0.members (members_of qs) m (subst (λ (z : List (Member O A R)). StandsIn z m) (sym (ap (λ (z : Pass O A R). z.seat.me.0.members) (some-injective q p e) ∙ ap (λ (z : Me (Option O) V). z.0.members) is)) (0, refl))
  member_in (q ∷ qs) p m (suc k) e is = has_right q.seat.me.0.members (members_of qs) m (member_in qs p m k e is)

  pass_of : (ps : List (Pass O A R)) → Owns ps → (m : Member O A R) → StandsIn (members_of ps) m → (p : Pass O A R) × StandsIn ps p × (p.seat.me ≡ (alone m, []))
  pass_of [] owns m h = absurd (has_none m h)
  pass_of (q ∷ qs) owns m h = ⊎_elim
      (λ (t : StandsIn q.seat.me.0.members m). let o = owns q (0, refl) in
      let same : o.0 ≡ m = has_one o.0 m (subst (λ (z : List (Member O A R)). StandsIn z m) (ap (λ (z : Me (Option O) V). z.0.members) o.1) t) in
      (q, (0, refl), o.1 ∙ ap (λ (z : Member O A R). (alone z, [])) same))
      (λ (t : StandsIn (members_of qs) m). let r = pass_of qs (λ p k. owns p (suc k.0, k.1)) m t in (r.0, (suc r.1.0, r.1.1), r.2))
      (has_append q.seat.me.0.members (members_of qs) m h)

  pub root_of : (ps : List (Pass O A R)) → Owns ps → IsComplete ps → Root (members_of ps)
  root_of ps owns all = let p = any_has (λ (q : Pass O A R). number q ≡ []) ps all.0 in let m = owns p.0 p.1 in
      (m.0, member_in ps p.0 m.0 p.1.0 p.1.1 m.1, sym (me_number m.0 p.0.seat.me m.1) ∙ p.2)

  pub kids_of : (ps : List (Pass O A R)) → Owns ps → IsComplete ps → Kids (members_of ps)
  kids_of ps owns all m h k below =
      let p = pass_of ps owns m h in
      let below' : k < made p.0 = subst (λ (z : ℕ). k < z) (sym (me_made m p.0.seat.me p.2)) below in
      let q = any_has (λ (z : Pass O A R). number z ≡ number p.0 ++ k ∷ []) ps (all.1 p.0 (has_contains ps p.0 p.1) k below') in
      let n = owns q.0 q.1 in
      (n.0, member_in ps q.0 n.0 q.1.0 q.1.1 n.1, sym (me_number n.0 q.0.seat.me n.1) ∙ q.2 ∙ ap (λ (z : List ℕ). z ++ k ∷ []) (me_number m p.0.seat.me p.2))

  -- a pass and its member stand at one place
  member_at : (ps : List (Pass O A R)) → Owns ps → (k : ℕ) (p : Pass O A R) (m : Member O A R) → get_elem? ps k ≡ some p → p.seat.me ≡ (alone m, []) → get_elem? (members_of ps) k ≡ some m
  member_at [] owns k p m e is = absurd (has_none p (k, e))
  member_at (q ∷ qs) owns zero p m e is = subst (λ (z : List (Member O A R)). get_elem? (z ++ members_of qs) zero ≡ some m)
      (sym (ap (λ (z : Pass O A R). z.seat.me.0.members) (some-injective q p e) ∙ ap (λ (z : Me (Option O) V). z.0.members) is)) refl
  member_at (q ∷ qs) owns (suc k) p m e is = let o = owns q (0, refl) in subst (λ (z : List (Member O A R)). get_elem? (z ++ members_of qs) (suc k) ≡ some m)
      (sym (ap (λ (z : Me (Option O) V). z.0.members) o.1)) (member_at qs (λ r h. owns r (suc h.0, h.1)) k p m e is)

  pub ends_whole : (ps : List (Pass O A R)) → Owns ps → IsComplete ps → (s : State (Option O) V) (r : Rule s) (id : ℕ) (v : V) → get_elem? s.views id ≡ some v → v.members ≡ members_of ps
      → (o : O) → state o ≡ state_after follows (state key) r.log → IsWholeHistory state sound allowed follows key ps o r.log
  ends_whole ps owns all s r id v at is o right =
      let root : Root v.members = subst Root (sym is) (root_of ps owns all) in
      let kids : Kids v.members = subst Kids (sym is) (kids_of ps owns all) in
      let found : (j : ℕ) (m : Member O A R) → Stands s.views j m → (p : Pass O A R) × StandsIn ps p × (p.seat.me ≡ (alone m, [])) =
      λ j m h. pass_of ps owns m (subst (λ (z : List (Member O A R)). StandsIn z m) is (here s r id v at root kids j m h)) in
      record {
        legal = r.story.legal;
        state_is = right;
        longest = let w = r.story.whole in let p = found w.0 w.1 w.2 in has_any (λ (z : Pass O A R). seen z ≡ r.log) ps p.0 p.1 (me_seen w.1 p.0.seat.me p.2 ∙ w.3);
        each = λ p h. let k = contains_has ps p h in let m = owns p k in
            let g = r.story.seen id m.0 (v, at, subst (λ (z : List (Member O A R)). StandsIn z m.0) (sym is) (member_in ps p m.0 k.0 k.1 m.1)) in
            let sees : m.0.seen ≡ seen p = sym (me_seen m.0 p.seat.me m.1) in
            let name : m.0.number ≡ number p = sym (me_number m.0 p.seat.me m.1) in
            let mine : own m.0.number r.log ≡ own m.0.number m.0.seen = ap (own m.0.number) g.1 ∙ own_append m.0.number m.0.seen g.0 ∙ ap (λ (z : List (Entry A R)). own m.0.number m.0.seen ++ z) g.2 ∙ append-nil (own m.0.number m.0.seen) in
            subst (λ (z : List (Entry A R) × List ℕ). IsPrefix z.0 r.log × (own z.1 r.log ≡ own z.1 z.0)) (λ i. (sees i, name i)) ((g.0, sym g.1), mine);
        others = λ e h. let w = r.story.written e (contains_has r.log e h) in let p = found w.0 w.1 w.2 in has_any (λ (z : Pass O A R). number z ≡ e.number) ps p.0 p.1 (me_number w.1 p.0.seat.me p.2 ∙ w.3);
        numbers = λ i j p q e f same. let m = owns p (i, e) in let n = owns q (j, f) in
            subst AreApart is (r.once id v at) i j m.0 n.0 (member_at ps owns i p m.0 e m.1) (member_at ps owns j q n.0 f n.1) (sym (me_number m.0 p.seat.me m.1) ∙ same ∙ me_number n.0 q.seat.me n.1);
      }

  -- the seats of two rows of passes
  pub members_append : (ps : List (Pass O A R)) (p : Pass O A R) → members_of (ps ++ p ∷ []) ≡ members_of ps ++ p.seat.me.0.members
  members_append [] p = append-nil p.seat.me.0.members
  members_append (q ∷ qs) p = ap (λ (z : List (Member O A R)). q.seat.me.0.members ++ z) (members_append qs p) ∙ sym (append_assoc q.seat.me.0.members (members_of qs) p.seat.me.0.members)

  -- what stood in the row stands in the one with another at its end
  pub contains_longer : (ps : List (Pass O A R)) (p q : Pass O A R) → Contains ps q → Contains (ps ++ p ∷ []) q
  contains_longer ps p q h = has_contains (ps ++ p ∷ []) q (has_left ps (p ∷ []) q (contains_has ps q h))

  pub contains_last : (ps : List (Pass O A R)) (p : Pass O A R) → Contains (ps ++ p ∷ []) p
  contains_last ps p = has_contains (ps ++ p ∷ []) p (has_right ps (p ∷ []) p (0, refl))

  -- the slot of the closed table has the object, and the history is whole
  pub closes : (ps : List (Pass O A R)) → Owns ps → IsComplete ps → (s : State (Option O) V) → Rule s → (id : ℕ) (v : V) → get_elem? s.views id ≡ some v → v.members ≡ members_of ps → v.turn ≡ Idle
      → (xs : List (Option O)) → ((k : ℕ) (y : Option O) → get_elem? s.homes k ≡ some (some y) → get_elem? xs k ≡ some y) → (x : Option O) → get_elem? xs 0 ≡ some x
      → (log : List (Entry A R)) × (o : O) × (x ≡ Some o) × IsWholeHistory state sound allowed follows key ps o log
  closes ps owns all s r id v at is calm xs kept x there =
      let h = ends_home s r id v at calm (subst Root (sym is) (root_of ps owns all)) (subst Kids (sym is) (kids_of ps owns all)) in
      (r.log, h.0, some-injective x (Some h.0) (sym there ∙ kept 0 (Some h.0) h.1), ends_whole ps owns all s r id v at is h.0 h.2)
