-- Each kind of step keeps the rule, and tells what it is to tell.
use Rattle.std.proofs.Common.{◌≡◌, ◌≢◌, ℕ, zero, suc, if◌then◌else◌, length-set, mod-eq_of_lt, ◌+◌, ◌%◌, ◌^◌, ◌<◌, eqb, List, [], ◌∷◌, ◌++◌, length, get_or, set, sym, refl, ap, ◌∙◌, subst, inl, inr, ⊎_elim, arith, append-nil, append_assoc, eq-eqb, ne_eqb}
use Rattle.std.specs.Prelude.{Some}
use Rattle.std.specs.declared.option.Option.{Option}
use mathlib.Core.Option.{Option as Home, none, some, some-injective, some-ne-none}
use mathlib.Core.Logic.{dite}
use mathlib.Core.List.{IsPrefix, head-eq_of_cons-eq}
use native.Mathlib.Decide.{ℕ_discrete}
use lib.ListN.{get_elem?}
use lib.Seq.{set-get_or}
use prog.Atomic.{either}
use Rattle.atomic_table.specs.Table.{State, Me, step, opening, keeps, takes, gives, stepped, Allows, Splits, Joins}
use Rattle.atomic_table.proofs.Lists.{at_set, set_else, set_again, at_longer}
use Rattle.one_history.specs.declared.history.Entry.{Entry}
use Rattle.one_history.specs.declared.history.Member.{Member}
use Rattle.one_history.specs.declared.history.Turn.{Turn}
use Rattle.one_history.specs.declared.history.Turn.TheVariants.{Idle, Waits, Serves}
use Rattle.one_history.specs.declared.history.View.{View}
use Rattle.one_history.specs.Histories.{state_after, IsHistory, GrowsByOthers, entry}
use Rattle.one_history.specs.Machinery.Rules.{StandsIn, newcomer, saw, view, alone, grown, born, spent, merged, Stands, WasTold, IsInTurn, Story, Queue, Kept, AreApart}
use Rattle.one_history.specs.Machinery.Plays.{drew, entered, left, Learns, awaited, looked, checked}
use Rattle.one_history.proofs.Places.{has_one, has_none, has_append, has_left, has_right, end_at, at_once}
use Rattle.one_history.proofs.Growth.{grow_none, history_none, history_one, history_less, state_one}
use Rattle.one_history.proofs.Stories.{story_moved, story_to, story_split}
use Rattle.one_history.proofs.Views.{stands_set, set_stands, put_stands, stands_here, told_set, stands_end, longer_stands, end_stands, told_end}
use Rattle.one_history.proofs.Once.{none_apart, one_apart, both_apart, once_set, once_end}
use Rattle.one_history.proofs.Queues.{queue_calm, queue_draw, queue_take, queue_move}

abbrev ticket_of : Turn → ℕ
ticket_of Idle = 0
ticket_of (Waits t) = t
ticket_of (Serves t) = t

abbrev first_saw : {O A R : Type 0} → List (Member O A R) → Entry A R → View O A R
first_saw [] e = spent
first_saw (m ∷ ms) e = alone (saw m (m.seen ++ entry e.ask e.reply m.number ∷ []))

module _ {O S A R : Type 0} (state : O → S) (sound : A → Type 0) (allowed : S → A → R → Type 0) (follows : S → A → R → S) (key : O) where
  abbrev V : Type 0
  V = View O A R

  abbrev Log : Type 0
  Log = List (Entry A R)

  abbrev M : Type 0
  M = Me (Option O) V

  abbrev St : Type 0
  St = State (Option O) V

  abbrev Rule : St → Type 0
  Rule = Kept state sound allowed follows key

  -- a step that changes nothing
  unmoved : (s : St) (i id : ℕ) (cs : List (ℕ × Option O)) (v : V) → get_elem? s.views id ≡ some v → Rule s → Rule (stepped s i (get_or s.words i 0) id cs v keeps)
  unmoved s i id cs v at r = subst (λ (z : List ℕ × List V). Rule record { words = z.0; homes = s.homes; views = z.1 }) (λ k. (sym (set-get_or s.words i 0) k, sym (set_again s.views id v at) k)) r

  -- the view of one pass is replaced by one of the same pass, which was told nothing
  same_pass : (log : Log) (views : List V) (id : ℕ) (v w : V) (m : Member O A R) → get_elem? views id ≡ some v → v.members ≡ m ∷ [] → w.members ≡ m ∷ [] → w.older ≡ []
      → Story state sound allowed follows key log (Stands views) (WasTold views) → Story state sound allowed follows key log (Stands (set views id w)) (WasTold (set views id w))
  same_pass log views id v w m at one one' silent story = story_moved state sound allowed follows key log (Stands views) (Stands (set views id w)) (WasTold views) (WasTold (set views id w)) (λ j. j)
      (λ j n h. ⊎_elim (λ (t : (j ≡ id) × StandsIn w.members n). (j, subst (λ (z : ℕ). Stands views z n) (sym t.0) (v, at, subst (λ (z : List (Member O A R)). StandsIn z n) (one' ∙ sym one) t.1), refl)) (λ (t : (j ≢ id) × Stands views j n). (j, t.1, refl)) (stands_set views id w j n h))
      (λ j n h. dite (ℕ_discrete j id)
      (λ (e : j ≡ id). subst (λ (z : ℕ). Stands (set views id w) z n) (sym e) (put_stands views id v w n at (subst (λ (z : List (Member O A R)). StandsIn z n) (one ∙ sym one') (stands_here views id v n at (subst (λ (z : ℕ). Stands views z n) e h)))))
      (λ (ne : j ≢ id). set_stands views id w j n ne h))
      (λ es h. ⊎_elim (λ (t : StandsIn w.older es). absurd (has_none es (subst (λ (z : List Log). StandsIn z es) silent t))) (λ (t : WasTold views es). story.older es t) (told_set views id w es h))
      story

  prefix_longer : (es log added : Log) → IsPrefix es log → IsPrefix es (log ++ added)
  prefix_longer es log added p = (p.0 ++ added, sym (append_assoc es p.0 added) ∙ ap (λ (z : Log). z ++ added) p.1)

  -- the view of one pass is replaced by one that has seen all of the history, to which its own entries may have been added
  all_seen : (log added : Log) (views : List V) (id : ℕ) (v w : V) (m : Member O A R) → get_elem? views id ≡ some v → v.members ≡ m ∷ [] → w.members ≡ saw m (log ++ added) ∷ [] → w.older ≡ []
      → IsHistory sound allowed follows (state key) (log ++ added) → ((e : Entry A R) → StandsIn added e → e.number ≡ m.number)
      → Story state sound allowed follows key log (Stands views) (WasTold views) → Story state sound allowed follows key (log ++ added) (Stands (set views id w)) (WasTold (set views id w))
  all_seen log added views id v w m at one one' silent legal mine story = story_to state sound allowed follows key log added (Stands views) (Stands (set views id w)) (WasTold views) (WasTold (set views id w)) id m
      (v, at, subst (λ (z : List (Member O A R)). StandsIn z m) (sym one) (0, refl))
      (λ n h. has_one m n (subst (λ (z : List (Member O A R)). StandsIn z n) one (stands_here views id v n at h)))
      (λ j n h. ⊎_elim (λ (t : (j ≡ id) × StandsIn w.members n). inl (t.0, has_one (saw m (log ++ added)) n (subst (λ (z : List (Member O A R)). StandsIn z n) one' t.1))) (λ (t : (j ≢ id) × Stands views j n). inr t) (stands_set views id w j n h))
      (λ j n ne h. set_stands views id w j n ne h)
      (put_stands views id v w (saw m (log ++ added)) at (subst (λ (z : List (Member O A R)). StandsIn z (saw m (log ++ added))) (sym one') (0, refl)))
      legal mine
      (λ es h. ⊎_elim (λ (t : StandsIn w.older es). absurd (has_none es (subst (λ (z : List Log). StandsIn z es) silent t))) (λ (t : WasTold views es). prefix_longer es log added (story.older es t)) (told_set views id w es h))
      story

  -- the same where nothing was added
  all_looked : (log : Log) (views : List V) (id : ℕ) (v w : V) (m : Member O A R) → get_elem? views id ≡ some v → v.members ≡ m ∷ [] → w.members ≡ saw m log ∷ [] → w.older ≡ []
      → Story state sound allowed follows key log (Stands views) (WasTold views) → Story state sound allowed follows key log (Stands (set views id w)) (WasTold (set views id w))
  all_looked log views id v w m at one one' silent story = let nil : log ++ [] ≡ log = append-nil log in
      subst (λ (z : Log). Story state sound allowed follows key z (Stands (set views id w)) (WasTold (set views id w))) nil
      (all_seen log [] views id v w m at one (subst (λ (z : Log). w.members ≡ saw m z ∷ []) (sym nil) one') silent (subst (λ (z : Log). IsHistory sound allowed follows (state key) z) (sym nil) story.legal) (λ e h. absurd (has_none e h)) story)

  -- what the rule says of a pass that stands
  learns : (s : St) (r : Rule s) (id : ℕ) (v : V) (m : Member O A R) → get_elem? s.views id ≡ some v → v.members ≡ m ∷ [] → (m.opening ≡ key) × Learns state sound allowed follows m r.log
  learns s r id v m at one = let here : Stands s.views id m = (v, at, subst (λ (z : List (Member O A R)). StandsIn z m) (sym one) (0, refl)) in let is = r.story.opened id m here in
      (is, (r.story.seen id m here, subst (λ (z : O). IsHistory sound allowed follows (state z) r.log) (sym is) r.story.legal))

  -- one view is replaced that calls nothing, and called nothing
  calm_set : (drawn serving : ℕ) (slot : Home (Option O)) (log : Log) (views : List V) (id : ℕ) (v w : V) → get_elem? views id ≡ some v → v.turn ≡ Idle → w.turn ≡ Idle
      → Queue state sound allowed follows key drawn serving slot log (λ j d. get_elem? views j ≡ some d) → Queue state sound allowed follows key drawn serving slot log (λ j d. get_elem? (set views id w) j ≡ some d)
  calm_set drawn serving slot log views id v w at idle idle' q = queue_calm state sound allowed follows key drawn serving slot log (λ j d. get_elem? views j ≡ some d) (λ j d. get_elem? (set views id w) j ≡ some d)
      (λ j d h. ⊎_elim (λ (t : (j ≡ id) × (w ≡ d)). inl (subst (λ (z : V). z.turn ≡ Idle) t.1 idle')) (λ (t : (j ≢ id) × (get_elem? views j ≡ some d)). inr t.1) (at_set views id j w d h))
      (λ j d h. dite (ℕ_discrete j id)
      (λ (e : j ≡ id). inl (subst (λ (z : V). z.turn ≡ Idle) (at_once views v d id at (subst (λ (z : ℕ). get_elem? views z ≡ some d) e h)) idle))
      (λ (ne : j ≢ id). inr (set_else views id j w ne ∙ h)))
      q

  -- a new seat that calls nothing
  calm_end : (drawn serving : ℕ) (slot : Home (Option O)) (log : Log) (views : List V) (w : V) → w.turn ≡ Idle
      → Queue state sound allowed follows key drawn serving slot log (λ j d. get_elem? views j ≡ some d) → Queue state sound allowed follows key drawn serving slot log (λ j d. get_elem? (views ++ w ∷ []) j ≡ some d)
  calm_end drawn serving slot log views w idle q = queue_calm state sound allowed follows key drawn serving slot log (λ j d. get_elem? views j ≡ some d) (λ j d. get_elem? (views ++ w ∷ []) j ≡ some d)
      (λ j d h. ⊎_elim (λ (t : get_elem? views j ≡ some d). inr t) (λ (t : (j ≡ length views) × (w ≡ d)). inl (subst (λ (z : V). z.turn ≡ Idle) t.1 idle)) (end_at views w d j h))
      (λ j d h. inr (at_longer views (w ∷ []) j d h))
      q

  only_at : (v d : V) (j : ℕ) → get_elem? (v ∷ []) j ≡ some d → (j ≡ 0) × (v ≡ d)
  only_at v d zero h = (refl, some-injective v d h)
  only_at v d (suc j) h = absurd (some-ne-none d (sym h))

  abbrev alone_of_first : M → Entry A R → V
  alone_of_first z e = first_saw z.0.members e

  -- kind 1: draw a ticket
  pub draws : (slots id old new : ℕ) (m : Member O A R) → old < 18446744073709551615 → new ≡ old + 1
      → Allows Rule slots id (alone m, []) 0 (λ n. either (eqb n old) new n) (drew (step slots 0 old new none) (alone m, []))
  draws slots id old new m room up s r _ at _ =
      let n : ℕ = get_or s.words 0 0 in
      let found : n ≡ r.drawn = ap (λ (l : List ℕ). get_or l 0 0) r.words in
      dite (ℕ_discrete n old)
      (λ (hit : n ≡ old). let w : V = view (m ∷ []) [] (Waits n) in (
        w,
        keeps,
        tt,
        subst (λ b. Rule (stepped s 0 (either b new n) id [] w keeps)) (sym (eq-eqb n old hit)) record {
          log = r.log;
          drawn = r.drawn + 1;
          serving = r.serving;
          slot = r.slot;
          words = ap (λ (l : List ℕ). set l 0 new) r.words ∙ ap (λ (z : ℕ). z ∷ r.serving ∷ []) (let goal : new ≡ r.drawn + 1 = omega arith in goal);
          homes = r.homes;
          story = same_pass r.log s.views id (alone m) w m at refl refl refl r.story;
          once = once_set s.views id w (one_apart m) r.once;
          queue = queue_draw state sound allowed follows key r.drawn r.serving r.slot r.log s.views id (alone m) w at refl (ap Waits found) (omega arith) r.queue;
        },
        λ p e. ((λ _. ap (λ (z : M). (view z.0.members [] (Waits n), [])) e), λ other. absurd (other hit)),
      ))
      (λ (miss : n ≢ old). (
        alone m,
        keeps,
        tt,
        subst (λ b. Rule (stepped s 0 (either b new n) id [] (alone m) keeps)) (sym (ne_eqb n old miss)) (unmoved s 0 id [] (alone m) at r),
        λ p e. ((λ hit. absurd (miss hit)), λ _. refl),
      ))

  -- kind 2: look, by one who waits
  pub awaits : (slots id t : ℕ) (m : Member O A R)
      → Allows Rule slots id (view (m ∷ []) [] (Waits t), []) 1 (λ n. n) (awaited state sound allowed follows (step slots 1 0 0 none) (view (m ∷ []) [] (Waits t), []))
  awaits slots id t m s r _ at _ =
      let v : V = view (m ∷ []) [] (Waits t) in
      let n : ℕ = get_or s.words 1 0 in
      let found : n ≡ r.serving = ap (λ (l : List ℕ). get_or l 1 0) r.words in
      dite (ℕ_discrete n t)
      (λ (hit : n ≡ t).
      let w : V = view (saw m r.log ∷ []) [] (Serves t) in
      let know = learns s r id v m at refl in
      let turn : t ≡ r.serving = sym hit ∙ found in
      let q = queue_take state sound allowed follows key r.drawn r.serving r.slot r.log s.views id v w (saw m r.log) at (ap Waits turn) (ap Serves turn) refl refl r.queue in (
        w,
        takes 0 (Some q.0),
        ap (λ (l : List (Home (Option O))). get_elem? l 0) r.homes ∙ ap (λ (z : Home (Option O)). some z) q.1,
        record {
          log = r.log;
          drawn = r.drawn;
          serving = r.serving;
          slot = none;
          words = set-get_or s.words 1 0 ∙ r.words;
          homes = ap (λ (l : List (Home (Option O))). set l 0 none) r.homes;
          story = all_looked r.log s.views id v w m at refl refl refl r.story;
          once = once_set s.views id w (one_apart (saw m r.log)) r.once;
          queue = q.3;
        },
        λ p u e.
            let same : m ≡ p = head-eq_of_cons-eq (ap (λ (z : M). z.0.members) e) in
            let ticket : t ≡ u = ap (λ (z : M). ticket_of z.0.turn) e in (
              (λ _. (
                r.log,
                q.0,
                subst (λ (z : Member O A R). Learns state sound allowed follows z r.log) same know.1,
                subst (λ (z : O). state q.0 ≡ state_after follows (state z) r.log) (sym know.0 ∙ ap (λ (z : Member O A R). z.opening) same) q.2,
                (λ i. (view (saw (same i) r.log ∷ []) [] (Serves (ticket i)), (0, Some q.0) ∷ [])),
              )),
              λ other. absurd (other (hit ∙ ticket)),
            ),
      ))
      (λ (miss : n ≢ t). (
        v,
        keeps,
        tt,
        unmoved s 1 id [] v at r,
        λ p u e. ((λ hit. absurd (miss (hit ∙ sym (ap (λ (z : M). ticket_of z.0.turn) e)))), λ _. refl),
      ))

  -- kind 2: look, by one who has no ticket
  pub looks : (slots id : ℕ) (m : Member O A R) (older : List Log)
      → Allows Rule slots id (view (m ∷ []) older Idle, []) 1 (λ n. n) (looked state sound allowed follows (step slots 1 0 0 none) (view (m ∷ []) older Idle, []))
  looks slots id m older s r _ at _ =
      let v : V = view (m ∷ []) older Idle in
      let w : V = alone (saw m r.log) in
      let know = learns s r id v m at refl in (
        w,
        keeps,
        tt,
        record {
          log = r.log;
          drawn = r.drawn;
          serving = r.serving;
          slot = r.slot;
          words = set-get_or s.words 1 0 ∙ r.words;
          homes = r.homes;
          story = all_looked r.log s.views id v w m at refl refl refl r.story;
          once = once_set s.views id w (one_apart (saw m r.log)) r.once;
          queue = calm_set r.drawn r.serving r.slot r.log s.views id v w at refl refl r.queue;
        },
        λ p old e.
            let same : m ≡ p = head-eq_of_cons-eq (ap (λ (z : M). z.0.members) e) in (
              r.log,
              subst (λ (z : Member O A R). Learns state sound allowed follows z r.log) same know.1,
              (λ es h. r.story.older es (id, v, at, subst (λ (z : List Log). StandsIn z es) (sym (ap (λ (z : M). z.0.older) e)) h)),
              (λ i. (alone (saw (same i) r.log), [])),
            ),
      )

  -- kind 2: look, which changes no view
  pub checks : (slots id : ℕ) (m : Member O A R)
      → Allows Rule slots id (alone m, []) 1 (λ n. n) (checked state sound allowed follows (step slots 1 0 0 none) (alone m, []))
  checks slots id m s r _ at _ = let know = learns s r id (alone m) m at refl in (
    alone m,
    keeps,
    tt,
    unmoved s 1 id [] (alone m) at r,
    λ p e. let same : m ≡ p = head-eq_of_cons-eq (ap (λ (z : M). z.0.members) e) in
        (refl, subst (λ (z : Member O A R). IsHistory sound allowed follows (state z.opening) z.seen) same (history_less sound allowed follows (state m.opening) m.seen know.1.0.0 r.log know.1.0.1 know.1.1)),
  )

  small_next : (n : ℕ) → n + 1 < 18446744073709551616 → (n + 1) % 18446744073709551616 ≡ n + 1
  small_next n h = mod-eq_of_lt h

  -- the served seat gives the object back, and the history has grown by entries of its own
  moves : (s : St) (r : Rule s) (id t : ℕ) (m : Member O A R) (x : Option O) (o : O) (added : Log) (w : V)
      → get_elem? s.views id ≡ some (view (m ∷ []) [] (Serves t)) → x ≡ Some o → w ≡ alone (saw m (m.seen ++ added))
      → (m.seen ≡ r.log → m.opening ≡ key → IsHistory sound allowed follows (state key) (r.log ++ added)) → ((e : Entry A R) → StandsIn added e → e.number ≡ m.number)
      → state o ≡ state_after follows (state m.opening) (m.seen ++ added)
      → Rule (stepped s 1 ((get_or s.words 1 0 + 1) % 2 ^ 64) id ((0, x) ∷ []) w gives)
  moves s r id t m x o added w at full is legal mine right =
      let v : V = view (m ∷ []) [] (Serves t) in
      let know = learns s r id v m at refl in
      let served = r.queue.turns id v at in
      let all : m.seen ≡ r.log = ap (λ (z : Member O A R). z.seen) (head-eq_of_cons-eq served.2.1) ∙ served.2.2 in
      let w_is : w ≡ alone (saw m (r.log ++ added)) = is ∙ ap (λ (z : Log). alone (saw m (z ++ added))) all in
      let right' : state o ≡ state_after follows (state key) (r.log ++ added) = right ∙ (λ i. state_after follows (state (know.0 i)) (all i ++ added)) in
      let q = queue_move state sound allowed follows key r.drawn r.serving t r.slot r.log (r.log ++ added) s.views id v w o at refl (ap (λ (z : V). z.turn) w_is) right' r.queue in
      let found : get_or s.words 1 0 ≡ r.serving = ap (λ (l : List ℕ). get_or l 1 0) r.words in
      let below = q.1 in
      let drawn_small = r.queue.small in
      let next : (get_or s.words 1 0 + 1) % 2 ^ 64 ≡ r.serving + 1 = ap (λ (z : ℕ). (z + 1) % 2 ^ 64) found ∙ small_next r.serving (omega arith) in
      record {
        log = r.log ++ added;
        drawn = r.drawn;
        serving = r.serving + 1;
        slot = some (Some o);
        words = (λ i. set (r.words i) 1 (next i));
        homes = (λ i. set (r.homes i) 0 (some (full i)));
        story = all_seen r.log added s.views id v w m at refl (ap (λ (z : V). z.members) w_is) (ap (λ (z : V). z.older) w_is) (legal all know.0) mine r.story;
        once = once_set s.views id w (subst (λ (z : V). AreApart z.members) (sym w_is) (one_apart (saw m (r.log ++ added)))) r.once;
        queue = q.2;
      }

  -- kind 5: move on with an entry
  pub enters : (slots id t : ℕ) (m : Member O A R) (x : Option O) (o : O) (told : A → R → Type 0) (a : A) (b : R)
      → told a b → x ≡ Some o → sound a → allowed (state_after follows (state m.opening) m.seen) a b → state o ≡ follows (state_after follows (state m.opening) m.seen) a b
      → Allows Rule slots id (view (m ∷ []) [] (Serves t), (0, x) ∷ []) 1 (λ n. (n + 1) % 2 ^ 64) (entered told (step slots 1 1 0 none) (view (m ∷ []) [] (Serves t), (0, x) ∷ []))
  enters slots id t m x o told a b is_told full may gives_it right s r _ at _ =
      let e : Entry A R = entry a b m.number in (
        alone (saw m (m.seen ++ e ∷ [])),
        gives,
        tt,
        moves s r id t m x o (e ∷ []) (alone (saw m (m.seen ++ e ∷ []))) at full refl
            (λ all is. history_one sound allowed follows (state key) r.log e r.story.legal may (subst (λ (z : Log × O). allowed (state_after follows (state z.1) z.0) a b) (λ i. (all i, is i)) gives_it))
            (λ x' h. ap (λ (z : Entry A R). z.number) (sym (has_one e x' h)))
            (right ∙ sym (state_one sound allowed follows (state m.opening) m.seen e)),
        λ p u y g. (a, b, is_told, ap (λ (z : M). (alone_of_first z e, [])) g),
      )

  -- kind 6: move on without one
  pub leaves : (slots id t : ℕ) (m : Member O A R) (x : Option O) (o : O)
      → x ≡ Some o → state o ≡ state_after follows (state m.opening) m.seen
      → Allows Rule slots id (view (m ∷ []) [] (Serves t), (0, x) ∷ []) 1 (λ n. (n + 1) % 2 ^ 64) (left (step slots 1 1 0 none) (view (m ∷ []) [] (Serves t), (0, x) ∷ []))
  leaves slots id t m x o full right s r _ at _ =
      let nil : m.seen ++ [] ≡ m.seen = append-nil m.seen in
      let nil' : r.log ++ [] ≡ r.log = append-nil r.log in (
        alone m,
        gives,
        tt,
        moves s r id t m x o [] (alone m) at full (ap (λ (z : Log). alone (saw m z)) (sym nil))
            (λ all is. subst (λ (z : Log). IsHistory sound allowed follows (state key) z) (sym nil') r.story.legal)
            (λ e h. absurd (has_none e h))
            (right ∙ ap (state_after follows (state m.opening)) (sym nil)),
        λ p u y g. ap (λ (z : M). (view z.0.members [] Idle, [])) g,
      )

  -- kind 7: split a seat, for a pass of a new number
  pub splits : (id : ℕ) (m : Member O A R) → Splits Rule id (alone m) (alone (grown m)) (alone (born m))
  splits id m s r at =
      let views' : List V = set s.views id (alone (grown m)) in
      let count : length views' ≡ length s.views = length-set s.views id (alone (grown m)) in
      let full : List V = views' ++ alone (born m) ∷ [] in
      record {
        log = r.log;
        drawn = r.drawn;
        serving = r.serving;
        slot = r.slot;
        words = r.words;
        homes = r.homes;
        story = story_split state sound allowed follows key r.log (Stands s.views) (Stands full) (WasTold s.views) (WasTold full) id (length s.views) m
            (alone m, at, (0, refl))
            (λ n h. has_one m n (stands_here s.views id (alone m) n at h))
            (λ j n h. ⊎_elim
            (λ (t : Stands views' j n). ⊎_elim (λ (u : (j ≡ id) × StandsIn (grown m ∷ []) n). inl (u.0, has_one (grown m) n u.1)) (λ (u : (j ≢ id) × Stands s.views j n). inr (inr u)) (stands_set s.views id (alone (grown m)) j n t))
            (λ (t : (j ≡ length views') × StandsIn (born m ∷ []) n). inr (inl (t.0 ∙ count, has_one (born m) n t.1)))
            (stands_end views' (alone (born m)) j n h))
            (λ j n ne h. longer_stands views' (alone (born m)) j n (set_stands s.views id (alone (grown m)) j n ne h))
            (longer_stands views' (alone (born m)) id (grown m) (put_stands s.views id (alone m) (alone (grown m)) (grown m) at (0, refl)))
            (end_stands views' (alone (born m)) (born m) (length s.views) count (0, refl))
            (λ es h. ⊎_elim
            (λ (t : WasTold views' es). ⊎_elim (λ (u : StandsIn [] es). absurd (has_none es u)) (λ (u : WasTold s.views es). r.story.older es u) (told_set s.views id (alone (grown m)) es t))
            (λ (t : StandsIn [] es). absurd (has_none es t))
            (told_end views' (alone (born m)) es h))
            r.story;
        once = once_end views' (alone (born m)) (one_apart (born m)) (once_set s.views id (alone (grown m)) (one_apart (grown m)) r.once);
        queue = calm_end r.drawn r.serving r.slot r.log views' (alone (born m)) refl (calm_set r.drawn r.serving r.slot r.log s.views id (alone m) (alone (grown m)) at refl refl r.queue);
      }

  -- kind 7: split a seat, for a note
  pub notes : (id : ℕ) (m : Member O A R) → Splits Rule id (alone m) (alone m) (view [] (m.seen ∷ []) Idle)
  notes id m s r at =
      let n : V = view [] (m.seen ∷ []) Idle in
      let full : List V = s.views ++ n ∷ [] in
      let know = learns s r id (alone m) m at refl in
      subst (λ (z : List V). Rule record { words = s.words; homes = s.homes; views = z ++ n ∷ [] }) (sym (set_again s.views id (alone m) at)) record {
        log = r.log;
        drawn = r.drawn;
        serving = r.serving;
        slot = r.slot;
        words = r.words;
        homes = r.homes;
        story = story_moved state sound allowed follows key r.log (Stands s.views) (Stands full) (WasTold s.views) (WasTold full) (λ j. j)
            (λ j k h. ⊎_elim (λ (t : Stands s.views j k). (j, t, refl)) (λ (t : (j ≡ length s.views) × StandsIn [] k). absurd (has_none k t.1)) (stands_end s.views n j k h))
            (λ j k h. longer_stands s.views n j k h)
            (λ es h. ⊎_elim (λ (t : WasTold s.views es). r.story.older es t) (λ (t : StandsIn (m.seen ∷ []) es). subst (λ (z : Log). IsPrefix z r.log) (has_one m.seen es t) (know.1.0.0, sym know.1.0.1)) (told_end s.views n es h))
            r.story;
        once = once_end s.views n (none_apart {O = O} {A = A} {R = R}) r.once;
        queue = calm_end r.drawn r.serving r.slot r.log s.views n refl r.queue;
      }

  -- kind 8: join a seat
  pub joins : (id : ℕ) (v : V) (other : ℕ) (w : V) → v.turn ≡ Idle → w.turn ≡ Idle → Joins Rule id v other w (merged v w) spent
  joins id v other w calm calm' s r at apart there =
      let b : V = merged v w in
      let mid : List V = set s.views id b in
      let full : List V = set mid other spent in
      let there' : get_elem? s.views other ≡ some w = sym (set_else s.views id other b apart) ∙ there in
      let sigma : ℕ → ℕ = λ j. if eqb j other then id else j in
      record {
        log = r.log;
        drawn = r.drawn;
        serving = r.serving;
        slot = r.slot;
        words = r.words;
        homes = r.homes;
        story = story_moved state sound allowed follows key r.log (Stands s.views) (Stands full) (WasTold s.views) (WasTold full) sigma
            (λ j n h. ⊎_elim (λ (t : (j ≡ other) × StandsIn [] n). absurd (has_none n t.1))
            (λ (t : (j ≢ other) × Stands mid j n). ⊎_elim
            (λ (u : (j ≡ id) × StandsIn (w.members ++ v.members) n). ⊎_elim
            (λ (k : StandsIn w.members n). (other, (w, there', k), u.0 ∙ sym (ap (λ z. if z then id else other) (eq-eqb other other refl))))
            (λ (k : StandsIn v.members n). (id, (v, at, k), u.0 ∙ sym (ap (λ z. if z then id else id) (ne_eqb id other (λ e. apart (sym e))))))
            (has_append w.members v.members n u.1))
            (λ (u : (j ≢ id) × Stands s.views j n). (j, u.1, sym (ap (λ z. if z then id else j) (ne_eqb j other t.0))))
            (stands_set s.views id b j n t.1))
            (stands_set mid other spent j n h))
            (λ j n h. dite (ℕ_discrete j other)
            (λ (e : j ≡ other). subst (λ (z : ℕ). Stands full z n) (sym (ap (λ z. if z then id else j) (eq-eqb j other e)))
            (set_stands mid other spent id n (λ e. apart (sym e)) (put_stands s.views id v b n at (has_left w.members v.members n (stands_here s.views other w n there' (subst (λ (z : ℕ). Stands s.views z n) e h))))))
            (λ (ne : j ≢ other). subst (λ (z : ℕ). Stands full z n) (sym (ap (λ z. if z then id else j) (ne_eqb j other ne)))
            (set_stands mid other spent j n ne (dite (ℕ_discrete j id)
            (λ (e : j ≡ id). subst (λ (z : ℕ). Stands mid z n) (sym e) (put_stands s.views id v b n at (has_right w.members v.members n (stands_here s.views id v n at (subst (λ (z : ℕ). Stands s.views z n) e h)))))
            (λ (ne' : j ≢ id). set_stands s.views id b j n ne' h)))))
            (λ es h. ⊎_elim (λ (t : StandsIn [] es). absurd (has_none es t))
            (λ (t : WasTold mid es). ⊎_elim
            (λ (u : StandsIn (w.older ++ v.older) es). ⊎_elim
            (λ (k : StandsIn w.older es). r.story.older es (other, w, there', k))
            (λ (k : StandsIn v.older es). r.story.older es (id, v, at, k))
            (has_append w.older v.older es u))
            (λ (u : WasTold s.views es). r.story.older es u)
            (told_set s.views id b es t))
            (told_set mid other spent es h))
            r.story;
        once = once_set mid other spent (none_apart {O = O} {A = A} {R = R}) (once_set s.views id b (both_apart w.members v.members (r.once other w there') (r.once id v at) (λ m n k l same. apart (r.story.apart other id m n (w, there', k) (v, at, l) same))) r.once);
        queue = calm_set r.drawn r.serving r.slot r.log mid other w spent there calm' refl (calm_set r.drawn r.serving r.slot r.log s.views id v b at calm calm r.queue);
      }

  -- the table at the start
  pub starts : (o : O) → o ≡ key → Rule (opening (0 ∷ 0 ∷ []) (Some o ∷ []) (alone (newcomer o)))
  starts o is =
      let first : Member O A R = newcomer o in
      let views : List V = alone first ∷ [] in
      let only : (j : ℕ) (d : V) → get_elem? views j ≡ some d → (j ≡ 0) × (alone first ≡ d) = λ j d h. only_at (alone first) d j h in
      let who : (j : ℕ) (n : Member O A R) → Stands views j n → (j ≡ 0) × (first ≡ n) = λ j n h. let p = only j h.0 h.1 in (p.0, has_one first n (subst (λ (z : V). StandsIn z.members n) (sym p.1) h.2)) in
      let here : Stands views 0 first = (alone first, refl, (0, refl)) in
      record {
        log = [];
        drawn = 0;
        serving = 0;
        slot = some (Some o);
        words = refl;
        homes = refl;
        story = record {
          legal = history_none sound allowed follows (state key);
          opened = λ j n h. ap (λ (z : Member O A R). z.opening) (sym (who j n h).1) ∙ is;
          seen = λ j n h. subst (λ (z : Member O A R). GrowsByOthers z.number z.seen []) (who j n h).1 (grow_none [] []);
          older = λ es h. absurd (has_none es (subst (λ (z : V). StandsIn z.older es) (sym (only h.0 h.1 h.2).1) h.3));
          apart = λ i j n p h k e. (who i n h).0 ∙ sym (who j p k).0;
          made = λ j n h. inl (ap (λ (z : Member O A R). z.number) (sym (who j n h).1));
          written = λ e h. absurd (has_none e h);
          whole = (0, first, here, refl);
        };
        once = λ j d h. subst (λ (z : V). AreApart z.members) (only j d h).1 (one_apart first);
        queue = record {
          order = omega arith;
          small = omega arith;
          turns = λ j d h. subst (λ (z : V). IsInTurn 0 0 [] z.members z.turn) (only j d h).1 tt;
          lone = λ i j t d e h k a b. (only i d h).0 ∙ sym (only j e k).0;
          home = inl (o, refl, ap state is);
        };
      }
