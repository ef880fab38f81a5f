-- What each kind of step tells.
use Rattle.std.specs.Prelude.{◌≡◌, ◌≢◌, ℕ, List, [], ◌∷◌, ◌++◌, Some}
use Rattle.std.specs.declared.option.Option.{Option}
use mathlib.Core.List.{IsPrefix}
use Rattle.atomic_table.specs.Table.{Me, Step}
use Rattle.one_history.specs.declared.history.Entry.{Entry}
use Rattle.one_history.specs.declared.history.Member.{Member}
use Rattle.one_history.specs.declared.history.Turn.TheVariants.{Idle, Waits, Serves}
use Rattle.one_history.specs.declared.history.View.{View}
use Rattle.one_history.specs.Histories.{state_after, IsHistory, GrowsByOthers, entry}
use Rattle.one_history.specs.Machinery.Rules.{StandsIn, saw, view, alone}

module _ {O A R : Type 0} where
  -- a ticket was drawn where the word was the one expected, and otherwise nothing changed
  abbrev pub drew : Step (Option O) → Me (Option O) (View O A R) → ℕ → Me (Option O) (View O A R) → Type 0
  drew st me found me' = (m : Member O A R) → me ≡ (alone m, []) → (found ≡ st.first → me' ≡ (view (m ∷ []) [] (Waits found), [])) × (found ≢ st.first → me' ≡ me)

  -- the call is in the history
  abbrev pub entered : (A → R → Type 0) → Step (Option O) → Me (Option O) (View O A R) → ℕ → Me (Option O) (View O A R) → Type 0
  entered told st me found me' = (m : Member O A R) (t : ℕ) (x : Option O) → me ≡ (view (m ∷ []) [] (Serves t), (0, x) ∷ []) →
      (a : A) × (r : R) × told a r × (me' ≡ (alone (saw m (m.seen ++ entry a r m.number ∷ [])), []))

  -- the history is as it was
  abbrev pub left : Step (Option O) → Me (Option O) (View O A R) → ℕ → Me (Option O) (View O A R) → Type 0
  left st me found me' = (m : Member O A R) (t : ℕ) (x : Option O) → me ≡ (view (m ∷ []) [] (Serves t), (0, x) ∷ []) → me' ≡ (alone m, [])

module _ {O S A R : Type 0} (state : O → S) (sound : A → Type 0) (allowed : S → A → R → Type 0) (follows : S → A → R → S) where
  -- what a pass learns that sees all of the history
  abbrev pub Learns : Member O A R → List (Entry A R) → Type 0
  Learns m log = GrowsByOthers m.number m.seen log × IsHistory sound allowed follows (state m.opening) log

  -- where the ticket is served, the pass has seen all of the history and has the object; otherwise nothing changed
  abbrev pub awaited : Step (Option O) → Me (Option O) (View O A R) → ℕ → Me (Option O) (View O A R) → Type 0
  awaited st me found me' = (m : Member O A R) (t : ℕ) → me ≡ (view (m ∷ []) [] (Waits t), []) →
      (found ≡ t → (log : List (Entry A R)) × (o : O) × Learns m log × (state o ≡ state_after follows (state m.opening) log) × (me' ≡ (view (saw m log ∷ []) [] (Serves t), (0, Some o) ∷ [])))
      × (found ≢ t → me' ≡ me)

  -- the pass has seen all of the history, which begins with each list that it was told
  abbrev pub looked : Step (Option O) → Me (Option O) (View O A R) → ℕ → Me (Option O) (View O A R) → Type 0
  looked st me found me' = (m : Member O A R) (older : List (List (Entry A R))) → me ≡ (view (m ∷ []) older Idle, []) →
      (log : List (Entry A R)) × Learns m log × ((es : List (Entry A R)) → StandsIn older es → IsPrefix es log) × (me' ≡ (alone (saw m log), []))

  -- what the pass has seen is a history
  abbrev pub checked : Step (Option O) → Me (Option O) (View O A R) → ℕ → Me (Option O) (View O A R) → Type 0
  checked st me found me' = (m : Member O A R) → me ≡ (alone m, []) → (me' ≡ me) × IsHistory sound allowed follows (state m.opening) m.seen
