-- What contracts say of a shared object and its passes.
use Rattle.std.specs.Prelude.{◌≡◌, ℕ, ◌<◌, List, [], ◌∷◌, ◌++◌, Some, Contains, Any}
use Rattle.std.specs.declared.option.Option.{Option}
use mathlib.Core.Option.{some}
use mathlib.Core.List.{IsPrefix}
use lib.ListN.{get_elem?}
use Rattle.atomic_table.specs.Table.{Me}
use Rattle.one_history.specs.declared.history.Entry.{Entry}
use Rattle.one_history.specs.declared.history.Member.{Member}
use Rattle.one_history.specs.declared.history.Turn.TheVariants.{Serves}
use Rattle.one_history.specs.declared.history.View.{View}
use Rattle.one_history.specs.declared.shared.Pass.{Pass}
use Rattle.one_history.specs.declared.shared.Shared.{Shared}
use Rattle.one_history.specs.Histories.{state_after, IsHistory, own}
use Rattle.one_history.specs.Machinery.Rules.{view, alone}

module _ {O A R : Type 0} where
  abbrev pub seen_of : List (Member O A R) → List (Entry A R)
  seen_of [] = []
  seen_of (m ∷ ms) = m.seen

  abbrev pub number_of : List (Member O A R) → List ℕ
  number_of [] = []
  number_of (m ∷ ms) = m.number

  abbrev pub made_of : List (Member O A R) → ℕ
  made_of [] = 0
  made_of (m ∷ ms) = m.made

  -- the beginning of the history that the pass has seen
  abbrev pub seen : Pass O A R → List (Entry A R)
  seen p = seen_of p.seat.me.0.members

  -- the number of the pass, under which its entries stand
  abbrev pub number : Pass O A R → List ℕ
  number p = number_of p.seat.me.0.members

  -- how many passes were split off from it
  abbrev pub made : Pass O A R → ℕ
  made p = made_of p.seat.me.0.members

  -- the object with which the shared one began
  abbrev pub opening : Shared O A R → O
  opening s = s.table.shared.key.value

  -- a pass that was made from this shared object
  abbrev pub IsPassOf : Shared O A R → Pass O A R → Type 0
  IsPassOf s p = (p.seat.table_id ≡ s.table.shared.table_id) × ((m : Member O A R) × (m.opening ≡ opening s) × (p.seat.me ≡ (alone m, [])))

  -- the same pass, perhaps with more of the history
  abbrev pub IsSamePass : Pass O A R → Pass O A R → Type 0
  IsSamePass p q = (number q ≡ number p) × (made q ≡ made p)

  -- the seat is served, and has the object
  abbrev pub Serving : Member O A R → ℕ → O → Me (Option O) (View O A R) → Type 0
  Serving m t o me = me ≡ (view (m ∷ []) [] (Serves t), (0, Some o) ∷ [])

  -- what the seats of the passes stand for
  abbrev pub members_of : List (Pass O A R) → List (Member O A R)
  members_of [] = []
  members_of (p ∷ ps) = p.seat.me.0.members ++ members_of ps

  -- these are all passes that were made: that of the empty number, and for each pass those that were split off from it
  abbrev pub IsComplete : List (Pass O A R) → Type 0
  IsComplete passes = Any (λ p. number p ≡ []) passes × ((p : Pass O A R) → Contains passes p → (k : ℕ) → k < made p → Any (λ q. number q ≡ number p ++ k ∷ []) passes)

module _ {O S A R : Type 0} (state : O → S) (sound : A → Type 0) (allowed : S → A → R → Type 0) (follows : S → A → R → S) where
  -- The whole history of a shared object that is closed: the object is in the state that it leaves, one pass has seen all of it, each pass a beginning in which all its own entries stand, and each entry is of one of the passes. No two of them have one number
  pub record IsWholeHistory (first : O) (passes : List (Pass O A R)) (last : O) (log : List (Entry A R)) : Type 0 where
    pub legal : IsHistory sound allowed follows (state first) log
    pub state_is : state last ≡ state_after follows (state first) log
    pub longest : Any (λ p. seen p ≡ log) passes
    pub each : (p : Pass O A R) → Contains passes p → IsPrefix (seen p) log × (own (number p) log ≡ own (number p) (seen p))
    pub others : (e : Entry A R) → Contains log e → Any (λ p. number p ≡ e.number) passes
    pub numbers : (i j : ℕ) (p q : Pass O A R) → get_elem? passes i ≡ some p → get_elem? passes j ≡ some q → number p ≡ number q → i ≡ j
