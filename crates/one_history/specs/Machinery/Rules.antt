-- The rule of the table.
-- All seats know beginnings of one history. A pass has a number: that of the first pass is empty, and one that was split off has the number of the old one, followed by how many were split off from that before.
-- Word 0 is how many tickets were drawn, and word 1 the ticket that is served. The object is at home, or out with the seat that is served.
use Rattle.std.specs.Prelude.{◌≡◌, ℕ, ◌+◌, ◌<◌, ◌≤◌, ◌⊎◌, List, [], ◌∷◌, ◌++◌, map, Some}
use Rattle.std.specs.declared.option.Option.{Option}
use mathlib.Core.Option.{Option as Home, some}
use mathlib.Core.List.{IsPrefix}
use lib.ListN.{get_elem?}
use Rattle.atomic_table.specs.Table.{State}
use Rattle.one_history.specs.declared.history.Entry.{Entry}
use Rattle.one_history.specs.declared.history.Member.{Member}
use Rattle.one_history.specs.declared.history.Turn.{Turn}
use Rattle.one_history.specs.declared.history.Turn.TheVariants.{Idle, Waits, Serves}
use Rattle.one_history.specs.declared.history.View.{View}
use Rattle.one_history.specs.Histories.{state_after, IsHistory, GrowsByOthers}

-- x stands at some place of the list
abbrev pub StandsIn : {X : Type 0} → List X → X → Type 0
StandsIn xs x = (k : ℕ) × (get_elem? xs k ≡ some x)

module _ {O A R : Type 0} where
  -- the first pass, which has seen nothing
  abbrev pub newcomer : O → Member O A R
  newcomer o = record { opening = o; number = []; seen = []; made = 0 }

  -- the pass has seen this history
  abbrev pub saw : Member O A R → List (Entry A R) → Member O A R
  saw m log = record { opening = m.opening; number = m.number; seen = log; made = m.made }

  abbrev pub view : List (Member O A R) → List (List (Entry A R)) → Turn → View O A R
  view members older turn = record { members = members; older = older; turn = turn }

  -- the seat of one pass, which calls nothing
  abbrev pub alone : Member O A R → View O A R
  alone m = view (m ∷ []) [] Idle

  -- a pass that was split once more
  abbrev pub grown : Member O A R → Member O A R
  grown m = record { opening = m.opening; number = m.number; seen = m.seen; made = m.made + 1 }

  -- the pass that the next split makes
  abbrev pub born : Member O A R → Member O A R
  born m = record { opening = m.opening; number = m.number ++ m.made ∷ []; seen = m.seen; made = 0 }

  abbrev pub parent : View O A R → View O A R
  parent d = view (map grown d.members) d.older d.turn

  abbrev pub child : View O A R → View O A R
  child d = view (map born d.members) d.older Idle

  abbrev pub spent : View O A R
  spent = view [] [] Idle

  abbrev pub note : View O A R → View O A R
  note d = view [] (map (λ m. m.seen) d.members ++ d.older) Idle

  abbrev pub merged : View O A R → View O A R → View O A R
  merged d e = view (e.members ++ d.members) (e.older ++ d.older) d.turn

  -- no two of them have one number
  abbrev pub AreApart : List (Member O A R) → Type 0
  AreApart ms = (i j : ℕ) (m n : Member O A R) → get_elem? ms i ≡ some m → get_elem? ms j ≡ some n → m.number ≡ n.number → i ≡ j

  -- a pass m that the seat j stands for
  abbrev pub Stands : List (View O A R) → ℕ → Member O A R → Type 0
  Stands views j m = (d : View O A R) × (get_elem? views j ≡ some d) × StandsIn d.members m

  -- a list that some seat was told
  abbrev pub WasTold : List (View O A R) → List (Entry A R) → Type 0
  WasTold views es = (j : ℕ) × (d : View O A R) × (get_elem? views j ≡ some d) × StandsIn d.older es

module _ {O A R : Type 0} (has : ℕ → Member O A R → Type 0) where
  -- the number was made: it is that of the first pass, or the pass that it was split off from says so
  abbrev pub WasMade : List ℕ → Type 0
  WasMade number = (number ≡ []) ⊎ ((j : ℕ) × (m : Member O A R) × (k : ℕ) × has j m × (number ≡ m.number ++ k ∷ []) × (k < m.made))

abbrev pub HasTicket : ℕ → Turn → Type 0
HasTicket t Idle = ⊥
HasTicket t (Waits u) = u ≡ t
HasTicket t (Serves u) = u ≡ t

abbrev pub IsServed : Turn → Type 0
IsServed Idle = ⊥
IsServed (Waits u) = ⊥
IsServed (Serves u) = Unit {0}

module _ {O A R : Type 0} where
  -- a ticket that is out was drawn, and not served yet; the seat that is served has seen all of the history
  abbrev pub IsInTurn : ℕ → ℕ → List (Entry A R) → List (Member O A R) → Turn → Type 0
  IsInTurn drawn serving log members Idle = Unit {0}
  IsInTurn drawn serving log members (Waits t) = (serving ≤ t) × (t < drawn)
  IsInTurn drawn serving log members (Serves t) = (t ≡ serving) × (t < drawn) × ((m : Member O A R) × (members ≡ m ∷ []) × (m.seen ≡ log))

module _ {O S A R : Type 0} (state : O → S) (sound : A → Type 0) (allowed : S → A → R → Type 0) (follows : S → A → R → S) where
  -- What the history is to the passes that stand and to the lists that seats were told
  pub record Story (key : O) (log : List (Entry A R)) (has : ℕ → Member O A R → Type 0) (told : List (Entry A R) → Type 0) : Type 0 where
    pub legal : IsHistory sound allowed follows (state key) log
    pub opened : (j : ℕ) (m : Member O A R) → has j m → m.opening ≡ key
    pub seen : (j : ℕ) (m : Member O A R) → has j m → GrowsByOthers m.number m.seen log
    pub older : (es : List (Entry A R)) → told es → IsPrefix es log
    pub apart : (i j : ℕ) (m n : Member O A R) → has i m → has j n → m.number ≡ n.number → i ≡ j
    pub made : (j : ℕ) (m : Member O A R) → has j m → WasMade has m.number
    pub written : (e : Entry A R) → StandsIn log e → (j : ℕ) × (m : Member O A R) × has j m × (m.number ≡ e.number)
    pub whole : (j : ℕ) × (m : Member O A R) × has j m × (m.seen ≡ log)

  -- What the tickets and the slot are to the seats
  pub record Queue (key : O) (drawn serving : ℕ) (slot : Home (Option O)) (log : List (Entry A R)) (at : ℕ → View O A R → Type 0) : Type 0 where
    pub order : serving ≤ drawn
    pub small : drawn < 18446744073709551616
    pub turns : (j : ℕ) (d : View O A R) → at j d → IsInTurn drawn serving log d.members d.turn
    pub lone : (i j t : ℕ) (d e : View O A R) → at i d → at j e → HasTicket t d.turn → HasTicket t e.turn → i ≡ j
    pub home : ((o : O) × (slot ≡ some (Some o)) × (state o ≡ state_after follows (state key) log)) ⊎ ((j : ℕ) × (d : View O A R) × at j d × IsServed d.turn)

  -- A seat that stands for several passes stands for each once
  pub record Kept (key : O) (s : State (Option O) (View O A R)) : Type 0 where
    pub log : List (Entry A R)
    pub drawn : ℕ
    pub serving : ℕ
    pub slot : Home (Option O)
    pub words : s.words ≡ drawn ∷ serving ∷ []
    pub homes : s.homes ≡ slot ∷ []
    pub story : Story key log (Stands s.views) (WasTold s.views)
    pub queue : Queue key drawn serving slot log (λ j d. get_elem? s.views j ≡ some d)
    pub once : (j : ℕ) (d : View O A R) → get_elem? s.views j ≡ some d → AreApart d.members
