-- Histories of one object: lists of entries, each an ask with its reply and the number of the pass that made it.
use Rattle.std.specs.Prelude.{◌≡◌, ℕ, List, [], ◌∷◌, ◌++◌, Bool, true, false, ◌==◌, ◌&&◌, if◌then◌else◌}
use Rattle.one_history.specs.declared.history.Entry.{Entry}

-- the state after all entries, in their order
abbrev pub state_after : {S A R : Type 0} → (S → A → R → S) → S → List (Entry A R) → S
state_after follows s [] = s
state_after follows s (e ∷ es) = state_after follows (follows s e.ask e.reply) es

-- what one object could have answered from the state s on: each ask is sound, and each reply is one that the state at its point allows
abbrev pub IsHistory : {S A R : Type 0} → (A → Type 0) → (S → A → R → Type 0) → (S → A → R → S) → S → List (Entry A R) → Type 0
IsHistory {S} {A} {R} sound allowed follows s log = (before : List (Entry A R)) (e : Entry A R) (after : List (Entry A R)) → log ≡ before ++ e ∷ after → sound e.ask × allowed (state_after follows s before) e.ask e.reply

abbrev pub is_same : List ℕ → List ℕ → Bool
is_same [] [] = true
is_same [] (y ∷ ys) = false
is_same (x ∷ xs) [] = false
is_same (x ∷ xs) (y ∷ ys) = (x == y) && is_same xs ys

-- the entries of one number
abbrev pub own : {A R : Type 0} → List ℕ → List (Entry A R) → List (Entry A R)
own number [] = []
own number (e ∷ es) = if is_same e.number number then e ∷ own number es else own number es

-- the history has grown from `before` to `after`, by entries of other numbers
abbrev pub GrowsByOthers : {A R : Type 0} → List ℕ → List (Entry A R) → List (Entry A R) → Type 0
GrowsByOthers {A} {R} number before after = (between : List (Entry A R)) × (after ≡ before ++ between) × (own number between ≡ [])

abbrev pub entry : {A R : Type 0} → A → R → List ℕ → Entry A R
entry ask reply number = record { ask = ask; reply = reply; number = number }

-- the same, and then by this call
abbrev pub GrowsByCall : {A R : Type 0} → List ℕ → A → R → List (Entry A R) → List (Entry A R) → Type 0
GrowsByCall {A} {R} number ask reply before after = (between : List (Entry A R)) × (after ≡ (before ++ between) ++ entry ask reply number ∷ []) × (own number between ≡ [])
