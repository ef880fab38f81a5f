-- By which interfaces names are declared, in a round.
use Rattle.std.specs.Prelude.{◌≡◌, ◌≢◌, ◌↔◌, ◌<◌, ◌≤◌, ℕ, List, [], ◌∷◌, Bool, true, false, ◌&&◌, ◌||◌, cond, length, get_or, slice_set, nat_eq, not}
use Rattle.std.specs.List.{list_any}
use Rattle.extend_resolve.specs.declared.owners.Owner.{Owner}

abbrev pub nobody : Owner
nobody = record { round = 0; number = 0; several = false }

abbrev pub has_other_owner : Owner → ℕ → ℕ → Bool
has_other_owner o round m = nat_eq o.round round && (o.several || not (nat_eq o.number m))

abbrev pub with_owner : Owner → ℕ → ℕ → Owner
with_owner o round m = cond (nat_eq o.round round) (record { round = round; number = o.number; several = o.several || not (nat_eq o.number m) }) (record { round = round; number = m; several = false })

abbrev pub other_at : List Owner → ℕ → ℕ → ℕ → Bool
other_at owners round x m = has_other_owner (get_or owners x nobody) round m

abbrev pub add_owner : ℕ → ℕ → List Owner → ℕ → List Owner
add_owner round m owners x = slice_set owners x (with_owner (get_or owners x nobody) round m)

abbrev pub add_names : ℕ → ℕ → List Owner → List ℕ → List Owner
add_names round m owners [] = owners
add_names round m owners (x ∷ xs) = add_names round m (add_owner round m owners x) xs

-- the names of these numbers, one after another
abbrev pub add_reached : List (List ℕ) → ℕ → List Owner → List ℕ → List Owner
add_reached declared round owners [] = owners
add_reached declared round owners (m ∷ ms) = add_reached declared round (add_names round m owners (get_or declared m [])) ms

abbrev pub any_reached : List (List ℕ) → ℕ → List Owner → List ℕ → Bool
any_reached declared round owners ms = list_any (λ m. list_any (λ x. other_at owners round x m) (get_or declared m [])) ms

-- The owners tell of each name whether it has another owner, by who owns which.
abbrev pub Knows : List Owner → ℕ → (ℕ → ℕ → Type 0) → Type 0
Knows owners round Owns = (x m : ℕ) → x < length owners → (other_at owners round x m ≡ true) ↔ ((o : ℕ) × Owns x o × (o ≢ m))

-- none was added in these rounds
abbrev pub AreFresh : List Owner → ℕ → ℕ → Type 0
AreFresh owners from to = (x r : ℕ) → x < length owners → from ≤ r → r < to → (get_or owners x nobody).round ≢ r
