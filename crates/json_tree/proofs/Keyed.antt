-- Where the value under a key stands among the members.
use Rattle.std.proofs.Common.{◌≡◌, ◌≢◌, ℕ, suc, List, Bool, true, false, cond, length, Some, refl, ap}
use Rattle.std.specs.Prelude.{bytes_eq}
use Rattle.std.proofs.lemmas.Slice.Eq.{bytes_eq-Decides}
use Rattle.json_decimal.specs.Number.{Number}
use Rattle.json_tree.specs.Values.{Json, Members, no_members, member}
use Rattle.json_tree.specs.Places.{member_at}
use Rattle.json_tree.specs.Members.{value_at}

-- texts of two lengths are two
other : (a b : List ℕ) (same : Bool) → (same ≡ true → a ≡ b) → length a ≢ length b → same ≡ false
other a b true is not = absurd (not (ap length (is refl)))
other a b false is not = refl

pub other_lengths : (a b : List ℕ) → length a ≢ length b → bytes_eq a b ≡ false
other_lengths a b not = other a b (bytes_eq a b) (bytes_eq-Decides a b).0 not

first_or_later : (key k : List ℕ) (w : Json) (ms : Members Number) (v : Json) → ((u : Json) → value_at key ms ≡ Some u → (i : ℕ) × (member_at ms i ≡ Some (key, u)))
    → (same : Bool) → (same ≡ true → k ≡ key) → cond same (Some w) (value_at key ms) ≡ Some v → (i : ℕ) × (member_at (member k w ms) i ≡ Some (key, v))
first_or_later key k w ms v later true is at = let word : k ≡ key = is refl in let one : w ≡ v = cc in (0, cc)
first_or_later key k w ms v later false is at = let p = later v at in (suc p.0, p.1)

-- it is that of a member with the key
pub position_of_key : (key : List ℕ) (ms : Members Number) (v : Json) → value_at key ms ≡ Some v → (i : ℕ) × (member_at ms i ≡ Some (key, v))
position_of_key key no_members v at = absurd cc
position_of_key key (member k w ms) v at = first_or_later key k w ms v (λ u found. position_of_key key ms u found) (bytes_eq k key) (bytes_eq-Decides k key).0 at
