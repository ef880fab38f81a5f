-- Every state goes forward and back, over a byte and at the end.
use Rattle.std.proofs.Common.{ℕ, zero, suc, List, [], ◌∷◌, subst}
use Rattle.json_tree.specs.Values.{no_elements, element, no_members, member}
use Rattle.json_tree.specs.Grammar.{IsValue, IsString, IsCharacters}
use Rattle.json_read.specs.Machinery.Automaton.{State, value, first_element, first_key, next_key, colon, after, in_word, in_number, in_text, in_character}
use Rattle.json_read.specs.Machinery.Steps.{Forward, Backward, EndsForward, EndsBackward}
use Rattle.json_read.proofs.Spaces.{spaces_at_end}
use Rattle.json_read.proofs.Structure.{fwd-after, back-after, fwd_end-after, back_end-after, fwd-in_word, back-in_word}
use Rattle.json_read.proofs.Numbers.{fwd-in_number, back-in_number, fwd_end-in_number, back_end-in_number}
use Rattle.json_read.proofs.Texts.{fwd-in_text, back-in_text, fwd-in_character, back-in_character, character_some, point_some}
use Rattle.json_read.proofs.Starts.{value_some, fwd-value, back-value, fwd-first_element, back-first_element, fwd-first_key, back-first_key, fwd-next_key, back-next_key, fwd-colon, back-colon}

pub forward : (s : State) → Forward s
forward (value d k) = fwd-value d k
forward (first_element d k) = fwd-first_element d k
forward (first_key d k) = fwd-first_key d k
forward (next_key d k ms) = fwd-next_key d k ms
forward (colon d k ms key) = fwd-colon d k ms key
forward (after d k v) = fwd-after d k v
forward (in_word next left v d k) = fwd-in_word next left v d k
forward (in_number part bytes d k) = fwd-in_number part bytes d k
forward (in_text u content d k) = fwd-in_text u content d k
forward (in_character p u content d k) = fwd-in_character p u content d k

pub backward : (s : State) → Backward s
backward (value d k) = back-value d k
backward (first_element d k) = back-first_element d k
backward (first_key d k) = back-first_key d k
backward (next_key d k ms) = back-next_key d k ms
backward (colon d k ms key) = back-colon d k ms key
backward (after d k v) = back-after d k v
backward (in_word next left v d k) = back-in_word next left v d k
backward (in_number part bytes d k) = back-in_number part bytes d k
backward (in_text u content d k) = back-in_text u content d k
backward (in_character p u content d k) = back-in_character p u content d k

no_string : (key to : List ℕ) → IsString [] key to → ⊥
no_string key to h = let e = h.2 in absurd cc

no_characters : (n : ℕ) (content to : List ℕ) → IsCharacters n [] content to → ⊥
no_characters zero content to h = let e = h.1 in absurd cc
no_characters (suc n) content to h = character_some h.0 h.2 h.3

pub ends_forward : (s : State) → EndsForward s
ends_forward (value d k) whole (start, end, v, s, h, a) =
    absurd (value_some v d end (subst (λ (bs : List ℕ). IsValue v d bs end) (spaces_at_end start s) h))
ends_forward (first_element d k) whole (no_elements, to, s, a) = let e = spaces_at_end (93 ∷ to) s in absurd cc
ends_forward (first_element d k) whole (element v vs, to, (start, end, s, h, more), a) =
    absurd (value_some v d end (subst (λ (bs : List ℕ). IsValue v d bs end) (spaces_at_end start s) h))
ends_forward (first_key d k) whole (no_members, to, s, a) = let e = spaces_at_end (125 ∷ to) s in absurd cc
ends_forward (first_key d k) whole (member key v ms, to, (start, end, mid, first, last, s, h, c, f, i, more), a) =
    absurd (no_string key end (subst (λ (bs : List ℕ). IsString bs key end) (spaces_at_end start s) h))
ends_forward (next_key d k ms) whole (start, key, end, s, h, a) =
    absurd (no_string key end (subst (λ (bs : List ℕ). IsString bs key end) (spaces_at_end start s) h))
ends_forward (colon d k ms key) whole (mid, first, last, v, s, i, h, a) = let e = spaces_at_end (58 ∷ mid) s in absurd cc
ends_forward (after d k v) whole h = fwd_end-after d k v whole h
ends_forward (in_word next left v d k) whole h = let e = h.1 in absurd cc
ends_forward (in_number part bytes d k) whole h = fwd_end-in_number part bytes d k whole h
ends_forward (in_text u content d k) whole h = absurd (no_characters h.0 h.1 h.2 h.3)
ends_forward (in_character p u content d k) whole h = absurd (point_some p h.0 h.1 h.2)

pub ends_backward : (s : State) → EndsBackward s
ends_backward (value d k) whole e = absurd cc
ends_backward (first_element d k) whole e = absurd cc
ends_backward (first_key d k) whole e = absurd cc
ends_backward (next_key d k ms) whole e = absurd cc
ends_backward (colon d k ms key) whole e = absurd cc
ends_backward (after d k v) whole e = back_end-after d k v whole e
ends_backward (in_word next left v d k) whole e = absurd cc
ends_backward (in_number part bytes d k) whole e = back_end-in_number part bytes d k whole e
ends_backward (in_text u content d k) whole e = absurd cc
ends_backward (in_character p u content d k) whole e = absurd cc
