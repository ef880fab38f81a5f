-- Reading one byte at a time, which ties the functions to the grammar. No public contract speaks of it. Some text begins
-- with the bytes read so far in each state that there is, so a byte is wrong where no state follows.
use Rattle.std.specs.Prelude.{ℕ, zero, suc, ◌+◌, ◌-◌, ◌*◌, List, [], ◌∷◌, ◌++◌, drop, Bool, true, false, ◌&&◌, ◌==◌, nat_le, if◌then◌else◌, Option, Some, None, encode_utf8}
use Rattle.json_tree.specs.Values.{Raw, null, truth, number, text, array, object, no_elements, no_members, elements_of, members_of}
use Rattle.json_tree.specs.Grammar.{paired, tail}

-- Members of an object, in the order of the text.
abbrev pub Pairs : Type 0
Pairs = List (List ℕ × Raw)

-- What a text is: a value, or the key behind these members.
pub data Use : Type 0 where
  as_value : Use
  as_key : Pairs → Use

-- What a value stands in: an array behind these elements, or an object behind these members and this key.
pub data Frame : Type 0 where
  in_array : List Raw → Frame
  in_object : Pairs → List ℕ → Frame

-- How far a number is. A count tells how many digits may still come; behind a point one must come before these.
pub data Part : Type 0 where
  behind_minus : Part
  behind_zero : Part
  in_integer : ℕ → Part
  behind_point : ℕ → Part
  in_fraction : ℕ → Part
  behind_mark : Part
  behind_sign : Part
  in_power : ℕ → Part

-- What remains of a character of two to four bytes: some tails, or the second byte of a narrower range first.
pub data Sequence : Type 0 where
  one_tail : Sequence
  two_tails : Sequence
  three_tails : Sequence
  after_e0 : Sequence
  after_ed : Sequence
  after_f0 : Sequence
  after_f4 : Sequence

-- Where a character of a text that is no single byte stands: behind the backslash; before the digits of a unit,
-- behind D, before so many digits and one, with the value so far; before so many digits and one of a high
-- surrogate; with a high surrogate, before the backslash, the `u`, the D, C to F, and so many digits and one; inside
-- the bytes of a character.
pub data Point : Type 0 where
  escaped : Point
  first_digit : Point
  behind_d : Point
  digits : ℕ → ℕ → Point
  high_digits : ℕ → ℕ → Point
  low_escape : ℕ → Point
  low_letter : ℕ → Point
  low_first : ℕ → Point
  low_second : ℕ → Point
  low_digits : ℕ → ℕ → ℕ → Point
  in_sequence : Sequence → Point

-- Each has how deep a value may nest here and the frames, the innermost first. Before the first element or key, and
-- round keys, the frames are those of the array or object.
pub data State : Type 0 where
  value : ℕ → List Frame → State
  first_element : ℕ → List Frame → State
  first_key : ℕ → List Frame → State
  next_key : ℕ → List Frame → Pairs → State
  colon : ℕ → List Frame → Pairs → List ℕ → State
  after : ℕ → List Frame → Raw → State
  in_word : ℕ → List ℕ → Raw → ℕ → List Frame → State
  in_number : Part → List ℕ → ℕ → List Frame → State
  in_text : Use → List ℕ → ℕ → List Frame → State
  in_character : Point → Use → List ℕ → ℕ → List Frame → State

abbrev pub start : State
start = value 64 []

-- white space changes nothing
abbrev pub spaced : State → ℕ → Option State → Option State
spaced s b other = if b == 32 then Some s else if b == 9 then Some s else if b == 10 then Some s else if b == 13 then Some s else other

-- ---- numbers
abbrev pub at_mark : ℕ → Option Part
at_mark b = if b == 101 then Some behind_mark else if b == 69 then Some behind_mark else None

abbrev pub at_digit : ℕ → Part → Option Part → Option Part
at_digit b part other = if nat_le 48 b && nat_le b 57 then Some part else other

abbrev pub number_step : Part → ℕ → Option Part
number_step behind_minus b = if b == 48 then Some behind_zero else if nat_le 49 b && nat_le b 57 then Some (in_integer 37) else None
number_step behind_zero b = if b == 46 then Some (behind_point 36) else at_mark b
number_step (in_integer zero) b = at_mark b
number_step (in_integer (suc n)) b = at_digit b (in_integer n) (if b == 46 then Some (behind_point n) else at_mark b)
number_step (behind_point n) b = at_digit b (in_fraction n) None
number_step (in_fraction zero) b = at_mark b
number_step (in_fraction (suc n)) b = at_digit b (in_fraction n) (at_mark b)
number_step behind_mark b = if b == 43 then Some behind_sign else if b == 45 then Some behind_sign else at_digit b (in_power 2) None
number_step behind_sign b = at_digit b (in_power 2) None
number_step (in_power zero) b = None
number_step (in_power (suc n)) b = at_digit b (in_power n) None

-- a number may end here
abbrev pub may_end : Part → Bool
may_end behind_zero = true
may_end (in_integer n) = true
may_end (in_fraction n) = true
may_end (in_power n) = true
may_end other = false

-- ---- characters
-- No character has this byte here; more bytes follow; this byte is one of the text's, and more follow; or the
-- character ends, and these bytes are the text's.
pub data Move : Type 0 where
  dead : Move
  on : Point → Move
  on_with : ℕ → Point → Move
  done : List ℕ → Move

abbrev pub lead : ℕ → Move
lead b =
    if nat_le 0xC2 b && nat_le b 0xDF then on_with b (in_sequence one_tail)
    else if b == 0xE0 then on_with b (in_sequence after_e0)
    else if nat_le 0xE1 b && nat_le b 0xEC then on_with b (in_sequence two_tails)
    else if b == 0xED then on_with b (in_sequence after_ed)
    else if nat_le 0xEE b && nat_le b 0xEF then on_with b (in_sequence two_tails)
    else if b == 0xF0 then on_with b (in_sequence after_f0)
    else if nat_le 0xF1 b && nat_le b 0xF3 then on_with b (in_sequence three_tails)
    else if b == 0xF4 then on_with b (in_sequence after_f4)
    else dead

-- a character's first byte, but for the quotation mark
abbrev pub first_step : ℕ → Move
first_step b = if b == 92 then on escaped else if nat_le 32 b && nat_le b 127 then done (b ∷ []) else lead b

-- the ranges of the bytes that remain
abbrev pub ranges : Sequence → List (ℕ × ℕ)
ranges one_tail = tail ∷ []
ranges two_tails = tail ∷ tail ∷ []
ranges three_tails = tail ∷ tail ∷ tail ∷ []
ranges after_e0 = (0xA0, 0xBF) ∷ tail ∷ []
ranges after_ed = (0x80, 0x9F) ∷ tail ∷ []
ranges after_f0 = (0x90, 0xBF) ∷ tail ∷ tail ∷ []
ranges after_f4 = (0x80, 0x8F) ∷ tail ∷ tail ∷ []

abbrev pub sequence_step : Sequence → ℕ → Move
sequence_step one_tail b = if nat_le 0x80 b && nat_le b 0xBF then done (b ∷ []) else dead
sequence_step two_tails b = if nat_le 0x80 b && nat_le b 0xBF then on_with b (in_sequence one_tail) else dead
sequence_step three_tails b = if nat_le 0x80 b && nat_le b 0xBF then on_with b (in_sequence two_tails) else dead
sequence_step after_e0 b = if nat_le 0xA0 b && nat_le b 0xBF then on_with b (in_sequence one_tail) else dead
sequence_step after_ed b = if nat_le 0x80 b && nat_le b 0x9F then on_with b (in_sequence one_tail) else dead
sequence_step after_f0 b = if nat_le 0x90 b && nat_le b 0xBF then on_with b (in_sequence two_tails) else dead
sequence_step after_f4 b = if nat_le 0x80 b && nat_le b 0x8F then on_with b (in_sequence two_tails) else dead

abbrev pub escape_step : ℕ → Move
escape_step b =
    if b == 34 then done (34 ∷ [])
    else if b == 92 then done (92 ∷ [])
    else if b == 47 then done (47 ∷ [])
    else if b == 98 then done (8 ∷ [])
    else if b == 102 then done (12 ∷ [])
    else if b == 110 then done (10 ∷ [])
    else if b == 114 then done (13 ∷ [])
    else if b == 116 then done (9 ∷ [])
    else if b == 117 then on first_digit
    else dead

-- what follows a hexadecimal digit, by its value
abbrev pub at_hex : ℕ → (ℕ → Move) → Move
at_hex b next =
    if nat_le 48 b && nat_le b 57 then next (b - 48)
    else if nat_le 65 b && nat_le b 70 then next (b - 55)
    else if nat_le 97 b && nat_le b 102 then next (b - 87)
    else dead

abbrev pub first_digit_move : ℕ → Move
first_digit_move x = if x == 13 then on behind_d else on (digits 2 x)

abbrev pub behind_d_move : ℕ → Move
behind_d_move x = if nat_le x 7 then on (digits 1 (13 * 16 + x)) else if nat_le x 11 then on (high_digits 1 (13 * 16 + x)) else dead

abbrev pub low_first_move : ℕ → ℕ → Move
low_first_move high x = if x == 13 then on (low_second high) else dead

abbrev pub low_second_move : ℕ → ℕ → Move
low_second_move high x = if nat_le 12 x then on (low_digits 1 high (13 * 16 + x)) else dead

abbrev pub point_step : Point → ℕ → Move
point_step escaped b = escape_step b
point_step first_digit b = at_hex b first_digit_move
point_step behind_d b = at_hex b behind_d_move
point_step (digits zero before) b = at_hex b (λ x. done (encode_utf8 (before * 16 + x)))
point_step (digits (suc n) before) b = at_hex b (λ x. on (digits n (before * 16 + x)))
point_step (high_digits zero before) b = at_hex b (λ x. on (low_escape (before * 16 + x)))
point_step (high_digits (suc n) before) b = at_hex b (λ x. on (high_digits n (before * 16 + x)))
point_step (low_escape high) b = if b == 92 then on (low_letter high) else dead
point_step (low_letter high) b = if b == 117 then on (low_first high) else dead
point_step (low_first high) b = at_hex b (low_first_move high)
point_step (low_second high) b = at_hex b (low_second_move high)
point_step (low_digits zero high before) b = at_hex b (λ x. done (paired high (before * 16 + x)))
point_step (low_digits (suc n) high before) b = at_hex b (λ x. on (low_digits n high (before * 16 + x)))
point_step (in_sequence s) b = sequence_step s b

abbrev pub moved : Use → List ℕ → ℕ → List Frame → Move → Option State
moved u content d k dead = None
moved u content d k (on p) = Some (in_character p u content d k)
moved u content d k (on_with b p) = Some (in_character p u (content ++ b ∷ []) d k)
moved u content d k (done bytes) = Some (in_text u (content ++ bytes) d k)

-- the text has ended
abbrev pub used : Use → List ℕ → ℕ → List Frame → State
used as_value content d k = after d k (text content)
used (as_key ms) content d k = colon d k ms content

-- ---- values
abbrev pub open_array : ℕ → List Frame → Option State
open_array zero k = None
open_array (suc d) k = Some (first_element d k)

abbrev pub open_object : ℕ → List Frame → Option State
open_object zero k = None
open_object (suc d) k = Some (first_key d k)

-- a value's first byte
abbrev pub value_start : ℕ → List Frame → ℕ → Option State
value_start d k b =
    if b == 34 then Some (in_text as_value [] d k)
    else if b == 91 then open_array d k
    else if b == 123 then open_object d k
    else if b == 110 then Some (in_word 117 (108 ∷ 108 ∷ []) null d k)
    else if b == 116 then Some (in_word 114 (117 ∷ 101 ∷ []) (truth true) d k)
    else if b == 102 then Some (in_word 97 (108 ∷ 115 ∷ 101 ∷ []) (truth false) d k)
    else if b == 45 then Some (in_number behind_minus (b ∷ []) d k)
    else if b == 48 then Some (in_number behind_zero (b ∷ []) d k)
    else if nat_le 49 b && nat_le b 57 then Some (in_number (in_integer 37) (b ∷ []) d k)
    else None

-- a byte behind a value that is no white space
abbrev pub closes : List Frame → ℕ → Raw → ℕ → Option State
closes [] d v b = None
closes (in_array vs ∷ k) d v b =
    if b == 44 then Some (value d (in_array (vs ++ v ∷ []) ∷ k))
    else if b == 93 then Some (after (suc d) k (array (elements_of (vs ++ v ∷ []))))
    else None
closes (in_object ms key ∷ k) d v b =
    if b == 44 then Some (next_key d k (ms ++ (key, v) ∷ []))
    else if b == 125 then Some (after (suc d) k (object (members_of (ms ++ (key, v) ∷ []))))
    else None

abbrev pub after_step : ℕ → List Frame → Raw → ℕ → Option State
after_step d k v b = spaced (after d k v) b (closes k d v b)

abbrev pub word_next : List ℕ → Raw → ℕ → List Frame → State
word_next [] v d k = after d k v
word_next (b ∷ left) v d k = in_word b left v d k

abbrev pub number_end : Bool → Option State → Option State
number_end true next = next
number_end false next = None

abbrev pub number_next : Option Part → Part → List ℕ → ℕ → List Frame → ℕ → Option State
number_next (Some next) part bytes d k b = Some (in_number next (bytes ++ b ∷ []) d k)
number_next None part bytes d k b = number_end (may_end part) (after_step d k (number bytes) b)

-- ---- one byte, and the end
abbrev pub step : State → ℕ → Option State
step (value d k) b = spaced (value d k) b (value_start d k b)
step (first_element d k) b = spaced (first_element d k) b
    (if b == 93 then Some (after (suc d) k (array no_elements)) else value_start d (in_array [] ∷ k) b)
step (first_key d k) b = spaced (first_key d k) b
    (if b == 34 then Some (in_text (as_key []) [] d k)
    else if b == 125 then Some (after (suc d) k (object no_members)) else None)
step (next_key d k ms) b = spaced (next_key d k ms) b (if b == 34 then Some (in_text (as_key ms) [] d k) else None)
step (colon d k ms key) b = spaced (colon d k ms key) b (if b == 58 then Some (value d (in_object ms key ∷ k)) else None)
step (after d k v) b = after_step d k v b
step (in_word next left v d k) b = if b == next then Some (word_next left v d k) else None
step (in_number part bytes d k) b = number_next (number_step part b) part bytes d k b
step (in_text u content d k) b = if b == 34 then Some (used u content d k) else moved u content d k (first_step b)
step (in_character p u content d k) b = moved u content d k (point_step p b)

-- the value, where the text may end here
abbrev pub value_at_end : List Frame → Raw → Option Raw
value_at_end [] v = Some v
value_at_end (f ∷ k) v = None

abbrev pub number_at_end : Bool → List Frame → Raw → Option Raw
number_at_end true k v = value_at_end k v
number_at_end false k v = None

abbrev pub end : State → Option Raw
end (after d k v) = value_at_end k v
end (in_number part bytes d k) = number_at_end (may_end part) k (number bytes)
end other = None

-- ---- all bytes
-- The byte at this position is wrong, the bytes are cut short, or they are a text of this value.
pub data Outcome : Type 0 where
  wrong : ℕ → Outcome
  cut : Outcome
  gives : Raw → Outcome

abbrev pub outcome_at_end : Option Raw → Outcome
outcome_at_end None = cut
outcome_at_end (Some raw) = gives raw

-- the outcome where a step gives nothing, or a state that has its own
abbrev pub followed_step : Option State → ℕ → (State → Outcome) → Outcome
followed_step None at next = wrong at
followed_step (Some s) at next = next s

-- the outcome of bytes from this state on, of which the first stands at this position
abbrev pub outcome : State → ℕ → List ℕ → Outcome
outcome s at [] = outcome_at_end (end s)
outcome s at (b ∷ bytes) = followed_step (step s b) at (λ t. outcome t (at + 1) bytes)

-- the outcome of the bytes from a position on
unfoldable pub reading : List ℕ → State → ℕ → Outcome
reading bytes s at = outcome s at (drop at bytes)
