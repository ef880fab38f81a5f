-- What the readers give: what follows what stands at the front.
use Rattle.std.specs.Prelude.{ℕ, suc, ◌+◌, ◌-◌, ◌*◌, List, [], ◌∷◌, Option, Some, None, Bool, true, false, cond, ◌==◌, ◌&&◌, ◌||◌, nat_le, drop}
use Rattle.std.specs.Option.{option_and_then, option_or, unwrap_or}
use Rattle.std.specs.Char.{is_ascii_digit}
use Rattle.value_texts.specs.Calendar.{days_in_month}

abbrev pub is_nothing : List ℕ → Bool
is_nothing [] = true
is_nothing (b ∷ bs) = false

-- ---- bytes and numbers
abbrev pub after_byte : ℕ → List ℕ → Option (List ℕ)
after_byte byte [] = None
after_byte byte (b ∷ bs) = cond (b == byte) (Some bs) None

abbrev pub after_either : ℕ → ℕ → List ℕ → Option (List ℕ)
after_either one other [] = None
after_either one other (b ∷ bs) = cond (b == one) (Some bs) (cond (b == other) (Some bs) None)

abbrev pub read_digit : List ℕ → Option (ℕ × List ℕ)
read_digit [] = None
read_digit (b ∷ bs) = cond (is_ascii_digit b) (Some (b - 48, bs)) None

unfoldable pub read_two : List ℕ → Option (ℕ × List ℕ)
read_two bs = option_and_then (λ (p : ℕ × List ℕ). option_and_then (λ (q : ℕ × List ℕ). Some (p.0 * 10 + q.0, q.1)) (read_digit p.1)) (read_digit bs)

unfoldable pub read_four : List ℕ → Option (ℕ × List ℕ)
read_four bs = option_and_then (λ (p : ℕ × List ℕ). option_and_then (λ (q : ℕ × List ℕ). Some (p.0 * 100 + q.0, q.1)) (read_two p.1)) (read_two bs)

-- ---- dates
abbrev pub is_day : ℕ → ℕ → ℕ → Bool
is_day y m d = nat_le 1 m && (nat_le m 12 && (nat_le 1 d && nat_le d (days_in_month y m)))

-- behind a hyphen and a number of two digits
unfoldable pub after_hyphen : List ℕ → Option (ℕ × List ℕ)
after_hyphen bs = option_and_then read_two (after_byte 45 bs)

unfoldable pub after_date : List ℕ → Option (List ℕ)
after_date bs = option_and_then (λ (y : ℕ × List ℕ). option_and_then (λ (m : ℕ × List ℕ). option_and_then (λ (d : ℕ × List ℕ). cond (is_day y.0 m.0 d.0) (Some d.1) None) (after_hyphen m.1)) (after_hyphen y.1)) (read_four bs)

-- ---- times
-- behind a number of two digits that is at most this
unfoldable pub after_within : ℕ → List ℕ → Option (List ℕ)
after_within most bs = option_and_then (λ (p : ℕ × List ℕ). cond (nat_le p.0 most) (Some p.1) None) (read_two bs)

-- behind a colon and such a number
unfoldable pub after_colon : ℕ → List ℕ → Option (List ℕ)
after_colon most bs = option_and_then (after_within most) (after_byte 58 bs)

-- how many digits stand at the front
abbrev pub leading_digits : List ℕ → ℕ
leading_digits [] = 0
leading_digits (b ∷ bs) = cond (is_ascii_digit b) (suc (leading_digits bs)) 0

-- behind the digits that follow a point
abbrev pub after_digits : List ℕ → Option (List ℕ)
after_digits bs = cond (nat_le 1 (leading_digits bs)) (Some (drop (leading_digits bs) bs)) None

unfoldable pub after_fraction : List ℕ → Option (List ℕ)
after_fraction [] = Some []
after_fraction (b ∷ bs) = cond (b == 46) (after_digits bs) (Some (b ∷ bs))

unfoldable pub after_offset : List ℕ → Option (List ℕ)
after_offset bs = option_or (after_either 90 122 bs) (option_and_then (after_colon 59) (option_and_then (after_within 23) (after_either 43 45 bs)))

unfoldable pub after_time : List ℕ → Option (List ℕ)
after_time bs = option_and_then after_offset (option_and_then after_fraction (option_and_then (after_colon 60) (option_and_then (after_colon 59) (after_within 23 bs))))

-- ---- whole texts
abbrev pub is_whole : Option (List ℕ) → Bool
is_whole None = false
is_whole (Some bs) = is_nothing bs

unfoldable pub after_date_time : List ℕ → Option (List ℕ)
after_date_time bs = option_and_then after_time (option_and_then (after_either 84 116) (after_date bs))

-- ---- durations
-- behind one digit to nine
unfoldable pub after_count : List ℕ → Option (List ℕ)
after_count bs = cond (nat_le 1 (leading_digits bs) && nat_le (leading_digits bs) 9) (Some (drop (leading_digits bs) bs)) None

-- behind a number and a mark
unfoldable pub after_number : ℕ → List ℕ → Option (List ℕ)
after_number mark bs = option_and_then (after_byte mark) (after_count bs)

-- the same, and all of it where these do not stand there
unfoldable pub after_part : ℕ → List ℕ → List ℕ
after_part mark bs = unwrap_or (after_number mark bs) bs

-- behind a number with a fraction, of seconds
unfoldable pub after_fine : List ℕ → Option (List ℕ)
after_fine bs = option_and_then (after_number 83) (option_and_then (after_byte 46) (after_count bs))

unfoldable pub after_seconds : List ℕ → List ℕ
after_seconds bs = unwrap_or (option_or (after_number 83 bs) (after_fine bs)) bs

unfoldable pub after_clock : List ℕ → List ℕ
after_clock bs = after_seconds (after_part 77 (after_part 72 bs))

unfoldable pub after_days : List ℕ → List ℕ
after_days bs = after_part 68 (after_part 77 (after_part 89 bs))

-- something, of which nothing is left
abbrev pub is_used : List ℕ → List ℕ → Bool
is_used [] rest = false
is_used (b ∷ bs) rest = is_nothing rest

abbrev pub is_time_part : Option (List ℕ) → Bool
is_time_part None = false
is_time_part (Some bs) = is_used bs (after_clock bs)

unfoldable pub ends_with_time : List ℕ → Bool
ends_with_time bs = is_nothing bs || is_time_part (after_byte 84 bs)

abbrev pub are_parts : List ℕ → Bool
are_parts [] = false
are_parts (b ∷ bs) = ends_with_time (after_days (b ∷ bs))

abbrev pub is_rest : Option (List ℕ) → Bool
is_rest None = false
is_rest (Some bs) = is_whole (after_number 87 bs) || are_parts bs

unfoldable pub is_duration : List ℕ → Bool
is_duration bs = is_rest (after_byte 80 bs)
