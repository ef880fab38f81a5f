-- What the reader of durations takes is what durations are.
use Rattle.std.proofs.Common.{◌≡◌, ℕ, suc, ◌<◌, ◌⊎◌, ◌↔◌, inl, inr, List, [], ◌∷◌, ◌++◌, length, drop, Bool, true, false, cond, ◌&&◌, ◌||◌, nat_le, Option, Some, None, IsTrue, refl, sym, ap, ◌∙◌, subst, arith, append_assoc}
use Rattle.std.proofs.Math.Seq.{drop-append_seam}
use Rattle.std.specs.List.{AllByRecursion}
use Rattle.std.specs.Option.{option_and_then, option_or, unwrap_or}
use Rattle.std.specs.Char.{is_ascii_digit}
use Rattle.std.proofs.lemmas.Bool.{or_cases, or_right}
use Rattle.json_decimal.specs.Literal.{IsDigit}
use Rattle.value_texts.specs.Durations.{IsCount, IsDurationPart, IsSeconds, IsTimePart, IsDateAndTime, IsWeeks, IsDuration}
use Rattle.value_texts.specs.Machinery.Reading.{leading_digits, is_nothing, is_whole, after_byte, after_count, after_number, after_part, after_fine, after_seconds, after_clock, after_days, is_used, is_time_part, ends_with_time, are_parts, is_rest, is_duration}
use Rattle.value_texts.proofs.Digits.{option_cases, is_within, is_within-in, digit_test, lead_digits, led, byte_takes, byte_gives}

-- ---- a number
drop_lead : (ds rest : List ℕ) → leading_digits (ds ++ rest) ≡ length ds → drop (leading_digits (ds ++ rest)) (ds ++ rest) ≡ rest
drop_lead ds rest e = ap (λ (n : ℕ). drop n (ds ++ rest)) e ∙ drop-append_seam ds rest

pub count_takes : (ds rest : List ℕ) → IsCount ds → leading_digits rest ≡ 0 → after_count (ds ++ rest) ≡ Some rest
unfolding after_count
count_takes ds rest c none =
    let e = lead_digits ds rest c.digits none in
    let t : (nat_le 1 (leading_digits (ds ++ rest)) && nat_le (leading_digits (ds ++ rest)) 9) ≡ true =
    ap (λ (n : ℕ). nat_le 1 n && nat_le n 9) e ∙ is_within-in (length ds) 1 9 c.some c.few in
    ap (λ (b : Bool). cond b (Some (drop (leading_digits (ds ++ rest)) (ds ++ rest))) None) t ∙ ap (λ (l : List ℕ). Some l) (drop_lead ds rest e)

pub record Counted (bs rest : List ℕ) : Type 0 where
  pub count : List ℕ
  pub is_count : IsCount count
  pub split : bs ≡ count ++ rest

count_step : (bs rest : List ℕ) (t : Bool) → (nat_le 1 (leading_digits bs) && nat_le (leading_digits bs) 9) ≡ t → cond t (Some (drop (leading_digits bs) bs)) None ≡ Some rest → Counted bs rest
count_step bs rest true is e =
    let l = led bs in
    let w = is_within (leading_digits bs) 1 9 is in
    let same : drop (leading_digits bs) bs ≡ rest = cc in
    let count = l.count in
    let low = w.0 in
    let high = w.1 in
    record {
      count = l.digits;
      is_count = record { some = omega (arith, count, low); few = omega (arith, count, high); digits = l.all };
      split = l.split ∙ ap (λ (r : List ℕ). l.digits ++ r) same;
    }
count_step bs rest false is e = absurd cc

pub count_gives : (bs rest : List ℕ) → after_count bs ≡ Some rest → Counted bs rest
unfolding after_count
count_gives bs rest e = count_step bs rest (nat_le 1 (leading_digits bs) && nat_le (leading_digits bs) 9) refl e

-- ---- a number and its mark
abbrev IsMark : ℕ → Type 0
IsMark mark = is_ascii_digit mark ≡ false

lead_mark : (mark : ℕ) (rest : List ℕ) → IsMark mark → leading_digits (mark ∷ rest) ≡ 0
lead_mark mark rest is = ap (λ (t : Bool). cond t (suc (leading_digits rest)) 0) is

pub number_takes : (mark : ℕ) (ds rest : List ℕ) → IsMark mark → IsCount ds → after_number mark (ds ++ mark ∷ rest) ≡ Some rest
unfolding after_number
number_takes mark ds rest is c = ap (option_and_then (after_byte mark)) (count_takes ds (mark ∷ rest) c (lead_mark mark rest is)) ∙ byte_takes mark rest

pub record Numbered (mark : ℕ) (bs rest : List ℕ) : Type 0 where
  pub count : List ℕ
  pub is_count : IsCount count
  pub split : bs ≡ count ++ mark ∷ rest

number_step : (mark : ℕ) (bs rest : List ℕ) (o : Option (List ℕ)) → after_count bs ≡ o → option_and_then (after_byte mark) o ≡ Some rest → Numbered mark bs rest
number_step mark bs rest None is e = absurd cc
number_step mark bs rest (Some more) is e =
    let c = count_gives bs more is in
    let s = byte_gives mark more rest e in
    record { count = c.count; is_count = c.is_count; split = c.split ∙ ap (λ (r : List ℕ). c.count ++ r) s }

pub number_gives : (mark : ℕ) (bs rest : List ℕ) → after_number mark bs ≡ Some rest → Numbered mark bs rest
unfolding after_number
number_gives mark bs rest e = number_step mark bs rest (after_count bs) refl e

-- ---- the first byte that is no digit
pub first_mark : List ℕ → Option ℕ
first_mark [] = None
first_mark (b ∷ bs) = cond (is_ascii_digit b) (first_mark bs) (Some b)

mark_behind : (mark : ℕ) (ds rest : List ℕ) → IsMark mark → AllByRecursion IsDigit ds → first_mark (ds ++ mark ∷ rest) ≡ Some mark
unfolding first_mark
mark_behind mark [] rest is all = ap (λ (t : Bool). cond t (first_mark rest) (Some mark)) is
mark_behind mark (d ∷ ds) rest is all = ap (λ (t : Bool). cond t (first_mark (ds ++ mark ∷ rest)) (Some d)) (digit_test d all.0) ∙ mark_behind mark ds rest is all.1

-- where another mark comes first, or none, there is no such number
number_none : (mark : ℕ) (bs : List ℕ) → IsMark mark → (first_mark bs ≡ Some mark → ⊥) → after_number mark bs ≡ None
number_none mark bs is other = elim (option_cases (after_number mark bs)) [
  | inl none ↦ none
  | inr some ↦ (let n = number_gives mark bs some.0 some.1 in
      absurd (other (ap first_mark n.split ∙ mark_behind mark n.count some.0 is n.is_count.digits)))
]

-- ---- parts that may be left out
pub part_takes : (mark : ℕ) (p rest : List ℕ) → IsMark mark → IsDurationPart mark p → (first_mark rest ≡ Some mark → ⊥) → after_part mark (p ++ rest) ≡ rest
unfolding after_part
part_takes mark p rest is (inl none) other =
    ap (λ (l : List ℕ). unwrap_or (after_number mark (l ++ rest)) (l ++ rest)) none
    ∙ ap (λ (o : Option (List ℕ)). unwrap_or o rest) (number_none mark rest is other)
part_takes mark p rest is (inr (count, c, e)) other =
    let whole : p ++ rest ≡ count ++ mark ∷ rest = ap (λ (l : List ℕ). l ++ rest) e ∙ append_assoc count (mark ∷ []) rest in
    ap (λ (o : Option (List ℕ)). unwrap_or o (p ++ rest)) (ap (after_number mark) whole ∙ number_takes mark count rest is c)

-- a part in front brings its own mark
part_mark : (mark other : ℕ) (p rest : List ℕ) → IsMark mark → IsDurationPart mark p → (mark ≡ other → ⊥) → (first_mark rest ≡ Some other → ⊥) → first_mark (p ++ rest) ≡ Some other → ⊥
part_mark mark other p rest is (inl none) differ other_mark h = other_mark (ap (λ (l : List ℕ). first_mark (l ++ rest)) (sym none) ∙ h)
part_mark mark other p rest is (inr (count, c, e)) differ other_mark h =
    let whole : p ++ rest ≡ count ++ mark ∷ rest = ap (λ (l : List ℕ). l ++ rest) e ∙ append_assoc count (mark ∷ []) rest in
    let f : Some mark ≡ Some other = sym (mark_behind mark count rest is c.digits) ∙ (ap first_mark (sym whole) ∙ h) in
    differ cc

pub record Parted (mark : ℕ) (bs rest : List ℕ) : Type 0 where
  pub part : List ℕ
  pub is_part : IsDurationPart mark part
  pub split : bs ≡ part ++ rest

parted_step : (mark : ℕ) (bs : List ℕ) (o : Option (List ℕ)) → after_number mark bs ≡ o → Parted mark bs (unwrap_or o bs)
parted_step mark bs None is = record { part = []; is_part = inl refl; split = refl }
parted_step mark bs (Some rest) is =
    let n = number_gives mark bs rest is in
    record { part = n.count ++ mark ∷ []; is_part = inr (n.count, n.is_count, refl); split = n.split ∙ sym (append_assoc n.count (mark ∷ []) rest) }

pub parted : (mark : ℕ) (bs : List ℕ) → Parted mark bs (after_part mark bs)
unfolding after_part
parted mark bs = parted_step mark bs (after_number mark bs) refl

-- ---- seconds
pub record Fine (bs rest : List ℕ) : Type 0 where
  pub count : List ℕ
  pub more : List ℕ
  pub is_count : IsCount count
  pub is_more : IsCount more
  pub split : bs ≡ count ++ 46 ∷ (more ++ 83 ∷ rest)

fine_of : (bs rest a b : List ℕ) → Counted bs a → a ≡ 46 ∷ b → Numbered 83 b rest → Fine bs rest
fine_of bs rest a b c e n = record {
  count = c.count;
  more = n.count;
  is_count = c.is_count;
  is_more = n.is_count;
  split = c.split ∙ ap (λ (r : List ℕ). c.count ++ r) (e ∙ ap (λ (r : List ℕ). 46 ∷ r) n.split);
}

fine_point : (bs rest a : List ℕ) (o : Option (List ℕ)) → Counted bs a → after_byte 46 a ≡ o → option_and_then (after_number 83) o ≡ Some rest → Fine bs rest
fine_point bs rest a None c is e = absurd cc
fine_point bs rest a (Some b) c is e = fine_of bs rest a b c (byte_gives 46 a b is) (number_gives 83 b rest e)

fine_step : (bs rest : List ℕ) (o : Option (List ℕ)) → after_count bs ≡ o → option_and_then (after_number 83) (option_and_then (after_byte 46) o) ≡ Some rest → Fine bs rest
fine_step bs rest None is e = absurd cc
fine_step bs rest (Some a) is e = fine_point bs rest a (after_byte 46 a) (count_gives bs a is) refl e

fine_gives : (bs rest : List ℕ) → after_fine bs ≡ Some rest → Fine bs rest
unfolding after_fine
fine_gives bs rest e = fine_step bs rest (after_count bs) refl e

fine_takes : (count more rest : List ℕ) → IsCount count → IsCount more → after_fine (count ++ 46 ∷ (more ++ 83 ∷ rest)) ≡ Some rest
unfolding after_fine
fine_takes count more rest c m =
    ap (λ (o : Option (List ℕ)). option_and_then (after_number 83) (option_and_then (after_byte 46) o)) (count_takes count (46 ∷ (more ++ 83 ∷ rest)) c refl)
    ∙ number_takes 83 more rest refl m

pub record Timed (bs rest : List ℕ) : Type 0 where
  pub seconds : List ℕ
  pub are_seconds : IsSeconds seconds
  pub split : bs ≡ seconds ++ rest

fine_split : (bs rest : List ℕ) → Fine bs rest → Timed bs rest
fine_split bs rest f = record {
  seconds = f.count ++ 46 ∷ (f.more ++ 83 ∷ []);
  are_seconds = inr (f.count, f.more, f.is_count, f.is_more, refl);
  split = f.split ∙ ap (λ (r : List ℕ). f.count ++ 46 ∷ r) (sym (append_assoc f.more (83 ∷ []) rest)) ∙ sym (append_assoc f.count (46 ∷ (f.more ++ 83 ∷ [])) rest);
}

timed_fine : (bs : List ℕ) (o : Option (List ℕ)) → after_fine bs ≡ o → Timed bs (unwrap_or o bs)
timed_fine bs None is = record { seconds = []; are_seconds = inl (inl refl); split = refl }
timed_fine bs (Some rest) is = fine_split bs rest (fine_gives bs rest is)

timed_step : (bs : List ℕ) (o : Option (List ℕ)) → after_number 83 bs ≡ o → Timed bs (unwrap_or (option_or o (after_fine bs)) bs)
timed_step bs None is = timed_fine bs (after_fine bs) refl
timed_step bs (Some rest) is =
    let n = number_gives 83 bs rest is in
    record { seconds = n.count ++ 83 ∷ []; are_seconds = inl (inr (n.count, n.is_count, refl)); split = n.split ∙ sym (append_assoc n.count (83 ∷ []) rest) }

pub timed : (bs : List ℕ) → Timed bs (after_seconds bs)
unfolding after_seconds
timed bs = timed_step bs (after_number 83 bs) refl

-- with nothing behind them
append_nothing : (l : List ℕ) → l ++ [] ≡ l
append_nothing [] = refl
append_nothing (b ∷ l) = ap (λ (m : List ℕ). b ∷ m) (append_nothing l)

seconds_nothing : after_seconds [] ≡ []
unfolding after_seconds after_number after_count after_fine
seconds_nothing = refl

seconds_whole : (s : List ℕ) → IsSeconds s → after_seconds s ≡ []
unfolding after_seconds
seconds_whole s (inl (inl none)) = ap after_seconds none ∙ seconds_nothing
seconds_whole s (inl (inr (count, c, e))) =
    ap (λ (o : Option (List ℕ)). unwrap_or (option_or o (after_fine s)) s) (ap (after_number 83) e ∙ number_takes 83 count [] refl c)
seconds_whole s (inr (count, more, c, m, e)) =
    let other : first_mark s ≡ Some 83 → ⊥ = λ h. (let f : ◌≡◌ {A = Option ℕ} (Some 46) (Some 83) = sym (mark_behind 46 count (more ++ 83 ∷ []) refl c.digits) ∙ (ap first_mark (sym e) ∙ h) in let g : ◌≡◌ {A = ℕ} 46 83 = cc in omega (arith, g)) in
    ap (λ (o : Option (List ℕ)). unwrap_or (option_or o (after_fine s)) s) (number_none 83 s refl other)
    ∙ ap (λ (o : Option (List ℕ)). unwrap_or o s) (ap after_fine e ∙ fine_takes count more [] c m)

seconds_mark : (s : List ℕ) (other : ℕ) → IsSeconds s → (83 ≡ other → ⊥) → (46 ≡ other → ⊥) → first_mark s ≡ Some other → ⊥
unfolding first_mark
seconds_mark s other (inl (inl none)) a b h = let f : None ≡ Some other = ap first_mark (sym none) ∙ h in cc
seconds_mark s other (inl (inr (count, c, e))) a b h =
    let f : Some 83 ≡ Some other = sym (mark_behind 83 count [] refl c.digits) ∙ (ap first_mark (sym e) ∙ h) in a cc
seconds_mark s other (inr (count, more, c, m, e)) a b h =
    let f : Some 46 ≡ Some other = sym (mark_behind 46 count (more ++ 83 ∷ []) refl c.digits) ∙ (ap first_mark (sym e) ∙ h) in b cc

-- ---- times
clock_takes : (h m s : List ℕ) → IsDurationPart 72 h → IsDurationPart 77 m → IsSeconds s → after_clock (h ++ (m ++ s)) ≡ []
unfolding after_clock
clock_takes h m s ph pm ps =
    let one = part_takes 72 h (m ++ s) refl ph (part_mark 77 72 m s refl pm (λ e. omega (arith, e)) (seconds_mark s 72 ps (λ e. omega (arith, e)) (λ e. omega (arith, e)))) in
    let two = part_takes 77 m s refl pm (seconds_mark s 77 ps (λ e. omega (arith, e)) (λ e. omega (arith, e))) in
    ap (λ (l : List ℕ). after_seconds (after_part 77 l)) one ∙ ap after_seconds two ∙ seconds_whole s ps

nothing_left : (l : List ℕ) → is_nothing l ≡ true → l ≡ []
nothing_left [] h = refl
nothing_left (b ∷ l) h = cc

used_takes : (l rest : List ℕ) → 0 < length l → rest ≡ [] → is_used l rest ≡ true
used_takes [] rest some none = absurd (omega (arith, some))
used_takes (b ∷ l) rest some none = ap is_nothing none

used_gives : (l rest : List ℕ) → is_used l rest ≡ true → (0 < length l) × (rest ≡ [])
used_gives [] rest h = absurd cc
used_gives (b ∷ l) rest h = (omega arith, nothing_left rest h)

time_takes : (t : List ℕ) → IsTimePart t → ends_with_time t ≡ true
unfolding ends_with_time
time_takes t p =
    let x = p.hours ++ (p.minutes ++ p.seconds) in
    ap ends_with_time p.spelled ∙ used_takes x (after_clock x) p.some (clock_takes p.hours p.minutes p.seconds p.are_hours p.are_minutes p.are_seconds)

time_of : (t : List ℕ) → 0 < length t → after_clock t ≡ [] → IsTimePart (84 ∷ t)
unfolding after_clock
time_of t some none =
    let h = parted 72 t in
    let m = parted 77 (after_part 72 t) in
    let s = timed (after_part 77 (after_part 72 t)) in
    let last : after_part 77 (after_part 72 t) ≡ s.seconds = s.split ∙ ap (λ (r : List ℕ). s.seconds ++ r) none ∙ append_nothing s.seconds in
    let whole : t ≡ h.part ++ (m.part ++ s.seconds) = h.split ∙ ap (λ (r : List ℕ). h.part ++ r) (m.split ∙ ap (λ (r : List ℕ). m.part ++ r) last) in
    record {
      hours = h.part;
      minutes = m.part;
      seconds = s.seconds;
      are_hours = h.is_part;
      are_minutes = m.is_part;
      are_seconds = s.are_seconds;
      some = subst (λ (l : List ℕ). 0 < length l) whole some;
      spelled = ap (λ (l : List ℕ). 84 ∷ l) whole;
    }

time_step : (t : List ℕ) (o : Option (List ℕ)) → after_byte 84 t ≡ o → is_time_part o ≡ true → IsTimePart t
time_step t None is h = absurd cc
time_step t (Some rest) is h =
    let u = used_gives rest (after_clock rest) h in
    subst IsTimePart (sym (byte_gives 84 t rest is)) (time_of rest u.0 u.1)

time_gives : (t : List ℕ) → ends_with_time t ≡ true → (t ≡ []) ⊎ IsTimePart t
unfolding ends_with_time
time_gives t h = elim (or_cases (is_nothing t) (is_time_part (after_byte 84 t)) h) [
  | inl none ↦ inl (nothing_left t none)
  | inr some ↦ inr (time_step t (after_byte 84 t) refl some)
]

-- ---- whole durations
time_mark : (t : List ℕ) (other : ℕ) → (t ≡ []) ⊎ IsTimePart t → (84 ≡ other → ⊥) → first_mark t ≡ Some other → ⊥
unfolding first_mark
time_mark t other (inl none) a h = let f : None ≡ Some other = ap first_mark (sym none) ∙ h in cc
time_mark t other (inr p) a h = let f : Some 84 ≡ Some other = ap first_mark (sym p.spelled) ∙ h in a cc

days_take : (y m d t : List ℕ) → IsDurationPart 89 y → IsDurationPart 77 m → IsDurationPart 68 d → (t ≡ []) ⊎ IsTimePart t → after_days (y ++ (m ++ (d ++ t))) ≡ t
unfolding after_days
days_take y m d t py pm pd pt =
    let three = part_takes 68 d t refl pd (time_mark t 68 pt (λ e. omega (arith, e))) in
    let two = part_takes 77 m (d ++ t) refl pm (part_mark 68 77 d t refl pd (λ e. omega (arith, e)) (time_mark t 77 pt (λ e. omega (arith, e)))) in
    let one = part_takes 89 y (m ++ (d ++ t)) refl py
    (part_mark 77 89 m (d ++ t) refl pm (λ e. omega (arith, e)) (part_mark 68 89 d t refl pd (λ e. omega (arith, e)) (time_mark t 89 pt (λ e. omega (arith, e))))) in
    ap (λ (l : List ℕ). after_part 68 (after_part 77 l)) one ∙ ap (after_part 68) two ∙ three

ends_take : (t : List ℕ) → (t ≡ []) ⊎ IsTimePart t → ends_with_time t ≡ true
unfolding ends_with_time
ends_take t (inl none) = ap ends_with_time none
ends_take t (inr p) = time_takes t p

parts_of : (bs : List ℕ) → 0 < length bs → ends_with_time (after_days bs) ≡ true → are_parts bs ≡ true
parts_of [] some h = absurd (omega (arith, some))
parts_of (b ∷ bs) some h = h

parts_take : (bs : List ℕ) → IsDateAndTime bs → are_parts bs ≡ true
parts_take bs p = parts_of bs p.some
    (ap ends_with_time (ap after_days p.spelled ∙ days_take p.years p.months p.days p.time p.are_years p.are_months p.are_days p.is_time) ∙ ends_take p.time p.is_time)

parts_give : (bs : List ℕ) → are_parts bs ≡ true → IsDateAndTime bs
unfolding after_days
parts_give [] h = absurd cc
parts_give (b ∷ bs) h =
    let y = parted 89 (b ∷ bs) in
    let m = parted 77 (after_part 89 (b ∷ bs)) in
    let d = parted 68 (after_part 77 (after_part 89 (b ∷ bs))) in
    record {
      years = y.part;
      months = m.part;
      days = d.part;
      time = after_part 68 (after_part 77 (after_part 89 (b ∷ bs)));
      are_years = y.is_part;
      are_months = m.is_part;
      are_days = d.is_part;
      is_time = time_gives (after_part 68 (after_part 77 (after_part 89 (b ∷ bs)))) h;
      some = omega arith;
      spelled = y.split ∙ ap (λ (r : List ℕ). y.part ++ r) (m.split ∙ ap (λ (r : List ℕ). m.part ++ r) d.split);
    }

weeks_take : (bs : List ℕ) → IsWeeks bs → is_whole (after_number 87 bs) ≡ true
weeks_take bs w = ap is_whole (ap (after_number 87) w.spelled ∙ number_takes 87 w.count [] refl w.is_count)

weeks_step : (bs : List ℕ) (o : Option (List ℕ)) → after_number 87 bs ≡ o → is_whole o ≡ true → IsWeeks bs
weeks_step bs None is h = absurd cc
weeks_step bs (Some rest) is h =
    let n = number_gives 87 bs rest is in
    record { count = n.count; is_count = n.is_count; spelled = n.split ∙ ap (λ (r : List ℕ). n.count ++ 87 ∷ r) (nothing_left rest h) }

rest_take : (bs : List ℕ) → IsDateAndTime bs ⊎ IsWeeks bs → is_rest (Some bs) ≡ true
rest_take bs (inl p) = or_right (is_whole (after_number 87 bs)) (are_parts bs) (parts_take bs p)
rest_take bs (inr w) = ap (λ (b : Bool). b || are_parts bs) (weeks_take bs w)

rest_give : (bs : List ℕ) → is_rest (Some bs) ≡ true → IsDateAndTime bs ⊎ IsWeeks bs
rest_give bs h = elim (or_cases (is_whole (after_number 87 bs)) (are_parts bs) h) [
  | inl w ↦ inr (weeks_step bs (after_number 87 bs) refl w)
  | inr p ↦ inl (parts_give bs p)
]

duration_step : (bs : List ℕ) (o : Option (List ℕ)) → after_byte 80 bs ≡ o → is_rest o ≡ true → IsDuration bs
duration_step bs None is h = absurd cc
duration_step bs (Some rest) is h = record { parts = rest; are_parts = rest_give rest h; spelled = byte_gives 80 bs rest is }

pub duration_exact : (bs : List ℕ) → IsTrue (is_duration bs) ↔ IsDuration bs
unfolding is_duration
duration_exact bs = (
  λ h. duration_step bs (after_byte 80 bs) refl h,
  λ d. ap is_duration d.spelled ∙ rest_take d.parts d.are_parts,
)
