-- What the reader of dates takes is what dates are.
use Rattle.std.proofs.Common.{◌≡◌, ℕ, ◌<◌, ◌≤◌, ◌↔◌, List, [], ◌∷◌, ◌++◌, Bool, true, false, cond, ◌&&◌, nat_le, Option, Some, None, IsTrue, refl, sym, ap, ◌∙◌, subst, arith, rules}
use Rattle.std.specs.Option.{option_and_then}
use Rattle.std.proofs.lemmas.Bool.{and_from, and_parts}
use Rattle.value_texts.specs.Calendar.{HasDay, days_in_month}
use Rattle.value_texts.specs.Clock.{IsDate, two_digits, four_digits}
use Rattle.value_texts.specs.Machinery.Reading.{is_nothing, is_whole, is_day, after_byte, read_two, read_four, after_hyphen, after_date}
use Rattle.value_texts.proofs.Digits.{byte_takes, byte_gives}
use Rattle.value_texts.proofs.Numbers.{two_takes, two_gives, four_takes, four_gives, ReadFour}

-- ---- days
le_test : (m n : ℕ) → m ≤ n → nat_le m n ≡ true
le_test m n h = search rules

le_of : (m n : ℕ) → nat_le m n ≡ true → m ≤ n
le_of m n h = search rules

day_test : (y m d : ℕ) → HasDay y m d → is_day y m d ≡ true
day_test y m d h =
    and_from (nat_le 1 m) _ (le_test 1 m h.first_month) (and_from (nat_le m 12) _ (le_test m 12 h.last_month)
    (and_from (nat_le 1 d) _ (le_test 1 d h.first_day) (le_test d (days_in_month y m) h.last_day)))

day_of : (y m d : ℕ) → is_day y m d ≡ true → HasDay y m d
day_of y m d h =
    let a = and_parts (nat_le 1 m) (nat_le m 12 && (nat_le 1 d && nat_le d (days_in_month y m))) h in
    let b = and_parts (nat_le m 12) (nat_le 1 d && nat_le d (days_in_month y m)) a.1 in
    let c = and_parts (nat_le 1 d) (nat_le d (days_in_month y m)) b.1 in
    record { first_month = le_of 1 m a.0; last_month = le_of m 12 b.0; first_day = le_of 1 d c.0; last_day = le_of d (days_in_month y m) c.1 }

-- ---- a hyphen and a number
pub record Hyphened (bs : List ℕ) (n : ℕ) (rest : List ℕ) : Type 0 where
  pub small : n < 100
  pub split : bs ≡ 45 ∷ (two_digits n ++ rest)

hyphen_takes : (n : ℕ) (rest : List ℕ) → n < 100 → after_hyphen (45 ∷ (two_digits n ++ rest)) ≡ Some (n, rest)
unfolding after_hyphen
hyphen_takes n rest low = ap (option_and_then read_two) (byte_takes 45 (two_digits n ++ rest)) ∙ two_takes n rest low

hyphen_step : (bs rest : List ℕ) (n : ℕ) (o : Option (List ℕ)) → after_byte 45 bs ≡ o → option_and_then read_two o ≡ Some (n, rest) → Hyphened bs n rest
hyphen_step bs rest n None is e = absurd cc
hyphen_step bs rest n (Some more) is e =
    let t = two_gives more n rest e in
    record { small = t.small; split = byte_gives 45 bs more is ∙ ap (λ (l : List ℕ). 45 ∷ l) t.split }

hyphen_gives : (bs rest : List ℕ) (n : ℕ) → after_hyphen bs ≡ Some (n, rest) → Hyphened bs n rest
unfolding after_hyphen
hyphen_gives bs rest n e = hyphen_step bs rest n (after_byte 45 bs) refl e

-- ---- dates
below_month : (n : ℕ) → n ≤ 12 → n < 100
below_month n h = omega (arith, h)

days_most : (y m : ℕ) → days_in_month y m ≤ 31
days_most y m = search rules

abbrev day_step : ℕ → ℕ → Option (ℕ × List ℕ) → Option (List ℕ)
day_step y m o = option_and_then (λ (d : ℕ × List ℕ). cond (is_day y m d.0) (Some d.1) None) o

abbrev month_step : ℕ → Option (ℕ × List ℕ) → Option (List ℕ)
month_step y o = option_and_then (λ (m : ℕ × List ℕ). day_step y m.0 (after_hyphen m.1)) o

abbrev year_step : Option (ℕ × List ℕ) → Option (List ℕ)
year_step o = option_and_then (λ (y : ℕ × List ℕ). month_step y.0 (after_hyphen y.1)) o

pub date_takes : (date rest : List ℕ) → IsDate date → after_date (date ++ rest) ≡ Some rest
unfolding after_date
date_takes date rest i =
    let y = i.year in
    let m = i.month in
    let d = i.day in
    let years = i.last_year in
    let low : m < 100 = below_month m i.exists.last_month in
    let last = i.exists.last_day in
    let most = days_most y m in
    let few : d < 100 = omega (arith, last, most) in
    let whole : date ++ rest ≡ four_digits y ++ (45 ∷ (two_digits m ++ (45 ∷ (two_digits d ++ rest)))) = ap (λ (l : List ℕ). l ++ rest) i.spelled in
    ap after_date whole
    ∙ ap year_step (four_takes y (45 ∷ (two_digits m ++ (45 ∷ (two_digits d ++ rest)))) (omega (arith, years)))
    ∙ ap (month_step y) (hyphen_takes m (45 ∷ (two_digits d ++ rest)) low)
    ∙ ap (day_step y m) (hyphen_takes d rest few)
    ∙ ap (λ (t : Bool). cond t (Some rest) None) (day_test y m d i.exists)

pub record Dated (bs rest : List ℕ) : Type 0 where
  pub date : List ℕ
  pub is_date : IsDate date
  pub split : bs ≡ date ++ rest

dated_of : (bs b c rest last : List ℕ) (y m d : ℕ) (t : Bool) → ReadFour bs y b → Hyphened b m c → Hyphened c d last → is_day y m d ≡ t → cond t (Some last) None ≡ Some rest → Dated bs rest
dated_of bs b c rest last y m d false f g h is e = absurd cc
dated_of bs b c rest last y m d true f g h is e =
    let same : last ≡ rest = cc in
    let small = f.small in
    record {
      date = four_digits y ++ 45 ∷ (two_digits m ++ 45 ∷ two_digits d);
      is_date = record { year = y; month = m; day = d; last_year = omega (arith, small); exists = day_of y m d is; spelled = refl };
      split = f.split ∙ ap (λ (l : List ℕ). four_digits y ++ l) (g.split ∙ ap (λ (l : List ℕ). 45 ∷ (two_digits m ++ l)) (h.split ∙ ap (λ (l : List ℕ). 45 ∷ (two_digits d ++ l)) same));
    }

third : (bs b c rest : List ℕ) (y m : ℕ) (o : Option (ℕ × List ℕ)) → ReadFour bs y b → Hyphened b m c → after_hyphen c ≡ o → day_step y m o ≡ Some rest → Dated bs rest
third bs b c rest y m None f g is e = absurd cc
third bs b c rest y m (Some (d, last)) f g is e = dated_of bs b c rest last y m d (is_day y m d) f g (hyphen_gives c last d is) refl e

second : (bs b rest : List ℕ) (y : ℕ) (o : Option (ℕ × List ℕ)) → ReadFour bs y b → after_hyphen b ≡ o → month_step y o ≡ Some rest → Dated bs rest
second bs b rest y None f is e = absurd cc
second bs b rest y (Some (m, c)) f is e = third bs b c rest y m (after_hyphen c) f (hyphen_gives b c m is) refl e

first : (bs rest : List ℕ) (o : Option (ℕ × List ℕ)) → read_four bs ≡ o → year_step o ≡ Some rest → Dated bs rest
first bs rest None is e = absurd cc
first bs rest (Some (y, b)) is e = second bs b rest y (after_hyphen b) (four_gives bs y b is) refl e

pub date_gives : (bs rest : List ℕ) → after_date bs ≡ Some rest → Dated bs rest
unfolding after_date
date_gives bs rest e = first bs rest (read_four bs) refl e

-- ---- whole dates
pub nothing_left : (l : List ℕ) → is_nothing l ≡ true → l ≡ []
nothing_left [] h = refl
nothing_left (b ∷ l) h = absurd cc

pub append_nothing : (l : List ℕ) → l ++ [] ≡ l
append_nothing [] = refl
append_nothing (b ∷ l) = ap (λ (m : List ℕ). b ∷ m) (append_nothing l)

date_step : (bs : List ℕ) (o : Option (List ℕ)) → after_date bs ≡ o → is_whole o ≡ true → IsDate bs
date_step bs None is h = absurd cc
date_step bs (Some rest) is h =
    let d = date_gives bs rest is in
    subst IsDate (sym (d.split ∙ (ap (λ (l : List ℕ). d.date ++ l) (nothing_left rest h) ∙ append_nothing d.date))) d.is_date

pub date_exact : (bs : List ℕ) → IsTrue (is_whole (after_date bs)) ↔ IsDate bs
date_exact bs = (
  λ h. date_step bs (after_date bs) refl h,
  λ d. ap is_whole (ap after_date (sym (append_nothing bs)) ∙ date_takes bs [] d),
)
