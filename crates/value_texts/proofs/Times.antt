-- What the reader of times takes is what times are.
use Rattle.std.proofs.Common.{◌≡◌, ℕ, suc, ◌<◌, ◌≤◌, ◌⊎◌, ◌↔◌, inl, inr, List, [], ◌∷◌, ◌++◌, length, drop, Bool, true, false, cond, nat_eq, nat_le, Option, Some, None, IsTrue, refl, sym, ap, ◌∙◌, subst, arith, append_assoc, rules}
use Rattle.std.proofs.Math.Seq.{drop-append_seam}
use Rattle.std.specs.List.{AllByRecursion}
use Rattle.std.specs.Option.{option_and_then, option_or}
use Rattle.std.specs.Char.{is_ascii_digit}
use Rattle.value_texts.specs.Clock.{IsFraction, IsOffset, IsTime, IsDateTime, two_digits}
use Rattle.json_decimal.specs.Literal.{IsDigit}
use Rattle.value_texts.specs.Machinery.Reading.{leading_digits, is_whole, after_byte, after_either, read_two, after_within, after_colon, after_digits, after_fraction, after_offset, after_time, after_date, after_date_time}
use Rattle.value_texts.proofs.Digits.{lead_digits, led, byte_takes, byte_gives}
use Rattle.value_texts.proofs.Numbers.{two_takes, two_gives, ReadTwo}
use Rattle.value_texts.proofs.Dates.{date_takes, date_gives, Dated, nothing_left, append_nothing}

le_test : (m n : ℕ) → m ≤ n → nat_le m n ≡ true
le_test m n h = search rules

le_of : (m n : ℕ) → nat_le m n ≡ true → m ≤ n
le_of m n h = search rules

-- ---- a number of two digits within a bound
pub record Within (most : ℕ) (bs rest : List ℕ) : Type 0 where
  pub number : ℕ
  pub bound : number ≤ most
  pub small : number < 100
  pub split : bs ≡ two_digits number ++ rest

within_takes : (most n : ℕ) (rest : List ℕ) → n ≤ most → n < 100 → after_within most (two_digits n ++ rest) ≡ Some rest
unfolding after_within
within_takes most n rest h low =
    ap (option_and_then (λ (p : ℕ × List ℕ). cond (nat_le p.0 most) (Some p.1) None)) (two_takes n rest low)
    ∙ ap (λ (t : Bool). cond t (Some rest) None) (le_test n most h)

within_of : (most n : ℕ) (bs last rest : List ℕ) (t : Bool) → ReadTwo bs n last → nat_le n most ≡ t → cond t (Some last) None ≡ Some rest → Within most bs rest
within_of most n bs last rest false r is e = absurd cc
within_of most n bs last rest true r is e =
    let same : last ≡ rest = cc in
    record { number = n; bound = le_of n most is; small = r.small; split = r.split ∙ ap (λ (l : List ℕ). two_digits n ++ l) same }

within_step : (most : ℕ) (bs rest : List ℕ) (o : Option (ℕ × List ℕ)) → read_two bs ≡ o → option_and_then (λ (p : ℕ × List ℕ). cond (nat_le p.0 most) (Some p.1) None) o ≡ Some rest → Within most bs rest
within_step most bs rest None is e = absurd cc
within_step most bs rest (Some (n, last)) is e = within_of most n bs last rest (nat_le n most) (two_gives bs n last is) refl e

within_gives : (most : ℕ) (bs rest : List ℕ) → after_within most bs ≡ Some rest → Within most bs rest
unfolding after_within
within_gives most bs rest e = within_step most bs rest (read_two bs) refl e

-- ---- the same behind a colon
pub record Coloned (most : ℕ) (bs rest : List ℕ) : Type 0 where
  pub number : ℕ
  pub bound : number ≤ most
  pub split : bs ≡ 58 ∷ (two_digits number ++ rest)

colon_takes : (most n : ℕ) (rest : List ℕ) → n ≤ most → n < 100 → after_colon most (58 ∷ (two_digits n ++ rest)) ≡ Some rest
unfolding after_colon
colon_takes most n rest h low = ap (option_and_then (after_within most)) (byte_takes 58 (two_digits n ++ rest)) ∙ within_takes most n rest h low

colon_step : (most : ℕ) (bs rest : List ℕ) (o : Option (List ℕ)) → after_byte 58 bs ≡ o → option_and_then (after_within most) o ≡ Some rest → Coloned most bs rest
colon_step most bs rest None is e = absurd cc
colon_step most bs rest (Some more) is e =
    let w = within_gives most more rest e in
    record { number = w.number; bound = w.bound; split = byte_gives 58 bs more is ∙ ap (λ (l : List ℕ). 58 ∷ l) w.split }

colon_gives : (most : ℕ) (bs rest : List ℕ) → after_colon most bs ≡ Some rest → Coloned most bs rest
unfolding after_colon
colon_gives most bs rest e = colon_step most bs rest (after_byte 58 bs) refl e

-- ---- one of two bytes
either_step : (one other b : ℕ) (bs rest : List ℕ) (t u : Bool) → nat_eq b one ≡ t → nat_eq b other ≡ u → cond t (Some bs) (cond u (Some bs) None) ≡ Some rest
    → (b ∷ bs ≡ one ∷ rest) ⊎ (b ∷ bs ≡ other ∷ rest)
either_step one other b bs rest true u is at e = let same : b ≡ one = search rules in let tail : bs ≡ rest = cc in inl cc
either_step one other b bs rest false true is at e = let same : b ≡ other = search rules in let tail : bs ≡ rest = cc in inr cc
either_step one other b bs rest false false is at e = absurd cc

either_gives : (one other : ℕ) (bs rest : List ℕ) → after_either one other bs ≡ Some rest → (bs ≡ one ∷ rest) ⊎ (bs ≡ other ∷ rest)
either_gives one other [] rest e = absurd cc
either_gives one other (b ∷ bs) rest e = either_step one other b bs rest (nat_eq b one) (nat_eq b other) refl refl e

-- ---- fractions
pub record Fractioned (bs rest : List ℕ) : Type 0 where
  pub fraction : List ℕ
  pub is_fraction : IsFraction fraction
  pub split : bs ≡ fraction ++ rest

some_digits : (ds : List ℕ) → 1 ≤ length ds → AllByRecursion IsDigit ds → IsFraction (46 ∷ ds)
some_digits [] some all = absurd (omega (arith, some))
some_digits (d ∷ ds) some all = inr (d, ds, all.0, all.1, refl)

digits_of : (bs rest : List ℕ) (t : Bool) → nat_le 1 (leading_digits bs) ≡ t → cond t (Some (drop (leading_digits bs) bs)) None ≡ Some rest → Fractioned (46 ∷ bs) rest
digits_of bs rest false is e = absurd cc
digits_of bs rest true is e =
    let l = led bs in
    let same : drop (leading_digits bs) bs ≡ rest = cc in
    let low = le_of 1 (leading_digits bs) is in
    let count = l.count in
    record {
      fraction = 46 ∷ l.digits;
      is_fraction = some_digits l.digits (omega (arith, low, count)) l.all;
      split = ap (λ (r : List ℕ). 46 ∷ r) (l.split ∙ ap (λ (r : List ℕ). l.digits ++ r) same);
    }

fraction_of : (b : ℕ) (bs rest : List ℕ) (t : Bool) → nat_eq b 46 ≡ t → cond t (after_digits bs) (Some (b ∷ bs)) ≡ Some rest → Fractioned (b ∷ bs) rest
fraction_of b bs rest true is e =
    let same : b ≡ 46 = search rules in
    subst (λ (x : ℕ). Fractioned (x ∷ bs) rest) (sym same) (digits_of bs rest (nat_le 1 (leading_digits bs)) refl e)
fraction_of b bs rest false is e = let same : b ∷ bs ≡ rest = cc in record { fraction = []; is_fraction = inl refl; split = same }

fraction_gives : (bs rest : List ℕ) → after_fraction bs ≡ Some rest → Fractioned bs rest
unfolding after_fraction
fraction_gives [] rest e = let same : [] ≡ rest = cc in record { fraction = []; is_fraction = inl refl; split = same }
fraction_gives (b ∷ bs) rest e = fraction_of b bs rest (nat_eq b 46) refl e

-- what begins an offset is neither a digit nor a point
pub record IsPlain (bs : List ℕ) : Type 0 where
  pub first : ℕ
  pub more : List ℕ
  pub digit : is_ascii_digit first ≡ false
  pub point : nat_eq first 46 ≡ false
  pub split : bs ≡ first ∷ more

plain_sign : (bs : List ℕ) (sign : ℕ) (more : List ℕ) → (sign ≡ 43) ⊎ (sign ≡ 45) → bs ≡ sign ∷ more → IsPlain bs
plain_sign bs sign more (inl is) e = record { first = 43; more = more; digit = refl; point = refl; split = e ∙ ap (λ (s : ℕ). s ∷ more) is }
plain_sign bs sign more (inr is) e = record { first = 45; more = more; digit = refl; point = refl; split = e ∙ ap (λ (s : ℕ). s ∷ more) is }

offset_plain : (o : List ℕ) → IsOffset o → IsPlain o
offset_plain o (inl z) = record { first = 90; more = []; digit = refl; point = refl; split = z }
offset_plain o (inr (inl z)) = record { first = 122; more = []; digit = refl; point = refl; split = z }
offset_plain o (inr (inr n)) = plain_sign o n.sign (two_digits n.hour ++ 58 ∷ two_digits n.minute) n.signed n.spelled

plain_lead : (bs : List ℕ) → IsPlain bs → leading_digits bs ≡ 0
plain_lead bs p = ap leading_digits p.split ∙ ap (λ (t : Bool). cond t (suc (leading_digits p.more)) 0) p.digit

fraction_takes : (f rest : List ℕ) → IsFraction f → IsPlain rest → after_fraction (f ++ rest) ≡ Some rest
unfolding after_fraction
fraction_takes f rest (inl none) p =
    ap (λ (l : List ℕ). after_fraction (l ++ rest)) none ∙ ap after_fraction p.split
    ∙ ap (λ (t : Bool). cond t (after_digits p.more) (Some (p.first ∷ p.more))) p.point ∙ ap (λ (l : List ℕ). Some l) (sym p.split)
fraction_takes f rest (inr (first, more, d, ds, e)) p =
    let count : leading_digits (first ∷ (more ++ rest)) ≡ suc (length more) = lead_digits (first ∷ more) rest (d, ds) (plain_lead rest p) in
    let some : nat_le 1 (leading_digits (first ∷ (more ++ rest))) ≡ true = le_test 1 (leading_digits (first ∷ (more ++ rest))) (omega (arith, count)) in
    ap (λ (l : List ℕ). after_fraction (l ++ rest)) e
    ∙ ap (λ (t : Bool). cond t (Some (drop (leading_digits (first ∷ (more ++ rest))) (first ∷ (more ++ rest)))) None) some
    ∙ ap (λ (n : ℕ). Some (drop n (first ∷ (more ++ rest)))) count
    ∙ ap (λ (l : List ℕ). Some l) (drop-append_seam (first ∷ more) rest)

-- ---- offsets
signed_takes : (sign : ℕ) (rest : List ℕ) → (sign ≡ 43) ⊎ (sign ≡ 45) → (after_either 90 122 (sign ∷ rest) ≡ None) × (after_either 43 45 (sign ∷ rest) ≡ Some rest)
signed_takes sign rest (inl is) = (ap (λ (s : ℕ). after_either 90 122 (s ∷ rest)) is, ap (λ (s : ℕ). after_either 43 45 (s ∷ rest)) is)
signed_takes sign rest (inr is) = (ap (λ (s : ℕ). after_either 90 122 (s ∷ rest)) is, ap (λ (s : ℕ). after_either 43 45 (s ∷ rest)) is)

offset_takes : (o rest : List ℕ) → IsOffset o → after_offset (o ++ rest) ≡ Some rest
unfolding after_offset
offset_takes o rest (inl z) = ap (λ (l : List ℕ). after_offset (l ++ rest)) z
offset_takes o rest (inr (inl z)) = ap (λ (l : List ℕ). after_offset (l ++ rest)) z
offset_takes o rest (inr (inr n)) =
    let hours = n.last_hour in
    let minutes = n.last_minute in
    let last = 58 ∷ (two_digits n.minute ++ rest) in
    let body = two_digits n.hour ++ last in
    let s = signed_takes n.sign body n.signed in
    ap (λ (l : List ℕ). after_offset (l ++ rest)) n.spelled
    ∙ ap (λ (a : Option (List ℕ)). option_or a (option_and_then (after_colon 59) (option_and_then (after_within 23) (after_either 43 45 (n.sign ∷ body))))) s.0
    ∙ ap (λ (a : Option (List ℕ)). option_and_then (after_colon 59) (option_and_then (after_within 23) a)) s.1
    ∙ ap (option_and_then (after_colon 59)) (within_takes 23 n.hour last hours (omega (arith, hours)))
    ∙ colon_takes 59 n.minute rest minutes (omega (arith, minutes))

pub record Offsetted (bs rest : List ℕ) : Type 0 where
  pub offset : List ℕ
  pub is_offset : IsOffset offset
  pub split : bs ≡ offset ++ rest

zulu : (bs rest : List ℕ) → (bs ≡ 90 ∷ rest) ⊎ (bs ≡ 122 ∷ rest) → Offsetted bs rest
zulu bs rest (inl e) = record { offset = 90 ∷ []; is_offset = inl refl; split = e }
zulu bs rest (inr e) = record { offset = 122 ∷ []; is_offset = inr (inl refl); split = e }

signed_of : (bs a b rest : List ℕ) (sign : ℕ) → (sign ≡ 43) ⊎ (sign ≡ 45) → bs ≡ sign ∷ a → Within 23 a b → Coloned 59 b rest → Offsetted bs rest
signed_of bs a b rest sign signed e w c = record {
  offset = sign ∷ (two_digits w.number ++ 58 ∷ two_digits c.number);
  is_offset = inr (inr (record { sign = sign; hour = w.number; minute = c.number; signed = signed; last_hour = w.bound; last_minute = c.bound; spelled = refl }));
  split = e ∙ ap (λ (l : List ℕ). sign ∷ l) (w.split ∙ ap (λ (l : List ℕ). two_digits w.number ++ l) c.split);
}

sign_of : (bs a b rest : List ℕ) → (bs ≡ 43 ∷ a) ⊎ (bs ≡ 45 ∷ a) → Within 23 a b → Coloned 59 b rest → Offsetted bs rest
sign_of bs a b rest (inl e) w c = signed_of bs a b rest 43 (inl refl) e w c
sign_of bs a b rest (inr e) w c = signed_of bs a b rest 45 (inr refl) e w c

offset_minutes : (bs a rest : List ℕ) (o : Option (List ℕ)) → after_either 43 45 bs ≡ Some a → after_within 23 a ≡ o → option_and_then (after_colon 59) o ≡ Some rest → Offsetted bs rest
offset_minutes bs a rest None s is e = absurd cc
offset_minutes bs a rest (Some b) s is e = sign_of bs a b rest (either_gives 43 45 bs a s) (within_gives 23 a b is) (colon_gives 59 b rest e)

offset_hours : (bs rest : List ℕ) (o : Option (List ℕ)) → after_either 43 45 bs ≡ o → option_and_then (after_colon 59) (option_and_then (after_within 23) o) ≡ Some rest → Offsetted bs rest
offset_hours bs rest None is e = absurd cc
offset_hours bs rest (Some a) is e = offset_minutes bs a rest (after_within 23 a) is refl e

offset_step : (bs rest : List ℕ) (o : Option (List ℕ)) → after_either 90 122 bs ≡ o
    → option_or o (option_and_then (after_colon 59) (option_and_then (after_within 23) (after_either 43 45 bs))) ≡ Some rest → Offsetted bs rest
offset_step bs rest None is e = offset_hours bs rest (after_either 43 45 bs) refl e
offset_step bs rest (Some a) is e = let same : a ≡ rest = cc in zulu bs rest (either_gives 90 122 bs rest (is ∙ ap (λ (l : List ℕ). Some l) same))

offset_gives : (bs rest : List ℕ) → after_offset bs ≡ Some rest → Offsetted bs rest
unfolding after_offset
offset_gives bs rest e = offset_step bs rest (after_either 90 122 bs) refl e

-- ---- times
two_spelled : (n : ℕ) (a rest : List ℕ) → (two_digits n ++ a) ++ rest ≡ two_digits n ++ (a ++ rest)
two_spelled n a rest = refl

pub time_takes : (time rest : List ℕ) → IsTime time → after_time (time ++ rest) ≡ Some rest
unfolding after_time
time_takes time rest t =
    let hours = t.last_hour in
    let minutes = t.last_minute in
    let seconds = t.last_second in
    let last = t.fraction ++ (t.offset ++ rest) in
    let three = 58 ∷ (two_digits t.second ++ last) in
    let two = 58 ∷ (two_digits t.minute ++ three) in
    let whole : time ++ rest ≡ two_digits t.hour ++ two =
    ap (λ (l : List ℕ). l ++ rest) t.spelled
    ∙ ap (λ (l : List ℕ). two_digits t.hour ++ (58 ∷ (two_digits t.minute ++ (58 ∷ (two_digits t.second ++ l))))) (append_assoc t.fraction t.offset rest) in
    let plain = offset_plain t.offset t.is_offset in
    let behind : IsPlain (t.offset ++ rest) = record { first = plain.first; more = plain.more ++ rest; digit = plain.digit; point = plain.point; split = ap (λ (l : List ℕ). l ++ rest) plain.split } in
    ap after_time whole
    ∙ ap (λ (o : Option (List ℕ)). option_and_then after_offset (option_and_then after_fraction (option_and_then (after_colon 60) (option_and_then (after_colon 59) o)))) (within_takes 23 t.hour two hours (omega (arith, hours)))
    ∙ ap (λ (o : Option (List ℕ)). option_and_then after_offset (option_and_then after_fraction (option_and_then (after_colon 60) o))) (colon_takes 59 t.minute three minutes (omega (arith, minutes)))
    ∙ ap (λ (o : Option (List ℕ)). option_and_then after_offset (option_and_then after_fraction o)) (colon_takes 60 t.second last seconds (omega (arith, seconds)))
    ∙ ap (option_and_then after_offset) (fraction_takes t.fraction (t.offset ++ rest) t.is_fraction behind)
    ∙ offset_takes t.offset rest t.is_offset

pub record Timed (bs rest : List ℕ) : Type 0 where
  pub time : List ℕ
  pub is_time : IsTime time
  pub split : bs ≡ time ++ rest

timed_of : (bs a b c d rest : List ℕ) → Within 23 bs a → Coloned 59 a b → Coloned 60 b c → Fractioned c d → Offsetted d rest → Timed bs rest
timed_of bs a b c d rest h m s f o = record {
  time = two_digits h.number ++ 58 ∷ (two_digits m.number ++ 58 ∷ (two_digits s.number ++ (f.fraction ++ o.offset)));
  is_time = record {
    hour = h.number;
    minute = m.number;
    second = s.number;
    fraction = f.fraction;
    offset = o.offset;
    last_hour = h.bound;
    last_minute = m.bound;
    last_second = s.bound;
    is_fraction = f.is_fraction;
    is_offset = o.is_offset;
    spelled = refl;
  };
  split = h.split ∙ ap (λ (l : List ℕ). two_digits h.number ++ l) (m.split ∙ ap (λ (l : List ℕ). 58 ∷ (two_digits m.number ++ l)) (s.split
      ∙ ap (λ (l : List ℕ). 58 ∷ (two_digits s.number ++ l)) (f.split ∙ ap (λ (l : List ℕ). f.fraction ++ l) o.split ∙ sym (append_assoc f.fraction o.offset rest))));
}

fourth : (bs a b c rest : List ℕ) (o : Option (List ℕ)) → Within 23 bs a → Coloned 59 a b → Coloned 60 b c → after_fraction c ≡ o → option_and_then after_offset o ≡ Some rest → Timed bs rest
fourth bs a b c rest None h m s is e = absurd cc
fourth bs a b c rest (Some d) h m s is e = timed_of bs a b c d rest h m s (fraction_gives c d is) (offset_gives d rest e)

third : (bs a b rest : List ℕ) (o : Option (List ℕ)) → Within 23 bs a → Coloned 59 a b → after_colon 60 b ≡ o → option_and_then after_offset (option_and_then after_fraction o) ≡ Some rest → Timed bs rest
third bs a b rest None h m is e = absurd cc
third bs a b rest (Some c) h m is e = fourth bs a b c rest (after_fraction c) h m (colon_gives 60 b c is) refl e

second : (bs a rest : List ℕ) (o : Option (List ℕ)) → Within 23 bs a → after_colon 59 a ≡ o → option_and_then after_offset (option_and_then after_fraction (option_and_then (after_colon 60) o)) ≡ Some rest → Timed bs rest
second bs a rest None h is e = absurd cc
second bs a rest (Some b) h is e = third bs a b rest (after_colon 60 b) h (colon_gives 59 a b is) refl e

first : (bs rest : List ℕ) (o : Option (List ℕ)) → after_within 23 bs ≡ o → option_and_then after_offset (option_and_then after_fraction (option_and_then (after_colon 60) (option_and_then (after_colon 59) o))) ≡ Some rest → Timed bs rest
first bs rest None is e = absurd cc
first bs rest (Some a) is e = second bs a rest (after_colon 59 a) (within_gives 23 bs a is) refl e

pub time_gives : (bs rest : List ℕ) → after_time bs ≡ Some rest → Timed bs rest
unfolding after_time
time_gives bs rest e = first bs rest (after_within 23 bs) refl e

time_step : (bs : List ℕ) (o : Option (List ℕ)) → after_time bs ≡ o → is_whole o ≡ true → IsTime bs
time_step bs None is h = absurd cc
time_step bs (Some rest) is h =
    let t = time_gives bs rest is in
    subst IsTime (sym (t.split ∙ (ap (λ (l : List ℕ). t.time ++ l) (nothing_left rest h) ∙ append_nothing t.time))) t.is_time

pub time_exact : (bs : List ℕ) → IsTrue (is_whole (after_time bs)) ↔ IsTime bs
time_exact bs = (
  λ h. time_step bs (after_time bs) refl h,
  λ t. ap is_whole (ap after_time (sym (append_nothing bs)) ∙ time_takes bs [] t),
)

-- ---- dates with times
marked : (mark : ℕ) (rest : List ℕ) → (mark ≡ 84) ⊎ (mark ≡ 116) → after_either 84 116 (mark ∷ rest) ≡ Some rest
marked mark rest (inl is) = ap (λ (m : ℕ). after_either 84 116 (m ∷ rest)) is
marked mark rest (inr is) = ap (λ (m : ℕ). after_either 84 116 (m ∷ rest)) is

both_take : (bs : List ℕ) → IsDateTime bs → is_whole (after_date_time bs) ≡ true
unfolding after_date_time
both_take bs d =
    ap is_whole (ap after_date_time d.spelled
    ∙ ap (λ (o : Option (List ℕ)). option_and_then after_time (option_and_then (after_either 84 116) o)) (date_takes d.date (d.mark ∷ d.time) d.is_date)
    ∙ ap (option_and_then after_time) (marked d.mark d.time d.is_mark)
    ∙ (ap after_time (sym (append_nothing d.time)) ∙ time_takes d.time [] d.is_time))

both_of : (bs a b rest : List ℕ) (mark : ℕ) → (mark ≡ 84) ⊎ (mark ≡ 116) → Dated bs a → a ≡ mark ∷ b → Timed b rest → rest ≡ [] → IsDateTime bs
both_of bs a b rest mark is d e t none = record {
  date = d.date;
  mark = mark;
  time = t.time;
  is_date = d.is_date;
  is_mark = is;
  is_time = t.is_time;
  spelled = d.split ∙ ap (λ (l : List ℕ). d.date ++ l) (e ∙ ap (λ (l : List ℕ). mark ∷ l) (t.split ∙ ap (λ (l : List ℕ). t.time ++ l) none ∙ append_nothing t.time));
}

mark_of : (bs a b rest : List ℕ) → (a ≡ 84 ∷ b) ⊎ (a ≡ 116 ∷ b) → Dated bs a → Timed b rest → rest ≡ [] → IsDateTime bs
mark_of bs a b rest (inl e) d t none = both_of bs a b rest 84 (inl refl) d e t none
mark_of bs a b rest (inr e) d t none = both_of bs a b rest 116 (inr refl) d e t none

both_last : (bs a b : List ℕ) (o : Option (List ℕ)) → Dated bs a → after_either 84 116 a ≡ Some b → after_time b ≡ o → is_whole o ≡ true → IsDateTime bs
both_last bs a b None d s is h = absurd cc
both_last bs a b (Some rest) d s is h = mark_of bs a b rest (either_gives 84 116 a b s) d (time_gives b rest is) (nothing_left rest h)

both_second : (bs a : List ℕ) (o : Option (List ℕ)) → Dated bs a → after_either 84 116 a ≡ o → is_whole (option_and_then after_time o) ≡ true → IsDateTime bs
both_second bs a None d is h = absurd cc
both_second bs a (Some b) d is h = both_last bs a b (after_time b) d is refl h

both_first : (bs : List ℕ) (o : Option (List ℕ)) → after_date bs ≡ o → is_whole (option_and_then after_time (option_and_then (after_either 84 116) o)) ≡ true → IsDateTime bs
both_first bs None is h = absurd cc
both_first bs (Some a) is h = both_second bs a (after_either 84 116 a) (date_gives bs a is) refl h

both_give : (bs : List ℕ) → is_whole (after_date_time bs) ≡ true → IsDateTime bs
unfolding after_date_time
both_give bs h = both_first bs (after_date bs) refl h

pub date_time_exact : (bs : List ℕ) → IsTrue (is_whole (after_date_time bs)) ↔ IsDateTime bs
date_time_exact bs = (λ h. both_give bs h, λ d. both_take bs d)
