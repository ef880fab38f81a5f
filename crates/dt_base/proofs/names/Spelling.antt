-- The machine reads exactly the texts that the grammar spells.
use Rattle.std.proofs.Common.{◌≡◌, ℕ, ◌+◌, ◌-◌, ◌*◌, ◌/◌, ◌%◌, ◌<◌, ◌≤◌, Bool, true, false, cond, ◌||◌, ◌&&◌, ◌==◌, nat_le, nat_lt, Option, Some, None, List, [], ◌∷◌, ◌++◌, length, refl, sym, ap, ◌∙◌, subst, arith, append_assoc, append-nil}
use Rattle.std.specs.Prelude.{MatchOption, ⊤, codes}
use Rattle.std.specs.List.{All, join_with_byte}
use Rattle.std.specs.Fmt.{decimal}
use Rattle.std.specs.Char.{is_ascii_alphabetic, is_ascii_alphanumeric, is_ascii_digit}
use Rattle.std.specs.Option.{option_and_then}
use Rattle.std.proofs.lemmas.Fmt.{decimal_digit, decimal_step, decimal_by_steps}
use Rattle.std.proofs.lemmas.List.Elements.{All-nil, All-cons, All-head, All-tail}
use Rattle.std.proofs.lemmas.Bool.{and_parts, and_from, le-leb, lt-ltb, leb-true, ltb-true, eqb-true}
use Rattle.dt_base.specs.declared.names.walk.State.{State}
use Rattle.dt_base.specs.declared.names.walk.State.TheVariants.{NameStart, NameWord, NameUnderscore, WantD, WantT, WantM, WantI, WantColon, SegmentStart, SegmentWord, SegmentUnderscore, VersionStart, Version}
use Rattle.dt_base.specs.names.Grammar.{Identifier, is_name_byte, IsSegment, HasDtmiForm}
use Rattle.dt_base.specs.names.Machinery.Walking.{when, inside_name, step, run}
use Rattle.dt_base.proofs.names.Runs.{run-append}
use Rattle.dt_base.proofs.names.Segments.{Tail, run-segment, segment-from_tail, when-true}

-- ---- what is spelled is read
run-segments : (segments : List (List ℕ)) (rest : List ℕ) → All IsSegment segments → 0 < length segments
    → run SegmentStart (join_with_byte 58 segments ++ rest) ≡ run SegmentWord rest
run-segments [] rest all h = absurd (omega arith)
run-segments (s ∷ []) rest all h = run-segment s rest (All-head IsSegment s [] all)
run-segments (s ∷ t ∷ ts) rest all h =
    ap (run SegmentStart) (append_assoc s (58 ∷ join_with_byte 58 (t ∷ ts)) rest)
    ∙ run-segment s (58 ∷ (join_with_byte 58 (t ∷ ts) ++ rest)) (All-head IsSegment s (t ∷ ts) all)
    ∙ run-segments (t ∷ ts) rest (All-tail IsSegment s (t ∷ ts) all) (omega arith)

IsRead : ℕ → List ℕ → Type 0
IsRead n ds = 1 ≤ n → n ≤ 999999999 → run VersionStart ds ≡ Some (Version n)

one_digit : (n : ℕ) → n < 10 → IsRead n ((48 + n) ∷ [])
unfolding IsRead
one_digit n small low high =
    ap (option_and_then (λ p. run p [])) (when-true _ (Version (48 + n - 48)) (and_from _ _ (le-leb 49 (48 + n) (omega arith)) (le-leb (48 + n) 57 (omega arith))))
    ∙ ap (λ k. Some (Version k)) (omega arith)

more_digits : (n : ℕ) (ds : List ℕ) → 10 ≤ n → IsRead (n / 10) ds → IsRead n (ds ++ ((48 + n % 10) ∷ []))
unfolding IsRead
more_digits n ds big r low high =
    run-append VersionStart ds ((48 + n % 10) ∷ [])
    ∙ ap (option_and_then (λ p. run p ((48 + n % 10) ∷ []))) (r (omega arith) (omega arith))
    ∙ ap (option_and_then (λ p. run p []))
    (when-true _ (Version (n / 10 * 10 + (48 + n % 10 - 48)))
    (and_from _ _ (and_from _ _ (le-leb 48 (48 + n % 10) (omega arith)) (le-leb (48 + n % 10) 57 (omega arith))) (lt-ltb (n / 10) 100000000 (omega arith))))
    ∙ ap (λ k. Some (Version k)) (omega arith)

run-decimal : (n : ℕ) → 1 ≤ n → n ≤ 999999999 → run VersionStart (decimal n) ≡ Some (Version n)
unfolding IsRead
run-decimal n low high = decimal_by_steps IsRead one_digit more_digits n (omega arith) low high

pub run-form : (bytes : List ℕ) (i : Identifier) → HasDtmiForm bytes i → run WantD bytes ≡ Some (Version i.version)
run-form bytes i h =
    ap (run WantD) h.spelled ∙ run-segments i.segments (59 ∷ decimal i.version) h.each h.some
    ∙ run-decimal i.version h.positive h.small

-- ---- what is read is spelled
record PathLeft (v : ℕ) (bytes : List ℕ) : Type 0 where
  segments : List (List ℕ)
  some : 0 < length segments
  each : All IsSegment segments
  spelled : bytes ≡ join_with_byte 58 segments ++ 59 ∷ decimal v
  positive : 1 ≤ v
  small : v ≤ 999999999

-- the rest of a segment, and the segments after it
record TailLeft (may : Bool) (v : ℕ) (bytes : List ℕ) : Type 0 where
  tail : List ℕ
  more : List (List ℕ)
  good : Tail may tail
  each : All IsSegment more
  spelled : bytes ≡ join_with_byte 58 (tail ∷ more) ++ 59 ∷ decimal v
  positive : 1 ≤ v
  small : v ≤ 999999999

-- what is left of a text with the version v at a place
abbrev Left : ℕ → State → List ℕ → Type 0
Left v NameStart bytes = ⊤
Left v NameWord bytes = ⊤
Left v NameUnderscore bytes = ⊤
Left v WantD bytes = (rest : List ℕ) × (bytes ≡ 100 ∷ 116 ∷ 109 ∷ 105 ∷ 58 ∷ rest) × PathLeft v rest
Left v WantT bytes = (rest : List ℕ) × (bytes ≡ 116 ∷ 109 ∷ 105 ∷ 58 ∷ rest) × PathLeft v rest
Left v WantM bytes = (rest : List ℕ) × (bytes ≡ 109 ∷ 105 ∷ 58 ∷ rest) × PathLeft v rest
Left v WantI bytes = (rest : List ℕ) × (bytes ≡ 105 ∷ 58 ∷ rest) × PathLeft v rest
Left v WantColon bytes = (rest : List ℕ) × (bytes ≡ 58 ∷ rest) × PathLeft v rest
Left v SegmentStart bytes = PathLeft v bytes
Left v SegmentWord bytes = TailLeft true v bytes
Left v SegmentUnderscore bytes = TailLeft false v bytes
Left v VersionStart bytes = (bytes ≡ decimal v) × (1 ≤ v) × (v ≤ 999999999)
Left v (Version n) bytes = 1 ≤ n → n ≤ 999999999 → (decimal n ++ bytes ≡ decimal v) × (1 ≤ v) × (v ≤ 999999999)

when-live : (b : Bool) (q : State) (P : State → Type 0) → MatchOption (when b q) ⊥ P → (b ≡ true) × P q
when-live true q P m = (refl, m)
when-live false q P m = absurd m

join-cons : (c : ℕ) (s : List ℕ) (more : List (List ℕ)) → join_with_byte 58 ((c ∷ s) ∷ more) ≡ c ∷ join_with_byte 58 (s ∷ more)
join-cons c s [] = refl
join-cons c s (t ∷ ts) = refl

join-nil : (segments : List (List ℕ)) → 0 < length segments → join_with_byte 58 ([] ∷ segments) ≡ 58 ∷ join_with_byte 58 segments
join-nil [] h = absurd (omega arith)
join-nil (s ∷ ss) h = refl

tail_longer : (a may : Bool) (v c : ℕ) (cs : List ℕ) → is_name_byte c ≡ true → a ≡ is_ascii_alphanumeric c → TailLeft a v cs → TailLeft may v (c ∷ cs)
tail_longer a may v c cs h e t = record {
  tail = c ∷ t.tail;
  more = t.more;
  good = (h, subst (λ (b : Bool). Tail b t.tail) e t.good);
  each = t.each;
  spelled = ap (λ r. c ∷ r) t.spelled ∙ ap (λ r. r ++ 59 ∷ decimal v) (sym (join-cons c t.tail t.more));
  positive = t.positive;
  small = t.small;
}

inside-back : (may : Bool) (v c : ℕ) (cs : List ℕ) → (a u : Bool) → a ≡ is_ascii_alphanumeric c → u ≡ (c == 95)
    → MatchOption (cond a (Some SegmentWord) (when u SegmentUnderscore)) ⊥ (λ q. Left v q cs) → TailLeft may v (c ∷ cs)
inside-back may v c cs true u ea eu m = tail_longer true may v c cs (ap (λ b. b || (c == 95)) (sym ea)) ea m
inside-back may v c cs false true ea eu m =
    tail_longer false may v c cs (ap (λ b. b || (c == 95)) (sym ea) ∙ sym eu) ea m
inside-back may v c cs false false ea eu m = absurd m

colon-back : (v c : ℕ) (cs : List ℕ) → c ≡ 58 → PathLeft v cs → TailLeft true v (c ∷ cs)
colon-back v c cs e p = record {
  tail = [];
  more = p.segments;
  good = refl;
  each = p.each;
  spelled = ap (λ k. k ∷ cs) e ∙ ap (λ r. 58 ∷ r) p.spelled ∙ ap (λ r. r ++ 59 ∷ decimal v) (sym (join-nil p.segments p.some));
  positive = p.positive;
  small = p.small;
}

semicolon-back : (v c : ℕ) (cs : List ℕ) → c ≡ 59 → Left v VersionStart cs → TailLeft true v (c ∷ cs)
semicolon-back v c cs e p = record {
  tail = [];
  more = [];
  good = refl;
  each = All-nil IsSegment;
  spelled = ap (λ k. k ∷ cs) e ∙ ap (λ r. 59 ∷ r) p.0;
  positive = p.1;
  small = p.2;
}

word-back : (v c : ℕ) (cs : List ℕ) (x y : Bool) → x ≡ (c == 58) → y ≡ (c == 59)
    → MatchOption (cond x (Some SegmentStart) (cond y (Some VersionStart) (inside_name c SegmentWord SegmentUnderscore))) ⊥ (λ q. Left v q cs)
    → TailLeft true v (c ∷ cs)
word-back v c cs true y ex ey m = colon-back v c cs (eqb-true c 58 (sym ex)) m
word-back v c cs false true ex ey m = semicolon-back v c cs (eqb-true c 59 (sym ey)) m
word-back v c cs false false ex ey m = inside-back true v c cs _ _ refl refl m

start-back : (v c : ℕ) (cs : List ℕ) → is_ascii_alphabetic c ≡ true → TailLeft true v cs → PathLeft v (c ∷ cs)
start-back v c cs a t = record {
  segments = (c ∷ t.tail) ∷ t.more;
  some = omega arith;
  each = All-cons IsSegment (c ∷ t.tail) t.more (segment-from_tail c t.tail a t.good) t.each;
  spelled = ap (λ r. c ∷ r) t.spelled ∙ ap (λ r. r ++ 59 ∷ decimal v) (sym (join-cons c t.tail t.more));
  positive = t.positive;
  small = t.small;
}

first-back : (v c : ℕ) (cs : List ℕ) → 49 ≤ c → c ≤ 57 → Left v (Version (c - 48)) cs → Left v VersionStart (c ∷ cs)
first-back v c cs low high m =
    let r = m (omega arith) (omega arith) in
    let e : 48 + (c - 48) ≡ c = omega arith in
    (ap (λ k. k ∷ cs) (sym e) ∙ ap (λ ds. ds ++ cs) (sym (decimal_digit (c - 48) (omega arith))) ∙ r.0, r.1, r.2)

digit-back : (v n c : ℕ) (cs : List ℕ) → 48 ≤ c → c ≤ 57 → n < 100000000 → Left v (Version (n * 10 + (c - 48))) cs → Left v (Version n) (c ∷ cs)
digit-back v n c cs low high room m some small =
    let k : ℕ = n * 10 + (c - 48) in
    let r = m (omega arith) (omega arith) in
    let tens : (n * 10 + (c - 48)) / 10 ≡ n = omega arith in
    let ones : 48 + (n * 10 + (c - 48)) % 10 ≡ c = omega arith in
    let step : decimal (n * 10 + (c - 48)) ≡ decimal n ++ (c ∷ []) =
    decimal_step (n * 10 + (c - 48)) (omega arith) (omega arith) ∙ ap (λ t. decimal t ++ ((48 + (n * 10 + (c - 48)) % 10) ∷ [])) tens ∙ ap (λ o. decimal n ++ (o ∷ [])) ones in
    (sym (append_assoc (decimal n) (c ∷ []) cs) ∙ ap (λ ds. ds ++ cs) (sym step) ∙ r.0, r.1, r.2)

back : (v : ℕ) (p : State) (c : ℕ) (cs : List ℕ) → MatchOption (step p c) ⊥ (λ q. Left v q cs) → Left v p (c ∷ cs)
back v NameStart c cs m = tt
back v NameWord c cs m = tt
back v NameUnderscore c cs m = tt
back v WantD c cs m =
    let w = when-live (c == 100) WantT (λ q. Left v q cs) m in
    (w.1.0, ap (λ k. k ∷ cs) (eqb-true c 100 w.0) ∙ ap (λ r. 100 ∷ r) w.1.1, w.1.2)
back v WantT c cs m =
    let w = when-live (c == 116) WantM (λ q. Left v q cs) m in
    (w.1.0, ap (λ k. k ∷ cs) (eqb-true c 116 w.0) ∙ ap (λ r. 116 ∷ r) w.1.1, w.1.2)
back v WantM c cs m =
    let w = when-live (c == 109) WantI (λ q. Left v q cs) m in
    (w.1.0, ap (λ k. k ∷ cs) (eqb-true c 109 w.0) ∙ ap (λ r. 109 ∷ r) w.1.1, w.1.2)
back v WantI c cs m =
    let w = when-live (c == 105) WantColon (λ q. Left v q cs) m in
    (w.1.0, ap (λ k. k ∷ cs) (eqb-true c 105 w.0) ∙ ap (λ r. 105 ∷ r) w.1.1, w.1.2)
back v WantColon c cs m =
    let w = when-live (c == 58) SegmentStart (λ q. Left v q cs) m in
    (cs, ap (λ k. k ∷ cs) (eqb-true c 58 w.0), w.1)
back v SegmentStart c cs m =
    let w = when-live (is_ascii_alphabetic c) SegmentWord (λ q. Left v q cs) m in start-back v c cs w.0 w.1
back v SegmentWord c cs m = word-back v c cs _ _ refl refl m
back v SegmentUnderscore c cs m = inside-back false v c cs _ _ refl refl m
back v VersionStart c cs m =
    let w = when-live (nat_le 49 c && nat_le c 57) (Version (c - 48)) (λ q. Left v q cs) m in
    let b = and_parts _ _ w.0 in
    first-back v c cs (leb-true 49 c b.0) (leb-true c 57 b.1) w.1
back v (Version n) c cs m =
    let w = when-live (is_ascii_digit c && nat_lt n 100000000) (Version (n * 10 + (c - 48))) (λ q. Left v q cs) m in
    let b = and_parts _ _ w.0 in
    let d = and_parts _ _ b.0 in
    digit-back v n c cs (leb-true 48 c d.0) (leb-true c 57 d.1) (ltb-true n 100000000 b.1) w.1

version_end : (v n : ℕ) → Some (Version n) ≡ Some (Version v) → Left v (Version n) []
version_end v n e low high =
    let same : n ≡ v = cc in
    (append-nil (decimal n) ∙ ap decimal same, omega arith, omega arith)

end : (v : ℕ) (p : State) → Some p ≡ Some (Version v) → Left v p []
end v NameStart e = tt
end v NameWord e = tt
end v NameUnderscore e = tt
end v WantD e = cc
end v WantT e = cc
end v WantM e = cc
end v WantI e = cc
end v WantColon e = cc
end v SegmentStart e = cc
end v SegmentWord e = cc
end v SegmentUnderscore e = cc
end v VersionStart e = cc
end v (Version n) e = version_end v n e

live : (v : ℕ) (o : Option State) (cs : List ℕ) → ((q : State) → run q cs ≡ Some (Version v) → Left v q cs)
    → option_and_then (λ q. run q cs) o ≡ Some (Version v) → MatchOption o ⊥ (λ q. Left v q cs)
live v None cs f e = cc
live v (Some q) cs f e = f q e

left-from_run : (v : ℕ) (p : State) (bytes : List ℕ) → run p bytes ≡ Some (Version v) → Left v p bytes
left-from_run v p [] e = end v p e
left-from_run v p (c ∷ cs) e = back v p c cs (live v (step p c) cs (λ q. left-from_run v q cs) e)

pub form-from_run : (v : ℕ) (bytes : List ℕ) → run WantD bytes ≡ Some (Version v) → (i : Identifier) × HasDtmiForm bytes i × (i.version ≡ v)
form-from_run v bytes e =
    let l = left-from_run v WantD bytes e in
    let p = l.2 in (
      record { segments = p.segments; version = v },
      record { spelled = l.1 ∙ ap (λ r. codes "dtmi:" ++ r) p.spelled; some = p.some; each = p.each; positive = p.positive; small = p.small },
      refl,
    )
