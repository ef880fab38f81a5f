-- Digits at the front of a text.
use Rattle.std.proofs.Common.{◌≡◌, ℕ, ◌≤◌, true, false, ◌⊎◌, inl, inr, ap₂, ◌&&◌, nat_le, append-nil, length-append, ◌==◌, eqb-true, List, [], ◌∷◌, ◌++◌, length, refl, ap, sym, ◌∙◌, arith, if◌then◌else◌}
use Rattle.std.proofs.lemmas.Bool.Decides.{nat_tests, leb_tells}
use Rattle.json_decimal.specs.Literal.{IsDigit, AreDigits, IsPower}
use Rattle.json_decimal.specs.Machinery.Digits.{is_digit, digits_at_front, after, StartsNoDigit}

pub digit_test : (b : ℕ) → IsDigit b → is_digit b ≡ true
digit_test b h = grind (arith, nat_tests)

pub digit_cases : (b : ℕ) → ((is_digit b ≡ true) × IsDigit b) ⊎ (is_digit b ≡ false)
digit_cases b = elim (leb_tells 48 b) [
  | inl p ↦ elim (leb_tells b 57) [
    | inl q ↦ inl (ap₂ ◌&&◌ p.0 q.0, record { low = p.1; high = q.1 })
    | inr q ↦ inr (ap₂ ◌&&◌ p.0 q.0)
  ]
  | inr p ↦ inr (ap (λ t. t && nat_le b 57) p.0)
]

pub no_digit_test : (b : ℕ) → (IsDigit b → ⊥) → is_digit b ≡ false
no_digit_test b h = elim (digit_cases b) [ inl p ↦ absurd (h p.1) | inr e ↦ e ]

pub run-digit : (b : ℕ) (bs : List ℕ) → IsDigit b → digits_at_front (b ∷ bs) ≡ b ∷ digits_at_front bs
run-digit b bs h = ap (λ t. if t then b ∷ digits_at_front bs else []) (digit_test b h)

pub after-digit : (b : ℕ) (bs : List ℕ) → IsDigit b → after (b ∷ bs) ≡ after bs
after-digit b bs h = ap (λ t. if t then after bs else b ∷ bs) (digit_test b h)

pub run-none : (bs : List ℕ) → StartsNoDigit bs → digits_at_front bs ≡ []
run-none [] h = refl
run-none (b ∷ bs) h = ap (λ t. if t then b ∷ digits_at_front bs else []) (no_digit_test b h)

pub after-none : (bs : List ℕ) → StartsNoDigit bs → after bs ≡ bs
after-none [] h = refl
after-none (b ∷ bs) h = ap (λ t. if t then after bs else b ∷ bs) (no_digit_test b h)

pub run_after : (bs : List ℕ) → digits_at_front bs ++ after bs ≡ bs
run_after [] = refl
run_after (b ∷ bs) = elim (digit_cases b) [
  | inl p ↦ rw (run-digit b bs p.1, after-digit b bs p.1) (ap (λ t. b ∷ t) (run_after bs))
  | inr e ↦ ap (λ t. (if t then b ∷ digits_at_front bs else []) ++ (if t then after bs else b ∷ bs)) e
]

pub run-AreDigits : (bs : List ℕ) → AreDigits (digits_at_front bs)
run-AreDigits [] = tt
run-AreDigits (b ∷ bs) = elim (digit_cases b) [
  | inl p ↦ rw (run-digit b bs p.1) (p.1, run-AreDigits bs)
  | inr e ↦ rw e tt
]

-- digits that no further digit follows are the whole run
pub run-append : (ds bs : List ℕ) → AreDigits ds → StartsNoDigit bs → digits_at_front (ds ++ bs) ≡ ds
run-append [] bs p h = run-none bs h
run-append (d ∷ ds) bs p h = run-digit d (ds ++ bs) p.0 ∙ ap (λ t. d ∷ t) (run-append ds bs p.1 h)

pub after-append : (ds bs : List ℕ) → AreDigits ds → StartsNoDigit bs → after (ds ++ bs) ≡ bs
after-append [] bs p h = after-none bs h
after-append (d ∷ ds) bs p h = after-digit d (ds ++ bs) p.0 ∙ after-append ds bs p.1 h

pub run_whole : (bs : List ℕ) → after bs ≡ [] → digits_at_front bs ≡ bs
run_whole bs e = sym (append-nil (digits_at_front bs)) ∙ ap (λ t. digits_at_front bs ++ t) (sym e) ∙ run_after bs

pub run-AreDigits_whole : (ds : List ℕ) → AreDigits ds → digits_at_front ds ≡ ds
run-AreDigits_whole ds p = ap digits_at_front (sym (append-nil ds)) ∙ run-append ds [] p tt

pub after-AreDigits_whole : (ds : List ℕ) → AreDigits ds → after ds ≡ []
after-AreDigits_whole ds p = ap after (sym (append-nil ds)) ∙ after-append ds [] p tt

pub power_from_run : (ds : List ℕ) → length ds ≤ 3 → after ds ≡ [] → 1 ≤ length (digits_at_front ds) → IsPower ds
power_from_run ds few e some =
    let whole : digits_at_front ds ≡ ds = run_whole ds e in
    record { some = rw (← whole) some; few = few; digits = rw (← whole) (run-AreDigits ds) }

pub length-run : (bs : List ℕ) → length (digits_at_front bs) ≤ length bs
length-run bs = omega (arith, simp length-append at (ap length (run_after bs)))

pub nil_from_test : (bs : List ℕ) → (length bs == 0) ≡ true → bs ≡ []
nil_from_test [] e = refl
nil_from_test (b ∷ bs) e = absurd (let h : length (b ∷ bs) ≡ 0 = eqb-true _ _ e in omega arith)
