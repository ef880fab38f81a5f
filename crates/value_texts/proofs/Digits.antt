-- Digits at the front.
use Rattle.std.proofs.Common.{◌≡◌, ℕ, suc, ◌≤◌, ◌⊎◌, inl, inr, List, [], ◌∷◌, ◌++◌, length, drop, Bool, true, false, cond, ◌&&◌, nat_eq, nat_le, Option, Some, None, refl, sym, ap, ◌∙◌, rules}
use Rattle.std.specs.List.{AllByRecursion}
use Rattle.std.specs.Char.{is_ascii_digit}
use Rattle.json_decimal.specs.Literal.{IsDigit}
use Rattle.value_texts.specs.Machinery.Reading.{leading_digits, after_byte}

pub bool_cases : (b : Bool) → (b ≡ true) ⊎ (b ≡ false)
bool_cases true = inl refl
bool_cases false = inr refl

pub option_cases : {X : Type 0} (o : Option X) → (o ≡ None) ⊎ ((x : X) × (o ≡ Some x))
option_cases None = inl refl
option_cases (Some x) = inr (x, refl)

pub is_within : (b low high : ℕ) → (nat_le low b && nat_le b high) ≡ true → (low ≤ b) × (b ≤ high)
is_within b low high h = search rules

pub is_within-in : (b low high : ℕ) → low ≤ b → b ≤ high → (nat_le low b && nat_le b high) ≡ true
is_within-in b low high p q = search rules

pub digit_test : (b : ℕ) → IsDigit b → is_ascii_digit b ≡ true
digit_test b d = is_within-in b 48 57 d.low d.high

pub digit_of : (b : ℕ) → is_ascii_digit b ≡ true → IsDigit b
digit_of b h = let w = is_within b 48 57 h in record { low = w.0; high = w.1 }

-- so many digits stand at the front, where none follows them
pub lead_digits : (ds rest : List ℕ) → AllByRecursion IsDigit ds → leading_digits rest ≡ 0 → leading_digits (ds ++ rest) ≡ length ds
lead_digits [] rest all none = none
lead_digits (d ∷ ds) rest all none =
    ap (λ (b : Bool). cond b (suc (leading_digits (ds ++ rest))) 0) (digit_test d all.0) ∙ ap suc (lead_digits ds rest all.1 none)

pub record Led (bs : List ℕ) : Type 0 where
  pub digits : List ℕ
  pub all : AllByRecursion IsDigit digits
  pub count : length digits ≡ leading_digits bs
  pub split : bs ≡ digits ++ drop (leading_digits bs) bs

led_step : (b : ℕ) (bs : List ℕ) (t : Bool) → is_ascii_digit b ≡ t → Led bs → Led (b ∷ bs)
led_step b bs true is led = record {
  digits = b ∷ led.digits;
  all = (digit_of b is, led.all);
  count = ap suc led.count ∙ sym (ap (λ (t : Bool). cond t (suc (leading_digits bs)) 0) is);
  split = ap (λ (l : List ℕ). b ∷ l) led.split ∙ sym (ap (λ (t : Bool). b ∷ (led.digits ++ drop (cond t (suc (leading_digits bs)) 0) (b ∷ bs))) is);
}
led_step b bs false is led = record {
  digits = [];
  all = tt;
  count = sym (ap (λ (t : Bool). cond t (suc (leading_digits bs)) 0) is);
  split = sym (ap (λ (t : Bool). drop (cond t (suc (leading_digits bs)) 0) (b ∷ bs)) is);
}

pub led : (bs : List ℕ) → Led bs
led [] = record { digits = []; all = tt; count = refl; split = refl }
led (b ∷ bs) = led_step b bs (is_ascii_digit b) refl (led bs)

-- ---- a byte at the front
pub byte_takes : (byte : ℕ) (rest : List ℕ) → after_byte byte (byte ∷ rest) ≡ Some rest
byte_takes byte rest = let e : nat_eq byte byte ≡ true = search rules in ap (λ (t : Bool). cond t (Some rest) None) e

byte_step : (byte b : ℕ) (bs rest : List ℕ) (t : Bool) → nat_eq b byte ≡ t → cond t (Some bs) None ≡ Some rest → b ∷ bs ≡ byte ∷ rest
byte_step byte b bs rest true is e = let same : b ≡ byte = search rules in let tail : bs ≡ rest = cc in cc
byte_step byte b bs rest false is e = cc

pub byte_gives : (byte : ℕ) (bs rest : List ℕ) → after_byte byte bs ≡ Some rest → bs ≡ byte ∷ rest
byte_gives byte [] rest e = cc
byte_gives byte (b ∷ bs) rest e = byte_step byte b bs rest (nat_eq b byte) refl e
