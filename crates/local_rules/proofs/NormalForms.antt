-- Numbers in normal form: those of a text are, and two that are one whole number are equal.
use Rattle.std.proofs.Common.{◌≡◌, ◌≢◌, ℕ, zero, suc, ◌+◌, ◌*◌, ◌%◌, ◌^◌, ◌≤◌, ◌<◌, inl, inr, List, [], ◌∷◌, Bool, true, false, ℤ, pos, negsuc, neg_ℤ, ◌+ℤ◌, ◌*ℤ◌, Some, unsigned_abs, refl, sym, ap, subst, ◌∙◌, mul-le-mul, mul_assoc, mul_comm, zero-mul, arith}
use Rattle.std.proofs.lemmas.Nat.{pow-add}
use Rattle.std.specs.Int.{int_min}
use Rattle.std.proofs.lemmas.Int.{ints}
use Rattle.std.proofs.lemmas.Bool.{cases_eq}
use Rattle.json_decimal.specs.Number.{Number, IsNormalForm}
use Rattle.json_decimal.specs.Comparing.{above, IsWhole, signed}
use Rattle.json_decimal.proofs.Powers.{ten_positive}
use Rattle.json_decimal.proofs.Sizes.{above_from, below_from, ordered}
use Rattle.json_decimal.proofs.Unique.{same_coefficient, same_fields}
use Rattle.json_decimal.proofs.Wholes.{size_from_whole}
use Rattle.json_tree.specs.Values.{Raw, Json, null, truth, number, text, array, object, Elements, no_elements, element, Members, no_members, member, IsReadAs, ElementsAreReadAs, MembersAreReadAs}
use Rattle.json_tree.specs.Grammar.{Spells}
use Rattle.json_tree.specs.Places.{element_at, member_at}
use Rattle.local_rules.specs.Roles.{HasRole}
use Rattle.local_rules.specs.declared.role.Role.{Role}
use Rattle.local_rules.specs.Normal.{ElementsHaveNormalNumbers, HasNormalNumbers, IsNormal, MembersHaveNormalNumbers}

-- ---- numbers of texts
pub normal_form : (negative : Bool) (value : ℕ) (scale : ℤ) (n : Number) → IsNormalForm negative value scale n → IsNormal n
normal_form negative value scale n form = record {
  zero = λ none. elim (cases_eq value 0) [
    | inl nothing ↦ form.zero nothing
    | inr some ↦ absurd ((form.other some).trimmed (ap (λ (c : ℕ). c % 10) none))
  ];
  other = λ some. elim (cases_eq value 0) [
    | inl nothing ↦ absurd (some (ap (λ (m : Number). m.coefficient) (form.zero nothing)))
    | inr more ↦ (form.other more).trimmed
  ];
}

mutual
  pub read_normal : (raw : Raw) (v : Json) → IsReadAs raw v → HasNormalNumbers v
  read_normal null v r = subst (λ (w : Json). HasNormalNumbers w) (sym r) tt
  read_normal (truth b) v r = subst (λ (w : Json). HasNormalNumbers w) (sym r) tt
  read_normal (number l) v r = subst (λ (w : Json). HasNormalNumbers w) (sym r.3) (normal_form _ _ _ r.0 r.1.stands)
  read_normal (text t) v r = subst (λ (w : Json). HasNormalNumbers w) (sym r) tt
  read_normal (array vs) v r = subst (λ (w : Json). HasNormalNumbers w) (sym r.2) (elements_normal vs r.0 r.1)
  read_normal (object ms) v r = subst (λ (w : Json). HasNormalNumbers w) (sym r.2) (members_normal ms r.0 r.1)

  elements_normal : (vs : Elements (List ℕ)) (ws : Elements Number) → ElementsAreReadAs vs ws → ElementsHaveNormalNumbers ws
  elements_normal no_elements ws r = subst (λ (w : Elements Number). ElementsHaveNormalNumbers w) (sym r) tt
  elements_normal (element v vs) ws r = subst (λ (w : Elements Number). ElementsHaveNormalNumbers w) (sym r.4) (read_normal v r.0 r.2, elements_normal vs r.1 r.3)

  members_normal : (ms : Members (List ℕ)) (ns : Members Number) → MembersAreReadAs ms ns → MembersHaveNormalNumbers ns
  members_normal no_members ns r = subst (λ (w : Members Number). MembersHaveNormalNumbers w) (sym r) tt
  members_normal (member k v ms) ns r = subst (λ (w : Members Number). MembersHaveNormalNumbers w) (sym r.4) (read_normal v r.0 r.2, members_normal ms r.1 r.3)

pub spelled_normal : (bytes : List ℕ) (v : Json) → Spells bytes v → HasNormalNumbers v
spelled_normal bytes v h = read_normal h.0 v h.3

-- ---- numbers at places
pub element_normal : (vs : Elements Number) (i : ℕ) (v : Json) → ElementsHaveNormalNumbers vs → element_at vs i ≡ Some v → HasNormalNumbers v
element_normal no_elements i v h at = absurd cc
element_normal (element w vs) zero v h at = let same : w ≡ v = cc in subst (λ (u : Json). HasNormalNumbers u) same h.0
element_normal (element w vs) (suc i) v h at = element_normal vs i v h.1 at

member_normal : (ms : Members Number) (i : ℕ) (k : List ℕ) (v : Json) → MembersHaveNormalNumbers ms → member_at ms i ≡ Some (k, v) → HasNormalNumbers v
member_normal no_members i k v h at = absurd cc
member_normal (member l w ms) zero k v h at =
    let pair : (l, w) ≡ (k, v) = cc in
    let same : w ≡ v = ap (λ (m : List ℕ × Json). m.1) pair in subst (λ (u : Json). HasNormalNumbers u) same h.0
member_normal (member l w ms) (suc i) k v h at = member_normal ms i k v h.1 at

pub normal_at : (place : List ℕ) (r : Role) (v : Json) (q : Role) (w : Json) → HasNormalNumbers v → HasRole r v place q w → HasNormalNumbers w
normal_at [] r v q w h there = subst (λ (u : Json). HasNormalNumbers u) there.1 h
normal_at (i ∷ place) r (array vs) q w h there = normal_at place there.0 there.1 q w (element_normal vs i there.1 h there.2) there.4
normal_at (i ∷ place) r (object ms) q w h there = normal_at place there.0 there.1 q w (member_normal ms i there.2.0 there.1 h there.2.1) there.4
normal_at (i ∷ place) r other q w h there = absurd there.2

-- ---- one number for each whole number
-- the size of a number, where that of another is the same
crossed : (c d a b e f z : ℕ) → c * 10 ^ a ≡ z * 10 ^ b → d * 10 ^ e ≡ z * 10 ^ f → c * 10 ^ (a + f) ≡ d * 10 ^ (e + b)
crossed c d a b e f z first second =
    ap (λ (t : ℕ). c * t) (pow-add 10 a f) ∙ sym (mul_assoc c (10 ^ a) (10 ^ f)) ∙ ap (λ (t : ℕ). t * 10 ^ f) first
    ∙ mul_assoc z (10 ^ b) (10 ^ f) ∙ ap (λ (t : ℕ). z * t) (mul_comm (10 ^ b) (10 ^ f)) ∙ sym (mul_assoc z (10 ^ f) (10 ^ b))
    ∙ ap (λ (t : ℕ). t * 10 ^ b) (sym second) ∙ mul_assoc d (10 ^ e) (10 ^ b) ∙ ap (λ (t : ℕ). d * t) (sym (pow-add 10 e b))

-- an exponent by its distances from 0
by_distances : (p : ℤ) → p ≡ pos (above (pos 0) p) +ℤ neg_ℤ (pos (above p (pos 0)))
by_distances p = elim (ordered p (pos 0)) [
  | inl h ↦ (let is = h.1 in let up = above_from p (pos 0) h.0 h.1 in let down = below_from (pos 0) p h.0 h.1 in omega (arith, ints))
  | inr h ↦ (let is = h.1 in let up = above_from (pos 0) p h.0 h.1 in let down = below_from p (pos 0) h.0 h.1 in omega (arith, ints))
]

product_some : (c k : ℕ) → c ≢ 0 → 1 ≤ c * 10 ^ k
product_some c k some =
    let one : 1 ≤ c = omega arith in
    let more : 1 * 1 ≤ c * 10 ^ k = mul-le-mul one (ten_positive k) in
    omega arith

no_product : (c k : ℕ) → c * 10 ^ k ≡ 0 → c ≡ 0
no_product c k e = elim (cases_eq c 0) [ inl none ↦ none | inr some ↦ absurd (let more = product_some c k some in omega arith) ]

-- the sign of a number is that of its whole number
abbrev is_below : ℤ → Bool
is_below (pos n) = false
is_below (negsuc n) = true

factor_some : (n k : ℕ) → 0 < k → 1 ≤ suc n * k
factor_some n k some =
    let one : 1 ≤ suc n = omega arith in
    let more : 1 * 1 ≤ suc n * k = mul-le-mul one some in
    omega arith

sign_is : (b : Bool) (x k : ℕ) (z : ℤ) → 1 ≤ x → 0 < k → signed b x ≡ z *ℤ pos k → b ≡ is_below z
sign_is false x k (pos n) more some e = refl
sign_is false x k (negsuc n) more some e = let large = factor_some n k some in absurd (omega (arith, ints))
sign_is true x k (pos n) more some e = absurd (omega (arith, ints))
sign_is true x k (negsuc n) more some e = refl

whole_sign : (m : Number) (z : ℤ) → m.coefficient ≢ 0 → IsWhole m z → m.negative ≡ is_below z
whole_sign m z some is =
    let low = int_min m.exponent (pos 0) in
    sign_is m.negative (m.coefficient * 10 ^ above low m.exponent) (10 ^ above low (pos 0)) z (product_some m.coefficient (above low m.exponent) some) (ten_positive (above low (pos 0))) is

pub normal_once : (m n : Number) (z : ℤ) → IsNormal m → IsNormal n → IsWhole m z → IsWhole n z → m ≡ n
normal_once m n z p q first second =
    let a = above (pos 0) m.exponent in
    let b = above m.exponent (pos 0) in
    let e = above (pos 0) n.exponent in
    let f = above n.exponent (pos 0) in
    let same = crossed m.coefficient n.coefficient a b e f (unsigned_abs z) (size_from_whole m z first) (size_from_whole n z second) in
    elim (cases_eq m.coefficient 0) [
      | inl none ↦ both_zero none (no_product n.coefficient (e + b) (sym same ∙ ap (λ (t : ℕ). t * 10 ^ (a + f)) none ∙ zero-mul (10 ^ (a + f))))
      | inr some ↦ both_some some (λ none. some (no_product m.coefficient (a + f) (same ∙ ap (λ (t : ℕ). t * 10 ^ (e + b)) none ∙ zero-mul (10 ^ (e + b))))) same
    ]
  where
    both_zero : m.coefficient ≡ 0 → n.coefficient ≡ 0 → m ≡ n
    both_zero none nothing = p.zero none ∙ sym (q.zero nothing)

    both_some : m.coefficient ≢ 0 → n.coefficient ≢ 0
        → m.coefficient * 10 ^ (above (pos 0) m.exponent + above n.exponent (pos 0)) ≡ n.coefficient * 10 ^ (above (pos 0) n.exponent + above m.exponent (pos 0)) → m ≡ n
    both_some some more same =
        let alike = same_coefficient m.coefficient n.coefficient (above (pos 0) m.exponent + above n.exponent (pos 0)) (above (pos 0) n.exponent + above m.exponent (pos 0)) same (p.other some) (q.other more) in
        let exponents = alike.1 in
        let one = by_distances m.exponent in
        let other = by_distances n.exponent in
        same_fields m n (whole_sign m z some first ∙ sym (whole_sign n z more second)) alike.0 (omega (arith, ints))
