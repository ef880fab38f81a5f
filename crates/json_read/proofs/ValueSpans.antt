-- What the functions that read values rest on.
use Rattle.std.proofs.Common.{◌≡◌, ℕ, zero, suc, ◌+◌, ◌-◌, ◌<◌, ◌≤◌, ◌⊎◌, List, [], ◌∷◌, length, get_or, Option, Some, None, Bool, cond, nat_eq, inl, inr, refl, sym, ap, subst, ◌∙◌, arith}
use Rattle.std.proofs.lemmas.Bool.Decides.{leb_tells}
use Rattle.json_read.specs.declared.fault.JsonFault.{JsonFault}
use Rattle.json_tree.specs.declared.tree.Tree.{Tree}
use Rattle.json_tree.specs.Values.{Raw, null, truth, number, text, array, object, no_elements, no_members}
use Rattle.json_tree.specs.Values.{IsInRange}
use Rattle.json_tree.specs.declared.tree.Tree as variants
use Rattle.json_decimal.specs.declared.decimal.Decimal.{Decimal}
use Rattle.json_decimal.specs.Decimals.{number_of}
use Rattle.json_decimal.specs.Number.{Number, zero_number, IsOutOfRange}
use Rattle.json_decimal.specs.Literal.{IsLiteralOf}
use Rattle.std.proofs.lemmas.Int.{ints}
use Rattle.json_tree.proofs.Views.{view-Null, view-Bool, view-Number, view-Text, view-List, view-Members}
use Rattle.json_read.proofs.Ranges.{range_leaf, range_here, range_none}
use Rattle.json_read.specs.Machinery.Ways.{IsFirstRange}
use Rattle.json_tree.specs.Grammar.{IsSpace}
use Rattle.json_read.specs.Machinery.Automaton.{Pairs, Frame, in_array, in_object, State, value, first_element, first_key, next_key, colon, after, in_text, as_value, as_key, spaced, word_next, step, Outcome, reading}
use Rattle.json_read.specs.Machinery.Leads.{IsOutcome, IsRead}
use Rattle.json_read.specs.Machinery.Spans.{Faults}
use Rattle.json_read.proofs.Readings.{reading_byte, reading_same}
use Rattle.json_read.proofs.Slices.{past_byte, past_range}

-- a byte that is no white space
pub not_spaced : (s : State) (b : ℕ) (other : Option State) → (IsSpace b → ⊥) → spaced s b other ≡ other
not_spaced s b other h =
    past_byte b 32 _ _ (λ e. h (inl e))
    ∙ past_byte b 9 _ _ (λ e. h (inr (inl e)))
    ∙ past_byte b 10 _ _ (λ e. h (inr (inr (inl e))))
    ∙ past_byte b 13 _ _ (λ e. h (inr (inr (inr e))))

-- ---- keys
pub key_begins : (bytes : List ℕ) (at : ℕ) (d : ℕ) (k : List Frame) (ms : Pairs) → at < length bytes → get_or bytes at 0 ≡ 34
    → reading bytes (next_key d k ms) at ≡ reading bytes (in_text (as_key ms) [] d k) (at + 1)
key_begins bytes at d k ms h e = reading_byte bytes (next_key d k ms) (in_text (as_key ms) [] d k) at 34 h e refl

pub colon_over : (bytes : List ℕ) (at : ℕ) (d : ℕ) (k : List Frame) (ms : Pairs) (key : List ℕ) → at < length bytes → get_or bytes at 0 ≡ 58
    → reading bytes (colon d k ms key) at ≡ reading bytes (value d (in_object ms key ∷ k)) (at + 1)
colon_over bytes at d k ms key h e = reading_byte bytes (colon d k ms key) (value d (in_object ms key ∷ k)) at 58 h e refl

pub colon_fails : (bytes : List ℕ) (at : ℕ) (fault : JsonFault) (d : ℕ) (k : List Frame) (ms : Pairs) (key : List ℕ) → Faults bytes at fault
    → (IsSpace (get_or bytes at 0) → ⊥) → (get_or bytes at 0 ≡ 58 → ⊥) → IsOutcome bytes fault (reading bytes (colon d k ms key) at)
colon_fails bytes at fault d k ms key f h e =
    let b = get_or bytes at 0 in
    f (colon d k ms key) (λ l. not_spaced (colon d k ms key) b _ h ∙ past_byte b 58 _ _ e) (λ l. refl)

-- ---- the front of an array or an object
pub array_begins : (bytes : List ℕ) (at : ℕ) (d : ℕ) (k : List Frame) → (IsSpace (get_or bytes at 0) → ⊥) → (get_or bytes at 0 ≡ 93 → ⊥)
    → reading bytes (first_element d k) at ≡ reading bytes (value d (in_array [] ∷ k)) at
array_begins bytes at d k h e =
    let b = get_or bytes at 0 in
    reading_same bytes (first_element d k) (value d (in_array [] ∷ k)) at
    (λ l. not_spaced (first_element d k) b _ h ∙ past_byte b 93 _ _ e ∙ sym (not_spaced (value d (in_array [] ∷ k)) b _ h))
    (λ l. refl)

pub array_ends : (bytes : List ℕ) (at : ℕ) (d : ℕ) (k : List Frame) → at < length bytes → get_or bytes at 0 ≡ 93
    → reading bytes (first_element d k) at ≡ reading bytes (after (suc d) k (array no_elements)) (at + 1)
array_ends bytes at d k h e = reading_byte bytes (first_element d k) (after (suc d) k (array no_elements)) at 93 h e refl

pub object_begins : (bytes : List ℕ) (at : ℕ) (d : ℕ) (k : List Frame) → (IsSpace (get_or bytes at 0) → ⊥) → (get_or bytes at 0 ≡ 125 → ⊥)
    → reading bytes (first_key d k) at ≡ reading bytes (next_key d k []) at
object_begins bytes at d k h e =
    let b = get_or bytes at 0 in
    reading_same bytes (first_key d k) (next_key d k []) at
    (λ l. not_spaced (first_key d k) b _ h
    ∙ ap (λ (o : Option State). cond (nat_eq b 34) (Some (in_text (as_key []) [] d k)) o) (past_byte b 125 _ _ e)
    ∙ sym (not_spaced (next_key d k []) b _ h))
    (λ l. refl)

pub object_ends : (bytes : List ℕ) (at : ℕ) (d : ℕ) (k : List Frame) → at < length bytes → get_or bytes at 0 ≡ 125
    → reading bytes (first_key d k) at ≡ reading bytes (after (suc d) k (object no_members)) (at + 1)
object_ends bytes at d k h e = reading_byte bytes (first_key d k) (after (suc d) k (object no_members)) at 125 h e refl

-- ---- a value's first byte
pub text_begins : (bytes : List ℕ) (at : ℕ) (d : ℕ) (k : List Frame) → at < length bytes → get_or bytes at 0 ≡ 34
    → reading bytes (value d k) at ≡ reading bytes (in_text as_value [] d k) (at + 1)
text_begins bytes at d k h e = reading_byte bytes (value d k) (in_text as_value [] d k) at 34 h e refl

pub array_opens : (bytes : List ℕ) (at : ℕ) (d : ℕ) (k : List Frame) → at < length bytes → get_or bytes at 0 ≡ 91
    → reading bytes (value (suc d) k) at ≡ reading bytes (first_element d k) (at + 1)
array_opens bytes at d k h e = reading_byte bytes (value (suc d) k) (first_element d k) at 91 h e refl

pub object_opens : (bytes : List ℕ) (at : ℕ) (d : ℕ) (k : List Frame) → at < length bytes → get_or bytes at 0 ≡ 123
    → reading bytes (value (suc d) k) at ≡ reading bytes (first_key d k) (at + 1)
object_opens bytes at d k h e = reading_byte bytes (value (suc d) k) (first_key d k) at 123 h e refl

outside_digits : (b : ℕ) → (48 ≤ b → b ≤ 57 → ⊥) → (b < 49) ⊎ (57 < b)
outside_digits b h = elim (leb_tells 48 b) [
  | inl p ↦ elim (leb_tells b 57) [
    | inl q ↦ absurd (h p.1 q.1)
    | inr q ↦ inr q.1
  ]
  | inr p ↦ let less = p.1 in inl (omega arith)
]

-- no value begins so
pub value_dead : (b d : ℕ) (k : List Frame) → (IsSpace b → ⊥)
    → (b ≡ 34 → ⊥) → (b ≡ 91 → ⊥) → (b ≡ 123 → ⊥) → (b ≡ 110 → ⊥) → (b ≡ 116 → ⊥) → (b ≡ 102 → ⊥) → (b ≡ 45 → ⊥) → (48 ≤ b → b ≤ 57 → ⊥)
    → step (value d k) b ≡ None
value_dead b d k h q a o n t f m digit =
    not_spaced (value d k) b _ h
    ∙ past_byte b 34 _ _ q
    ∙ past_byte b 91 _ _ a
    ∙ past_byte b 123 _ _ o
    ∙ past_byte b 110 _ _ n
    ∙ past_byte b 116 _ _ t
    ∙ past_byte b 102 _ _ f
    ∙ past_byte b 45 _ _ m
    ∙ past_byte b 48 _ _ (λ e. digit (omega arith) (omega arith))
    ∙ past_range b 49 57 _ _ (outside_digits b digit)

-- ---- what holds no number
range_text : (bytes : List ℕ) → IsFirstRange (text bytes) None
range_text bytes = range_leaf (text bytes) (λ l e. cc) (λ i part h. h)

range_null : IsFirstRange null None
range_null = range_leaf null (λ l e. cc) (λ i part h. h)

range_truth : (b : Bool) → IsFirstRange (truth b) None
range_truth b = range_leaf (truth b) (λ l e. cc) (λ i part h. h)

range_no_elements : IsFirstRange (array no_elements) None
range_no_elements = range_leaf (array no_elements) (λ l e. cc) (λ i part h. cc)

range_no_members : IsFirstRange (object no_members) None
range_no_members = range_leaf (object no_members) (λ l e. cc) (λ i part h. let e = h.1 in cc)

pub text_is : (bytes : List ℕ) (next : Raw → State) (content : List ℕ) (at : ℕ) (o : Outcome) → o ≡ reading bytes (next (text content)) at
    → IsRead bytes next (variants.Text content) None at o
text_is bytes next content at o e = (text content, view-Text content, range_text content, e)

pub null_is : (bytes : List ℕ) (next : Raw → State) (at : ℕ) (o : Outcome) → o ≡ reading bytes (next null) at → IsRead bytes next variants.Null None at o
null_is bytes next at o e = (null, view-Null, range_null, e)

pub truth_is : (bytes : List ℕ) (next : Raw → State) (b : Bool) (at : ℕ) (o : Outcome) → o ≡ reading bytes (next (truth b)) at → IsRead bytes next (variants.Bool b) None at o
truth_is bytes next b at o e = (truth b, view-Bool b, range_truth b, e)

pub no_elements_are : (bytes : List ℕ) (next : Raw → State) (at : ℕ) (o : Outcome) → o ≡ reading bytes (next (array no_elements)) at
    → IsRead bytes next (variants.List []) None at o
no_elements_are bytes next at o e = (array no_elements, (no_elements, refl, view-List []), range_no_elements, e)

pub no_members_are : (bytes : List ℕ) (next : Raw → State) (at : ℕ) (o : Outcome) → o ≡ reading bytes (next (object no_members)) at
    → IsRead bytes next (variants.Members []) None at o
no_members_are bytes next at o e = (object no_members, (no_members, refl, view-Members []), range_no_members, e)

-- ---- numbers
pub not_out : (n : Number) → IsInRange n → IsOutOfRange n → ⊥
not_out n h (inl p) = let low = h.low in omega (arith, ints)
not_out n h (inr p) = let high = h.high in omega (arith, ints)

pub number_read : (bytes : List ℕ) (next : Raw → State) (literal : List ℕ) (d : Decimal) (at : ℕ) (o : Outcome) → IsLiteralOf literal (number_of d) → IsInRange (number_of d)
    → ((n : Number) → IsLiteralOf literal n → number_of d ≡ n) → o ≡ reading bytes (next (number literal)) at
    → IsRead bytes next (variants.Number d) None at o
number_read bytes next literal d at o is within one e = (
  number literal,
  (number_of d, is, inl (within, view-Number d)),
  range_none literal (λ n l out. not_out n (subst IsInRange (one n l) within) out),
  e,
)

pub number_out : (bytes : List ℕ) (next : Raw → State) (literal : List ℕ) (n : Number) (d : Decimal) (up : List ℕ) (at : ℕ) (o : Outcome) → IsLiteralOf literal n → IsOutOfRange n
    → number_of d ≡ zero_number → up ≡ [] → o ≡ reading bytes (next (number literal)) at
    → IsRead bytes next (variants.Number d) (Some up) at o
number_out bytes next literal n d up at o is out zeroed none e = (
  number literal,
  (n, is, inr (out, view-Number d ∙ ap (λ (m : Number). number m) zeroed)),
  subst (λ (xs : List ℕ). IsFirstRange (number literal) (Some xs)) (sym none) (range_here literal n is out),
  e,
)

-- ---- behind a bracket
pub array_opens_at : (bytes : List ℕ) (at : ℕ) (d : ℕ) (k : List Frame) → 0 < d → at < length bytes → get_or bytes at 0 ≡ 91
    → reading bytes (value d k) at ≡ reading bytes (first_element (d - 1) k) (at + 1)
array_opens_at bytes at zero k some h e = absurd (omega arith)
array_opens_at bytes at (suc d) k some h e =
    let less : suc d - 1 ≡ d = omega arith in
    array_opens bytes at d k h e ∙ ap (λ (n : ℕ). reading bytes (first_element n k) (at + 1)) (sym less)

pub object_opens_at : (bytes : List ℕ) (at : ℕ) (d : ℕ) (k : List Frame) → 0 < d → at < length bytes → get_or bytes at 0 ≡ 123
    → reading bytes (value d k) at ≡ reading bytes (first_key (d - 1) k) (at + 1)
object_opens_at bytes at zero k some h e = absurd (omega arith)
object_opens_at bytes at (suc d) k some h e =
    let less : suc d - 1 ≡ d = omega arith in
    object_opens bytes at d k h e ∙ ap (λ (n : ℕ). reading bytes (first_key n k) (at + 1)) (sym less)

-- ---- literal names
pub word_begins : (bytes : List ℕ) (at b : ℕ) (word : List ℕ) (v : Raw) (d : ℕ) (k : List Frame) → at < length bytes → get_or bytes at 0 ≡ b
    → step (value d k) b ≡ Some (word_next word v d k) → reading bytes (value d k) at ≡ reading bytes (word_next word v d k) (at + 1)
word_begins bytes at b word v d k h e f = reading_byte bytes (value d k) (word_next word v d k) at b h e f
