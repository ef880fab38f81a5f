-- Comparisons see of a value no more than which number, text or truth value it is.
use Rattle.std.proofs.Common.{◌≡◌, List, [], ◌∷◌, Bool, ◌||◌, ◌&&◌, Option, Some, refl, ap, ap₂, ◌∙◌}
use Rattle.std.specs.Prelude.{not}
use Rattle.json_tree.specs.Values.{Json, null, truth, number, text, array, object}
use Rattle.query_terms.specs.declared.cond.PartKind.{PartKind}
use Rattle.query_terms.specs.declared.operand.Compare.{Compare}
use Rattle.query_terms.specs.declared.operand.Compare.TheVariants as compares
use Rattle.query_terms.specs.declared.operand.Literal.{Literal}
use Rattle.query_terms.specs.declared.operand.Literal.TheVariants as literals
use Rattle.graph_steps.specs.Conditions.{literal_value, both_there, there, compares_as, equals_one, is_primitive, is_text_part}
use Rattle.query_eval.specs.conditions.Machinery.Plain.{plainly}

pub compares-left : (c : Compare) (v w : Json) → compares_as c (plainly v) w ≡ compares_as c v w
compares-left c null w = refl
compares-left c (truth b) w = refl
compares-left c (number n) w = refl
compares-left c (text bytes) w = refl
compares-left c (array vs) w = refl
compares-left c (object ms) w = refl

pub compares-right : (c : Compare) (v w : Json) → compares_as c v (plainly w) ≡ compares_as c v w
compares-right c null w = refl
compares-right c (array vs) w = refl
compares-right c (object ms) w = refl
compares-right c (truth b) null = refl
compares-right c (truth b) (truth d) = refl
compares-right c (truth b) (number n) = refl
compares-right c (truth b) (text bytes) = refl
compares-right c (truth b) (array vs) = refl
compares-right c (truth b) (object ms) = refl
compares-right c (number m) null = refl
compares-right c (number m) (truth d) = refl
compares-right c (number m) (number n) = refl
compares-right c (number m) (text bytes) = refl
compares-right c (number m) (array vs) = refl
compares-right c (number m) (object ms) = refl
compares-right c (text word) null = refl
compares-right c (text word) (truth d) = refl
compares-right c (text word) (number n) = refl
compares-right c (text word) (text bytes) = refl
compares-right c (text word) (array vs) = refl
compares-right c (text word) (object ms) = refl

pub literal-plainly : (l : Literal) → plainly (literal_value l) ≡ literal_value l
literal-plainly (literals.Number n) = refl
literal-plainly (literals.Word bytes) = refl
literal-plainly (literals.Truth b) = refl

pub equals_one-plainly : (ls : List Literal) (v : Json) → equals_one ls (plainly v) ≡ equals_one ls v
equals_one-plainly [] v = refl
equals_one-plainly (l ∷ ls) v = ap₂ (λ (a b : Bool). a || b) (compares-left compares.Same v (literal_value l)) (equals_one-plainly ls v)

pub is_primitive-plainly : (v : Json) → is_primitive (plainly v) ≡ is_primitive v
is_primitive-plainly null = refl
is_primitive-plainly (truth b) = refl
is_primitive-plainly (number n) = refl
is_primitive-plainly (text bytes) = refl
is_primitive-plainly (array vs) = refl
is_primitive-plainly (object ms) = refl

pub text_part-left : (kind : PartKind) (v w : Json) → is_text_part kind (plainly v) w ≡ is_text_part kind v w
text_part-left kind null w = refl
text_part-left kind (truth b) w = refl
text_part-left kind (number n) w = refl
text_part-left kind (text bytes) w = refl
text_part-left kind (array vs) w = refl
text_part-left kind (object ms) w = refl

pub text_part-right : (kind : PartKind) (v w : Json) → is_text_part kind v (plainly w) ≡ is_text_part kind v w
text_part-right kind null w = refl
text_part-right kind (truth b) w = refl
text_part-right kind (number n) w = refl
text_part-right kind (array vs) w = refl
text_part-right kind (object ms) w = refl
text_part-right kind (text whole) null = refl
text_part-right kind (text whole) (truth b) = refl
text_part-right kind (text whole) (number n) = refl
text_part-right kind (text whole) (text bytes) = refl
text_part-right kind (text whole) (array vs) = refl
text_part-right kind (text whole) (object ms) = refl

-- ---- of what is there
pub sides_compare : (c : Compare) (v w a b : Json) (x y : Option Json) → Some v ≡ x → Some w ≡ y → a ≡ plainly v → b ≡ plainly w
    → compares_as c a b ≡ both_there (compares_as c) x y
sides_compare c v w a b x y left right seen_left seen_right =
    ap₂ (compares_as c) seen_left seen_right ∙ compares-left c v (plainly w) ∙ compares-right c v w ∙ ap₂ (both_there (compares_as c)) left right

pub sides_part : (kind : PartKind) (v w a b : Json) (x y : Option Json) → Some v ≡ x → Some w ≡ y → a ≡ plainly v → b ≡ plainly w
    → is_text_part kind a b ≡ both_there (is_text_part kind) x y
sides_part kind v w a b x y left right seen_left seen_right =
    ap₂ (is_text_part kind) seen_left seen_right ∙ text_part-left kind v (plainly w) ∙ text_part-right kind v w ∙ ap₂ (both_there (is_text_part kind)) left right

pub side_among : (ls : List Literal) (v a : Json) (x : Option Json) → Some v ≡ x → a ≡ plainly v → equals_one ls a ≡ there (equals_one ls) x
side_among ls v a x is seen = ap (equals_one ls) seen ∙ equals_one-plainly ls v ∙ ap (there (equals_one ls)) is

pub side_not_among : (ls : List Literal) (v a : Json) (x : Option Json) → Some v ≡ x → a ≡ plainly v
    → (is_primitive a && not (equals_one ls a)) ≡ there (λ u. is_primitive u && not (equals_one ls u)) x
side_not_among ls v a x is seen =
    ap (λ (u : Json). is_primitive u && not (equals_one ls u)) seen
    ∙ ap₂ (λ (p q : Bool). p && not q) (is_primitive-plainly v) (equals_one-plainly ls v)
    ∙ ap (there (λ u. is_primitive u && not (equals_one ls u))) is

pub ruleset seen = (literal-plainly, sides_compare, sides_part, side_among, side_not_among)
