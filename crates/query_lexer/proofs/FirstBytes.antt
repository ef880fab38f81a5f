-- The first byte tells what a token is.
use Rattle.std.proofs.Common.{◌≡◌, ℕ, ◌≤◌, List, [], ◌∷◌, ◌++◌, length, get_or, Bool, true, false, cond, ◌==◌, sym, ap, ◌∙◌, subst, arith, length-append, if◌then◌else◌}
use Rattle.std.proofs.lemmas.Bool.Decides.{nat_tests}
use Rattle.json_decimal.specs.Literal.{Literal, IsLiteral, IsDigit, IsInteger, minus_bytes, fraction_bytes, exponent_bytes}
use Rattle.query_terms.specs.declared.operand.Compare.TheVariants as compares
use Rattle.query_terms.specs.declared.tokens.token.Mark.{Mark}
use Rattle.query_terms.specs.declared.tokens.token.Mark.TheVariants as marks
use Rattle.query_terms.specs.declared.tokens.token.Token.{Token}
use Rattle.query_terms.specs.declared.tokens.token.Token.TheVariants as tokens
use Rattle.query_terms.specs.tokens.Spellings.{is_name_start, is_number_start, IsQueryName, IsSpelling, mark_bytes}

abbrev pub kind_of : Token → ℕ
kind_of (tokens.Name w name) = 0
kind_of (tokens.Number d) = 1
kind_of (tokens.Text t m) = 2
kind_of (tokens.Mark m) = 3

abbrev pub kind_at : ℕ → ℕ
kind_at b = if is_name_start b then 0 else if is_number_start b then 1 else if b == 39 then 2 else 3

pub start_kind : (b : ℕ) → is_name_start b ≡ true → kind_at b ≡ 0
start_kind b h = ap (λ (x : Bool). cond x 0 (if is_number_start b then 1 else if b == 39 then 2 else 3)) h

no_start : (b : ℕ) → is_number_start b ≡ true → is_name_start b ≡ false
no_start b h = grind (arith, nat_tests)

pub number_kind : (b : ℕ) → is_number_start b ≡ true → kind_at b ≡ 1
number_kind b h =
    ap (λ (x : Bool). cond x 0 (if is_number_start b then 1 else if b == 39 then 2 else 3)) (no_start b h)
    ∙ ap (λ (x : Bool). cond x 1 (if b == 39 then 2 else 3)) h

pub other_kind : (b : ℕ) → is_name_start b ≡ false → is_number_start b ≡ false → (b ≡ 39 → ⊥) → kind_at b ≡ 3
other_kind b n d q =
    ap (λ (x : Bool). cond x 0 (if is_number_start b then 1 else if b == 39 then 2 else 3)) n
    ∙ ap (λ (x : Bool). cond x 1 (if b == 39 then 2 else 3)) d
    ∙ grind (arith, nat_tests)

digit_start : (b : ℕ) → 48 ≤ b → b ≤ 57 → is_number_start b ≡ true
digit_start b low high = grind (arith, nat_tests)

digit_kind : (b : ℕ) → 48 ≤ b → b ≤ 57 → kind_at b ≡ 1
digit_kind b low high = number_kind b (digit_start b low high)

integer_first : (ds rest : List ℕ) (b : ℕ) (bs : List ℕ) → IsInteger ds → b ∷ bs ≡ ds ++ rest → IsDigit b
integer_first [] rest b bs i e = let s = i.some in absurd (omega (arith, s))
integer_first (d ∷ ds) rest b bs i e = let same : d ≡ b = cc in subst (λ (x : ℕ). IsDigit x) same i.digits.0

literal_first : (n : Bool) (l : Literal) (b : ℕ) (bs : List ℕ) → IsLiteral l
    → b ∷ bs ≡ minus_bytes n ++ (l.integer ++ (fraction_bytes l.fraction ++ exponent_bytes l.exponent)) → kind_at b ≡ 1
literal_first true l b bs is e = let first : b ≡ 45 = cc in ap kind_at first
literal_first false l b bs is e = let d = integer_first l.integer _ b bs is.integer e in digit_kind b d.low d.high

mark_kind : (m : Mark) (b : ℕ) (bs : List ℕ) → b ∷ bs ≡ mark_bytes m → kind_at b ≡ 3
mark_kind marks.Star b bs e = let f : b ≡ 42 = cc in ap kind_at f
mark_kind marks.Open b bs e = let f : b ≡ 40 = cc in ap kind_at f
mark_kind marks.Close b bs e = let f : b ≡ 41 = cc in ap kind_at f
mark_kind marks.Comma b bs e = let f : b ≡ 44 = cc in ap kind_at f
mark_kind marks.Dot b bs e = let f : b ≡ 46 = cc in ap kind_at f
mark_kind marks.OpenList b bs e = let f : b ≡ 91 = cc in ap kind_at f
mark_kind marks.CloseList b bs e = let f : b ≡ 93 = cc in ap kind_at f
mark_kind (marks.Compare compares.Same) b bs e = let f : b ≡ 61 = cc in ap kind_at f
mark_kind (marks.Compare compares.Other) b bs e = let f : b ≡ 33 = cc in ap kind_at f
mark_kind (marks.Compare compares.Less) b bs e = let f : b ≡ 60 = cc in ap kind_at f
mark_kind (marks.Compare compares.Greater) b bs e = let f : b ≡ 62 = cc in ap kind_at f
mark_kind (marks.Compare compares.LessOrSame) b bs e = let f : b ≡ 60 = cc in ap kind_at f
mark_kind (marks.Compare compares.GreaterOrSame) b bs e = let f : b ≡ 62 = cc in ap kind_at f

name_kind : (name : List ℕ) (b : ℕ) (bs : List ℕ) → IsQueryName name → b ∷ bs ≡ name → kind_at b ≡ 0
name_kind [] b bs i e = absurd i
name_kind (c ∷ cs) b bs i e = let same : c ≡ b = cc in start_kind b (subst (λ (x : ℕ). is_name_start x ≡ true) same i.0)

spelled_kind : (t : Token) (b : ℕ) (bs : List ℕ) → IsSpelling t (b ∷ bs) → kind_of t ≡ kind_at b
spelled_kind (tokens.Name w name) b bs h = sym (name_kind name b bs h.1 h.0)
spelled_kind (tokens.Number d) b bs h = sym (literal_first h.0.literal.negative h.0.literal b bs h.0.is h.0.spelled)
spelled_kind (tokens.Text t m) b bs h = let e = h.1 in let f : b ≡ 39 = cc in sym (ap kind_at f)
spelled_kind (tokens.Mark m) b bs h = sym (mark_kind m b bs h)

no_literal : (n : Bool) (l : Literal) → IsLiteral l → [] ≡ minus_bytes n ++ (l.integer ++ (fraction_bytes l.fraction ++ exponent_bytes l.exponent)) → ⊥
no_literal true l is e = cc
no_literal false l is e =
    let s = is.integer.some in
    let a = length-append l.integer (fraction_bytes l.fraction ++ exponent_bytes l.exponent) in
    let z = ap length e in
    omega (arith, s, a, z)

no_mark : (m : Mark) → [] ≡ mark_bytes m → ⊥
no_mark marks.Star e = cc
no_mark marks.Open e = cc
no_mark marks.Close e = cc
no_mark marks.Comma e = cc
no_mark marks.Dot e = cc
no_mark marks.OpenList e = cc
no_mark marks.CloseList e = cc
no_mark (marks.Compare compares.Same) e = cc
no_mark (marks.Compare compares.Other) e = cc
no_mark (marks.Compare compares.Less) e = cc
no_mark (marks.Compare compares.Greater) e = cc
no_mark (marks.Compare compares.LessOrSame) e = cc
no_mark (marks.Compare compares.GreaterOrSame) e = cc

-- each token has a byte
pub spelled_some : (t : Token) → IsSpelling t [] → ⊥
spelled_some (tokens.Name w name) h = subst IsQueryName (sym h.0) h.1
spelled_some (tokens.Number d) h = no_literal h.0.literal.negative h.0.literal h.0.is h.0.spelled
spelled_some (tokens.Text t m) h = let e = h.1 in cc
spelled_some (tokens.Mark m) h = no_mark m h

-- the kind of a token that stands in front
pub same_kind : (t : Token) (from bytes rest : List ℕ) → IsSpelling t bytes → from ≡ bytes ++ rest → kind_of t ≡ kind_at (get_or from 0 0)
same_kind t from [] rest s e = absurd (spelled_some t s)
same_kind t from (b ∷ bs) rest s e = spelled_kind t b bs s ∙ ap kind_at (sym (ap (λ (l : List ℕ). get_or l 0 0) e))
