-- A spelling is of one token, and one token is the longest at a place.
use Rattle.std.proofs.Common.{◌≡◌, ℕ, ◌%◌, ◌^◌, ◌<◌, List, [], ◌∷◌, ◌++◌, length, get_or, Bool, true, false, Option, Some, None, refl, sym, ap, ◌∙◌, subst, arith}
use Rattle.std.specs.Prelude.{ℤ, pos, neg_ℤ, ◌≤ℤ◌, IsTrue}
use Rattle.std.specs.List.{AllByRecursion}
use Rattle.std.proofs.lemmas.Bool.Decides.{nat_tests}
use denote.Struct.Props.{props}
use Rattle.dt_base.specs.names.Grammar.{Identifier}
use Rattle.dt_base.proofs.names.Cuts.{HasDtmiForm-unique}
use Rattle.json_decimal.specs.declared.decimal.Decimal.{Decimal}
use Rattle.json_decimal.specs.Halves.{joined_halves}
use Rattle.json_decimal.specs.Number.{Number}
use Rattle.json_decimal.specs.Decimals.{number_of}
use Rattle.json_decimal.proofs.Unique.{one_number_of}
use Rattle.query_terms.specs.declared.operand.Compare.TheVariants as compares
use Rattle.query_terms.specs.declared.tokens.token.Mark.{Mark}
use Rattle.query_terms.specs.declared.tokens.token.Mark.TheVariants as marks
use Rattle.query_terms.specs.declared.tokens.token.Token.{Token}
use Rattle.query_terms.specs.declared.tokens.token.Token.TheVariants as tokens
use Rattle.query_terms.specs.tokens.Words.{word_of}
use Rattle.query_terms.specs.tokens.Spellings.{is_space, mark_bytes, AreCharacters, IsModel, IsSpelling, IsLongest, SkipsSpaces}
use Rattle.query_lexer.specs.Machinery.Spans.{mark_at}
use Rattle.query_lexer.proofs.FirstBytes.{kind_of, kind_at, same_kind}
use Rattle.query_lexer.proofs.TextSpans.{one_content}

-- ---- decimals
same_halves : (a b c d : ℕ) → b < 2 ^ 64 → d < 2 ^ 64 → joined_halves a b ≡ joined_halves c d → (a ≡ c) × (b ≡ d)
same_halves a b c d p q e = (omega (arith, p, q, e), omega (arith, p, q, e))

make : (h l : ℕ) (x : ℤ) (n : Bool) → joined_halves h l < 10 ^ 38 → (joined_halves h l % 10 ≡ 0 → joined_halves h l ≡ 0) → neg_ℤ (pos 900) ≤ℤ x → x ≤ℤ pos 900
    → (joined_halves h l ≡ 0 → (n ≡ false) × (x ≡ pos 0)) → Decimal
make h l x n b t lo mo z = record { high = h; low = l; exponent = x; negative = n; bounded = b; trimmed = t; least = lo; most = mo; zero = z }

abbrev Same : Decimal → ℕ → ℕ → ℤ → Bool → Type 0
Same d h l x n = (b : joined_halves h l < 10 ^ 38) (t : joined_halves h l % 10 ≡ 0 → joined_halves h l ≡ 0) (lo : neg_ℤ (pos 900) ≤ℤ x) (mo : x ≤ℤ pos 900)
    (z : joined_halves h l ≡ 0 → (n ≡ false) × (x ≡ pos 0)) → d ≡ make h l x n b t lo mo z

itself : (d : Decimal) → Same d d.high d.low d.exponent d.negative
unfolding make
itself d b t lo mo z =
    let bounded : IsProp (joined_halves d.high d.low < 10 ^ 38) = hlevel props in
    let trimmed : IsProp (joined_halves d.high d.low % 10 ≡ 0 → joined_halves d.high d.low ≡ 0) = hlevel props in
    let least : IsProp (neg_ℤ (pos 900) ≤ℤ d.exponent) = hlevel props in
    let most : IsProp (d.exponent ≤ℤ pos 900) = hlevel props in
    let zero : IsProp (joined_halves d.high d.low ≡ 0 → (d.negative ≡ false) × (d.exponent ≡ pos 0)) = hlevel props in
    ap (λ (v : joined_halves d.high d.low < 10 ^ 38). make d.high d.low d.exponent d.negative v d.trimmed d.least d.most d.zero) (bounded d.bounded b)
    ∙ ap (λ (v : joined_halves d.high d.low % 10 ≡ 0 → joined_halves d.high d.low ≡ 0). make d.high d.low d.exponent d.negative b v d.least d.most d.zero) (trimmed d.trimmed t)
    ∙ ap (λ (v : neg_ℤ (pos 900) ≤ℤ d.exponent). make d.high d.low d.exponent d.negative b t v d.most d.zero) (least d.least lo)
    ∙ ap (λ (v : d.exponent ≤ℤ pos 900). make d.high d.low d.exponent d.negative b t lo v d.zero) (most d.most mo)
    ∙ ap (λ (v : joined_halves d.high d.low ≡ 0 → (d.negative ≡ false) × (d.exponent ≡ pos 0)). make d.high d.low d.exponent d.negative b t lo mo v) (zero d.zero z)

same_decimal : (d e : Decimal) → d.low < 2 ^ 64 → e.low < 2 ^ 64 → number_of d ≡ number_of e → d ≡ e
unfolding make
same_decimal d e p q same =
    let halves = same_halves d.high d.low e.high e.low p q (ap (λ (n : Number). n.coefficient) same) in
    let one = subst (λ (h : ℕ). Same d h d.low d.exponent d.negative) halves.0 (itself d) in
    let two = subst (λ (l : ℕ). Same d e.high l d.exponent d.negative) halves.1 one in
    let three = subst (λ (x : ℤ). Same d e.high e.low x d.negative) (ap (λ (n : Number). n.exponent) same) two in
    let four = subst (λ (b : Bool). Same d e.high e.low e.exponent b) (ap (λ (n : Number). n.negative) same) three in
    four e.bounded e.trimmed e.least e.most e.zero

-- ---- tokens
one_model : (content : List ℕ) (m o : Option Identifier) → IsModel content m → IsModel content o → m ≡ o
one_model content None None p q = refl
one_model content None (Some i) p q = absurd (p i q)
one_model content (Some i) None p q = absurd (q i p)
one_model content (Some i) (Some j) p q = ap (λ (x : Identifier). Some x) (HasDtmiForm-unique content i j p.text.form q.text.form)

mark_itself : (m : Mark) → mark_at (get_or (mark_bytes m) 0 0) (get_or (mark_bytes m) 1 0) ≡ Some m
mark_itself marks.Star = refl
mark_itself marks.Open = refl
mark_itself marks.Close = refl
mark_itself marks.Comma = refl
mark_itself marks.Dot = refl
mark_itself marks.OpenList = refl
mark_itself marks.CloseList = refl
mark_itself (marks.Compare compares.Same) = refl
mark_itself (marks.Compare compares.Other) = refl
mark_itself (marks.Compare compares.Less) = refl
mark_itself (marks.Compare compares.Greater) = refl
mark_itself (marks.Compare compares.LessOrSame) = refl
mark_itself (marks.Compare compares.GreaterOrSame) = refl

one_mark : (m o : Mark) → mark_bytes m ≡ mark_bytes o → m ≡ o
one_mark m o e =
    let both : Some m ≡ Some o = sym (mark_itself m) ∙ ap (λ (l : List ℕ). mark_at (get_or l 0 0) (get_or l 1 0)) e ∙ mark_itself o in cc

without_end : (xs : List ℕ) → xs ++ [] ≡ xs
without_end [] = refl
without_end (x ∷ xs) = ap (λ (l : List ℕ). x ∷ l) (without_end xs)

kinds : (t u : Token) (bytes : List ℕ) → IsSpelling t bytes → IsSpelling u bytes → kind_of t ≡ kind_of u
kinds t u bytes p q = same_kind t bytes bytes [] p (sym (without_end bytes)) ∙ sym (same_kind u bytes bytes [] q (sym (without_end bytes)))

pub one_token : (t u : Token) (bytes : List ℕ) → IsSpelling t bytes → IsSpelling u bytes → t ≡ u
one_token (tokens.Name v name) (tokens.Name w other) bytes p q =
    let same : name ≡ other = sym p.0 ∙ q.0 in
    let words : v ≡ w = p.2 ∙ ap word_of same ∙ sym q.2 in
    ap (λ (x : _). tokens.Name x name) words ∙ ap (λ (l : List ℕ). tokens.Name w l) same
one_token (tokens.Number d) (tokens.Number e) bytes p q =
    ap (λ (x : Decimal). tokens.Number x) (same_decimal d e p.1 q.1 (one_number_of bytes (number_of d) (number_of e) p.0 q.0))
one_token (tokens.Text c m) (tokens.Text d o) bytes p q =
    let mids : p.0 ≡ q.0 = (let whole : 39 ∷ p.0 ≡ 39 ∷ q.0 = sym p.1 ∙ q.1 in cc) in
    let same : c ≡ d = one_content c d p.0 (p.2) (subst (λ (l : List ℕ). AreCharacters d l []) (sym mids) q.2) in
    ap (λ (l : List ℕ). tokens.Text l m) same ∙ ap (λ (x : Option Identifier). tokens.Text d x) (one_model d m o (subst (λ (l : List ℕ). IsModel l m) same p.3) q.3)
one_token (tokens.Mark m) (tokens.Mark o) bytes p q = ap (λ (x : Mark). tokens.Mark x) (one_mark m o (sym p ∙ q))
one_token (tokens.Name v name) (tokens.Number e) bytes p q = let k = kinds (tokens.Name v name) (tokens.Number e) bytes p q in absurd cc
one_token (tokens.Name v name) (tokens.Text d o) bytes p q = let k = kinds (tokens.Name v name) (tokens.Text d o) bytes p q in absurd cc
one_token (tokens.Name v name) (tokens.Mark o) bytes p q = let k = kinds (tokens.Name v name) (tokens.Mark o) bytes p q in absurd cc
one_token (tokens.Number d) (tokens.Name w other) bytes p q = let k = kinds (tokens.Number d) (tokens.Name w other) bytes p q in absurd cc
one_token (tokens.Number d) (tokens.Text c o) bytes p q = let k = kinds (tokens.Number d) (tokens.Text c o) bytes p q in absurd cc
one_token (tokens.Number d) (tokens.Mark o) bytes p q = let k = kinds (tokens.Number d) (tokens.Mark o) bytes p q in absurd cc
one_token (tokens.Text c m) (tokens.Name w other) bytes p q = let k = kinds (tokens.Text c m) (tokens.Name w other) bytes p q in absurd cc
one_token (tokens.Text c m) (tokens.Number e) bytes p q = let k = kinds (tokens.Text c m) (tokens.Number e) bytes p q in absurd cc
one_token (tokens.Text c m) (tokens.Mark o) bytes p q = let k = kinds (tokens.Text c m) (tokens.Mark o) bytes p q in absurd cc
one_token (tokens.Mark m) (tokens.Name w other) bytes p q = let k = kinds (tokens.Mark m) (tokens.Name w other) bytes p q in absurd cc
one_token (tokens.Mark m) (tokens.Number e) bytes p q = let k = kinds (tokens.Mark m) (tokens.Number e) bytes p q in absurd cc
one_token (tokens.Mark m) (tokens.Text d o) bytes p q = let k = kinds (tokens.Mark m) (tokens.Text d o) bytes p q in absurd cc

-- ---- places
pub same_split : (xs ys ps bs : List ℕ) → length xs ≡ length ys → xs ++ ps ≡ ys ++ bs → (xs ≡ ys) × (ps ≡ bs)
same_split [] [] ps bs l e = (refl, e)
same_split [] (y ∷ ys) ps bs l e = absurd (omega (arith, l))
same_split (x ∷ xs) [] ps bs l e = absurd (omega (arith, l))
same_split (x ∷ xs) (y ∷ ys) ps bs l e =
    let heads : x ≡ y = cc in
    let tails : xs ++ ps ≡ ys ++ bs = cc in
    let rest = same_split xs ys ps bs (omega (arith, l)) tails in
    (ap (λ (n : ℕ). n ∷ xs) heads ∙ ap (λ (k : List ℕ). y ∷ k) rest.0, rest.1)

pub one_longest : (from to behind : List ℕ) (t u : Token) → IsLongest from t to → IsLongest from u behind → (t ≡ u) × (to ≡ behind)
one_longest from to behind t u p q =
    let up = p.longest u q.bytes behind q.spelled q.parts in
    let down = q.longest t p.bytes to p.spelled p.parts in
    let same : length p.bytes ≡ length q.bytes = omega (arith, up, down) in
    let parts = same_split p.bytes q.bytes to behind same (sym p.parts ∙ q.parts) in
    (one_token t u q.bytes (subst (λ (l : List ℕ). IsSpelling t l) parts.0 p.spelled) q.spelled, parts.1)

space_kind : (b : ℕ) → is_space b ≡ true → kind_at b ≡ 3
space_kind b h = grind (arith, nat_tests)

mark_first : (m : Mark) (rest : List ℕ) → is_space (get_or (mark_bytes m ++ rest) 0 0) ≡ false
mark_first marks.Star rest = refl
mark_first marks.Open rest = refl
mark_first marks.Close rest = refl
mark_first marks.Comma rest = refl
mark_first marks.Dot rest = refl
mark_first marks.OpenList rest = refl
mark_first marks.CloseList rest = refl
mark_first (marks.Compare compares.Same) rest = refl
mark_first (marks.Compare compares.Other) rest = refl
mark_first (marks.Compare compares.Less) rest = refl
mark_first (marks.Compare compares.Greater) rest = refl
mark_first (marks.Compare compares.LessOrSame) rest = refl
mark_first (marks.Compare compares.GreaterOrSame) rest = refl

no_space_by : (b : Bool) → (b ≡ true → ⊥) → b ≡ false
no_space_by true h = absurd (h refl)
no_space_by false h = refl

-- no token begins with white space
pub no_space : (t : Token) (from bytes rest : List ℕ) → IsSpelling t bytes → from ≡ bytes ++ rest → is_space (get_or from 0 0) ≡ false
no_space (tokens.Mark m) from bytes rest s e =
    subst (λ (l : List ℕ). is_space (get_or l 0 0) ≡ false) (sym (e ∙ ap (λ (l : List ℕ). l ++ rest) s)) (mark_first m rest)
no_space (tokens.Name w name) from bytes rest s e =
    no_space_by (is_space (get_or from 0 0)) (λ h. let k = same_kind (tokens.Name w name) from bytes rest s e in let o = space_kind (get_or from 0 0) h in cc)
no_space (tokens.Number d) from bytes rest s e =
    no_space_by (is_space (get_or from 0 0)) (λ h. let k = same_kind (tokens.Number d) from bytes rest s e in let o = space_kind (get_or from 0 0) h in cc)
no_space (tokens.Text c m) from bytes rest s e =
    no_space_by (is_space (get_or from 0 0)) (λ h. let k = same_kind (tokens.Text c m) from bytes rest s e in let o = space_kind (get_or from 0 0) h in cc)

behind_both : (xs ys a b : List ℕ) → AllByRecursion (λ c. IsTrue (is_space c)) xs → AllByRecursion (λ c. IsTrue (is_space c)) ys → xs ++ a ≡ ys ++ b
    → is_space (get_or a 0 0) ≡ false → is_space (get_or b 0 0) ≡ false → a ≡ b
behind_both [] [] a b p q e s t = e
behind_both [] (y ∷ ys) a b p q e s t =
    let first : get_or a 0 0 ≡ y = ap (λ (l : List ℕ). get_or l 0 0) e in
    let yes : is_space y ≡ true = q.0 in
    let no : is_space y ≡ false = subst (λ (c : ℕ). is_space c ≡ false) first s in
    absurd cc
behind_both (x ∷ xs) [] a b p q e s t =
    let first : x ≡ get_or b 0 0 = ap (λ (l : List ℕ). get_or l 0 0) e in
    let yes : is_space x ≡ true = p.0 in
    let no : is_space x ≡ false = subst (λ (c : ℕ). is_space c ≡ false) (sym first) t in
    absurd cc
behind_both (x ∷ xs) (y ∷ ys) a b p q e s t = let tails : xs ++ a ≡ ys ++ b = cc in behind_both xs ys a b p.1 q.1 tails s t

pub same_spaces : (from a b : List ℕ) → SkipsSpaces from a → SkipsSpaces from b → is_space (get_or a 0 0) ≡ false → is_space (get_or b 0 0) ≡ false → a ≡ b
same_spaces from a b p q s t = behind_both p.0 q.0 a b p.1 q.1 (sym p.2 ∙ q.2) s t
