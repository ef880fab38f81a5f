-- The longest mark in front.
use Rattle.std.proofs.Common.{lit<, ◌≡◌, ℕ, zero, suc, ◌<◌, ◌≤◌, List, [], ◌∷◌, ◌++◌, length, drop, get_or, false, Option, Some, None, refl, sym, ap, ◌∙◌, subst, arith, length-append}
use Rattle.std.specs.List.{AllByRecursion}
use Rattle.std.specs.Str.{IsUtf8, IsCharBoundary}
use Rattle.std.proofs.lemmas.Bool.Decides.{nat_tests}
use Rattle.query_terms.specs.declared.operand.Compare.TheVariants as compares
use Rattle.query_terms.specs.declared.tokens.token.Mark.{Mark}
use Rattle.query_terms.specs.declared.tokens.token.Mark.TheVariants as marks
use Rattle.query_terms.specs.declared.tokens.token.Token.{Token}
use Rattle.query_terms.specs.declared.tokens.token.Token.TheVariants as tokens
use Rattle.query_terms.specs.tokens.Spellings.{mark_bytes, is_name_start, is_number_start, IsSpelling, IsLongest, BeginsNone}
use Rattle.query_lexer.specs.Machinery.Spans.{pair_of, mark_at}
use Rattle.query_lexer.proofs.Cuts.{behind_ascii, all_at}
use Rattle.query_lexer.proofs.FirstBytes.{kind_at, other_kind, same_kind}

-- the bytes with which a mark begins
abbrev Heads : Mark → ℕ → ℕ → Type 0
Heads marks.Star a b = a ≡ 42
Heads marks.Open a b = a ≡ 40
Heads marks.Close a b = a ≡ 41
Heads marks.Comma a b = a ≡ 44
Heads marks.Dot a b = a ≡ 46
Heads marks.OpenList a b = a ≡ 91
Heads marks.CloseList a b = a ≡ 93
Heads (marks.Compare compares.Same) a b = a ≡ 61
Heads (marks.Compare compares.Other) a b = (a ≡ 33) × (b ≡ 61)
Heads (marks.Compare compares.Less) a b = a ≡ 60
Heads (marks.Compare compares.Greater) a b = a ≡ 62
Heads (marks.Compare compares.LessOrSame) a b = (a ≡ 60) × (b ≡ 61)
Heads (marks.Compare compares.GreaterOrSame) a b = (a ≡ 62) × (b ≡ 61)

heads : (m : Mark) (a b : ℕ) → mark_at a b ≡ Some m → Heads m a b
heads marks.Star a b e = grind (arith, nat_tests)
heads marks.Open a b e = grind (arith, nat_tests)
heads marks.Close a b e = grind (arith, nat_tests)
heads marks.Comma a b e = grind (arith, nat_tests)
heads marks.Dot a b e = grind (arith, nat_tests)
heads marks.OpenList a b e = grind (arith, nat_tests)
heads marks.CloseList a b e = grind (arith, nat_tests)
heads (marks.Compare compares.Same) a b e = grind (arith, nat_tests)
heads (marks.Compare compares.Other) a b e = (grind (arith, nat_tests), grind (arith, nat_tests))
heads (marks.Compare compares.Less) a b e = grind (arith, nat_tests)
heads (marks.Compare compares.Greater) a b e = grind (arith, nat_tests)
heads (marks.Compare compares.LessOrSame) a b e = (grind (arith, nat_tests), grind (arith, nat_tests))
heads (marks.Compare compares.GreaterOrSame) a b e = (grind (arith, nat_tests), grind (arith, nat_tests))

front_one : (n : ℕ) (text : List ℕ) → 0 < n → get_or text 0 0 ≡ n → text ≡ n ∷ drop 1 text
front_one n [] some e = absurd (omega (arith, some, e))
front_one n (x ∷ xs) some e = ap (λ (a : ℕ). a ∷ xs) e

front_two : (n m : ℕ) (text : List ℕ) → 0 < n → 0 < m → get_or text 0 0 ≡ n → get_or text 1 0 ≡ m → text ≡ n ∷ m ∷ drop 2 text
front_two n m [] some more e f = absurd (omega (arith, some, e))
front_two n m (x ∷ []) some more e f = absurd (omega (arith, more, f))
front_two n m (x ∷ y ∷ zs) some more e f = ap (λ (a : ℕ). a ∷ y ∷ zs) e ∙ ap (λ (b : ℕ). n ∷ b ∷ zs) f

front : (m : Mark) (text : List ℕ) → Heads m (get_or text 0 0) (get_or text 1 0) → text ≡ mark_bytes m ++ drop (length (mark_bytes m)) text
front marks.Star text h = front_one 42 text (lit< tt) h
front marks.Open text h = front_one 40 text (lit< tt) h
front marks.Close text h = front_one 41 text (lit< tt) h
front marks.Comma text h = front_one 44 text (lit< tt) h
front marks.Dot text h = front_one 46 text (lit< tt) h
front marks.OpenList text h = front_one 91 text (lit< tt) h
front marks.CloseList text h = front_one 93 text (lit< tt) h
front (marks.Compare compares.Same) text h = front_one 61 text (lit< tt) h
front (marks.Compare compares.Other) text h = front_two 33 61 text (lit< tt) (lit< tt) h.0 h.1
front (marks.Compare compares.Less) text h = front_one 60 text (lit< tt) h
front (marks.Compare compares.Greater) text h = front_one 62 text (lit< tt) h
front (marks.Compare compares.LessOrSame) text h = front_two 60 61 text (lit< tt) (lit< tt) h.0 h.1
front (marks.Compare compares.GreaterOrSame) text h = front_two 62 61 text (lit< tt) (lit< tt) h.0 h.1

pub mark_parts : (text : List ℕ) (m : Mark) → mark_at (get_or text 0 0) (get_or text 1 0) ≡ Some m → text ≡ mark_bytes m ++ drop (length (mark_bytes m)) text
mark_parts text m e = front m text (heads m (get_or text 0 0) (get_or text 1 0) e)

low_bytes : (m : Mark) → AllByRecursion (λ b. b < 128) (mark_bytes m)
low_bytes marks.Star = (lit< tt, tt)
low_bytes marks.Open = (lit< tt, tt)
low_bytes marks.Close = (lit< tt, tt)
low_bytes marks.Comma = (lit< tt, tt)
low_bytes marks.Dot = (lit< tt, tt)
low_bytes marks.OpenList = (lit< tt, tt)
low_bytes marks.CloseList = (lit< tt, tt)
low_bytes (marks.Compare compares.Same) = (lit< tt, tt)
low_bytes (marks.Compare compares.Other) = (lit< tt, (lit< tt, tt))
low_bytes (marks.Compare compares.Less) = (lit< tt, tt)
low_bytes (marks.Compare compares.Greater) = (lit< tt, tt)
low_bytes (marks.Compare compares.LessOrSame) = (lit< tt, (lit< tt, tt))
low_bytes (marks.Compare compares.GreaterOrSame) = (lit< tt, (lit< tt, tt))

in_front : (xs ys : List ℕ) (k : ℕ) → k < length xs → get_or (xs ++ ys) k 0 ≡ get_or xs k 0
in_front [] ys k h = absurd (omega (arith, h))
in_front (x ∷ xs) ys zero h = refl
in_front (x ∷ xs) ys (suc k) h = in_front xs ys k (omega (arith, h))

pub mark_cut : (text : List ℕ) (m : Mark) → IsUtf8 text → mark_at (get_or text 0 0) (get_or text 1 0) ≡ Some m → IsCharBoundary text (length (mark_bytes m))
mark_cut text m u e =
    let parts = mark_parts text m e in
    let rest = drop (length (mark_bytes m)) text in
    let count = length-append (mark_bytes m) rest in
    let total = ap length parts in
    behind_ascii text (length (mark_bytes m)) u (omega (arith, count, total))
    (λ k lt. subst (λ (b : ℕ). b < 128) (sym (ap (λ (l : List ℕ). get_or l k 0) parts ∙ in_front (mark_bytes m) rest k lt))
    (all_at (λ (b : ℕ). b < 128) (mark_bytes m) k lt (low_bytes m)))

-- a mark in front is no longer than the one that is found
abbrev Found : Mark → ℕ → ℕ → Type 0
Found o a b = (m : Mark) × (mark_at a b ≡ Some m) × (length (mark_bytes o) ≤ length (mark_bytes m))

some_bytes : (m : Mark) → 1 ≤ length (mark_bytes m)
some_bytes marks.Star = omega arith
some_bytes marks.Open = omega arith
some_bytes marks.Close = omega arith
some_bytes marks.Comma = omega arith
some_bytes marks.Dot = omega arith
some_bytes marks.OpenList = omega arith
some_bytes marks.CloseList = omega arith
some_bytes (marks.Compare compares.Same) = omega arith
some_bytes (marks.Compare compares.Other) = omega arith
some_bytes (marks.Compare compares.Less) = omega arith
some_bytes (marks.Compare compares.Greater) = omega arith
some_bytes (marks.Compare compares.LessOrSame) = omega arith
some_bytes (marks.Compare compares.GreaterOrSame) = omega arith

found : (o : Mark) (rest : List ℕ) → Found o (get_or (mark_bytes o ++ rest) 0 0) (get_or (mark_bytes o ++ rest) 1 0)
found marks.Star rest = (marks.Star, refl, omega arith)
found marks.Open rest = (marks.Open, refl, omega arith)
found marks.Close rest = (marks.Close, refl, omega arith)
found marks.Comma rest = (marks.Comma, refl, omega arith)
found marks.Dot rest = (marks.Dot, refl, omega arith)
found marks.OpenList rest = (marks.OpenList, refl, omega arith)
found marks.CloseList rest = (marks.CloseList, refl, omega arith)
found (marks.Compare compares.Same) rest = (marks.Compare compares.Same, refl, omega arith)
found (marks.Compare compares.Other) rest = (marks.Compare compares.Other, refl, omega arith)
found (marks.Compare compares.Less) rest =
    (pair_of compares.Less compares.LessOrSame (get_or rest 0 0), refl, some_bytes (pair_of compares.Less compares.LessOrSame (get_or rest 0 0)))
found (marks.Compare compares.Greater) rest =
    (pair_of compares.Greater compares.GreaterOrSame (get_or rest 0 0), refl, some_bytes (pair_of compares.Greater compares.GreaterOrSame (get_or rest 0 0)))
found (marks.Compare compares.LessOrSame) rest = (marks.Compare compares.LessOrSame, refl, omega arith)
found (marks.Compare compares.GreaterOrSame) rest = (marks.Compare compares.GreaterOrSame, refl, omega arith)

found_in : (text : List ℕ) (o : Mark) (more rest : List ℕ) → more ≡ mark_bytes o → text ≡ more ++ rest → Found o (get_or text 0 0) (get_or text 1 0)
found_in text o more rest s e =
    subst (λ (l : List ℕ). Found o (get_or l 0 0) (get_or l 1 0)) (sym (e ∙ ap (λ (l : List ℕ). l ++ rest) s)) (found o rest)

same_mark : (m o : Mark) (a : Option Mark) → a ≡ Some m → a ≡ Some o → m ≡ o
same_mark m o a p q = let both : Some m ≡ Some o = sym p ∙ q in cc

longest_mark : (text : List ℕ) (m : Mark) → mark_at (get_or text 0 0) (get_or text 1 0) ≡ Some m → kind_at (get_or text 0 0) ≡ 3
    → (u : Token) (more rest : List ℕ) → IsSpelling u more → text ≡ more ++ rest → length more ≤ length (mark_bytes m)
longest_mark text m is k (tokens.Mark o) more rest s e =
    let f = found_in text o more rest s e in
    let same = same_mark m f.0 (mark_at (get_or text 0 0) (get_or text 1 0)) is f.1 in
    let count = ap length s in
    let ours = ap (λ (x : Mark). length (mark_bytes x)) same in
    let most = f.2 in
    omega (arith, count, ours, most)
longest_mark text m is k (tokens.Name w name) more rest s e = let o = same_kind (tokens.Name w name) text more rest s e in absurd cc
longest_mark text m is k (tokens.Number d) more rest s e = let o = same_kind (tokens.Number d) text more rest s e in absurd cc
longest_mark text m is k (tokens.Text t d) more rest s e = let o = same_kind (tokens.Text t d) text more rest s e in absurd cc

pub mark_longest : (text : List ℕ) (m : Mark) → is_name_start (get_or text 0 0) ≡ false → is_number_start (get_or text 0 0) ≡ false
    → (get_or text 0 0 ≡ 39 → ⊥) → mark_at (get_or text 0 0) (get_or text 1 0) ≡ Some m
    → IsLongest text (tokens.Mark m) (drop (length (mark_bytes m)) text)
mark_longest text m n d q is = record {
  bytes = mark_bytes m;
  parts = mark_parts text m is;
  spelled = refl;
  longest = λ u more rest s e. longest_mark text m is (other_kind (get_or text 0 0) n d q) u more rest s e;
}

pub mark_none : (text : List ℕ) → is_name_start (get_or text 0 0) ≡ false → is_number_start (get_or text 0 0) ≡ false
    → (get_or text 0 0 ≡ 39 → ⊥) → mark_at (get_or text 0 0) (get_or text 1 0) ≡ None → BeginsNone text
mark_none text n d q is (tokens.Mark o) bytes rest s e = let f = found_in text o bytes rest s e in let some = f.1 in cc
mark_none text n d q is (tokens.Name w name) bytes rest s e =
    let k = other_kind (get_or text 0 0) n d q in let o = same_kind (tokens.Name w name) text bytes rest s e in cc
mark_none text n d q is (tokens.Number x) bytes rest s e =
    let k = other_kind (get_or text 0 0) n d q in let o = same_kind (tokens.Number x) text bytes rest s e in cc
mark_none text n d q is (tokens.Text t x) bytes rest s e =
    let k = other_kind (get_or text 0 0) n d q in let o = same_kind (tokens.Text t x) text bytes rest s e in cc
