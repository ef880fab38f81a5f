-- The text in quotes in front.
use Rattle.std.proofs.Common.{◌≡◌, ℕ, zero, suc, ◌<◌, ◌≤◌, ◌≢◌, ◌⊎◌, inl, inr, List, [], ◌∷◌, ◌++◌, length, take, drop, get_or, Bool, true, false, cond, ◌==◌, nat_le, Option, Some, None, refl, sym, ap, ◌∙◌, subst, arith, append_assoc, length-append}
use Rattle.std.specs.Str.{IsUtf8, IsCharBoundary}
use Rattle.std.proofs.lemmas.Bool.Decides.{nat_tests}
use Rattle.dt_base.specs.names.Grammar.{Identifier}
use Rattle.query_terms.specs.declared.tokens.token.Token.{Token}
use Rattle.query_terms.specs.declared.tokens.token.Token.TheVariants as tokens
use Rattle.query_terms.specs.tokens.Spellings.{escape, AreCharacters, IsModel, IsSpelling, IsLongest, BeginsNone}
use Rattle.query_lexer.specs.Machinery.Spans.{is_plain, prepend, with_escape, content_in, quoted_content}
use Rattle.query_lexer.proofs.Cuts.{behind_ascii}
use Rattle.query_lexer.proofs.FirstBytes.{same_kind}

-- ---- what stands in front decides
at_quote : (bs : List ℕ) → quoted_content (39 ∷ bs) ≡ Some ([], bs)
unfolding content_in
at_quote bs = refl

at_escape : (c : ℕ) (cs : List ℕ) → quoted_content (92 ∷ c ∷ cs) ≡ with_escape (escape c) (quoted_content cs)
unfolding content_in
at_escape c cs = refl

at_backslash : quoted_content (92 ∷ []) ≡ None
unfolding content_in
at_backslash = refl

at_nothing : quoted_content [] ≡ None
unfolding content_in
at_nothing = refl

no_quote : (b : ℕ) → is_plain b ≡ true → (b == 39) ≡ false
no_quote b h = grind (arith, nat_tests)

no_backslash : (b : ℕ) → is_plain b ≡ true → (b == 92) ≡ false
no_backslash b h = grind (arith, nat_tests)

no_control : (b : ℕ) → is_plain b ≡ true → nat_le 32 b ≡ true
no_control b h = grind (arith, nat_tests)

at_plain : (b : ℕ) (bs : List ℕ) → is_plain b ≡ true → quoted_content (b ∷ bs) ≡ prepend (b ∷ []) (quoted_content bs)
unfolding content_in
at_plain b bs h =
    ap (λ (x : Bool). cond x (Some ([], bs)) (cond (b == 92) (content_in true bs) (cond (nat_le 32 b) (prepend (b ∷ []) (content_in false bs)) None))) (no_quote b h)
    ∙ ap (λ (x : Bool). cond x (content_in true bs) (cond (nat_le 32 b) (prepend (b ∷ []) (content_in false bs)) None)) (no_backslash b h)
    ∙ ap (λ (x : Bool). cond x (prepend (b ∷ []) (content_in false bs)) None) (no_control b h)

other_quote : (b : ℕ) → (b ≡ 39 → ⊥) → (b == 39) ≡ false
other_quote b h = grind (arith, nat_tests)

other_backslash : (b : ℕ) → (b ≡ 92 → ⊥) → (b == 92) ≡ false
other_backslash b h = grind (arith, nat_tests)

other_control : (b : ℕ) → is_plain b ≡ false → (b ≡ 39 → ⊥) → (b ≡ 92 → ⊥) → nat_le 32 b ≡ false
other_control b h q s = grind (arith, nat_tests)

at_other : (b : ℕ) (bs : List ℕ) → is_plain b ≡ false → (b ≡ 39 → ⊥) → (b ≡ 92 → ⊥) → quoted_content (b ∷ bs) ≡ None
unfolding content_in
at_other b bs h q s =
    ap (λ (x : Bool). cond x (Some ([], bs)) (cond (b == 92) (content_in true bs) (cond (nat_le 32 b) (prepend (b ∷ []) (content_in false bs)) None))) (other_quote b q)
    ∙ ap (λ (x : Bool). cond x (content_in true bs) (cond (nat_le 32 b) (prepend (b ∷ []) (content_in false bs)) None)) (other_backslash b s)
    ∙ ap (λ (x : Bool). cond x (prepend (b ∷ []) (content_in false bs)) None) (other_control b h q s)

-- ---- pieces
prepend_none : (o : Option (List ℕ × List ℕ)) → prepend [] o ≡ o
prepend_none None = refl
prepend_none (Some p) = refl

prepend_both : (xs ys : List ℕ) (o : Option (List ℕ × List ℕ)) → prepend xs (prepend ys o) ≡ prepend (xs ++ ys) o
prepend_both xs ys None = refl
prepend_both xs ys (Some p) = ap (λ (l : List ℕ). Some (l, p.1)) (sym (append_assoc xs ys p.0))

pub plain_front : (text : List ℕ) (n : ℕ) → n ≤ length text → ((k : ℕ) → k < n → is_plain (get_or text k 0) ≡ true)
    → quoted_content text ≡ prepend (take n text) (quoted_content (drop n text))
plain_front text zero h f = sym (prepend_none (quoted_content text))
plain_front [] (suc n) h f = absurd (omega (arith, h))
plain_front (x ∷ xs) (suc n) h f =
    at_plain x xs (f 0 (omega arith))
    ∙ ap (λ (o : Option (List ℕ × List ℕ)). prepend (x ∷ []) o) (plain_front xs n (omega (arith, h)) (λ k lt. f (suc k) (omega (arith, lt))))
    ∙ prepend_both (x ∷ []) (take n xs) (quoted_content (drop n xs))

escape_low : (c b : ℕ) → escape c ≡ Some b → c < 128
escape_low c b e = grind (arith, nat_tests)

pub escape_two : (text : List ℕ) (b : ℕ) → get_or text 0 0 ≡ 92 → escape (get_or text 1 0) ≡ Some b → 2 ≤ length text
escape_two [] b first e = absurd cc
escape_two (x ∷ []) b first e = absurd cc
escape_two (x ∷ y ∷ zs) b first e = omega arith

pub escape_cut : (text : List ℕ) (b : ℕ) → IsUtf8 text → get_or text 0 0 ≡ 92 → escape (get_or text 1 0) ≡ Some b → IsCharBoundary text 2
escape_cut text b u first e =
    behind_ascii text 2 u (escape_two text b first e) low
  where
    low : (k : ℕ) → k < 2 → get_or text k 0 < 128
    low zero h = omega (arith, first)
    low (suc zero) h = escape_low (get_or text 1 0) b e
    low (suc (suc k)) h = absurd (omega (arith, h))

pub escape_front : (text : List ℕ) (b : ℕ) → get_or text 0 0 ≡ 92 → escape (get_or text 1 0) ≡ Some b
    → quoted_content text ≡ prepend (b ∷ []) (quoted_content (drop 2 text))
escape_front [] b first e = absurd cc
escape_front (x ∷ []) b first e = absurd cc
escape_front (x ∷ y ∷ zs) b first e =
    ap (λ (n : ℕ). quoted_content (n ∷ y ∷ zs)) first ∙ at_escape y zs ∙ ap (λ (o : Option ℕ). with_escape o (quoted_content zs)) e

pub escape_none : (text : List ℕ) → get_or text 0 0 ≡ 92 → escape (get_or text 1 0) ≡ None → quoted_content text ≡ None
escape_none [] first e = absurd cc
escape_none (x ∷ []) first e = ap (λ (n : ℕ). quoted_content (n ∷ [])) first ∙ at_backslash
escape_none (x ∷ y ∷ zs) first e =
    ap (λ (n : ℕ). quoted_content (n ∷ y ∷ zs)) first ∙ at_escape y zs ∙ ap (λ (o : Option ℕ). with_escape o (quoted_content zs)) e

pub content_step : (text rest behind after content run new : List ℕ) (b : ℕ) → quoted_content text ≡ prepend content (quoted_content rest)
    → quoted_content rest ≡ prepend (b ∷ []) (quoted_content behind) → quoted_content behind ≡ prepend run (quoted_content after)
    → new ≡ (content ++ b ∷ []) ++ run → quoted_content text ≡ prepend new (quoted_content after)
content_step text rest behind after content run new b p q r e =
    p ∙ ap (λ (o : Option (List ℕ × List ℕ)). prepend content o) (q ∙ ap (λ (o : Option (List ℕ × List ℕ)). prepend (b ∷ []) o) r)
    ∙ prepend_both content (b ∷ []) (prepend run (quoted_content after))
    ∙ prepend_both (content ++ b ∷ []) run (quoted_content after)
    ∙ ap (λ (l : List ℕ). prepend l (quoted_content after)) (sym e)

without_end : (xs : List ℕ) → xs ++ [] ≡ xs
without_end [] = refl
without_end (x ∷ xs) = ap (λ (l : List ℕ). x ∷ l) (without_end xs)

quote_first : (rest : List ℕ) → get_or rest 0 0 ≡ 39 → rest ≡ 39 ∷ drop 1 rest
quote_first [] e = absurd cc
quote_first (x ∷ xs) e = ap (λ (n : ℕ). n ∷ xs) e

pub content_ends : (text rest content : List ℕ) → quoted_content text ≡ prepend content (quoted_content rest) → get_or rest 0 0 ≡ 39
    → quoted_content text ≡ Some (content, drop 1 rest)
content_ends text rest content p e =
    p ∙ ap (λ (o : Option (List ℕ × List ℕ)). prepend content o) (ap quoted_content (quote_first rest e) ∙ at_quote (drop 1 rest))
    ∙ ap (λ (l : List ℕ). Some (l, drop 1 rest)) (without_end content)

none_in_front : (rest : List ℕ) → is_plain (get_or rest 0 0) ≡ false → (get_or rest 0 0 ≡ 39 → ⊥) → (get_or rest 0 0 ≡ 92 → ⊥) → quoted_content rest ≡ None
none_in_front [] h q s = at_nothing
none_in_front (x ∷ xs) h q s = at_other x xs h q s

pub content_stops : (text rest content : List ℕ) → quoted_content text ≡ prepend content (quoted_content rest) → is_plain (get_or rest 0 0) ≡ false
    → (get_or rest 0 0 ≡ 39 → ⊥) → (get_or rest 0 0 ≡ 92 → ⊥) → quoted_content text ≡ None
content_stops text rest content p h q s = p ∙ ap (λ (o : Option (List ℕ × List ℕ)). prepend content o) (none_in_front rest h q s)

-- ---- the content that is read is the content that is spelled
plain_byte : (b : ℕ) → 32 ≤ b → b ≢ 39 → b ≢ 92 → is_plain b ≡ true
plain_byte b low q s = grind (arith, nat_tests)

complete : (c from to : List ℕ) → AreCharacters c from to → quoted_content from ≡ Some (c, to)
complete [] from to e = ap quoted_content e ∙ at_quote to
complete (b ∷ c) from to (mid, inl plain, more) =
    ap quoted_content plain.0 ∙ at_plain b mid (plain_byte b plain.1 plain.2 plain.3)
    ∙ ap (λ (o : Option (List ℕ × List ℕ)). prepend (b ∷ []) o) (complete c mid to more)
complete (b ∷ c) from to (mid, inr escaped, more) =
    ap quoted_content escaped.1 ∙ at_escape escaped.0 mid ∙ ap (λ (o : Option ℕ). with_escape o (quoted_content mid)) escaped.2
    ∙ ap (λ (o : Option (List ℕ × List ℕ)). prepend (b ∷ []) o) (complete c mid to more)

abbrev Same : Option (List ℕ × List ℕ) → List ℕ → Type 0
Same None from = Unit {0}
Same (Some p) from = AreCharacters p.0 from p.1

one_of : (x : Bool) → (x ≡ true) ⊎ (x ≡ false)
one_of true = inl refl
one_of false = inr refl

same_number : (a b : ℕ) → (a ≡ b) ⊎ (a ≡ b → ⊥)
same_number a b = grind arith

is_low : (b : ℕ) → is_plain b ≡ true → 32 ≤ b
is_low b h = grind (arith, nat_tests)

is_no : (b : ℕ) → is_plain b ≡ true → b ≢ 39
is_no b h = λ e. let no : is_plain b ≡ false = ap is_plain e in cc

is_not : (b : ℕ) → is_plain b ≡ true → b ≢ 92
is_not b h = λ e. let no : is_plain b ≡ false = ap is_plain e in cc

sound_plain : (b : ℕ) (bs : List ℕ) (o : Option (List ℕ × List ℕ)) → is_plain b ≡ true → Same o bs → Same (prepend (b ∷ []) o) (b ∷ bs)
sound_plain b bs None h s = tt
sound_plain b bs (Some p) h s = (bs, inl (refl, is_low b h, is_no b h, is_not b h), s)

sound_escaped : (c : ℕ) (cs : List ℕ) (e : Option ℕ) (o : Option (List ℕ × List ℕ)) → escape c ≡ e → Same o cs → Same (with_escape e o) (92 ∷ c ∷ cs)
sound_escaped c cs None o is s = tt
sound_escaped c cs (Some b) None is s = tt
sound_escaped c cs (Some b) (Some p) is s = (cs, inr (c, refl, is), s)

same_along : (from : List ℕ) (o : Option (List ℕ × List ℕ)) → quoted_content from ≡ o → Same o from → Same (quoted_content from) from
same_along from o e s = subst (λ (x : Option (List ℕ × List ℕ)). Same x from) (sym e) s

sound : (from : List ℕ) → Same (quoted_content from) from
sound [] = same_along [] None at_nothing tt
sound (b ∷ []) =
    elim (one_of (is_plain b)) [
      | inl plain ↦ same_along (b ∷ []) (prepend (b ∷ []) (quoted_content [])) (at_plain b [] plain) (sound_plain b [] (quoted_content []) plain (sound []))
      | inr other ↦ elim (same_number b 39) [
        | inl quote ↦ same_along (b ∷ []) (Some ([], [])) (ap (λ (n : ℕ). quoted_content (n ∷ [])) quote ∙ at_quote []) (ap (λ (n : ℕ). n ∷ []) quote)
        | inr unquoted ↦ elim (same_number b 92) [
          | inl slash ↦ same_along (b ∷ []) None (ap (λ (n : ℕ). quoted_content (n ∷ [])) slash ∙ at_backslash) tt
          | inr unescaped ↦ same_along (b ∷ []) None (at_other b [] other unquoted unescaped) tt
        ]
      ]
    ]
sound (b ∷ c ∷ cs) =
    elim (one_of (is_plain b)) [
      | inl plain ↦ same_along (b ∷ c ∷ cs) (prepend (b ∷ []) (quoted_content (c ∷ cs))) (at_plain b (c ∷ cs) plain) (sound_plain b (c ∷ cs) (quoted_content (c ∷ cs)) plain (sound (c ∷ cs)))
      | inr other ↦ elim (same_number b 39) [
        | inl quote ↦ same_along (b ∷ c ∷ cs) (Some ([], c ∷ cs)) (ap (λ (n : ℕ). quoted_content (n ∷ c ∷ cs)) quote ∙ at_quote (c ∷ cs)) (ap (λ (n : ℕ). n ∷ c ∷ cs) quote)
        | inr unquoted ↦ elim (same_number b 92) [
          | inl slash ↦ subst (λ (n : ℕ). Same (quoted_content (n ∷ c ∷ cs)) (n ∷ c ∷ cs)) (sym slash)
              (same_along (92 ∷ c ∷ cs) (with_escape (escape c) (quoted_content cs)) (at_escape c cs) (sound_escaped c cs (escape c) (quoted_content cs) refl (sound cs)))
          | inr unescaped ↦ same_along (b ∷ c ∷ cs) None (at_other b (c ∷ cs) other unquoted unescaped) tt
        ]
      ]
    ]

-- ---- the text is the longest token
-- the bytes of a content and of the quote behind it
parts : (c from to : List ℕ) → AreCharacters c from to → (bs : List ℕ) × (from ≡ bs ++ to) × AreCharacters c bs []
parts [] from to e = (39 ∷ [], e, refl)
parts (b ∷ c) from to (mid, inl plain, more) =
    let p = parts c mid to more in
    (b ∷ p.0, plain.0 ∙ ap (λ (l : List ℕ). b ∷ l) p.1, (p.0, inl (refl, plain.1, plain.2, plain.3), p.2))
parts (b ∷ c) from to (mid, inr escaped, more) =
    let p = parts c mid to more in
    (92 ∷ escaped.0 ∷ p.0, escaped.1 ∙ ap (λ (l : List ℕ). 92 ∷ escaped.0 ∷ l) p.1, (p.0, inr (escaped.0, refl, escaped.2), p.2))

-- what follows may be more
extended : (c from to more : List ℕ) → AreCharacters c from to → AreCharacters c (from ++ more) (to ++ more)
extended [] from to more e = ap (λ (l : List ℕ). l ++ more) e
extended (b ∷ c) from to more (mid, inl plain, rest) =
    (mid ++ more, inl (ap (λ (l : List ℕ). l ++ more) plain.0, plain.1, plain.2, plain.3), extended c mid to more rest)
extended (b ∷ c) from to more (mid, inr escaped, rest) =
    (mid ++ more, inr (escaped.0, ap (λ (l : List ℕ). l ++ more) escaped.1, escaped.2), extended c mid to more rest)

-- a spelled text in front is that which is read
spelled_content : (mid : List ℕ) (c : List ℕ) (m : Option Identifier) (bytes rest : List ℕ) → IsSpelling (tokens.Text c m) bytes → 39 ∷ mid ≡ bytes ++ rest
    → quoted_content mid ≡ Some (c, rest)
spelled_content mid c m bytes rest s e =
    let first = s.1 in
    let behind : mid ≡ s.0 ++ rest = (let whole : 39 ∷ mid ≡ (39 ∷ s.0) ++ rest = e ∙ ap (λ (l : List ℕ). l ++ rest) first in cc) in
    complete c mid rest (subst (λ (l : List ℕ). AreCharacters c l rest) (sym behind) (extended c s.0 [] rest s.2))

first_of_pair : Option (List ℕ × List ℕ) → List ℕ
first_of_pair None = []
first_of_pair (Some p) = p.0

rest_of_pair : Option (List ℕ × List ℕ) → List ℕ
rest_of_pair None = []
rest_of_pair (Some p) = p.1

same_rest : (c d to rest : List ℕ) (o : Option (List ℕ × List ℕ)) → o ≡ Some (c, to) → o ≡ Some (d, rest) → to ≡ rest
unfolding rest_of_pair
same_rest c d to rest o p q = ap rest_of_pair (sym p ∙ q)

longest_text : (mid c to bytes : List ℕ) → quoted_content mid ≡ Some (c, to) → 39 ∷ mid ≡ bytes ++ to → (u : Token) (more rest : List ℕ) → IsSpelling u more
    → 39 ∷ mid ≡ more ++ rest → length more ≤ length bytes
longest_text mid c to bytes read parts (tokens.Text d m) more rest s e =
    let same = same_rest c d to rest (quoted_content mid) read (spelled_content mid d m more rest s e) in
    let ours = length-append bytes to in
    let others = length-append more rest in
    let both = ap length (sym parts ∙ e) in
    let ends = ap length same in
    omega (arith, ours, others, both, ends)
longest_text mid c to bytes read parts (tokens.Name w name) more rest s e = let o = same_kind (tokens.Name w name) (39 ∷ mid) more rest s e in absurd cc
longest_text mid c to bytes read parts (tokens.Number d) more rest s e = let o = same_kind (tokens.Number d) (39 ∷ mid) more rest s e in absurd cc
longest_text mid c to bytes read parts (tokens.Mark m) more rest s e = let o = same_kind (tokens.Mark m) (39 ∷ mid) more rest s e in absurd cc

whole_text : (mid c to : List ℕ) (m : Option Identifier) → quoted_content mid ≡ Some (c, to) → IsModel c m → IsLongest (39 ∷ mid) (tokens.Text c m) to
whole_text mid c to m read model =
    let chars : AreCharacters c mid to = subst (λ (o : Option (List ℕ × List ℕ)). Same o mid) read (sound mid) in
    let p = parts c mid to chars in
    let front : 39 ∷ mid ≡ (39 ∷ p.0) ++ to = ap (λ (l : List ℕ). 39 ∷ l) p.1 in
    record {
      bytes = 39 ∷ p.0;
      parts = front;
      spelled = (p.0, refl, p.2, model);
      longest = λ u more rest s e. longest_text mid c to (39 ∷ p.0) read front u more rest s e;
    }

pub text_longest : (text c to : List ℕ) (m : Option Identifier) → get_or text 0 0 ≡ 39 → quoted_content (drop 1 text) ≡ Some (c, to) → IsModel c m
    → IsLongest text (tokens.Text c m) to
text_longest text c to m first read model =
    subst (λ (l : List ℕ). IsLongest l (tokens.Text c m) to) (sym (quote_first text first)) (whole_text (drop 1 text) c to m read model)

none_whole : (mid : List ℕ) → quoted_content mid ≡ None → BeginsNone (39 ∷ mid)
none_whole mid read (tokens.Text c m) bytes rest s e = let some = spelled_content mid c m bytes rest s e in absurd cc
none_whole mid read (tokens.Name w name) bytes rest s e = let o = same_kind (tokens.Name w name) (39 ∷ mid) bytes rest s e in absurd cc
none_whole mid read (tokens.Number d) bytes rest s e = let o = same_kind (tokens.Number d) (39 ∷ mid) bytes rest s e in absurd cc
none_whole mid read (tokens.Mark m) bytes rest s e = let o = same_kind (tokens.Mark m) (39 ∷ mid) bytes rest s e in absurd cc

pub text_none : (text : List ℕ) → get_or text 0 0 ≡ 39 → quoted_content (drop 1 text) ≡ None → BeginsNone text
text_none text first read = subst (λ (l : List ℕ). BeginsNone l) (sym (quote_first text first)) (none_whole (drop 1 text) read)

-- bytes are one content
pub one_content : (c d mid : List ℕ) → AreCharacters c mid [] → AreCharacters d mid [] → c ≡ d
unfolding first_of_pair
one_content c d mid p q = ap first_of_pair (sym (complete c mid [] p) ∙ complete d mid [] q)

pub quote_cut : (text : List ℕ) → IsUtf8 text → get_or text 0 0 ≡ 39 → IsCharBoundary text 1
quote_cut [] u e = absurd cc
quote_cut (x ∷ xs) u e = behind_ascii (x ∷ xs) 1 u (omega arith) low
  where
    low : (k : ℕ) → k < 1 → get_or (x ∷ xs) k 0 < 128
    low zero h = omega (arith, e)
    low (suc k) h = absurd (omega (arith, h))
