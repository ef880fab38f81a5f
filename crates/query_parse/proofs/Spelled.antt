-- The tokens with which each state goes on are spelled.
use Rattle.std.proofs.Common.{lit<, lit≤, ◌≡◌, ◌≢◌, ℕ, ◌≤◌, inl, List, [], ◌∷◌, ◌++◌, map, true, false, None, refl, sym, ap, arith}
use Rattle.std.specs.Prelude.{codes, pos}
use Rattle.std.specs.List.{AllByRecursion, join_with_byte}
use Rattle.std.proofs.lemmas.Fmt.{decimal_digit}
use Rattle.dt_base.specs.names.Grammar.{is_name_byte, dtmi_text, IsSegment, OwnDtmiText}
use Rattle.json_decimal.specs.Number.{IsNormalForm}
use Rattle.json_decimal.specs.Literal.{IsLiteral}
use Rattle.json_decimal.specs.Decimals.{number_of}
use Rattle.std.proofs.lemmas.List.Elements.{All-cons, All-nil}
use Rattle.std.proofs.lemmas.Bool.Decides.{nat_tests}
use Rattle.query_terms.specs.tokens.Spellings.{AreCharacters}
use Rattle.query_lexer.specs.Machinery.Spans.{is_plain}
use Rattle.query_grammar.proofs.Complete.{Simple, a_select, a_star, a_from, twins_word, an_alias, an_exact, a_related, a_true, an_open, a_close, a_comma, a_dot, an_equals, open_list, close_list, a_one, a_model, placed, one, model}
use Rattle.query_grammar.specs.Texts.{IsToken}

one_is : IsLiteral (record { negative = false; integer = 49 ∷ []; fraction = []; exponent = None })
one_is = record {
  integer = record { some = lit≤ tt; leading = λ e. refl; digits = (record { low = lit≤ tt; high = lit≤ tt }, tt) };
  fraction = tt;
  exponent = tt;
  few = lit≤ tt;
}

one_stands : IsNormalForm false 1 (pos 0) (number_of one)
one_stands = record {
  zero = λ e. absurd (omega (arith, e));
  other = λ no. record { sign = refl; trimmed = λ e. omega (arith, e); zeros = 0; digits = refl; exponent = refl };
}

one_spelled : IsToken (placed a_one)
one_spelled = (49 ∷ [], (record { literal = record { negative = false; integer = 49 ∷ []; fraction = []; exponent = None }; is = one_is; spelled = refl; stands = one_stands }, lit< tt))

-- a character that stands for itself
record Plain (b : ℕ) : Type 0 where
  low : 32 ≤ b
  quote : b ≢ 39
  backslash : b ≢ 92

plain : (b : ℕ) → is_plain b ≡ true → Plain b
plain b h = record { low = grind (arith, nat_tests); quote = grind (arith, nat_tests); backslash = grind (arith, nat_tests) }

plain_text : (c : List ℕ) → AllByRecursion (λ b. is_plain b ≡ true) c → AreCharacters c (c ++ 39 ∷ []) []
plain_text [] h = refl
plain_text (b ∷ c) h = let p = plain b h.0 in (c ++ 39 ∷ [], inl (refl, p.low, p.quote, p.backslash), plain_text c h.1)

segment : IsSegment (97 ∷ [])
segment = record { first = refl; each = All-cons (λ (b : ℕ). is_name_byte b ≡ true) 97 [] refl (All-nil (λ (b : ℕ). is_name_byte b ≡ true)); last = refl }

spelled_model : codes "dtmi:a;1" ≡ dtmi_text (record { segments = (97 ∷ []) ∷ []; version = 1 })
spelled_model = sym (ap (λ (d : List ℕ). codes "dtmi:" ++ (join_with_byte 58 ((97 ∷ []) ∷ []) ++ 59 ∷ d)) (decimal_digit 1 (lit< tt)))

own : OwnDtmiText (codes "dtmi:a;1") (record { segments = (97 ∷ []) ∷ []; version = 1 })
own = record {
  text = record {
    form = record { spelled = spelled_model; some = lit< tt; each = All-cons IsSegment (97 ∷ []) [] segment (All-nil IsSegment); positive = lit≤ tt; small = lit≤ tt };
    short = lit≤ tt;
  };
  free = refl;
}

own_model : OwnDtmiText (codes "dtmi:a;1") model
own_model = own

model_spelled : IsToken (placed a_model)
model_spelled = (
  39 ∷ (codes "dtmi:a;1" ++ 39 ∷ []),
  (
    codes "dtmi:a;1" ++ 39 ∷ [],
    refl,
    plain_text (codes "dtmi:a;1") (refl, (refl, (refl, (refl, (refl, (refl, (refl, (refl, tt)))))))),
    own_model,
  ),
)

spelled : (x : Simple) → IsToken (placed x)
spelled a_select = (codes "SELECT", (refl, (refl, (refl, (refl, (refl, (refl, (refl, tt)))))), refl))
spelled a_star = (42 ∷ [], refl)
spelled a_from = (codes "FROM", (refl, (refl, (refl, (refl, (refl, tt)))), refl))
spelled twins_word = (codes "DIGITALTWINS", (refl, (refl, (refl, (refl, (refl, (refl, (refl, (refl, (refl, (refl, (refl, (refl, (refl, tt)))))))))))), refl))
spelled an_alias = (codes "a", (refl, (refl, tt), refl))
spelled an_exact = (codes "exact", (refl, (refl, (refl, (refl, (refl, (refl, tt))))), refl))
spelled a_related = (codes "RELATED", (refl, (refl, (refl, (refl, (refl, (refl, (refl, (refl, tt))))))), refl))
spelled a_true = (codes "TRUE", (refl, (refl, (refl, (refl, (refl, tt)))), refl))
spelled an_open = (40 ∷ [], refl)
spelled a_close = (41 ∷ [], refl)
spelled a_comma = (44 ∷ [], refl)
spelled a_dot = (46 ∷ [], refl)
spelled an_equals = (61 ∷ [], refl)
spelled open_list = (91 ∷ [], refl)
spelled close_list = (93 ∷ [], refl)
spelled a_one = one_spelled
spelled a_model = model_spelled

pub all_spelled : (xs : List Simple) → AllByRecursion IsToken (map placed xs)
all_spelled [] = tt
all_spelled (x ∷ xs) = (spelled x, all_spelled xs)
