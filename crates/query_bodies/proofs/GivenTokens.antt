-- The token of ids is read as these ids.
use Rattle.std.proofs.Common.{◌≡◌, ℕ, ◌<◌, ◌==◌, ◌⊎◌, inl, inr, List, [], ◌∷◌, map, length, get_or, Bool, true, false, refl, sym, ap, subst, ◌∙◌, arith}
use Rattle.std.specs.Prelude.{All}
use Rattle.std.specs.List.{AllByRecursion}
use Rattle.std.proofs.lemmas.Bool.Decides.{nat_tests}
use Rattle.std.proofs.lemmas.List.{length-map}
use Rattle.std.proofs.lemmas.List.Splits.{slice_split_none, slice_split_at}
use Rattle.percent_encoding.specs.AsciiSet.{should_percent_encode}
use Rattle.percent_encoding.specs.Percent.{percent_decode, percent_encode}
use Rattle.percent_encoding.specs.declared.ascii_set.TheConstants.{NON_ALPHANUMERIC}
use Rattle.percent_encoding.proofs.OnLiterals.{percent_encoding_on_literals}
use Rattle.percent_encoding.proofs.PercentLemmas.{IsByte, IsEscapeByte, EscapesPercent, All-percent_encode, percent_decode-percent_encode}
use Rattle.twin_value.specs.Breaches.{IsTwinId}
use Rattle.page_tokens.specs.Tokens.{NameIds, IsPageToken, token_parts}
use Rattle.page_tokens.proofs.Naming.{id_byte_small, small_at}
use Rattle.graph_steps.specs.Pages.{token_part, token_of}
use Rattle.graph_steps.proofs.paging.Encoding.{encoded-token_part}
use Rattle.query_bodies.proofs.OneOutcome.{token_once}

-- ---- one id
percent_escaped : should_percent_encode NON_ALPHANUMERIC 37 ≡ true
unfolding percent_encoding_on_literals
percent_escaped = refl

slash_escaped : should_percent_encode NON_ALPHANUMERIC 47 ≡ true
unfolding percent_encoding_on_literals
slash_escaped = refl

escapes : (b c : ℕ) → should_percent_encode NON_ALPHANUMERIC c ≡ true → b ≡ c → should_percent_encode NON_ALPHANUMERIC b ≡ true
escapes b c is same = subst (λ (x : ℕ). should_percent_encode NON_ALPHANUMERIC x ≡ true) (sym same) is

-- no slash
abbrev IsInPart : ℕ → Type 0
IsInPart b = (b == 47) ≡ false

slash : (b : ℕ) → (b ≡ 47) ⊎ IsInPart b
slash b = by_test (b == 47) refl
  where
    by_test : (t : Bool) → (b == 47) ≡ t → (b ≡ 47) ⊎ ((b == 47) ≡ false)
    by_test true is = inl (grind (arith, nat_tests))
    by_test false is = inr is

kept_in_part : (b : ℕ) → should_percent_encode NON_ALPHANUMERIC b ≡ false → IsInPart b
kept_in_part b kept = elim (slash b) [ inl is ↦ (let other = escapes b 47 slash_escaped is in absurd cc) | inr other ↦ other ]

escape_in_part : (b : ℕ) → IsEscapeByte b → IsInPart b
escape_in_part b is = grind (arith, nat_tests)

part_of : (id : List ℕ) → IsTwinId id → percent_encode NON_ALPHANUMERIC id ≡ token_part id
part_of id is = encoded-token_part id (λ i. let small = small_at id i is.each in omega (arith, small))

in_part : (id : List ℕ) → IsTwinId id → All IsInPart (token_part id)
in_part id is = subst (λ (l : List ℕ). All IsInPart l) (part_of id is) (All-percent_encode IsInPart NON_ALPHANUMERIC id kept_in_part escape_in_part)

decoded : (id : List ℕ) → IsTwinId id → percent_decode (token_part id) ≡ id
decoded id is =
    let bytes : All IsByte id = λ i d within. (let small = id_byte_small (get_or id i d) (is.each i d within) in omega (arith, small)) in
    let percents : All (EscapesPercent NON_ALPHANUMERIC) id = λ i d within same. escapes (get_or id i d) 37 percent_escaped same in
    ap percent_decode (sym (part_of id is)) ∙ percent_decode-percent_encode NON_ALPHANUMERIC id bytes percents

-- ---- all ids
parts_of_token : (ids : List (List ℕ)) → 0 < length ids → AllByRecursion IsTwinId ids → token_parts (token_of ids) ≡ map token_part ids
parts_of_token [] some are = absurd (omega (arith, some))
parts_of_token (id ∷ []) some are = slice_split_none (λ b. b == 47) (token_part id) (in_part id are.0)
parts_of_token (id ∷ next ∷ ids) some are =
    slice_split_at (λ b. b == 47) (token_part id) 47 (token_of (next ∷ ids)) (in_part id are.0) refl
    ∙ ap (λ (ps : List (List ℕ)). token_part id ∷ ps) (parts_of_token (next ∷ ids) (omega arith) are.1)

named : (ids : List (List ℕ)) → AllByRecursion IsTwinId ids → NameIds (map token_part ids) ids
named [] are = tt
named (id ∷ ids) are = (record { decoded = decoded id are.0; grammar = are.0 }, named ids are.1)

pub token_names : (ids : List (List ℕ)) → 0 < length ids → AllByRecursion IsTwinId ids → IsPageToken (token_of ids) (length ids) ids
token_names ids some are =
    let parts = parts_of_token ids some are in
    record {
      number = ap length parts ∙ length-map ids token_part;
      named = subst (λ (ps : List (List ℕ)). NameIds ps ids) (sym parts) (named ids are);
    }

pub token_names_only : (ids others : List (List ℕ)) (count : ℕ) → 0 < length ids → AllByRecursion IsTwinId ids → IsPageToken (token_of ids) count others
    → (count ≡ length ids) × (others ≡ ids)
token_names_only ids others count some are is =
    let own = token_names ids some are in
    let same : count ≡ length ids = sym is.number ∙ own.number in
    (same, token_once (token_of ids) (length ids) others ids (subst (λ (n : ℕ). IsPageToken (token_of ids) n others) same is) own)
