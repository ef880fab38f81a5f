-- The bytes of an id in a token, as percent-encoding gives them.
use Rattle.std.proofs.Common.{◌≡◌, ℕ, zero, suc, ◌<◌, List, [], ◌∷◌, ◌++◌, Bool, true, get_or, refl, ap, ◌∙◌, nat_cmp, is_eq}
use Rattle.std.specs.Cmp.Lexicographic.{slice_cmp}
use Rattle.std.specs.List.{flat_map}
use Rattle.std.proofs.lemmas.Bool.{agree_below, agree_below_at}
use Rattle.std.proofs.lemmas.Map.Lookups.{exact_bytes}
use Rattle.ordered_table.proofs.Ordered.{unlike}
use Rattle.percent_encoding.specs.Percent.{encode_byte, percent_encode}
use Rattle.percent_encoding.specs.declared.ascii_set.TheConstants.{NON_ALPHANUMERIC}
use Rattle.percent_encoding.proofs.OnLiterals.{percent_encoding_on_literals}
use Rattle.graph_steps.specs.Pages.{page_token_byte, token_part}

all_same : agree_below (λ b. is_eq (slice_cmp nat_cmp (encode_byte NON_ALPHANUMERIC b) (page_token_byte b))) (λ _. true) 256 ≡ true
unfolding percent_encoding_on_literals
all_same = refl

same_byte : (b : ℕ) → b < 256 → encode_byte NON_ALPHANUMERIC b ≡ page_token_byte b
same_byte b small =
    exact_bytes (encode_byte NON_ALPHANUMERIC b) (page_token_byte b)
    (unlike (slice_cmp nat_cmp (encode_byte NON_ALPHANUMERIC b) (page_token_byte b)) (agree_below_at (λ x. is_eq (slice_cmp nat_cmp (encode_byte NON_ALPHANUMERIC x) (page_token_byte x))) (λ _. true) 256 b all_same small))

same_bytes : (bytes : List ℕ) → ((i : ℕ) → get_or bytes i 0 < 256) → flat_map (encode_byte NON_ALPHANUMERIC) bytes ≡ flat_map page_token_byte bytes
same_bytes [] small = refl
same_bytes (b ∷ bs) small =
    ap (λ x. x ++ flat_map (encode_byte NON_ALPHANUMERIC) bs) (same_byte b (small 0))
    ∙ ap (λ xs. page_token_byte b ++ xs) (same_bytes bs (λ i. small (suc i)))

pub encoded-token_part : (bytes : List ℕ) → ((i : ℕ) → get_or bytes i 0 < 256) → percent_encode NON_ALPHANUMERIC bytes ≡ token_part bytes
unfolding percent_encode
encoded-token_part bytes small = same_bytes bytes small
