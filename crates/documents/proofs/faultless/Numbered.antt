-- Interfaces as those at other positions of their document.
use Rattle.std.proofs.Common.{◌≡◌, ℕ, suc, ◌+◌, ◌^◌, ◌<◌, ◌≤◌, List, [], ◌∷◌, ◌++◌, length, append_assoc, decimal, refl, sym, ap, ◌∙◌, arith}
use Rattle.std.specs.List.{AllZip, enumerate_from}
use Rattle.std.proofs.lemmas.List.{append-nil, length-append}
use Rattle.json_tree.specs.Values.{Json}
use Rattle.json_tree.specs.Pointers.{pointer_text, token_text}
use Rattle.json_tree.proofs.FirstKeys.{decimal_token}
use Rattle.dtdl_terms.specs.declared.uploaded.Uploaded.{Uploaded}
use Rattle.model_read.specs.Uploads.{IsUploadedAt}
use Rattle.documents.specs.faultless.Machinery.Placed.{IsPlaced, numbered, standing_at}

-- one more
numbered_push : (n : ℕ) (us : List Uploaded) (u : Uploaded) → numbered n (us ++ u ∷ []) ≡ numbered n us ++ standing_at (n + length us) u ∷ []
numbered_push n [] u = let same : n ≡ n + 0 = omega arith in ap (λ (k : ℕ). standing_at k u ∷ []) same
numbered_push n (v ∷ us) u =
    let same : n + 1 + length us ≡ n + length (v ∷ us) = omega arith in
    ap (λ (vs : List Uploaded). standing_at n v ∷ vs) (numbered_push (n + 1) us u ∙ ap (λ (k : ℕ). numbered (n + 1) us ++ standing_at k u ∷ []) same)

length-numbered : (n : ℕ) (us : List Uploaded) → length (numbered n us) ≡ length us
length-numbered n [] = refl
length-numbered n (u ∷ us) = ap suc (length-numbered (n + 1) us)

-- behind the interfaces before, as many as there are with these
pub put_more : (before us now : List Uploaded) (u v : Uploaded) → now ≡ before ++ numbered (length before) us → v ≡ standing_at (length now) u
    → now ++ v ∷ [] ≡ before ++ numbered (length before) (us ++ u ∷ [])
put_more before us now u v is one =
    let long = length-append before (numbered (length before) us) in
    let same = length-numbered (length before) us in
    let count : length now ≡ length before + length us = ap length is ∙ omega (arith, long, same) in
    let last : v ≡ standing_at (length before + length us) u = one ∙ ap (λ (k : ℕ). standing_at k u) count in
    let front = ap (λ (xs : List Uploaded). xs ++ v ∷ []) is in
    front ∙ (append_assoc before (numbered (length before) us) (v ∷ [])
    ∙ ap (λ (xs : List Uploaded). before ++ xs) (ap (λ (x : Uploaded). numbered (length before) us ++ x ∷ []) last ∙ sym (numbered_push (length before) us u)))

-- as many as fit in a vector
pub few_put : (before us all : List Uploaded) → all ≡ before ++ numbered (length before) us → length all < 2 ^ 64 → length before + length us ≤ 2 ^ 64
few_put before us all is small =
    let long = length-append before (numbered (length before) us) in
    let same = length-numbered (length before) us in
    let count = ap length is in
    omega (arith, long, same, count, small)

-- the pointer of an element
pointer_of_index : (i : ℕ) → i < 2 ^ 64 → 47 ∷ decimal i ≡ pointer_text (decimal i ∷ [])
pointer_of_index i small = ap (λ (t : List ℕ). 47 ∷ t) (sym (append-nil (token_text (decimal i)) ∙ decimal_token i small))

-- what an element declares at a position of one document it declares at another position of another
placed_at : (whole : Json) (nth i j : ℕ) (v : Json) (u : Uploaded) → j < 2 ^ 64 → IsUploadedAt whole nth (i, v) u → IsPlaced nth (j, v) (standing_at j u)
placed_at whole nth i j v u small r = λ elements there. record {
  members = r.members;
  is = r.is;
  declares = r.declares;
  document = r.document;
  base = (decimal j ∷ [], (decimal j, v, [], (there, refl), refl, refl), pointer_of_index j small);
  index = refl;
  id_at = r.id_at;
  parents_at = r.parents_at;
  parents_as_text = r.parents_as_text;
  contents_at = r.contents_at;
}

pub all_placed : (whole : Json) (nth i j : ℕ) (vs : List Json) (us : List Uploaded) → j + length us ≤ 2 ^ 64
    → AllZip (IsUploadedAt whole nth) (enumerate_from i vs) us → AllZip (IsPlaced nth) (enumerate_from j vs) (numbered j us)
all_placed whole nth i j [] [] small all = tt
all_placed whole nth i j [] (u ∷ us) small all = absurd all
all_placed whole nth i j (v ∷ vs) [] small all = absurd all
all_placed whole nth i j (v ∷ vs) (u ∷ us) small all =
    (placed_at whole nth i j v u (omega arith) all.0, all_placed whole nth (i + 1) (j + 1) vs us (omega arith) all.1)
