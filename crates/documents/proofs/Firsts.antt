-- The first of several documents that has a line.
use Rattle.std.proofs.Common.{◌≡◌, ℕ, zero, suc, ◌+◌, ◌<◌, inl, inr, List, [], ◌∷◌, ◌++◌, length, take, get_or, refl, sym, ap, subst, ◌∙◌, arith}
use Rattle.std.proofs.lemmas.List.{append_assoc, append-nil}
use Rattle.std.specs.List.{AllByRecursion, AllZip}
use Rattle.json_tree.specs.Values.{Json}
use Rattle.json_tree.specs.Grammar.{Spells}
use Rattle.dtdl_terms.specs.declared.uploaded.Uploaded.{Uploaded}
use Rattle.model_read.specs.Uploads.{AreUploaded}
use Rattle.documents.specs.FirstFaults.{AllUploaded, FirstOf, IsJson}

-- ---- finding it
pub first_at : {A : Type 0} (Passes : A → Type 0) (HasLine : ℕ → A → List ℕ → Type 0) (xs : List A) (n k : ℕ) (x : A) (line : List ℕ) → k < length xs → x ≡ get_or xs k x
    → AllByRecursion Passes (take k xs) → HasLine (n + k) x line → FirstOf Passes HasLine n xs line
first_at Passes HasLine [] n k x line within is all has = absurd (omega (arith, within))
first_at Passes HasLine (y ∷ ys) n zero x line within is all has =
    let here : n + zero ≡ n = omega arith in
    inl (subst (λ z. HasLine n z line) is (subst (λ (m : ℕ). HasLine m x line) here has))
first_at Passes HasLine (y ∷ ys) n (suc k) x line within is all has =
    let less : k < length ys = omega (arith, within) in
    let on : n + suc k ≡ n + 1 + k = omega arith in
    inr (all.0, first_at Passes HasLine ys (n + 1) k x line less is all.1 (subst (λ (m : ℕ). HasLine m x line) on has))

-- ---- there is one at most
pub one_line : {A : Type 0} (Passes : A → Type 0) (HasLine : ℕ → A → List ℕ → Type 0)
    → ((n : ℕ) (x : A) (line text : List ℕ) → HasLine n x line → HasLine n x text → line ≡ text)
    → ((n : ℕ) (x : A) (line : List ℕ) → HasLine n x line → Passes x → ⊥)
    → (xs : List A) (n : ℕ) (line text : List ℕ) → FirstOf Passes HasLine n xs line → FirstOf Passes HasLine n xs text → line ≡ text
one_line Passes HasLine one either [] n line text h g = absurd h
one_line Passes HasLine one either (x ∷ xs) n line text (inl h) (inl g) = one n x line text h g
one_line Passes HasLine one either (x ∷ xs) n line text (inl h) (inr (p, g)) = absurd (either n x line h p)
one_line Passes HasLine one either (x ∷ xs) n line text (inr (p, h)) (inl g) = absurd (either n x text g p)
one_line Passes HasLine one either (x ∷ xs) n line text (inr (p, h)) (inr (q, g)) = one_line Passes HasLine one either xs (n + 1) line text h g

-- and none where all pass
pub none_first : {A : Type 0} (Passes : A → Type 0) (HasLine : ℕ → A → List ℕ → Type 0)
    → ((n : ℕ) (x : A) (line : List ℕ) → HasLine n x line → Passes x → ⊥)
    → (xs : List A) (n : ℕ) (line : List ℕ) → AllByRecursion Passes xs → FirstOf Passes HasLine n xs line → ⊥
none_first Passes HasLine either [] n line all h = h
none_first Passes HasLine either (x ∷ xs) n line all (inl h) = either n x line h all.0
none_first Passes HasLine either (x ∷ xs) n line all (inr (p, h)) = none_first Passes HasLine either xs (n + 1) line all.1 h

-- ---- what passes
pub all_more : {A : Type 0} (P : A → Type 0) (xs : List A) (x : A) → AllByRecursion P xs → P x → AllByRecursion P (xs ++ x ∷ [])
all_more P [] x all p = (p, tt)
all_more P (y ∷ ys) x all p = (all.0, all_more P ys x all.1 p)

pub all_json : (documents : List (List ℕ)) (values : List Json) → AllZip Spells documents values → AllByRecursion IsJson documents
all_json [] [] all = tt
all_json [] (v ∷ vs) all = absurd all
all_json (d ∷ ds) [] all = absurd all
all_json (d ∷ ds) (v ∷ vs) all = ((v, all.0), all_json ds vs all.1)

-- ---- the interfaces of one more document
pub uploaded_more : (n : ℕ) (vs : List Json) (v : Json) (uploads more : List Uploaded) → AllUploaded n vs uploads → AreUploaded v (n + length vs) more
    → AllUploaded n (vs ++ v ∷ []) (uploads ++ more)
uploaded_more n [] v uploads more none one =
    let here : n + zero ≡ n = omega arith in
    (more, [], subst (λ (m : ℕ). AreUploaded v m more) here one, refl, ap (λ (us : List Uploaded). us ++ more) none ∙ sym (append-nil more))
uploaded_more n (w ∷ vs) v uploads more (first, rest, h, t, e) one =
    let on : n + suc (length vs) ≡ n + 1 + length vs = omega arith in (
      first,
      rest ++ more,
      h,
      uploaded_more (n + 1) vs v rest more t (subst (λ (m : ℕ). AreUploaded v m more) on one),
      ap (λ (us : List Uploaded). us ++ more) e ∙ append_assoc first rest more,
    )
