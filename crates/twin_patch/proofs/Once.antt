-- A value is a patch of one list of operations, or has one fault.
use Rattle.std.specs.Prelude.{codes}
use Rattle.twin_patch.specs.Objects.{value_under}
use Rattle.std.proofs.Common.{◌≡◌, ℕ, zero, suc, ◌<◌, ◌≤◌, length, ◌⊎◌, inl, inr, List, [], ◌∷◌, ◌++◌, get_or, Option, Some, refl, sym, ap, ap₂, ◌∙◌, subst, arith}
use Rattle.json_decimal.specs.Number.{Number}
use Rattle.json_tree.specs.Values.{Json, null, truth, number, text, array, object, Elements, no_elements, element, Members}
use Rattle.json_tree.specs.Pointers.{token_text, pointer_text}
use Rattle.json_tree.proofs.Stepped.{same_key}
use Rattle.json_tree.proofs.Evaluated.{token_no_slash, same_split, pointer_starts}
use Rattle.twin_patch.specs.Operations.{Change, add, replace, remove, Operation}
use Rattle.twin_patch.specs.Words.{word_text}
use Rattle.twin_patch.specs.Reading.{HasUnderKey, HasWord, HasPath, HasValue, IsJsonObject, IsProtected, IsOperation, IsFirstCode, AreOperations, FailsAt, IsFitFor, IsPatch, IsPatchFault, change_word}
use Rattle.twin_patch.specs.declared.code.PatchCode.{PatchCode}
use Rattle.twin_patch.specs.declared.code.PatchCode.TheVariants as code
use Rattle.twin_patch.specs.declared.entry.PatchOf.{PatchOf}
use Rattle.twin_patch.specs.declared.word.Word.{Word}
use Rattle.twin_patch.specs.declared.word.Word.TheVariants as word

pointer_once : (p q : List (List ℕ)) → pointer_text p ≡ pointer_text q → p ≡ q
pointer_once [] [] e = refl
pointer_once [] (l ∷ q) e = absurd (let f : [] ≡ 47 ∷ (token_text l ++ pointer_text q) = e in cc)
pointer_once (k ∷ p) [] e = absurd (let f : 47 ∷ (token_text k ++ pointer_text p) ≡ [] = e in cc)
pointer_once (k ∷ p) (l ∷ q) e =
    let f : 47 ∷ (token_text k ++ pointer_text p) ≡ 47 ∷ (token_text l ++ pointer_text q) = e in
    let g : token_text k ++ pointer_text p ≡ token_text l ++ pointer_text q = cc in
    let s = same_split (token_text k) (token_text l) (pointer_text p) (pointer_text q) (token_no_slash k) (token_no_slash l) (pointer_starts p) (pointer_starts q) g in
    ap₂ (λ (x : List ℕ) (xs : List (List ℕ)). x ∷ xs) (same_key k l s.0) (pointer_once p q s.1)

word_once : (w x : Word) → word_text w ≡ word_text x → w ≡ x
word_once word.Add word.Add e = refl
word_once word.Add word.Replace e = absurd (let n : 97 ≡ 114 = ap (λ (l : List ℕ). get_or l 0 0) e in omega (arith, n))
word_once word.Add word.Remove e = absurd (let n : 97 ≡ 114 = ap (λ (l : List ℕ). get_or l 0 0) e in omega (arith, n))
word_once word.Replace word.Add e = absurd (let n : 114 ≡ 97 = ap (λ (l : List ℕ). get_or l 0 0) e in omega (arith, n))
word_once word.Replace word.Replace e = refl
word_once word.Replace word.Remove e = absurd (let n : 112 ≡ 109 = ap (λ (l : List ℕ). get_or l 2 0) e in omega (arith, n))
word_once word.Remove word.Add e = absurd (let n : 114 ≡ 97 = ap (λ (l : List ℕ). get_or l 0 0) e in omega (arith, n))
word_once word.Remove word.Replace e = absurd (let n : 109 ≡ 112 = ap (λ (l : List ℕ). get_or l 2 0) e in omega (arith, n))
word_once word.Remove word.Remove e = refl

some_once : (v w : Json) → Some v ≡ Some w → v ≡ w
some_once v w e = cc

has_once : (entry : Json) (key : List ℕ) (v w : Json) → HasUnderKey entry key v → HasUnderKey entry key w → v ≡ w
has_once null key v w h k = absurd h
has_once (truth b) key v w h k = absurd h
has_once (number n) key v w h k = absurd h
has_once (text t) key v w h k = absurd h
has_once (array vs) key v w h k = absurd h
has_once (object ms) key v w h k = some_once v w (sym h ∙ k)

text_once : (a b : List ℕ) → ◌≡◌ {A = Json} (text a) (text b) → a ≡ b
text_once a b e = cc

same_word : (entry : Json) (w x : Word) → HasWord entry w → HasWord entry x → w ≡ x
same_word entry w x h k = word_once w x (text_once (word_text w) (word_text x) (has_once entry _ (text (word_text w)) (text (word_text x)) h k))

same_path : (entry : Json) (p q : List (List ℕ)) → HasPath entry p → HasPath entry q → p ≡ q
same_path entry p q h k = pointer_once p q (text_once (pointer_text p) (pointer_text q) (has_once entry _ (text (pointer_text p)) (text (pointer_text q)) h.0 k.0))

same_change : (entry : Json) (c d : Change) → change_word c ≡ change_word d → HasValue entry c → HasValue entry d → c ≡ d
same_change entry (add v) (add w) e h k = ap add (has_once entry _ v w h k)
same_change entry (add v) (replace w) e h k = absurd (let f : word.Add ≡ word.Replace = e in cc)
same_change entry (add v) remove e h k = absurd (let f : word.Add ≡ word.Remove = e in cc)
same_change entry (replace v) (add w) e h k = absurd (let f : word.Replace ≡ word.Add = e in cc)
same_change entry (replace v) (replace w) e h k = ap replace (has_once entry _ v w h k)
same_change entry (replace v) remove e h k = absurd (let f : word.Replace ≡ word.Remove = e in cc)
same_change entry remove (add w) e h k = absurd (let f : word.Remove ≡ word.Add = e in cc)
same_change entry remove (replace w) e h k = absurd (let f : word.Remove ≡ word.Replace = e in cc)
same_change entry remove remove e h k = refl

same_operation : (of : PatchOf) (entry : Json) (o p : Operation) → IsOperation of entry o → IsOperation of entry p → o ≡ p
same_operation of entry o p h k =
    let change = same_change entry o.change p.change (same_word entry (change_word o.change) (change_word p.change) h.0 k.0) h.2 k.2 in
    let path = same_path entry o.path p.path h.1 k.1 in
    ap₂ (λ (c : Change) (q : List (List ℕ)). let r : Operation = record { change = c; path = q } in r) change path

same_operations : (of : PatchOf) (es : Elements Number) (os ps : List Operation) → AreOperations of es os → AreOperations of es ps → os ≡ ps
same_operations of no_elements os ps h k = h ∙ sym k
same_operations of (element e es) os ps h k =
    h.2 ∙ ap₂ (λ (o : Operation) (l : List Operation). o ∷ l) (same_operation of e h.0 k.0 h.3 k.3) (same_operations of es h.1 k.1 h.4 k.4) ∙ sym k.2

array_once : (a b : Elements Number) → array a ≡ array b → a ≡ b
array_once a b e = cc

pub one_patch : (of : PatchOf) (v : Json) (os ps : List Operation) → IsPatch of v os → IsPatch of v ps → os ≡ ps
one_patch of v os ps h k =
    same_operations of h.0 os ps h.2 (subst (λ (es : Elements Number). AreOperations of es ps) (array_once k.0 h.0 (sym k.1 ∙ h.1)) k.2)

-- an operation has no code
word_object : (entry : Json) (w : Word) → HasWord entry w → IsJsonObject entry
word_object null w h = absurd h
word_object (truth b) w h = absurd h
word_object (number n) w h = absurd h
word_object (text t) w h = absurd h
word_object (array vs) w h = absurd h
word_object (object ms) w h = tt

no_code : (of : PatchOf) (entry : Json) (o : Operation) (c : PatchCode) → IsOperation of entry o → IsFirstCode of entry c → ⊥
no_code of entry o code.NotAList h k = k
no_code of entry o code.NotAnObject h k = k (word_object entry (change_word o.change) h.0)
no_code of entry o code.BadOp h k = k.1 (change_word o.change) h.0
no_code of entry o code.BadPath h k = k.2 o.path h.1
no_code of entry o code.MissingValue h k = k.4 o.change (same_word entry k.0 (change_word o.change) k.2 h.0) h.2
no_code of entry o code.Protected h k =
    let w = same_word entry (change_word k.0) (change_word o.change) k.2 h.0 in
    let p = same_path entry k.1 o.path k.3 h.1 in
    h.3 (subst (λ (x : Word). IsProtected of x o.path) w (subst (λ (q : List (List ℕ)). IsProtected of (change_word k.0) q) p k.5))
no_code of entry o code.NotAMark h k = k
no_code of entry o code.NoTarget h k = k

no_failure : (of : PatchOf) (es : Elements Number) (os : List Operation) (i : ℕ) (c : PatchCode) → AreOperations of es os → FailsAt of es i c → ⊥
no_failure of no_elements os i c h k = k
no_failure of (element e es) os zero c h k = no_code of e h.0 c h.3 k
no_failure of (element e es) os (suc i) c h k = no_failure of es h.1 i c h.4 k.1

-- an entry has one first code
same_code : (of : PatchOf) (entry : Json) (c d : PatchCode) → IsFirstCode of entry c → IsFirstCode of entry d → c ≡ d
same_code of entry code.NotAList d h k = absurd h
same_code of entry code.NotAnObject code.NotAList h k = absurd k
same_code of entry code.NotAnObject code.NotAnObject h k = refl
same_code of entry code.NotAnObject code.BadOp h k = absurd (h (k.0))
same_code of entry code.NotAnObject code.BadPath h k = absurd (h (word_object entry k.0 k.1))
same_code of entry code.NotAnObject code.MissingValue h k = absurd (h (word_object entry k.0 k.2))
same_code of entry code.NotAnObject code.Protected h k = absurd (h (word_object entry (change_word k.0) k.2))
same_code of entry code.NotAnObject code.NotAMark h k = absurd k
same_code of entry code.NotAnObject code.NoTarget h k = absurd k
same_code of entry code.BadOp code.NotAList h k = absurd k
same_code of entry code.BadOp code.NotAnObject h k = absurd (k (h.0))
same_code of entry code.BadOp code.BadOp h k = refl
same_code of entry code.BadOp code.BadPath h k = absurd (h.1 k.0 k.1)
same_code of entry code.BadOp code.MissingValue h k = absurd (h.1 k.0 k.2)
same_code of entry code.BadOp code.Protected h k = absurd (h.1 (change_word k.0) k.2)
same_code of entry code.BadOp code.NotAMark h k = absurd k
same_code of entry code.BadOp code.NoTarget h k = absurd k
same_code of entry code.BadPath code.NotAList h k = absurd k
same_code of entry code.BadPath code.NotAnObject h k = absurd (k (word_object entry h.0 h.1))
same_code of entry code.BadPath code.BadOp h k = absurd (k.1 h.0 h.1)
same_code of entry code.BadPath code.BadPath h k = refl
same_code of entry code.BadPath code.MissingValue h k = absurd (h.2 k.1 k.3)
same_code of entry code.BadPath code.Protected h k = absurd (h.2 k.1 k.3)
same_code of entry code.BadPath code.NotAMark h k = absurd k
same_code of entry code.BadPath code.NoTarget h k = absurd k
same_code of entry code.MissingValue code.NotAList h k = absurd k
same_code of entry code.MissingValue code.NotAnObject h k = absurd (k (word_object entry h.0 h.2))
same_code of entry code.MissingValue code.BadOp h k = absurd (k.1 h.0 h.2)
same_code of entry code.MissingValue code.BadPath h k = absurd (k.2 h.1 h.3)
same_code of entry code.MissingValue code.MissingValue h k = refl
same_code of entry code.MissingValue code.Protected h k = absurd (h.4 k.0 (same_word entry h.0 (change_word k.0) h.2 k.2) k.4)
same_code of entry code.MissingValue code.NotAMark h k = absurd k
same_code of entry code.MissingValue code.NoTarget h k = absurd k
same_code of entry code.Protected code.NotAList h k = absurd k
same_code of entry code.Protected code.NotAnObject h k = absurd (k (word_object entry (change_word h.0) h.2))
same_code of entry code.Protected code.BadOp h k = absurd (k.1 (change_word h.0) h.2)
same_code of entry code.Protected code.BadPath h k = absurd (k.2 h.1 h.3)
same_code of entry code.Protected code.MissingValue h k = absurd (k.4 h.0 (same_word entry k.0 (change_word h.0) k.2 h.2) h.4)
same_code of entry code.Protected code.Protected h k = refl
same_code of entry code.Protected code.NotAMark h k = absurd k
same_code of entry code.Protected code.NoTarget h k = absurd k
same_code of entry code.NotAMark d h k = absurd h
same_code of entry code.NoTarget d h k = absurd h

same_failure : (of : PatchOf) (es : Elements Number) (i j : ℕ) (c d : PatchCode) → FailsAt of es i c → FailsAt of es j d → (i ≡ j) × (c ≡ d)
same_failure of no_elements i j c d h k = absurd h
same_failure of (element e es) zero zero c d h k = (refl, same_code of e c d h k)
same_failure of (element e es) zero (suc j) c d h k = absurd (no_code of e k.0.0 c k.0.1 h)
same_failure of (element e es) (suc i) zero c d h k = absurd (no_code of e h.0.0 d h.0.1 k)
same_failure of (element e es) (suc i) (suc j) c d h k = let r = same_failure of es i j c d h.1 k.1 in (ap suc r.0, r.1)

fails_in : (of : PatchOf) (a b : Elements Number) (i : ℕ) (c : PatchCode) → array a ≡ array b → FailsAt of a i c → FailsAt of b i c
fails_in of a b i c e h = subst (λ (es : Elements Number). FailsAt of es i c) (array_once a b e) h

are_in : (of : PatchOf) (a b : Elements Number) (os : List Operation) → array a ≡ array b → AreOperations of a os → AreOperations of b os
are_in of a b os e h = subst (λ (es : Elements Number). AreOperations of es os) (array_once a b e) h

pub one_fault : (of : PatchOf) (v : Json) (i j : ℕ) (c d : PatchCode) → IsPatchFault of v i c → IsPatchFault of v j d → (i ≡ j) × (c ≡ d)
one_fault of v i j c d (inl h) (inl k) = (h.1 ∙ sym k.1, h.2 ∙ sym k.2)
one_fault of v i j c d (inl h) (inr (inl k)) = absurd (h.0 (k.0, k.1))
one_fault of v i j c d (inl h) (inr (inr k)) = absurd (h.0 (k.0, k.2))
one_fault of v i j c d (inr (inl h)) (inl k) = absurd (k.0 (h.0, h.1))
one_fault of v i j c d (inr (inl h)) (inr (inl k)) = same_failure of h.0 i j c d h.2 (fails_in of k.0 h.0 j d (sym k.1 ∙ h.1) k.2)
one_fault of v i j c d (inr (inl h)) (inr (inr k)) = absurd (no_failure of h.0 k.1 i c (are_in of k.0 h.0 k.1 (sym k.2 ∙ h.1) k.3) h.2)
one_fault of v i j c d (inr (inr h)) (inl k) = absurd (k.0 (h.0, h.2))
one_fault of v i j c d (inr (inr h)) (inr (inl k)) = absurd (no_failure of k.0 h.1 j d (are_in of h.0 k.0 h.1 (sym h.2 ∙ k.1) h.3) k.2)
one_fault of v i j c d (inr (inr h)) (inr (inr k)) = (h.5 ∙ sym k.5, h.6 ∙ sym k.6)

pub fault_or_patch : (of : PatchOf) (v : Json) (os : List Operation) (i : ℕ) (c : PatchCode) → IsPatch of v os → IsPatchFault of v i c → ⊥
fault_or_patch of v os i c h (inl k) = k.0 (h.0, h.1)
fault_or_patch of v os i c h (inr (inl k)) = no_failure of k.0 os i c (are_in of h.0 k.0 os (sym h.1 ∙ k.1) h.2) k.2
fault_or_patch of v os i c h (inr (inr k)) =
    let same = same_operations of k.0 os k.1 (are_in of h.0 k.0 os (sym h.1 ∙ k.2) h.2) k.3 in k.4 (subst (λ (l : List Operation). IsFitFor of l) same h.3)

-- a path that has no part, or too many, is none of an operation
pub no_fit : (ms : Members Number) (pointer : List ℕ) (found : List (List ℕ)) → value_under (codes "path") ms ≡ Some (text pointer) → pointer ≡ pointer_text found
    → (0 < length found → length found ≤ 64 → ⊥) → (path : List (List ℕ)) → HasPath (object ms) path → ⊥
no_fit ms pointer found has spelled unfit path h =
    let same : pointer_text path ≡ pointer_text found = text_once (pointer_text path) (pointer_text found) (some_once (text (pointer_text path)) (text (pointer_text found)) (sym h.0 ∙ has ∙ ap (λ t. Some (text t)) spelled)) in
    let is : path ≡ found = pointer_once path found same in
    unfit (subst (λ (p : List (List ℕ)). 0 < length p) is h.1) (subst (λ (p : List (List ℕ)). length p ≤ 64) is h.2)
