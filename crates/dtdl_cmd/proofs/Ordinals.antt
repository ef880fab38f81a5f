-- The ordinals of what documents declare tell its places apart.
use Rattle.std.proofs.Common.{ℕ, ◌+◌, List, [], ◌∷◌, ◌++◌, sym, subst}
use Rattle.std.specs.List.{AllByRecursion}
use Rattle.json_tree.specs.Values.{Json}
use Rattle.dtdl_terms.specs.declared.uploaded.Uploaded.{Uploaded}
use Rattle.extend_resolve.specs.Breaches.{HasOrdinals}
use Rattle.model_read.proofs.Ordinals.{in_document}
use Rattle.documents.specs.FirstFaults.{AllUploaded}

pub all_append : {A : Type 0} (P : A → Type 0) (xs ys : List A) → AllByRecursion P xs → AllByRecursion P ys → AllByRecursion P (xs ++ ys)
all_append P [] ys h g = g
all_append P (x ∷ xs) ys h g = (h.0, all_append P xs ys h.1 g)

pub in_documents : (n : ℕ) (vs : List Json) (us : List Uploaded) → AllUploaded n vs us → AllByRecursion HasOrdinals us
in_documents n [] us none = subst (AllByRecursion HasOrdinals) (sym none) tt
in_documents n (v ∷ vs) us (first, rest, h, t, e) =
    subst (AllByRecursion HasOrdinals) (sym e) (all_append HasOrdinals first rest (in_document v n first h) (in_documents (n + 1) vs rest t))
