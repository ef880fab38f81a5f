-- The ordinals of what a document declares tell its places apart, for its interfaces one by one.
use Rattle.std.proofs.Common.{◌≡◌, ◌≢◌, inl, inr, ℕ, ◌<◌, ◌≤◌, List, [], ◌∷◌, Option, Some, None, length, get_or, refl, sym, ap, subst, ◌∙◌, arith}
use Rattle.std.specs.Prelude.{codes}
use Rattle.std.specs.Option.{unwrap_or}
use Rattle.std.specs.List.{AllByRecursion, AllZip, enumerate_from}
use Rattle.json_decimal.specs.Number.{Number}
use Rattle.json_tree.specs.Values.{Json, null, truth, number, text, array, object, Members, Elements, no_elements}
use Rattle.json_tree.specs.Places.{member_at}
use Rattle.dt_base.specs.names.Grammar.{Identifier}
use Rattle.dtdl_terms.specs.declared.content.Content.{Content}
use Rattle.dtdl_terms.specs.declared.uploaded.Uploaded.{Uploaded}
use Rattle.json_tree.specs.Members.{list_of, value_at}
use Rattle.local_rules.specs.Declarations.{AreEntriesOf, HasContents, HasEach, HasParents}
use Rattle.model_read.specs.Uploads.{AreUploaded, HasOrdinal, IsUploaded, IsUploadedAt}
use Rattle.extend_resolve.specs.Breaches.{HasOrdinals}

-- the two keys differ in their first letters
other_keys : codes "extends" ≡ codes "contents" → ⊥
other_keys e =
    let first : 101 ≡ 99 = ap (λ (bytes : List ℕ). get_or bytes 0 0) e in
    omega (arith, first)

no_parents : (v : Option Json) (ids : List Identifier) → v ≡ None → HasParents v ids → ids ≡ []
no_parents v ids is h = subst (λ (w : Option Json). HasParents w ids) is h

none_zipped : {A : Type 0} (R : Json → A → Type 0) (xs : List A) → AllZip R [] xs → xs ≡ []
none_zipped R [] h = refl
none_zipped R (x ∷ xs) h = absurd h

no_entries : {A : Type 0} (Is : Json → A → Type 0) (v : Option Json) (xs : List A) → v ≡ None → HasEach Is v xs → xs ≡ []
no_entries Is v xs is (vs, are, all) =
    let none : vs ≡ no_elements = subst (λ (w : Option Json). AreEntriesOf w vs) is are in
    none_zipped Is xs (subst (λ (ws : Elements Number). AllZip Is (list_of ws) xs) none all)

some_length : {A : Type 0} (xs : List A) → 0 < length xs → xs ≡ [] → ⊥
some_length xs less none =
    let zero_long : length xs ≡ 0 = ap length none in
    omega (arith, less, zero_long)

apart_by : (ms : Members Number) (p c : Option ℕ) (ids : List Identifier) (contents : List Content)
    → HasOrdinal (codes "extends") ms p → HasOrdinal (codes "contents") ms c
    → HasParents (value_at (codes "extends") ms) ids → HasContents (value_at (codes "contents") ms) contents
    → 0 < length ids → 0 < length contents → unwrap_or p 0 ≢ unwrap_or c 0
apart_by ms None c ids contents hp hc parents declared some more = λ e. some_length ids some (no_parents (value_at (codes "extends") ms) ids hp parents)
apart_by ms (Some p) None ids contents hp hc parents declared some more = λ e. some_length contents more (no_entries _ (value_at (codes "contents") ms) contents hc declared)
apart_by ms (Some p) (Some c) ids contents hp hc parents declared some more = λ e.
    let one : Some (codes "extends", hp.0) ≡ Some (codes "contents", hc.0) = sym hp.1 ∙ ap (member_at ms) e ∙ hc.1 in
    let same : (codes "extends", hp.0) ≡ (codes "contents", hc.0) = cc in
    other_keys (ap (λ (m : List ℕ × Json). m.0) same)

one_parent : (v : Option Json) (bytes : List ℕ) (ids : List Identifier) → v ≡ Some (text bytes) → HasParents v ids → length ids ≤ 1
one_parent None bytes ids is h = absurd cc
one_parent (Some v) bytes ids is (inl (id, one, named)) =
    let long : length ids ≡ 1 = ap length one in
    omega (arith, long)
one_parent (Some v) bytes ids is (inr (vs, listed, all)) =
    let e : Some (array vs) ≡ Some (text bytes) = ap Some (sym listed) ∙ is in
    absurd cc

has_ordinals : (whole : Json) (place : List ℕ) (at nth : ℕ) (v : Json) (u : Uploaded) → IsUploaded whole place at nth v u → HasOrdinals u
has_ordinals whole place at nth v u h = record {
  apart = apart_by h.members u.parents_at u.contents_at u.interface.parents u.interface.contents h.parents_at h.contents_at h.declares.parents h.declares.contents;
  alone = λ e. let t = h.parents_as_text.0 e in one_parent (value_at (codes "extends") h.members) t.0 u.interface.parents t.1 h.declares.parents;
}

each_ordinals : (whole : Json) (nth : ℕ) (es : List (ℕ × Json)) (us : List Uploaded) → AllZip (IsUploadedAt whole nth) es us → AllByRecursion HasOrdinals us
each_ordinals whole nth [] [] all = tt
each_ordinals whole nth [] (u ∷ us) all = absurd all
each_ordinals whole nth (e ∷ es) [] all = absurd all
each_ordinals whole nth (e ∷ es) (u ∷ us) all = (has_ordinals whole (e.0 ∷ []) e.0 nth e.1 u all.0, each_ordinals whole nth es us all.1)

pub in_document : (v : Json) (nth : ℕ) (us : List Uploaded) → AreUploaded v nth us → AllByRecursion HasOrdinals us
in_document null nth us h = absurd h
in_document (truth b) nth us h = absurd h
in_document (number n) nth us h = absurd h
in_document (text bytes) nth us h = absurd h
in_document (array vs) nth us h = each_ordinals (array vs) nth (enumerate_from 0 (list_of vs)) us h
in_document (object ms) nth us (u, one, h) =
    subst (AllByRecursion HasOrdinals) (sym one) (has_ordinals (object ms) [] 0 nth (object ms) u h, tt)
