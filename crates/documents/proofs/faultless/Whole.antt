-- The interfaces of the batches so far, and of the whole document.
use Rattle.std.proofs.Common.{◌≡◌, ◌≢◌, ℕ, zero, suc, ◌+◌, ◌^◌, ◌≤◌, List, [], ◌∷◌, ◌++◌, map, true, ◌==◌, cond, length, append_assoc, Option, Some, None, Result, Ok, Err, refl, sym, ap, subst, ◌∙◌, arith}
use Rattle.std.specs.Prelude.{IfOk, IfSome}
use Rattle.std.specs.List.{AllByRecursion, AllZip, enumerate_from, slice_range}
use Rattle.std.proofs.lemmas.Bool.Decides.{nat_tests}
use Rattle.std.proofs.lemmas.List.FromFn.{length-enumerate_from}
use Rattle.std.proofs.lemmas.Slice.Zip.{AllZip-long}
use Rattle.json_decimal.specs.Number.{Number}
use Rattle.json_tree.specs.Grammar.{Spells}
use Rattle.json_tree.specs.Places.{element_at}
use Rattle.json_tree.specs.Values.{Json, array, Elements, elements_of}
use Rattle.json_tree.specs.View.{view, elements_view}
use Rattle.json_tree.specs.declared.tree.Tree.{Tree}
use Rattle.local_rules.specs.Breaches.{IsBreach}
use Rattle.local_rules.specs.declared.rule.LocalRule.{LocalRule}
use Rattle.json_tree.proofs.Views.{list_of-elements_of}
use Rattle.dtdl_terms.specs.declared.uploaded.Uploaded.{Uploaded}
use Rattle.model_read.specs.Uploads.{IsUploadedAt}
use Rattle.documents.specs.batches.Batches.{batch_text, rest_text}
use Rattle.documents.specs.faultless.Faultless.{IsFaultless}
use Rattle.documents.specs.faultless.Machinery.Placed.{AreBefore, AreReadElements, DeclaresUploads, IsBatch, IsPlaced, IsUnbrokenElement, numbered}
use Rattle.documents.proofs.faultless.Elements.{all_append, enumerated_append, from_each, some_append, to_each, zipped_append}
use Rattle.documents.proofs.faultless.Numbered.{all_placed}

-- ---- the local rules
unbroken_each : (vs : List Json) → ((place : List ℕ) (broken : LocalRule) → IsBreach (array (elements_of vs)) place broken → ⊥)
    → AllByRecursion IsUnbrokenElement vs
unbroken_each vs none = from_each IsUnbrokenElement vs (λ i v there place broken is. none (i ∷ place) broken (v, there, is))

unbroken_whole : (vs : List Json) → AllByRecursion IsUnbrokenElement vs → (place : List ℕ) (broken : LocalRule)
    → IsBreach (array (elements_of vs)) place broken → ⊥
unbroken_whole vs all [] broken is = is
unbroken_whole vs all (i ∷ place) broken is = to_each IsUnbrokenElement vs i is.0 all is.1 place broken is.2

-- ---- what is declared
-- interfaces that stand wherever the elements do stand in the array of the elements
uploaded_in : (whole : Elements Number) (nth n : ℕ) (vs : List Json) (us : List Uploaded)
    → ((i : ℕ) (v : Json) → element_at (elements_of vs) i ≡ Some v → element_at whole (n + i) ≡ Some v)
    → AllZip (IsPlaced nth) (enumerate_from n vs) us → AllZip (IsUploadedAt (array whole) nth) (enumerate_from n vs) us
uploaded_in whole nth n [] [] there all = tt
uploaded_in whole nth n [] (u ∷ us) there all = absurd all
uploaded_in whole nth n (v ∷ vs) [] there all = absurd all
uploaded_in whole nth n (v ∷ vs) (u ∷ us) there all =
    let first : n + 0 ≡ n = omega arith in
    let here = subst (λ (k : ℕ). element_at whole k ≡ Some v) first (there zero v refl) in (
      all.0 whole here,
      uploaded_in whole nth (n + 1) vs us
          (λ i w is. let next : n + suc i ≡ n + 1 + i = omega arith in subst (λ (k : ℕ). element_at whole k ≡ Some w) next (there (suc i) w is))
          all.1,
    )

-- the interfaces of one more batch
pub read_more : (bytes : List ℕ) (nth : ℕ) (vs ws : List Json) (us more : List Uploaded) → length us + length more ≤ 2 ^ 64
    → AreReadElements nth vs us → IsBatch bytes nth ws more → AreReadElements nth (vs ++ ws) (us ++ numbered (length us) more)
read_more bytes nth vs ws us more small r b =
    let long : length us ≡ length vs = AllZip-long (IsPlaced nth) (enumerate_from 0 vs) us r.placed ∙ length-enumerate_from 0 vs in
    let at : length us ≡ 0 + length vs = omega (arith, long) in
    let declared = subst (λ (es : List Json). AllZip (IsUploadedAt (array (elements_of ws)) nth) (enumerate_from 0 es) more) (list_of-elements_of ws) b.declares in
    let placed = all_placed (array (elements_of ws)) nth 0 (length us) ws more small declared in
    let behind = subst (λ (k : ℕ). AllZip (IsPlaced nth) (enumerate_from k ws) (numbered (length us) more)) at placed in
    record {
      unbroken = all_append IsUnbrokenElement vs ws r.unbroken (unbroken_each ws b.unbroken);
      placed = subst (λ (es : List (ℕ × Json)). AllZip (IsPlaced nth) es (us ++ numbered (length us) more)) (sym (enumerated_append 0 vs ws))
          (zipped_append (IsPlaced nth) (enumerate_from 0 vs) us (enumerate_from (0 + length vs) ws) (numbered (length us) more) r.placed behind);
    }

-- the interfaces of all elements
pub whole_read : (bytes : List ℕ) (nth : ℕ) (vs : List Json) (us : List Uploaded) → Spells bytes (array (elements_of vs)) → AreReadElements nth vs us
    → IsFaultless bytes nth us
whole_read bytes nth vs us spelled r = (
  array (elements_of vs),
  spelled,
  unbroken_whole vs r.unbroken,
  subst (λ (es : List Json). AllZip (IsUploadedAt (array (elements_of vs)) nth) (enumerate_from 0 es) us) (sym (list_of-elements_of vs))
      (uploaded_in (elements_of vs) nth 0 vs us
      (λ i v is. let same : i ≡ 0 + i = omega arith in subst (λ (k : ℕ). element_at (elements_of vs) k ≡ Some v) same is) r.placed),
)

-- ---- one batch
found_weaker : {A E : Type 0} (P Q : A → Type 0) (r : Result (Option A) E) → ((x : A) → P x → Q x) → IfOk r (λ found. IfSome found P)
    → IfOk r (λ found. IfSome found Q)
found_weaker P Q (Ok (Some x)) weaker holds = weaker x holds
found_weaker P Q (Ok None) weaker holds = tt
found_weaker P Q (Err e) weaker holds = tt

some_mapped : (ts : List Tree) → ts ≢ [] → map view ts ≢ []
some_mapped [] some e = some refl
some_mapped (t ∷ ts) some e = cc

pub batch_found : {E : Type 0} (bytes : List ℕ) (nth : ℕ) (v : Json) (ts : List Tree) (r : Result (Option (List Uploaded)) E) → v ≡ array (elements_view ts)
    → ts ≢ [] → Spells bytes v → IfOk r (λ found. IfSome found (DeclaresUploads v nth)) → IfOk r (λ found. IfSome found (λ us. (vs : List Json) × IsBatch bytes nth vs us))
batch_found bytes nth v ts r is some spelled = found_weaker (DeclaresUploads v nth) (λ us. (vs : List Json) × IsBatch bytes nth vs us) r (λ us declares.
    let d = subst (λ (w : Json). DeclaresUploads w nth us) is declares in (
      map view ts,
      record { some = some_mapped ts some; spelled = subst (Spells bytes) is spelled; unbroken = d.0; declares = d.1 },
    ))

pub whole_found : {E : Type 0} (bytes : List ℕ) (nth : ℕ) (v : Json) (r : Result (Option (List Uploaded)) E) → Spells bytes v
    → IfOk r (λ found. IfSome found (DeclaresUploads v nth)) → IfOk r (λ found. IfSome found (IsFaultless bytes nth))
whole_found bytes nth v r spelled = found_weaker (DeclaresUploads v nth) (IsFaultless bytes nth) r (λ us declares. (v, spelled, declares.0, declares.1))

-- ---- the elements before a position
pub more_before : (bytes : List ℕ) (at next : ℕ) (vs ws : List Json) → AreBefore bytes at vs → ws ≢ []
    → ((zs : List Json) → zs ≢ [] → Spells (rest_text bytes next) (array (elements_of zs)) → Spells (rest_text bytes at) (array (elements_of (ws ++ zs))))
    → AreBefore bytes next (vs ++ ws)
more_before bytes at next vs ws before some joins = λ zs more spelled.
    subst (λ (es : List Json). Spells bytes (array (elements_of es))) (sym (append_assoc vs ws zs)) (before (ws ++ zs) (some_append ws zs some) (joins zs more spelled))

-- the text of the last batch
pub last_text : (bytes : List ℕ) (at end : ℕ) → end ≡ length bytes → batch_text bytes at end ≡ rest_text bytes at
last_text bytes at end is =
    let last : (end == length bytes) ≡ true = grind (arith, nat_tests) in
    ap (λ b. cond b (rest_text bytes at) (91 ∷ (slice_range bytes at end ++ 93 ∷ []))) last
