-- Refusals of documents, and what was read of them so far.
use Rattle.std.proofs.Common.{◌≡◌, ℕ, suc, ◌+◌, ◌<◌, ◌≤◌, zero, List, [], ◌∷◌, ◌++◌, length, take, map, get_or, refl, sym, ap, subst, ◌∙◌, arith}
use Rattle.std.proofs.lemmas.List.{take_more, map-append, length-take-le, length-map}
use Rattle.std.proofs.lemmas.Slice.Zip.{AllZip-long, all_zipped_more}
use Rattle.std.specs.List.{AllByRecursion, AllZip}
use Rattle.local_rules.specs.Breaches.{BreaksNoLocalRule}
use Rattle.json_tree.specs.Values.{Json}
use Rattle.json_tree.specs.View.{view}
use Rattle.json_tree.specs.Grammar.{Spells}
use Rattle.json_tree.specs.declared.tree.Tree.{Tree}
use Rattle.dtdl_terms.specs.declared.uploaded.Uploaded.{Uploaded}
use Rattle.model_read.specs.Uploads.{AreUploaded}
use Rattle.dtdl_terms.specs.declared.interface.Interface.{Interface}
use Rattle.dtdl_terms.specs.declared.spot.Spot.{Spot}
use Rattle.extend_resolve.specs.Breaches.{IsFirstSetBreach, IsSound, RefusesSet}
use Rattle.extend_resolve.specs.declared.end.SetEnd.{SetEnd}
use Rattle.extend_resolve.specs.declared.end.SetEnd.TheVariants as ends
use Rattle.extend_resolve.specs.declared.rule.SetRule.{SetRule}
use Rattle.documents.specs.Lines.{IsBreachLine, IsJsonFaultLine}
use Rattle.documents.specs.FirstFaults.{AllUploaded, Declare, HasJsonFault, HasLocalFault, IsJson}
use Rattle.documents.specs.Machinery.Documents.{AreFaultless}
use Rattle.documents.specs.faultless.Faultless.{IsFaultless}
use Rattle.documents.specs.Refusing.{IsRefusal}
use Rattle.documents.specs.declared.refusal.Refusal.{Refusal}
use Rattle.documents.specs.declared.refusal.Refusal.TheVariants as refusals
use Rattle.documents.proofs.Firsts.{all_json, all_more, first_at, uploaded_more}

pub weaker : (P Q : List ℕ → Type 0) → ((line : List ℕ) → P line → Q line) → (r : Refusal) → IsRefusal P r → IsRefusal Q r
weaker P Q on (refusals.Line line) h = on line h
weaker P Q on refusals.OutOfMemory h = tt

turned : (k : ℕ) → k + 1 ≡ 1 + k
turned k = omega arith

-- ---- JSON texts
pub json_fault : (documents : List (List ℕ)) (k : ℕ) (bytes : List ℕ) (trees : List Tree) (r : Refusal) → k < length documents → bytes ≡ get_or documents k bytes
    → AllZip Spells (take k documents) (map view trees) → IsRefusal (IsJsonFaultLine (k + 1) bytes) r → IsRefusal (HasJsonFault documents) r
json_fault documents k bytes trees r within is all h =
    weaker (IsJsonFaultLine (k + 1) bytes) (HasJsonFault documents)
    (λ line f. first_at IsJson IsJsonFaultLine documents 1 k bytes line within is (all_json (take k documents) (map view trees) all) (subst (λ (n : ℕ). IsJsonFaultLine n bytes line) (turned k) f)) r h

pub tree_more : (documents : List (List ℕ)) (k : ℕ) (bytes : List ℕ) (trees : List Tree) (tree : Tree) → k < length documents → bytes ≡ get_or documents k bytes
    → AllZip Spells (take k documents) (map view trees) → Spells bytes (view tree) → AllZip Spells (take (k + 1) documents) (map view (trees ++ tree ∷ []))
tree_more documents k bytes trees tree within is all one =
    let front : take (k + 1) documents ≡ take k documents ++ bytes ∷ [] = take_more documents k bytes within ∙ ap (λ (b : List ℕ). take k documents ++ b ∷ []) (sym is) in
    rw (front, map-append view trees (tree ∷ [])) (all_zipped_more Spells (take k documents) (map view trees) bytes (view tree) all one)

-- ---- interfaces
viewed_at : (trees : List Tree) (k : ℕ) (tree : Tree) → k < length trees → tree ≡ get_or trees k tree → view tree ≡ get_or (map view trees) k (view tree)
viewed_at [] k tree within is = absurd (omega (arith, within))
viewed_at (t ∷ ts) zero tree within is = ap view is
viewed_at (t ∷ ts) (suc k) tree within is =
    let less : k < length ts = omega (arith, within) in
    viewed_at ts k tree less is

viewed_front : (trees : List Tree) (k : ℕ) → map view (take k trees) ≡ take k (map view trees)
viewed_front [] zero = refl
viewed_front [] (suc k) = refl
viewed_front (t ∷ ts) zero = refl
viewed_front (t ∷ ts) (suc k) = ap (λ (vs : List Json). view t ∷ vs) (viewed_front ts k)

pub local_fault : (trees : List Tree) (k : ℕ) (tree : Tree) (r : Refusal) → k < length trees → tree ≡ get_or trees k tree
    → AllByRecursion BreaksNoLocalRule (map view (take k trees)) → IsRefusal (IsBreachLine (k + 1) (view tree)) r → IsRefusal (HasLocalFault (map view trees)) r
local_fault trees k tree r within is all h =
    let less : k < length (map view trees) = let same = length-map trees view in omega (arith, within, same) in
    let front : AllByRecursion BreaksNoLocalRule (take k (map view trees)) = subst (AllByRecursion BreaksNoLocalRule) (viewed_front trees k) all in
    weaker (IsBreachLine (k + 1) (view tree)) (HasLocalFault (map view trees))
    (λ line f. first_at BreaksNoLocalRule IsBreachLine (map view trees) 1 k (view tree) line less (viewed_at trees k tree within is) front
    (subst (λ (n : ℕ). IsBreachLine n (view tree) line) (turned k) f)) r h

one_more : (trees : List Tree) (k : ℕ) (tree : Tree) → k < length trees → tree ≡ get_or trees k tree → map view (take (k + 1) trees) ≡ map view (take k trees) ++ view tree ∷ []
one_more trees k tree within is =
    ap (map view) (take_more trees k tree within ∙ ap (λ (t : Tree). take k trees ++ t ∷ []) (sym is)) ∙ map-append view (take k trees) (tree ∷ [])

pub unbroken_more : (trees : List Tree) (k : ℕ) (tree : Tree) → k < length trees → tree ≡ get_or trees k tree
    → AllByRecursion BreaksNoLocalRule (map view (take k trees)) → BreaksNoLocalRule (view tree) → AllByRecursion BreaksNoLocalRule (map view (take (k + 1) trees))
unbroken_more trees k tree within is all one =
    subst (AllByRecursion BreaksNoLocalRule) (sym (one_more trees k tree within is)) (all_more BreaksNoLocalRule (map view (take k trees)) (view tree) all one)

pub uploads_more : (trees : List Tree) (k : ℕ) (tree : Tree) (uploads more : List Uploaded) → k < length trees → tree ≡ get_or trees k tree
    → AllUploaded 1 (map view (take k trees)) uploads → AreUploaded (view tree) (k + 1) more → AllUploaded 1 (map view (take (k + 1) trees)) (uploads ++ more)
uploads_more trees k tree uploads more within is all one =
    let le : k ≤ length trees = omega (arith, within) in
    let long = length-take-le k trees le in
    let same = length-map (take k trees) view in
    let number : k + 1 ≡ 1 + length (map view (take k trees)) = omega (arith, long, same) in
    subst (λ (vs : List Json). AllUploaded 1 vs (uploads ++ more)) (sym (one_more trees k tree within is))
    (uploaded_more 1 (map view (take k trees)) (view tree) uploads more all (subst (λ (n : ℕ). AreUploaded (view tree) n more) number one))

-- ---- all documents
pub few_trees : (documents : List (List ℕ)) (trees : List Tree) → AllZip Spells documents (map view trees) → length documents ≤ 4096 → length trees ≤ 4096
few_trees documents trees all few =
    let long = AllZip-long Spells documents (map view trees) all in
    let same = length-map trees view in
    omega (arith, long, same, few)

pub faultless_more : (documents : List (List ℕ)) (k : ℕ) (bytes : List ℕ) (uploads more : List Uploaded) → k < length documents → bytes ≡ get_or documents k bytes
    → AreFaultless 1 (take k documents) uploads → IsFaultless bytes (k + 1) more → AreFaultless 1 (take (k + 1) documents) (uploads ++ more)
faultless_more documents k bytes uploads more within is (values, all, unbroken, uploaded) (v, one, sound, declares) =
    let front : take (k + 1) documents ≡ take k documents ++ bytes ∷ [] = take_more documents k bytes within ∙ ap (λ (b : List ℕ). take k documents ++ b ∷ []) (sym is) in
    let le : k ≤ length documents = omega (arith, within) in
    let long = length-take-le k documents le in
    let same = AllZip-long Spells (take k documents) values all in
    let number : k + 1 ≡ 1 + length values = omega (arith, long, same) in
    subst (λ (ds : List (List ℕ)). AreFaultless 1 ds (uploads ++ more)) (sym front) (
      values ++ v ∷ [],
      all_zipped_more Spells (take k documents) values bytes v all one,
      all_more BreaksNoLocalRule values v unbroken sound,
      uploaded_more 1 values v uploads more uploaded (subst (λ (n : ℕ). AreUploaded v n more) number declares),
    )

pub declared : (documents : List (List ℕ)) (uploads : List Uploaded) → AreFaultless 1 documents uploads → IsSound [] uploads → Declare documents uploads
declared documents uploads (values, spelled, unbroken, uploaded) sound =
    record { values = values; spelled = spelled; unbroken = unbroken; uploaded = uploaded; sound = sound }

-- ---- the rules on sets
pub still_sound : (set : List Interface) (uploads : List Uploaded) → set ≡ [] → IsSound set uploads → IsSound [] uploads
still_sound set uploads none sound = subst (λ (s : List Interface). IsSound s uploads) none sound

pub first_set_breach : (set : List Interface) (uploads : List Uploaded) (e : SetEnd) (index : ℕ) (spot : Spot) (rule : SetRule) → set ≡ [] → e ≡ ends.Fault index spot rule
    → RefusesSet set uploads e → IsFirstSetBreach [] uploads (record { index = index; rule = rule; spot = spot })
first_set_breach set uploads e index spot rule none is h =
    let on : RefusesSet [] uploads e = subst (λ (s : List Interface). RefusesSet s uploads e) none h in
    subst (RefusesSet [] uploads) is on
