-- The interfaces of a document without breach are sound uploads.
use Rattle.std.proofs.Common.{◌≡◌, ℕ, ◌+◌, ◌<◌, List, [], ◌∷◌, map, refl, sym, ap, subst, ◌∙◌, Ordering, Less, Equal, Greater, true≢false, arith, rules}
use Rattle.std.specs.List.{AllByRecursion, AllZip, enumerate_from}
use Rattle.std.specs.List.Sorted.{IsStrictlySortedBy}
use Rattle.std.specs.Ordering.{nat_cmp, is_lt, ordering_then, ordering_reverse}
use Rattle.std.specs.Cmp.Lexicographic.{slice_cmp}
use Rattle.std.proofs.lemmas.Cmp.{nat_cmp_total}
use Rattle.json_tree.specs.Values.{Json, null, truth, number, text, array, object}
use Rattle.json_tree.specs.Grammar.{Spells}
use Rattle.dtdl_terms.specs.declared.uploaded.Uploaded.{Uploaded}
use Rattle.local_rules.specs.Breaches.{BreaksNoLocalRule}
use Rattle.local_rules.specs.Soundness.{IsSoundInterface}
use Rattle.json_tree.specs.Members.{list_of}
use Rattle.model_read.specs.Uploads.{AreUploaded, IsUploadedAt}
use Rattle.extend_resolve.specs.Breaches.{HasOrdinals}
use Rattle.canon_faults.proofs.Uploads.{all_sound}
use Rattle.graph_steps.specs.Soundness.{IsSoundUpload, AreSoundUploads, upload_place}
use Rattle.model_read.proofs.Ordinals.{in_document}

-- ---- one by one
all_sound_uploads : (us : List Uploaded) → AllByRecursion (λ u. IsSoundInterface u.interface) us → AllByRecursion HasOrdinals us → AllByRecursion IsSoundUpload us
all_sound_uploads [] s o = tt
all_sound_uploads (u ∷ us) s o = (record { interface = s.0; ordinals = o.0 }, all_sound_uploads us s.1 o.1)

-- ---- in their order
tied : (a : ℕ) → nat_cmp a a ≡ Equal
tied a = same (nat_cmp a a) (nat_cmp_total.antisymm a a)
  where
    same : (o : Ordering) → o ≡ ordering_reverse o → o ≡ Equal
    same Less e = absurd (true≢false (ap is_lt e))
    same Equal e = refl
    same Greater e = absurd (true≢false (sym (ap is_lt e)))

less : (a b : ℕ) → a < b → nat_cmp a b ≡ Less
less a b low = search rules

places_less : (a b d : ℕ) → b < d → slice_cmp nat_cmp (a ∷ b ∷ []) (a ∷ d ∷ []) ≡ Less
places_less a b d low =
    ap (λ o. ordering_then o (slice_cmp nat_cmp (b ∷ []) (d ∷ []))) (tied a)
    ∙ ap (λ o. ordering_then o (slice_cmp nat_cmp [] [])) (less b d low)

module _ (whole : Json) (nth : ℕ) where
  later : (at n : ℕ) (vs : List Json) (us : List Uploaded) (x : Uploaded) → at < n → x.document ≡ nth → x.index ≡ at → AllZip (IsUploadedAt whole nth) (enumerate_from n vs) us
      → AllByRecursion (λ p. slice_cmp nat_cmp (upload_place x) p ≡ Less) (map upload_place us)
  later at n [] [] x low d i all = tt
  later at n [] (u ∷ us) x low d i all = absurd all
  later at n (v ∷ vs) [] x low d i all = absurd all
  later at n (v ∷ vs) (u ∷ us) x low d i all =
      let here : x.document ≡ u.document = d ∙ sym all.0.document in
      let k : u.index ≡ n = all.0.index in
      let less_here : slice_cmp nat_cmp (upload_place x) (upload_place u) ≡ Less =
      ap (λ e. slice_cmp nat_cmp (e ∷ x.index ∷ []) (upload_place u)) here ∙ places_less u.document x.index u.index (omega (arith, low, i, k)) in
      (less_here, later at (n + 1) vs us x (omega (arith, low)) d i all.1)

  ascending : (n : ℕ) (vs : List Json) (us : List Uploaded) → AllZip (IsUploadedAt whole nth) (enumerate_from n vs) us → IsStrictlySortedBy (slice_cmp nat_cmp) (map upload_place us)
  unfolding IsStrictlySortedBy
  ascending n [] [] all = tt
  ascending n [] (u ∷ us) all = absurd all
  ascending n (v ∷ vs) [] all = absurd all
  ascending n (v ∷ vs) (u ∷ us) all = (later n (n + 1) vs us u (omega arith) all.0.document all.0.index all.1, ascending (n + 1) vs us all.1)

alone : (u : Uploaded) → IsStrictlySortedBy (slice_cmp nat_cmp) (upload_place u ∷ [])
unfolding IsStrictlySortedBy
alone u = (tt, tt)

in_order : (whole : Json) (nth : ℕ) (us : List Uploaded) → AreUploaded whole nth us → IsStrictlySortedBy (slice_cmp nat_cmp) (map upload_place us)
in_order null nth us h = absurd h
in_order (truth b) nth us h = absurd h
in_order (number n) nth us h = absurd h
in_order (text bytes) nth us h = absurd h
in_order (array vs) nth us h = ascending (array vs) nth 0 (list_of vs) us h
in_order (object ms) nth us (u, one, h) = subst (λ (vs : List Uploaded). IsStrictlySortedBy (slice_cmp nat_cmp) (map upload_place vs)) (sym one) (alone u)

pub documents_are_sound : (bytes : List ℕ) (whole : Json) (nth : ℕ) (us : List Uploaded) → Spells bytes whole → BreaksNoLocalRule whole → AreUploaded whole nth us
    → AreSoundUploads us
documents_are_sound bytes whole nth us spelled free h = record {
  each = all_sound_uploads us (all_sound bytes whole nth us spelled free h) (in_document whole nth us h);
  order = in_order whole nth us h;
}
