-- Members that have the same keys, one after another.
use Rattle.std.proofs.Common.{◌≡◌, ℕ, zero, suc, ◌+◌, ◌<◌, ◌≤◌, ◌++◌, List, [], ◌∷◌, map, take, length, slice_index_or, bytes_eq, Bool, true, false, not, sym, refl, ap, ◌∙◌, true≢false, arith}
use Rattle.std.proofs.lemmas.List.{length-map}
use Rattle.std.proofs.lemmas.Slice.Eq.{bytes_eq-Decides}
use Rattle.json_tree.specs.View.{members_view}
use Rattle.json_tree.specs.declared.tree.Member.{Member}
use Rattle.std.proofs.lemmas.List.{take_all}
use Rattle.twin_value.proofs.Enumerated.{take-more}
use Rattle.graph_judges.specs.fits.Machinery.Keys.{keys_in}

abbrev keys : List Member → List (List ℕ)
keys ms = map (λ (m : Member). m.key) ms

keys_view : (ms : List Member) → keys_in (members_view ms) ≡ keys ms
keys_view [] = refl
keys_view (m ∷ ms) = ap (λ (ks : List (List ℕ)). m.key ∷ ks) (keys_view ms)

key_at : (ms : List Member) (n : ℕ) (x : Member) (d : List ℕ) → n < length ms → x ≡ slice_index_or ms n x → slice_index_or (keys ms) n d ≡ x.key
key_at [] n x d low is = absurd (omega (arith, low))
key_at (m ∷ ms) zero x d low is = ap (λ (z : Member). z.key) (sym is)
key_at (m ∷ ms) (suc n) x d low is = key_at ms n x d (omega (arith, low)) is

back : (b : Bool) → false ≡ not b → b ≡ true
back true h = refl
back false h = absurd (true≢false (sym h))

module _ (a b : List Member) where
  pub other_length : (length a ≡ length b → ⊥) → keys_in (members_view a) ≡ keys_in (members_view b) → ⊥
  other_length other same =
      other (sym (length-map a (λ (m : Member). m.key)) ∙ ap (λ (ks : List (List ℕ)). length ks) (sym (keys_view a) ∙ same ∙ keys_view b) ∙ length-map b (λ (m : Member). m.key))

  pub all_same : (n : ℕ) → length a ≡ length b → length a ≤ n → take n (keys a) ≡ take n (keys b) → keys_in (members_view a) ≡ keys_in (members_view b)
  all_same n long past e =
      let first = length-map a (λ (m : Member). m.key) in
      let second = length-map b (λ (m : Member). m.key) in
      keys_view a
      ∙ sym (take_all n (keys a) (omega (arith, first, past)))
      ∙ e
      ∙ take_all n (keys b) (omega (arith, second, long, past))
      ∙ sym (keys_view b)

  module _ (n : ℕ) (x y : Member) (low : n < length a) (high : n < length b) (first : x ≡ slice_index_or a n x) (second : y ≡ slice_index_or b n y) where
    seen : bytes_eq x.key y.key ≡ bytes_eq (slice_index_or a n x).key (slice_index_or b n y).key
    seen = ap (λ (z : Member). bytes_eq z.key y.key) first ∙ ap (λ (z : Member). bytes_eq (slice_index_or a n x).key z.key) second

    pub other_key : true ≡ not (bytes_eq (slice_index_or a n x).key (slice_index_or b n y).key) → keys_in (members_view a) ≡ keys_in (members_view b) → ⊥
    other_key other same =
        let one : x.key ≡ y.key = sym (key_at a n x [] low first) ∙ ap (λ (ks : List (List ℕ)). slice_index_or ks n []) (sym (keys_view a) ∙ same ∙ keys_view b) ∙ key_at b n y [] high second in
        true≢false (other ∙ ap not (sym seen ∙ (bytes_eq-Decides x.key y.key).1 one))

    pub one_more : false ≡ not (bytes_eq (slice_index_or a n x).key (slice_index_or b n y).key) → take n (keys a) ≡ take n (keys b) → take (n + 1) (keys a) ≡ take (n + 1) (keys b)
    one_more equal e =
        let one : x.key ≡ y.key = (bytes_eq-Decides x.key y.key).0 (seen ∙ back (bytes_eq (slice_index_or a n x).key (slice_index_or b n y).key) equal) in
        let longer = length-map a (λ (m : Member). m.key) in
        let other = length-map b (λ (m : Member). m.key) in
        take-more (keys a) n x.key (omega (arith, longer, low)) (sym (key_at a n x x.key low first))
        ∙ ap (λ (ks : List (List ℕ)). ks ++ x.key ∷ []) e
        ∙ ap (λ (k : List ℕ). take n (keys b) ++ k ∷ []) one
        ∙ sym (take-more (keys b) n y.key (omega (arith, other, high)) (sym (key_at b n y y.key high second)))
