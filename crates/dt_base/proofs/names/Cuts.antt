-- The segments of a text are found again by cutting it at its `;` and its colons.
use Rattle.std.proofs.Common.{◌≡◌, ℕ, ◌+◌, ◌-◌, ◌<◌, ◌≤◌, true, false, ◌==◌, Option, Some, None, List, [], ◌∷◌, ◌++◌, length, take, drop, refl, sym, ap, ◌∙◌, subst, arith, suc, length-append}
use Rattle.std.specs.Prelude.{codes, position}
use Rattle.std.specs.List.{All, join_with_byte, slice_split, position_or_len}
use Rattle.std.specs.Fmt.{decimal}
use Rattle.std.proofs.lemmas.List.Elements.{All-nil, All-cons, All-head, All-tail, All-append, All-weaker, All-from_recursion}
use Rattle.std.proofs.lemmas.List.Splits.{slice_split_none, slice_split_at, join_with_byte-slice_split}
use Rattle.std.specs.Prelude.{IsSome, is_some, ◌↔◌}
use Rattle.std.specs.Bool.{Decides}
use Rattle.std.specs.Cmp.{Equal-is}
use Rattle.std.specs.Cmp.Lexicographic.{slice_cmp}
use Rattle.std.specs.Ordering.{nat_cmp, is_eq}
use Rattle.std.specs.Str.{bytes_eq}
use Rattle.std.specs.declared.cmp.Ordering.{Ordering}
use Rattle.std.specs.declared.cmp.Ordering.TheVariants.{Equal}
use Rattle.std.proofs.lemmas.Bool.Decides.{Decides-at}
use Rattle.std.proofs.lemmas.Map.Text.{is_eq-slice_cmp}
use Rattle.std.proofs.lemmas.Slice.Eq.{bytes_eq-Decides}
use Rattle.std.proofs.lemmas.List.{drop-take}
use Rattle.std.proofs.lemmas.List.Sums.{position_or_len_is}
use Rattle.std.proofs.lemmas.Bool.{cond-true, lt-ltb}
use Rattle.std.proofs.Math.ListN.{get_or-append}
use Rattle.std.proofs.Math.Seq.{take-append_seam, get_or-append_seam}
use Rattle.dt_base.specs.declared.names.walk.State.TheVariants.{WantD, Version}
use Rattle.dt_base.specs.names.Grammar.{Identifier, is_name_byte, is_reserved, IsSegment, HasDtmiForm, OwnDtmiText, IsStored, dtmi_text, identifier_at}
use Rattle.dt_base.specs.names.Machinery.Walking.{run}
use Rattle.dt_base.proofs.names.Spelling.{run-form, form-from_run}
use Rattle.dt_base.proofs.names.Segments.{is_name_byte-ne58, is_name_byte-ne59}

-- a byte is none of these
abbrev Without : ℕ → List ℕ → Type 0
Without c bytes = All (λ b. (b == c) ≡ false) bytes

segment-without58 : (bytes : List ℕ) → IsSegment bytes → Without 58 bytes
segment-without58 bytes s = All-weaker (λ b. is_name_byte b ≡ true) (λ b. (b == 58) ≡ false) is_name_byte-ne58 bytes s.each

segment-without59 : (bytes : List ℕ) → IsSegment bytes → Without 59 bytes
segment-without59 bytes s = All-weaker (λ b. is_name_byte b ≡ true) (λ b. (b == 59) ≡ false) is_name_byte-ne59 bytes s.each

split-join : (segments : List (List ℕ)) → All IsSegment segments → 0 < length segments → slice_split (λ b. b == 58) (join_with_byte 58 segments) ≡ segments
split-join [] all h = absurd (omega arith)
split-join (s ∷ []) all h = slice_split_none (λ b. b == 58) s (segment-without58 s (All-head IsSegment s [] all))
split-join (s ∷ t ∷ ts) all h =
    slice_split_at (λ b. b == 58) s 58 (join_with_byte 58 (t ∷ ts)) (segment-without58 s (All-head IsSegment s (t ∷ ts) all)) refl
    ∙ ap (λ r. s ∷ r) (split-join (t ∷ ts) (All-tail IsSegment s (t ∷ ts) all) (omega arith))

join-without59 : (segments : List (List ℕ)) → All IsSegment segments → Without 59 (join_with_byte 58 segments)
join-without59 [] all = All-nil (λ b. (b == 59) ≡ false)
join-without59 (s ∷ []) all = segment-without59 s (All-head IsSegment s [] all)
join-without59 (s ∷ t ∷ ts) all =
    All-append (λ b. (b == 59) ≡ false) s (58 ∷ join_with_byte 58 (t ∷ ts)) (segment-without59 s (All-head IsSegment s (t ∷ ts) all))
    (All-cons (λ b. (b == 59) ≡ false) 58 (join_with_byte 58 (t ∷ ts)) refl (join-without59 (t ∷ ts) (All-tail IsSegment s (t ∷ ts) all)))

-- what stands before the `;`
abbrev path_of : Identifier → List ℕ
path_of i = codes "dtmi:" ++ join_with_byte 58 i.segments

path-without59 : (i : Identifier) → All IsSegment i.segments → Without 59 (path_of i)
path-without59 i all =
    All-append (λ b. (b == 59) ≡ false) (codes "dtmi:") (join_with_byte 58 i.segments)
    (All-from_recursion (λ b. (b == 59) ≡ false) (codes "dtmi:") (refl, (refl, (refl, (refl, (refl, tt))))))
    (join-without59 i.segments all)

first59 : (front back : List ℕ) → Without 59 front → position_or_len (λ b. b == 59) (front ++ 59 ∷ back) ≡ length front
first59 front back w =
    let whole : length (front ++ 59 ∷ back) ≡ length front + suc (length back) = length-append front (59 ∷ back) in
    position_or_len_is (λ b. b == 59) (front ++ 59 ∷ back) (length front) 0 (omega arith)
    (λ k h. ap (λ b. b == 59) (get_or-append front (59 ∷ back) 0 k h) ∙ w k 0 h)
    (λ h. ap (λ b. b == 59) (get_or-append_seam front 59 back 0))

pub position-form : (bytes : List ℕ) (i : Identifier) → HasDtmiForm bytes i → position (λ b. b == 59) bytes ≡ Some (length (path_of i))
position-form bytes i h =
    let back : List ℕ = decimal i.version in
    let at = first59 (path_of i) (decimal i.version) (path-without59 i h.each) in
    let whole : length (path_of i ++ 59 ∷ decimal i.version) ≡ length (path_of i) + suc (length (decimal i.version)) = length-append (path_of i) (59 ∷ decimal i.version) in
    ap (position (λ b. b == 59)) h.spelled
    ∙ cond-true _ (Some (position_or_len (λ b. b == 59) (path_of i ++ 59 ∷ decimal i.version))) None (lt-ltb (position_or_len (λ b. b == 59) (path_of i ++ 59 ∷ decimal i.version)) (length (path_of i ++ 59 ∷ decimal i.version)) (omega arith))
    ∙ ap (λ k. Some k) at

-- the bytes before the `;` are the segments with their colons
path-cut : (i : Identifier) → All IsSegment i.segments → 0 < length i.segments
    → slice_split (λ b. b == 58) (drop 5 (take (length (path_of i)) (path_of i ++ 59 ∷ decimal i.version))) ≡ i.segments
path-cut i all some =
    ap (λ f. slice_split (λ b. b == 58) (drop 5 f)) (take-append_seam (path_of i) (59 ∷ decimal i.version))
    ∙ split-join i.segments all some

pub identifier-form : (bytes : List ℕ) (i : Identifier) (k v : ℕ) → HasDtmiForm bytes i → position (λ b. b == 59) bytes ≡ Some k → i.version ≡ v → identifier_at bytes k v ≡ i
identifier-form bytes i k v h e ev =
    let same : k ≡ length (path_of i) = let p = position-form bytes i h in cc in
    let cut : slice_split (λ b. b == 58) (drop 5 (take k bytes)) ≡ i.segments =
    ap (λ n. slice_split (λ b. b == 58) (drop 5 (take n bytes))) same
    ∙ ap (λ t. slice_split (λ b. b == 58) (drop 5 (take (length (path_of i)) t))) h.spelled
    ∙ path-cut i h.each h.some in
    ap (λ (s : List (List ℕ)). made s v) cut ∙ ap (made i.segments) (sym ev)
  where
    made : List (List ℕ) → ℕ → Identifier
    made s n = record { segments = s; version = n }

-- a text spells one identifier
pub HasDtmiForm-unique : (bytes : List ℕ) (i j : Identifier) → HasDtmiForm bytes i → HasDtmiForm bytes j → i ≡ j
HasDtmiForm-unique bytes i j h g =
    let versions : j.version ≡ i.version = let p = run-form bytes i h in let q = run-form bytes j g in cc in
    sym (identifier-form bytes i _ i.version h (position-form bytes i h) refl)
    ∙ identifier-form bytes j _ i.version g (position-form bytes i h) versions

pub stored : (bytes : List ℕ) (k version : ℕ) → run WantD bytes ≡ Some (Version version) → length bytes ≤ 2048 → is_reserved bytes ≡ false
    → position (λ b. b == 59) bytes ≡ Some k → IsStored bytes k version
stored bytes k version e short free at =
    let f = form-from_run version bytes e in
    let h : HasDtmiForm bytes f.0 = f.1 in
    let same : identifier_at bytes k version ≡ f.0 = identifier-form bytes f.0 k version h at f.2 in
    let place : k ≡ length (path_of f.0) = let p = position-form bytes f.0 h in cc in
    let size : length bytes ≡ length (path_of f.0 ++ 59 ∷ decimal f.0.version) = ap length h.spelled in
    let whole = length-append (path_of f.0) (59 ∷ decimal f.0.version) in
    let front = length-append (codes "dtmi:") (join_with_byte 58 f.0.segments) in
    record {
      from = omega arith;
      to = omega arith;
      own = record {
        text = record { form = subst (HasDtmiForm bytes) (sym same) h; short = short };
        free = free;
      };
    }

pub found : (bytes : List ℕ) (version : ℕ) (o : Option ℕ) → run WantD bytes ≡ Some (Version version) → o ≡ position (λ b. b == 59) bytes → IsSome o
found bytes version o e at =
    let f = form-from_run version bytes e in ap is_some (at ∙ position-form bytes f.0 f.1)

texts_decide : (xs ys : List ℕ) → Decides (is_eq (slice_cmp nat_cmp xs ys)) (xs ≡ ys)
texts_decide xs ys = Decides-at _ (bytes_eq xs ys) (is_eq-slice_cmp xs ys) (bytes_eq-Decides xs ys)

pub texts_equal : (xs ys : List ℕ) → slice_cmp nat_cmp xs ys ≡ Equal → xs ≡ ys
texts_equal xs ys e = (texts_decide xs ys).0 (ap is_eq e)

pub texts_same : (xs ys : List ℕ) → xs ≡ ys → slice_cmp nat_cmp xs ys ≡ Equal
texts_same xs ys e = (Equal-is (slice_cmp nat_cmp xs ys)).0 ((texts_decide xs ys).1 e)

pub identifiers_ordered : (i j : Identifier) (x y : List ℕ) (r : Ordering) → OwnDtmiText (dtmi_text i) i → OwnDtmiText (dtmi_text j) j
    → x ≡ dtmi_text i → y ≡ dtmi_text j → r ≡ slice_cmp nat_cmp x y → (r ≡ Equal) ↔ (i ≡ j)
identifiers_ordered i j x y r h g ex ey e = (
  λ q.
      let same : dtmi_text i ≡ dtmi_text j = sym ex ∙ texts_equal x y (sym e ∙ q) ∙ ey in
      HasDtmiForm-unique (dtmi_text i) i j h.text.form (subst (λ (t : List ℕ). HasDtmiForm t j) (sym same) g.text.form),
  λ p. e ∙ texts_same x y (ex ∙ ap dtmi_text p ∙ sym ey),
)

-- a slice of the text from the opening to the `;`
pub path_slice : (text : List ℕ) (k : ℕ) → 5 ≤ k → take (k - 5) (drop 5 text) ≡ drop 5 (take k text)
path_slice text k h =
    let e : 5 + (k - 5) ≡ k = omega arith in
    sym (ap (λ n. drop 5 (take n text)) (sym e) ∙ drop-take 5 (k - 5) text)

pub path_value : (text bytes : List ℕ) (k v : ℕ) (i : Identifier) → 5 ≤ k → bytes ≡ text → identifier_at text k v ≡ i
    → take (k - 5) (drop 5 bytes) ≡ join_with_byte 58 i.segments
path_value text bytes k v i h e same =
    ap (λ b. take (k - 5) (drop 5 b)) e ∙ path_slice text k h ∙ sym (join_with_byte-slice_split 58 (drop 5 (take k text)))
    ∙ ap (λ (j : Identifier). join_with_byte 58 j.segments) same

pub path_parts : (text bytes : List ℕ) (k v : ℕ) (i : Identifier) → 5 ≤ k → bytes ≡ text → identifier_at text k v ≡ i
    → slice_split (λ b. b == 58) (take (k - 5) (drop 5 bytes)) ≡ i.segments
path_parts text bytes k v i h e same =
    ap (slice_split (λ b. b == 58)) (ap (λ b. take (k - 5) (drop 5 b)) e ∙ path_slice text k h)
    ∙ ap (λ (j : Identifier). j.segments) same
