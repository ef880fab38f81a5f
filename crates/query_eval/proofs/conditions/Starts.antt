-- Where those of one path stand among identifiers that ascend.
use Rattle.std.proofs.Common.{◌≡◌, ℕ, zero, suc, ◌+◌, ◌-◌, ◌<◌, ◌≤◌, ◌==◌, inl, inr, List, [], ◌∷◌, ◌++◌, length, take, drop, get_or, Bool, true, false, ◌||◌, cond, Option, Some, refl, sym, ap, ap₂, ◌∙◌, subst, true≢false, arith, append_assoc, append-nil, length-append, length-drop}
use Rattle.std.specs.Prelude.{codes, position}
use Rattle.std.specs.List.{All, list_any, filter, join_with_byte}
use Rattle.std.specs.List.Sorted.{IsStrictlySortedBy, IsPartitionedBy, IsPartitionPoint}
use Rattle.std.specs.Fmt.{decimal}
use Rattle.std.specs.Option.{IsSome, is_some}
use Rattle.std.specs.Ordering.{nat_cmp, is_lt, is_eq, is_le, is_gt, ordering_then}
use Rattle.std.specs.Cmp.Lexicographic.{slice_cmp}
use Rattle.std.specs.declared.cmp.Ordering.{Ordering}
use Rattle.std.specs.declared.cmp.Ordering.TheVariants.{Less, Equal, Greater}
use Rattle.std.proofs.lemmas.Bool.{cases_lt}
use Rattle.std.proofs.lemmas.Cmp.{nat_list_cmp_total, upto, alike_right, tied_itself}
use Rattle.std.proofs.lemmas.List.{take_at, take-append-drop, get_or-take, get_or-drop, drop-drop, length-take, length-take-le}
use Rattle.std.proofs.lemmas.Option.{same_Some}
use Rattle.std.proofs.lemmas.List.Elements.{All-head, All-tail, filter-append}
use Rattle.std.proofs.lemmas.Map.Keys.{Less-from_sorted}
use Rattle.dt_base.specs.names.Grammar.{Identifier, OwnDtmiText, dtmi_text, id_cmp}
use Rattle.dt_base.proofs.names.Cuts.{position-form}
use Rattle.graph_steps.specs.Conditions.{same_segments, reaches_version}
use Rattle.query_eval.specs.conditions.Machinery.Starts.{path_start, start_cmp, begins_so, is_before_start, is_upto, Parts}
use Rattle.query_eval.proofs.conditions.Leading.{both, same-from}

-- ---- texts that are cut
abbrev cmp : List ℕ → List ℕ → Ordering
cmp a b = slice_cmp nat_cmp a b

then_rises : (o r s : Ordering) → (is_gt r ≡ false → is_gt s ≡ false) → is_gt (ordering_then o r) ≡ false → is_gt (ordering_then o s) ≡ false
then_rises Less r s rest h = refl
then_rises Equal r s rest h = rest h
then_rises Greater r s rest h = absurd (true≢false h)

-- what is cut to as many bytes stands no lower than before
take_rises : (n : ℕ) (a b : List ℕ) → is_gt (cmp a b) ≡ false → is_gt (cmp (take n a) (take n b)) ≡ false
take_rises zero a b h = refl
take_rises (suc n) [] [] h = refl
take_rises (suc n) [] (y ∷ ys) h = refl
take_rises (suc n) (x ∷ xs) [] h = absurd (true≢false h)
take_rises (suc n) (x ∷ xs) (y ∷ ys) h = then_rises (nat_cmp x y) (cmp xs ys) (cmp (take n xs) (take n ys)) (take_rises n xs ys) h

-- what stands no higher than what is below is below
below_by : (a b p : List ℕ) (r s : Ordering) → cmp a b ≡ r → cmp b p ≡ s → is_gt r ≡ false → is_lt s ≡ true → is_lt (cmp a p) ≡ true
below_by a b p Less Less x y h g = ap is_lt (nat_list_cmp_total.trans a b p x y)
below_by a b p Equal Less x y h g = ap is_lt (nat_list_cmp_total.congr a b p x ∙ y)
below_by a b p Greater Less x y h g = absurd (true≢false h)
below_by a b p r Equal x y h g = absurd (true≢false (sym g))
below_by a b p r Greater x y h g = absurd (true≢false (sym g))

upto_is : (o : Ordering) → is_gt o ≡ false → is_le o ≡ true
upto_is Less h = refl
upto_is Equal h = refl
upto_is Greater h = absurd (true≢false h)

upto_was : (o : Ordering) → is_le o ≡ true → is_gt o ≡ false
upto_was Less h = refl
upto_was Equal h = refl
upto_was Greater h = absurd (true≢false (sym h))

-- ---- the bytes with which the identifiers of a path begin
text_is : (id : Identifier) → dtmi_text id ≡ path_start id ++ decimal id.version
text_is id = ap (λ r. codes "dtmi:" ++ r) (sym (append_assoc (join_with_byte 58 id.segments) (59 ∷ []) (decimal id.version)))

pub start_found : (id : Identifier) (bytes : List ℕ) (k : ℕ) → OwnDtmiText (dtmi_text id) id → bytes ≡ dtmi_text id → position (λ b. b == 59) bytes ≡ Some k → take (k + 1) bytes ≡ path_start id
start_found id bytes k own is at =
    let place = position-form (dtmi_text id) id own.text.form in
    let one : k ≡ length (codes "dtmi:" ++ join_with_byte 58 id.segments) = same_Some k _ (sym at ∙ ap (position (λ b. b == 59)) is ∙ place) in
    let long : length (path_start id) ≡ k + 1 = let n = length-append (join_with_byte 58 id.segments) (59 ∷ []) in omega arith in
    ap (take (k + 1)) (is ∙ text_is id) ∙ take_at (path_start id) (decimal id.version) (k + 1) long

pub end_found : (id : Identifier) (bytes : List ℕ) → OwnDtmiText (dtmi_text id) id → bytes ≡ dtmi_text id → IsSome (position (λ b. b == 59) bytes)
end_found id bytes own is = ap is_some (ap (position (λ b. b == 59)) is ∙ position-form (dtmi_text id) id own.text.form)

-- one of the path begins with them
start_same : (id named : Identifier) → reaches_version id named ≡ true → start_cmp (path_start named) id ≡ Equal
start_same id named h =
    let segments : id.segments ≡ named.segments = same-from id.segments named.segments (both (same_segments id.segments named.segments) _ h).0 in
    let start : path_start id ≡ path_start named = ap (λ (s : List (List ℕ)). codes "dtmi:" ++ (join_with_byte 58 s ++ 59 ∷ [])) segments in
    let whole : take (length (path_start named)) (dtmi_text id) ≡ path_start named =
    ap (take (length (path_start named))) (text_is id ∙ ap (λ t. t ++ decimal id.version) start) ∙ take_at (path_start named) (decimal id.version) (length (path_start named)) refl in
    ap (λ t. cmp t (path_start named)) whole ∙ tied_itself nat_list_cmp_total (path_start named)

-- ---- identifiers that ascend
abbrev cut : List ℕ → Identifier → List ℕ
cut start id = take (length start) (dtmi_text id)

rise : (start : List ℕ) (a b : Identifier) → id_cmp a b ≡ Less → is_gt (cmp (cut start a) (cut start b)) ≡ false
rise start a b h = take_rises (length start) (dtmi_text a) (dtmi_text b) (ap is_gt h)

before_down : (start : List ℕ) (a b : Identifier) → id_cmp a b ≡ Less → is_before_start start b ≡ true → is_before_start start a ≡ true
before_down start a b h g = below_by (cut start a) (cut start b) start (cmp (cut start a) (cut start b)) (start_cmp start b) refl refl (rise start a b h) g

upto_down : (start : List ℕ) (a b : Identifier) → id_cmp a b ≡ Less → is_upto start b ≡ true → is_upto start a ≡ true
upto_down start a b h g =
    upto_is (start_cmp start a) (upto nat_list_cmp_total (cut start a) (cut start b) start (rise start a b h) (upto_was (start_cmp start b) g))

parted : (test : Identifier → Bool) → ((a b : Identifier) → id_cmp a b ≡ Less → test b ≡ true → test a ≡ true) → (ids : List Identifier) → IsStrictlySortedBy id_cmp ids → IsPartitionedBy test ids
parted test down ids sorted i j d low high g =
    elim (cases_lt i j) [
      | inl under ↦ down (get_or ids i d) (get_or ids j d) (Less-from_sorted id_cmp ids i j d sorted under high) g
      | inr over ↦ let same : i ≡ j = omega arith in rw same g
    ]

pub before_parted : (start : List ℕ) (ids : List Identifier) → IsStrictlySortedBy id_cmp ids → IsPartitionedBy (is_before_start start) ids
before_parted start ids = parted (is_before_start start) (before_down start) ids

pub upto_parted : (start : List ℕ) (ids : List Identifier) → IsStrictlySortedBy id_cmp ids → IsPartitionedBy (is_upto start) ids
upto_parted start ids = parted (is_upto start) (upto_down start) ids

-- ---- those between
before_upto : (o : Ordering) → is_lt o ≡ true → is_le o ≡ true
before_upto Less h = refl
before_upto Equal h = refl
before_upto Greater h = absurd (true≢false (sym h))

nothing : Identifier
nothing = record { segments = []; version = 0 }

pub in_turn : (start : List ℕ) (ids : List Identifier) (from to : ℕ) → from ≤ length ids → Parts (is_before_start start) ids from → Parts (is_upto start) ids to → from ≤ to
in_turn start ids from to within low high =
    elim (cases_lt to from) [
      | inl under ↦
          absurd (true≢false (sym (before_upto (start_cmp start (get_or ids to nothing)) (low.0 to nothing (omega arith) under)) ∙ high.1 to nothing (omega arith) (omega arith)))
      | inr over ↦ over
    ]

before_other : (o : Ordering) → is_lt o ≡ true → is_eq o ≡ false
before_other Less h = refl
before_other Equal h = absurd (true≢false (sym h))
before_other Greater h = refl

past_other : (o : Ordering) → is_le o ≡ false → is_eq o ≡ false
past_other Less h = refl
past_other Equal h = absurd (true≢false h)
past_other Greater h = refl

between_same : (o : Ordering) → is_lt o ≡ false → is_le o ≡ true → is_eq o ≡ true
between_same Less h g = absurd (true≢false h)
between_same Equal h g = refl
between_same Greater h g = absurd (true≢false (sym g))

none_kept : {X : Type 0} (p : X → Bool) (xs : List X) → All (λ x. p x ≡ false) xs → filter p xs ≡ []
none_kept p [] all = refl
none_kept p (x ∷ xs) all = ap (λ b. cond b (x ∷ filter p xs) (filter p xs)) (All-head (λ y. p y ≡ false) x xs all) ∙ none_kept p xs (All-tail (λ y. p y ≡ false) x xs all)

all_kept : {X : Type 0} (p : X → Bool) (xs : List X) → All (λ x. p x ≡ true) xs → filter p xs ≡ xs
all_kept p [] all = refl
all_kept p (x ∷ xs) all =
    ap (λ b. cond b (x ∷ filter p xs) (filter p xs)) (All-head (λ y. p y ≡ true) x xs all) ∙ ap (λ ys. x ∷ ys) (all_kept p xs (All-tail (λ y. p y ≡ true) x xs all))

kept_between : {X : Type 0} (p : X → Bool) (xs : List X) (from to : ℕ) → from ≤ to → All (λ x. p x ≡ false) (take from xs) → All (λ x. p x ≡ true) (take (to - from) (drop from xs)) → All (λ x. p x ≡ false) (drop to xs)
    → take (to - from) (drop from xs) ≡ filter p xs
kept_between p xs from to turn low mid high =
    let part = take (to - from) (drop from xs) in
    let rest : drop (to - from) (drop from xs) ≡ drop to xs = drop-drop (to - from) from xs ∙ ap (λ n. drop n xs) (omega arith) in
    sym (append-nil part)
    ∙ ap₂ (λ ys zs. ys ++ zs) (sym (all_kept p part mid)) (sym (ap (filter p) rest ∙ none_kept p (drop to xs) high))
    ∙ sym (filter-append p part (drop (to - from) (drop from xs)))
    ∙ ap (filter p) (take-append-drop (to - from) (drop from xs))
    ∙ ap (λ ys. ys ++ filter p (drop from xs)) (sym (none_kept p (take from xs) low))
    ∙ sym (filter-append p (take from xs) (drop from xs))
    ∙ ap (filter p) (take-append-drop from xs)

module _ (start : List ℕ) (ids : List Identifier) (from to : ℕ) (within : from ≤ length ids) (low : Parts (is_before_start start) ids from) (high : Parts (is_upto start) ids to) where
  none_before : All (λ id. begins_so start id ≡ false) (take from ids)
  none_before k d under =
      let short : k < from = let n = length-take-le from ids within in omega arith in
      subst (λ id. begins_so start id ≡ false) (sym (get_or-take from ids k d short)) (before_other (start_cmp start (get_or ids k d)) (low.0 k d (omega arith) short))

  none_past : All (λ id. begins_so start id ≡ false) (drop to ids)
  none_past k d under =
      let n = length-drop to ids in
      subst (λ id. begins_so start id ≡ false) (sym (get_or-drop to ids k d)) (past_other (start_cmp start (get_or ids (to + k) d)) (high.1 (to + k) d (omega arith) (omega arith)))

  all_between : All (λ id. begins_so start id ≡ true) (take (to - from) (drop from ids))
  all_between k d under =
      let n = length-take (to - from) (drop from ids) in
      let m = length-drop from ids in
      let short : k < to - from = omega arith in
      subst (λ id. begins_so start id ≡ true) (sym (get_or-take (to - from) (drop from ids) k d short ∙ get_or-drop from ids k d))
      (between_same (start_cmp start (get_or ids (from + k) d)) (low.1 (from + k) d (omega arith) (omega arith)) (high.0 (from + k) d (omega arith) (omega arith)))

  pub between : take (to - from) (drop from ids) ≡ filter (begins_so start) ids
  between = kept_between (begins_so start) ids from to (in_turn start ids from to within low high) none_before all_between none_past

-- ---- those of the path
any_kept : {X : Type 0} (p q : X → Bool) → ((x : X) → q x ≡ true → p x ≡ true) → (xs : List X) → list_any q (filter p xs) ≡ list_any q xs
any_kept p q holds [] = refl
any_kept p q holds (x ∷ xs) =
    elim (p x) as (λ b. p x ≡ b → list_any q (cond b (x ∷ filter p xs) (filter p xs)) ≡ (q x || list_any q xs)) [
      | true ↦ λ e. ap (λ b. q x || b) (any_kept p q holds xs)
      | false ↦ λ e. any_kept p q holds xs ∙ ap (λ b. b || list_any q xs) (sym (fails (p x) (q x) (holds x) e))
    ] refl
  where
    fails : (b c : Bool) → (c ≡ true → b ≡ true) → b ≡ false → c ≡ false
    fails b true h e = absurd (true≢false (sym (h refl) ∙ e))
    fails b false h e = refl

pub one_of_those : (named : Identifier) (ids : List Identifier) → list_any (λ id. reaches_version id named) (filter (begins_so (path_start named)) ids) ≡ list_any (λ id. reaches_version id named) ids
one_of_those named ids = any_kept (begins_so (path_start named)) (λ id. reaches_version id named) (λ id h. ap is_eq (start_same id named h)) ids
