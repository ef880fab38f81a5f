-- What is found of documents of which some were fetched.
use Rattle.std.proofs.Common.{◌≡◌, ℕ, ◌+◌, ◌-◌, ◌^◌, ◌<◌, ◌≤◌, inr, List, [], ◌∷◌, ◌++◌, Option, Some, None, true, false, ◌==◌, Result, Ok, Err, String, length, take, drop, map, get_or, refl, sym, ap, subst, ◌∙◌, arith}
use Rattle.std.specs.Prelude.{string_bytes, IfSome, min}
use Rattle.std.proofs.lemmas.List.{drop_more, take_more, take-append-drop, length-take-le, length-map, map-append, length-replicate}
use Rattle.std.proofs.lemmas.Slice.Zip.{AllZip-long, all_zipped_more}
use Rattle.std.proofs.Math.ListN.{replicate}
use Rattle.std.proofs.Math.Nat.{min-le_left, min-le_right, le-min}
use Rattle.std.specs.List.{AllZip, sum_by}
use Rattle.std.proofs.lemmas.List.Sums.{sum_by-append}
use Rattle.std.specs.declared.alloc.Global.{Global}
use Rattle.dt_base.specs.Files.{Fetches, file_named}
use Rattle.dt_base.specs.declared.shelf.Fetched.TheVariants.{TooLong}
use Rattle.dt_base.specs.Faults.{Rose}
use Rattle.dtdl_cmd.specs.Documents.{AreFound, HasUnder, Held, IsMissing, AreTooLong, MAX_BYTES, ShelfChange, StreamChange, documents_bytes}
use Rattle.dtdl_cmd.specs.Runs.{HasReadFault}
use Rattle.dtdl_cmd.specs.Machinery.Gathering.{IsFetched, AreDocumentsGathered}
use Rattle.dtdl_cmd.specs.declared.inputs.NoDocuments.{NoDocuments}
use Rattle.dtdl_cmd.specs.declared.inputs.NoDocuments.TheVariants as ends

abbrev Files : Type 0
Files = Option (List (List ℕ × List ℕ))

-- what stands under a name
abbrev pub Under : Files → String Global → Option (List ℕ) → Type 0
Under files = λ name document. HasUnder files (string_bytes name) document

-- ---- lists
zipped : {A B : Type 0} (R : A → B → Type 0) (xs : List A) (ys : List B) (us : List A) (vs : List B) → AllZip R xs ys → AllZip R us vs → AllZip R (xs ++ us) (ys ++ vs)
zipped R [] [] us vs all rest = rest
zipped R [] (y ∷ ys) us vs all rest = absurd all
zipped R (x ∷ xs) [] us vs all rest = absurd all
zipped R (x ∷ xs) (y ∷ ys) us vs all rest = (all.0, zipped R xs ys us vs all.1 rest)

total_more : (documents : List (List ℕ)) (bytes : List ℕ) → documents_bytes (documents ++ bytes ∷ []) ≡ documents_bytes documents + length bytes
total_more documents bytes =
    let more = sum_by-append length documents (bytes ∷ []) in
    let one : sum_by length (bytes ∷ []) ≡ length bytes = omega arith in
    omega (arith, more, one)

-- ---- names of which nothing is known have something or nothing
anything : (files : Files) (names : List (String Global)) → (found : List (Option (List ℕ))) × AllZip (Under files) names found
anything files [] = ([], tt)
anything None (name ∷ names) = let rest = anything None names in (None ∷ rest.0, (tt, rest.1))
anything (Some fs) (name ∷ names) = let rest = anything (Some fs) names in (file_named fs (string_bytes name) ∷ rest.0, (refl, rest.1))

module _ (files : Files) (names : List (String Global)) (k : ℕ) (name : String Global) (documents : List (List ℕ)) (within : k < length names) (is : name ≡ get_or names k name) (all : AllZip (Under files) (take k names) (map Some documents)) where
  abbrev found_at : (document : Option (List ℕ)) → HasUnder files (string_bytes name) document
      → (after : List (Option (List ℕ))) × AllZip (Under files) names (map Some documents ++ document ∷ after)
  found_at document has =
      let rest = anything files (drop (k + 1) names) in
      let split : take k names ++ name ∷ drop (k + 1) names ≡ names =
      ap (λ (n : String Global). take k names ++ n ∷ drop (k + 1) names) is ∙ ap (λ (t : List (String Global)). take k names ++ t) (sym (drop_more names k name within)) ∙ take-append-drop k names in (
        rest.0,
        subst (λ (ns : List (String Global)). AllZip (Under files) ns (map Some documents ++ document ∷ rest.0)) split
            (zipped (Under files) (take k names) (map Some documents) (name ∷ drop (k + 1) names) (document ∷ rest.0) all (has, rest.1)),
      )

  number_of : k + 1 ≡ length documents + 1
  number_of =
      let le : k ≤ length names = omega (arith, within) in
      let front = length-take-le k names le in
      let long = AllZip-long (Under files) (take k names) (map Some documents) all in
      let same = length-map documents (λ (b : List ℕ). Some b) in
      omega (arith, front, long, same)

  missing_at : documents_bytes documents ≤ MAX_BYTES → HasUnder files (string_bytes name) None → (found : List (Option (List ℕ))) × AllZip (Under files) names found × IsMissing found (k + 1)
  missing_at less has =
      let f = found_at None has in
      (map Some documents ++ None ∷ f.0, f.1, (documents, f.0, refl, less, number_of))

  too_long_at : documents_bytes documents ≤ MAX_BYTES → (bytes : List ℕ) → MAX_BYTES < documents_bytes documents + length bytes → HasUnder files (string_bytes name) (Some bytes)
      → (found : List (Option (List ℕ))) × AllZip (Under files) names found × AreTooLong found (k + 1)
  too_long_at less bytes more has =
      let f = found_at (Some bytes) has in
      (map Some documents ++ Some bytes ∷ f.0, f.1, (documents, bytes, f.0, refl, less, more, number_of))

  -- the end of a fetch is that of the gathering
  pub ended : (room : ℕ) (e : NoDocuments) (Fails Failed : Type 0) → (Fails → Failed) → documents_bytes documents + room ≡ MAX_BYTES
      → IsFetched files (string_bytes name) (k + 1) room Fails (Err e) → AreDocumentsGathered (AllZip (Under files) names) Failed (Err e)
  ended room (ends.Missing n) Fails Failed on sum h =
      let less : documents_bytes documents ≤ MAX_BYTES = omega (arith, sum) in
      subst (λ (m : ℕ). (found : List (Option (List ℕ))) × AllZip (Under files) names found × IsMissing found m) (sym h.0) (missing_at less h.1)
  ended room (ends.TooLong n) Fails Failed on sum h =
      let less : documents_bytes documents ≤ MAX_BYTES = omega (arith, sum) in
      let past = h.1.2 in
      let more : MAX_BYTES < documents_bytes documents + length h.1.0 = omega (arith, sum, past) in
      subst (λ (m : ℕ). (found : List (Option (List ℕ))) × AllZip (Under files) names found × AreTooLong found m) (sym h.0) (too_long_at less h.1.0 more h.1.1)
  ended room ends.ReadFault Fails Failed on sum h = on h
  ended room ends.OutOfMemory Fails Failed on sum h = tt

  -- one more was fetched
  pub one_more : (bytes : List ℕ) → HasUnder files (string_bytes name) (Some bytes) → AllZip (Under files) (take (k + 1) names) (map Some (documents ++ bytes ∷ []))
  one_more bytes has =
      let front : take (k + 1) names ≡ take k names ++ name ∷ [] = take_more names k name within ∙ ap (λ (n : String Global). take k names ++ n ∷ []) (sym is) in
      rw (front, map-append (λ (b : List ℕ). Some b) documents (bytes ∷ [])) (all_zipped_more (Under files) (take k names) (map Some documents) name (Some bytes) all has)

pub room_less : (documents : List (List ℕ)) (bytes : List ℕ) (room : ℕ) → documents_bytes documents + room ≡ MAX_BYTES → length bytes ≤ room
    → documents_bytes (documents ++ bytes ∷ []) + (room - length bytes) ≡ MAX_BYTES
room_less documents bytes room sum within = let more = total_more documents bytes in omega (arith, more, sum, within)

-- ---- counts
pub rose_before : (a b c : ℕ) → a ≤ b → Rose b c → Rose a c
rose_before a b c le rose =
    let left = min-le_left (a + 1) (2 ^ 64 - 1) in
    let right = min-le_right (a + 1) (2 ^ 64 - 1) in
    let up : min (a + 1) (2 ^ 64 - 1) ≤ b + 1 = omega (arith, left, le) in
    let both = le-min up right in
    omega (arith, both, rose)

-- ---- what is too long
abbrev zeros : ℕ → List ℕ
zeros n = replicate n 0

longer : (n : ℕ) → n < length (zeros (n + 1))
longer n =
    let less : n < n + 1 = omega arith in
    subst (λ (m : ℕ). n < m) (sym (length-replicate (n + 1) 0)) less

pub file_too_long : (files : Files) (name : List ℕ) (room : ℕ) → Fetches files name room TooLong → (bytes : List ℕ) × HasUnder files name (Some bytes) × (room < length bytes)
file_too_long None name room h = (zeros (room + 1), tt, longer room)
file_too_long (Some fs) name room h = h

-- a source that is too long, as far as it tells
held_too_much : (input : StreamChange) → (before : Option (List ℕ)) → input.before ≡ before → IfSome before (λ bytes. MAX_BYTES < length bytes)
    → (bytes : List ℕ) × (MAX_BYTES < length bytes) × Held input bytes
held_too_much input (Some all) is long = (all, long, inr (long, subst (λ (b : Option (List ℕ)). IfSome b (λ told. all ≡ told)) (sym is) refl))
held_too_much input None is long =
    (zeros (MAX_BYTES + 1), longer MAX_BYTES, inr (longer MAX_BYTES, subst (λ (b : Option (List ℕ)). IfSome b (λ told. zeros (MAX_BYTES + 1) ≡ told)) (sym is) tt))

pub source_too_long : (input : StreamChange) → IfSome input.before (λ bytes. MAX_BYTES < length bytes)
    → (found : List (Option (List ℕ))) × ((bytes : List ℕ) × (found ≡ Some bytes ∷ []) × Held input bytes) × AreTooLong found 1
source_too_long input long =
    let h = held_too_much input input.before refl long in
    let past = h.1 in
    let none : documents_bytes [] ≡ 0 = refl in
    let within : documents_bytes [] ≤ MAX_BYTES = omega (arith, none) in
    let more : MAX_BYTES < documents_bytes [] + length h.0 = omega (arith, none, past) in
    (Some h.0 ∷ [], (h.0, refl, h.2), ([], h.0, [], refl, within, more, refl))

-- ---- the names of the shelf, by their bytes
pub by_bytes : (files : Files) (names : List (String Global)) (found : List (Option (List ℕ))) → AllZip (Under files) names found → AllZip (HasUnder files) (map string_bytes names) found
by_bytes files [] [] all = tt
by_bytes files [] (f ∷ found) all = absurd all
by_bytes files (name ∷ names) [] all = absurd all
by_bytes files (name ∷ names) (f ∷ found) all = (all.0, by_bytes files names found all.1)

-- what was gathered from the shelf for some names
pub shelf_gathered : (input : StreamChange) (shelf : ShelfChange) (names : List (String Global)) (r : Result (List (List ℕ)) NoDocuments) → (names ≡ [] → ⊥)
    → AreDocumentsGathered (AllZip (Under shelf.before) names) (Rose shelf.faults_before shelf.faults_after) r
    → AreDocumentsGathered (AreFound input shelf (map string_bytes names)) (HasReadFault input shelf (map string_bytes names)) r
shelf_gathered input shelf [] r some h = absurd (some refl)
shelf_gathered input shelf (name ∷ names) (Ok documents) some h = (by_bytes shelf.before (name ∷ names) (map Some documents) h.0, h.1)
shelf_gathered input shelf (name ∷ names) (Err (ends.Missing n)) some (found, all, is) = (found, by_bytes shelf.before (name ∷ names) found all, is)
shelf_gathered input shelf (name ∷ names) (Err (ends.TooLong n)) some (found, all, is) = (found, by_bytes shelf.before (name ∷ names) found all, is)
shelf_gathered input shelf (name ∷ names) (Err ends.ReadFault) some h = h
shelf_gathered input shelf (name ∷ names) (Err ends.OutOfMemory) some h = tt

pub some_names : (names : List (String Global)) → false ≡ (length names == 0) → names ≡ [] → ⊥
some_names names h e =
    let none : false ≡ true = subst (λ (ns : List (String Global)). false ≡ (length ns == 0)) e h in
    absurd cc
