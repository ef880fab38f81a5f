-- Each value is a patch or has a fault.
use Rattle.std.proofs.Common.{◌≡◌, ℕ, zero, suc, ◌⊎◌, inl, inr, List, [], ◌∷◌, refl, subst}
use Rattle.dt_base.specs.Existence.{IsThere}
use Rattle.dt_base.proofs.Existence.{is_there, holds_or_not, from_there, map_there}
use Rattle.json_decimal.specs.Number.{Number}
use Rattle.json_tree.specs.Values.{Json, array, Elements, no_elements, element}
use Rattle.twin_patch.specs.Operations.{Change, Operation}
use Rattle.twin_patch.specs.Reading.{IsJsonObject, change_word, HasWord, HasPath, HasValue, IsProtected, IsOperation, IsFirstCode, AreOperations, FailsAt, IsFitFor, IsPatch, IsJsonArray, IsPatchFault}
use Rattle.twin_patch.specs.declared.code.PatchCode.{PatchCode}
use Rattle.twin_patch.specs.declared.code.PatchCode.TheVariants as code
use Rattle.twin_patch.specs.declared.entry.PatchOf.{PatchOf}
use Rattle.twin_patch.specs.declared.word.Word.{Word}

-- ---- one entry
abbrev Entry : PatchOf → Json → Type 0
Entry of entry = ((o : Operation) × IsOperation of entry o) ⊎ ((c : PatchCode) × IsFirstCode of entry c)

by_protection : (of : PatchOf) (entry : Json) (change : Change) (path : List (List ℕ)) → HasWord entry (change_word change) → HasPath entry path
    → HasValue entry change → IsProtected of (change_word change) path ⊎ (IsProtected of (change_word change) path → ⊥) → Entry of entry
by_protection of entry change path w p v (inl protected) = inr (code.Protected, (change, path, w, p, v, protected))
by_protection of entry change path w p v (inr free) = inl (record { change = change; path = path }, (w, p, v, free))

abbrev HasChange : Json → Word → Type 0
HasChange entry w = (change : Change) × (w ≡ change_word change) × HasValue entry change

by_value : (of : PatchOf) (entry : Json) (w : Word) (path : List (List ℕ)) → HasWord entry w → HasPath entry path
    → HasChange entry w ⊎ (HasChange entry w → ⊥) → IsThere (Entry of entry)
by_value of entry w path word p (inl (change, same, value)) = map_there
    (by_protection of entry change path (subst (λ (x : Word). HasWord entry x) same word) p value)
    (holds_or_not (IsProtected of (change_word change) path))
by_value of entry w path word p (inr none) =
    is_there (inr (code.MissingValue, (w, path, word, p, (λ change same value. none (change, same, value)))))

abbrev SomePath : Json → Type 0
SomePath entry = (path : List (List ℕ)) × HasPath entry path

by_path : (of : PatchOf) (entry : Json) (w : Word) → HasWord entry w → SomePath entry ⊎ (SomePath entry → ⊥) → IsThere (Entry of entry)
by_path of entry w word (inl (path, p)) = from_there (holds_or_not (HasChange entry w)) (by_value of entry w path word p)
by_path of entry w word (inr none) = is_there (inr (code.BadPath, (w, word, (λ path p. none (path, p)))))

abbrev SomeWord : Json → Type 0
SomeWord entry = (w : Word) × HasWord entry w

by_word : (of : PatchOf) (entry : Json) → IsJsonObject entry → SomeWord entry ⊎ (SomeWord entry → ⊥) → IsThere (Entry of entry)
by_word of entry is (inl (w, word)) = from_there (holds_or_not (SomePath entry)) (by_path of entry w word)
by_word of entry is (inr none) = is_there (inr (code.BadOp, (is, (λ w word. none (w, word)))))

by_kind : (of : PatchOf) (entry : Json) → IsJsonObject entry ⊎ (IsJsonObject entry → ⊥) → IsThere (Entry of entry)
by_kind of entry (inl is) = from_there (holds_or_not (SomeWord entry)) (by_word of entry is)
by_kind of entry (inr other) = is_there (inr (code.NotAnObject, other))

entry_answer : (of : PatchOf) (entry : Json) → IsThere (Entry of entry)
entry_answer of entry = from_there (holds_or_not (IsJsonObject entry)) (by_kind of entry)

-- ---- all entries
abbrev Entries : PatchOf → Elements Number → Type 0
Entries of entries = ((os : List Operation) × AreOperations of entries os) ⊎ ((index : ℕ) × (c : PatchCode) × FailsAt of entries index c)

behind_entry : (of : PatchOf) (entry : Json) (entries : Elements Number) (o : Operation) → IsOperation of entry o → Entries of entries → Entries of (element entry entries)
behind_entry of entry entries o is (inl (os, are)) = inl (o ∷ os, (o, os, refl, is, are))
behind_entry of entry entries o is (inr (index, c, fails)) = inr (suc index, c, ((o, is), fails))

first_entry : (of : PatchOf) (entry : Json) (entries : Elements Number) → IsThere (Entries of entries) → Entry of entry → IsThere (Entries of (element entry entries))
first_entry of entry entries rest (inl (o, is)) = map_there (behind_entry of entry entries o is) rest
first_entry of entry entries rest (inr (c, first)) = is_there (inr (zero, c, first))

entries_answer : (of : PatchOf) (entries : Elements Number) → IsThere (Entries of entries)
entries_answer of no_elements = is_there (inl ([], refl))
entries_answer of (element entry entries) = from_there (entry_answer of entry) (first_entry of entry entries (entries_answer of entries))

-- ---- the whole value
abbrev Answer : PatchOf → Json → Type 0
Answer of v = ((os : List Operation) × IsPatch of v os) ⊎ ((index : ℕ) × (c : PatchCode) × IsPatchFault of v index c)

by_fitness : (of : PatchOf) (v : Json) (entries : Elements Number) (os : List Operation) → v ≡ array entries → AreOperations of entries os
    → IsFitFor of os ⊎ (IsFitFor of os → ⊥) → Answer of v
by_fitness of v entries os is are (inl fit) = inl (os, (entries, is, are, fit))
by_fitness of v entries os is are (inr unfit) = inr (zero, code.NotAMark, inr (inr (entries, os, is, are, unfit, refl, refl)))

by_entries : (of : PatchOf) (v : Json) (entries : Elements Number) → v ≡ array entries → Entries of entries → IsThere (Answer of v)
by_entries of v entries is (inl (os, are)) = map_there (by_fitness of v entries os is are) (holds_or_not (IsFitFor of os))
by_entries of v entries is (inr (index, c, fails)) = is_there (inr (index, c, inr (inl (entries, is, fails))))

by_array : (of : PatchOf) (v : Json) → IsJsonArray v ⊎ (IsJsonArray v → ⊥) → IsThere (Answer of v)
by_array of v (inl (entries, is)) = from_there (entries_answer of entries) (by_entries of v entries is)
by_array of v (inr other) = is_there (inr (zero, code.NotAList, inl (other, refl, refl)))

pub some_answer : (of : PatchOf) (v : Json) → IsThere (Answer of v)
some_answer of v = from_there (holds_or_not (IsJsonArray v)) (by_array of v)
