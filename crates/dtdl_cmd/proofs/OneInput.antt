-- What a source and a shelf that told what they hold had for some names.
use Rattle.std.proofs.Common.{◌≡◌, ◌⊎◌, ℕ, ◌<◌, List, [], ◌∷◌, ◌++◌, Option, Some, None, length, map, refl, sym, ap, ap₂, ◌∙◌, subst, inl, inr}
use Rattle.std.proofs.lemmas.List.{append-nil}
use Rattle.std.specs.Prelude.{IfSome}
use Rattle.std.specs.List.{AllZip}
use Rattle.std.specs.Io.KnownBytes.{Consumes, IsAtEnd}
use Rattle.dt_base.specs.Files.{file_named}
use Rattle.dtdl_cmd.specs.Documents.{AreFound, HasUnder, MAX_BYTES, ShelfChange, StreamChange, documents_of}

whole : (all bytes : List ℕ) (after : Option (List ℕ)) → Consumes (Some all) after bytes → IsAtEnd after → bytes ≡ all
whole all bytes None took end = absurd took
whole all bytes (Some rest) took end = sym (took ∙ ap (λ (r : List ℕ). bytes ++ r) end ∙ append-nil bytes)

either : (all bytes : List ℕ) (before after : Option (List ℕ)) → before ≡ Some all
    → (Consumes before after bytes × IsAtEnd after) ⊎ ((MAX_BYTES < length bytes) × IfSome before (λ told. bytes ≡ told)) → bytes ≡ all
either all bytes before after e (inl (took, end)) = whole all bytes after (subst (λ (b : Option (List ℕ)). Consumes b after bytes) e took) end
either all bytes before after e (inr (more, same)) = subst (λ (b : Option (List ℕ)). IfSome b (λ told. bytes ≡ told)) e same

under : (files : List (List ℕ × List ℕ)) (names : List (List ℕ)) (found : List (Option (List ℕ))) → AllZip (HasUnder (Some files)) names found → found ≡ map (file_named files) names
under files [] [] all = refl
under files [] (f ∷ found) all = absurd all
under files (name ∷ names) [] all = absurd all
under files (name ∷ names) (f ∷ found) all = ap₂ (λ (x : Option (List ℕ)) (xs : List (Option (List ℕ))). x ∷ xs) (sym all.0) (under files names found all.1)

pub one_input : (input : StreamChange) (shelf : ShelfChange) (names : List (List ℕ)) (all : List ℕ) (files : List (List ℕ × List ℕ)) (found : List (Option (List ℕ)))
    → input.before ≡ Some all → shelf.before ≡ Some files → AreFound input shelf names found → found ≡ documents_of all files names
one_input input shelf [] all files found e f (bytes, is, held) = is ∙ ap (λ (b : List ℕ). Some b ∷ []) (either all bytes input.before input.after e held)
one_input input shelf (name ∷ names) all files found e f have =
    under files (name ∷ names) found (subst (λ (fs : Option (List (List ℕ × List ℕ))). AllZip (HasUnder fs) (name ∷ names) found) f have)
