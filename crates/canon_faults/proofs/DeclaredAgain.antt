-- What the canonical text of a set declares is a set of its own, which declares the same.
use Rattle.std.proofs.Common.{◌≡◌, ◌≢◌, ℕ, List, [], ◌∷◌, map, refl, sym, ap, subst}
use Rattle.std.specs.List.{AllByRecursion}
use Rattle.dt_base.specs.names.Grammar.{dtmi_text}
use Rattle.json_tree.specs.Grammar.{Spells}
use Rattle.dtdl_terms.specs.Distinct.{AreDistinct, HasDeclaration}
use Rattle.dtdl_terms.specs.Equality.{DeclareTheSame, SameElements}
use Rattle.dtdl_terms.specs.declared.interface.Interface.{Interface}
use Rattle.dtdl_terms.specs.declared.uploaded.Uploaded.{Uploaded}
use Rattle.model_read.specs.Uploads.{AreUploaded}
use Rattle.model_read.proofs.Documents.{all_have_declarations}
use Rattle.canon_text.specs.Sorting.{sorted_by}
use Rattle.canon_text.specs.Canonical.{interface_pair, set_value}
use Rattle.canon_text.specs.Identified.{InterfaceIsIdentified}
use Rattle.canon_text.specs.Machinery.Pairs.{pair_name}
use Rattle.canon_text.proofs.Told.{all_mapped, all_unmapped, all_with}
use Rattle.local_rules.specs.Typed.{IsTyped}
use Rattle.canon_laws.proofs.Documents.{set_pairs, set_same}
use Rattle.local_rules.specs.Soundness.{IsSoundlyDeclared}
use Rattle.canon_faults.proofs.Alike.{AreApart, interfaces}
use Rattle.canon_faults.proofs.Apart.{Pairwise, pairwise_sorted}
use Rattle.canon_faults.proofs.Good.{Pairs}
use Rattle.canon_laws.proofs.Identified.{interface_own, uploads_own}
use Rattle.json_tree.proofs.DistinctKeys.{spelled_distinct}
use Rattle.canon_faults.proofs.Nowhere.{no_breach}
use Rattle.canon_faults.proofs.Uploads.{typed_so}

-- ---- names in order
pairwise_of : (ms : Pairs) → AreDistinct (map pair_name ms) → Pairwise (λ m n. pair_name m ≢ pair_name n) ms
pairwise_of [] apart = tt
pairwise_of (m ∷ ms) apart = (all_unmapped pair_name (λ k. pair_name m ≢ k) ms apart.0, pairwise_of ms apart.1)

distinct_of : (ms : Pairs) → Pairwise (λ m n. pair_name m ≢ pair_name n) ms → AreDistinct (map pair_name ms)
distinct_of [] apart = tt
distinct_of (m ∷ ms) apart = (all_mapped pair_name (λ k. pair_name m ≢ k) ms apart.0, distinct_of ms apart.1)

names_in_order : (ms : Pairs) → AreDistinct (map pair_name ms) → AreDistinct (map pair_name (sorted_by pair_name ms))
names_in_order ms apart = distinct_of (sorted_by pair_name ms)
    (pairwise_sorted pair_name (λ m n. pair_name m ≢ pair_name n) (λ m n differ e. differ (sym e)) ms (pairwise_of ms apart))

names_are : (is : List Interface) → map pair_name (map interface_pair is) ≡ map (λ i. dtmi_text i.id) is
names_are [] = refl
names_are (i ∷ is) = ap (λ (ks : List (List ℕ)). dtmi_text i.id ∷ ks) (names_are is)

-- ---- the laws
each_own : (is : List Interface) → AllByRecursion IsSoundlyDeclared is → AllByRecursion InterfaceIsIdentified is
each_own is sound = all_with IsSoundlyDeclared InterfaceIsIdentified (λ i s. interface_own s.members i s.declares) is sound

pub same_set : (is : List Interface) (nth : ℕ) (us : List Uploaded) → AllByRecursion IsSoundlyDeclared is → AreUploaded (set_value is) nth us
    → SameElements DeclareTheSame is (interfaces us)
same_set is nth us sound g = set_same is nth us (each_own is sound) (uploads_own (set_value is) nth us g) (all_with IsSoundlyDeclared IsTyped typed_so is sound) g

pub declared_set : (bytes : List ℕ) (is : List Interface) (nth : ℕ) (us : List Uploaded) → AllByRecursion IsSoundlyDeclared is → Spells bytes (set_value is) → AreUploaded (set_value is) nth us
    → AllByRecursion HasDeclaration (interfaces us)
declared_set bytes is nth us sound spelled g =
    without_places us (all_have_declarations (set_value is) nth us (spelled_distinct bytes (set_value is) spelled) (no_breach is sound) g)
  where
    without_places : (xs : List Uploaded) → AllByRecursion (λ u. HasDeclaration u.interface) xs → AllByRecursion HasDeclaration (interfaces xs)
    without_places xs all = all_mapped (λ (u : Uploaded). u.interface) HasDeclaration xs all

pub apart_set : (is : List Interface) (nth : ℕ) (us : List Uploaded) → AllByRecursion IsSoundlyDeclared is → AreUploaded (set_value is) nth us → AreApart is → AreApart (interfaces us)
apart_set is nth us sound g apart =
    let pairs = set_pairs is nth us (all_with IsSoundlyDeclared IsTyped typed_so is sound) g in
    let names : AreDistinct (map pair_name (map interface_pair is)) = subst AreDistinct (sym (names_are is)) apart in
    let there : AreDistinct (map pair_name (map interface_pair (interfaces us))) =
    subst (λ (ms : Pairs). AreDistinct (map pair_name ms)) (sym pairs) (names_in_order (map interface_pair is) names) in
    subst AreDistinct (names_are (interfaces us)) there
