-- The canonical texts of sound interfaces, and of sets of them, spell their canonical trees.
use Rattle.std.proofs.Common.{◌≡◌, ℕ, inl, inr, List, [], ◌∷◌, ◌++◌, map, refl, sym, ap, subst, arith}
use Rattle.std.specs.Prelude.{◌↔◌}
use Rattle.std.specs.List.{AllByRecursion}
use Rattle.json_tree.specs.Values.{Json, HasDistinctKeys}
use Rattle.json_tree.specs.Grammar.{IsSpaces, Spells}
use Rattle.json_tree.specs.Printing.{printed}
use Rattle.json_tree.proofs.Printable.{print_spells, print_spells_before}
use Rattle.dtdl_terms.specs.Distinct.{AreDistinct, HasDeclaration}
use Rattle.dtdl_terms.specs.Equality.{DeclareTheSame, SameElements}
use Rattle.dtdl_terms.specs.declared.interface.Interface.{Interface}
use Rattle.dtdl_terms.specs.declared.uploaded.Uploaded.{Uploaded}
use Rattle.local_rules.specs.Limits.{IsWithinLimits}
use Rattle.local_rules.specs.Soundness.{IsSoundInterface, IsSoundlyDeclared}
use Rattle.local_rules.specs.Typed.{IsTyped}
use Rattle.model_read.specs.Uploads.{AreUploaded}
use Rattle.canon_text.specs.Canonical.{interface_pair, interface_text, interface_value, set_value, set_text}
use Rattle.canon_text.specs.Identified.{InterfaceIsIdentified}
use Rattle.canon_text.proofs.Keys.{PairIsDistinct, list_distinct, interface_distinct}
use Rattle.canon_text.proofs.SameTrees.{interface_same}
use Rattle.canon_text.proofs.Sets.{set_same, set_told}
use Rattle.canon_text.proofs.Told.{all_with, all_mapped}
use Rattle.canon_text.proofs.ToldTrees.{interface_told}
use Rattle.canon_laws.proofs.Documents.{set_back}
use Rattle.canon_laws.proofs.Identified.{interface_own}
use Rattle.canon_laws.proofs.Nests.{deeper, interface_nests, set_nests}
use Rattle.canon_laws.proofs.Printable.{declared_prints, set_prints}

-- bytes spell at most one value
abbrev pub OneValue : Type 0
OneValue = (bytes : List ℕ) (v w : Json) → Spells bytes v → Spells bytes w → v ≡ w

newline_is_space : IsSpaces (10 ∷ []) []
newline_is_space = (10 ∷ [], (inr (inr (inl refl)), tt), refl)

own : (i : Interface) → IsSoundInterface i → InterfaceIsIdentified i
own i s = interface_own s.declared.members i s.declared.declares

-- ---- one interface
interface_spelled : (i : Interface) → IsSoundInterface i → Spells (interface_text i) (interface_value i)
interface_spelled i s = print_spells (interface_value i) (declared_prints i s.declared)
    (deeper (interface_value i) 22 64 (omega arith) (interface_nests i s.typed s.limits)) (interface_distinct i s.declaration)

pub one_text : OneValue → (i j : Interface) → IsSoundInterface i → IsSoundInterface j → (interface_text i ≡ interface_text j) ↔ DeclareTheSame i j
one_text one i j s t = (
  λ same. interface_told i j (own i s) (own j t)
      (one (interface_text i) (interface_value i) (interface_value j) (interface_spelled i s) (subst (λ (bytes : List ℕ). Spells bytes (interface_value j)) (sym same) (interface_spelled j t))),
  λ same. ap printed (interface_same i j s.declaration t.declaration (own i s) (own j t) same),
)

-- ---- sets
set_distinct : (is : List Interface) → AllByRecursion HasDeclaration is → HasDistinctKeys (set_value is)
set_distinct is declared =
    list_distinct (map interface_pair is) (all_mapped interface_pair PairIsDistinct is (all_with HasDeclaration (λ i. PairIsDistinct (interface_pair i)) (λ i d. interface_distinct i d) is declared))

module _ (is : List Interface) (sound : AllByRecursion IsSoundInterface is) where
  pub all_declared : AllByRecursion IsSoundlyDeclared is
  all_declared = all_with IsSoundInterface IsSoundlyDeclared (λ i s. s.declared) is sound

  declarations : AllByRecursion HasDeclaration is
  declarations = all_with IsSoundInterface HasDeclaration (λ i s. s.declaration) is sound

  pub all_typed_so : AllByRecursion IsTyped is
  all_typed_so = all_with IsSoundInterface IsTyped (λ i s. s.typed) is sound

  all_own : AllByRecursion InterfaceIsIdentified is
  all_own = all_with IsSoundInterface InterfaceIsIdentified own is sound

  pub set_spelled : Spells (set_text is) (set_value is)
  set_spelled = print_spells_before (set_value is) (10 ∷ []) (set_prints is all_declared) newline_is_space
      (set_nests is all_typed_so (all_with IsSoundInterface IsWithinLimits (λ i s. s.limits) is sound)) (set_distinct is declarations)

pub one_set_text : OneValue → (is js : List Interface) → AllByRecursion IsSoundInterface is → AllByRecursion IsSoundInterface js
    → AreDistinct (map (λ i. i.id) is) → AreDistinct (map (λ j. j.id) js) → (set_text is ≡ set_text js) ↔ SameElements DeclareTheSame is js
one_set_text one is js sound sounds ids others = (
  λ same. set_told is js (all_own is sound) (all_own js sounds)
      (one (set_text is) (set_value is) (set_value js) (set_spelled is sound) (subst (λ (bytes : List ℕ). Spells bytes (set_value js)) (sym same) (set_spelled js sounds))),
  λ same. ap (λ (v : Json). printed v ++ 10 ∷ []) (set_same is js (declarations is sound) (declarations js sounds) (all_own is sound) (all_own js sounds) ids others same),
)

-- whatever the text declares has this text
pub same_bytes : OneValue → (is : List Interface) → AllByRecursion IsSoundInterface is → (v : Json) (nth : ℕ) (us : List Uploaded) → Spells (set_text is) v → AreUploaded v nth us
    → set_text (map (λ u. u.interface) us) ≡ set_text is
same_bytes one is sound v nth us spelled uploaded =
    let same = one (set_text is) v (set_value is) spelled (set_spelled is sound) in
    ap (λ (w : Json). printed w ++ 10 ∷ []) (set_back is nth us (all_typed_so is sound) (subst (λ (w : Json). AreUploaded w nth us) same uploaded))
