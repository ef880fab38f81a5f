-- Sets of interfaces, and their canonical trees.
use Rattle.std.proofs.Common.{◌≡◌, ◌≢◌, List, [], ◌∷◌, map}
use Rattle.std.specs.List.{AllByRecursion}
use Rattle.dt_base.specs.names.Grammar.{dtmi_text}
use Rattle.dtdl_terms.specs.Distinct.{AreDistinct, HasDeclaration}
use Rattle.dtdl_terms.specs.Equality.{SameElements, DeclareTheSame}
use Rattle.dtdl_terms.specs.declared.interface.Interface.{Interface}
use Rattle.canon_text.specs.Canonical.{interface_pair, set_value}
use Rattle.canon_text.specs.Identified.{InterfaceIsIdentified}
use Rattle.canon_text.specs.Machinery.Pairs.{pair_name}
use Rattle.canon_text.proofs.Told.{all_with}
use Rattle.canon_text.proofs.Elements.{Gives, all_both, same_mapped, names_mapped, same_list}
use Rattle.canon_text.proofs.SameTrees.{one_id, interface_same}
use Rattle.canon_text.proofs.ToldTrees.{Tells, elements_told, interface_told}

abbrev HasBoth : Interface → Type 0
HasBoth i = HasDeclaration i × InterfaceIsIdentified i

both : (is : List Interface) → AllByRecursion HasDeclaration is → AllByRecursion InterfaceIsIdentified is → AllByRecursion HasBoth is
both is declared own = all_both HasDeclaration InterfaceIsIdentified HasBoth (λ i d h. (d, h)) is declared own

names_distinct : (is : List Interface) → AllByRecursion InterfaceIsIdentified is → AreDistinct (map (λ i. i.id) is) → AreDistinct (map (λ i. pair_name (interface_pair i)) is)
names_distinct [] own distinct = tt
names_distinct (i ∷ is) own distinct = (later is own.1 distinct.0, names_distinct is own.1 distinct.1)
  where
    later : (js : List Interface) → AllByRecursion InterfaceIsIdentified js → AllByRecursion (λ k. i.id ≢ k) (map (λ j. j.id) js)
        → AllByRecursion (λ k. dtmi_text i.id ≢ k) (map (λ j. pair_name (interface_pair j)) js)
    later [] owns distincts = tt
    later (j ∷ js) owns distincts = ((λ same. distincts.0 (one_id i.id j.id own.0.id owns.0.id same)), later js owns.1 distincts.1)

pub set_told : (is js : List Interface) → AllByRecursion InterfaceIsIdentified is → AllByRecursion InterfaceIsIdentified js → set_value is ≡ set_value js
    → SameElements DeclareTheSame is js
set_told is js own owns e =
    elements_told interface_pair InterfaceIsIdentified DeclareTheSame is js
    (all_with InterfaceIsIdentified (Tells interface_pair InterfaceIsIdentified DeclareTheSame) (λ i h j g same. interface_told i j h g same) is own) owns e

pub set_same : (is js : List Interface) → AllByRecursion HasDeclaration is → AllByRecursion HasDeclaration js → AllByRecursion InterfaceIsIdentified is
    → AllByRecursion InterfaceIsIdentified js → AreDistinct (map (λ i. i.id) is) → AreDistinct (map (λ j. j.id) js) → SameElements DeclareTheSame is js
    → set_value is ≡ set_value js
set_same is js declared declares own owns first second same =
    same_list (map interface_pair is) (map interface_pair js) (names_mapped interface_pair is (names_distinct is own first)) (names_mapped interface_pair js (names_distinct js owns second))
    (same_mapped interface_pair HasBoth DeclareTheSame is js
    (all_with HasBoth (Gives interface_pair HasBoth DeclareTheSame) pair_same is (both is declared own)) (both js declares owns) same)
  where
    pair_same : (i : Interface) → HasBoth i → Gives interface_pair HasBoth DeclareTheSame i
    pair_same i h j g s =
        let value = interface_same i j h.0 g.0 h.1 g.1 s in
        λ k. (dtmi_text (s.id k), value k)
