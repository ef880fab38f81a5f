-- A tree, level by level.
use Rattle.std.proofs.Common.{◌≡◌, ℕ, List, [], ◌∷◌, Bool, refl, ap, rules}
use Rattle.json_decimal.specs.declared.decimal.Decimal.{Decimal}
use Rattle.json_decimal.specs.Decimals.{number_of}
use Rattle.json_tree.specs.Members.{list_of}
use Rattle.json_tree.specs.Values.{Value, null, truth, number, text, array, object, elements_of}
use Rattle.json_tree.specs.View.{view, elements_view, members_view}
use Rattle.json_tree.specs.declared.tree.Tree.{Tree, the_lemmas}
use Rattle.json_tree.specs.declared.tree.Tree as variants
use Rattle.json_tree.specs.declared.tree.Member.{Member}

pub view-Null : view variants.Null ≡ null
view-Null = search (rules, the_lemmas)

pub view-Bool : (b : Bool) → view (variants.Bool b) ≡ truth b
view-Bool b = search (rules, the_lemmas)

pub view-Number : (d : Decimal) → view (variants.Number d) ≡ number (number_of d)
view-Number d = search (rules, the_lemmas)

pub view-Text : (bytes : List ℕ) → view (variants.Text bytes) ≡ text bytes
view-Text bytes = search (rules, the_lemmas)

pub view-List : (trees : List Tree) → view (variants.List trees) ≡ array (elements_view trees)
view-List trees = search (rules, the_lemmas)

pub view-Members : (members : List Member) → view (variants.Members members) ≡ object (members_view members)
view-Members members = search (rules, the_lemmas)

pub list_of-elements_of : {N : Type 0} (vs : List (Value N)) → list_of (elements_of vs) ≡ vs
list_of-elements_of [] = refl
list_of-elements_of (v ∷ vs) = ap (λ us. v ∷ us) (list_of-elements_of vs)

pub ruleset views = (view-Null, view-Bool, view-Number, view-Text, view-List, view-Members)

pub ruleset lists = (list_of-elements_of)
