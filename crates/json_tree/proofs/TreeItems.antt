-- The parts of a tree by their positions.
use Rattle.std.proofs.Common.{◌≡◌, ℕ, ◌<◌, List, ◌∷◌, ◌++◌, length, get_or, decimal, refl, sym, ap, ◌∙◌, subst, append_assoc}
use Rattle.std.proofs.Common.{Result, Ok, Err}
use Rattle.std.specs.Prelude.{OnOk}
use Rattle.json_tree.specs.Values.{Json, array, object}
use Rattle.json_tree.specs.View.{view, elements_view, members_view}
use Rattle.json_tree.specs.Places.{IsPart, StandsAt}
use Rattle.json_tree.specs.Pointers.{token_text, pointer_text, HasToken, AreReferenceTokens}
use Rattle.json_tree.specs.declared.tree.Tree.{Tree}
use Rattle.json_tree.specs.declared.tree.Tree as variants
use Rattle.json_tree.specs.declared.tree.Member.{Member}
use Rattle.json_tree.proofs.Views.{view-List, view-Members}
use Rattle.json_tree.proofs.Parts.{item_part, member_part, item_within, value_within}
use Rattle.json_tree.proofs.Tied.{same_part}

-- a part that is there has a position below the length
pub list_within : (tree : Tree) (items : List Tree) (i : ℕ) → tree ≡ variants.List items → ((part : Json) × IsPart (view tree) i part) → i < length items
list_within tree items i is h =
    let there : (part : Json) × IsPart (array (elements_view items)) i part = subst (λ v. (part : Json) × IsPart v i part) (ap view is ∙ view-List items) h in
    item_within items i there.0 there.1

pub object_within : (tree : Tree) (members : List Member) (i : ℕ) → tree ≡ variants.Members members → ((part : Json) × IsPart (view tree) i part) → i < length members
object_within tree members i is h =
    let there : (part : Json) × IsPart (object (members_view members)) i part = subst (λ v. (part : Json) × IsPart v i part) (ap view is ∙ view-Members members) h in
    value_within members i (there.1.0, there.0) there.1.1

-- the token of an item, and of a member
pub item_token : (tree : Tree) (items : List Tree) (i : ℕ) (item : Tree) → tree ≡ variants.List items → i < length items → item ≡ get_or items i item
    → HasToken (view tree) i (decimal i) (view item)
item_token tree items i item is lt at =
    let there : HasToken (array (elements_view items)) i (decimal i) (view item) = (item_part items i item lt at, refl) in
    subst (λ v. HasToken v i (decimal i) (view item)) (sym (ap view is ∙ view-List items)) there

pub member_token : (tree : Tree) (members : List Member) (i : ℕ) (m : Member) → tree ≡ variants.Members members → i < length members → m ≡ get_or members i m
    → HasToken (view tree) i m.key (view m.value)
member_token tree members i m is lt at =
    let there : HasToken (object (members_view members)) i m.key (view m.value) = member_part members i m lt at in
    subst (λ v. HasToken v i m.key (view m.value)) (sym (ap view is ∙ view-Members members)) there

-- what stands at the rest of a place, below the first step
pub stands_below : (v : Json) (place : List ℕ) (i : ℕ) (rest token : List ℕ) (part : Json) → place ≡ i ∷ rest → HasToken v i token part
    → ((w : Json) × StandsAt v place w) → (w : Json) × StandsAt part rest w
stands_below v place i rest token part split has h =
    let g : (w : Json) × StandsAt v (i ∷ rest) w = subst (λ p. (w : Json) × StandsAt v p w) split h in
    let same : part ≡ g.1.0 = same_part v i token part g.1.0 has g.1.1 in
    (g.0, subst (λ (p : Json). StandsAt p rest g.0) (sym same) g.1.2)

-- the tokens with one more in front
pub tokens_before : (v : Json) (place : List ℕ) (i : ℕ) (rest token : List ℕ) (part : Json) (old mid new : List ℕ) → place ≡ i ∷ rest → HasToken v i token part
    → mid ≡ old ++ 47 ∷ token_text token → ((tokens : List (List ℕ)) × AreReferenceTokens part rest tokens × (new ≡ mid ++ pointer_text tokens))
    → (tokens : List (List ℕ)) × AreReferenceTokens v place tokens × (new ≡ old ++ pointer_text tokens)
tokens_before v place i rest token part old mid new split has first more = (
  token ∷ more.0,
  subst (λ p. AreReferenceTokens v p (token ∷ more.0)) (sym split) (token, part, more.0, has, more.1, refl),
  more.2 ∙ ap (λ m. m ++ pointer_text more.0) first ∙ append_assoc old (47 ∷ token_text token) (pointer_text more.0),
)

-- what follows from a fact where the answer is Ok
pub on_ok : {X E : Type 0} {A B : Type 0} (r : Result X E) → (A → B) → OnOk r A → OnOk r B
on_ok (Ok x) f h = f h
on_ok (Err e) f h = tt
