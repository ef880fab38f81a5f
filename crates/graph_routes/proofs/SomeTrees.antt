-- A value that some text spells is that of a tree.
use Rattle.std.proofs.Common.{◌≡◌, ℕ, ◌/◌, ◌%◌, ◌^◌, ◌<◌, Bool, false, true, pos, List, [], ◌∷◌, Some, bytes_eq, refl, sym, ap, ap₂, subst, ◌∙◌}
use Rattle.std.specs.Prelude.{if◌then◌else◌}
use Rattle.std.proofs.lemmas.Nat.{div-add-mod'}
use Rattle.json_decimal.specs.Number.{Number}
use Rattle.json_decimal.specs.Halves.{joined_halves}
use Rattle.json_decimal.specs.Decimals.{number_of}
use Rattle.json_decimal.specs.Printing.{text_of}
use Rattle.json_decimal.specs.declared.decimal.Decimal.{Decimal}
use Rattle.json_decimal.proofs.ReadsBack.{IsDecimal}
use Rattle.json_decimal.proofs.Literals.{literal_decimal}
use Rattle.json_tree.specs.Values.{Json, null, truth, number, text, array, object, Elements, no_elements, element, Members, no_members, member}
use Rattle.json_tree.specs.View.{view, elements_view, members_view}
use Rattle.json_tree.specs.declared.tree.Tree.{Tree}
use Rattle.json_tree.specs.declared.tree.Tree as variants
use Rattle.json_tree.specs.declared.tree.Member.{Member}
use Rattle.json_tree.specs.Machinery.Pieces.{IsOfTree, AreOfTrees, MembersAreOfTrees}
use Rattle.json_tree.proofs.Views.{view-Null, view-Bool, view-Number, view-Text, view-List, view-Members}
use Rattle.twin_patch.specs.Objects.{value_under}
use Rattle.twin_patch.specs.Reading.{HasUnderKey}

-- ---- numbers
decimal_there : (n : Number) → IsDecimal n → (d : Decimal) × (number_of d ≡ n)
decimal_there n is =
    let c : ℕ = n.coefficient in
    let whole : joined_halves (c / 2 ^ 64) (c % 2 ^ 64) ≡ c = div-add-mod' c (2 ^ 64) in
    let back : c ≡ joined_halves (c / 2 ^ 64) (c % 2 ^ 64) = sym whole in (
      record {
        high = c / 2 ^ 64;
        low = c % 2 ^ 64;
        exponent = n.exponent;
        negative = n.negative;
        bounded = subst (λ (k : ℕ). k < 10 ^ 38) back is.bounded;
        trimmed = subst (λ (k : ℕ). k % 10 ≡ 0 → k ≡ 0) back is.trimmed;
        least = is.low;
        most = is.high;
        zero = subst (λ (k : ℕ). k ≡ 0 → (n.negative ≡ false) × (n.exponent ≡ pos 0)) back is.zero;
      },
      ap (λ (k : ℕ). record { negative = n.negative; coefficient = k; exponent = n.exponent }) whole,
    )

-- ---- values
abbrev pub OfTree : Json → Type 0
OfTree v = (tree : Tree) × (view tree ≡ v)

abbrev OfTrees : Elements Number → Type 0
OfTrees vs = (trees : List Tree) × (elements_view trees ≡ vs)

abbrev OfMembers : Members Number → Type 0
OfMembers ms = (members : List Member) × (members_view members ≡ ms)

mutual
  pub tree_there : (v : Json) → IsOfTree v → OfTree v
  tree_there null is = (variants.Null, view-Null)
  tree_there (truth b) is = (variants.Bool b, view-Bool b)
  tree_there (number n) is =
      let d = decimal_there n (literal_decimal (text_of n) n is.0 is.1.low is.1.high) in
      (variants.Number d.0, view-Number d.0 ∙ ap (λ (x : Number). number x) d.1)
  tree_there (text bytes) is = (variants.Text bytes, view-Text bytes)
  tree_there (array vs) is =
      let ts = trees_there vs is in
      (variants.List ts.0, view-List ts.0 ∙ ap (λ (us : Elements Number). array us) ts.1)
  tree_there (object ms) is =
      let ns = members_there ms is in
      (variants.Members ns.0, view-Members ns.0 ∙ ap (λ (us : Members Number). object us) ns.1)

  trees_there : (vs : Elements Number) → AreOfTrees vs → OfTrees vs
  trees_there no_elements are = ([], refl)
  trees_there (element v vs) are =
      let t = tree_there v are.0 in
      let ts = trees_there vs are.1 in
      (t.0 ∷ ts.0, ap₂ (λ (w : Json) (ws : Elements Number). element w ws) t.1 ts.1)

  members_there : (ms : Members Number) → MembersAreOfTrees ms → OfMembers ms
  members_there no_members are = ([], refl)
  members_there (member key v ms) are =
      let t = tree_there v are.1 in
      let ns = members_there ms are.2 in
      (record { key = key; value = t.0 } ∷ ns.0, ap₂ (λ (w : Json) (ws : Members Number). member key w ws) t.1 ns.1)

-- ---- the value under a key
under_test : (b : Bool) (key : List ℕ) (v w : Json) (ms : Members Number) → (if b then Some v else value_under key ms) ≡ Some w → IsOfTree v
    → (value_under key ms ≡ Some w → IsOfTree w) → IsOfTree w
under_test true key v w ms e here later = let same : v ≡ w = cc in subst IsOfTree same here
under_test false key v w ms e here later = later e

member_tree : (key : List ℕ) (ms : Members Number) (w : Json) → MembersAreOfTrees ms → value_under key ms ≡ Some w → IsOfTree w
member_tree key no_members w are e = absurd cc
member_tree key (member k v ms) w are e = under_test (bytes_eq k key) key v w ms e are.1 (member_tree key ms w are.2)

pub under_tree : (v : Json) (key : List ℕ) (w : Json) → IsOfTree v → HasUnderKey v key w → IsOfTree w
under_tree null key w is h = absurd h
under_tree (truth b) key w is h = absurd h
under_tree (number n) key w is h = absurd h
under_tree (text bytes) key w is h = absurd h
under_tree (array vs) key w is h = absurd h
under_tree (object ms) key w is h = member_tree key ms w is h
