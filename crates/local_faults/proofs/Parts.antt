-- Parts of trees, by their positions, and their roles.
use Rattle.std.proofs.Common.{◌≡◌, ℕ, zero, suc, ◌<◌, List, [], ◌∷◌, length, map, Option, Some, option_and_then, sym, ap, subst, ◌∙◌, arith}
use Rattle.json_decimal.specs.Number.{Number}
use Rattle.json_tree.specs.Values.{Json, text, array, object, Elements, Members}
use Rattle.json_tree.specs.Places.{IsPart, member_at}
use Rattle.json_tree.specs.View.{view, elements_view, members_view}
use Rattle.json_tree.specs.declared.tree.Tree.{Tree}
use Rattle.json_tree.specs.declared.tree.Member.{Member}
use Rattle.std.specs.Option.{option_map, option_map_or}
use Rattle.local_rules.specs.Roles.{element_of, element_member, entry_role}
use Rattle.local_rules.specs.Machinery.Marks.{entry_mark, member_mark, part_marked}
use Rattle.local_rules.specs.declared.marks.Mark.TheVariants as marks
use Rattle.local_rules.specs.declared.marks.MarkedRole.{MarkedRole}
use Rattle.local_rules.specs.declared.role.Element.{Element}
use Rattle.local_rules.specs.declared.role.Role.{Role}
use Rattle.json_tree.proofs.Views.{list_of-elements_of}

pub item_within : (items : List Tree) (i : ℕ) (part : Json) → IsPart (array (elements_view items)) i part → i < length items
item_within [] i part e = absurd cc
item_within (t ∷ items) zero part e = omega arith
item_within (t ∷ items) (suc i) part e = let h = item_within items i part e in omega (arith, h)

value_within : (ms : List Member) (i : ℕ) (m : _) → member_at (members_view ms) i ≡ Some m → i < length ms
value_within [] i m e = absurd cc
value_within (n ∷ ms) zero m e = omega arith
value_within (n ∷ ms) (suc i) m e = let h = value_within ms i m e in omega (arith, h)

pub member_within : (ms : List Member) (i : ℕ) (part : Json) → IsPart (object (members_view ms)) i part → i < length ms
member_within ms i part p = value_within ms i (p.0, part) p.1

-- ---- their marked roles
pub member_is_marked : (r : MarkedRole) (ms : Members Number) (i : ℕ) (key : List ℕ) (part : Json) (e : Option Element) (word : List ℕ) (s : Option MarkedRole)
    → member_at ms i ≡ Some (key, part) → e ≡ element_of r.role ms → word ≡ key
    → s ≡ option_map (λ q. record { role = q; mark = member_mark r.role r.mark word }) (element_member r.role ms e word) → part_marked r (object ms) i ≡ s
member_is_marked r ms i key part e word s p element same found =
    let Found : Option Element → List ℕ → Option MarkedRole = λ o k. option_map (λ (q : Role). record { role = q; mark = member_mark r.role r.mark k }) (element_member r.role ms o k) in
    ap (λ (o : Option (List ℕ × Json)). option_map (λ (q : Role). record { role = q; mark = option_map_or (λ m. member_mark r.role r.mark m.0) o marks.Plain })
    (option_and_then (λ m. element_member r.role ms (element_of r.role ms) m.0) o)) p
    ∙ sym (found ∙ (ap (λ (o : Option Element). Found o word) element ∙ ap (λ (k : List ℕ). Found (element_of r.role ms) k) same))

pub entry_is_marked : (r : MarkedRole) (items : List Tree) (i : ℕ) (s : Option MarkedRole) (q : Role) (others : List Tree) → q ≡ r.role → others ≡ items
    → s ≡ option_map (λ x. record { role = x; mark = entry_mark q (map view others) i }) (entry_role q) → part_marked r (array (elements_view items)) i ≡ s
entry_is_marked r items i s q others same entries found =
    let Found : Role → List Json → Option MarkedRole = λ p vs. option_map (λ (x : Role). record { role = x; mark = entry_mark p vs i }) (entry_role p) in
    ap (λ (vs : List Json). Found r.role vs) (list_of-elements_of (map view items))
    ∙ sym (found ∙ (ap (λ (x : Role). Found x (map view others)) same ∙ ap (λ (es : List Tree). Found r.role (map view es)) entries))

-- ---- leaves, and what is none
pub no_text_array : (vs : Elements Number) (bytes : List ℕ) → array vs ≡ text bytes → ⊥
no_text_array vs bytes e = absurd cc

pub no_text_object : (ms : Members Number) (bytes : List ℕ) → object ms ≡ text bytes → ⊥
no_text_object ms bytes e = absurd cc

pub leaf_of : (v w : Json) → v ≡ w → ((i : ℕ) (part : Json) → IsPart w i part → ⊥) → (i : ℕ) (part : Json) → IsPart v i part → ⊥
leaf_of v w e leaf i part p = leaf i part (subst (λ (x : Json). IsPart x i part) e p)
