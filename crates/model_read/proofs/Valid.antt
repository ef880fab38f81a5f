-- In a value in which no rule is broken, none is broken in its parts; and what a leaf is by that.
use Rattle.std.proofs.Common.{◌≡◌, ◌≢◌, ℕ, List, [], ◌∷◌, true, Option, Some, None, option_and_then, refl, sym, ap, subst, ◌∙◌}
use Rattle.std.specs.Prelude.{Contains}
use Rattle.std.proofs.lemmas.Bool.{true_from_ne_false}
use Rattle.json_decimal.specs.Number.{Number}
use Rattle.json_tree.specs.Values.{Json, array, object, Elements, Members}
use Rattle.json_tree.specs.Places.{IsPart, element_at, member_at}
use Rattle.json_tree.specs.Members.{value_at}
use Rattle.local_rules.specs.Tables.{key_text, required}
use Rattle.local_rules.specs.Roles.{element_member, element_of, entry_role, key_of, key_role, member_role, part_role, role_of_key}
use Rattle.local_rules.specs.Kinds.{LacksKeyOf, kind_of, is_of_kind, needed_keys}
use Rattle.local_rules.specs.Breaches.{BreaksAlone}
use Rattle.local_rules.specs.declared.key.Key.{Key}
use Rattle.local_rules.specs.declared.rule.LocalRule.{LocalRule}
use Rattle.local_rules.specs.declared.rule.LocalRule.TheVariants as rule
use Rattle.local_rules.specs.declared.role.Element.{Element}
use Rattle.local_rules.specs.declared.role.Role.{Role}
use Rattle.json_tree.proofs.Keyed.{position_of_key}
use Rattle.local_rules.proofs.Wanted.{lacks_needed}
use Rattle.model_read.specs.Machinery.Shapes.{IsValid}

-- ---- at the value itself
pub here : (r : Role) (v : Json) (broken : LocalRule) → IsValid r v → BreaksAlone broken r v → ⊥
here r v broken valid breaks = valid.alone [] r v (refl, refl) broken breaks

pub of_kind : (r : Role) (v : Json) → IsValid r v → is_of_kind (kind_of r) v ≡ true
of_kind r v valid = true_from_ne_false (is_of_kind (kind_of r) v) (λ wrong. here r v rule.WrongKind valid wrong)

-- ---- in its parts
-- a part of a valid value is valid in the role that it has there
pub part_valid : (r : Role) (v : Json) (i : ℕ) (s : Role) (part : Json) → IsPart v i part → part_role r v i ≡ Some s → IsValid r v → IsValid s part
part_valid r v i s part is_part stands valid = record {
  alone = λ place q w there. valid.alone (i ∷ place) q w (s, part, is_part, stands, there);
  named = λ place q w there. valid.named (i ∷ place) q w (s, part, is_part, stands, there);
}

-- the member at a position, in the role of its key
pub placed_valid : (r : Role) (ms : Members Number) (i : ℕ) (s : Role) (key : List ℕ) (v : Json) → member_at ms i ≡ Some (key, v) → member_role r ms key ≡ Some s
    → IsValid r (object ms) → IsValid s v
placed_valid r ms i s key v at stands valid =
    part_valid r (object ms) i s v (key, at) (ap (λ (o : Option (List ℕ × Json)). option_and_then (λ m. member_role r ms m.0) o) at ∙ stands) valid

-- the value under a key, in the role of the key
pub keyed_valid : (r : Role) (ms : Members Number) (s : Role) (key : List ℕ) (v : Json) → value_at key ms ≡ Some v → member_role r ms key ≡ Some s
    → IsValid r (object ms) → IsValid s v
keyed_valid r ms s key v at stands valid = let p = position_of_key key ms v at in placed_valid r ms p.0 s key v p.1 stands valid

-- the value under a key of an element
pub member_valid : (r : Role) (ms : Members Number) (e : Element) (k : Key) (key : List ℕ) (v : Json) → element_of r ms ≡ Some e → key_of e key ≡ Some k
    → value_at key ms ≡ Some v → IsValid r (object ms) → IsValid (key_role r e ms k) v
member_valid r ms e k key v element known at valid = keyed_valid r ms (key_role r e ms k) key v at
    (ap (λ (o : Option Element). element_member r ms o key) element ∙ ap (λ (o : Option Key). Some (role_of_key r e ms o)) known) valid

-- an element has each key that it must have
pub has_key : (r : Role) (ms : Members Number) (e : Element) (k : Key) → element_of r ms ≡ Some e → Contains (required e) k → IsValid r (object ms)
    → value_at (key_text k) ms ≢ None
has_key r ms e k element needed valid none = here r (object ms) rule.MissingKey valid
    (subst (λ (o : Option Element). LacksKeyOf (needed_keys r o) ms) (sym element) (lacks_needed r e ms (k, needed, none)))

-- the entry of a list
pub entry_valid : (r : Role) (vs : Elements Number) (i : ℕ) (s : Role) (v : Json) → entry_role r ≡ Some s → element_at vs i ≡ Some v
    → IsValid r (array vs) → IsValid s v
entry_valid r vs i s v entry at valid = part_valid r (array vs) i s v at entry valid
