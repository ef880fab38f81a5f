-- A document that breaks no rule: its interfaces.
use Rattle.std.proofs.Common.{◌≡◌, ℕ, ◌⊎◌, inl, inr, List, [], ◌∷◌, Bool, Option, Some, None, refl, sym, ap, subst, ◌∙◌}
use Rattle.std.specs.Prelude.{codes, option_and_then}
use Rattle.json_decimal.specs.Number.{Number}
use Rattle.json_tree.specs.Values.{Json, null, truth, number, text, array, object, Members}
use Rattle.json_tree.specs.Places.{IsPart}
use Rattle.json_tree.specs.Members.{members_in, value_at, value_in}
use Rattle.local_rules.specs.Roles.{HasRole, element_member, id_role, key_of, member_role, part_role, role_of_key, type_in, type_of}
use Rattle.local_rules.specs.Kinds.{LacksKeyOf, needed_keys}
use Rattle.local_rules.specs.Identifiers.{OfText}
use Rattle.local_rules.specs.Levels.{IsPrimitiveName, has_id, schema_named}
use Rattle.local_rules.specs.Breaches.{BreaksAlone, BreaksNoLocalRule, IsBreach, IsBroken}
use Rattle.local_rules.specs.declared.key.Key.TheVariants as key
use Rattle.local_rules.specs.declared.rule.LocalRule.{LocalRule}
use Rattle.local_rules.specs.declared.rule.LocalRule.TheVariants as rule
use Rattle.local_rules.specs.declared.role.Element.{Element}
use Rattle.local_rules.specs.declared.role.Element.TheVariants as element_kind
use Rattle.local_rules.specs.declared.role.Position.TheVariants as position
use Rattle.local_rules.specs.declared.role.Role.{Role}
use Rattle.local_rules.specs.declared.role.Role.TheVariants as role
use Rattle.local_rules.specs.declared.role.SchemaUse.{SchemaUse}
use Rattle.json_decimal.specs.Decimals.{number_of}
use Rattle.json_decimal.specs.declared.decimal.Decimal.{Decimal}
use Rattle.json_tree.specs.View.{view, elements_view, members_view}
use Rattle.json_tree.proofs.Views.{view-Null, view-Bool, view-Number, view-Text}
use Rattle.json_tree.specs.declared.tree.Tree.{Tree}
use Rattle.json_tree.specs.declared.tree.Tree as variants
use Rattle.json_tree.specs.declared.tree.Member.{Member}
use Rattle.json_tree.proofs.Keyed.{position_of_key}
use Rattle.local_rules.proofs.Named.{found_under, id_is}
use Rattle.local_rules.proofs.Wanted.{lacks_first}
use Rattle.model_read.specs.Machinery.Shapes.{CanBeId, EachIs, IsValid, IsValidInterface, NamesSchema}
use Rattle.model_read.proofs.Leaves.{element_id, interface_id}
use Rattle.model_read.proofs.Seen.{seen_list, seen_members}

-- ---- values in which no rule is broken that a role and a value alone decide
abbrev BreaksNone : Role → Json → Type 0
BreaksNone r v = (place : List ℕ) (q : Role) (w : Json) → HasRole r v place q w → (broken : LocalRule) → BreaksAlone broken q w → ⊥

none_here : (r : Role) (v : Json) (broken : LocalRule) → BreaksNone r v → BreaksAlone broken r v → ⊥
none_here r v broken none breaks = none [] r v (refl, refl) broken breaks

-- none is broken in their parts
none_in_part : (r s : Role) (v part : Json) (i : ℕ) → IsPart v i part → part_role r v i ≡ Some s → BreaksNone r v → BreaksNone s part
none_in_part r s v part i is stands none = λ place q w there. none (i ∷ place) q w (s, part, is, stands, there)

none_under_key : (r s : Role) (v part : Json) (key : List ℕ) → value_in key v ≡ Some part → member_role r (members_in v) key ≡ Some s
    → BreaksNone r v → BreaksNone s part
none_under_key r s (object ms) part key at stands none =
    let p = position_of_key key ms part at in
    none_in_part r s (object ms) part p.0 (key, p.1) (ap (λ (o : Option (List ℕ × Json)). option_and_then (λ m. member_role r ms m.0) o) p.1 ∙ stands) none
none_under_key r s other part key at stands none = absurd cc

-- ---- the `@id` of an entry of `schemas` can be an identifier
-- a text has no parts
text_valid : (r : Role) (bytes : List ℕ) → ((part : SchemaUse) → r ≡ role.Schema part → ⊥) → BreaksNone r (text bytes) → IsValid r (text bytes)
text_valid r bytes plain none = record { alone = none; named = named }
  where
    named : (place : List ℕ) (q : Role) (w : Json) → HasRole r (text bytes) place q w → NamesSchema q w
    named [] q w there = λ part other is. absurd (plain part (there.0 ∙ is))
    named (i ∷ place) q w there = absurd there.2

id_can_be : (e : Element) (bytes : List ℕ) → BreaksNone (id_role e) (text bytes) → CanBeId (text bytes)
id_can_be element_kind.Interface bytes none = interface_id (text bytes) (text_valid role.InterfaceId bytes (λ part is. cc) none)
id_can_be other bytes none = element_id (text bytes) (text_valid role.ElementId bytes (λ part is. cc) none)

id_known : (e : Element) → key_of e (codes "@id") ≡ Some key.Id
id_known element_kind.Interface = refl
id_known other = refl

-- an entry of `schemas` has an `@type`, which names one
untyped : (ms : Members Number) (o : Option Json) → value_at (codes "@type") ms ≡ o → type_of position.Schema ms ≡ None
    → BreaksNone role.NamedSchema (object ms) → ⊥
untyped ms None at type none =
    let lacks : LacksKeyOf (key.Type ∷ []) ms = lacks_first key.Type [] ms at in
    none_here role.NamedSchema (object ms) rule.MissingKey none (subst (λ (o : Option Element). LacksKeyOf (needed_keys role.NamedSchema o) ms) (sym type) lacks)
untyped ms (Some v) at type none =
    let stands : member_role role.NamedSchema ms (codes "@type") ≡ Some (role.Type position.Schema) =
    ap (λ (o : Option Element). element_member role.NamedSchema ms o (codes "@type")) type in
    let nothing : type_in position.Schema v ≡ None = ap (option_and_then (type_in position.Schema)) (sym at) ∙ type in
    let none_there = none_under_key role.NamedSchema (role.Type position.Schema) (object ms) v (codes "@type") at stands none in
    none_here (role.Type position.Schema) v rule.BadType none_there (position.Schema, refl, nothing)

typed_can_be : (ms : Members Number) (bytes : List ℕ) (o : Option Element) → value_at (codes "@id") ms ≡ Some (text bytes)
    → type_of position.Schema ms ≡ o → BreaksNone role.NamedSchema (object ms) → CanBeId (text bytes)
typed_can_be ms bytes None at type none = absurd (untyped ms (value_at (codes "@type") ms) refl type none)
typed_can_be ms bytes (Some e) at type none =
    let stands : member_role role.NamedSchema ms (codes "@id") ≡ Some (id_role e) =
    ap (λ (o : Option Element). element_member role.NamedSchema ms o (codes "@id")) type
    ∙ ap (λ k. Some (role_of_key role.NamedSchema e ms k)) (id_known e) in
    id_can_be e bytes (none_under_key role.NamedSchema (id_role e) (object ms) (text bytes) (codes "@id") at stands none)

entry_can_be : (v : Json) (bytes : List ℕ) → value_in (codes "@id") v ≡ Some (text bytes) → BreaksNone role.NamedSchema v → CanBeId (text bytes)
entry_can_be (object ms) bytes at none = typed_can_be ms bytes (type_of position.Schema ms) at refl none
entry_can_be other bytes at none = absurd cc

-- the `@id` of a named schema can be an identifier
named_can_be : (v : Json) (bytes : List ℕ) (o : Option Json) → schema_named (members_in v) bytes ≡ o → (o ≡ None → ⊥)
    → BreaksNone role.Interface v → CanBeId (text bytes)
named_can_be v bytes None found some none = absurd (some refl)
named_can_be v bytes (Some entry) found some none =
    let (vs, list, (i, at, same)) = found_under (has_id bytes) (value_in (codes "schemas") v) entry found in
    let in_list = none_under_key role.Interface role.Schemas v (array vs) (codes "schemas") list refl none in
    let in_entry = none_in_part role.Schemas role.NamedSchema (array vs) entry i at refl in_list in
    entry_can_be entry bytes (id_is bytes (value_in (codes "@id") entry) same) in_entry

-- ---- interfaces and documents
pub interface : (v : Json) → ((place : List ℕ) (broken : LocalRule) → IsBroken v place broken → ⊥) → IsValidInterface v
interface v none = record { alone = alone; named = named }
  where
    alone : BreaksNone role.Interface v
    alone place q w there broken breaks = none place broken (q, w, there, inl breaks)

    named : (place : List ℕ) (q : Role) (w : Json) → HasRole role.Interface v place q w → NamesSchema q w
    named place q w there part bytes is same other =
        let Unknown : List ℕ → Type 0 = λ t. (IsPrimitiveName t → ⊥) × (schema_named (members_in v) t ≡ None) in
        let known = λ (lacks : schema_named (members_in v) bytes ≡ None).
        none place rule.UnknownSchema (q, w, there, inr (inr (inl (part, is, subst (OfText Unknown) (sym same) (other, lacks))))) in
        subst CanBeId (sym same) (named_can_be v bytes (schema_named (members_in v) bytes) refl known alone)

-- which is an interface
pub one_interface : (t : Tree) (ms slice : List Member) → t ≡ variants.Members ms → slice ≡ ms → BreaksNoLocalRule (view t) → IsValidInterface (object (members_view slice))
one_interface t ms slice is same none =
    interface (object (members_view slice)) (subst BreaksNoLocalRule (seen_members t ms slice is same) none)

-- or a list of interfaces
pub each_interface : (t : Tree) (ts slice : List Tree) → t ≡ variants.List ts → slice ≡ ts → BreaksNoLocalRule (view t) → EachIs IsValidInterface (elements_view slice)
each_interface t ts slice is same none = λ i v at.
    interface v (λ place broken breaks. subst BreaksNoLocalRule (seen_list t ts slice is same) none (i ∷ place) broken (v, at, breaks))

-- and nothing else
wrong_kind : (t : Tree) (v : Json) → view t ≡ v → IsBreach v [] rule.WrongKind → BreaksNoLocalRule (view t) → ⊥
wrong_kind t v is breaks none = subst BreaksNoLocalRule is none [] rule.WrongKind breaks

pub no_document : (t : Tree) → (t ≡ variants.Null) ⊎ ((b : Bool) × (t ≡ variants.Bool b)) ⊎ ((d : Decimal) × (t ≡ variants.Number d)) ⊎ ((bytes : List ℕ) × (t ≡ variants.Text bytes))
    → BreaksNoLocalRule (view t) → ⊥
no_document t (inl e) none = wrong_kind t null (ap view e ∙ view-Null) (refl, refl) none
no_document t (inr (inl (b, e))) none = wrong_kind t (truth b) (ap view e ∙ view-Bool b) (refl, refl) none
no_document t (inr (inr (inl (d, e)))) none = wrong_kind t (number (number_of d)) (ap view e ∙ view-Number d) (refl, refl) none
no_document t (inr (inr (inr (bytes, e)))) none = wrong_kind t (text bytes) (ap view e ∙ view-Text bytes) (refl, refl) none
