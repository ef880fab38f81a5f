-- Rules on `@context` and `@type`.
use Rattle.std.specs.Prelude.{◌≡◌, ◌≢◌, ℕ, List, [], ◌∷◌, Some, None, filter, is_none, codes}
use Rattle.dt_base.specs.names.Grammar.{NameText}
use Rattle.json_tree.specs.Values.{Json, null, truth, number, text, array, object, no_elements, element}
use Rattle.json_tree.specs.Members.{list_of}
use Rattle.local_rules.specs.Roles.{type_in, named_by}
use Rattle.local_rules.specs.declared.role.Element.{Element}
use Rattle.local_rules.specs.declared.role.Element.TheVariants as element_kind
use Rattle.local_rules.specs.declared.role.Position.{Position}
use Rattle.local_rules.specs.declared.role.Position.TheVariants as position
use Rattle.local_rules.specs.declared.role.Role.{Role}
use Rattle.local_rules.specs.declared.role.Role.TheVariants as role

-- The identifier of the context of DTDL v2 ("Context").
abbrev pub dtdl_context : List ℕ
dtdl_context = codes "dtmi:dtdl:context;2"

-- `@context` is neither that identifier nor a list with that one entry.
abbrev pub BadContext : Role → Json → Type 0
BadContext r v = (r ≡ role.Context) × (v ≢ text dtdl_context) × (v ≢ array (element (text dtdl_context) no_elements))

-- A text of the name grammar.
abbrev pub IsNameValue : Json → Type 0
IsNameValue v = (bytes : List ℕ) × (v ≡ text bytes) × NameText bytes

-- `@type` names no role; in a payload or an enum entry, it is not of the name grammar.
abbrev pub NamesNothing : Position → Json → Type 0
NamesNothing position.Free v = IsNameValue v → ⊥
NamesNothing position.Interface v = type_in position.Interface v ≡ None
NamesNothing position.Content v = type_in position.Content v ≡ None
NamesNothing position.Property v = type_in position.Property v ≡ None
NamesNothing position.Schema v = type_in position.Schema v ≡ None

abbrev pub BadType : Role → Json → Type 0
BadType r v = (p : Position) × (r ≡ role.Type p) × NamesNothing p v

-- One further entry of the name grammar beside the type is the semantic type of a telemetry or a property.
abbrev pub MayHaveBeside : Element → List Json → Type 0
MayHaveBeside e [] = Unit {0}
MayHaveBeside element_kind.Telemetry (v ∷ []) = IsNameValue v
MayHaveBeside element_kind.Property (v ∷ []) = IsNameValue v
MayHaveBeside e (v ∷ vs) = ⊥

-- The entries of a list that name no type of the position.
abbrev pub further : Position → List Json → List Json
further p vs = filter (λ v. is_none (named_by p v)) vs

-- The list `@type` names a role and has further entries that it may not have.
abbrev pub BadSemanticType : Role → Json → Type 0
BadSemanticType r null = ⊥
BadSemanticType r (truth b) = ⊥
BadSemanticType r (number n) = ⊥
BadSemanticType r (text bytes) = ⊥
BadSemanticType r (array vs) = (p : Position) × (e : Element) × (r ≡ role.Type p) × (type_in p (array vs) ≡ Some e)
    × (MayHaveBeside e (further p (list_of vs)) → ⊥)
BadSemanticType r (object ms) = ⊥
