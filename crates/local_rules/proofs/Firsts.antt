-- From the first broken rule among those that a role can break to the first broken rule of all.
use Rattle.std.proofs.Common.{◌≡◌, ℕ, ◌<◌, ◌⊎◌, inl, inr, Bool, true, false, ◌&&◌, nat_lt, cond, ◌↔◌, IsTrue, List, [], ◌∷◌, ◌++◌, Option, Some, None, MatchOption, refl, sym, ap, subst, arith}
use Rattle.std.proofs.lemmas.Bool.{and_parts, ltb-true, ltb-false, false≢true}
use Rattle.std.specs.Bool.{then_some}
use Rattle.json_tree.specs.Values.{Json, text, array, object}
use Rattle.local_rules.specs.Texts.{IsTextOf}
use Rattle.local_rules.specs.Identifiers.{IdUse, IsBadId, IsReservedId, id_use, no_id}
use Rattle.local_rules.specs.Codes.{rule_number}
use Rattle.local_rules.specs.Breaches.{BreaksAlone, IsFirstOf}
use Rattle.local_rules.specs.Machinery.Firsts.{IsFirstAmong, earlier, further_rules, id_rules}
use Rattle.local_rules.specs.declared.rule.LocalRule.{LocalRule}
use Rattle.local_rules.specs.declared.rule.LocalRule.TheVariants as rule
use Rattle.local_rules.specs.declared.role.Localized.{Localized}
use Rattle.local_rules.specs.declared.role.Localized.TheVariants as localized
use Rattle.local_rules.specs.declared.role.PayloadUse.{PayloadUse}
use Rattle.local_rules.specs.declared.role.ValueSchema.{ValueSchema}
use Rattle.local_rules.specs.declared.role.SchemaUse.TheVariants as schema_use
use Rattle.local_rules.specs.declared.role.Role.{Role}
use Rattle.local_rules.specs.declared.role.Role.TheVariants as role
use Rattle.local_rules.proofs.Among.{Among, among_before}

-- the numbers of the list rise, from above this one
abbrev rises : ℕ → List LocalRule → Bool
rises low [] = true
rises low (one ∷ more) = nat_lt low (rule_number one) && rises (rule_number one) more

above : (low : ℕ) (rules : List LocalRule) (other : LocalRule) → rises low rules ≡ true → Among other rules → low < rule_number other
above low [] other up a = absurd a
above low (one ∷ more) other up (inl same) =
    let p = and_parts (nat_lt low (rule_number one)) (rises (rule_number one) more) up in
    omega (arith, ltb-true low (rule_number one) p.0, ap rule_number same)
above low (one ∷ more) other up (inr later) =
    let p = and_parts (nat_lt low (rule_number one)) (rises (rule_number one) more) up in
    omega (arith, ltb-true low (rule_number one) p.0, above (rule_number one) more other p.1 later)

-- the first of those in the list
abbrev IsFirstIn : (LocalRule → Type 0) → List LocalRule → Option LocalRule → Type 0
IsFirstIn Broken rules found = MatchOption found ((other : LocalRule) → Among other rules → Broken other → ⊥)
    (λ one. Broken one × ((other : LocalRule) → Among other rules → rule_number other < rule_number one → Broken other → ⊥))

later_in : (Broken : LocalRule → Type 0) (one : LocalRule) (more : List LocalRule) (found : Option LocalRule) → (Broken one → ⊥) → IsFirstIn Broken more found → IsFirstIn Broken (one ∷ more) found
later_in Broken one more None not h = λ other a broken. elim a [ inl same ↦ not (subst Broken same broken) | inr later ↦ h other later broken ]
later_in Broken one more (Some found) not h = (h.0, λ other a less broken. elim a [ inl same ↦ not (subst Broken same broken) | inr later ↦ h.1 other later less broken ])

first_in : (Broken : LocalRule → Type 0) (low : ℕ) (rules : List LocalRule) (found : Option LocalRule) → rises low rules ≡ true → IsFirstAmong Broken rules found → IsFirstIn Broken rules found
first_in Broken low [] found up none = subst (IsFirstIn Broken []) (sym none) (λ other a broken. a)
first_in Broken low (one ∷ more) found up (inl h) =
    let p = and_parts (nat_lt low (rule_number one)) (rises (rule_number one) more) up in
    subst (IsFirstIn Broken (one ∷ more)) (sym h.1) (
      h.0,
      λ other a less broken. elim a [ inl same ↦ absurd (omega (arith, ap rule_number same)) | inr later ↦ absurd (omega (arith, above (rule_number one) more other p.1 later)) ],
    )
first_in Broken low (one ∷ more) found up (inr h) =
    let p = and_parts (nat_lt low (rule_number one)) (rises (rule_number one) more) up in
    later_in Broken one more found h.0 (first_in Broken (rule_number one) more found p.1 h.1)

-- the first among the rules that can be broken at all is the first
first_of : (Broken : LocalRule → Type 0) (rules : List LocalRule) (found : Option LocalRule) → ((other : LocalRule) → Broken other → Among other rules) → IsFirstIn Broken rules found
    → IsFirstOf Broken found
first_of Broken rules None only h = λ other broken. h other (only other broken) broken
first_of Broken rules (Some one) only h = (h.0, λ other less broken. h.1 other (only other broken) less broken)

-- ---- one list behind another
pub first_before : (Broken : LocalRule → Type 0) (rules more : List LocalRule) (found : Option LocalRule) (one : LocalRule) → IsFirstAmong Broken rules found → found ≡ Some one
    → IsFirstAmong Broken (rules ++ more) found
first_before Broken [] more found one none is = cc
first_before Broken (other ∷ rules) more found one (inl h) is = inl h
first_before Broken (other ∷ rules) more found one (inr h) is = inr (h.0, first_before Broken rules more found one h.1 is)

pub first_behind : (Broken : LocalRule → Type 0) (rules more : List LocalRule) (found : Option LocalRule) → IsFirstAmong Broken rules None → IsFirstAmong Broken more found
    → IsFirstAmong Broken (rules ++ more) found
first_behind Broken [] more found none h = h
first_behind Broken (other ∷ rules) more found (inl e) h = cc
first_behind Broken (other ∷ rules) more found (inr e) h = inr (e.0, first_behind Broken rules more found e.1 h)

pub first_one : (Broken : LocalRule → Type 0) (one : LocalRule) (test : Bool) (found : Option LocalRule) → IsTrue test ↔ Broken one → found ≡ then_some test one
    → IsFirstAmong Broken (one ∷ []) found
first_one Broken one true found decided is = inl (decided.0 refl, is)
first_one Broken one false found decided is = inr (λ broken. absurd (false≢true (decided.1 broken)), is)

-- at the role that a place has
pub at_role : (r q : Role) (v : Json) (found : Option LocalRule) → r ≡ q → IsFirstAmong (λ one. BreaksAlone one q v) (further_rules q) found
    → IsFirstAmong (λ one. BreaksAlone one r v) (further_rules r) found
at_role r q v found same h = subst (λ (p : Role). IsFirstAmong (λ one. BreaksAlone one p v) (further_rules p) found) (sym same) h

-- the roles of values that are objects alone
abbrev pub IsObjectRole : Role → Type 0
IsObjectRole r = (r ≡ role.Interface) ⊎ ((r ≡ role.Content) ⊎ ((r ≡ role.RelationshipProperty)
    ⊎ (((part : PayloadUse) × (r ≡ role.Payload part)) ⊎ ((r ≡ role.Field)
    ⊎ (((k : ValueSchema) × (r ≡ role.EnumEntry k)) ⊎ (r ≡ role.NamedSchema))))))

pub object_rules : (r : Role) → IsObjectRole r → further_rules r ≡ rule.MissingKey ∷ []
object_rules r (inl is) = ap further_rules is
object_rules r (inr (inl is)) = ap further_rules is
object_rules r (inr (inr (inl is))) = ap further_rules is
object_rules r (inr (inr (inr (inl is)))) = ap further_rules is.1
object_rules r (inr (inr (inr (inr (inl is))))) = ap further_rules is
object_rules r (inr (inr (inr (inr (inr (inl is)))))) = ap further_rules is.1
object_rules r (inr (inr (inr (inr (inr (inr is)))))) = ap further_rules is

-- ---- a role breaks only the rules that are listed for it
abbrev Listed : LocalRule → Role → Type 0
Listed one r = Among one (further_rules r)

-- the identifiers of a role that has some
ids_listed : (r : Role) (bytes : List ℕ) → (id_use r bytes ≡ no_id → ⊥) → (one : LocalRule) → Among one id_rules → Listed one r
ids_listed role.InterfaceId bytes some one a = a
ids_listed role.InterfaceReference bytes some one a = a
ids_listed role.ElementId bytes some one a = a
ids_listed role.Extends bytes some one a = among_before one id_rules (rule.TooManyParents ∷ []) a
ids_listed role.Parent bytes some one a = a
ids_listed (role.Schema part) bytes some one a = inr (among_before one id_rules (rule.BadMapKey ∷ []) a)
ids_listed other bytes some one a = absurd (some refl)

bad_is_used : (u : IdUse) (bytes : List ℕ) → IsBadId u bytes → u ≡ no_id → ⊥
bad_is_used u bytes h none = subst (λ (u : IdUse). IsBadId u bytes) none h

reserved_is_used : (u : IdUse) (bytes : List ℕ) → IsReservedId u bytes → u ≡ no_id → ⊥
reserved_is_used u bytes h none = subst (λ (u : IdUse). IsReservedId u bytes) none h

bad_id : (r : Role) (v : Json) → BreaksAlone rule.BadId r v → Listed rule.BadId r
bad_id r (text bytes) h = ids_listed r bytes (bad_is_used (id_use r bytes) bytes h) rule.BadId (inl refl)
bad_id r other h = absurd h

reserved_id : (r : Role) (v : Json) → BreaksAlone rule.ReservedId r v → Listed rule.ReservedId r
reserved_id r (text bytes) h = ids_listed r bytes (reserved_is_used (id_use r bytes) bytes h) rule.ReservedId (inr (inl refl))
reserved_id r other h = absurd h

long_interface_id : (r : Role) (v : Json) → BreaksAlone rule.LongInterfaceId r v → Listed rule.LongInterfaceId r
long_interface_id r (text bytes) h = ids_listed r bytes (λ none. let is = h.0 in cc) rule.LongInterfaceId (inr (inr (inl refl)))
long_interface_id r other h = absurd h

long_element_id : (r : Role) (v : Json) → BreaksAlone rule.LongElementId r v → Listed rule.LongElementId r
long_element_id r (text bytes) h = ids_listed r bytes (λ none. let is = h.0 in cc) rule.LongElementId (inr (inr (inr (inl refl))))
long_element_id r other h = absurd h

-- the roles of objects
missing_key : (r : Role) (v : Json) → BreaksAlone rule.MissingKey r v → Listed rule.MissingKey r
missing_key role.Interface (object ms) h = inl refl
missing_key role.Content (object ms) h = inl refl
missing_key role.RelationshipProperty (object ms) h = inl refl
missing_key (role.Payload part) (object ms) h = inl refl
missing_key role.Field (object ms) h = inl refl
missing_key (role.EnumEntry k) (object ms) h = inl refl
missing_key role.NamedSchema (object ms) h = inl refl
missing_key (role.Schema part) (object ms) h = inl refl
missing_key other (object ms) h = absurd (omega (arith, h.1.1))
missing_key r other h = absurd h

at : (one : LocalRule) (q r : Role) → r ≡ q → Listed one q → Among one (rule.WrongKind ∷ further_rules r)
at one q r same a = inr (subst (Listed one) (sym same) a)

text_of : (one : LocalRule) (which : Localized) (r : Role) → IsTextOf which r → Listed one (role.Localized which) → Listed one (role.LocalizedText which)
    → Among one (rule.WrongKind ∷ further_rules r)
text_of one which r (inl same) a b = at one (role.Localized which) r same a
text_of one which r (inr same) a b = at one (role.LocalizedText which) r same b

pub only : (one : LocalRule) (r : Role) (v : Json) → BreaksAlone one r v → Among one (rule.WrongKind ∷ further_rules r)
only rule.WrongKind r v h = inl refl
only rule.UnknownKey r v h = at rule.UnknownKey role.Unknown r h (inl refl)
only rule.MissingKey r v h = inr (missing_key r v h)
only rule.BadContext r v h = at rule.BadContext role.Context r h.0 (inl refl)
only rule.BadType r v h = at rule.BadType (role.Type h.0) r h.1 (inl refl)
only rule.BadSemanticType r (array vs) h = at rule.BadSemanticType (role.Type h.0) r h.2 (inr (inl refl))
only rule.BadSemanticType r other h = absurd h
only rule.BadId r v h = inr (bad_id r v h)
only rule.ReservedId r v h = inr (reserved_id r v h)
only rule.LongInterfaceId r v h = inr (long_interface_id r v h)
only rule.LongElementId r v h = inr (long_element_id r v h)
only rule.BadName r v h = at rule.BadName role.Name r h.0 (inl refl)
only rule.LongDisplayName r v h = text_of rule.LongDisplayName localized.DisplayName r h.0 (inl refl) (inl refl)
only rule.LongDescription r v h = text_of rule.LongDescription localized.Description r h.0 (inr (inl refl)) (inr (inl refl))
only rule.LongComment r v h = at rule.LongComment role.Comment r h.0 (inl refl)
only rule.TooManyContents r v h = at rule.TooManyContents role.Contents r h.0 (inl refl)
only rule.TooManyParents r v h = at rule.TooManyParents role.Extends r h.0 (inr (inr (inr (inr (inl refl)))))
only rule.TooManyFields r v h = at rule.TooManyFields role.Fields r h.0 (inl refl)
only rule.TooManyEnumValues r v h = at rule.TooManyEnumValues (role.EnumValues h.0) r h.1 (inl refl)
only rule.BadValueSchema r v h = at rule.BadValueSchema role.ValueSchema r h.0 (inl refl)
only rule.BadEnumValue r v h = at rule.BadEnumValue (role.EnumValue h.0) r h.1 (inl refl)
only rule.BadMapKey r v h = at rule.BadMapKey (role.Schema schema_use.MapKey) r h.0 (inr (inr (inr (inr (inr (inl refl))))))
only rule.BadMultiplicity r v (inl h) = at rule.BadMultiplicity role.MinMultiplicity r h.0 (inl refl)
only rule.BadMultiplicity r v (inr h) = at rule.BadMultiplicity role.MaxMultiplicity r h.0 (inl refl)
only rule.BadCommandType r v h = at rule.BadCommandType role.CommandType r h.0 (inl refl)
only rule.BadUnit r v h = at rule.BadUnit role.Unit r h.0 (inl refl)
only other r v h = absurd h

listed_rise : (r : Role) → rises 1 (further_rules r) ≡ true
listed_rise role.Interface = refl
listed_rise other = refl

-- the first among the rule on kinds and those listed for the role is the first
pub own : (r : Role) (v : Json) (found : Option LocalRule) → IsFirstAmong (λ one. BreaksAlone one r v) (rule.WrongKind ∷ further_rules r) found → IsFirstOf (λ one. BreaksAlone one r v) found
own r v found h =
    let Broken : LocalRule → Type 0 = λ one. BreaksAlone one r v in
    first_of Broken (rule.WrongKind ∷ further_rules r) found (λ one broken. only one r v broken) (first_in Broken 0 (rule.WrongKind ∷ further_rules r) found (listed_rise r) h)

-- ---- the first of two groups
pub first_either : (P Q : LocalRule → Type 0) (a b : Option LocalRule) → IsFirstOf P a → IsFirstOf Q b → IsFirstOf (λ one. P one ⊎ Q one) (earlier a b)
first_either P Q None None g h = λ other e. elim e [ inl p ↦ g other p | inr q ↦ h other q ]
first_either P Q None (Some b) g h = (inr h.0, λ other less e. elim e [ inl p ↦ g other p | inr q ↦ h.1 other less q ])
first_either P Q (Some a) None g h = (inl g.0, λ other less e. elim e [ inl p ↦ g.1 other less p | inr q ↦ h other q ])
first_either P Q (Some a) (Some b) g h =
    elim (nat_lt (rule_number b) (rule_number a)) as (λ t. nat_lt (rule_number b) (rule_number a) ≡ t → IsFirstOf (λ one. P one ⊎ Q one) (cond t (Some b) (Some a))) [
      | true ↦ λ low. (let less = ltb-true (rule_number b) (rule_number a) low in
          (inr h.0, λ other under e. elim e [ inl p ↦ g.1 other (omega (arith, under, less)) p | inr q ↦ h.1 other under q ]))
      | false ↦ λ high. (let less = ltb-false (rule_number b) (rule_number a) high in
          (inl g.0, λ other under e. elim e [ inl p ↦ g.1 other under p | inr q ↦ h.1 other (omega (arith, under, less)) q ]))
    ] refl

-- a rule that is known is the first of those that equal it
pub first_known : (found : Option LocalRule) → IsFirstOf (λ one. found ≡ Some one) found
first_known None = λ other is. absurd cc
first_known (Some one) = (refl, λ other less is. let same : one ≡ other = cc in absurd (omega (arith, less, ap rule_number same)))
