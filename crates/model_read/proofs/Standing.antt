-- What stands in the roles of an interface in which no rule is broken.
use Rattle.std.proofs.Common.{◌≡◌, ℕ, inl, inr, List, [], ◌∷◌, ◌++◌, Option, Some, option_and_then, refl, sym, ap, subst, ◌∙◌}
use Rattle.json_decimal.specs.Number.{Number}
use Rattle.json_tree.specs.Values.{Json, array, object, Elements, Members}
use Rattle.json_tree.specs.Places.{IsPart, element_at}
use Rattle.json_tree.specs.Members.{members_in, value_at}
use Rattle.local_rules.specs.Roles.{HasRole, element_member, element_of, entry_role, key_of, key_role, member_role, part_role, role_of_key}
use Rattle.local_rules.specs.Breaches.{IsBroken}
use Rattle.local_rules.specs.Levels.{TooDeep}
use Rattle.local_rules.specs.declared.key.Key.{Key}
use Rattle.local_rules.specs.declared.rule.LocalRule.{LocalRule}
use Rattle.local_rules.specs.declared.rule.LocalRule.TheVariants as rule
use Rattle.local_rules.specs.declared.role.Element.{Element}
use Rattle.local_rules.specs.declared.role.Role.{Role}
use Rattle.local_rules.specs.declared.role.Role.TheVariants as role
use Rattle.json_tree.proofs.Keyed.{position_of_key}
use Rattle.model_read.specs.Machinery.Shapes.{IsValid}
use Rattle.model_read.proofs.Valid.{part_valid}
use Rattle.model_read.proofs.Whole.{interface}

-- ---- places
-- a part of what stands at a place
pub part_stands : (place : List ℕ) (r : Role) (v : Json) (q : Role) (w : Json) (i : ℕ) (s : Role) (part : Json) → HasRole r v place q w → IsPart w i part
    → part_role q w i ≡ Some s → HasRole r v (place ++ i ∷ []) s part
part_stands [] r v q w i s part there is_part stands = (
  s,
  part,
  subst (λ (u : Json). IsPart u i part) (sym there.1) is_part,
  ap (λ (u : Json). part_role r u i) there.1 ∙ (ap (λ (p : Role). part_role p w i) there.0 ∙ stands),
  (refl, refl),
)
part_stands (j ∷ place) r v q w i s part there is_part stands =
    (there.0, there.1, there.2, there.3, part_stands place there.0 there.1 q w i s part there.4 is_part stands)

valid_below : (place : List ℕ) (r : Role) (v : Json) (q : Role) (w : Json) → HasRole r v place q w → IsValid r v → IsValid q w
valid_below [] r v q w there valid = subst (λ (u : Json). IsValid q u) there.1 (subst (λ (p : Role). IsValid p v) there.0 valid)
valid_below (i ∷ place) r v q w there valid = valid_below place there.0 there.1 q w there.4 (part_valid r v i there.0 there.1 there.2 there.3 valid)

-- ---- values that stand somewhere in the interface
pub record Stands (whole : Json) (r : Role) (v : Json) : Type 0 where
  pub place : List ℕ
  pub there : HasRole role.Interface whole place r v

abbrev pub BreaksNowhere : Json → Type 0
BreaksNowhere whole = (place : List ℕ) (broken : LocalRule) → IsBroken whole place broken → ⊥

pub itself : (whole : Json) → Stands whole role.Interface whole
itself whole = record { place = []; there = (refl, refl) }

pub stands_valid : (whole : Json) → BreaksNowhere whole → (r : Role) (v : Json) → Stands whole r v → IsValid r v
stands_valid whole none r v s = valid_below s.place role.Interface whole r v s.there (interface whole none)

-- the value under a key of an element
pub key_at : (whole : Json) (place : List ℕ) (r : Role) (ms : Members Number) (e : Element) (k : Key) (key : List ℕ) (v : Json) → element_of r ms ≡ Some e
    → key_of e key ≡ Some k → value_at key ms ≡ Some v → HasRole role.Interface whole place r (object ms)
    → (i : ℕ) × HasRole role.Interface whole (place ++ i ∷ []) (key_role r e ms k) v
key_at whole place r ms e k key v element known at there =
    let p = position_of_key key ms v at in
    let role_there : member_role r ms key ≡ Some (key_role r e ms k) =
    ap (λ (o : Option Element). element_member r ms o key) element ∙ ap (λ (o : Option Key). Some (role_of_key r e ms o)) known in (
      p.0,
      part_stands place role.Interface whole r (object ms) p.0 (key_role r e ms k) v there (key, p.1)
          (ap (λ (o : Option (List ℕ × Json)). option_and_then (λ m. member_role r ms m.0) o) p.1 ∙ role_there),
    )

pub key_stands : (whole : Json) (r : Role) (ms : Members Number) (e : Element) (k : Key) (key : List ℕ) (v : Json) → element_of r ms ≡ Some e → key_of e key ≡ Some k
    → value_at key ms ≡ Some v → Stands whole r (object ms) → Stands whole (key_role r e ms k) v
key_stands whole r ms e k key v element known at s =
    let there = key_at whole s.place r ms e k key v element known at s.there in
    record { place = s.place ++ there.0 ∷ []; there = there.1 }

-- the entry of a list
pub entry_at : (whole : Json) (place : List ℕ) (r : Role) (vs : Elements Number) (i : ℕ) (s : Role) (v : Json) → entry_role r ≡ Some s
    → element_at vs i ≡ Some v → HasRole role.Interface whole place r (array vs) → HasRole role.Interface whole (place ++ i ∷ []) s v
entry_at whole place r vs i s v entry at there = part_stands place role.Interface whole r (array vs) i s v there at entry

pub entry_stands : (whole : Json) (r : Role) (vs : Elements Number) (i : ℕ) (s : Role) (v : Json) → entry_role r ≡ Some s → element_at vs i ≡ Some v
    → Stands whole r (array vs) → Stands whole s v
entry_stands whole r vs i s v entry at t = record { place = t.place ++ i ∷ []; there = entry_at whole t.place r vs i s v entry at t.there }

-- no schema there is too deep
pub not_deep : (whole : Json) → BreaksNowhere whole → (r : Role) (v : Json) → Stands whole r v → TooDeep (members_in whole) r v → ⊥
not_deep whole none r v s deep = none s.place rule.TooDeep (r, v, s.there, inr (inr (inl deep)))
