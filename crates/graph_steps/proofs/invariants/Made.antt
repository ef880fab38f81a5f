-- Printed twins and relationships, and the bodies of which they were made: where a body has no breach, what is printed of it
-- has none.
use Rattle.std.proofs.Common.{◌≡◌, ℕ, zero, suc, ◌⊎◌, inl, inr, List, [], ◌∷◌, Bool, true, false, cond, not, bytes_eq, codes, Option, Some, None, refl, sym, ap, ◌∙◌, subst, true≢false}
use Rattle.std.specs.Option.{IsSomeAnd, option_map, option_and_then}
use Rattle.std.proofs.lemmas.Slice.Eq.{bytes_eq-Decides}
use Rattle.std.proofs.lemmas.Option.{same_Some, none-some}
use Rattle.json_decimal.specs.Number.{Number}
use Rattle.json_tree.specs.Values.{Json, text, object, Members, no_members, member}
use Rattle.json_tree.specs.Places.{member_at}
use Rattle.json_tree.specs.Members.{text_in, value_at, value_in, members_in}
use Rattle.dt_base.specs.names.Grammar.{NameText, Identifier}
use Rattle.dtdl_terms.specs.Terms.{ContentTerms}
use Rattle.dtdl_terms.specs.declared.resolved.ResolvedContent.{ResolvedContent}
use Rattle.twin_patch.specs.Objects.{sorted_value, sorted_members}
use Rattle.twin_value.specs.Roles.{Library, Role, any_text, any_object, model_id, target_id, link_name, twin_metadata, twin_body, part_body, link_body, body_member_role}
use Rattle.dtdl_terms.specs.declared.resolved.Resolved.{Resolved}
use Rattle.twin_value.specs.Breaches.{BreaksBody, IsBodyBreach, HasNoBreach, IsModelId, IsTwinId, text_under, library_of, link_called, body_role, link_role_of, NamesNone, IsLinkBreach}
use Rattle.twin_value.specs.Twins.{picked, joined_members, any_key, same_value, is_value_role, is_part_role, property_members, component_members, with_metadata, without_metadata, model_text}
use Rattle.twin_value.specs.declared.code.BodyCode.{BodyCode}
use Rattle.twin_value.specs.declared.code.BodyCode.TheVariants as code
use Rattle.twin_value.proofs.Bodies.{under, model_told}
use Rattle.graph_steps.proofs.invariants.Members.{value-sorted, sorted_from}
use Rattle.graph_steps.proofs.invariants.Printed.{value_in-sorted, sorted_clear, object_clear, sorted_object}

-- ---- members that are picked, and members behind others
pub value-picked : (q : List ℕ) (passes : List ℕ → Bool) (becomes : Json → Json) (ms : Members Number) (w : Json) → value_at q (picked passes becomes ms) ≡ Some w
    → (passes q ≡ true) × ((v : Json) × (value_at q ms ≡ Some v) × (w ≡ becomes v))
value-picked q passes becomes no_members w e = absurd (none-some w e)
value-picked q passes becomes (member k v ms) w e =
    elim (passes k) as (λ b. passes k ≡ b → value_at q (cond b (member k (becomes v) (picked passes becomes ms)) (picked passes becomes ms)) ≡ Some w
    → (passes q ≡ true) × ((x : Json) × (cond (bytes_eq k q) (Some v) (value_at q ms) ≡ Some x) × (w ≡ becomes x))) [
      | true ↦ λ p h.
          elim (bytes_eq k q) as (λ b. bytes_eq k q ≡ b → cond b (Some (becomes v)) (value_at q (picked passes becomes ms)) ≡ Some w
          → (passes q ≡ true) × ((x : Json) × (cond b (Some v) (value_at q ms) ≡ Some x) × (w ≡ becomes x))) [
            | true ↦ λ is g. (ap passes (sym ((bytes_eq-Decides k q).0 is)) ∙ p, (v, refl, sym (same_Some (becomes v) w g)))
            | false ↦ λ is g. value-picked q passes becomes ms w g
          ] refl h
      | false ↦ λ p h. let later = value-picked q passes becomes ms w h in (later.0, (later.1.0, other (bytes_eq k q) refl p later.0 later.1.0 later.1.1, later.1.2))
    ] refl e
  where
    other : (b : Bool) → bytes_eq k q ≡ b → passes k ≡ false → passes q ≡ true → (x : Json) → value_at q ms ≡ Some x → cond b (Some v) (value_at q ms) ≡ Some x
    other true is p passed x h = absurd (true≢false (sym passed ∙ ap passes (sym ((bytes_eq-Decides k q).0 is)) ∙ p))
    other false is p passed x h = h

pub value-joined : (q : List ℕ) (ms ns : Members Number) (w : Json) → value_at q (joined_members ms ns) ≡ Some w → (value_at q ms ≡ Some w) ⊎ (value_at q ns ≡ Some w)
value-joined q no_members ns w e = inr e
value-joined q (member k v ms) ns w e =
    elim (bytes_eq k q) as (λ b. cond b (Some v) (value_at q (joined_members ms ns)) ≡ Some w → (cond b (Some v) (value_at q ms) ≡ Some w) ⊎ (value_at q ns ≡ Some w)) [
      | true ↦ λ h. inl h
      | false ↦ λ h. value-joined q ms ns w h
    ] e

-- what holds of the member in front, and of the first of a key among the others
first_or : (P : List ℕ → Json → Type 0) (k key : List ℕ) (x w : Json) (rest : Option Json) → P k x → (rest ≡ Some w → P key w) → cond (bytes_eq k key) (Some x) rest ≡ Some w → P key w
first_or P k key x w rest here later e =
    elim (bytes_eq k key) as (λ b. bytes_eq k key ≡ b → cond b (Some x) rest ≡ Some w → P key w) [
      | true ↦ λ is h. subst (λ (q : List ℕ). P q w) ((bytes_eq-Decides k key).0 is) (subst (P k) (same_Some x w h) here)
      | false ↦ λ is h. later h
    ] refl e

-- members of a sorted object
sorted_picked : (q : List ℕ) (passes : List ℕ → Bool) (becomes : Json → Json) (ms : Members Number) (w : Json) → value_at q (sorted_members (picked passes becomes ms)) ≡ Some w
    → (passes q ≡ true) × ((v : Json) × (value_at q ms ≡ Some v) × (w ≡ sorted_value (becomes v)))
sorted_picked q passes becomes ms w e = by (value_at q (picked passes becomes ms)) refl (sym (value-sorted q (picked passes becomes ms)) ∙ e)
  where
    by : (o : Option Json) → value_at q (picked passes becomes ms) ≡ o → option_map sorted_value (value_at q (picked passes becomes ms)) ≡ Some w → (passes q ≡ true) × ((v : Json) × (value_at q ms ≡ Some v) × (w ≡ sorted_value (becomes v)))
    by None is h = absurd (none-some w (sym (ap (option_map sorted_value) is) ∙ h))
    by (Some x) is h =
        let from = value-picked q passes becomes ms x is in
        (from.0, (from.1.0, from.1.1, sym (same_Some (sorted_value x) w (sym (ap (option_map sorted_value) is) ∙ h)) ∙ ap sorted_value from.1.2))

-- No breach is at a member, sorted.
abbrev pub Clear : Role → List ℕ → Json → Type 0
Clear r key w = HasNoBreach (IsBodyBreach (body_member_role r key) (sorted_value w))

-- ---- values that are texts
text_clear : (r : Role) (bytes : List ℕ) → ((broken : BodyCode) → BreaksBody broken r (text bytes) → ⊥) → HasNoBreach (IsBodyBreach r (text bytes))
text_clear r bytes alone [] broken b = alone broken b
text_clear r bytes alone (i ∷ place) broken b = b.2

any_alone : (bytes : List ℕ) (broken : BodyCode) → BreaksBody broken any_text (text bytes) → ⊥
any_alone bytes code.WrongKind b = none-some bytes (sym b)
any_alone bytes other b = b

any_clear : (bytes : List ℕ) → HasNoBreach (IsBodyBreach any_text (text bytes))
any_clear bytes = text_clear any_text bytes (any_alone bytes)

model_alone : (bytes : List ℕ) → ((IsModelId bytes → ⊥) → ⊥) → (broken : BodyCode) → BreaksBody broken model_id (text bytes) → ⊥
model_alone bytes is code.WrongKind b = none-some bytes (sym b)
model_alone bytes is code.BadId b = is b
model_alone bytes is other b = b

target_alone : (bytes : List ℕ) → ((IsTwinId bytes → ⊥) → ⊥) → (broken : BodyCode) → BreaksBody broken target_id (text bytes) → ⊥
target_alone bytes is code.WrongKind b = none-some bytes (sym b)
target_alone bytes is code.BadId b = is b
target_alone bytes is other b = b

name_alone : (bytes : List ℕ) → ((NameText bytes → ⊥) → ⊥) → (broken : BodyCode) → BreaksBody broken link_name (text bytes) → ⊥
name_alone bytes is code.WrongKind b = none-some bytes (sym b)
name_alone bytes is code.BadId b = is b
name_alone bytes is other b = b

-- ---- components
part_alone : (l : Library) (cs : List ResolvedContent) (ms : Members Number) (broken : BodyCode) → BreaksBody broken (part_body l cs) (object ms) → ⊥
part_alone l cs ms code.WrongKind b = true≢false b
part_alone l cs ms other b = b

empty_alone : (broken : BodyCode) → BreaksBody broken any_object (object no_members) → ⊥
empty_alone code.WrongKind b = true≢false b
empty_alone other b = b

empty_clear : HasNoBreach (IsBodyBreach any_object (object no_members))
empty_clear = object_clear any_object no_members empty_alone (λ i key w at. absurd (none-some (key, w) at))

-- A component, as it is printed of a body of it.
pub part_clear : (l : Library) (cs : List ResolvedContent) (v : Json) → HasNoBreach (IsBodyBreach (part_body l cs) v) → HasNoBreach (IsBodyBreach (part_body l cs) (with_metadata (sorted_value (without_metadata v))))
part_clear l cs v h = object_clear (part_body l cs) _ (part_alone l cs _) parts
  where
    parts : (i : ℕ) (key : List ℕ) (w : Json) → member_at (member (codes "$metadata") (object no_members) (sorted_members (picked (λ key. not (bytes_eq key (codes "$metadata"))) same_value (members_in v)))) i ≡ Some (key, w)
        → HasNoBreach (IsBodyBreach (body_member_role (part_body l cs) key) w)
    parts zero key w at =
        let pair : (codes "$metadata", object no_members) ≡ (key, w) = same_Some (codes "$metadata", object no_members) (key, w) at in
        subst (λ (m : List ℕ × Json). HasNoBreach (IsBodyBreach (body_member_role (part_body l cs) m.0) m.1)) pair empty_clear
    parts (suc i) key w at =
        let from = sorted_from (picked (λ key. not (bytes_eq key (codes "$metadata"))) same_value (members_in v)) i key w at in
        let was = value-picked key (λ key. not (bytes_eq key (codes "$metadata"))) same_value (members_in v) from.0 from.1 in
        let clear : HasNoBreach (IsBodyBreach (body_member_role (part_body l cs) key) was.1.0) = under (part_body l cs) v key was.1.0 h was.1.1 in
        subst (λ (x : Json). HasNoBreach (IsBodyBreach (body_member_role (part_body l cs) key) x)) (sym (from.2 ∙ ap sorted_value was.1.2)) (sorted_clear (body_member_role (part_body l cs) key) was.1.0 clear)

as_part : (r : Role) → is_part_role r ≡ true → (l : Library) × (cs : List ResolvedContent) × (r ≡ part_body l cs)
as_part (part_body l cs) h = (l, cs, refl)
as_part other h = absurd (true≢false (sym h))

-- the same of any role that is a component's
pub part_role_clear : (r : Role) (v : Json) → is_part_role r ≡ true → HasNoBreach (IsBodyBreach r v) → HasNoBreach (IsBodyBreach r (with_metadata (sorted_value (without_metadata v))))
part_role_clear r v is h =
    let known = as_part r is in
    subst (λ (q : Role). HasNoBreach (IsBodyBreach q (with_metadata (sorted_value (without_metadata v))))) (sym known.2)
    (part_clear known.0 known.1 v (subst (λ (q : Role). HasNoBreach (IsBodyBreach q v)) known.2 h))

-- ---- twins
-- What is printed of a twin, but for the order of members.
abbrev pub twin_members : List ℕ → List ℕ → Members Number → Members Number → Members Number
twin_members id model vs ps = member (codes "$dtId") (text id) (member (codes "$metadata") (object (member (codes "$model") (text model) no_members)) (joined_members vs (picked any_key with_metadata ps)))

metadata_alone : (model : List ℕ) (broken : BodyCode) → BreaksBody broken twin_metadata (object (member (codes "$model") (text model) no_members)) → ⊥
metadata_alone model code.WrongKind b = true≢false b
metadata_alone model code.MissingKey b = none-some (text model) (sym b.1)
metadata_alone model other b = b

metadata_clear : (model : List ℕ) → ((IsModelId model → ⊥) → ⊥) → HasNoBreach (IsBodyBreach twin_metadata (object (member (codes "$model") (text model) no_members)))
metadata_clear model is = object_clear twin_metadata (member (codes "$model") (text model) no_members) (metadata_alone model) parts
  where
    parts : (i : ℕ) (key : List ℕ) (w : Json) → member_at (member (codes "$model") (text model) no_members) i ≡ Some (key, w) → HasNoBreach (IsBodyBreach (body_member_role twin_metadata key) w)
    parts zero key w at =
        let pair : (codes "$model", text model) ≡ (key, w) = same_Some (codes "$model", text model) (key, w) at in
        subst (λ (m : List ℕ × Json). HasNoBreach (IsBodyBreach (body_member_role twin_metadata m.0) m.1)) pair (text_clear model_id model (model_alone model is))
    parts (suc i) key w at = absurd (none-some (key, w) at)

twin_alone : (l : Library) (cs : List ResolvedContent) (id model : List ℕ) (vs ps : Members Number) (broken : BodyCode) → BreaksBody broken (twin_body l cs) (object (twin_members id model vs ps)) → ⊥
twin_alone l cs id model vs ps code.WrongKind b = true≢false b
twin_alone l cs id model vs ps code.MissingKey b = none-some (object (member (codes "$model") (text model) no_members)) (sym b.1)
twin_alone l cs id model vs ps other b = b

-- The printed twin has no breach where its model is an identifier, and each value and each component that is printed has none.
pub twin_clear : (l : Library) (cs : List ResolvedContent) (id model : List ℕ) (vs ps : Members Number) → ((IsModelId model → ⊥) → ⊥)
    → ((key : List ℕ) (w : Json) → value_at key vs ≡ Some w → Clear (twin_body l cs) key w)
    → ((key : List ℕ) (w : Json) → value_at key ps ≡ Some w → Clear (twin_body l cs) key (with_metadata w))
    → HasNoBreach (IsBodyBreach (twin_body l cs) (sorted_value (object (twin_members id model vs ps))))
twin_clear l cs id model vs ps is values parts =
    sorted_object (twin_body l cs) (twin_members id model vs ps) (twin_alone l cs id model vs ps)
    (λ key w e. first_or (Clear (twin_body l cs)) (codes "$dtId") key (text id) w _ (any_clear id)
    (λ f. first_or (Clear (twin_body l cs)) (codes "$metadata") key (object (member (codes "$model") (text model) no_members)) w _ (metadata_clear model is)
    (λ g. rest key w (value-joined key vs (picked any_key with_metadata ps) w g)) f) e)
  where
    of_part : (key : List ℕ) (w : Json) → value_at key (picked any_key with_metadata ps) ≡ Some w → Clear (twin_body l cs) key w
    of_part key w e =
        let from = value-picked key any_key with_metadata ps w e in
        subst (λ (x : Json). Clear (twin_body l cs) key x) (sym from.1.2) (parts key from.1.0 from.1.1)

    rest : (key : List ℕ) (w : Json) → (value_at key vs ≡ Some w) ⊎ (value_at key (picked any_key with_metadata ps) ≡ Some w) → Clear (twin_body l cs) key w
    rest key w (inl e) = values key w e
    rest key w (inr e) = of_part key w e

-- ---- twins of bodies
property_clear : (r : Role) (v : Json) → HasNoBreach (IsBodyBreach r v) → (key : List ℕ) (w : Json) → value_at key (sorted_members (property_members r v)) ≡ Some w → Clear r key w
property_clear r v h key w e =
    let from = sorted_picked key (λ key. is_value_role (body_member_role r key)) same_value (members_in v) w e in
    subst (λ (x : Json). Clear r key x) (sym from.1.2) (sorted_clear (body_member_role r key) _ (sorted_clear (body_member_role r key) from.1.0 (under r v key from.1.0 h from.1.1)))

component_clear : (r : Role) (v : Json) → HasNoBreach (IsBodyBreach r v) → (key : List ℕ) (w : Json) → value_at key (sorted_members (component_members r v)) ≡ Some w → Clear r key (with_metadata w)
component_clear r v h key w e =
    let from = sorted_picked key (λ key. is_part_role (body_member_role r key)) without_metadata (members_in v) w e in
    subst (λ (x : Json). Clear r key (with_metadata x)) (sym from.1.2) (sorted_clear (body_member_role r key) _ (part_role_clear (body_member_role r key) from.1.0 from.0 (under r v key from.1.0 h from.1.1)))

pub made_twin_clear : (l : Library) (cs : List ResolvedContent) (v : Json) (id model : List ℕ) → model_text v ≡ Some model → HasNoBreach (IsBodyBreach (twin_body l cs) v)
    → HasNoBreach (IsBodyBreach (twin_body l cs) (sorted_value (object (twin_members id model (sorted_members (property_members (twin_body l cs) v)) (sorted_members (component_members (twin_body l cs) v))))))
made_twin_clear l cs v id model named h =
    twin_clear l cs id model (sorted_members (property_members (twin_body l cs) v)) (sorted_members (component_members (twin_body l cs) v))
    (subst (λ (o : Option (List ℕ)). IsSomeAnd o (λ m. (IsModelId m → ⊥) → ⊥)) named (model_told l cs v h))
    (property_clear (twin_body l cs) v h) (component_clear (twin_body l cs) v h)

-- ---- relationships
-- What is printed of a relationship, but for the order of members.
abbrev pub link_members : List ℕ → List ℕ → List ℕ → List ℕ → Members Number → Members Number
link_members id name source target ps =
    member (codes "$relationshipId") (text id) (member (codes "$relationshipName") (text name) (member (codes "$sourceId") (text source) (member (codes "$targetId") (text target) ps)))

link_alone : (l : Library) (from : Option Identifier) (cs : ContentTerms) (id name source target : List ℕ) (ps : Members Number) (broken : BodyCode) → BreaksBody broken (link_body l from cs) (object (link_members id name source target ps)) → ⊥
link_alone l from cs id name source target ps code.WrongKind b = true≢false b
link_alone l from cs id name source target ps code.MissingKey (inl b) = none-some (text target) (sym b.1)
link_alone l from cs id name source target ps code.MissingKey (inr b) = none-some (text name) (sym b.1)
link_alone l from cs id name source target ps other b = b

link_clear : (l : Library) (from : Option Identifier) (cs : ContentTerms) (id name source target : List ℕ) (ps : Members Number) → ((NameText name → ⊥) → ⊥) → ((IsTwinId target → ⊥) → ⊥)
    → ((key : List ℕ) (w : Json) → value_at key ps ≡ Some w → Clear (link_body l from cs) key w)
    → HasNoBreach (IsBodyBreach (link_body l from cs) (sorted_value (object (link_members id name source target ps))))
link_clear l from cs id name source target ps named leads values =
    sorted_object (link_body l from cs) (link_members id name source target ps) (link_alone l from cs id name source target ps)
    (λ key w e. first_or (Clear (link_body l from cs)) (codes "$relationshipId") key (text id) w _ (any_clear id)
    (λ f. first_or (Clear (link_body l from cs)) (codes "$relationshipName") key (text name) w _ (text_clear link_name name (name_alone name named))
    (λ g. first_or (Clear (link_body l from cs)) (codes "$sourceId") key (text source) w _ (any_clear source)
    (λ h. first_or (Clear (link_body l from cs)) (codes "$targetId") key (text target) w _ (text_clear target_id target (target_alone target leads))
    (λ k. values key w k) h) g) f) e)

-- A member of a body without breach that is a text has none in its role.
told : (r : Role) (v : Json) (key t : List ℕ) → HasNoBreach (IsBodyBreach r v) → text_under key v ≡ Some t → (w : Json) × (text_in w ≡ Some t) × HasNoBreach (IsBodyBreach (body_member_role r key) w)
told r v key t h e = by (value_in key v) refl e
  where
    by : (o : Option Json) → value_in key v ≡ o → option_and_then text_in o ≡ Some t → (w : Json) × (text_in w ≡ Some t) × HasNoBreach (IsBodyBreach (body_member_role r key) w)
    by None is f = absurd (none-some t f)
    by (Some w) is f = (w, f, under r v key w h is)

name_told : (w : Json) (t : List ℕ) → text_in w ≡ Some t → HasNoBreach (IsBodyBreach link_name w) → (NameText t → ⊥) → ⊥
name_told w t e h no_name = h [] code.BadId (subst (λ (o : Option (List ℕ)). IsSomeAnd o (λ bytes. NameText bytes → ⊥)) (sym e) no_name)

target_told : (w : Json) (t : List ℕ) → text_in w ≡ Some t → HasNoBreach (IsBodyBreach target_id w) → (IsTwinId t → ⊥) → ⊥
target_told w t e h no_id = h [] code.BadId (subst (λ (o : Option (List ℕ)). IsSomeAnd o (λ bytes. IsTwinId bytes → ⊥)) (sym e) no_id)

module _ (r : Resolved) (v : Json) (id name source target : List ℕ) (named : text_under (codes "$relationshipName") v ≡ Some name) where
  abbrev printed : Json
  printed = sorted_value (object (link_members id name source target (sorted_members (property_members (link_role_of r v) v))))

  name_printed : text_under (codes "$relationshipName") printed ≡ Some name
  name_printed = ap (λ (o : Option Json). option_and_then text_in o) (value_in-sorted (codes "$relationshipName") (object (link_members id name source target (sorted_members (property_members (link_role_of r v) v)))))

  same_role : link_role_of r printed ≡ link_role_of r v
  same_role = ap (λ (o : Option (List ℕ)). body_role (library_of r) (option_and_then (λ n. link_called n r.contents) o)) (name_printed ∙ sym named)

  none_named : HasNoBreach (IsLinkBreach r v) → NamesNone r v → ⊥
  none_named h n = h _ code.UnknownRelationship (inl (n, refl, refl))

  pub made_link_clear : text_under (codes "$targetId") v ≡ Some target → HasNoBreach (IsLinkBreach r v) → HasNoBreach (IsLinkBreach r printed)
  made_link_clear leads h place broken (inl c) =
      none_named h (subst (λ (o : Option (List ℕ)). IsSomeAnd o (λ n. NameText n × (link_called n r.contents ≡ None))) (name_printed ∙ sym named) c.0)
  made_link_clear leads h place broken (inr c) = clear place broken (subst (λ (q : Role). IsBodyBreach q printed place broken) same_role c.1)
    where
      whole : HasNoBreach (IsBodyBreach (link_role_of r v) v)
      whole at one b = h at one (inr (none_named h, b))

      clear : HasNoBreach (IsBodyBreach (link_role_of r v) printed)
      clear =
          let n = told (link_role_of r v) v (codes "$relationshipName") name whole named in
          let t = told (link_role_of r v) v (codes "$targetId") target whole leads in
          link_clear _ _ _ id name source target (sorted_members (property_members (link_role_of r v) v)) (name_told n.0 name n.1 n.2) (target_told t.0 target t.1 t.2) (property_clear (link_role_of r v) v whole)
