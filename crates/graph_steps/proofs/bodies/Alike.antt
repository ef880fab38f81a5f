-- Roles that judge alike.
use Rattle.std.proofs.Common.{◌≡◌, ◌↔◌, ℕ, ◌⊎◌, inl, inr, List, [], ◌∷◌, codes, Bool, true, false, bytes_eq, map, Option, Some, None, refl, sym, ap, subst, ◌∙◌}
use Rattle.std.specs.Prelude.{if◌then◌else◌}
use Rattle.std.specs.Option.{IsSomeAnd, option_and_then}
use Rattle.json_tree.specs.Values.{Json, null, truth, number, text, array, object}
use Rattle.json_tree.specs.Members.{members_in}
use Rattle.dt_base.specs.names.Grammar.{Identifier, NameText}
use Rattle.dtdl_terms.specs.Terms.{SchemaTerm, KindTerm, telemetry, property, command, relationship, component, ContentTerm, ContentTerms}
use Rattle.dtdl_terms.specs.TermViews.{schema_term, kind_term}
use Rattle.dtdl_terms.specs.declared.interface.Interface.{Interface}
use Rattle.dtdl_terms.specs.declared.resolved.NamedIn.{NamedIn}
use Rattle.dtdl_terms.specs.declared.resolved.Resolved.{Resolved}
use Rattle.dtdl_terms.specs.declared.resolved.ResolvedContent.{ResolvedContent}
use Rattle.extend_resolve.specs.Breaches.{BreaksNoRule}
use Rattle.model_life.specs.resolution.Resolving.{IsResolved}
use Rattle.model_life.specs.resolution.Machinery.Families.{IsThere}
use Rattle.twin_value.specs.Named.{content_called, property_called, part_of}
use Rattle.twin_value.specs.Roles.{Library, Role, anything, any_text, any_object, twin_metadata, target_id, link_name, twin_body, part_body, link_body, value_of, body_member_role, element_role, schemas_in, schemas_from, contents_in, declared_role, twin_declared_role, twin_content_role, part_content_role, link_property_role, twin_role, body_part_role, link_role, content_kind}
use Rattle.twin_value.specs.Breaches.{BreaksBody, HasBodyPart, IsBodyBreach, IsTwinBreach, IsLinkBreach, NamesNone, as_link, link_called, named_link, link_source, link_properties, body_role, library_of, twin_role_of, link_role_of, text_under}
use Rattle.twin_value.specs.Twins.{same_value, without_metadata, is_value_role, is_part_role, property_members, component_members}
use Rattle.twin_value.specs.declared.code.BodyCode.{BodyCode}
use Rattle.twin_value.specs.declared.code.BodyCode.TheVariants as code
use Rattle.twin_value.proofs.Gathered.{picked_same}
use Rattle.graph_steps.specs.Inherited.{contents, inherited}
use Rattle.graph_steps.proofs.bodies.Looking.{contents_alike, named_alike, parts_alike}

-- ---- breaches in two roles
module _ (r s : Role) (here : (v : Json) (broken : BodyCode) → BreaksBody broken r v → BreaksBody broken s v) (elements : element_role r ≡ element_role s)
    (members : (key : List ℕ) (part : Json) (place : List ℕ) (broken : BodyCode) → IsBodyBreach (body_member_role r key) part place broken → IsBodyBreach (body_member_role s key) part place broken) where
  below : (v : Json) (i : ℕ) (t : Role) (part : Json) (place : List ℕ) (broken : BodyCode) → HasBodyPart r v i t part → IsBodyBreach t part place broken → IsBodyBreach s v (i ∷ place) broken
  below null i t part place broken p b = absurd p
  below (truth x) i t part place broken p b = absurd p
  below (number n) i t part place broken p b = absurd p
  below (text bytes) i t part place broken p b = absurd p
  below (array vs) i t part place broken p b = (t, part, (p.0, sym elements ∙ p.1), b)
  below (object ms) i t part place broken (key, at, is) b =
      (body_member_role s key, part, (key, at, refl), members key part place broken (subst (λ (q : Role). IsBodyBreach q part place broken) (sym is) b))

  pub breach_moves : (v : Json) (place : List ℕ) (broken : BodyCode) → IsBodyBreach r v place broken → IsBodyBreach s v place broken
  breach_moves v [] broken b = here v broken b
  breach_moves v (i ∷ place) broken (t, part, p, b) = below v i t part place broken p b

-- ---- components
part_breaks : (l k : Library) (cs ds : List ResolvedContent) (v : Json) (broken : BodyCode) → BreaksBody broken (part_body l cs) v → BreaksBody broken (part_body k ds) v
part_breaks l k cs ds v code.WrongKind b = b
part_breaks l k cs ds v code.MissingKey b = b
part_breaks l k cs ds v code.BadId b = b
part_breaks l k cs ds v code.UnknownMember b = b
part_breaks l k cs ds v code.BadValue b = b
part_breaks l k cs ds v code.UnknownRelationship b = b

-- Two roles are one, or two of components whose members have one role each.
abbrev pub AreAlike : Role → Role → Type 0
AreAlike r s = (r ≡ s) ⊎ ((l k : Library) × (cs ds : List ResolvedContent) × (r ≡ part_body l cs) × (s ≡ part_body k ds) × ((key : List ℕ) → body_part_role l cs key ≡ body_part_role k ds key))

part_moves : (l k : Library) (cs ds : List ResolvedContent) → ((key : List ℕ) → body_part_role l cs key ≡ body_part_role k ds key) → (v : Json) (place : List ℕ) (broken : BodyCode)
    → IsBodyBreach (part_body l cs) v place broken → IsBodyBreach (part_body k ds) v place broken
part_moves l k cs ds same =
    breach_moves (part_body l cs) (part_body k ds) (part_breaks l k cs ds) refl (λ key part place broken b. subst (λ (q : Role). IsBodyBreach q part place broken) (same key) b)

pub alike_moves : (r s : Role) → AreAlike r s → (v : Json) (place : List ℕ) (broken : BodyCode) → IsBodyBreach r v place broken → IsBodyBreach s v place broken
alike_moves r s (inl e) v place broken b = subst (λ (q : Role). IsBodyBreach q v place broken) e b
alike_moves r s (inr (l, k, cs, ds, e, f, same)) v place broken b =
    subst (λ (q : Role). IsBodyBreach q v place broken) (sym f) (part_moves l k cs ds same v place broken (subst (λ (q : Role). IsBodyBreach q v place broken) e b))

pub alike_back : (r s : Role) → AreAlike r s → AreAlike s r
alike_back r s (inl e) = inl (sym e)
alike_back r s (inr (l, k, cs, ds, e, f, same)) = inr (k, l, ds, cs, f, e, λ key. sym (same key))

alike_values : (r s : Role) → AreAlike r s → is_value_role r ≡ is_value_role s
alike_values r s (inl e) = ap is_value_role e
alike_values r s (inr (l, k, cs, ds, e, f, same)) = ap is_value_role e ∙ sym (ap is_value_role f)

alike_parts : (r s : Role) → AreAlike r s → is_part_role r ≡ is_part_role s
alike_parts r s (inl e) = ap is_part_role e
alike_parts r s (inr (l, k, cs, ds, e, f, same)) = ap is_part_role e ∙ sym (ap is_part_role f)

-- ---- look-ups that agree
module _ (l k : Library) (cs ds : List ResolvedContent) (called : (key : List ℕ) → content_called key cs ≡ content_called key ds) (schemas : (from : Identifier) → schemas_from l from ≡ schemas_from k from)
    (parts : (of : Identifier) (key : List ℕ) → content_called key (contents_in (part_of of l.parts)) ≡ content_called key (contents_in (part_of of k.parts))) where
  declared_same : (from : Identifier) (kind : KindTerm) → declared_role l from kind ≡ declared_role k from kind
  declared_same from (property s semantic unit writable) = ap (λ (ns : List SchemaTerm). value_of ns s) (schemas from)
  declared_same from (telemetry s semantic unit) = refl
  declared_same from (command request response) = refl
  declared_same from (relationship target properties most writable) = refl
  declared_same from (component of) = refl

  part_content_same : (c : Option ResolvedContent) → part_content_role l c ≡ part_content_role k c
  part_content_same None = refl
  part_content_same (Some c) = declared_same c.from (kind_term c.content.kind)

  part_same : (es fs : List ResolvedContent) → ((key : List ℕ) → content_called key es ≡ content_called key fs) → (key : List ℕ) → body_part_role l es key ≡ body_part_role k fs key
  part_same es fs same key =
      ap (λ (q : Role). if bytes_eq key (codes "$metadata") then any_object else q) (part_content_same (content_called key es) ∙ ap (part_content_role k) (same key))

  twin_declared_alike : (from : Identifier) (kind : KindTerm) → AreAlike (twin_declared_role l from kind) (twin_declared_role k from kind)
  twin_declared_alike from (component of) =
      inr (l, k, contents_in (part_of of l.parts), contents_in (part_of of k.parts), refl, refl, part_same (contents_in (part_of of l.parts)) (contents_in (part_of of k.parts)) (parts of))
  twin_declared_alike from (property s semantic unit writable) = inl (declared_same from (property s semantic unit writable))
  twin_declared_alike from (telemetry s semantic unit) = inl refl
  twin_declared_alike from (command request response) = inl refl
  twin_declared_alike from (relationship target properties most writable) = inl refl

  twin_content_alike : (c : Option ResolvedContent) → AreAlike (twin_content_role l c) (twin_content_role k c)
  twin_content_alike None = inl refl
  twin_content_alike (Some c) = twin_declared_alike c.from (kind_term c.content.kind)

  among_others : (a b c : Bool) (r s : Role) → AreAlike r s
      → AreAlike (if a then twin_metadata else (if b then any_text else (if c then anything else r))) (if a then twin_metadata else (if b then any_text else (if c then anything else s)))
  among_others true b c r s h = inl refl
  among_others false true c r s h = inl refl
  among_others false false true r s h = inl refl
  among_others false false false r s h = h

  pub twin_member_alike : (key : List ℕ) → AreAlike (twin_role l cs key) (twin_role k ds key)
  twin_member_alike key =
      among_others (bytes_eq key (codes "$metadata")) (bytes_eq key (codes "$dtId")) (bytes_eq key (codes "$etag")) (twin_content_role l (content_called key cs)) (twin_content_role k (content_called key ds))
      (subst (λ (c : Option ResolvedContent). AreAlike (twin_content_role l (content_called key cs)) (twin_content_role k c)) (called key) (twin_content_alike (content_called key cs)))

  link_property_same : (from : Option Identifier) (c : Option ContentTerm) → link_property_role l from c ≡ link_property_role k from c
  link_property_same None c = refl
  link_property_same (Some from) None = refl
  link_property_same (Some from) (Some c) = declared_same from (content_kind c)

  link_after : (a b c d e f : Bool) (r s : Role) → r ≡ s
      → (if a then target_id else (if b then link_name else (if c then any_text else (if d then any_text else (if e then anything else (if f then anything else r))))))
      ≡ (if a then target_id else (if b then link_name else (if c then any_text else (if d then any_text else (if e then anything else (if f then anything else s))))))
  link_after a b c d e f r s same = ap (λ (q : Role). if a then target_id else (if b then link_name else (if c then any_text else (if d then any_text else (if e then anything else (if f then anything else q)))))) same

  pub link_member_same : (from : Option Identifier) (ps : ContentTerms) (key : List ℕ) → link_role l from ps key ≡ link_role k from ps key
  link_member_same from ps key =
      link_after (bytes_eq key (codes "$targetId")) (bytes_eq key (codes "$relationshipName")) (bytes_eq key (codes "$relationshipId")) (bytes_eq key (codes "$sourceId")) (bytes_eq key (codes "$etag")) (bytes_eq key (codes "$metadata"))
      (link_property_role l from (property_called key ps)) (link_property_role k from (property_called key ps)) (link_property_same from (property_called key ps))

-- ---- bodies
twin_breaks : (l k : Library) (cs ds : List ResolvedContent) (v : Json) (broken : BodyCode) → BreaksBody broken (twin_body l cs) v → BreaksBody broken (twin_body k ds) v
twin_breaks l k cs ds v code.WrongKind b = b
twin_breaks l k cs ds v code.MissingKey b = b
twin_breaks l k cs ds v code.BadId b = b
twin_breaks l k cs ds v code.UnknownMember b = b
twin_breaks l k cs ds v code.BadValue b = b
twin_breaks l k cs ds v code.UnknownRelationship b = b

link_breaks : (l k : Library) (from : Option Identifier) (ps : ContentTerms) (v : Json) (broken : BodyCode) → BreaksBody broken (link_body l from ps) v → BreaksBody broken (link_body k from ps) v
link_breaks l k from ps v code.WrongKind b = b
link_breaks l k from ps v code.MissingKey b = b
link_breaks l k from ps v code.BadId b = b
link_breaks l k from ps v code.UnknownMember b = b
link_breaks l k from ps v code.BadValue b = b
link_breaks l k from ps v code.UnknownRelationship b = b

twin_moves : (l k : Library) (cs ds : List ResolvedContent) → ((key : List ℕ) → AreAlike (twin_role l cs key) (twin_role k ds key)) → (v : Json) (place : List ℕ) (broken : BodyCode)
    → IsBodyBreach (twin_body l cs) v place broken → IsBodyBreach (twin_body k ds) v place broken
twin_moves l k cs ds same =
    breach_moves (twin_body l cs) (twin_body k ds) (twin_breaks l k cs ds) refl (λ key part place broken b. alike_moves (twin_role l cs key) (twin_role k ds key) (same key) part place broken b)

link_moves : (l k : Library) (from : Option Identifier) (ps : ContentTerms) → ((key : List ℕ) → link_role l from ps key ≡ link_role k from ps key) → (v : Json) (place : List ℕ) (broken : BodyCode)
    → IsBodyBreach (link_body l from ps) v place broken → IsBodyBreach (link_body k from ps) v place broken
link_moves l k from ps same =
    breach_moves (link_body l from ps) (link_body k from ps) (link_breaks l k from ps) refl (λ key part place broken b. subst (λ (q : Role). IsBodyBreach q part place broken) (same key) b)

-- ---- what `resolve` lists, and what the graph's definitions speak of
module _ (set : List Interface) (sound : BreaksNoRule set) (i : Interface) (there : IsThere set i) (r : Resolved) (is : IsResolved set i r) where
  called : (key : List ℕ) → content_called key r.contents ≡ content_called key (contents set i)
  called key = contents_alike set sound i there r.contents is.contents key

  schemas_same : (from : Identifier) → schemas_from (library_of r) from ≡ schemas_from (library_of (inherited set i)) from
  schemas_same from = ap (λ (n : Option NamedIn). map schema_term (schemas_in n)) (named_alike set sound i there r.named is.named from)

  parts_same : (of : Identifier) (key : List ℕ) → content_called key (contents_in (part_of of r.parts)) ≡ content_called key (contents_in (part_of of (inherited set i).parts))
  parts_same of key = parts_alike set sound i there r.parts is.parts of key

  pub member_alike : (key : List ℕ) → AreAlike (body_member_role (twin_role_of r) key) (body_member_role (twin_role_of (inherited set i)) key)
  member_alike key = twin_member_alike (library_of r) (library_of (inherited set i)) r.contents (contents set i) called schemas_same parts_same key

  pub twin_alike : (v : Json) (place : List ℕ) (broken : BodyCode) → IsTwinBreach r v place broken ↔ IsTwinBreach (inherited set i) v place broken
  twin_alike v place broken = (
    twin_moves (library_of r) (library_of (inherited set i)) r.contents (contents set i) member_alike v place broken,
    twin_moves (library_of (inherited set i)) (library_of r) (contents set i) r.contents (λ key. alike_back (body_member_role (twin_role_of r) key) (body_member_role (twin_role_of (inherited set i)) key) (member_alike key)) v place broken,
  )

  pub part_alike : (name : List ℕ) (v : Json) (place : List ℕ) (broken : BodyCode) → IsBodyBreach (body_member_role (twin_role_of r) name) v place broken ↔ IsBodyBreach (body_member_role (twin_role_of (inherited set i)) name) v place broken
  part_alike name v place broken = (
    alike_moves (body_member_role (twin_role_of r) name) (body_member_role (twin_role_of (inherited set i)) name) (member_alike name) v place broken,
    alike_moves (body_member_role (twin_role_of (inherited set i)) name) (body_member_role (twin_role_of r) name) (alike_back (body_member_role (twin_role_of r) name) (body_member_role (twin_role_of (inherited set i)) name) (member_alike name)) v place broken,
  )

  pub properties_alike : (v : Json) → property_members (twin_role_of r) v ≡ property_members (twin_role_of (inherited set i)) v
  properties_alike v =
      picked_same (λ key. is_value_role (body_member_role (twin_role_of r) key)) (λ key. is_value_role (body_member_role (twin_role_of (inherited set i)) key)) same_value
      (λ key. alike_values (body_member_role (twin_role_of r) key) (body_member_role (twin_role_of (inherited set i)) key) (member_alike key)) (members_in v)

  pub components_alike : (v : Json) → component_members (twin_role_of r) v ≡ component_members (twin_role_of (inherited set i)) v
  components_alike v =
      picked_same (λ key. is_part_role (body_member_role (twin_role_of r) key)) (λ key. is_part_role (body_member_role (twin_role_of (inherited set i)) key)) without_metadata
      (λ key. alike_parts (body_member_role (twin_role_of r) key) (body_member_role (twin_role_of (inherited set i)) key) (member_alike key)) (members_in v)

  -- relationships
  pub link_called_alike : (name : List ℕ) → link_called name r.contents ≡ link_called name (contents set i)
  link_called_alike name = ap as_link (called name)

  link_under : (o : Option (List ℕ)) → option_and_then (λ name. link_called name r.contents) o ≡ option_and_then (λ name. link_called name (contents set i)) o
  link_under None = refl
  link_under (Some name) = link_called_alike name

  link_of_alike : (v : Json) → named_link r.contents v ≡ named_link (contents set i) v
  link_of_alike v = link_under (text_under (codes "$relationshipName") v)

  names_there : (o : Option (List ℕ)) → IsSomeAnd o (λ name. NameText name × (link_called name r.contents ≡ None)) → IsSomeAnd o (λ name. NameText name × (link_called name (contents set i) ≡ None))
  names_there None h = h
  names_there (Some name) h = (h.0, sym (link_called_alike name) ∙ h.1)

  names_back : (o : Option (List ℕ)) → IsSomeAnd o (λ name. NameText name × (link_called name (contents set i) ≡ None)) → IsSomeAnd o (λ name. NameText name × (link_called name r.contents ≡ None))
  names_back None h = h
  names_back (Some name) h = (h.0, link_called_alike name ∙ h.1)

  pub names_alike : (v : Json) → NamesNone r v ↔ NamesNone (inherited set i) v
  names_alike v = (names_there (text_under (codes "$relationshipName") v), names_back (text_under (codes "$relationshipName") v))

  link_role_there : (v : Json) (place : List ℕ) (broken : BodyCode) → IsBodyBreach (link_role_of r v) v place broken → IsBodyBreach (link_role_of (inherited set i) v) v place broken
  link_role_there v place broken b =
      let link : Option ResolvedContent = named_link r.contents v in
      subst (λ (o : Option ResolvedContent). IsBodyBreach (body_role (library_of (inherited set i)) o) v place broken) (link_of_alike v)
      (link_moves (library_of r) (library_of (inherited set i)) (link_source link) (link_properties link) (link_member_same (library_of r) (library_of (inherited set i)) r.contents (contents set i) called schemas_same parts_same (link_source link) (link_properties link)) v place broken b)

  link_role_back : (v : Json) (place : List ℕ) (broken : BodyCode) → IsBodyBreach (link_role_of (inherited set i) v) v place broken → IsBodyBreach (link_role_of r v) v place broken
  link_role_back v place broken b =
      let link : Option ResolvedContent = named_link r.contents v in
      link_moves (library_of (inherited set i)) (library_of r) (link_source link) (link_properties link)
      (λ key. sym (link_member_same (library_of r) (library_of (inherited set i)) r.contents (contents set i) called schemas_same parts_same (link_source link) (link_properties link) key)) v place broken
      (subst (λ (o : Option ResolvedContent). IsBodyBreach (body_role (library_of (inherited set i)) o) v place broken) (sym (link_of_alike v)) b)

  link_there : (v : Json) (place : List ℕ) (broken : BodyCode) → IsLinkBreach r v place broken → IsLinkBreach (inherited set i) v place broken
  link_there v place broken (inl b) = inl ((names_alike v).0 b.0, b.1, b.2)
  link_there v place broken (inr b) = inr (λ n. b.0 ((names_alike v).1 n), link_role_there v place broken b.1)

  link_back : (v : Json) (place : List ℕ) (broken : BodyCode) → IsLinkBreach (inherited set i) v place broken → IsLinkBreach r v place broken
  link_back v place broken (inl b) = inl ((names_alike v).1 b.0, b.1, b.2)
  link_back v place broken (inr b) = inr (λ n. b.0 ((names_alike v).0 n), link_role_back v place broken b.1)

  pub link_alike : (v : Json) (place : List ℕ) (broken : BodyCode) → IsLinkBreach r v place broken ↔ IsLinkBreach (inherited set i) v place broken
  link_alike v place broken = (link_there v place broken, link_back v place broken)

  -- the members that are properties of a relationship
  link_member_alike : (v : Json) (key : List ℕ) → body_member_role (link_role_of r v) key ≡ body_member_role (link_role_of (inherited set i) v) key
  link_member_alike v key =
      let link : Option ResolvedContent = named_link r.contents v in
      link_member_same (library_of r) (library_of (inherited set i)) r.contents (contents set i) called schemas_same parts_same (link_source link) (link_properties link) key
      ∙ ap (λ (o : Option ResolvedContent). body_member_role (body_role (library_of (inherited set i)) o) key) (link_of_alike v)

  pub payload_alike : (v : Json) → property_members (link_role_of r v) v ≡ property_members (link_role_of (inherited set i) v) v
  payload_alike v =
      picked_same (λ key. is_value_role (body_member_role (link_role_of r v) key)) (λ key. is_value_role (body_member_role (link_role_of (inherited set i) v) key)) same_value
      (λ key. ap is_value_role (link_member_alike v key)) (members_in v)
