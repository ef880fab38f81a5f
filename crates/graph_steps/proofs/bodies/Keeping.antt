-- What a graph keeps of a body can be printed.
use Rattle.std.proofs.Common.{◌≡◌, ℕ, List, codes, true, false, bytes_eq, Some, refl, sym, ◌∙◌}
use Rattle.std.specs.Prelude.{not, IsTrue}
use Rattle.std.proofs.lemmas.Slice.Eq.{bytes_eq-Decides}
use Rattle.json_decimal.specs.Number.{Number}
use Rattle.json_tree.specs.Values.{Json, object, Members, LacksKey, HasDistinctKeys, MembersHaveDistinctKeys}
use Rattle.json_tree.specs.Members.{members_in}
use Rattle.dt_base.specs.names.Grammar.{Identifier}
use Rattle.dtdl_terms.specs.declared.resolved.Resolved.{Resolved}
use Rattle.twin_patch.specs.Objects.{sorted_value, sorted_members}
use Rattle.twin_patch.specs.Machinery.Orders.{IsInOrder}
use Rattle.twin_patch.proofs.Ordered.{sorted_order, members_order}
use Rattle.twin_value.specs.Roles.{Role, anything, undeclared, any_text, any_object, model_id, target_id, link_name, twin_metadata, twin_body, part_body, link_body, value, body_member_role}
use Rattle.twin_value.specs.Breaches.{twin_role_of, link_role_of}
use Rattle.twin_value.specs.Twins.{picked, joined_members, same_value, any_key, is_value_role, is_part_role, property_members, component_members, without_metadata, with_metadata}
use Rattle.graph_steps.specs.States.{Twin}
use Rattle.graph_steps.specs.TwinAsks.{component_at}
use Rattle.graph_steps.specs.bodies.Kept.{IsKeptTwin, IsKeptLink, IsKeptPart}
use Rattle.graph_steps.proofs.bodies.Keys.{order_distinct, order_sorted, members_distinct, sorted_again, sorted_in_order, lacks_sorted, lacks_picked, lacks_failing, lacks_joined, lacks_sorted_value, keys_sorted, keys_weaker, keys_picked, values_sorted, values_picked, values_weaker, values_distinct, value_has, distinct_picked, distinct_joined, distinct_right, distinct_values, members_of_distinct, members_in_order, values_in_order}

-- two texts that are not one
differ : (a b : List ℕ) → bytes_eq a b ≡ false → a ≡ b → ⊥
differ a b apart same = let e : true ≡ false = sym ((bytes_eq-Decides a b).1 same) ∙ apart in absurd cc

-- ---- components
bare : (v : Json) → LacksKey (codes "$metadata") (members_in (without_metadata v))
bare v = lacks_failing (λ key. not (bytes_eq key (codes "$metadata"))) same_value (codes "$metadata") refl (members_in v)

pub bare_distinct : (v : Json) → HasDistinctKeys v → HasDistinctKeys (without_metadata v)
bare_distinct v d =
    let ms : MembersHaveDistinctKeys (members_in v) = members_of_distinct v d in
    distinct_picked (λ key. not (bytes_eq key (codes "$metadata"))) same_value (members_in v) ms (values_distinct (members_in v) ms)

-- a sorted value without `$metadata`
printable : (v : Json) → LacksKey (codes "$metadata") (members_in v) → HasDistinctKeys (with_metadata (sorted_value v))
printable v lacks = (lacks_sorted_value (codes "$metadata") v lacks, tt, members_of_distinct (sorted_value v) (order_distinct (sorted_value v) (sorted_order v)))

pub kept_bare : (v : Json) → IsKeptPart (sorted_value (without_metadata v))
kept_bare v = record { sorted = sorted_again (without_metadata v); distinct = printable (without_metadata v) (bare v) }

-- ---- twins
no_part : (r : Role) → IsTrue (is_value_role r) → is_part_role r ≡ false
no_part (value ns s) h = refl
no_part anything h = refl
no_part undeclared h = refl
no_part any_text h = refl
no_part any_object h = refl
no_part model_id h = refl
no_part target_id h = refl
no_part link_name h = refl
no_part twin_metadata h = refl
no_part (twin_body l cs) h = refl
no_part (part_body l cs) h = absurd (let e : false ≡ true = h in cc)
no_part (link_body l from ps) h = refl

abbrev its_values : Resolved → Json → Members Number
its_values r v = property_members (twin_role_of r) v

abbrev its_parts : Resolved → Json → Members Number
its_parts r v = component_members (twin_role_of r) v

module _ (r : Resolved) (v : Json) where
  pub properties_distinct : HasDistinctKeys v → HasDistinctKeys (object (its_values r v))
  properties_distinct d =
      let ms : MembersHaveDistinctKeys (members_in v) = members_of_distinct v d in
      distinct_picked (λ key. is_value_role (body_member_role (twin_role_of r) key)) same_value (members_in v) ms (values_distinct (members_in v) ms)

  pub components_distinct : HasDistinctKeys v → HasDistinctKeys (object (its_parts r v))
  components_distinct d =
      let ms : MembersHaveDistinctKeys (members_in v) = members_of_distinct v d in
      distinct_picked (λ key. is_part_role (body_member_role (twin_role_of r) key)) without_metadata (members_in v) ms
      (values_weaker (λ (w : Json). HasDistinctKeys w) (λ w. HasDistinctKeys (without_metadata w)) bare_distinct (members_in v) (values_distinct (members_in v) ms))

  parts_lack : (key : List ℕ) → is_part_role (body_member_role (twin_role_of r) key) ≡ false → LacksKey key (picked any_key with_metadata (sorted_members (its_parts r v)))
  parts_lack key e =
      lacks_picked any_key with_metadata key (sorted_members (its_parts r v))
      (lacks_sorted key (its_parts r v) (lacks_failing (λ k. is_part_role (body_member_role (twin_role_of r) k)) without_metadata key e (members_in v)))

  values_lack : (key : List ℕ) → is_value_role (body_member_role (twin_role_of r) key) ≡ false → LacksKey key (sorted_members (its_values r v))
  values_lack key e = lacks_sorted key (its_values r v) (lacks_failing (λ k. is_value_role (body_member_role (twin_role_of r) k)) same_value key e (members_in v))

  rest_lacks : (key : List ℕ) → is_value_role (body_member_role (twin_role_of r) key) ≡ false → is_part_role (body_member_role (twin_role_of r) key) ≡ false
      → LacksKey key (joined_members (sorted_members (its_values r v)) (picked any_key with_metadata (sorted_members (its_parts r v))))
  rest_lacks key e f = lacks_joined key (sorted_members (its_values r v)) (picked any_key with_metadata (sorted_members (its_parts r v))) (values_lack key e) (parts_lack key f)

  parts_distinct : MembersHaveDistinctKeys (picked any_key with_metadata (sorted_members (its_parts r v)))
  parts_distinct =
      distinct_picked any_key with_metadata (sorted_members (its_parts r v)) (members_distinct (sorted_members (its_parts r v)) (members_order (its_parts r v)))
      (values_sorted (λ w. HasDistinctKeys (with_metadata w)) (its_parts r v)
      (values_picked (λ w. HasDistinctKeys (with_metadata (sorted_value w))) (λ key. is_part_role (body_member_role (twin_role_of r) key)) without_metadata (members_in v) (λ w. printable (without_metadata w) (bare w))))

  rest_distinct : MembersHaveDistinctKeys (joined_members (sorted_members (its_values r v)) (picked any_key with_metadata (sorted_members (its_parts r v))))
  rest_distinct =
      distinct_joined (sorted_members (its_values r v)) (picked any_key with_metadata (sorted_members (its_parts r v))) (members_distinct (sorted_members (its_values r v)) (members_order (its_values r v))) parts_distinct
      (keys_weaker (λ key. IsTrue (is_value_role (body_member_role (twin_role_of r) key))) (λ key. LacksKey key (picked any_key with_metadata (sorted_members (its_parts r v))))
      (λ key h. parts_lack key (no_part (body_member_role (twin_role_of r) key) h)) (sorted_members (its_values r v))
      (keys_sorted (λ key. IsTrue (is_value_role (body_member_role (twin_role_of r) key))) (its_values r v) (keys_picked (λ key. is_value_role (body_member_role (twin_role_of r) key)) same_value (members_in v))))

  pub kept_twin : (id : List ℕ) (model : Identifier) → IsKeptTwin (record { id = id; model = model; values = sorted_value (object (its_values r v)); parts = sorted_value (object (its_parts r v)) })
  kept_twin id model = record {
    values = sorted_again (object (its_values r v));
    parts = sorted_again (object (its_parts r v));
    distinct = (
      (differ (codes "$dtId") (codes "$metadata") refl, rest_lacks (codes "$dtId") refl refl),
      tt,
      (rest_lacks (codes "$metadata") refl refl, (tt, tt, tt), rest_distinct),
    );
  }

-- ---- relationships
module _ (r : Resolved) (v : Json) where
  pub payload_distinct : HasDistinctKeys v → HasDistinctKeys (object (property_members (link_role_of r v) v))
  payload_distinct d =
      let ms : MembersHaveDistinctKeys (members_in v) = members_of_distinct v d in
      distinct_picked (λ key. is_value_role (body_member_role (link_role_of r v) key)) same_value (members_in v) ms (values_distinct (members_in v) ms)

  payload_lacks : (key : List ℕ) → is_value_role (body_member_role (link_role_of r v) key) ≡ false → LacksKey key (sorted_members (property_members (link_role_of r v) v))
  payload_lacks key e =
      lacks_sorted key (property_members (link_role_of r v) v) (lacks_failing (λ k. is_value_role (body_member_role (link_role_of r v) k)) same_value key e (members_in v))

  pub kept_link : (source id name target : List ℕ) → IsKeptLink (record { source = source; id = id; name = name; target = target; payload = sorted_value (object (property_members (link_role_of r v) v)) })
  kept_link source id name target = record {
    payload = sorted_again (object (property_members (link_role_of r v) v));
    distinct = (
      (
        differ (codes "$relationshipId") (codes "$relationshipName") refl,
        (differ (codes "$relationshipId") (codes "$sourceId") refl, (differ (codes "$relationshipId") (codes "$targetId") refl, payload_lacks (codes "$relationshipId") refl)),
      ),
      tt,
      (
        (
          differ (codes "$relationshipName") (codes "$sourceId") refl,
          (differ (codes "$relationshipName") (codes "$targetId") refl, payload_lacks (codes "$relationshipName") refl),
        ),
        tt,
        (
          (differ (codes "$sourceId") (codes "$targetId") refl, payload_lacks (codes "$sourceId") refl),
          tt,
          (payload_lacks (codes "$targetId") refl, tt, members_distinct (sorted_members (property_members (link_role_of r v) v)) (members_order (property_members (link_role_of r v) v))),
        ),
      ),
    );
  }

-- ---- a component of a twin that is kept
pub kept_component : (t : Twin) (name : List ℕ) (v : Json) → IsKeptTwin t → component_at name t ≡ Some v → IsKeptPart v
kept_component t name v kept at =
    let order : IsInOrder v = value_has IsInOrder name (members_in t.parts) v (values_in_order (members_in t.parts) (members_in_order t.parts (sorted_in_order t.parts kept.parts))) at in
    record {
      sorted = order_sorted v order;
      distinct = value_has (λ w. HasDistinctKeys (with_metadata w)) name (members_in t.parts) v
          (distinct_values with_metadata (members_in t.parts) (distinct_right (members_in t.values) (picked any_key with_metadata (members_in t.parts)) kept.distinct.2.2)) at;
    }
