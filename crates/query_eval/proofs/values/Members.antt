-- What a member of a twin and of a relationship is, as it is printed.
use Rattle.std.proofs.Common.{◌≡◌, ℕ, List, Bool, true, false, cond, bytes_eq, codes, Option, Some, None, refl, sym, ap, ◌∙◌, true≢false}
use Rattle.std.specs.Option.{option_map}
use Rattle.std.proofs.lemmas.Slice.Eq.{bytes_eq-Decides}
use Rattle.dt_base.specs.names.Grammar.{dtmi_text}
use Rattle.json_decimal.specs.Number.{Number}
use Rattle.json_tree.specs.Values.{Json, text, object, Members, no_members, member}
use Rattle.json_tree.specs.Members.{members_in, value_at, value_in}
use Rattle.twin_patch.specs.Objects.{sorted_value}
use Rattle.twin_value.specs.Twins.{picked, joined_members, any_key, with_metadata}
use Rattle.graph_steps.specs.States.{Twin, Link, part_value, twin_object, twin_value, link_object, link_value}
use Rattle.graph_steps.specs.bodies.Kept.{IsSorted, IsKeptTwin, IsKeptLink}
use Rattle.graph_steps.proofs.invariants.Printed.{value_in-sorted}
use Rattle.query_eval.specs.values.Machinery.Members.{otherwise, content_in, member_text_of}

-- ---- keys
turned : (a b : List ℕ) (r : Bool) → bytes_eq a b ≡ r → bytes_eq b a ≡ r
turned a b true e = (bytes_eq-Decides b a).1 (sym ((bytes_eq-Decides a b).0 e))
turned a b false e = by (bytes_eq b a) refl
  where
    by : (r : Bool) → bytes_eq b a ≡ r → bytes_eq b a ≡ false
    by true f = absurd (true≢false (sym ((bytes_eq-Decides a b).1 (sym ((bytes_eq-Decides b a).0 f))) ∙ e))
    by false f = f

-- ---- members
value-joined : (key : List ℕ) (ms ns : Members Number) → value_at key (joined_members ms ns) ≡ otherwise (value_at key ms) (value_at key ns)
value-joined key no_members ns = refl
value-joined key (member k v ms) ns = ap (cond (bytes_eq k key) (Some v)) (value-joined key ms ns) ∙ both (bytes_eq k key)
  where
    both : (b : Bool) → cond b (Some v) (otherwise (value_at key ms) (value_at key ns)) ≡ otherwise (cond b (Some v) (value_at key ms)) (value_at key ns)
    both true = refl
    both false = refl

value-every : (key : List ℕ) (f : Json → Json) (ms : Members Number) → value_at key (picked any_key f ms) ≡ option_map f (value_at key ms)
value-every key f no_members = refl
value-every key f (member k v ms) = ap (cond (bytes_eq k key) (Some (f v))) (value-every key f ms) ∙ both (bytes_eq k key)
  where
    both : (b : Bool) → cond b (Some (f v)) (option_map f (value_at key ms)) ≡ option_map f (cond b (Some v) (value_at key ms))
    both true = refl
    both false = refl

-- what a sorted value has inside is sorted
sorted_in : (v : Json) (name : List ℕ) → IsSorted v → option_map sorted_value (value_in name v) ≡ value_in name v
sorted_in v name sorted = sym (value_in-sorted name v) ∙ ap (value_in name) sorted

-- ---- twins
module _ (t : Twin) (kept : IsKeptTwin t) (name : List ℕ) where
  abbrev contents : Members Number
  contents = joined_members (members_in t.values) (picked any_key with_metadata (members_in t.parts))

  abbrev metadata : Json
  metadata = object (member (codes "$model") (text (dtmi_text t.model)) no_members)

  as_printed : (v w : Option Json) → option_map sorted_value v ≡ v → option_map sorted_value (otherwise v (option_map with_metadata w)) ≡ otherwise v (option_map part_value w)
  as_printed (Some v) w sorted = sorted
  as_printed None None sorted = refl
  as_printed None (Some w) sorted = refl

  content_printed : option_map sorted_value (value_at name contents) ≡ content_in name t
  content_printed =
      ap (option_map sorted_value) (value-joined name (members_in t.values) (picked any_key with_metadata (members_in t.parts)) ∙ ap (otherwise (value_in name t.values)) (value-every name with_metadata (members_in t.parts)))
      ∙ as_printed (value_in name t.values) (value_in name t.parts) (sorted_in t.values name kept.values)

  printed : (id_key metadata_key : Bool) → bytes_eq (codes "$dtId") name ≡ id_key → bytes_eq (codes "$metadata") name ≡ metadata_key
      → value_in name (twin_value t) ≡ option_map sorted_value (cond id_key (Some (text t.id)) (cond metadata_key (Some metadata) (value_at name contents)))
  printed id_key metadata_key e f =
      value_in-sorted name (twin_object t)
      ∙ ap (λ b. option_map sorted_value (cond b (Some (text t.id)) (cond (bytes_eq (codes "$metadata") name) (Some metadata) (value_at name contents)))) e
      ∙ ap (λ b. option_map sorted_value (cond id_key (Some (text t.id)) (cond b (Some metadata) (value_at name contents)))) f

  pub id_in : bytes_eq name (codes "$dtId") ≡ true → value_in name (twin_value t) ≡ Some (text t.id)
  id_in e = printed true (bytes_eq (codes "$metadata") name) (turned name (codes "$dtId") true e) refl

  pub metadata_in : bytes_eq name (codes "$dtId") ≡ false → bytes_eq name (codes "$metadata") ≡ true → value_in name (twin_value t) ≡ Some metadata
  metadata_in e f = printed false true (turned name (codes "$dtId") false e) (turned name (codes "$metadata") true f)

  pub other_in : bytes_eq name (codes "$dtId") ≡ false → bytes_eq name (codes "$metadata") ≡ false → value_in name (twin_value t) ≡ content_in name t
  other_in e f = printed false false (turned name (codes "$dtId") false e) (turned name (codes "$metadata") false f) ∙ content_printed

-- ---- components
module _ (v : Json) (sorted : IsSorted v) (name : List ℕ) where
  pub empty_in : bytes_eq name (codes "$metadata") ≡ true → value_in name (part_value v) ≡ Some (object no_members)
  empty_in e =
      value_in-sorted name (with_metadata v)
      ∙ ap (λ b. option_map sorted_value (cond b (Some (object no_members)) (value_in name v))) (turned name (codes "$metadata") true e)

  pub held_in : bytes_eq name (codes "$metadata") ≡ false → value_in name (part_value v) ≡ value_in name v
  held_in e =
      value_in-sorted name (with_metadata v)
      ∙ ap (λ b. option_map sorted_value (cond b (Some (object no_members)) (value_in name v))) (turned name (codes "$metadata") false e)
      ∙ sorted_in v name sorted

-- ---- relationships
module _ (l : Link) (kept : IsKeptLink l) (name : List ℕ) where
  abbrev values : Bool → Bool → Bool → Bool → Option Json
  values i n s t = cond i (Some (text l.id)) (cond n (Some (text l.name)) (cond s (Some (text l.source)) (cond t (Some (text l.target)) (value_in name l.payload))))

  abbrev texts : Bool → Bool → Bool → Bool → Option (List ℕ)
  texts i n s t = cond i (Some l.id) (cond n (Some l.name) (cond s (Some l.source) (cond t (Some l.target) None)))

  by : (i n s t : Bool) → option_map sorted_value (values i n s t) ≡ otherwise (option_map text (texts i n s t)) (value_in name l.payload)
  by true n s t = refl
  by false true s t = refl
  by false false true t = refl
  by false false false true = refl
  by false false false false = sorted_in l.payload name kept.payload

  either_way : (key : List ℕ) → bytes_eq key name ≡ bytes_eq name key
  either_way key = turned name key (bytes_eq name key) refl

  pub link_in : value_in name (link_value l) ≡ otherwise (option_map text (member_text_of name l)) (value_in name l.payload)
  link_in =
      let i = codes "$relationshipId" in
      let n = codes "$relationshipName" in
      let s = codes "$sourceId" in
      let t = codes "$targetId" in
      value_in-sorted name (link_object l)
      ∙ ap (λ b. option_map sorted_value (values b (bytes_eq n name) (bytes_eq s name) (bytes_eq t name))) (either_way i)
      ∙ ap (λ b. option_map sorted_value (values (bytes_eq name i) b (bytes_eq s name) (bytes_eq t name))) (either_way n)
      ∙ ap (λ b. option_map sorted_value (values (bytes_eq name i) (bytes_eq name n) b (bytes_eq t name))) (either_way s)
      ∙ ap (λ b. option_map sorted_value (values (bytes_eq name i) (bytes_eq name n) (bytes_eq name s) b)) (either_way t)
      ∙ by (bytes_eq name i) (bytes_eq name n) (bytes_eq name s) (bytes_eq name t)
