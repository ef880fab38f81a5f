-- Look-ups in what an interface has with all that it inherits: as `resolve` lists it, and as the definitions of the graph do.
use Rattle.std.proofs.Common.{◌≡◌, ◌↔◌, ℕ, ◌⊎◌, inl, inr, List, [], ◌∷◌, ◌++◌, map, Bool, true, false, cond, Option, Some, None, refl, sym, ap, subst, ◌∙◌, arith}
use Rattle.std.specs.Prelude.{Contains, bytes_eq}
use Rattle.std.specs.List.{find, flat_map}
use Rattle.std.specs.List.Sorted.{IsStrictlySortedBy}
use Rattle.std.proofs.lemmas.List.Elements.{Contains-append_left, Contains-append_right, Contains-append_cases}
use Rattle.std.proofs.lemmas.Option.{same_Some, none-some}
use Rattle.std.proofs.lemmas.Slice.Eq.{bytes_eq-Decides}
use Rattle.dt_base.specs.names.Grammar.{Identifier, dtmi_text}
use Rattle.dtdl_terms.specs.Sets.{interface_at}
use Rattle.dtdl_terms.specs.Terms.{KindTerm, telemetry, property, command, relationship, component}
use Rattle.dtdl_terms.specs.TermViews.{kind_term}
use Rattle.dtdl_terms.specs.declared.interface.Interface.{Interface}
use Rattle.dtdl_terms.specs.declared.schema.Schema.{Schema}
use Rattle.dtdl_terms.specs.declared.resolved.NamedIn.{NamedIn}
use Rattle.dtdl_terms.specs.declared.resolved.PartOf.{PartOf}
use Rattle.dtdl_terms.specs.declared.resolved.ResolvedContent.{ResolvedContent}
use Rattle.extend_resolve.specs.Breaches.{BreaksNoRule}
use Rattle.model_life.specs.resolution.Resolving.{Has, HasPart, IsSource, ListsContents, ListsNamed, ListsParts}
use Rattle.model_life.specs.resolution.Machinery.Families.{IsThere, declared_by}
use Rattle.model_life.proofs.resolution.ByKey.{C, contains_map, from_contains, in_contained, one_in}
use Rattle.model_life.proofs.resolution.Families.{stands, one_there}
use Rattle.twin_value.specs.Named.{is_called, content_called, named_of, part_of}
use Rattle.twin_value.specs.Roles.{contents_in}
use Rattle.model_life.proofs.sets.Apart.{contains_head, contains_tail, uncons}
use Rattle.graph_steps.specs.Inherited.{those, components_in, ancestors, declared_in, contents, parts, named_in, inherited}
use Rattle.graph_steps.proofs.bodies.Reaching.{in_flat, to_flat, in_those, to_those, ancestors_are}

-- ---- the first that passes
module _ {X : Type 0} (p : X → Bool) where
  found_behind : (y : X) (ys : List X) (x : X) (b : Bool) → p y ≡ b → cond b (Some y) (find p ys) ≡ Some x → (find p ys ≡ Some x → Contains ys x × (p x ≡ true)) → Contains (y ∷ ys) x × (p x ≡ true)
  found_behind y ys x true e h later = let same : y ≡ x = same_Some y x h in (subst (Contains (y ∷ ys)) same (contains_head y ys), subst (λ (z : X). p z ≡ true) same e)
  found_behind y ys x false e h later = let r = later h in (contains_tail y ys x r.0, r.1)

  pub found_in : (xs : List X) (x : X) → find p xs ≡ Some x → Contains xs x × (p x ≡ true)
  found_in [] x h = absurd (none-some x h)
  found_in (y ∷ ys) x h = found_behind y ys x (p y) refl h (found_in ys x)

  lost_behind : (y : X) (ys : List X) (x : X) (b : Bool) → p y ≡ b → cond b (Some y) (find p ys) ≡ None → (y ≡ x) ⊎ Contains ys x → p x ≡ true → (find p ys ≡ None → Contains ys x → p x ≡ true → ⊥) → ⊥
  lost_behind y ys x true e none h pass later = none-some y (sym none)
  lost_behind y ys x false e none (inl same) pass later = let f : false ≡ true = sym e ∙ ap p same ∙ pass in absurd cc
  lost_behind y ys x false e none (inr h) pass later = later none h pass

  pub lost_from : (xs : List X) (x : X) → find p xs ≡ None → Contains xs x → p x ≡ true → ⊥
  lost_from [] x none h pass = omega (arith, h.1)
  lost_from (y ∷ ys) x none h pass = lost_behind y ys x (p y) refl none (uncons y ys x h) pass (lost_from ys x)

  -- Two lists with the same elements, of which at most one passes, lead to the same one.
  module _ (xs ys : List X) (there : (x : X) → Contains xs x → Contains ys x) (back : (x : X) → Contains ys x → Contains xs x)
      (one : (x y : X) → Contains xs x → Contains xs y → p x ≡ true → p y ≡ true → x ≡ y) where
    both : (o u : Option X) → find p xs ≡ o → find p ys ≡ u → o ≡ u
    both None None e f = refl
    both None (Some y) e f = let r = found_in ys y f in absurd (lost_from xs y e (back y r.0) r.1)
    both (Some x) None e f = let r = found_in xs x e in absurd (lost_from ys x f (there x r.0) r.1)
    both (Some x) (Some y) e f =
        let r = found_in xs x e in
        let s = found_in ys y f in
        ap Some (one x y r.0 (back y s.0) r.1 s.1)

    pub same_found : find p xs ≡ find p ys
    same_found = both (find p xs) (find p ys) refl refl

-- of a list whose names rise, at most one is called so
pub one_called : {X J : Type 0} (key : X → J) (spell : J → List ℕ) (xs : List X) → IsStrictlySortedBy (λ a b. C (spell a) (spell b)) (map key xs) → (q : List ℕ)
    → (x y : X) → Contains xs x → Contains xs y → bytes_eq (spell (key x)) q ≡ true → bytes_eq (spell (key y)) q ≡ true → x ≡ y
one_called key spell xs sorted q x y h g e f =
    one_in key spell xs x y (in_contained key spell xs x sorted h) (in_contained key spell xs y sorted g)
    ((bytes_eq-Decides (spell (key x)) q).0 e ∙ sym ((bytes_eq-Decides (spell (key y)) q).0 f))

-- ---- records
abbrev named_with : Identifier → List Schema → NamedIn
named_with id schemas = record { of = id; schemas = schemas }

abbrev part_with : List Interface → Interface → PartOf
part_with set q = record { of = q.id; contents = contents set q }

abbrev is_of : Identifier → PartOf → Bool
is_of id p = is_called (dtmi_text id) (Some (dtmi_text p.of))

-- the interfaces of a component, and of a content
abbrev alone : Interface → List Interface
alone q = q ∷ []

abbrev of_component : List Interface → Identifier → List Interface
of_component set p = those (interface_at p set) alone

abbrev of_content : List Interface → ResolvedContent → List Interface
of_content set r = flat_map (of_component set) (components_in (kind_term r.content.kind))

-- ---- contents
module _ (set : List Interface) (sound : BreaksNoRule set) where
  pub has_content : (i : Interface) → IsThere set i → (r : ResolvedContent) → Contains (contents set i) r ↔ Has set i r
  has_content i there r = (
    λ h.
        let a = in_flat declared_in (ancestors set i) r h in
        let c = from_contains (declared_by a.0.id) a.0.contents r a.2 in
        (a.0, (ancestors_are set sound i there a.0).0 a.1, ap (λ (x : ResolvedContent). x.from) (sym c.2), subst (Contains a.0.contents) (ap (λ (x : ResolvedContent). x.content) c.2) c.1),
    λ (a, up, from, own).
        to_flat declared_in (ancestors set i) r a ((ancestors_are set sound i there a).1 up)
        (subst (Contains (declared_in a)) (ap (λ (id : Identifier). declared_by id r.content) (sym from)) (contains_map (declared_by a.id) a.contents r.content own)),
  )

  pub contents_alike : (i : Interface) → IsThere set i → (cs : List ResolvedContent) → ListsContents set i cs → (key : List ℕ) → content_called key cs ≡ content_called key (contents set i)
  contents_alike i there cs lists key =
      same_found (λ (c : ResolvedContent). is_called key (Some c.content.name)) cs (contents set i)
      (λ r h. (has_content i there r).1 ((lists.each r).0 h)) (λ r h. (lists.each r).1 ((has_content i there r).0 h))
      (one_called (λ (c : ResolvedContent). c.content.name) (λ n. n) cs lists.sorted key)

  -- ---- interfaces of components
  in_components : (k : KindTerm) (p : Identifier) → Contains (components_in k) p → k ≡ component p
  in_components (component of) p h = elim (uncons of [] p h) [ inl e ↦ ap component e | inr later ↦ absurd (omega (arith, later.1)) ]
  in_components (telemetry s semantic unit) p h = absurd (omega (arith, h.1))
  in_components (property s semantic unit writable) p h = absurd (omega (arith, h.1))
  in_components (command request response) p h = absurd (omega (arith, h.1))
  in_components (relationship target properties most writable) p h = absurd (omega (arith, h.1))

  to_components : (k : KindTerm) (p : Identifier) → k ≡ component p → Contains (components_in k) p
  to_components k p e = subst (λ (x : KindTerm). Contains (components_in x) p) (sym e) (contains_head p [])

  pub has_part : (i : Interface) → IsThere set i → (q : Interface) → Contains (parts set i) q ↔ HasPart set i q
  has_part i there q = (
    λ h.
        let r = in_flat (of_content set) (contents set i) q h in
        let p = in_flat (of_component set) (components_in (kind_term r.0.content.kind)) q r.2 in
        let j = in_those (interface_at p.0 set) alone q p.2 in
        let same : j.0 ≡ q = elim (uncons j.0 [] q j.2) [ inl e ↦ e | inr later ↦ absurd (omega (arith, later.1)) ] in
        (r.0, p.0, (has_content i there r.0).0 r.1, in_components (kind_term r.0.content.kind) p.0 p.1, j.1 ∙ ap Some same),
    λ (r, p, has, of, found).
        to_flat (of_content set) (contents set i) q r ((has_content i there r).1 has)
        (to_flat (of_component set) (components_in (kind_term r.content.kind)) q p (to_components (kind_term r.content.kind) p of)
        (to_those (interface_at p set) alone q q found (contains_head q []))),
  )

  part_there : (i q : Interface) → HasPart set i q → IsThere set q
  part_there i q (r, p, has, of, found) = stands set p q found

  -- ---- schemas
  pub has_source : (i : Interface) → IsThere set i → (n : NamedIn) → Contains (map named_in (ancestors set i ++ flat_map (ancestors set) (parts set i))) n ↔ ((a : Interface) × IsSource set i a × (n.of ≡ a.id) × (n.schemas ≡ a.schemas))
  has_source i there n = (
    λ h.
        let a = from_contains named_in (ancestors set i ++ flat_map (ancestors set) (parts set i)) n h in
        let source : IsSource set i a.0 = elim (Contains-append_cases (ancestors set i) (flat_map (ancestors set) (parts set i)) a.0 a.1) [
          | inl own ↦ inl ((ancestors_are set sound i there a.0).0 own)
          | inr other ↦
              let q = in_flat (ancestors set) (parts set i) a.0 other in
              let part = (has_part i there q.0).0 q.1 in
              inr (q.0, part, (ancestors_are set sound q.0 (part_there i q.0 part) a.0).0 q.2)
        ] in
        (a.0, source, ap (λ (x : NamedIn). x.of) (sym a.2), ap (λ (x : NamedIn). x.schemas) (sym a.2)),
    λ (a, source, of, schemas).
        let here : Contains (ancestors set i ++ flat_map (ancestors set) (parts set i)) a = elim source [
          | inl own ↦ Contains-append_left (ancestors set i) (flat_map (ancestors set) (parts set i)) a ((ancestors_are set sound i there a).1 own)
          | inr other ↦
              Contains-append_right (ancestors set i) (flat_map (ancestors set) (parts set i)) a
              (to_flat (ancestors set) (parts set i) a other.0 ((has_part i there other.0).1 other.1) ((ancestors_are set sound other.0 (part_there i other.0 other.1) a).1 other.2))
        ] in
        let first : named_in a ≡ named_with n.of a.schemas = ap (λ (id : Identifier). named_with id a.schemas) (sym of) in
        let second : named_with n.of a.schemas ≡ n = ap (named_with n.of) (sym schemas) in
        subst (Contains (map named_in (ancestors set i ++ flat_map (ancestors set) (parts set i)))) (first ∙ second) (contains_map named_in (ancestors set i ++ flat_map (ancestors set) (parts set i)) a here),
  )

  pub named_alike : (i : Interface) → IsThere set i → (ns : List NamedIn) → ListsNamed set i ns → (id : Identifier) → named_of id ns ≡ named_of id (inherited set i).named
  named_alike i there ns lists id =
      same_found (λ (n : NamedIn). is_called (dtmi_text id) (Some (dtmi_text n.of))) ns (inherited set i).named
      (λ n h. (has_source i there n).1 ((lists.each n).0 h)) (λ n h. (lists.each n).1 ((has_source i there n).0 h))
      (one_called (λ (n : NamedIn). n.of) dtmi_text ns lists.sorted (dtmi_text id))

  -- ---- contents of components
  module _ (i : Interface) (there : IsThere set i) (ps : List PartOf) (lists : ListsParts set i ps) (id : Identifier) (key : List ℕ) where
    spelled : (p : PartOf) → is_of id p ≡ true → dtmi_text p.of ≡ dtmi_text id
    spelled p e = (bytes_eq-Decides (dtmi_text p.of) (dtmi_text id)).0 e

    passing : (p : PartOf) → dtmi_text p.of ≡ dtmi_text id → is_of id p ≡ true
    passing p e = (bytes_eq-Decides (dtmi_text p.of) (dtmi_text id)).1 e

    mine : (p : PartOf) → Contains (map (part_with set) (parts set i)) p → (q : Interface) × Contains (parts set i) q × (part_with set q ≡ p)
    mine p h = from_contains (part_with set) (parts set i) p h

    alike : (o u : Option PartOf) → part_of id ps ≡ o → part_of id (map (part_with set) (parts set i)) ≡ u → content_called key (contents_in o) ≡ content_called key (contents_in u)
    alike None None e f = refl
    alike None (Some u) e f =
        let r = found_in (is_of id) (map (part_with set) (parts set i)) u f in
        let q = mine u r.0 in
        let listed = from_contains (λ (p : PartOf). p.of) ps q.0.id (lists.every q.0 ((has_part i there q.0).0 q.1)) in
        absurd (lost_from (is_of id) ps listed.0 e listed.1 (passing listed.0 (ap dtmi_text (listed.2 ∙ ap (λ (p : PartOf). p.of) q.2) ∙ spelled u r.1)))
    alike (Some o) None e f =
        let r = found_in (is_of id) ps o e in
        let q = lists.each o r.0 in
        let here : Contains (map (part_with set) (parts set i)) (part_with set q.0) = contains_map (part_with set) (parts set i) q.0 ((has_part i there q.0).1 q.1) in
        absurd (lost_from (is_of id) (map (part_with set) (parts set i)) (part_with set q.0) f here (passing (part_with set q.0) (ap dtmi_text (sym q.2) ∙ spelled o r.1)))
    alike (Some o) (Some u) e f =
        let r = found_in (is_of id) ps o e in
        let q = lists.each o r.0 in
        let s = found_in (is_of id) (map (part_with set) (parts set i)) u f in
        let k = mine u s.0 in
        let stands_q : IsThere set q.0 = part_there i q.0 q.1 in
        let stands_k : IsThere set k.0 = part_there i k.0 ((has_part i there k.0).0 k.1) in
        let texts : dtmi_text q.0.id ≡ dtmi_text k.0.id = ap dtmi_text (sym q.2) ∙ spelled o r.1 ∙ sym (spelled u s.1) ∙ ap (λ (p : PartOf). dtmi_text p.of) (sym k.2) in
        let same : q.0 ≡ k.0 = one_there set q.0 k.0 stands_q stands_k texts in
        contents_alike q.0 stands_q o.contents q.3 key ∙ ap (λ (x : Interface). content_called key (contents set x)) same ∙ ap (λ (p : PartOf). content_called key p.contents) k.2

    pub parts_alike : content_called key (contents_in (part_of id ps)) ≡ content_called key (contents_in (part_of id (inherited set i).parts))
    parts_alike = alike (part_of id ps) (part_of id (map (part_with set) (parts set i))) refl refl
