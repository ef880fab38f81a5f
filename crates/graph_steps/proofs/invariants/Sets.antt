-- What an interface has with all that it inherits is the same in a set that lacks nothing and in a larger one.
use Rattle.std.proofs.Common.{◌≡◌, ℕ, zero, suc, ◌++◌, List, [], ◌∷◌, map, Option, Some, refl, sym, ap, ◌∙◌, subst}
use Rattle.std.specs.Prelude.{slice_get}
use Rattle.std.specs.List.{AllByRecursion, flat_map, list_any}
use Rattle.dt_base.specs.names.Grammar.{Identifier, id_eq}
use Rattle.dtdl_terms.specs.Sets.{interface_at}
use Rattle.dtdl_terms.specs.Terms.{KindTerm, telemetry, property, command, relationship, component}
use Rattle.dtdl_terms.specs.TermViews.{kind_term}
use Rattle.dtdl_terms.specs.declared.content.Content.{Content}
use Rattle.dtdl_terms.specs.declared.interface.Interface.{Interface}
use Rattle.dtdl_terms.specs.declared.resolved.PartOf.{PartOf}
use Rattle.dtdl_terms.specs.declared.resolved.Resolved.{Resolved}
use Rattle.dtdl_terms.specs.declared.resolved.ResolvedContent.{ResolvedContent}
use Rattle.model_life.specs.resolution.Resolving.{IsWithin, LacksNone}
use Rattle.model_life.specs.resolution.Machinery.Families.{IsThere}
use Rattle.model_life.proofs.resolution.Changes.{all_map}
use Rattle.model_life.proofs.resolution.Families.{stands}
use Rattle.graph_steps.proofs.invariants.Unrefused.{some_there}
use Rattle.graph_steps.specs.Inherited.{those, reached, ancestors, is_a, declared_in, contents, component_of, parts, named_in, inherited}

-- ---- lists
flat_same : {A X : Type 0} (f g : A → List X) (xs : List A) → AllByRecursion (λ x. f x ≡ g x) xs → flat_map f xs ≡ flat_map g xs
flat_same f g [] all = refl
flat_same f g (x ∷ xs) all = ap (λ (ys : List _). ys ++ flat_map f xs) all.0 ∙ ap (λ (ys : List _). g x ++ ys) (flat_same f g xs all.1)

map_same : {A X : Type 0} (f g : A → X) (xs : List A) → AllByRecursion (λ x. f x ≡ g x) xs → map f xs ≡ map g xs
map_same f g [] all = refl
map_same f g (x ∷ xs) all = ap (λ y. y ∷ map f xs) all.0 ∙ ap (λ ys. g x ∷ ys) (map_same f g xs all.1)

all_append : {A : Type 0} (P : A → Type 0) (xs ys : List A) → AllByRecursion P xs → AllByRecursion P ys → AllByRecursion P (xs ++ ys)
all_append P [] ys a b = b
all_append P (x ∷ xs) ys a b = (a.0, all_append P xs ys a.1 b)

all_flat : {A X : Type 0} (P : X → Type 0) (f : A → List X) (xs : List A) → AllByRecursion (λ x. AllByRecursion P (f x)) xs → AllByRecursion P (flat_map f xs)
all_flat P f [] all = tt
all_flat P f (x ∷ xs) all = all_append P (f x) (flat_map f xs) all.0 (all_flat P f xs all.1)

all_mapped : {A X : Type 0} (P : X → Type 0) (f : A → X) (xs : List A) → AllByRecursion (λ x. P (f x)) xs → AllByRecursion P (map f xs)
all_mapped P f [] all = tt
all_mapped P f (x ∷ xs) all = (all.0, all_mapped P f xs all.1)

by_places : {A : Type 0} (P : A → Type 0) (xs : List A) → ((k : ℕ) (x : A) → slice_get xs k ≡ Some x → P x) → AllByRecursion P xs
by_places P [] h = tt
by_places P (x ∷ xs) h = (h zero x refl, by_places P xs (λ k y e. h (suc k) y e))

-- ---- the two sets
module _ (small large : List Interface) (within : IsWithin small large) (whole : LacksNone small) where
  -- An interface with this identifier is in the smaller set, and so it is in the larger.
  abbrev Known : Identifier → Type 0
  Known p = (j : Interface) × (interface_at p small ≡ Some j)

  parents_known : (i : Interface) → IsThere small i → AllByRecursion Known i.parents
  parents_known i there = by_places Known i.parents (λ k p e. some_there (interface_at p small) (λ none. (whole i k there).0 (p, e, none)))

  those_same : (f g : Interface → List Interface) (p : Identifier) → ((j : Interface) → IsThere small j → f j ≡ g j) → Known p → those (interface_at p small) f ≡ those (interface_at p large) g
  those_same f g p same known =
      ap (λ (o : Option Interface). those o f) known.1 ∙ same known.0 (stands small p known.0 known.1) ∙ sym (ap (λ (o : Option Interface). those o g) (within p known.0 known.1))

  pub reached_same : (n : ℕ) (i : Interface) → IsThere small i → reached n small i ≡ reached n large i
  reached_same zero i there = refl
  reached_same (suc n) i there =
      ap (λ (xs : List Interface). i ∷ xs)
      (flat_same (λ (p : Identifier). those (interface_at p small) (reached n small)) (λ (p : Identifier). those (interface_at p large) (reached n large)) i.parents
      (all_map Known (λ (p : Identifier). those (interface_at p small) (reached n small) ≡ those (interface_at p large) (reached n large)) i.parents (λ p known. those_same (reached n small) (reached n large) p (reached_same n) known) (parents_known i there)))

  reached_there : (n : ℕ) (i : Interface) → IsThere small i → AllByRecursion (IsThere small) (reached n small i)
  reached_there zero i there = (there, tt)
  reached_there (suc n) i there = (
    there,
    all_flat (IsThere small) (λ (p : Identifier). those (interface_at p small) (reached n small)) i.parents
        (all_map Known (λ (p : Identifier). AllByRecursion (IsThere small) (those (interface_at p small) (reached n small))) i.parents (λ p known. subst (λ (o : Option Interface). AllByRecursion (IsThere small) (those o (reached n small))) (sym known.1) (reached_there n known.0 (stands small p known.0 known.1))) (parents_known i there)),
  )

  pub ancestors_same : (i : Interface) → IsThere small i → ancestors small i ≡ ancestors large i
  ancestors_same i there = reached_same 10 i there

  pub is_a_same : (i : Interface) (id : Identifier) → IsThere small i → is_a small i id ≡ is_a large i id
  is_a_same i id there = ap (λ (xs : List Interface). list_any (λ (a : Interface). id_eq a.id id) xs) (ancestors_same i there)

  pub contents_same : (i : Interface) → IsThere small i → contents small i ≡ contents large i
  contents_same i there = ap (λ (xs : List Interface). flat_map declared_in xs) (ancestors_same i there)

  -- ---- components
  one_component : (k : KindTerm) → ((p : Identifier) → k ≡ component p → Known p) → (c : Content) → kind_term c.kind ≡ k → AllByRecursion Known (component_of c)
  one_component (component of) h c e = rw e (h of refl, tt)
  one_component (telemetry schema semantic unit) h c e = rw e tt
  one_component (property schema semantic unit writable) h c e = rw e tt
  one_component (command request response) h c e = rw e tt
  one_component (relationship target properties most writable) h c e = rw e tt

  components_known : (a : Interface) → IsThere small a → AllByRecursion (λ (c : Content). AllByRecursion Known (component_of c)) a.contents
  components_known a there =
      by_places (λ (c : Content). AllByRecursion Known (component_of c)) a.contents
      (λ k c e. one_component (kind_term c.kind) (λ p is. some_there (interface_at p small) (λ none. (whole a k there).1 (p, (c, e, is), none))) c refl)

  contents_known : (i : Interface) → IsThere small i → AllByRecursion (λ (r : ResolvedContent). AllByRecursion Known (component_of r.content)) (contents small i)
  contents_known i there =
      all_flat (λ (r : ResolvedContent). AllByRecursion Known (component_of r.content)) declared_in (ancestors small i)
      (all_map (IsThere small) (λ (a : Interface). AllByRecursion (λ (r : ResolvedContent). AllByRecursion Known (component_of r.content)) (declared_in a)) (ancestors small i) (λ a up. all_mapped (λ (r : ResolvedContent). AllByRecursion Known (component_of r.content)) (λ (c : Content). record { from = a.id; content = c }) a.contents (components_known a up)) (reached_there 10 i there))

  abbrev alone : Interface → List Interface
  alone q = q ∷ []

  abbrev parts_of : List Interface → ResolvedContent → List Interface
  parts_of set r = flat_map (λ (p : Identifier). those (interface_at p set) (λ q. q ∷ [])) (component_of r.content)

  parts_same : (i : Interface) → IsThere small i → parts small i ≡ parts large i
  parts_same i there =
      flat_same (parts_of small) (parts_of large) (contents small i)
      (all_map (λ (r : ResolvedContent). AllByRecursion Known (component_of r.content)) (λ (r : ResolvedContent). parts_of small r ≡ parts_of large r) (contents small i) (λ r known. flat_same (λ (p : Identifier). those (interface_at p small) (λ q. q ∷ [])) (λ (p : Identifier). those (interface_at p large) (λ q. q ∷ [])) (component_of r.content)
      (all_map Known (λ (p : Identifier). those (interface_at p small) (λ q. q ∷ []) ≡ those (interface_at p large) (λ q. q ∷ [])) (component_of r.content) (λ p k. those_same (λ q. q ∷ []) (λ q. q ∷ []) p (λ j on. refl) k) known)) (contents_known i there))
      ∙ ap (λ (rs : List ResolvedContent). flat_map (parts_of large) rs) (contents_same i there)

  parts_there : (i : Interface) → IsThere small i → AllByRecursion (IsThere small) (parts small i)
  parts_there i there =
      all_flat (IsThere small) (parts_of small) (contents small i)
      (all_map (λ (r : ResolvedContent). AllByRecursion Known (component_of r.content)) (λ (r : ResolvedContent). AllByRecursion (IsThere small) (parts_of small r)) (contents small i) (λ r known. all_flat (IsThere small) (λ (p : Identifier). those (interface_at p small) (λ q. q ∷ [])) (component_of r.content)
      (all_map Known (λ (p : Identifier). AllByRecursion (IsThere small) (those (interface_at p small) (λ q. q ∷ []))) (component_of r.content) (λ p k. subst (λ (o : Option Interface). AllByRecursion (IsThere small) (those o (λ q. q ∷ []))) (sym k.1) (stands small p k.0 k.1, tt)) known)) (contents_known i there))

  -- ---- all together
  abbrev whole_of : List ResolvedContent → List Interface → List Interface → List PartOf → Resolved
  whole_of cs up ns ps = record { contents = cs; ancestors = map (λ a. a.id) up; named = map named_in ns; parts = ps }

  abbrev part_in : List Interface → Interface → PartOf
  part_in set q = record { of = q.id; contents = contents set q }

  pub inherited_same : (i : Interface) → IsThere small i → inherited small i ≡ inherited large i
  inherited_same i there =
      let up = ancestors_same i there in
      let ps = parts_same i there in
      let on = parts_there i there in
      let sources : ancestors small i ++ flat_map (ancestors small) (parts small i) ≡ ancestors large i ++ flat_map (ancestors large) (parts large i) =
      ap (λ (xs : List Interface). xs ++ flat_map (ancestors small) (parts small i)) up
      ∙ ap (λ (xs : List Interface). ancestors large i ++ xs)
      (flat_same (ancestors small) (ancestors large) (parts small i) (all_map (IsThere small) (λ (q : Interface). ancestors small q ≡ ancestors large q) (parts small i) ancestors_same on)
      ∙ ap (λ (qs : List Interface). flat_map (ancestors large) qs) ps) in
      let inner : map (part_in small) (parts small i) ≡ map (part_in large) (parts large i) =
      map_same (part_in small) (part_in large) (parts small i) (all_map (IsThere small) (λ (q : Interface). part_in small q ≡ part_in large q) (parts small i) (λ q h. ap (λ (cs : List ResolvedContent). record { of = q.id; contents = cs }) (contents_same q h)) on)
      ∙ ap (λ (qs : List Interface). map (part_in large) qs) ps in
      ap (λ (cs : List ResolvedContent). whole_of cs (ancestors small i) (ancestors small i ++ flat_map (ancestors small) (parts small i)) (map (part_in small) (parts small i))) (contents_same i there)
      ∙ ap (λ (up : List Interface). whole_of (contents large i) up (ancestors small i ++ flat_map (ancestors small) (parts small i)) (map (part_in small) (parts small i))) up
      ∙ ap (λ (ns : List Interface). whole_of (contents large i) (ancestors large i) ns (map (part_in small) (parts small i))) sources
      ∙ ap (λ (ps : List PartOf). whole_of (contents large i) (ancestors large i) (ancestors large i ++ flat_map (ancestors large) (parts large i)) ps) inner
