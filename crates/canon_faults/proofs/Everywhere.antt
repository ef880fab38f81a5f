-- What holds of each value of an interface in its role, by recursion on the value.
use Rattle.std.proofs.Common.{◌≡◌, ℕ, zero, suc, List, [], ◌∷◌, Option, Some, None, option_and_then, sym, ap, subst, ◌∙◌}
use Rattle.json_decimal.specs.Number.{Number}
use Rattle.json_tree.specs.Values.{Json, null, truth, number, text, array, object, Elements, no_elements, element, Members, no_members, member}
use Rattle.json_tree.specs.Places.{element_at, member_at}
use Rattle.local_rules.specs.Roles.{HasRole, entry_role, member_role}
use Rattle.local_rules.specs.declared.role.Role.{Role}

-- the roles of the parts of a list and of an object; where the whole has no role, they have none
abbrev pub entries_of : Option Role → Option Role
entries_of o = option_and_then entry_role o

abbrev pub members_of_role : Option Role → Members Number → List ℕ → Option Role
members_of_role o ms key = option_and_then (λ r. member_role r ms key) o

abbrev pub InRole : (Role → Json → Type 0) → Option Role → Json → Type 0
InRole P None v = Unit {0}
InRole P (Some r) v = P r v

abbrev mutual
  pub Everywhere : (Role → Json → Type 0) → Option Role → Json → Type 0
  Everywhere P o null = InRole P o null
  Everywhere P o (truth b) = InRole P o (truth b)
  Everywhere P o (number n) = InRole P o (number n)
  Everywhere P o (text bytes) = InRole P o (text bytes)
  Everywhere P o (array vs) = InRole P o (array vs) × InEach P (entries_of o) vs
  Everywhere P o (object ms) = InRole P o (object ms) × InMembers P (members_of_role o ms) ms

  pub InEach : (Role → Json → Type 0) → Option Role → Elements Number → Type 0
  InEach P o no_elements = Unit {0}
  InEach P o (element v vs) = Everywhere P o v × InEach P o vs

  pub InMembers : (Role → Json → Type 0) → (List ℕ → Option Role) → Members Number → Type 0
  InMembers P roles no_members = Unit {0}
  InMembers P roles (member key v ms) = Everywhere P (roles key) v × InMembers P roles ms

module _ (P : Role → Json → Type 0) where
  pub in_role : (o : Option Role) (v : Json) → Everywhere P o v → InRole P o v
  in_role o null h = h
  in_role o (truth b) h = h
  in_role o (number n) h = h
  in_role o (text bytes) h = h
  in_role o (array vs) h = h.0
  in_role o (object ms) h = h.0

  in_element : (o : Option Role) (vs : Elements Number) (i : ℕ) (v : Json) → InEach P o vs → element_at vs i ≡ Some v → Everywhere P o v
  in_element o no_elements i v h at = absurd cc
  in_element o (element w vs) zero v h at = let same : w ≡ v = cc in subst (λ (u : Json). Everywhere P o u) same h.0
  in_element o (element w vs) (suc i) v h at = in_element o vs i v h.1 at

  in_member : (roles : List ℕ → Option Role) (ms : Members Number) (i : ℕ) (key : List ℕ) (v : Json) → InMembers P roles ms → member_at ms i ≡ Some (key, v)
      → Everywhere P (roles key) v
  in_member roles no_members i key v h at = absurd cc
  in_member roles (member k w ms) zero key v h at =
      let pair : (k, w) ≡ (key, v) = cc in
      subst (λ (m : List ℕ × Json). Everywhere P (roles m.0) m.1) pair h.0
  in_member roles (member k w ms) (suc i) key v h at = in_member roles ms i key v h.1 at

  -- it holds at each place
  pub everywhere_at : (place : List ℕ) (r : Role) (v : Json) (q : Role) (w : Json) → Everywhere P (Some r) v → HasRole r v place q w → P q w
  everywhere_at [] r v q w h there =
      subst (λ (u : Json). P q u) there.1 (subst (λ (p : Role). P p v) there.0 (in_role (Some r) v h))
  everywhere_at (i ∷ place) r (array vs) q w h there =
      let part = in_element (entry_role r) vs i there.1 h.1 there.2 in
      everywhere_at place there.0 there.1 q w (subst (λ (o : Option Role). Everywhere P o there.1) there.3 part) there.4
  everywhere_at (i ∷ place) r (object ms) q w h there =
      let part = in_member (member_role r ms) ms i there.2.0 there.1 h.1 there.2.1 in
      let is : member_role r ms there.2.0 ≡ Some there.0 =
      sym (ap (λ (o : Option (List ℕ × Json)). option_and_then (λ m. member_role r ms m.0) o) there.2.1) ∙ there.3 in
      everywhere_at place there.0 there.1 q w (subst (λ (o : Option Role). Everywhere P o there.1) is part) there.4
  everywhere_at (i ∷ place) r other q w h there = absurd there.2
