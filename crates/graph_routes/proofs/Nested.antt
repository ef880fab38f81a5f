-- Values that were read from a text nest as deep as the text allows.
use Rattle.std.proofs.Common.{ℕ, List, sym, subst}
use Rattle.json_decimal.specs.Number.{Number}
use Rattle.json_tree.specs.Values.{Raw, Json, null, truth, number, text, array, object, Elements, no_elements, element, Members, no_members, member, IsReadAs, ElementsAreReadAs, MembersAreReadAs}
use Rattle.json_tree.specs.Grammar.{IsValue, IsElements, IsMoreElements, IsMembers, IsMoreMembers, Spells}
use Rattle.json_tree.specs.Printing.{NestsWithin, ElementsNestWithin, MembersNestWithin}

mutual
  value_nests : (raw : Raw) (v : Json) (depth : ℕ) (from to : List ℕ) → IsValue raw depth from to → IsReadAs raw v → NestsWithin depth v
  value_nests null v depth from to h r = subst (λ (w : Json). NestsWithin depth w) (sym r) tt
  value_nests (truth b) v depth from to h r = subst (λ (w : Json). NestsWithin depth w) (sym r) tt
  value_nests (number n) v depth from to h (x, one, range, is) = subst (λ (w : Json). NestsWithin depth w) (sym is) tt
  value_nests (text t) v depth from to h r = subst (λ (w : Json). NestsWithin depth w) (sym r) tt
  value_nests (array vs) v depth from to (inner, mid, deep, bracket, h) (ws, r, is) =
      subst (λ (w : Json). NestsWithin depth w) (sym is) (inner, deep, elements_nest vs ws inner mid to h r)
  value_nests (object ms) v depth from to (inner, mid, deep, bracket, h) (ns, r, is) =
      subst (λ (w : Json). NestsWithin depth w) (sym is) (inner, deep, members_nest ms ns inner mid to h r)

  elements_nest : (vs : Elements (List ℕ)) (ws : Elements Number) (depth : ℕ) (from to : List ℕ) → IsElements vs depth from to → ElementsAreReadAs vs ws → ElementsNestWithin depth ws
  elements_nest no_elements ws depth from to h r = subst (λ (w : Elements Number). ElementsNestWithin depth w) (sym r) tt
  elements_nest (element v vs) ws depth from to (start, end, spaces, value, more) (x, xs, one, rest, is) =
      subst (λ (w : Elements Number). ElementsNestWithin depth w) (sym is) (value_nests v x depth start end value one, more_elements_nest vs xs depth end to more rest)

  more_elements_nest : (vs : Elements (List ℕ)) (ws : Elements Number) (depth : ℕ) (from to : List ℕ) → IsMoreElements vs depth from to → ElementsAreReadAs vs ws → ElementsNestWithin depth ws
  more_elements_nest no_elements ws depth from to h r = subst (λ (w : Elements Number). ElementsNestWithin depth w) (sym r) tt
  more_elements_nest (element v vs) ws depth from to (mid, start, end, spaces, other, value, more) (x, xs, one, rest, is) =
      subst (λ (w : Elements Number). ElementsNestWithin depth w) (sym is) (value_nests v x depth start end value one, more_elements_nest vs xs depth end to more rest)

  members_nest : (ms : Members (List ℕ)) (ns : Members Number) (depth : ℕ) (from to : List ℕ) → IsMembers ms depth from to → MembersAreReadAs ms ns → MembersNestWithin depth ns
  members_nest no_members ns depth from to h r = subst (λ (w : Members Number). MembersNestWithin depth w) (sym r) tt
  members_nest (member k v ms) ns depth from to (start, end, mid, first, last, spaces, key, colon, other, value, more) (x, xs, one, rest, is) =
      subst (λ (w : Members Number). MembersNestWithin depth w) (sym is) (value_nests v x depth first last value one, more_members_nest ms xs depth last to more rest)

  more_members_nest : (ms : Members (List ℕ)) (ns : Members Number) (depth : ℕ) (from to : List ℕ) → IsMoreMembers ms depth from to → MembersAreReadAs ms ns → MembersNestWithin depth ns
  more_members_nest no_members ns depth from to h r = subst (λ (w : Members Number). MembersNestWithin depth w) (sym r) tt
  more_members_nest (member k v ms) ns depth from to (comma, start, end, mid, first, last, spaces, other, key, colon, further, value, more) (x, xs, one, rest, is) =
      subst (λ (w : Members Number). MembersNestWithin depth w) (sym is) (value_nests v x depth first last value one, more_members_nest ms xs depth last to more rest)

pub spelled_nests : (bytes : List ℕ) (v : Json) → Spells bytes v → NestsWithin 64 v
spelled_nests bytes v (raw, (start, end, spaces, value, rest), distinct, r) = value_nests raw v 64 start end value r
