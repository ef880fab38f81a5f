-- In values that were read from a text no object has two members of one key.
use Rattle.std.proofs.Common.{ℕ, List, sym, subst}
use Rattle.json_decimal.specs.Number.{Number}
use Rattle.json_tree.specs.Values.{Raw, Json, null, truth, number, text, array, object, Elements, no_elements, element, Members, no_members, member, LacksKey, HasDistinctKeys, ElementsHaveDistinctKeys, MembersHaveDistinctKeys, IsReadAs, ElementsAreReadAs, MembersAreReadAs}
use Rattle.json_tree.specs.Grammar.{Spells}

lacks : (k : List ℕ) (ms : Members (List ℕ)) (ns : Members Number) → LacksKey k ms → MembersAreReadAs ms ns → LacksKey k ns
lacks k no_members ns h r = subst (LacksKey k) (sym r) tt
lacks k (member q v ms) ns h (x, xs, one, rest, is) = subst (LacksKey k) (sym is) (h.0, lacks k ms xs h.1 rest)

mutual
  read_distinct : (raw : Raw) (v : Json) → HasDistinctKeys raw → IsReadAs raw v → HasDistinctKeys v
  read_distinct null v h r = subst (λ (w : Json). HasDistinctKeys w) (sym r) tt
  read_distinct (truth b) v h r = subst (λ (w : Json). HasDistinctKeys w) (sym r) tt
  read_distinct (number n) v h (x, one, range, is) = subst (λ (w : Json). HasDistinctKeys w) (sym is) tt
  read_distinct (text t) v h r = subst (λ (w : Json). HasDistinctKeys w) (sym r) tt
  read_distinct (array vs) v h (ws, r, is) = subst (λ (w : Json). HasDistinctKeys w) (sym is) (elements_distinct vs ws h r)
  read_distinct (object ms) v h (ns, r, is) = subst (λ (w : Json). HasDistinctKeys w) (sym is) (members_distinct ms ns h r)

  elements_distinct : (vs : Elements (List ℕ)) (ws : Elements Number) → ElementsHaveDistinctKeys vs → ElementsAreReadAs vs ws → ElementsHaveDistinctKeys ws
  elements_distinct no_elements ws h r = subst (λ (w : Elements Number). ElementsHaveDistinctKeys w) (sym r) tt
  elements_distinct (element v vs) ws h (x, xs, one, rest, is) = subst (λ (w : Elements Number). ElementsHaveDistinctKeys w) (sym is) (read_distinct v x h.0 one, elements_distinct vs xs h.1 rest)

  members_distinct : (ms : Members (List ℕ)) (ns : Members Number) → MembersHaveDistinctKeys ms → MembersAreReadAs ms ns → MembersHaveDistinctKeys ns
  members_distinct no_members ns h r = subst (λ (w : Members Number). MembersHaveDistinctKeys w) (sym r) tt
  members_distinct (member k v ms) ns h (x, xs, one, rest, is) =
      subst (λ (w : Members Number). MembersHaveDistinctKeys w) (sym is) (lacks k ms xs h.0 rest, read_distinct v x h.1 one, members_distinct ms xs h.2 rest)

pub spelled_distinct : (bytes : List ℕ) (v : Json) → Spells bytes v → HasDistinctKeys v
spelled_distinct bytes v h = read_distinct h.0 v h.2 h.3
