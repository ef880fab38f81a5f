-- A value that some text spells is spelled by the text that it prints as.
use Rattle.std.proofs.Common.{◌≡◌, ℕ, zero, suc, List, Some, None, refl, sym, subst}
use Rattle.json_decimal.specs.Number.{Number}
use Rattle.json_decimal.proofs.Literals.{literal_again}
use Rattle.json_tree.specs.Values.{Raw, Json, null, truth, number, text, array, object, Elements, no_elements, element, Members, no_members, member, HasDistinctKeys, ElementsHaveDistinctKeys, IsReadAs, ElementsAreReadAs, MembersAreReadAs}
use Rattle.json_tree.specs.Places.{element_at}
use Rattle.json_tree.specs.Grammar.{IsString, IsValue, IsElements, IsMoreElements, IsMembers, IsMoreMembers, Spells}
use Rattle.json_tree.specs.Printing.{NestsWithin, ElementsNestWithin, MembersNestWithin, printed}
use Rattle.json_tree.specs.Machinery.Pieces.{IsOfTree, AreOfTrees, MembersAreOfTrees}
use Rattle.json_tree.proofs.DistinctKeys.{spelled_distinct}
use Rattle.json_tree.proofs.Printable.{print_spells}
use Rattle.std.specs.Str.{IsUtf8}
use Rattle.json_read.proofs.Utf8.{characters-utf8}

-- what printing rests on
abbrev IsPrintable : ℕ → Json → Type 0
IsPrintable depth v = IsOfTree v × NestsWithin depth v

abbrev ArePrintable : ℕ → Elements Number → Type 0
ArePrintable depth vs = AreOfTrees vs × ElementsNestWithin depth vs

abbrev MembersArePrintable : ℕ → Members Number → Type 0
MembersArePrintable depth ms = MembersAreOfTrees ms × MembersNestWithin depth ms

string_utf8 : (from content to : List ℕ) → IsString from content to → IsUtf8 content
string_utf8 from content to h = characters-utf8 h.0 h.1 content to h.3

mutual
  value_printable : (raw : Raw) (depth : ℕ) (from to : List ℕ) (v : Json) → IsValue raw depth from to → IsReadAs raw v → IsPrintable depth v
  value_printable null depth from to v g r = subst (IsPrintable depth) (sym r) (tt, tt)
  value_printable (truth b) depth from to v g r = subst (IsPrintable depth) (sym r) (tt, tt)
  value_printable (number bytes) depth from to v g (n, literal, range, is) =
      subst (IsPrintable depth) (sym is) ((literal_again bytes n literal range.low range.high, range), tt)
  value_printable (text content) depth from to v g r = subst (IsPrintable depth) (sym r) (string_utf8 from content to g, tt)
  value_printable (array vs) depth from to v (inner, mid, deep, opens, all) (ws, read, is) =
      let h = elements_printable vs inner mid to ws all read in subst (IsPrintable depth) (sym is) (h.0, (inner, deep, h.1))
  value_printable (object ms) depth from to v (inner, mid, deep, opens, all) (ns, read, is) =
      let h = members_printable ms inner mid to ns all read in subst (IsPrintable depth) (sym is) (h.0, (inner, deep, h.1))

  elements_printable : (vs : Elements (List ℕ)) (depth : ℕ) (from to : List ℕ) (ws : Elements Number) → IsElements vs depth from to → ElementsAreReadAs vs ws → ArePrintable depth ws
  elements_printable no_elements depth from to ws g r = subst (ArePrintable depth) (sym r) (tt, tt)
  elements_printable (element v vs) depth from to ws (start, end, blank, first, rest) (x, xs, one, others, is) =
      let h = value_printable v depth start end x first one in
      let t = more_elements_printable vs depth end to xs rest others in
      subst (ArePrintable depth) (sym is) ((h.0, t.0), (h.1, t.1))

  more_elements_printable : (vs : Elements (List ℕ)) (depth : ℕ) (from to : List ℕ) (ws : Elements Number) → IsMoreElements vs depth from to → ElementsAreReadAs vs ws → ArePrintable depth ws
  more_elements_printable no_elements depth from to ws g r = subst (ArePrintable depth) (sym r) (tt, tt)
  more_elements_printable (element v vs) depth from to ws (mid, start, end, comma, blank, first, rest) (x, xs, one, others, is) =
      let h = value_printable v depth start end x first one in
      let t = more_elements_printable vs depth end to xs rest others in
      subst (ArePrintable depth) (sym is) ((h.0, t.0), (h.1, t.1))

  members_printable : (ms : Members (List ℕ)) (depth : ℕ) (from to : List ℕ) (ns : Members Number) → IsMembers ms depth from to → MembersAreReadAs ms ns → MembersArePrintable depth ns
  members_printable no_members depth from to ns g r = subst (MembersArePrintable depth) (sym r) (tt, tt)
  members_printable (member key v ms) depth from to ns (start, end, mid, first, last, blank, name, colon, space, one, rest) (x, xs, read, others, is) =
      let h = value_printable v depth first last x one read in
      let t = more_members_printable ms depth last to xs rest others in
      subst (MembersArePrintable depth) (sym is) ((string_utf8 start key end name, h.0, t.0), (h.1, t.1))

  more_members_printable : (ms : Members (List ℕ)) (depth : ℕ) (from to : List ℕ) (ns : Members Number) → IsMoreMembers ms depth from to → MembersAreReadAs ms ns → MembersArePrintable depth ns
  more_members_printable no_members depth from to ns g r = subst (MembersArePrintable depth) (sym r) (tt, tt)
  more_members_printable (member key v ms) depth from to ns (comma, start, end, mid, first, last, comma_is, blank, name, colon, space, one, rest) (x, xs, read, others, is) =
      let h = value_printable v depth first last x one read in
      let t = more_members_printable ms depth last to xs rest others in
      subst (MembersArePrintable depth) (sym is) ((string_utf8 start key end name, h.0, t.0), (h.1, t.1))

-- texts and keys of what a text spells are UTF-8, its numbers are in range and read back, and it nests at most 64 deep
pub spelled_printable : (bytes : List ℕ) (v : Json) → Spells bytes v → IsPrintable 64 v
spelled_printable bytes v (raw, (start, end, before, is, behind), keys, read) = value_printable raw 64 start end v is read

pub printed_again : (bytes : List ℕ) (v : Json) → Spells bytes v → Spells (printed v) v
printed_again bytes v h = let p = spelled_printable bytes v h in print_spells v p.0 p.1 (spelled_distinct bytes v h)

-- ---- the elements of what a text spells
element_printable : (depth : ℕ) (vs : Elements Number) (i : ℕ) (v : Json) → ArePrintable depth vs → ElementsHaveDistinctKeys vs → element_at vs i ≡ Some v
    → IsPrintable depth v × HasDistinctKeys v
element_printable depth no_elements i v h keys at = absurd (let e : None ≡ Some v = at in cc)
element_printable depth (element w vs) zero v h keys at =
    let same : w ≡ v = cc in subst (λ (u : Json). IsPrintable depth u × HasDistinctKeys u) same ((h.0.0, h.1.0), keys.0)
element_printable depth (element w vs) (suc i) v h keys at = element_printable depth vs i v (h.0.1, h.1.1) keys.1 at

mutual
  one_deeper : (v : Json) (depth : ℕ) → NestsWithin depth v → NestsWithin (suc depth) v
  one_deeper null depth n = tt
  one_deeper (truth b) depth n = tt
  one_deeper (number x) depth n = tt
  one_deeper (text bytes) depth n = tt
  one_deeper (array vs) depth n = (depth, refl, subst (λ (d : ℕ). ElementsNestWithin d vs) (sym n.1) (elements_one_deeper vs n.0 n.2))
  one_deeper (object ms) depth n = (depth, refl, subst (λ (d : ℕ). MembersNestWithin d ms) (sym n.1) (members_one_deeper ms n.0 n.2))

  elements_one_deeper : (vs : Elements Number) (depth : ℕ) → ElementsNestWithin depth vs → ElementsNestWithin (suc depth) vs
  elements_one_deeper no_elements depth n = tt
  elements_one_deeper (element v vs) depth n = (one_deeper v depth n.0, elements_one_deeper vs depth n.1)

  members_one_deeper : (ms : Members Number) (depth : ℕ) → MembersNestWithin depth ms → MembersNestWithin (suc depth) ms
  members_one_deeper no_members depth n = tt
  members_one_deeper (member key v ms) depth n = (one_deeper v depth n.0, members_one_deeper ms depth n.1)

-- each is spelled too, by the text that it prints as
pub element_spelled : (bytes : List ℕ) (vs : Elements Number) (i : ℕ) (v : Json) → Spells bytes (array vs) → element_at vs i ≡ Some v → Spells (printed v) v
element_spelled bytes vs i v h at =
    let p = spelled_printable bytes (array vs) h in
    let one = element_printable p.1.0 vs i v (p.0, p.1.2) (spelled_distinct bytes (array vs) h) at in
    print_spells v one.0.0 (subst (λ (d : ℕ). NestsWithin d v) (sym p.1.1) (one_deeper v p.1.0 one.0.1)) one.1
