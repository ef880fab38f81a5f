-- The printed text of a value spells it.
use Rattle.std.proofs.Common.{ℕ, List, [], ◌∷◌, ◌++◌, append_assoc, refl, ap, ◌∙◌, subst}
use Rattle.std.proofs.lemmas.List.{append-nil}
use Rattle.json_decimal.specs.Number.{Number}
use Rattle.json_decimal.specs.Printing.{text_of}
use Rattle.json_tree.specs.Values.{Raw, Json, null, truth, number, text, array, object, Elements, no_elements, element, Members, no_members, member, HasDistinctKeys, ElementsHaveDistinctKeys, MembersHaveDistinctKeys, LacksKey, IsReadAs, ElementsAreReadAs, MembersAreReadAs}
use Rattle.json_tree.specs.Grammar.{IsSpaces, IsCharacters, IsString, IsValue, IsElements, IsMoreElements, IsMembers, IsMoreMembers, Spells}
use Rattle.json_tree.specs.Printing.{escaped, quoted, printed, printed_elements, printed_more_elements, printed_members, printed_more_members, NestsWithin, ElementsNestWithin, MembersNestWithin}
use Rattle.json_tree.specs.Machinery.Pieces.{IsOfTree, AreOfTrees, MembersAreOfTrees}
use Rattle.json_tree.proofs.Characters.{text_printed}

-- each number as its text
abbrev mutual
  pub spelled : Json → Raw
  spelled null = null
  spelled (truth b) = truth b
  spelled (number n) = number (text_of n)
  spelled (text bytes) = text bytes
  spelled (array vs) = array (elements_spelled vs)
  spelled (object ms) = object (members_spelled ms)

  pub elements_spelled : Elements Number → Elements (List ℕ)
  elements_spelled no_elements = no_elements
  elements_spelled (element v vs) = element (spelled v) (elements_spelled vs)

  pub members_spelled : Members Number → Members (List ℕ)
  members_spelled no_members = no_members
  members_spelled (member key v ms) = member key (spelled v) (members_spelled ms)

no_spaces : (to : List ℕ) → IsSpaces to to
no_spaces to = ([], tt, refl)

-- texts: the characters that content prints as, up to the quotation mark
abbrev ArePrinted : List ℕ → Type 0
ArePrinted content = (to : List ℕ) → (n : ℕ) × IsCharacters n (escaped content ++ 34 ∷ to) content to

string_printed : (content to : List ℕ) → ArePrinted content → IsString (quoted content ++ to) content to
string_printed content to h =
    let chars = h to in (chars.0, escaped content ++ 34 ∷ to, ap (λ e. 34 ∷ e) (append_assoc (escaped content) (34 ∷ []) to), chars.1)

mutual
  pub value_printed : (v : Json) (depth : ℕ) (to : List ℕ) → IsOfTree v → NestsWithin depth v → IsValue (spelled v) depth (printed v ++ to) to
  value_printed null depth to h n = refl
  value_printed (truth b) depth to h n = refl
  value_printed (number x) depth to h n = ((h.0.literal, h.0.is, h.0.spelled), refl)
  value_printed (text bytes) depth to h n = string_printed bytes to (text_printed bytes h)
  value_printed (array vs) depth to h n = (n.0, printed_elements vs ++ to, n.1, refl, elements_printed vs n.0 to h n.2)
  value_printed (object ms) depth to h n = (n.0, printed_members ms ++ to, n.1, refl, members_printed ms n.0 to h n.2)

  elements_printed : (vs : Elements Number) (depth : ℕ) (to : List ℕ) → AreOfTrees vs → ElementsNestWithin depth vs
      → IsElements (elements_spelled vs) depth (printed_elements vs ++ to) to
  elements_printed no_elements depth to h n = no_spaces (93 ∷ to)
  elements_printed (element v vs) depth to h n = (
    printed v ++ (printed_more_elements vs ++ to),
    printed_more_elements vs ++ to,
    ([], tt, append_assoc (printed v) (printed_more_elements vs) to),
    value_printed v depth (printed_more_elements vs ++ to) h.0 n.0,
    more_elements_printed vs depth to h.1 n.1,
  )

  more_elements_printed : (vs : Elements Number) (depth : ℕ) (to : List ℕ) → AreOfTrees vs → ElementsNestWithin depth vs
      → IsMoreElements (elements_spelled vs) depth (printed_more_elements vs ++ to) to
  more_elements_printed no_elements depth to h n = no_spaces (93 ∷ to)
  more_elements_printed (element v vs) depth to h n = (
    printed v ++ (printed_more_elements vs ++ to),
    printed v ++ (printed_more_elements vs ++ to),
    printed_more_elements vs ++ to,
    ([], tt, ap (λ e. 44 ∷ e) (append_assoc (printed v) (printed_more_elements vs) to)),
    no_spaces _,
    value_printed v depth (printed_more_elements vs ++ to) h.0 n.0,
    more_elements_printed vs depth to h.1 n.1,
  )

  members_printed : (ms : Members Number) (depth : ℕ) (to : List ℕ) → MembersAreOfTrees ms → MembersNestWithin depth ms
      → IsMembers (members_spelled ms) depth (printed_members ms ++ to) to
  members_printed no_members depth to h n = no_spaces (125 ∷ to)
  members_printed (member key v ms) depth to h n =
      let last = printed_more_members ms ++ to in let first = printed v ++ last in (
        quoted key ++ 58 ∷ first,
        58 ∷ first,
        first,
        first,
        last,
        ([], tt, append_assoc (quoted key) (58 ∷ (printed v ++ printed_more_members ms)) to ∙ ap (λ e. quoted key ++ 58 ∷ e) (append_assoc (printed v) (printed_more_members ms) to)),
        string_printed key (58 ∷ first) (text_printed key h.0),
        no_spaces _,
        no_spaces _,
        value_printed v depth last h.1 n.0,
        more_members_printed ms depth to h.2 n.1,
      )

  more_members_printed : (ms : Members Number) (depth : ℕ) (to : List ℕ) → MembersAreOfTrees ms → MembersNestWithin depth ms
      → IsMoreMembers (members_spelled ms) depth (printed_more_members ms ++ to) to
  more_members_printed no_members depth to h n = no_spaces (125 ∷ to)
  more_members_printed (member key v ms) depth to h n =
      let last = printed_more_members ms ++ to in let first = printed v ++ last in let start = quoted key ++ 58 ∷ first in (
        start,
        start,
        58 ∷ first,
        first,
        first,
        last,
        ([], tt, ap (λ e. 44 ∷ e) (append_assoc (quoted key) (58 ∷ (printed v ++ printed_more_members ms)) to ∙ ap (λ e. quoted key ++ 58 ∷ e) (append_assoc (printed v) (printed_more_members ms) to))),
        no_spaces _,
        string_printed key (58 ∷ first) (text_printed key h.0),
        no_spaces _,
        no_spaces _,
        value_printed v depth last h.1 n.0,
        more_members_printed ms depth to h.2 n.1,
      )

-- reading the numbers gives the value back
mutual
  read_back : (v : Json) → IsOfTree v → IsReadAs (spelled v) v
  read_back null h = refl
  read_back (truth b) h = refl
  read_back (number n) h = (n, h.0, h.1, refl)
  read_back (text bytes) h = refl
  read_back (array vs) h = (vs, elements_read_back vs h, refl)
  read_back (object ms) h = (ms, members_read_back ms h, refl)

  elements_read_back : (vs : Elements Number) → AreOfTrees vs → ElementsAreReadAs (elements_spelled vs) vs
  elements_read_back no_elements h = refl
  elements_read_back (element v vs) h = (v, vs, read_back v h.0, elements_read_back vs h.1, refl)

  members_read_back : (ms : Members Number) → MembersAreOfTrees ms → MembersAreReadAs (members_spelled ms) ms
  members_read_back no_members h = refl
  members_read_back (member key v ms) h = (v, ms, read_back v h.1, members_read_back ms h.2, refl)

-- the keys are the same
lacks : (key : List ℕ) (ms : Members Number) → LacksKey key ms → LacksKey key (members_spelled ms)
lacks key no_members h = tt
lacks key (member k v ms) h = (h.0, lacks key ms h.1)

mutual
  distinct : (v : Json) → HasDistinctKeys v → HasDistinctKeys (spelled v)
  distinct null h = tt
  distinct (truth b) h = tt
  distinct (number n) h = tt
  distinct (text bytes) h = tt
  distinct (array vs) h = elements_distinct vs h
  distinct (object ms) h = members_distinct ms h

  elements_distinct : (vs : Elements Number) → ElementsHaveDistinctKeys vs → ElementsHaveDistinctKeys (elements_spelled vs)
  elements_distinct no_elements h = tt
  elements_distinct (element v vs) h = (distinct v h.0, elements_distinct vs h.1)

  members_distinct : (ms : Members Number) → MembersHaveDistinctKeys ms → MembersHaveDistinctKeys (members_spelled ms)
  members_distinct no_members h = tt
  members_distinct (member key v ms) h = (lacks key ms h.0, distinct v h.1, members_distinct ms h.2)

-- with white space behind it
pub print_spells_before : (v : Json) (spaces : List ℕ) → IsOfTree v → IsSpaces spaces [] → NestsWithin 64 v → HasDistinctKeys v → Spells (printed v ++ spaces) v
print_spells_before v spaces sound blank nests keys = (
  spelled v,
  (printed v ++ spaces, spaces, no_spaces (printed v ++ spaces), value_printed v 64 spaces sound nests, blank),
  distinct v keys,
  read_back v sound,
)

pub print_spells : (v : Json) → IsOfTree v → NestsWithin 64 v → HasDistinctKeys v → Spells (printed v) v
print_spells v sound nests keys = subst (λ bytes. Spells bytes v) (append-nil (printed v)) (print_spells_before v [] sound (no_spaces []) nests keys)
