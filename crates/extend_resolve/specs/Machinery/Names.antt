-- The names of contents by numbers.
use Rattle.std.specs.Prelude.{◌≡◌, ◌-◌, ◌<◌, ◌*◌, ◌^◌, ◌%◌, ◌++◌, [], ◌∷◌, ℕ, List, Option, Some, None, length, map, take, drop, IsSome, cond, slice_get}
use Rattle.std.specs.Borrow.{Bor}
use Rattle.std.specs.Int.Bits.{bit_or}
use Rattle.std.specs.Ordering.{nat_cmp, is_eq, ordering_then}
use Rattle.std.specs.declared.cmp.Ordering.{Ordering}
use Rattle.std.specs.Cmp.Lexicographic.{slice_cmp}
use Rattle.std.specs.List.{AllByRecursion, filter_map, fold, flat_map}
use Rattle.std.specs.List.Sorted.{IsSorted}
use Rattle.dtdl_terms.specs.declared.content.Content.{Content}
use Rattle.dtdl_terms.specs.declared.interface.Interface.{Interface}

-- The numbers of the names that each interface declares: equal names have one number, and different names different ones.
pub record IsNaming (nodes : List Interface) (declared : List (List ℕ)) (bound : ℕ) : Type 0 where
  pub number : List ℕ → Option ℕ
  pub numbers : declared ≡ map (λ i. filter_map (λ c. number c.name) i.contents) nodes
  pub each : AllByRecursion (λ i. AllByRecursion (λ c. IsSome (number c.name)) i.contents) nodes
  pub apart : (a b : List ℕ) (x : ℕ) → number a ≡ Some x → number b ≡ Some x → a ≡ b
  pub below : (a : List ℕ) (x : ℕ) → number a ≡ Some x → x < bound

-- the number, so far, and then a byte
abbrev pub then_byte : ℕ → ℕ → ℕ
then_byte number byte = bit_or ((number * 2 ^ 8) % 2 ^ 64) byte

-- the first eight bytes of a name as one number
unfoldable pub first_bytes : List ℕ → ℕ
first_bytes name = fold then_byte 0 (take 8 name)

-- the contents of all interfaces in one list
abbrev pub all_contents : List (Bor Interface) → List Content
all_contents nodes = flat_map (λ n. n.now.contents) nodes

-- what is sorted of a content: the first bytes of its name, its name, and where it stands in the list of all contents
abbrev pub SortedName : Type 0
SortedName = ℕ × Bor (List ℕ) × ℕ

-- an entry tells of the content at its place
pub record PlacesContent (contents : List Content) (e : SortedName) : Type 0 where
  pub content : Content
  pub placed : slice_get contents e.2 ≡ Some content
  pub name : e.1.now ≡ content.name
  pub first : e.0 ≡ first_bytes content.name

-- these are the entries of the contents, each at the place that it tells
pub record AreEntries (contents : List Content) (entries : List SortedName) : Type 0 where
  pub size : length entries ≡ length contents
  pub each : (k : ℕ) (e : SortedName) → slice_get entries k ≡ Some e → PlacesContent contents e
  pub places : (k : ℕ) (e : SortedName) → slice_get entries k ≡ Some e → e.2 ≡ k

-- the entries of these contents stand behind those that were there
abbrev pub AddsEntries : List SortedName → List SortedName → List Content → Type 0
AddsEntries old new contents = (before : List Content) → AreEntries before old → AreEntries (before ++ contents) new

-- the order of entries
abbrev pub entry_cmp : SortedName → SortedName → Ordering
entry_cmp d e = ordering_then (ordering_then (nat_cmp d.0 e.0) (slice_cmp nat_cmp d.1.now e.1.now)) (nat_cmp d.2 e.2)

-- entries in their order, with places among so many contents
pub record AreOrdered (entries : List SortedName) (size : ℕ) : Type 0 where
  pub contents : List Content
  pub count : length contents ≡ size
  pub each : (k : ℕ) (e : SortedName) → slice_get entries k ≡ Some e → PlacesContent contents e
  pub sorted : IsSorted entry_cmp entries

-- the number of a name: the place of the first entry that has it
abbrev pub number_named : List SortedName → List ℕ → Option ℕ
number_named [] name = None
number_named (e ∷ es) name = cond (is_eq (slice_cmp nat_cmp e.1.now name)) (Some e.2) (number_named es name)

-- the entry at an index has the name of the one before
pub record Repeats (entries : List SortedName) (index : ℕ) : Type 0 where
  pub behind : 0 < index
  pub same : (d e : SortedName) → slice_get entries (index - 1) ≡ Some d → slice_get entries index ≡ Some e → (d.0 ≡ e.0) × (d.1.now ≡ e.1.now)

-- the numbers stand at the places of these first entries
abbrev pub HoldNumbers : List SortedName → ℕ → List ℕ → Type 0
HoldNumbers entries count numbers = (k x : ℕ) (e : SortedName) → k < count → slice_get entries k ≡ Some e → slice_get numbers e.2 ≡ Some x → number_named entries e.1.now ≡ Some x

-- the numbers of each interface's contents, out of those of all contents
abbrev pub rows_of : List (Bor Interface) → List ℕ → List (List ℕ)
rows_of [] numbers = []
rows_of (n ∷ ns) numbers = take (length n.now.contents) numbers ∷ rows_of ns (drop (length n.now.contents) numbers)
