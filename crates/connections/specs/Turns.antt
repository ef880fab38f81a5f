-- The turns of doors in memory.
use Rattle.std.specs.Prelude.{◌≡◌, ℕ, zero, suc, List, [], ◌∷◌, Option, None, IfSome, map, reverse}
use Rattle.std.specs.Option.{option_map}
use Rattle.connections.specs.Records.{LinkRecord}
use Rattle.connections.specs.MemRecords.{record_of}
use Rattle.connections.specs.declared.mem_link.MemLink.{MemLink}

-- What a turn answers by: the record of the link that it gives, or None, which is a failure.
abbrev pub turn_record : Option MemLink → Option LinkRecord
turn_record turn = option_map (λ link. record_of link.link link.faults) turn

-- The link that it gives, where it gives one, has no fault so far.
abbrev pub IsFresh : Option MemLink → Type 0
IsFresh turn = IfSome turn (λ link. link.faults ≡ 0)

-- So many entries of a list, from its first on, and this one in the place of each that is lacking.
abbrev pub filled : {A : Type 0} → A → ℕ → List A → List A
filled other zero entries = []
filled other (suc n) [] = other ∷ filled other n []
filled other (suc n) (entry ∷ entries) = entry ∷ filled other n entries

-- The turns of the doors that are opened where so many doors of so many turns are asked for: those that are there, and further ones,
-- which fail.
abbrev pub asked_doors : ℕ → ℕ → List (List (Option LinkRecord)) → List (List (Option LinkRecord))
asked_doors workers each doors = map (filled None each) (filled [] workers doors)

-- What is ahead of doors that are kept with the last one first.
abbrev pub doors_ahead : List (List (Option MemLink)) → List (List (Option LinkRecord))
doors_ahead doors = map (map turn_record) (reverse doors)
