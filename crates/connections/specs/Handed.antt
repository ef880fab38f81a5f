-- The links in memory that were handed back, each with those before it.
use Rattle.std.specs.Prelude.{List, [], ◌∷◌, ◌++◌}
use Rattle.connections.specs.Records.{LinkRecord}
use Rattle.connections.specs.MemRecords.{record_of}
use Rattle.connections.specs.declared.gone.Last.{Last}
use Rattle.connections.specs.declared.gone.Last.TheVariants.{Nobody, Link}

-- Their records, in the order in which they were handed back.
abbrev pub records : Last → List LinkRecord
records Nobody = []
records (Link link faults before) = before.value ++ record_of link faults ∷ []
