-- When uploads may not come into a set, by all but the limits on bytes.
use Rattle.std.specs.Prelude.{◌≡◌, ◌+◌, ◌<◌, ℕ, List, take, length, Some, None, IsSome, slice_get}
use Rattle.std.specs.List.{AllByRecursion}
use Rattle.dtdl_terms.specs.Sets.{interface_at}
use Rattle.dtdl_terms.specs.declared.interface.Interface.{Interface}
use Rattle.dtdl_terms.specs.declared.limit.Limit.TheVariants as limits
use Rattle.dtdl_terms.specs.declared.uploaded.Uploaded.{Uploaded}
use Rattle.extend_resolve.specs.Breaches.{IsFirstSetBreach, IsSound}
use Rattle.model_life.specs.declared.ends.AddEnd.{AddEnd}
use Rattle.model_life.specs.declared.ends.AddEnd.TheVariants as adds

abbrev pub AreAbsent : List Interface → List Uploaded → Type 0
AreAbsent set us = AllByRecursion (λ u. interface_at u.interface.id set ≡ None) us

abbrev pub IsFirstIn : List Interface → List Uploaded → ℕ → Type 0
IsFirstIn set us index = (u : Uploaded) × (slice_get us index ≡ Some u) × IsSome (interface_at u.interface.id set) × AreAbsent set (take index us)

abbrev pub RefusesIn : List Interface → List Uploaded → AddEnd → Type 0
RefusesIn set us (adds.ModelExists index) = IsFirstIn set us index
RefusesIn set us (adds.ModelFault index spot rule) = AreAbsent set us × IsFirstSetBreach set us (record { index = index; rule = rule; spot = spot })
RefusesIn set us (adds.Full limit) = AreAbsent set us × IsSound set us × (limit ≡ limits.Models) × (10000 < length set + length us)
RefusesIn set us adds.OutOfMemory = Unit {0}
