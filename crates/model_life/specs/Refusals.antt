-- When the calls on models are refused.
use Rattle.std.specs.Prelude.{◌≡◌, ◌<◌, ℕ, List, take, length, Some, None, IsSome, slice_get}
use Rattle.std.specs.List.{AllByRecursion}
use Rattle.dt_base.specs.names.Grammar.{Identifier}
use Rattle.dtdl_terms.specs.declared.limit.Limit.{Limit}
use Rattle.dtdl_terms.specs.declared.limit.Limit.TheVariants as limits
use Rattle.dtdl_terms.specs.declared.uploaded.Uploaded.{Uploaded}
use Rattle.extend_resolve.specs.Breaches.{IsFirstSetBreach, IsSound}
use Rattle.model_life.specs.Models.{Model, interfaces_of, model_at, with_new_models, first_user}
use Rattle.model_life.specs.Sums.{model_bytes, AllTake}
use Rattle.model_life.specs.declared.ends.AddEnd.{AddEnd}
use Rattle.model_life.specs.declared.ends.AddEnd.TheVariants as adds
use Rattle.model_life.specs.declared.ends.DropEnd.{DropEnd}
use Rattle.model_life.specs.declared.ends.DropEnd.TheVariants as drops
use Rattle.model_life.specs.declared.ends.MarkEnd.{MarkEnd}
use Rattle.model_life.specs.declared.ends.MarkEnd.TheVariants as marks

-- ---- models that come
-- No model has the identifier of one of the uploads.
abbrev pub AreNew : List Model → List Uploaded → Type 0
AreNew ms us = AllByRecursion (λ u. model_at u.interface.id ms ≡ None) us

-- The upload at this position is the first of which a model has the identifier.
abbrev pub IsFirstThere : List Model → List Uploaded → ℕ → Type 0
IsFirstThere ms us index = (u : Uploaded) × (slice_get us index ≡ Some u) × IsSome (model_at u.interface.id ms) × AreNew ms (take index us)

-- The models pass this limit on models.
abbrev pub Passes : List Model → Limit → Type 0
Passes ms limits.Models = 10000 < length ms
Passes ms limits.ModelBytes = 67108864 < model_bytes ms
Passes ms limits.ResolvedBytes = (bytes : ℕ) × AllTake (interfaces_of ms) bytes × (268435456 < bytes)
Passes ms limits.TwinBytes = ⊥
Passes ms limits.RelationshipBytes = ⊥
Passes ms limits.Twins = ⊥
Passes ms limits.Relationships = ⊥
Passes ms limits.GraphBytes = ⊥

-- and none of those before it
abbrev pub PassesFirst : List Model → Limit → Type 0
PassesFirst ms limits.Models = Passes ms limits.Models
PassesFirst ms limits.ModelBytes = (Passes ms limits.Models → ⊥) × Passes ms limits.ModelBytes
PassesFirst ms limits.ResolvedBytes = (Passes ms limits.Models → ⊥) × (Passes ms limits.ModelBytes → ⊥) × Passes ms limits.ResolvedBytes
PassesFirst ms other = ⊥

-- the uploads for which `add` answers each end; want of memory may come at any
abbrev pub RefusesUploads : List Model → List Uploaded → AddEnd → Type 0
RefusesUploads ms us (adds.ModelExists index) = IsFirstThere ms us index
RefusesUploads ms us (adds.ModelFault index spot rule) = AreNew ms us × IsFirstSetBreach (interfaces_of ms) us (record { index = index; rule = rule; spot = spot })
RefusesUploads ms us (adds.Full limit) = AreNew ms us × IsSound (interfaces_of ms) us × PassesFirst (with_new_models us ms) limit
RefusesUploads ms us adds.OutOfMemory = Unit {0}

-- ---- models that are marked, and models that go
abbrev pub RefusesMark : List Model → Identifier → MarkEnd → Type 0
RefusesMark ms id marks.ModelNotFound = model_at id ms ≡ None

-- the identifiers for which `drop_model` answers each end
abbrev pub RefusesDrop : List Model → Identifier → DropEnd → Type 0
RefusesDrop ms id drops.ModelNotFound = model_at id ms ≡ None
RefusesDrop ms id drops.ModelInUse = IsSome (model_at id ms) × IsSome (first_user id ms)
