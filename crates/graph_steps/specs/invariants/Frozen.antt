-- What a step does to the twins that it finds frozen.
use Rattle.std.specs.Prelude.{◌≡◌, ◌⊎◌, ℕ, List, Contains, false, true, Some, None}
use Rattle.dtdl_terms.specs.declared.uploaded.Uploaded.{Uploaded}
use Rattle.graph_asks.specs.declared.ask.Ask.{Ask}
use Rattle.graph_asks.specs.declared.ask.Ask.TheVariants as asks
use Rattle.graph_steps.specs.LinkAsks.{link_at}
use Rattle.graph_steps.specs.States.{State, Twin, twin_at, is_live}

-- From one state to the next by an ask, the twin is as it was, or went by DropTwin; under each id there is the relationship
-- out of it that there was, if any, or it went by DropRel; and it is live only where models came.
pub record StaysFrozen (s : State) (ask : Ask) (next : State) (t : Twin) : Type 0 where
  pub twin : (twin_at t.id next ≡ Some t) ⊎ ((ask ≡ asks.DropTwin t.id) × (twin_at t.id next ≡ None))
  pub links : (id : List ℕ) → (link_at t.id id next ≡ link_at t.id id s) ⊎ ((ask ≡ asks.DropRel t.id id) × (link_at t.id id next ≡ None))
  pub live : is_live next t ≡ true → (models : List Uploaded) × (ask ≡ asks.PutModels models)

-- So does each twin that is frozen in the first state.
abbrev pub FrozenStay : State → Ask → State → Type 0
FrozenStay s ask next = (t : Twin) → Contains s.twins t → is_live s t ≡ false → StaysFrozen s ask next t
