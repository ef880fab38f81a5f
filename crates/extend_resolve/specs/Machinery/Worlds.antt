-- The interfaces that a judgement looks at.
use Rattle.std.specs.Prelude.{◌≡◌, ◌↔◌, ◌<◌, ◌≤◌, ℕ, ◌+◌, List, Bool, true, false, map, length, get_or, Option, Some, None, slice_get, Contains, IsSome}
use Rattle.std.specs.List.{filter_map}
use Rattle.dt_base.specs.names.Grammar.{Identifier, dtmi_text}
use Rattle.dtdl_terms.specs.Sets.{interface_at}
use Rattle.dtdl_terms.specs.declared.content.Content.{Content}
use Rattle.dtdl_terms.specs.declared.interface.Interface.{Interface}
use Rattle.extend_resolve.specs.SetRules.{IsComponentOf, DeclaresComponent}
use Rattle.extend_resolve.specs.Machinery.Links.{IsWay}
use Rattle.extend_resolve.specs.Machinery.Numbers.{kept_at}

-- The interfaces that a judgement looks at, by their numbers: the new ones, and then those of the set that they lead to.
pub record IsWorld (set new nodes : List Interface) (numbers : List (Identifier × ℕ)) (links : List (List ℕ)) (composed : List Bool) : Type 0 where
  pub begins : (k : ℕ) (i : Interface) → slice_get new k ≡ Some i → slice_get nodes k ≡ Some i
  pub stands : (id : Identifier) (k : ℕ) → kept_at id numbers ≡ Some k → (i : Interface) × (slice_get nodes k ≡ Some i) × (interface_at id set ≡ Some i)
  pub first : (id : Identifier) (k j : ℕ) (i : Interface) → kept_at id numbers ≡ Some k → slice_get nodes j ≡ Some i → dtmi_text i.id ≡ dtmi_text id → k ≤ j
  pub placed : (i : Interface) → Contains nodes i → IsSome (kept_at i.id numbers)
  pub parents : (i : Interface) (p : Identifier) → Contains nodes i → Contains i.parents p → IsSome (interface_at p set) → IsSome (kept_at p numbers)
  pub components : (i : Interface) (c : Content) (p : Identifier) → Contains new i → Contains i.contents c → IsComponentOf c p → IsSome (interface_at p set) → IsSome (kept_at p numbers)
  pub linked : links ≡ map (λ i. filter_map (λ p. kept_at p numbers) i.parents) nodes
  pub composes_length : length composed ≡ length nodes
  pub composes : (k : ℕ) (i : Interface) → slice_get nodes k ≡ Some i → (get_or composed k false ≡ true) ↔ DeclaresComponent i

-- how many steps lead on from a number at most; none where there is no most
abbrev pub DepthAt : List (List ℕ) → ℕ → Option ℕ → Type 0
DepthAt links x (Some d) = ((ys : List ℕ) × IsWay links x ys × (length ys ≡ d)) × ((ys : List ℕ) → IsWay links x ys → length ys ≤ d)
DepthAt links x None = (d : ℕ) → (ys : List ℕ) × IsWay links x ys × (length ys ≡ d)

pub record AreDepths (links : List (List ℕ)) (depths : List (Option ℕ)) : Type 0 where
  pub same : length depths ≡ length links
  pub each : (x : ℕ) → x < length links → DepthAt links x (get_or depths x None)
