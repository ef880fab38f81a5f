-- The empty state is well typed.
use Rattle.std.proofs.Common.{◌≡◌, ℕ, List, [], ◌∷◌, refl, arith}
use Rattle.std.specs.Cmp.Lexicographic.{slice_cmp}
use Rattle.std.specs.Ordering.{nat_cmp}
use Rattle.std.specs.List.Sorted.{IsStrictlySortedBy}
use Rattle.std.proofs.lemmas.Option.{none-some}
use Rattle.dtdl_terms.specs.Sets.{InOrder as InterfacesInOrder}
use Rattle.rel_graph.specs.Edges.{EdgesInOrder}
use Rattle.model_life.specs.Sums.{AreWithinLimits}
use Rattle.graph_steps.specs.States.{Link, empty}
use Rattle.graph_steps.specs.Typed.{AreSound, WellTyped}

no_interfaces : InterfacesInOrder []
unfolding IsStrictlySortedBy
no_interfaces = tt

no_twins : IsStrictlySortedBy {K = List ℕ} (slice_cmp nat_cmp) []
unfolding IsStrictlySortedBy
no_twins = tt

no_links : (ls : List Link) → ls ≡ [] → EdgesInOrder ls
unfolding IsStrictlySortedBy
no_links [] e = tt
no_links (l ∷ ls) e = absurd cc

none_within : AreWithinLimits []
none_within = record {
  models = omega arith;
  bytes = omega arith;
  resolved = (0, record { bytes_for = λ i. 0; each = λ i has. absurd (omega (arith, has.1)); sum = refl }, omega arith);
}

none_sound : AreSound []
none_sound = record { rules = λ k i rule spot is h. none-some i is; each = tt; ordered = no_interfaces }

pub empty_is_typed : WellTyped empty
empty_is_typed = record {
  models = none_sound;
  twins = no_twins;
  links = no_links [] refl;
  ends = tt;
  fit = tt;
  links_fit = tt;
  limits = record { models = none_within; twin_bytes = tt; link_bytes = tt; twins = omega arith; links = omega arith; graph_bytes = omega arith };
}
