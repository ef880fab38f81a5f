use Rattle.std.proofs.Common.{◌≡◌, ◌++◌, map}
use Rattle.json_tree.specs.View.{view}
use Rattle.dt_base.specs.names.Grammar.{Identifier}
use Rattle.dtdl_terms.specs.Sets.{keyed}
use Rattle.dtdl_terms.specs.declared.interface.Interface.{Interface}
use Rattle.canon_text.specs.Canonical.{interface_value}
use Rattle.graph_machine.proofs.canon.canon_trees.Given as goal

-- the trees so far, and those that are still to come
abbrev pub invariant-interfaces : goal.invariant-interfaces
invariant-interfaces l = map view l.trees.items ++ map (λ (e : Identifier × Interface). interface_value e.1) l.interface-iterator ≡ map (λ (e : Identifier × Interface). interface_value e.1) (keyed l.set)
