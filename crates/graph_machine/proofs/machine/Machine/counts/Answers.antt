use Rattle.std.proofs.Common.{◌∙◌, length, map, sym, ap}
use Rattle.std.proofs.lemmas.List.{length-map}
use Rattle.graph_steps.specs.held.Held.{twin_of, link_of}
use Rattle.graph_machine.proofs.machine.Machine.counts.Goals as goal

pub returns-clause-models : goal.returns-clause-models
returns-clause-models c = c.len.ensures ∙ ap (λ h. length h.models) c.self.view_is

pub returns-clause-twins : goal.returns-clause-twins
returns-clause-twins c = c.len-2.ensures.len ∙ sym (length-map c.self.inside.twins twin_of) ∙ ap (λ h. length (map twin_of h.twins)) c.self.view_is

pub returns-clause-relationships : goal.returns-clause-relationships
returns-clause-relationships c = c.len-3.ensures.len ∙ sym (length-map c.self.inside.links link_of) ∙ ap (λ h. length (map link_of h.links)) c.self.view_is
