use Rattle.std.proofs.Common.{Some, cond, is_eq, refl, ap, ◌∙◌}
use Rattle.dt_base.specs.names.Grammar.{id_cmp}
use Rattle.dtdl_terms.specs.Sets.{interface_at}
use Rattle.model_life.proofs.resolution.Families.{found_keyed, found_put}
use Rattle.model_life.proofs.resolution.found.Found.add.Goals as goal

pub invariant_of-self-2 : goal.invariant_of-self-2
invariant_of-self-2 c = (
  c.insert.ensures.ordered,
  found_keyed c.self.inside.by_id.entries c.insert.new.self.entries _ c.args.interface c.in_ok-insert.ensures.entries refl c.self.invariant.1,
)

pub returns : goal.returns
returns c id =
    found_put c.self.inside.by_id.entries c.insert.new.self.entries _ c.args.interface c.in_ok-insert.ensures.entries refl c.self.invariant.1 id
    ∙ ap (λ is. cond (is_eq (id_cmp id c.args.interface.now.id)) (Some c.args.interface.now) (interface_at id is)) c.self.view_is
