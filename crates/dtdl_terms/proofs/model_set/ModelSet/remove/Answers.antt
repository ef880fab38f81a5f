use Rattle.std.proofs.Common.{◌≡◌, sym, ap, ◌∙◌}
use Rattle.std.specs.Map.{remove_entry, values_of}
use Rattle.std.specs.BTreeMap.{is_at}
use Rattle.dt_base.specs.names.Grammar.{id_cmp}
use Rattle.dtdl_terms.specs.Sets.{keyed}
use Rattle.dtdl_terms.proofs.Keyed.{remove-keyed}
use Rattle.dtdl_terms.proofs.model_set.ModelSet.remove.Goals as goal

pub invariant_of-self : goal.invariant_of-self
invariant_of-self c =
    let left : c.remove.new.self.entries ≡ remove_entry (is_at (id_cmp c.args.id.now)) (keyed (values_of c.self.inside.interfaces.entries)) =
    c.remove.ensures.entries ∙ ap (remove_entry (is_at (id_cmp c.args.id.now))) c.self.invariant.1 in (
      c.remove.ensures.ordered,
      left ∙ remove-keyed (is_at (id_cmp c.args.id.now)) (values_of c.self.inside.interfaces.entries) ∙ ap (λ es. keyed (values_of es)) (sym left),
    )
