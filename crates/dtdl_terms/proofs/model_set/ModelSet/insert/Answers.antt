use Rattle.std.proofs.Common.{◌≡◌, sym, ap, ◌∙◌}
use Rattle.std.specs.Map.{values_of}
use Rattle.std.specs.BTreeMap.{insert_entry}
use Rattle.dt_base.specs.names.Grammar.{id_cmp}
use Rattle.dtdl_terms.specs.Sets.{keyed}
use Rattle.dtdl_terms.proofs.Keyed.{insert-keyed}
use Rattle.dtdl_terms.proofs.model_set.ModelSet.insert.Goals as goal

pub invariant_of-self-2 : goal.invariant_of-self-2
invariant_of-self-2 c =
    let put : c.put.new.map.entries ≡ insert_entry id_cmp (keyed c.args.self.now) c.args.interface.id c.args.interface =
    c.in_ok-put.ensures.entries
    ∙ ap (λ es. insert_entry id_cmp es c.in_ok-id.id c.args.interface) (c.self.invariant.1 ∙ ap keyed c.self.view_is)
    ∙ ap (λ id. insert_entry id_cmp (keyed c.args.self.now) id c.args.interface) c.in_ok-id.ensures in (
      c.put.ensures.ordered,
      put ∙ insert-keyed c.args.interface c.args.self.now c.requires ∙ ap (λ es. keyed (values_of es)) (sym put),
    )

pub returns-clause-ok : goal.returns-clause-ok
returns-clause-ok c =
    let put : c.put.new.map.entries ≡ insert_entry id_cmp (keyed c.args.self.now) c.args.interface.id c.args.interface =
    c.in_ok-put.ensures.entries
    ∙ ap (λ es. insert_entry id_cmp es c.in_ok-id.id c.args.interface) (c.self.invariant.1 ∙ ap keyed c.self.view_is)
    ∙ ap (λ id. insert_entry id_cmp (keyed c.args.self.now) id c.args.interface) c.in_ok-id.ensures in
    ap values_of put
