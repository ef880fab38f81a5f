use Rattle.std.proofs.Common.{◌≡◌, ◌+◌, ◌∷◌, drop, None, ap, ◌∙◌}
use Rattle.std.specs.Prelude.{IsSome}
use Rattle.std.specs.List.{list_any}
use Rattle.dt_base.specs.names.Grammar.{id_eq}
use Rattle.dtdl_terms.specs.Sets.{interface_at}
use Rattle.model_life.specs.resolution.Resolving.{entry_at}
use Rattle.resolved_table.specs.Machinery.Without.{without}
use Rattle.model_life.proofs.resolution.Changes.{all_map}
use Rattle.model_life.proofs.resolution.Families.{some_of}
use Rattle.resolved_table.proofs.Entries.{without_absent, all_at, one_more, without_put, is_of_at, drop_next}
use Rattle.resolved_table.proofs.table.Table.add.Goals as goal

pub ids-init : goal.ids-init
ids-init c = record {
  others = c.requires.others.others;
  before = without_absent c.args.ids.now c.args.self.now
      (all_map (λ id. IsSome (interface_at id c.args.set.now) × (entry_at id c.args.self.now ≡ None)) (λ id. entry_at id c.args.self.now ≡ None) c.args.ids.now (λ id h. h.1) c.requires.others.new);
}

pub ids-preserved : goal.ids-preserved
ids-preserved c =
    let rest = drop (c.ids.id-index + 1) c.args.ids.now in
    let next : drop c.ids.id-index c.args.ids.now ≡ c.id-item.result ∷ drop (c.ids.id-index + 1) c.args.ids.now = drop_next c.args.ids.now c.ids.id-index c.id-item.result c.ids-test.true c.id-item.is in
    let new = all_at (λ id. IsSome (interface_at id c.args.set.now) × (entry_at id c.args.self.now ≡ None)) c.args.ids.now c.id-item.result c.ids.id-index c.requires.others.new c.ids-test.true c.id-item.is in
    let one = some_of (interface_at c.id-item.result c.args.set.now) new.0 in
    let added = c.in-Ok.ensures.ok in
    record {
      others = one_more c.args.set.now c.id-item.result one.0 added.0 c.ids.self c.add_one.new.self rest one.1 (added.1 one.0 one.1) added.2
          (λ q none. c.ids.invariant.others q (ap (list_any (id_eq q)) next ∙ none));
      before = ap (without c.args.ids.now) added.2 ∙ without_put c.args.ids.now c.id-item.result added.0 (is_of_at c.args.ids.now c.id-item.result c.ids.id-index c.ids-test.true c.id-item.is) c.ids.self ∙ c.ids.invariant.before;
    }
