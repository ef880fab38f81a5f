use Rattle.std.proofs.Common.{◌≡◌, sym, ap, ◌∙◌}
use Rattle.std.specs.Prelude.{slice_get}
use Rattle.std.specs.Option.{option_copied}
use Rattle.std.specs.Ordering.{is_lt}
use Rattle.std.specs.List.{filter}
use Rattle.std.specs.Map.{values_of}
use Rattle.dt_base.specs.names.Grammar.{id_cmp}
use Rattle.dtdl_terms.specs.Sets.{keyed, next_past}
use Rattle.dtdl_terms.proofs.Keyed.{filter-every, filter-keyed, filter-bounded}
use Rattle.dtdl_terms.proofs.model_set.ModelSet.after.Goals as goal

pub returns-in-Some : goal.returns-in-Some
returns-in-Some c =
    let kept : c.self.inside.interfaces.entries ≡ keyed c.args.self.now = c.self.invariant.1 ∙ ap keyed c.self.view_is in
    let past : c.range.result ≡ filter (λ e. is_lt (id_cmp c.in-Some.id.now e.0)) (keyed c.args.self.now) =
    c.range.ensures.between tt
    ∙ filter-bounded (λ q. is_lt (id_cmp c.in-Some.id.now q)) c.self.inside.interfaces.entries
    ∙ ap (filter (λ e. is_lt (id_cmp c.in-Some.id.now e.0))) kept in
    c.first_of.ensures
    ∙ ap (λ es. slice_get (values_of es) 0) past
    ∙ ap (λ is. slice_get is 0) (filter-keyed (λ q. is_lt (id_cmp c.in-Some.id.now q)) c.args.self.now)
    ∙ ap (λ o. next_past (option_copied o) c.args.self.now) (sym c.in-Some.is)

pub returns-in-None : goal.returns-in-None
returns-in-None c =
    let every : values_of c.range-in-None.result ≡ c.args.self.now =
    ap values_of (c.range-in-None.ensures.between tt ∙ filter-every c.self.inside.interfaces.entries) ∙ c.self.view_is in
    c.first_of-in-None.ensures
    ∙ ap (λ is. slice_get is 0) (every ∙ sym (filter-every c.args.self.now))
    ∙ ap (λ o. next_past (option_copied o) c.args.self.now) (sym c.in-None.is)
