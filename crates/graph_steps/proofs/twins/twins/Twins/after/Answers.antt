use Rattle.std.proofs.Common.{◌≡◌, List, ℕ, true, ◌&&◌, refl, sym, ap, ◌∙◌}
use Rattle.std.specs.Prelude.{slice_get}
use Rattle.std.specs.Option.{option_copied, option_map}
use Rattle.std.specs.Ordering.{is_lt}
use Rattle.std.specs.List.{filter}
use Rattle.std.specs.Map.{values_of}
use Rattle.ordered_table.proofs.Flat.{C}
use Rattle.ordered_table.proofs.Kept.{filter-all, filter-alike, and_true}
use Rattle.graph_steps.specs.declared.twins.held.Held.{Held}
use Rattle.graph_steps.specs.twins.Held.{id_of, twins_by_id, next_held_past}
use Rattle.graph_steps.proofs.twins.Keyed.{filter-keyed}
use Rattle.graph_steps.proofs.twins.Kept.{entries-keyed}
use Rattle.graph_steps.proofs.twins.twins.Twins.after.Goals as goal

pub returns-in-Some : goal.returns-in-Some
returns-in-Some c =
    let p = λ (q : List ℕ). is_lt (C c.in-Some.id.now q) in
    let past : c.range.result ≡ filter (λ e. p e.0) (twins_by_id c.args.self.now) =
    c.range.ensures.between tt
    ∙ filter-alike (λ e. p e.0 && true) (λ e. p e.0) (λ e. and_true (p e.0)) c.self.inside.twins.entries
    ∙ ap (filter (λ e. p e.0)) (entries-keyed c.self.inside.twins.entries c.args.self.now c.self.invariant.own c.self.view_is) in
    c.first_of.ensures
    ∙ ap (λ es. option_map (λ (h : Held). h.twin) (slice_get (values_of es) 0)) past
    ∙ ap (λ hs. option_map (λ (h : Held). h.twin) (slice_get hs 0)) (filter-keyed id_of p c.args.self.now)
    ∙ ap (λ o. next_held_past (option_copied o) c.args.self.now) (sym c.in-Some.is)

pub returns-in-None : goal.returns-in-None
returns-in-None c =
    let every : values_of c.range-in-None.result ≡ c.args.self.now =
    ap values_of (c.range-in-None.ensures.between tt ∙ filter-all (λ _. true) (λ _. refl) c.self.inside.twins.entries) ∙ c.self.view_is in
    c.first_of-in-None.ensures
    ∙ ap (λ hs. option_map (λ (h : Held). h.twin) (slice_get hs 0)) (every ∙ sym (filter-all (λ _. true) (λ _. refl) c.args.self.now))
    ∙ ap (λ o. next_held_past (option_copied o) c.args.self.now) (sym c.in-None.is)
