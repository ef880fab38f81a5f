use Rattle.std.proofs.Common.{rules, ◌≡◌, ℕ, ◌+◌, ◌&&◌, List, true, cond, length, Some, None, Result, Ok, Err, sym, ap, ◌∙◌, subst, is_eq}
use Rattle.std.specs.Prelude.{OnErr}
use Rattle.std.specs.Option.{option_map, is_some}
use Rattle.std.specs.BTreeMap.{is_at, insert_entry}
use Rattle.std.specs.BTreeMap.Entry.{entry_value, map_with_value, map_without_entry}
use Rattle.std.proofs.lemmas.Option.{same_Some}
use Rattle.dt_base.specs.names.Grammar.{Identifier, id_cmp}
use Rattle.ordered_table.proofs.Flat.{C}
use Rattle.graph_steps.specs.declared.twins.held.Held.{Held}
use Rattle.graph_steps.specs.twins.Held.{id_of}
use Rattle.graph_steps.specs.twins.Machinery.Rows.{holds_id}
use Rattle.graph_steps.specs.twins.Machinery.Keeping.{held_under, KeepsTwins}
use Rattle.graph_steps.proofs.twins.Keyed.{insert-same, remove-none}
use Rattle.graph_steps.proofs.twins.Kept.{under-twin_at}
use Rattle.graph_steps.proofs.twins.Steps.{kept-same, kept-new, kept-over}
use Rattle.graph_steps.proofs.twins.twins.Twins.put.Goals as goal

on_err : {T E P : Type 0} (r : Result T E) → P → OnErr r P
on_err (Ok x) p = tt
on_err (Err e) p = p

pub invariant_of-self-in_err-old-in-Occupied : goal.invariant_of-self-in_err-old-in-Occupied
invariant_of-self-in_err-old-in-Occupied c =
    let entries = c.self.inside.twins.entries in
    let there : held_under entries c.in-Ok.id ≡ Some c.get_mut.result.now = sym c.in-Ok-entry.ensures.value ∙ ap entry_value c.in-Occupied.is ∙ c.get_mut.ensures.value in
    let same =
    ap (λ e. (map_with_value e c.put_over.new.place).entries) (sym c.in-Occupied.is)
    ∙ c.in-Ok-entry.ensures.update.1 c.put_over.new.place
    ∙ ap (insert_entry C entries c.in-Ok.id) c.in_err-old-in-Occupied.ensures.err
    ∙ insert-same c.in-Ok.id c.get_mut.result.now entries c.self.invariant.sorted there in
    kept-same entries c.self.inside.index c.self.inside.len c.self.inside.bytes c.self.invariant _ (search rules) c.put_over.new.index c.in_err-old-in-Occupied.ensures.err_index

pub returns-in_err-old-in-Occupied-clause-err : goal.returns-in_err-old-in-Occupied-clause-err
returns-in_err-old-in-Occupied-clause-err c =
    let entries = c.self.inside.twins.entries in
    let there : held_under entries c.in-Ok.id ≡ Some c.get_mut.result.now = sym c.in-Ok-entry.ensures.value ∙ ap entry_value c.in-Occupied.is ∙ c.get_mut.ensures.value in
    let same =
    ap (λ e. (map_with_value e c.put_over.new.place).entries) (sym c.in-Occupied.is)
    ∙ c.in-Ok-entry.ensures.update.1 c.put_over.new.place
    ∙ ap (insert_entry C entries c.in-Ok.id) c.in_err-old-in-Occupied.ensures.err
    ∙ insert-same c.in-Ok.id c.get_mut.result.now entries c.self.invariant.sorted there in
    on_err c.from_residual.result (search rules)

pub invariant_of-self-in-Occupied : goal.invariant_of-self-in-Occupied
invariant_of-self-in-Occupied c =
    let entries = c.self.inside.twins.entries in
    let id = c.args.twin.id in
    let h : Held = record { twin = c.args.twin; bytes = c.args.bytes } in
    let old = c.in_ok-old-in-Occupied.old in
    let there : held_under entries id ≡ Some old =
    sym (ap (held_under entries) c.in-Ok.ensures.id) ∙ sym c.in-Ok-entry.ensures.value ∙ ap entry_value c.in-Occupied.is ∙ c.get_mut.ensures.value ∙ ap Some (sym c.in_ok-old-in-Occupied.ensures.old) in
    let put =
    ap (λ e. (map_with_value e c.put_over.new.place).entries) (sym c.in-Occupied.is)
    ∙ c.in-Ok-entry.ensures.update.1 c.put_over.new.place
    ∙ ap (λ k. insert_entry C entries k c.put_over.new.place) c.in-Ok.ensures.id
    ∙ ap (insert_entry C entries id) c.in_ok-old-in-Occupied.ensures.ok in
    subst (KeepsTwins _ c.put_over.new.index c.self.inside.len) (sym c.saturating_sub-self-inside.ensures)
    (kept-over entries c.self.inside.index c.self.inside.len c.self.inside.bytes c.self.invariant h _ (search rules) old there c.put_over.new.index c.in_ok-old-in-Occupied.ensures.index)

pub returns-in_ok-old-in-Occupied-clause-old : goal.returns-in_ok-old-in-Occupied-clause-old
returns-in_ok-old-in-Occupied-clause-old c =
    let entries = c.self.inside.twins.entries in
    let there : held_under entries c.args.twin.id ≡ Some c.in_ok-old-in-Occupied.old =
    sym (ap (held_under entries) c.in-Ok.ensures.id) ∙ sym c.in-Ok-entry.ensures.value ∙ ap entry_value c.in-Occupied.is ∙ c.get_mut.ensures.value ∙ ap Some (sym c.in_ok-old-in-Occupied.ensures.old) in
    ap (option_map (λ (x : Held). x.twin)) (sym there) ∙ under-twin_at entries c.args.self.now c.self.invariant.own c.self.view_is c.args.twin.id

pub invariant_of-self-in_default-enter : goal.invariant_of-self-in_default-enter
invariant_of-self-in_default-enter c =
    let entries = c.self.inside.twins.entries in
    let absent : held_under entries c.in-Ok.id ≡ None = search rules in
    let same =
    c.remove.ensures.removed
    ∙ c.insert_entry-there.ensures.5
    ∙ ap (λ e. (map_without_entry e).entries) (sym c.in-Vacant.is)
    ∙ c.in-Ok-entry.ensures.removal.1
    ∙ remove-none (is_at (C c.in-Ok.id)) entries absent in
    kept-same entries c.self.inside.index c.self.inside.len c.self.inside.bytes c.self.invariant _ (search rules) c.enter.new.self c.in_default-enter.ensures.err

pub returns-in_default-enter-clause-err : goal.returns-in_default-enter-clause-err
returns-in_default-enter-clause-err c =
    let entries = c.self.inside.twins.entries in
    let absent : held_under entries c.in-Ok.id ≡ None = search rules in
    let same =
    c.remove.ensures.removed
    ∙ c.insert_entry-there.ensures.5
    ∙ ap (λ e. (map_without_entry e).entries) (sym c.in-Vacant.is)
    ∙ c.in-Ok-entry.ensures.removal.1
    ∙ remove-none (is_at (C c.in-Ok.id)) entries absent in
    search rules

pub invariant_of-self-in-Vacant : goal.invariant_of-self-in-Vacant
invariant_of-self-in-Vacant c =
    let entries = c.self.inside.twins.entries in
    let h : Held = record { twin = c.args.twin; bytes = c.args.bytes } in
    let found : held_under entries c.in-Ok.id ≡ None = search rules in
    let absent : held_under entries c.args.twin.id ≡ None = sym (ap (held_under entries) c.in-Ok.ensures.id) ∙ found in
    let put =
    ap (λ m. m.entries) c.insert_entry-there.ensures.1
    ∙ ap (λ e. (map_with_value e h).entries) (sym c.in-Vacant.is)
    ∙ c.in-Ok-entry.ensures.update.1 h
    ∙ ap (λ k. insert_entry C entries k h) c.in-Ok.ensures.id in
    let longer =
    ap (λ m. length m.entries) c.insert_entry-there.ensures.1
    ∙ ap (λ e. length (map_with_value e h).entries) (sym c.in-Vacant.is)
    ∙ c.in-Ok-entry.ensures.len h
    ∙ ap (λ o. length entries + cond (is_some o) 0 1) (c.in-Ok-entry.ensures.value ∙ found)
    ∙ ap (λ n. n + 1) (sym c.self.invariant.counted) in
    let held : c.get-held.result.now ≡ h = same_Some c.get-held.result.now h (sym c.get-held.ensures ∙ c.insert_entry-there.ensures.2) in
    kept-new entries c.self.inside.index c.self.inside.len c.self.inside.bytes c.self.invariant h c.enter.new.self
    (subst (λ (x : Held). (m : Identifier) (q : List ℕ) → holds_id m q c.enter.new.self ≡ cond (is_eq (id_cmp m x.twin.model) && is_eq (C q (id_of x))) true (holds_id m q c.self.inside.index)) held c.in-Ok-enter.ensures.ok)
    _ (search rules) absent (search rules)

pub returns-in-Ok-enter-clause-old : goal.returns-in-Ok-enter-clause-old
returns-in-Ok-enter-clause-old c =
    let entries = c.self.inside.twins.entries in
    let found : held_under entries c.in-Ok.id ≡ None = search rules in
    ap (option_map (λ (x : Held). x.twin)) (sym (sym (ap (held_under entries) c.in-Ok.ensures.id) ∙ found)) ∙ under-twin_at entries c.args.self.now c.self.invariant.own c.self.view_is c.args.twin.id
