use Rattle.std.proofs.Common.{◌≡◌, sym, ap, ◌∙◌}
use Rattle.std.specs.Prelude.{slice_get}
use Rattle.std.specs.Option.{option_copied}
use Rattle.std.specs.List.Sorted.{IsStrictlySortedBy}
use Rattle.std.specs.Map.{lookup, keys_of}
use Rattle.std.specs.BTreeMap.{is_at}
use Rattle.ordered_table.specs.Rows.{row_of}
use Rattle.ordered_table.proofs.Kept.{lookup-row, sorted-row}
use Rattle.dt_base.specs.names.Grammar.{Identifier, dtmi_text, id_cmp}
use Rattle.model_life.specs.Models.{first_user}
use Rattle.model_life.specs.Machinery.Keeping.{user_at}
use Rattle.model_life.proofs.Seen.{text_there}
use Rattle.model_life.proofs.Least.{none_absent, none_listed, first_listed, never_absent}
use Rattle.model_life.proofs.models.Models.used_by.Goals as goal

pub returns-in_default : goal.returns-in_default
returns-in_default c =
    sym (none_absent c.self.inside.set c.self.inside.records c.self.inside.users c.self.invariant.ordered c.self.invariant.rules c.self.invariant.fits c.args.id.now (sym c.get.ensures ∙ ap option_copied c.in_default.is))
    ∙ ap (first_user c.args.id.now) c.self.view_is

pub returns-in_default-first_of : goal.returns-in_default-first_of
returns-in_default-first_of c =
    let text : c.in-Some.record.now.text ≡ dtmi_text c.args.id.now = text_there c.self.inside.set c.self.inside.records c.self.inside.users c.args.id.now c.in-Some.record.now c.self.invariant.fits (sym c.get.ensures ∙ ap option_copied c.in-Some.is) in
    let up : IsStrictlySortedBy id_cmp (keys_of (row_of (dtmi_text c.args.id.now) c.self.inside.users)) = sorted-row id_cmp (dtmi_text c.args.id.now) c.self.inside.users c.row.ensures.ordered in
    let told : (u : Identifier) → lookup (is_at (id_cmp u)) (row_of (dtmi_text c.args.id.now) c.self.inside.users) ≡ user_at c.args.id.now u c.self.inside.users = λ u. lookup-row id_cmp (dtmi_text c.args.id.now) u c.self.inside.users in
    let first : option_copied c.first_of.result ≡ slice_get (keys_of (row_of (dtmi_text c.args.id.now) c.self.inside.users)) 0 = c.first_of.ensures ∙ ap (λ r. slice_get (keys_of r) 0) (c.row.ensures.rest ∙ ap (λ t. row_of t c.self.inside.users) text) in
    sym (none_listed c.self.inside.set c.self.inside.records c.self.inside.users c.self.invariant.ordered c.self.invariant.rules c.self.invariant.fits c.args.id.now (row_of (dtmi_text c.args.id.now) c.self.inside.users) up told (sym first ∙ ap option_copied c.in_default-first_of.is)) ∙ ap (first_user c.args.id.now) c.self.view_is

pub returns-in-Some-get : goal.returns-in-Some-get
returns-in-Some-get c =
    let text : c.in-Some.record.now.text ≡ dtmi_text c.args.id.now = text_there c.self.inside.set c.self.inside.records c.self.inside.users c.args.id.now c.in-Some.record.now c.self.invariant.fits (sym c.get.ensures ∙ ap option_copied c.in-Some.is) in
    let up : IsStrictlySortedBy id_cmp (keys_of (row_of (dtmi_text c.args.id.now) c.self.inside.users)) = sorted-row id_cmp (dtmi_text c.args.id.now) c.self.inside.users c.row.ensures.ordered in
    let told : (u : Identifier) → lookup (is_at (id_cmp u)) (row_of (dtmi_text c.args.id.now) c.self.inside.users) ≡ user_at c.args.id.now u c.self.inside.users = λ u. lookup-row id_cmp (dtmi_text c.args.id.now) u c.self.inside.users in
    let first : option_copied c.first_of.result ≡ slice_get (keys_of (row_of (dtmi_text c.args.id.now) c.self.inside.users)) 0 = c.first_of.ensures ∙ ap (λ r. slice_get (keys_of r) 0) (c.row.ensures.rest ∙ ap (λ t. row_of t c.self.inside.users) text) in
    sym (first_listed c.self.inside.set c.self.inside.records c.self.inside.users c.self.invariant.ordered c.self.invariant.rules c.self.invariant.fits c.args.id.now (row_of (dtmi_text c.args.id.now) c.self.inside.users) up told c.in-Some-first_of.user.now c.in-Some-get.interface.now (sym first ∙ ap option_copied c.in-Some-first_of.is) (sym c.get-2.ensures ∙ ap option_copied c.in-Some-get.is)) ∙ ap (first_user c.args.id.now) c.self.view_is

pub returns-in-None : goal.returns-in-None
returns-in-None c =
    let text : c.in-Some.record.now.text ≡ dtmi_text c.args.id.now = text_there c.self.inside.set c.self.inside.records c.self.inside.users c.args.id.now c.in-Some.record.now c.self.invariant.fits (sym c.get.ensures ∙ ap option_copied c.in-Some.is) in
    let up : IsStrictlySortedBy id_cmp (keys_of (row_of (dtmi_text c.args.id.now) c.self.inside.users)) = sorted-row id_cmp (dtmi_text c.args.id.now) c.self.inside.users c.row.ensures.ordered in
    let told : (u : Identifier) → lookup (is_at (id_cmp u)) (row_of (dtmi_text c.args.id.now) c.self.inside.users) ≡ user_at c.args.id.now u c.self.inside.users = λ u. lookup-row id_cmp (dtmi_text c.args.id.now) u c.self.inside.users in
    let first : option_copied c.first_of.result ≡ slice_get (keys_of (row_of (dtmi_text c.args.id.now) c.self.inside.users)) 0 = c.first_of.ensures ∙ ap (λ r. slice_get (keys_of r) 0) (c.row.ensures.rest ∙ ap (λ t. row_of t c.self.inside.users) text) in
    absurd (never_absent c.self.inside.set c.self.inside.records c.self.inside.users c.self.invariant.ordered c.self.invariant.rules c.self.invariant.fits c.args.id.now (row_of (dtmi_text c.args.id.now) c.self.inside.users) up told c.in-Some-first_of.user.now (sym first ∙ ap option_copied c.in-Some-first_of.is) (sym c.get-2.ensures ∙ ap option_copied c.in-None.is))
