use Rattle.std.proofs.Common.{◌≡◌, ℕ, List, Option, Some, None, sym, ap, ◌∙◌, Result, Ok, Err}
use Rattle.std.specs.Prelude.{is_some, is_ok}
use Rattle.std.specs.Map.{lookup}
use Rattle.std.specs.BTreeMap.{is_at}
use Rattle.json_decimal.specs.Number.{Number}
use Rattle.json_tree.specs.Values.{Members}
use Rattle.json_tree.specs.View.{members_view}
use Rattle.twin_patch.specs.Objects.{value_under}
use Rattle.twin_patch.specs.Machinery.Orders.{compared_keys, Stands}
use Rattle.twin_patch.specs.Machinery.Drafts.{draft_view}
use Rattle.twin_patch.specs.declared.draft.Draft.{Draft}
use Rattle.twin_patch.proofs.Overlays.{rise_by, looked_up, found_or}
use Rattle.twin_patch.proofs.Edits.{value_found, value_missing}
use Rattle.twin_patch.proofs.draft.has.Goals as goal

pub place_of-requires : goal.place_of-requires
place_of-requires c = rw c.as_slice.ensures.value (rise_by (members_view c.args.base.now.members.items) c.args.base.now.rise)

pub returns-in-Some : goal.returns-in-Some
returns-in-Some c =
    let ms = members_view c.args.base.now.members.items in
    let found : Some c.in-Some.entry.now ≡ lookup (is_at (compared_keys c.args.key.now)) c.args.edits.now.entries = c.in-Some.ensures.value in
    c.is_there.ensures
    ∙ ap (λ (x : Option Draft). is_some (found_or draft_view x (value_under c.args.key.now ms))) found
    ∙ ap is_some (sym (looked_up draft_view c.args.key.now c.args.edits.now.entries ms (rise_by ms c.args.base.now.rise)))

standing : (key : List ℕ) (ms : Members Number) (r : Result ℕ ℕ) → Stands key ms r → is_ok r ≡ is_some (value_under key ms)
standing key ms (Ok at) h = sym (ap is_some (value_found ms key at h).1)
standing key ms (Err at) h = sym (ap is_some (value_missing ms key at h))

pub returns-in-None : goal.returns-in-None
returns-in-None c =
    let ms = members_view c.args.base.now.members.items in
    let none : None ≡ lookup (is_at (compared_keys c.args.key.now)) c.args.edits.now.entries = c.in-None.ensures.value in
    let stands : Stands c.args.key.now ms c.place_of.result = rw (← c.as_slice.ensures.value, ← c.as_str.ensures) c.place_of.ensures.stands in
    c.is_ok.ensures.value ∙ standing c.args.key.now ms c.place_of.result stands
    ∙ ap (λ (x : Option Draft). is_some (found_or draft_view x (value_under c.args.key.now ms))) none
    ∙ ap is_some (sym (looked_up draft_view c.args.key.now c.args.edits.now.entries ms (rise_by ms c.args.base.now.rise)))
