use Rattle.std.proofs.Common.{sym, ap, ◌∙◌}
use Rattle.std.specs.Option.{option_map}
use Rattle.json_tree.specs.View.{view}
use Rattle.local_faults.specs.Machinery.Walks.{NotesId, JudgesId}
use Rattle.local_faults.proofs.IdSets.{if_ok, with_id, no_id}
use Rattle.local_faults.proofs.ids.judge_id.Goals as goal

pub returns-in-Some : goal.returns-in-Some
returns-in-Some c =
    let e = sym c.id_in.ensures ∙ ap (option_map (λ t. t.now)) c.in-Some.is in
    if_ok c.add_id.result (NotesId c.args.ids.now c.add_id.new.ids c.in-Some.id.now) (JudgesId c.args.ids.now c.add_id.new.ids c.args.role (view c.args.tree.now))
    (λ found a. with_id c.args.ids.now c.add_id.new.ids c.args.role (view c.args.tree.now) c.in-Some.id.now found e a) c.add_id.ensures

pub returns-in-None : goal.returns-in-None
returns-in-None c =
    let e = sym c.id_in.ensures ∙ ap (option_map (λ t. t.now)) c.in-None.is in
    no_id c.args.ids.now c.args.role (view c.args.tree.now) e
