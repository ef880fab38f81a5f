use Rattle.std.proofs.Common.{◌≡◌, sym, ap, ◌∙◌}
use Rattle.std.specs.Option.{option_copied}
use Rattle.std.specs.BTreeMap.{insert_entry}
use Rattle.dt_base.specs.names.Grammar.{dtmi_text, id_cmp}
use Rattle.ordered_table.specs.Rows.{pair_cmp}
use Rattle.model_life.proofs.Using.{user_put}
use Rattle.model_life.proofs.Linking.{text_of}
use Rattle.model_life.proofs.users.add.Goals as goal

pub returns-in_ok-insert-in-Some-clause-ok : goal.returns-in_ok-insert-in-Some-clause-ok
returns-in_ok-insert-in-Some-clause-ok c =
    let text : c.in-Some.record.now.text ≡ dtmi_text c.args.used.now = text_of c.args.records.now c.args.used.now c.in-Some.record.now (sym c.get.ensures ∙ ap option_copied c.in-Some.is) c.requires in
    user_put c.args.used.now c.args.user.now c.in-Some.record.now.text c.args.users.now c.insert.new.self text
    (c.in_ok-insert-in-Some.ensures.ok ∙ ap (λ u. insert_entry (pair_cmp id_cmp) c.args.users.now (c.in-Some.record.now.text, u) tt) c.in_ok-user-in-Some.ensures)
