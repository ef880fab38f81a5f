use Rattle.std.proofs.Common.{◌≡◌, sym, ap, ◌∙◌}
use Rattle.std.specs.Option.{option_copied}
use Rattle.dt_base.specs.names.Grammar.{dtmi_text}
use Rattle.model_life.proofs.Using.{user_taken}
use Rattle.model_life.proofs.Linking.{text_of}
use Rattle.model_life.proofs.users.take.Goals as goal

pub returns-in-Some : goal.returns-in-Some
returns-in-Some c =
    let text : c.in-Some.record.now.text ≡ dtmi_text c.args.used.now = text_of c.args.records.now c.args.used.now c.in-Some.record.now (sym c.get.ensures ∙ ap option_copied c.in-Some.is) c.requires in
    user_taken c.args.used.now c.args.user.now c.in-Some.record.now.text c.args.users.now c.remove-user.new.self text c.remove-user.ensures.ordered c.remove-user.ensures.entries
