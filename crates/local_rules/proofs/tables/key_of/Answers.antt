use Rattle.std.proofs.Common.{sym, ap, ◌∙◌}
use Rattle.local_rules.specs.Roles.{key_of}
use Rattle.local_rules.proofs.Keys.{key_is, key_unnamed}
use Rattle.local_rules.proofs.tables.key_of.Goals as goal

pub returns-in-Some : goal.returns-in-Some
returns-in-Some c =
    let word = key_is c.args.text.now c.in-Some.key (sym c.in-Some.ensures) in
    c.then_some.ensures ∙ c.has_key.ensures ∙ ap (key_of c.args.element) word

pub returns-in-None : goal.returns-in-None
returns-in-None c = sym (key_unnamed c.args.element c.args.text.now (sym c.in-None.ensures))
