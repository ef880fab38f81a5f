use Rattle.std.proofs.Common.{◌++◌, bytes_eq, sym, ◌∙◌}
use Rattle.local_rules.specs.Machinery.Keys.{long_keys, middle_keys, short_keys}
use Rattle.local_rules.specs.Tables.{key_text}
use Rattle.local_rules.proofs.Tabled.{found_before, found_behind}
use Rattle.local_rules.proofs.tables.key_named.Goals as goal

pub returns-in-Some : goal.returns-in-Some
returns-in-Some c = sym (found_before (λ k. bytes_eq (key_text k) c.args.text.now) short_keys (middle_keys ++ long_keys) c.in-Some.key (sym c.in-Some.ensures))

pub returns-in-None : goal.returns-in-None
returns-in-None c = c.longer_key_named.ensures ∙ sym (found_behind (λ k. bytes_eq (key_text k) c.args.text.now) short_keys (middle_keys ++ long_keys) (sym c.in-None.ensures))
