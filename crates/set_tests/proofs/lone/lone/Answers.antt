use Rattle.std.proofs.Common.{None, ap, ◌∙◌}
use Rattle.dtdl_terms.specs.Sets.{with_interface}
use Rattle.dtdl_terms.specs.declared.interface.Interface.{Interface}
use Rattle.set_tests.proofs.Soles.{lone_sound, lone_declared}
use Rattle.set_tests.proofs.lone.lone.Goals as goal

pub returns : goal.returns
returns c =
    let i : Interface = record { id = c.in_ok-copy.field-0; comment = None; description = c.absent.result; display_name = c.absent-2.result; parents = c.new.result; contents = c.new-2.result; schemas = c.new-3.result } in (
      i,
      c.in_ok-insert.ensures.ok ∙ ap (with_interface i) c.new-set.ensures,
      c.in_ok-copy.ensures,
      lone_sound i c.new.ensures c.new-2.ensures,
      lone_declared i c.absent.ensures c.absent-2.ensures c.new.ensures c.new-2.ensures c.new-3.ensures,
    )
