use Rattle.std.specs.Prelude.{IsTrue, false}
use Rattle.dt_base.proofs.names.Exact.{dtmi_refused}
use Rattle.graph_routes.proofs.parts.read_model.Goals as goal

pub returns-else-is_want_of_memory : goal.returns-else-is_want_of_memory
returns-else-is_want_of_memory c = λ id own short.
    let memory = dtmi_refused c.args.text.now id c.in-Err.fault own c.in-Err.ensures in
    let no : IsTrue false = c.if-is_want_of_memory.ensures.1 memory in
    cc
