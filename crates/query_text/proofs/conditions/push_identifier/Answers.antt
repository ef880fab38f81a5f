use Rattle.query_text.specs.Printed.{model_text}
use Rattle.query_text.proofs.conditions.push_identifier.Goals as goal

pub returns : goal.returns
unfolding model_text
returns c = rw c.as_str.ensures.same at c.push_quoted.ensures
