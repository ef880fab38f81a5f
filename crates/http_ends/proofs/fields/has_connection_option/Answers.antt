use Rattle.std.proofs.Common.{rules, tests, ◌==◌}
use Rattle.std.proofs.lemmas.Iterator.Splits.{YieldsList-from_slice_split}
use Rattle.std.proofs.lemmas.Iterator.Search.{any_from_yields_List}
use Rattle.httparse.specs.Ascii.{comma}
use Rattle.http_ends.specs.Fields.{is_connection_option}
use Rattle.http_ends.proofs.fields.has_connection_option.Goals as goal

pub returns : goal.returns
returns c =
    any_from_yields_List (is_connection_option c.args.option.now) _ _ _ c.any.ensures.ran
    (YieldsList-from_slice_split _ (λ b. b == comma) c.args.value.now c.split.ensures.rest c.split.ensures.done c.split.ensures.closure (λ x b q k. search (rules, tests)))
    (λ x b q k. search (rules, tests))
