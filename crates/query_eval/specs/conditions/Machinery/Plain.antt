-- What comparisons see of a value.
use Rattle.json_decimal.specs.Decimals.{number_of}
use Rattle.json_tree.specs.Values.{Json, null, truth, number, text}
use Rattle.query_eval.specs.declared.conditions.comparing.Plain.{Plain}
use Rattle.query_eval.specs.declared.conditions.comparing.Plain.TheVariants as plains

-- A value that is seen so; of what is none of the three kinds it is `null`.
abbrev pub plain_value : Plain → Json
plain_value (plains.Number d) = number (number_of d.now)
plain_value (plains.Word bytes) = text bytes.now
plain_value (plains.Truth b) = truth b
plain_value plains.Other = null

-- The value, and `null` for one of none of the three kinds: the two compare alike.
abbrev pub plainly : Json → Json
plainly (number n) = number n
plainly (text bytes) = text bytes
plainly (truth b) = truth b
plainly other = null
