-- What a text is refused for, each refusal only where none of those before it holds.
use Rattle.std.specs.Prelude.{◌≡◌, ℕ, ◌<◌, ◌≤◌, List, [], length}
use Rattle.query_grammar.specs.Texts.{IsFirstWrongToken}
use Rattle.query_grammar.specs.Bindings.{repeated_places, unbound, IsLeastPlace}
use Rattle.query_grammar.specs.Spelled.{IsStarWithJoin, ReadsQuery}
use Rattle.query_parse.specs.declared.fault.QueryFault.{QueryFault}
use Rattle.query_parse.specs.declared.fault.QueryFault.TheVariants as faults

-- The text is refused for this. Want of memory may come at any text.
abbrev pub RefusesQuery : List ℕ → QueryFault → Type 0
RefusesQuery text faults.TooLong = 8192 < length text
RefusesQuery text (faults.Byte at) = (length text ≤ 8192) × IsFirstWrongToken text at
RefusesQuery text faults.TooManyJoins = ReadsQuery text (λ q n. 5 < length q.joins)
RefusesQuery text faults.StarWithJoin = ReadsQuery text (λ q n. (length q.joins ≤ 5) × IsStarWithJoin q)
RefusesQuery text (faults.TwiceAlias at) = ReadsQuery text (λ q n. (length q.joins ≤ 5) × (IsStarWithJoin q → ⊥) × IsLeastPlace (repeated_places n) at)
RefusesQuery text (faults.UnknownAlias at) =
    ReadsQuery text (λ q n. (length q.joins ≤ 5) × (IsStarWithJoin q → ⊥) × (repeated_places n ≡ []) × IsLeastPlace (unbound q n) at)
RefusesQuery text faults.OutOfMemory = Unit {0}
