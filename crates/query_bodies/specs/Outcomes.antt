-- What is made of the value of a query's body: an ask, or a refusal. A value has the text of the query under `query`, and under
-- `continuationToken`, where that is there and not null, the token of a page.
use Rattle.std.specs.Prelude.{◌≡◌, ℕ, ◌⊎◌, List, Option, Some, None, Result, Ok, Err, codes}
use Rattle.json_tree.specs.Values.{Json}
use Rattle.query_terms.specs.Queries.{asked, key_length}
use Rattle.query_terms.specs.declared.query.Query.{Query}
use Rattle.query_grammar.specs.Spelled.{SpellsQuery}
use Rattle.query_parse.specs.Faults.{RefusesQuery}
use Rattle.query_parse.specs.declared.fault.QueryFault.{QueryFault}
use Rattle.query_parse.specs.declared.fault.QueryFault.TheVariants as faults
use Rattle.twin_value.specs.Breaches.{HasNoBreach, text_under}
use Rattle.page_tokens.specs.Tokens.{IsPageToken}
use Rattle.graph_asks.specs.Asks.{AreOneAsk}
use Rattle.graph_asks.specs.declared.ask.Ask.{Ask}
use Rattle.graph_asks.specs.declared.ask.Ask.TheVariants as asks
use Rattle.graph_asks.specs.declared.refusal.At.TheVariants as at
use Rattle.graph_asks.specs.declared.refusal.Refusal.{Refusal}
use Rattle.graph_asks.specs.declared.refusal.Refusal.TheVariants as refusals
use Rattle.graph_steps.specs.TwinAsks.{BodyFault}
use Rattle.query_bodies.specs.Breaches.{IsQueryBreach}

-- An ask, or the refusal in its place.
abbrev pub AskOrRefusal : Type 0
AskOrRefusal = Result Ask Refusal

-- ---- texts
-- The refusal that tells of a fault: its code, and its byte in the text, where it has one.
abbrev pub TellsFault : QueryFault → Refusal → Type 0
TellsFault faults.TooLong refusal = refusal ≡ refusals.QueryFault (codes "TooLong") None
TellsFault (faults.Byte n) refusal = refusal ≡ refusals.QueryFault (codes "Byte") (Some (at.Number n))
TellsFault faults.TooManyJoins refusal = refusal ≡ refusals.QueryFault (codes "TooManyJoins") None
TellsFault faults.StarWithJoin refusal = refusal ≡ refusals.QueryFault (codes "StarWithJoin") None
TellsFault (faults.TwiceAlias n) refusal = refusal ≡ refusals.QueryFault (codes "TwiceAlias") (Some (at.Number n))
TellsFault (faults.UnknownAlias n) refusal = refusal ≡ refusals.QueryFault (codes "UnknownAlias") (Some (at.Number n))
TellsFault faults.OutOfMemory refusal = ⊥

-- The refusal of a text that is no query.
abbrev pub RefusesText : List ℕ → Refusal → Type 0
RefusesText text refusal = (fault : QueryFault) × RefusesQuery text fault × TellsFault fault refusal

-- ---- tokens
-- A page begins past these ids, of which there are so many: those of the token, where there is one.
abbrev pub BeginsPast : Option (List ℕ) → ℕ → Option (List (List ℕ)) → Type 0
BeginsPast None count after = after ≡ None
BeginsPast (Some token) count after = (ids : List (List ℕ)) × IsPageToken token count ids × (after ≡ Some ids)

-- ---- outcomes
-- A query with this token: the ask for a page of its rows, past as many ids as their keys have, or the refusal of what is no
-- such token. The key of a count has none, and a token has one at least.
abbrev pub IsMadeOfQuery : Option (List ℕ) → Query → AskOrRefusal → Type 0
IsMadeOfQuery token query outcome =
    (((after : Option (List (List ℕ))) → BeginsPast token (key_length (asked query)) after → ⊥) × (outcome ≡ Err refusals.BadToken))
    ⊎ ((after : Option (List (List ℕ))) × BeginsPast token (key_length (asked query)) after × (outcome ≡ Ok (asks.Query query after)))

-- A text with this token.
abbrev pub IsMadeOfText : List ℕ → Option (List ℕ) → AskOrRefusal → Type 0
IsMadeOfText text token outcome = ((refusal : Refusal) × RefusesText text refusal × (outcome ≡ Err refusal))
    ⊎ ((query : Query) × SpellsQuery text (asked query) × IsMadeOfQuery token query outcome)

-- A value: the refusal that names its first breach, or what its text and its token come to.
abbrev pub IsMadeOfBody : Json → AskOrRefusal → Type 0
IsMadeOfBody v outcome = ((refusal : Refusal) × BodyFault (IsQueryBreach v) v refusal × (outcome ≡ Err refusal))
    ⊎ (HasNoBreach (IsQueryBreach v)
    × ((text : List ℕ) × (text_under (codes "query") v ≡ Some text) × IsMadeOfText text (text_under (codes "continuationToken") v) outcome))

-- They are one ask, or one refusal.
abbrev pub AreOneOutcome : AskOrRefusal → AskOrRefusal → Type 0
AreOneOutcome (Ok ask) (Ok other) = AreOneAsk ask other
AreOneOutcome (Err refusal) (Err other) = refusal ≡ other
AreOneOutcome one other = ⊥
