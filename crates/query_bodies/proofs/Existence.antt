-- Each value has an outcome.
use Rattle.std.proofs.Common.{◌≡◌, ◌≢◌, ℕ, ◌⊎◌, inl, inr, List, Option, Some, None, Ok, Err, codes, refl, sym, ap, subst}
use Rattle.std.specs.Option.{option_map}
use Rattle.dt_base.specs.Existence.{IsThere}
use Rattle.dt_base.proofs.Existence.{is_there, holds_or_not, from_there, map_there}
use Rattle.json_tree.specs.Values.{Json}
use Rattle.query_terms.specs.Conditions.{Condition, condition}
use Rattle.query_terms.specs.Codes.{stored, stored_back}
use Rattle.query_terms.specs.Queries.{Asked, asked, key_length}
use Rattle.query_terms.specs.declared.query.Query.{Query}
use Rattle.query_grammar.specs.Spelled.{SpellsQuery}
use Rattle.query_parse.specs.Faults.{RefusesQuery}
use Rattle.query_parse.specs.declared.fault.QueryFault.{QueryFault}
use Rattle.query_parse.specs.declared.fault.QueryFault.TheVariants as faults
use Rattle.query_parse.proofs.Existence.{answered}
use Rattle.twin_value.specs.Breaches.{HasNoBreach, text_under}
use Rattle.twin_value.specs.Codes.{code_name}
use Rattle.twin_value.specs.declared.code.BodyCode.{BodyCode}
use Rattle.graph_asks.specs.declared.ask.Ask.TheVariants as asks
use Rattle.graph_asks.specs.declared.refusal.At.TheVariants as places
use Rattle.graph_asks.specs.declared.refusal.Refusal.{Refusal}
use Rattle.graph_asks.specs.declared.refusal.Refusal.TheVariants as refusals
use Rattle.query_bodies.specs.Breaches.{IsQueryBreach}
use Rattle.query_bodies.specs.Outcomes.{AskOrRefusal, TellsFault, BeginsPast, IsMadeOfQuery, IsMadeOfText, IsMadeOfBody}
use Rattle.query_bodies.specs.Machinery.Firsts.{first_breach}
use Rattle.query_bodies.proofs.Breaching.{breach_told, no_breach, has_text}

-- ---- queries as data
same_condition : (o : Option Condition) → option_map condition (option_map stored o) ≡ o
same_condition None = refl
same_condition (Some c) = ap (λ (x : Condition). Some x) (stored_back c)

abbrev query_of : Asked → Query
query_of q = record { select = q.select; relationships = q.relationships; alias = q.alias; joins = q.joins; cond = option_map stored q.where_ }

asked_back : (q : Asked) → asked (query_of q) ≡ q
asked_back q = ap (λ (o : Option Condition). record q { where_ = o }) (same_condition q.where_)

-- ---- tokens
abbrev Past : Option (List ℕ) → Query → Type 0
Past token query = (after : Option (List (List ℕ))) × BeginsPast token (key_length (asked query)) after

abbrev OfQuery : Option (List ℕ) → Query → Type 0
OfQuery token query = (outcome : AskOrRefusal) × IsMadeOfQuery token query outcome

by_token : (token : Option (List ℕ)) (query : Query) → Past token query ⊎ (Past token query → ⊥) → OfQuery token query
by_token token query (inl (after, past)) = (Ok (asks.Query query after), inr (after, past, refl))
by_token token query (inr none) = (Err refusals.BadToken, inl ((λ after past. none (after, past)), refl))

-- ---- texts
abbrev OfText : List ℕ → Option (List ℕ) → Type 0
OfText text token = (outcome : AskOrRefusal) × IsMadeOfText text token outcome

abbrev Told : QueryFault → Type 0
Told fault = (refusal : Refusal) × TellsFault fault refusal

told : (fault : QueryFault) → (fault ≢ faults.OutOfMemory) → Told fault
told faults.TooLong other = (refusals.QueryFault (codes "TooLong") None, refl)
told (faults.Byte n) other = (refusals.QueryFault (codes "Byte") (Some (places.Number n)), refl)
told faults.TooManyJoins other = (refusals.QueryFault (codes "TooManyJoins") None, refl)
told faults.StarWithJoin other = (refusals.QueryFault (codes "StarWithJoin") None, refl)
told (faults.TwiceAlias n) other = (refusals.QueryFault (codes "TwiceAlias") (Some (places.Number n)), refl)
told (faults.UnknownAlias n) other = (refusals.QueryFault (codes "UnknownAlias") (Some (places.Number n)), refl)
told faults.OutOfMemory other = absurd (other refl)

of_query : (text : List ℕ) (token : Option (List ℕ)) (query : Query) → SpellsQuery text (asked query) → OfQuery token query → OfText text token
of_query text token query spells (outcome, made) = (outcome, inr (query, spells, made))

of_fault : (text : List ℕ) (token : Option (List ℕ)) (fault : QueryFault) → RefusesQuery text fault → Told fault → OfText text token
of_fault text token fault refuses (refusal, tells) = (Err refusal, inl (refusal, (fault, refuses, tells), refl))

abbrev Answer : List ℕ → Type 0
Answer text = ((query : Asked) × SpellsQuery text query) ⊎ ((fault : QueryFault) × (fault ≢ faults.OutOfMemory) × RefusesQuery text fault)

by_answer : (text : List ℕ) (token : Option (List ℕ)) → Answer text → IsThere (OfText text token)
by_answer text token (inl (q, spells)) =
    let query = query_of q in
    let spelled : SpellsQuery text (asked query) = subst (λ (x : Asked). SpellsQuery text x) (sym (asked_back q)) spells in
    map_there (λ (d : Past token query ⊎ (Past token query → ⊥)). of_query text token query spelled (by_token token query d)) (holds_or_not (Past token query))
by_answer text token (inr (fault, other, refuses)) = is_there (of_fault text token fault refuses (told fault other))

of_text : (text : List ℕ) (token : Option (List ℕ)) → IsThere (OfText text token)
of_text text token = from_there (answered text) (by_answer text token)

-- ---- values
abbrev OfBody : Json → Type 0
OfBody v = (outcome : AskOrRefusal) × IsMadeOfBody v outcome

with_text : (v : Json) → HasNoBreach (IsQueryBreach v) → (o : Option (List ℕ)) → text_under (codes "query") v ≡ o → IsThere (OfBody v)
with_text v none None is = absurd (has_text v none is)
with_text v none (Some text) is = map_there
    (λ (made : OfText text (text_under (codes "continuationToken") v)). (made.0, inr (none, (text, is, made.1))))
    (of_text text (text_under (codes "continuationToken") v))

by_breach : (v : Json) (o : Option (List ℕ × BodyCode)) → first_breach v ≡ o → IsThere (OfBody v)
by_breach v None is = with_text v (no_breach v is) (text_under (codes "query") v) refl
by_breach v (Some (pointer, code)) is =
    let refusal = refusals.BodyFault (places.Pointer pointer) (code_name code) in
    is_there (Err refusal, inl (refusal, breach_told v pointer code refusal is refl, refl))

pub some_outcome : (v : Json) → IsThere (OfBody v)
some_outcome v = by_breach v (first_breach v) refl
