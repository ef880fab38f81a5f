-- The ask that a value makes is sound, and a refusal is one of three.
use Rattle.std.proofs.Common.{◌≡◌, ℕ, List, [], ◌∷◌, length, Option, Some, None, Ok, Err, refl, sym, subst, ◌∙◌, inl, inr}
use Rattle.std.specs.List.{AllByRecursion}
use Rattle.json_tree.specs.Values.{Json}
use Rattle.query_terms.specs.Queries.{asked, key_length}
use Rattle.query_terms.specs.declared.query.Query.{Query}
use Rattle.query_parse.specs.declared.fault.QueryFault.{QueryFault}
use Rattle.query_parse.specs.declared.fault.QueryFault.TheVariants as faults
use Rattle.twin_value.specs.Breaches.{IsTwinId}
use Rattle.page_tokens.specs.Tokens.{NameIds, token_parts}
use Rattle.graph_asks.specs.declared.ask.Ask.{Ask}
use Rattle.graph_asks.specs.declared.ask.Ask.TheVariants as asks
use Rattle.graph_asks.specs.declared.refusal.Refusal.{Refusal}
use Rattle.graph_asks.specs.declared.refusal.Refusal.TheVariants as refusals
use Rattle.graph_steps.specs.Soundness.{FitsKey, IsReadQuery, IsSoundAsk}
use Rattle.query_bodies.specs.Outcomes.{BeginsPast, IsMadeOfBody, IsMadeOfQuery, IsMadeOfText, AskOrRefusal, TellsFault}

-- ---- tokens
ids_fit : (parts ids : List (List ℕ)) → NameIds parts ids → (length ids ≡ length parts) × AllByRecursion IsTwinId ids
ids_fit [] [] h = (refl, tt)
ids_fit [] (x ∷ xs) h = absurd h
ids_fit (part ∷ parts) [] h = absurd h
ids_fit (part ∷ parts) (x ∷ xs) h =
    let rest = ids_fit parts xs h.1 in
    (cc, (h.0.grammar, rest.1))

past_fits : (token : Option (List ℕ)) (query : Query) (after : Option (List (List ℕ))) → BeginsPast token (key_length (asked query)) after → FitsKey query after
past_fits None query after e = subst (FitsKey query) (sym e) tt
past_fits (Some token) query after (ids, is, e) =
    let h = ids_fit (token_parts token) ids is.named in
    subst (FitsKey query) (sym e) (h.0 ∙ is.number, h.1)

-- ---- outcomes
-- The refusals that there are.
abbrev pub IsOfBody : Refusal → Type 0
IsOfBody (refusals.BodyFault place fault) = Unit {0}
IsOfBody (refusals.QueryFault fault place) = Unit {0}
IsOfBody refusals.BadToken = Unit {0}
IsOfBody other = ⊥

abbrev IsRight : AskOrRefusal → Type 0
IsRight (Ok ask) = IsSoundAsk ask
IsRight (Err refusal) = IsOfBody refusal

right_by : (x y : AskOrRefusal) → x ≡ y → IsRight y → IsRight x
right_by x y e h = subst IsRight (sym e) h

right_query : (token : Option (List ℕ)) (query : Query) (x : AskOrRefusal) → IsReadQuery query → IsMadeOfQuery token query x → IsRight x
right_query token query x read (inl (none, e)) = right_by x (Err refusals.BadToken) e tt
right_query token query x read (inr (after, is, e)) = right_by x (Ok (asks.Query query after)) e (read, past_fits token query after is)

told_of_body : (fault : QueryFault) (r : Refusal) → TellsFault fault r → IsOfBody r
told_of_body faults.TooLong r e = subst IsOfBody (sym e) tt
told_of_body (faults.Byte n) r e = subst IsOfBody (sym e) tt
told_of_body faults.TooManyJoins r e = subst IsOfBody (sym e) tt
told_of_body faults.StarWithJoin r e = subst IsOfBody (sym e) tt
told_of_body (faults.TwiceAlias n) r e = subst IsOfBody (sym e) tt
told_of_body (faults.UnknownAlias n) r e = subst IsOfBody (sym e) tt
told_of_body faults.OutOfMemory r e = absurd e

right_text : (text : List ℕ) (token : Option (List ℕ)) (x : AskOrRefusal) → IsMadeOfText text token x → IsRight x
right_text text token x (inl (r, (fault, is, h), e)) = right_by x (Err r) e (told_of_body fault r h)
right_text text token x (inr (query, spells, h)) = right_query token query x (text, spells) h

right_body : (v : Json) (x : AskOrRefusal) → IsMadeOfBody v x → IsRight x
right_body v x (inl (r, (place, pointer, code, first, leads, h), e)) = right_by x (Err r) e (subst IsOfBody (sym h) tt)
right_body v x (inr (none, (text, e, h))) = right_text text _ x h

pub sound : (v : Json) (ask : Ask) → IsMadeOfBody v (Ok ask) → IsSoundAsk ask
sound v ask h = right_body v (Ok ask) h

pub of_body : (v : Json) (refusal : Refusal) → IsMadeOfBody v (Err refusal) → IsOfBody refusal
of_body v refusal h = right_body v (Err refusal) h
