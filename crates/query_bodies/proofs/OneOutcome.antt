-- A value has one outcome.
use Rattle.std.proofs.Common.{◌≡◌, ℕ, List, [], ◌∷◌, Option, Some, None, Ok, Err, codes, refl, sym, ap, ap₂, subst, ◌∙◌, inl, inr}
use Rattle.json_tree.specs.Values.{Json}
use Rattle.json_tree.specs.Pointers.{IsPointerOf}
use Rattle.json_tree.proofs.OnePointer.{one_pointer}
use Rattle.query_terms.specs.Queries.{Asked, asked, key_length}
use Rattle.query_terms.specs.declared.query.Query.{Query}
use Rattle.query_grammar.specs.Spelled.{SpellsQuery}
use Rattle.query_parse.specs.declared.fault.QueryFault.{QueryFault}
use Rattle.query_parse.specs.declared.fault.QueryFault.TheVariants as faults
use Rattle.query_parse.proofs.OneAnswer.{one_asked, one_refusal, refused_for_memory}
use Rattle.twin_value.specs.Breaches.{HasNoBreach, text_under}
use Rattle.twin_value.specs.Codes.{code_name}
use Rattle.twin_value.specs.declared.code.BodyCode.{BodyCode}
use Rattle.twin_value.proofs.OneBreach.{one_first}
use Rattle.page_tokens.specs.Tokens.{IsPageToken, NameIds}
use Rattle.graph_asks.specs.declared.ask.Ask.TheVariants as asks
use Rattle.graph_asks.specs.declared.refusal.At.TheVariants as at
use Rattle.graph_asks.specs.declared.refusal.Refusal.{Refusal}
use Rattle.graph_asks.specs.declared.refusal.Refusal.TheVariants as refusals
use Rattle.graph_steps.specs.TwinAsks.{BodyFault}
use Rattle.query_bodies.specs.Breaches.{IsQueryBreach}
use Rattle.query_bodies.specs.Outcomes.{AreOneOutcome, BeginsPast, IsMadeOfBody, IsMadeOfQuery, IsMadeOfText, AskOrRefusal, RefusesText, TellsFault}

alike : (x y a b : AskOrRefusal) → x ≡ a → y ≡ b → AreOneOutcome a b → AreOneOutcome x y
alike x y a b e f h = subst (λ (z : AskOrRefusal). AreOneOutcome z y) (sym e) (subst (AreOneOutcome a) (sym f) h)

refused : (r s : Refusal) (x y : AskOrRefusal) → x ≡ Err r → y ≡ Err s → r ≡ s → AreOneOutcome x y
refused r s x y e f same = alike x y (Err r) (Err s) e f same

-- ---- breaches
pub one_body_fault : (Broken : List ℕ → BodyCode → Type 0) (v : Json) (r s : Refusal) → BodyFault Broken v r → BodyFault Broken v s → r ≡ s
one_body_fault Broken v r s (place, pointer, code, first, leads, x) (other, points, another, least, goes, y) =
    let same = one_first Broken place other code another first least in
    let e : pointer ≡ points = one_pointer v place pointer points leads (subst (λ (p : List ℕ). IsPointerOf v p points) (sym same.0) goes) in
    x ∙ ap₂ (λ (p : List ℕ) (c : BodyCode). refusals.BodyFault (at.Pointer p) (code_name c)) e same.1 ∙ sym y

pub fault_breaks : (Broken : List ℕ → BodyCode → Type 0) (v : Json) (r : Refusal) → BodyFault Broken v r → HasNoBreach Broken → ⊥
fault_breaks Broken v r h none = none h.0 h.2 h.3.breach

-- ---- texts
one_told : (f : QueryFault) (r s : Refusal) → TellsFault f r → TellsFault f s → r ≡ s
one_told faults.TooLong r s x y = x ∙ sym y
one_told (faults.Byte n) r s x y = x ∙ sym y
one_told faults.TooManyJoins r s x y = x ∙ sym y
one_told faults.StarWithJoin r s x y = x ∙ sym y
one_told (faults.TwiceAlias n) r s x y = x ∙ sym y
one_told (faults.UnknownAlias n) r s x y = x ∙ sym y
one_told faults.OutOfMemory r s x y = absurd x

no_memory : (f : QueryFault) (r : Refusal) → TellsFault f r → f ≡ faults.OutOfMemory → ⊥
no_memory f r x e = subst (λ (g : QueryFault). TellsFault g r) e x

one_refused : (text : List ℕ) (r s : Refusal) → RefusesText text r → RefusesText text s → r ≡ s
one_refused text r s (f, is, x) (g, has, y) = elim (one_refusal text f g is has) [
  | inl same ↦ one_told g r s (subst (λ (h : QueryFault). TellsFault h r) same x) y
  | inr (inl e) ↦ absurd (no_memory f r x e)
  | inr (inr e) ↦ absurd (no_memory g s y e)
]

refused_or_asked : (text : List ℕ) (r : Refusal) (q : Asked) → RefusesText text r → SpellsQuery text q → ⊥
refused_or_asked text r q (f, is, x) spells = no_memory f r x (refused_for_memory text q f spells is)

-- ---- tokens
ids_once : (parts ids others : List (List ℕ)) → NameIds parts ids → NameIds parts others → ids ≡ others
ids_once [] [] [] h g = refl
ids_once [] [] (y ∷ ys) h g = absurd g
ids_once [] (x ∷ xs) others h g = absurd h
ids_once (part ∷ parts) [] others h g = absurd h
ids_once (part ∷ parts) (x ∷ xs) [] h g = absurd g
ids_once (part ∷ parts) (x ∷ xs) (y ∷ ys) h g = ap₂ (λ (z : List ℕ) (zs : List (List ℕ)). z ∷ zs) (sym h.0.decoded ∙ g.0.decoded) (ids_once parts xs ys h.1 g.1)

pub token_once : (token : List ℕ) (count : ℕ) (ids others : List (List ℕ)) → IsPageToken token count ids → IsPageToken token count others → ids ≡ others
token_once token count ids others h g = ids_once _ ids others h.named g.named

past_once : (token : Option (List ℕ)) (count : ℕ) (x y : Option (List (List ℕ))) → BeginsPast token count x → BeginsPast token count y → x ≡ y
past_once None count x y h g = h ∙ sym g
past_once (Some token) count x y (ids, is, h) (others, has, g) = h ∙ ap Some (token_once token count ids others is has) ∙ sym g

-- ---- outcomes
one_of_query : (token : Option (List ℕ)) (query other : Query) (x y : AskOrRefusal) → asked query ≡ asked other → IsMadeOfQuery token query x → IsMadeOfQuery token other y → AreOneOutcome x y
one_of_query token query other x y same (inl (none, e)) (inl (also, f)) = refused refusals.BadToken refusals.BadToken x y e f refl
one_of_query token query other x y same (inl (none, e)) (inr (after, is, f)) = absurd (none after (subst (λ (q : Asked). BeginsPast token (key_length q) after) (sym same) is))
one_of_query token query other x y same (inr (after, is, e)) (inl (none, f)) = absurd (none after (subst (λ (q : Asked). BeginsPast token (key_length q) after) same is))
one_of_query token query other x y same (inr (after, is, e)) (inr (past, has, f)) =
    alike x y (Ok (asks.Query query after)) (Ok (asks.Query other past)) e f
    (same, past_once token (key_length (asked other)) after past (subst (λ (q : Asked). BeginsPast token (key_length q) after) same is) has)

one_of_text : (text : List ℕ) (token : Option (List ℕ)) (x y : AskOrRefusal) → IsMadeOfText text token x → IsMadeOfText text token y → AreOneOutcome x y
one_of_text text token x y (inl (r, h, e)) (inl (s, g, f)) = refused r s x y e f (one_refused text r s h g)
one_of_text text token x y (inl (r, h, e)) (inr (query, spells, g)) = absurd (refused_or_asked text r (asked query) h spells)
one_of_text text token x y (inr (query, spells, h)) (inl (s, g, f)) = absurd (refused_or_asked text s (asked query) g spells)
one_of_text text token x y (inr (query, spells, h)) (inr (other, spelled, g)) = one_of_query token query other x y (one_asked text (asked query) (asked other) spells spelled) h g

pub one_of_body : (v : Json) (x y : AskOrRefusal) → IsMadeOfBody v x → IsMadeOfBody v y → AreOneOutcome x y
one_of_body v x y (inl (r, h, e)) (inl (s, g, f)) = refused r s x y e f (one_body_fault (IsQueryBreach v) v r s h g)
one_of_body v x y (inl (r, h, e)) (inr (none, g)) = absurd (fault_breaks (IsQueryBreach v) v r h none)
one_of_body v x y (inr (none, h)) (inl (s, g, f)) = absurd (fault_breaks (IsQueryBreach v) v s g none)
one_of_body v x y (inr (none, (text, e, h))) (inr (also, (other, f, g))) =
    let both : Some text ≡ Some other = sym e ∙ f in
    let same : text ≡ other = cc in
    let token = text_under (codes "continuationToken") v in
    one_of_text other token x y (subst (λ (t : List ℕ). IsMadeOfText t token x) same h) g
