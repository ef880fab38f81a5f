-- What the state behind tokens says of the text.
use Rattle.std.proofs.Common.{◌≡◌, ℕ, ◌-◌, ◌<◌, inl, inr, List, [], ◌∷◌, ◌++◌, length, get_or, false, length-append, map, Option, Some, None, refl, sym, ap, ◌∙◌, subst, arith}
use Rattle.std.specs.Option.{option_and_then}
use Rattle.query_terms.specs.Queries.{Asked}
use Rattle.query_terms.specs.declared.tokens.token.Token.{Token}
use Rattle.query_terms.specs.tokens.Spellings.{is_space, IsLongest, BeginsNone, SkipsSpaces, IsSpelling}
use Rattle.query_lexer.proofs.FirstBytes.{spelled_some}
use Rattle.query_grammar.specs.declared.names.Notes.{Notes}
use Rattle.query_grammar.specs.declared.state.State.{State}
use Rattle.query_grammar.specs.declared.state.State.TheVariants as states
use Rattle.query_grammar.specs.Phrases.{Placed}
use Rattle.query_grammar.specs.Machinery.Steps.{step, end}
use Rattle.query_grammar.specs.Machinery.Runs.{state_behind, asked_by}
use Rattle.query_grammar.proofs.Complete.{complete, placed}
use Rattle.query_grammar.proofs.Asks.{query_forward, query_backward}
use Rattle.query_grammar.proofs.Begins.{begun, through}
use Rattle.query_grammar.specs.Texts.{AreTokens, IsQueryText, BeginTokensOfQuery, IsFirstWrongToken}
use Rattle.query_parse.specs.Machinery.Reached.{Reached, Takes, Stops, TakesNone}
use Rattle.query_parse.proofs.Spelled.{all_spelled}

-- ---- one token more
same_behind : (o : Option State) → option_and_then (λ v. state_behind v []) o ≡ o
same_behind None = refl
same_behind (Some v) = refl

same_state : (s u : State) → Some s ≡ Some u → s ≡ u
same_state s u e = cc

over_more : (o : Option State) (ts : List Placed) (u : State) (at : ℕ) (t : Token)
    → ((v : State) → state_behind v ts ≡ Some u → state_behind v (ts ++ (at, t) ∷ []) ≡ step u at t) → option_and_then (λ v. state_behind v ts) o ≡ Some u
    → option_and_then (λ v. state_behind v (ts ++ (at, t) ∷ [])) o ≡ step u at t
over_more None ts u at t more e = absurd cc
over_more (Some v) ts u at t more e = more v e

behind_more : (ts : List Placed) (s u : State) (at : ℕ) (t : Token) → state_behind s ts ≡ Some u → state_behind s (ts ++ (at, t) ∷ []) ≡ step u at t
behind_more [] s u at t e = same_behind (step s at t) ∙ ap (λ (x : State). step x at t) (same_state s u e)
behind_more ((a, x) ∷ ts) s u at t e = over_more (step s a x) ts u at t (λ v f. behind_more ts v u at t f) e

over_asked : (o : Option State) (ts : List Placed) (u : State) → ((v : State) → state_behind v ts ≡ Some u → asked_by v ts ≡ end u)
    → option_and_then (λ v. state_behind v ts) o ≡ Some u → option_and_then (λ v. asked_by v ts) o ≡ end u
over_asked None ts u more e = absurd cc
over_asked (Some v) ts u more e = more v e

asked_behind : (ts : List Placed) (s u : State) → state_behind s ts ≡ Some u → asked_by s ts ≡ end u
asked_behind [] s u e = ap end (same_state s u e)
asked_behind ((a, x) ∷ ts) s u e = over_asked (step s a x) ts u (λ v f. asked_behind ts v u f) e

tokens_more : (text from : List ℕ) (ts : List Placed) (mid start next : List ℕ) (at : ℕ) (t : Token) → AreTokens text from ts mid → SkipsSpaces mid start
    → at ≡ length text - length start → IsLongest start t next → AreTokens text from (ts ++ (at, t) ∷ []) next
tokens_more text from [] mid start next at t are spaces place longest =
    (start, (next, subst (λ (l : List ℕ). SkipsSpaces l start) (sym are) spaces, place, longest, refl))
tokens_more text from (p ∷ ts) mid start next at t are spaces place longest =
    let rest = are.1 in
    (are.0, (rest.0, rest.1, rest.2, rest.3, tokens_more text rest.0 ts mid start next at t rest.4 spaces place longest))

viable : (ts : List Placed) (s : State) → state_behind states.Start ts ≡ Some s → BeginTokensOfQuery ts
viable ts s e =
    let live = complete s in
    (map placed live.rest, all_spelled live.rest, (live.whole, through ts states.Start s (map placed live.rest) live.whole live.remains e))

dead : (ts : List Placed) → state_behind states.Start ts ≡ None → BeginTokensOfQuery ts → ⊥
dead ts e v = let led = begun ts (v.0, v.2) in let is = led.1 in cc

-- ---- what reading says
pub at_start : (text rest : List ℕ) → SkipsSpaces text rest → Reached text states.Start rest
at_start text rest spaces = record { tokens = []; mid = text; are = refl; spaces = spaces; leads = refl }

pub goes_on : (text rest to behind_to : List ℕ) (state next : State) (at : ℕ) → Reached text state rest → at ≡ length text - length rest
    → Takes rest state at next to → SkipsSpaces to behind_to → Reached text next behind_to
goes_on text rest to behind_to state next at r place t spaces = record {
  tokens = r.tokens ++ (at, t.token) ∷ [];
  mid = to;
  are = tokens_more text text r.tokens r.mid rest to at t.token r.are r.spaces place t.longest;
  spaces = spaces;
  leads = behind_more r.tokens states.Start state at t.token r.leads ∙ t.leads;
}

some_bytes : (t : Token) (bytes : List ℕ) → IsSpelling t bytes → 0 < length bytes
some_bytes t [] s = absurd (spelled_some t s)
some_bytes t (b ∷ bs) s = omega arith

pub shorter : (rest to behind_to : List ℕ) (state next : State) (at : ℕ) → Takes rest state at next to → SkipsSpaces to behind_to → length behind_to < length rest
shorter rest to behind_to state next at t spaces =
    let some = some_bytes t.token t.longest.bytes t.longest.spelled in
    let ours = length-append t.longest.bytes to in
    let total = ap length t.longest.parts in
    let others = length-append spaces.0 behind_to in
    let behind_total = ap length spaces.2 in
    omega (arith, some, ours, total, others, behind_total)

wrong_token : (text rest : List ℕ) (state : State) (at : ℕ) → Reached text state rest → at ≡ length text - length rest → Stops rest state at → IsFirstWrongToken text at
wrong_token text rest state at r place t = inl (record {
  before = r.tokens;
  token = t.token;
  rest = t.to;
  are = tokens_more text text r.tokens r.mid rest t.to at t.token r.are r.spaces place t.longest;
  viable = viable r.tokens state r.leads;
  dead = dead (r.tokens ++ (at, t.token) ∷ []) (behind_more r.tokens states.Start state at t.token r.leads ∙ t.leads);
})

no_token : (text rest : List ℕ) (state : State) (at : ℕ) → Reached text state rest → at ≡ length text - length rest → 0 < length rest
    → is_space (get_or rest 0 0) ≡ false → BeginsNone rest → IsFirstWrongToken text at
no_token text [] state at r place some byte none = absurd (omega (arith, some))
no_token text (first ∷ rest) state at r place some byte none = inr (inl (record {
  before = r.tokens;
  behind = r.mid;
  first = first;
  rest = rest;
  are = r.are;
  spaces = r.spaces;
  byte = byte;
  place = place;
  none = none;
  viable = viable r.tokens state r.leads;
}))

pub wrong : (text rest : List ℕ) (state : State) (at : ℕ) → Reached text state rest → at ≡ length text - length rest → 0 < length rest
    → is_space (get_or rest 0 0) ≡ false → TakesNone rest state at → IsFirstWrongToken text at
wrong text rest state at r place some byte (inl none) = no_token text rest state at r place some byte none
wrong text rest state at r place some byte (inr stops) = wrong_token text rest state at r place stops

nothing_left : (text rest : List ℕ) (state : State) → Reached text state rest → length rest ≡ 0 → Reached text state []
nothing_left text [] state r e = r
nothing_left text (b ∷ bs) state r e = absurd (omega (arith, e))

pub is_whole : (text rest : List ℕ) (state : State) (whole : Asked × Notes) → Reached text state rest → length rest ≡ 0 → end state ≡ Some whole → IsQueryText text whole
is_whole text rest state whole reached empty e =
    let r = nothing_left text rest state reached empty in
    (r.tokens, (r.mid, r.are, r.spaces, query_backward r.tokens whole (asked_behind r.tokens states.Start state r.leads ∙ e)))

pub cut_short : (text rest : List ℕ) (state : State) (at : ℕ) → Reached text state rest → length rest ≡ 0 → at ≡ length text → end state ≡ None → IsFirstWrongToken text at
cut_short text rest state at reached empty place e =
    let r = nothing_left text rest state reached empty in
    inr (inr (record {
      all = r.tokens;
      behind = r.mid;
      are = r.are;
      spaces = r.spaces;
      place = place;
      viable = viable r.tokens state r.leads;
      none = λ whole q. let asked = query_forward r.tokens whole q in let led = asked_behind r.tokens states.Start state r.leads ∙ e in cc;
    }))
