-- One token more, as functions answer.
use Rattle.std.proofs.Common.{◌≡◌, ℕ, ◌<◌, ◌==◌, List, true, false, Option, Some, None, inl, inr, sym, ap, ◌∙◌, subst, arith, Bor}
use Rattle.std.specs.Prelude.{MatchOption}
use Rattle.std.specs.Option.{option_map}
use Rattle.std.proofs.lemmas.Bool.Decides.{nat_tests}
use Rattle.query_terms.specs.declared.query.Query.{Query}
use Rattle.query_terms.specs.Queries.{Asked, asked}
use Rattle.query_grammar.specs.declared.names.Notes.{Notes}
use Rattle.query_terms.specs.declared.tokens.token.Token.{Token}
use Rattle.query_terms.specs.tokens.Spellings.{IsLongest, BeginsNone}
use Rattle.query_grammar.specs.declared.state.State.{State}
use Rattle.query_grammar.specs.Machinery.Steps.{step}
use Rattle.query_parse.specs.Machinery.Reached.{Takes, TakesNone}

pub takes : (rest to : List ℕ) (state next : State) (at : ℕ) (t : Token) → IsLongest rest t to → Some next ≡ step state at t → Takes rest state at next to
takes rest to state next at t longest leads = record { token = t; longest = longest; leads = sym leads }

pub stops : (rest to : List ℕ) (state : State) (at : ℕ) (t : Token) → IsLongest rest t to → None ≡ step state at t → TakesNone rest state at
stops rest to state at t longest leads = inr (record { token = t; to = to; longest = longest; leads = sym leads })

pub begins_none : (rest : List ℕ) (state : State) (at : ℕ) → BeginsNone rest → TakesNone rest state at
begins_none rest state at none = inl none

-- ---- answers
pub begun : (o : Option (Token × Bor (List ℕ))) (t : Token) (behind : Bor (List ℕ)) (rest : List ℕ)
    → MatchOption o (BeginsNone rest) (λ p. IsLongest rest p.0 p.1.now) → o ≡ Some (t, behind) → IsLongest rest t behind.now
begun o t behind rest h e = subst (λ (x : Option (Token × Bor (List ℕ))). MatchOption x (BeginsNone rest) (λ p. IsLongest rest p.0 p.1.now)) e h

pub begun_none : (o : Option (Token × Bor (List ℕ))) (rest : List ℕ)
    → MatchOption o (BeginsNone rest) (λ p. IsLongest rest p.0 p.1.now) → o ≡ None → BeginsNone rest
begun_none o rest h e = subst (λ (x : Option (Token × Bor (List ℕ))). MatchOption x (BeginsNone rest) (λ p. IsLongest rest p.0 p.1.now)) e h

pub ended : (o : Option (Query × Notes)) (w : Query × Notes) (e : Option (Asked × Notes)) → option_map (λ p. (asked p.0, p.1)) o ≡ e → o ≡ Some w
    → e ≡ Some (asked w.0, w.1)
ended o w e h is = sym h ∙ ap (λ (x : Option (Query × Notes)). option_map (λ p. (asked p.0, p.1)) x) is

pub ended_none : (o : Option (Query × Notes)) (e : Option (Asked × Notes)) → option_map (λ p. (asked p.0, p.1)) o ≡ e → o ≡ None → e ≡ None
ended_none o e h is = sym h ∙ ap (λ (x : Option (Query × Notes)). option_map (λ p. (asked p.0, p.1)) x) is

pub some_left : (k : ℕ) → false ≡ (k == 0) → 0 < k
some_left k h = grind (arith, nat_tests)

pub none_left : (k : ℕ) → true ≡ (k == 0) → k ≡ 0
none_left k h = grind (arith, nat_tests)
