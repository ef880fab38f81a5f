-- How far a text has been read.
use Rattle.std.specs.Prelude.{◌≡◌, ℕ, ◌⊎◌, List, [], Option, Some, None}
use Rattle.query_terms.specs.declared.tokens.token.Token.{Token}
use Rattle.query_terms.specs.tokens.Spellings.{IsLongest, BeginsNone, SkipsSpaces}
use Rattle.query_grammar.specs.declared.state.State.{State}
use Rattle.query_grammar.specs.declared.state.State.TheVariants as states
use Rattle.query_grammar.specs.Phrases.{Placed}
use Rattle.query_grammar.specs.Machinery.Steps.{step}
use Rattle.query_grammar.specs.Machinery.Runs.{state_behind}
use Rattle.query_parse.specs.declared.fault.QueryFault.{QueryFault}
use Rattle.query_parse.specs.declared.fault.QueryFault.TheVariants as faults
use Rattle.query_grammar.specs.Texts.{AreTokens, IsFirstWrongToken}
use Rattle.query_grammar.specs.Bindings.{IsLeastPlace}

-- the text was read up to `rest`, and this is the state
pub record Reached (text : List ℕ) (state : State) (rest : List ℕ) : Type 0 where
  pub tokens : List Placed
  pub mid : List ℕ
  pub are : AreTokens text text tokens mid
  pub spaces : SkipsSpaces mid rest
  pub leads : state_behind states.Start tokens ≡ Some state

-- the token in front leads to this state, and this follows it
pub record Takes (rest : List ℕ) (state : State) (at : ℕ) (next : State) (to : List ℕ) : Type 0 where
  pub token : Token
  pub longest : IsLongest rest token to
  pub leads : step state at token ≡ Some next

-- a token stands in front that leads to no state
pub record Stops (rest : List ℕ) (state : State) (at : ℕ) : Type 0 where
  pub token : Token
  pub to : List ℕ
  pub longest : IsLongest rest token to
  pub leads : step state at token ≡ None

abbrev pub TakesNone : List ℕ → State → ℕ → Type 0
TakesNone rest state at = BeginsNone rest ⊎ Stops rest state at

-- the text is no query, or there was no memory
abbrev pub RefusesByte : List ℕ → QueryFault → Type 0
RefusesByte text (faults.Byte at) = IsFirstWrongToken text at
RefusesByte text faults.OutOfMemory = Unit {0}
RefusesByte text faults.TooLong = ⊥
RefusesByte text faults.TooManyJoins = ⊥
RefusesByte text faults.StarWithJoin = ⊥
RefusesByte text (faults.TwiceAlias at) = ⊥
RefusesByte text (faults.UnknownAlias at) = ⊥

-- the least of the bytes, if there are any
abbrev pub LeastOf : List ℕ → Option ℕ → Type 0
LeastOf bytes None = bytes ≡ []
LeastOf bytes (Some at) = IsLeastPlace bytes at
