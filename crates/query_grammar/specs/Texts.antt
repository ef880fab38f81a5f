-- The tokens of a text, and where a text is no query by the grammar.
use Rattle.std.specs.Prelude.{◌≡◌, ℕ, ◌-◌, ◌⊎◌, List, [], ◌∷◌, ◌++◌, length, false}
use Rattle.std.specs.List.{AllByRecursion}
use Rattle.query_terms.specs.Queries.{Asked}
use Rattle.query_terms.specs.declared.tokens.token.Token.{Token}
use Rattle.query_terms.specs.tokens.Spellings.{is_space, IsSpelling, IsLongest, BeginsNone, SkipsSpaces}
use Rattle.query_grammar.specs.declared.names.Notes.{Notes}
use Rattle.query_grammar.specs.Phrases.{Placed}
use Rattle.query_grammar.specs.Grammar.{IsQuery}

-- The tokens of a text from here on, each with its byte, up to `rest`. White space before a token is skipped.
abbrev pub AreTokens : List ℕ → List ℕ → List Placed → List ℕ → Type 0
AreTokens text from [] rest = from ≡ rest
AreTokens text from (t ∷ ts) rest = (start : List ℕ) × ((next : List ℕ) × SkipsSpaces from start × (t.0 ≡ length text - length start)
    × IsLongest start t.1 next × AreTokens text next ts rest)

-- The text is a query by the grammar, which asks for this, with these names.
abbrev pub IsQueryText : List ℕ → Asked × Notes → Type 0
IsQueryText text whole = (ts : List Placed) × ((rest : List ℕ) × AreTokens text text ts rest × SkipsSpaces rest [] × IsQuery ts whole)

-- Some spelling is this token's.
abbrev pub IsToken : Placed → Type 0
IsToken t = (bytes : List ℕ) × IsSpelling t.1 bytes

-- The tokens of some query begin with these.
abbrev pub BeginTokensOfQuery : List Placed → Type 0
BeginTokensOfQuery ts = (more : List Placed) × AllByRecursion IsToken more × ((whole : Asked × Notes) × IsQuery (ts ++ more) whole)

-- A token stands at this byte, and no query's tokens begin with those up to it, while some begin with those before it.
pub record IsWrongToken (text : List ℕ) (at : ℕ) : Type 0 where
  pub before : List Placed
  pub token : Token
  pub rest : List ℕ
  pub are : AreTokens text text (before ++ (at, token) ∷ []) rest
  pub viable : BeginTokensOfQuery before
  pub dead : BeginTokensOfQuery (before ++ (at, token) ∷ []) → ⊥

-- No token begins at this byte, which is no white space, and some query's tokens begin with those before it.
pub record IsNoToken (text : List ℕ) (at : ℕ) : Type 0 where
  pub before : List Placed
  pub behind : List ℕ
  pub first : ℕ
  pub rest : List ℕ
  pub are : AreTokens text text before behind
  pub spaces : SkipsSpaces behind (first ∷ rest)
  pub byte : is_space first ≡ false
  pub place : at ≡ length text - length (first ∷ rest)
  pub none : BeginsNone (first ∷ rest)
  pub viable : BeginTokensOfQuery before

-- The tokens of some query begin with all those of the text, which are none themselves. The byte is the text's length.
pub record IsCutShortQuery (text : List ℕ) (at : ℕ) : Type 0 where
  pub all : List Placed
  pub behind : List ℕ
  pub are : AreTokens text text all behind
  pub spaces : SkipsSpaces behind []
  pub place : at ≡ length text
  pub viable : BeginTokensOfQuery all
  pub none : (whole : Asked × Notes) → IsQuery all whole → ⊥

abbrev pub IsFirstWrongToken : List ℕ → ℕ → Type 0
IsFirstWrongToken text at = IsWrongToken text at ⊎ (IsNoToken text at ⊎ IsCutShortQuery text at)
