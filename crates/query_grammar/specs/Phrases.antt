-- What a grammar is written in. A phrase says that tokens stand at the front of a list, and what they stand for. It is
-- given a fact about that value, about the names that were noted, and about the tokens that follow.
use Rattle.std.specs.Prelude.{ℕ, ◌==◌, ◌⊎◌, List, [], ◌∷◌, ◌++◌, Bool, true, false, Option, Some, None}
use Rattle.dt_base.specs.names.Grammar.{Identifier}
use Rattle.json_decimal.specs.declared.decimal.Decimal.{Decimal}
use Rattle.query_terms.specs.declared.operand.Compare.{Compare}
use Rattle.query_terms.specs.declared.cond.Kind.{Kind}
use Rattle.query_terms.specs.declared.cond.PartKind.{PartKind}
use Rattle.query_terms.specs.declared.tokens.token.Word.{Word}
use Rattle.query_terms.specs.declared.tokens.token.Word.TheVariants as words
use Rattle.query_terms.specs.declared.tokens.token.Mark.{Mark}
use Rattle.query_terms.specs.declared.tokens.token.Mark.TheVariants as marks
use Rattle.query_terms.specs.declared.tokens.token.Token.{Token}
use Rattle.query_terms.specs.declared.tokens.token.Token.TheVariants as tokens
use Rattle.query_grammar.specs.declared.names.Notes.{Notes}
use Rattle.query_grammar.specs.declared.names.Referent.{Referent}

-- A token and the byte of the text at which it stands.
abbrev pub Placed : Type 0
Placed = ℕ × Token

-- A name and the byte at which it stands.
abbrev pub PlacedName : Type 0
PlacedName = ℕ × List ℕ

-- A fact about the names that were noted and the tokens that follow.
abbrev pub Rest : Type 1
Rest = Notes → List Placed → Type 0

abbrev pub Phrase : Type 0 → Type 1
Phrase A = (A → Rest) → Rest

-- One phrase and then another, which may depend on the value of the first.
infixl 10 ◌>>=◌
abbrev pub ◌>>=◌ : {A B : Type 0} → Phrase A → (A → Phrase B) → Phrase B
p >>= f = λ K. p (λ x. f x K)

infixl 10 ◌>>◌
abbrev pub ◌>>◌ : {A B : Type 0} → Phrase A → Phrase B → Phrase B
p >> q = λ K. p (λ _. q K)

-- No tokens, which stand for this.
abbrev pub pure : {A : Type 0} → A → Phrase A
pure x K = K x

-- One phrase or the other.
abbrev pub choice : {A : Type 0} → Phrase A → Phrase A → Phrase A
choice p q K n ts = p K n ts ⊎ q K n ts

-- No tokens at all are this.
abbrev pub nothing : {A : Type 0} → Phrase A
nothing K n ts = ⊥

-- The phrase for some number.
abbrev pub some_number : {A : Type 0} → (ℕ → Phrase A) → Phrase A
some_number p K n ts = (k : ℕ) × p k K n ts

-- The fact, where the test passes.
abbrev pub On : Bool → Type 0 → Type 0
On true P = P
On false P = ⊥

abbrev pub only_if : Bool → Phrase (Unit {0})
only_if b K n ts = On b (K tt n ts)

abbrev pub only_some : {A : Type 0} → Option A → Phrase A
only_some (Some x) K n ts = K x n ts
only_some None K n ts = ⊥

-- ---- tokens
abbrev pub word_number : Word → ℕ
word_number words.Select = 0
word_number words.Top = 1
word_number words.Count = 2
word_number words.From = 3
word_number words.Twins = 4
word_number words.Relationships = 5
word_number words.Join = 6
word_number words.Related = 7
word_number words.Where = 8
word_number words.As = 9
word_number words.And = 10
word_number words.Or = 11
word_number words.Not = 12
word_number words.In = 13
word_number words.Nin = 14
word_number words.True = 15
word_number words.False = 16
word_number (words.Is kind) = 17
word_number (words.Part kind) = 18
word_number words.OfModel = 19
word_number words.Alias = 20

abbrev pub mark_number : Mark → ℕ
mark_number marks.Star = 0
mark_number marks.Open = 1
mark_number marks.Close = 2
mark_number marks.Comma = 3
mark_number marks.Dot = 4
mark_number marks.OpenList = 5
mark_number marks.CloseList = 6
mark_number (marks.Compare compare) = 7

-- This keyword, with where it stands.
abbrev pub word : Word → Phrase PlacedName
word w K n ((at, tokens.Name v name) ∷ ts) = On (word_number w == word_number v) (K (at, name) n ts)
word w K n ((at, tokens.Number d) ∷ ts) = ⊥
word w K n ((at, tokens.Text t m) ∷ ts) = ⊥
word w K n ((at, tokens.Mark m) ∷ ts) = ⊥
word w K n [] = ⊥

-- A name that is no keyword.
abbrev pub alias : Phrase PlacedName
alias = word words.Alias

-- Any name.
abbrev pub field : Phrase (List ℕ × PlacedName)
field K n ((at, tokens.Name v name) ∷ ts) = K (name, (at, name)) n ts
field K n ((at, tokens.Number d) ∷ ts) = ⊥
field K n ((at, tokens.Text t m) ∷ ts) = ⊥
field K n ((at, tokens.Mark m) ∷ ts) = ⊥
field K n [] = ⊥

-- The function that tests for a kind of value.
abbrev pub kind_word : Phrase Kind
kind_word K n ((at, tokens.Name (words.Is kind) name) ∷ ts) = K kind n ts
kind_word K n other = ⊥

abbrev pub part_word : Phrase PartKind
part_word K n ((at, tokens.Name (words.Part kind) name) ∷ ts) = K kind n ts
part_word K n other = ⊥

abbrev pub mark : Mark → Phrase (Unit {0})
mark m K n ((at, tokens.Mark o) ∷ ts) = On (mark_number m == mark_number o) (K tt n ts)
mark m K n ((at, tokens.Name v name) ∷ ts) = ⊥
mark m K n ((at, tokens.Number d) ∷ ts) = ⊥
mark m K n ((at, tokens.Text t o) ∷ ts) = ⊥
mark m K n [] = ⊥

abbrev pub compare_mark : Phrase Compare
compare_mark K n ((at, tokens.Mark (marks.Compare compare)) ∷ ts) = K compare n ts
compare_mark K n other = ⊥

abbrev pub number : Phrase Decimal
number K n ((at, tokens.Number d) ∷ ts) = K d n ts
number K n other = ⊥

-- A text, and the identifier that it is, if it is one.
abbrev pub text : Phrase (List ℕ × Option Identifier)
text K n ((at, tokens.Text content id) ∷ ts) = K (content, id) n ts
text K n other = ⊥

-- ---- notes
abbrev pub note_alias : PlacedName → Phrase (Unit {0})
note_alias s K n ts = K tt (record n { aliases = n.aliases ++ s ∷ [] }) ts

abbrev pub note_output : PlacedName → Phrase (Unit {0})
note_output s K n ts = K tt (record n { outputs = n.outputs ++ s ∷ [] }) ts

abbrev pub note_use : PlacedName → Referent → Phrase (Unit {0})
note_use s referent K n ts = K tt (record n { uses = n.uses ++ (record { placed = s; referent = referent }) ∷ [] }) ts
