-- The keywords, each in any letters.
use Rattle.std.specs.Prelude.{ℕ, List, map, Bool, bytes_eq, Option, Some, None, if◌then◌else◌, codes}
use Rattle.std.specs.Char.{to_ascii_lowercase}
use Rattle.query_terms.specs.declared.cond.Kind.TheVariants as kinds
use Rattle.query_terms.specs.declared.cond.PartKind.TheVariants as parts
use Rattle.query_terms.specs.declared.tokens.token.Word.{Word}
use Rattle.query_terms.specs.declared.tokens.token.Word.TheVariants.{Select, Top, Count, From, Twins, Relationships, Join, Related, Where, As, And, Or, Not, In, Nin, True, False, Is, Part, OfModel, Alias}

-- the same letters, capital or not
abbrev pub same_letters : List ℕ → List ℕ → Bool
same_letters name word = bytes_eq (map to_ascii_lowercase name) (map to_ascii_lowercase word)

-- the words of clauses
abbrev pub clause_word : List ℕ → Option Word
clause_word name =
    if same_letters name (codes "select") then Some Select else
    if same_letters name (codes "top") then Some Top else
    if same_letters name (codes "count") then Some Count else
    if same_letters name (codes "from") then Some From else
    if same_letters name (codes "digitaltwins") then Some Twins else
    if same_letters name (codes "relationships") then Some Relationships else
    if same_letters name (codes "join") then Some Join else
    if same_letters name (codes "related") then Some Related else
    if same_letters name (codes "where") then Some Where else
    if same_letters name (codes "as") then Some As else
    None

-- the words inside conditions
abbrev pub logic_word : List ℕ → Option Word
logic_word name =
    if same_letters name (codes "and") then Some And else
    if same_letters name (codes "or") then Some Or else
    if same_letters name (codes "not") then Some Not else
    if same_letters name (codes "in") then Some In else
    if same_letters name (codes "nin") then Some Nin else
    if same_letters name (codes "true") then Some True else
    if same_letters name (codes "false") then Some False else
    None

-- the names of functions
abbrev pub function_word : List ℕ → Option Word
function_word name =
    if same_letters name (codes "is_defined") then Some (Is kinds.Defined) else
    if same_letters name (codes "is_null") then Some (Is kinds.Null) else
    if same_letters name (codes "is_number") then Some (Is kinds.Number) else
    if same_letters name (codes "is_string") then Some (Is kinds.Word) else
    if same_letters name (codes "is_bool") then Some (Is kinds.Truth) else
    if same_letters name (codes "is_object") then Some (Is kinds.Object) else
    if same_letters name (codes "is_primitive") then Some (Is kinds.Primitive) else
    if same_letters name (codes "startswith") then Some (Part parts.Starts) else
    if same_letters name (codes "endswith") then Some (Part parts.Ends) else
    if same_letters name (codes "contains") then Some (Part parts.Contains) else
    if same_letters name (codes "is_of_model") then Some OfModel else
    None

abbrev pub or_else : Option Word → Word → Word
or_else (Some word) other = word
or_else None other = other

-- which word a name is
abbrev pub word_of : List ℕ → Word
word_of name = or_else (clause_word name) (or_else (logic_word name) (or_else (function_word name) Alias))
