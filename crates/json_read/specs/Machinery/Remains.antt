-- What may remain of a text in each state of reading, by the grammar. No public contract speaks of it.
use Rattle.std.specs.Prelude.{◌≡◌, ℕ, suc, ◌+◌, ◌*◌, ◌≤◌, ◌⊎◌, List, [], ◌∷◌, ◌++◌, length, Option, Some, None, IfSome, encode_utf8}
use Rattle.json_decimal.specs.Literal.{Sign, Exponent, IsInteger, IsPower, IsExponent, AreDigits, sign_bytes, fraction_bytes, exponent_bytes}
use Rattle.json_tree.specs.Values.{Raw, number, text, array, object, Elements, element, Members, member}
use Rattle.json_tree.specs.Grammar.{AreInRanges, IsHexDigit, AreHexDigits, IsLowSurrogate, IsUnicode, IsEscape, IsCharacters, IsString, IsSpaces, IsValue, IsElements, IsMoreElements, IsMembers, IsMoreMembers, paired}
use Rattle.json_read.specs.Machinery.Automaton.{Pairs, Use, as_value, as_key, Frame, in_array, in_object, Part, behind_minus, behind_zero, in_integer, behind_point, in_fraction, behind_mark, behind_sign, in_power, Point, escaped, first_digit, behind_d, digits, high_digits, low_escape, low_letter, low_first, low_second, low_digits, in_sequence, ranges, State, value, first_element, first_key, next_key, colon, after, in_word, in_number, in_text, in_character}

-- elements and members with others before them
abbrev pub with_elements : List Raw → Elements (List ℕ) → Elements (List ℕ)
with_elements [] ws = ws
with_elements (v ∷ vs) ws = element v (with_elements vs ws)

abbrev pub with_members : Pairs → Members (List ℕ) → Members (List ℕ)
with_members [] ns = ns
with_members (m ∷ ms) ns = member m.0 m.1 (with_members ms ns)

-- Behind a value: the rest of all that it stands in, which makes `whole`.
abbrev pub After : List Frame → ℕ → Raw → List ℕ → Raw → Type 0
After [] d v from whole = IsSpaces from [] × (whole ≡ v)
After (in_array vs ∷ k) d v from whole = (ws : Elements (List ℕ)) × (to : List ℕ)
    × IsMoreElements ws d from to × After k (suc d) (array (with_elements vs (element v ws))) to whole
After (in_object ms key ∷ k) d v from whole = (ns : Members (List ℕ)) × (to : List ℕ)
    × IsMoreMembers ns d from to × After k (suc d) (object (with_members ms (member key v ns))) to whole

-- Behind a key.
abbrev pub AfterKey : Pairs → List ℕ → ℕ → List Frame → List ℕ → Raw → Type 0
AfterKey ms key d k from whole = (mid first last : List ℕ) × (v : Raw)
    × IsSpaces from (58 ∷ mid) × IsSpaces mid first × IsValue v d first last × After (in_object ms key ∷ k) d v last whole

abbrev pub AfterText : Use → List ℕ → ℕ → List Frame → List ℕ → Raw → Type 0
AfterText as_value content d k from whole = After k d (text content) from whole
AfterText (as_key ms) content d k from whole = AfterKey ms content d k from whole

-- Inside a text, at the beginning of a character or at the end.
abbrev pub InText : Use → List ℕ → ℕ → List Frame → List ℕ → Raw → Type 0
InText u content d k from whole = (n : ℕ) × (more to : List ℕ)
    × IsCharacters n from more to × AfterText u (content ++ more) d k to whole

-- The rest of a number.
abbrev pub IsNumberRest : Part → List ℕ → Type 0
IsNumberRest behind_minus rest = (ds fs : List ℕ) × (x : Option Exponent) × IsInteger ds × AreDigits fs
    × IfSome x IsExponent × (length ds + length fs ≤ 38) × (rest ≡ ds ++ (fraction_bytes fs ++ exponent_bytes x))
IsNumberRest behind_zero rest = (fs : List ℕ) × (x : Option Exponent) × AreDigits fs
    × IfSome x IsExponent × (length fs ≤ 37) × (rest ≡ fraction_bytes fs ++ exponent_bytes x)
IsNumberRest (in_integer n) rest = (ds fs : List ℕ) × (x : Option Exponent) × AreDigits ds × AreDigits fs
    × IfSome x IsExponent × (length ds + length fs ≤ n) × (rest ≡ ds ++ (fraction_bytes fs ++ exponent_bytes x))
IsNumberRest (behind_point n) rest = (f : ℕ) × (fs : List ℕ) × (x : Option Exponent) × AreDigits (f ∷ fs)
    × IfSome x IsExponent × (length fs ≤ n) × (rest ≡ f ∷ (fs ++ exponent_bytes x))
IsNumberRest (in_fraction n) rest = (fs : List ℕ) × (x : Option Exponent) × AreDigits fs
    × IfSome x IsExponent × (length fs ≤ n) × (rest ≡ fs ++ exponent_bytes x)
IsNumberRest behind_mark rest = (s : Sign) × (ds : List ℕ) × IsPower ds × (rest ≡ sign_bytes s ++ ds)
IsNumberRest behind_sign rest = IsPower rest
IsNumberRest (in_power n) rest = AreDigits rest × (length rest ≤ n)

-- The rest of a high surrogate's character, which starts with the low one's digits.
abbrev pub IsLowRest : ℕ → List ℕ → List ℕ → List ℕ → Type 0
IsLowRest high from bytes to = (low : ℕ) × IsLowSurrogate from low to × (bytes ≡ paired high low)

-- The rest of a character, and the bytes by which the text grows.
abbrev pub IsCharacterRest : Point → List ℕ → List ℕ → List ℕ → Type 0
IsCharacterRest escaped from bytes to = IsEscape from bytes to
IsCharacterRest first_digit from bytes to = IsUnicode from bytes to
IsCharacterRest behind_d from bytes to = (y second : ℕ) × (mid : List ℕ) × (from ≡ y ∷ mid) × IsHexDigit y second
    × (((unit : ℕ) × (second ≤ 7) × AreHexDigits 2 (13 * 16 + second) mid unit to × (bytes ≡ encode_utf8 unit))
    ⊎ ((high : ℕ) × (next : List ℕ) × (8 ≤ second) × (second ≤ 11)
    × AreHexDigits 2 (13 * 16 + second) mid high (92 ∷ 117 ∷ next) × IsLowRest high next bytes to))
IsCharacterRest (digits n before) from bytes to = (unit : ℕ)
    × AreHexDigits (suc n) before from unit to × (bytes ≡ encode_utf8 unit)
IsCharacterRest (high_digits n before) from bytes to = (high : ℕ) × (next : List ℕ)
    × AreHexDigits (suc n) before from high (92 ∷ 117 ∷ next) × IsLowRest high next bytes to
IsCharacterRest (low_escape high) from bytes to = (next : List ℕ) × (from ≡ 92 ∷ 117 ∷ next) × IsLowRest high next bytes to
IsCharacterRest (low_letter high) from bytes to = (next : List ℕ) × (from ≡ 117 ∷ next) × IsLowRest high next bytes to
IsCharacterRest (low_first high) from bytes to = IsLowRest high from bytes to
IsCharacterRest (low_second high) from bytes to = (y second low : ℕ) × (mid : List ℕ) × (from ≡ y ∷ mid)
    × IsHexDigit y second × (12 ≤ second) × AreHexDigits 2 (13 * 16 + second) mid low to × (bytes ≡ paired high low)
IsCharacterRest (low_digits n high before) from bytes to = (low : ℕ)
    × AreHexDigits (suc n) before from low to × (bytes ≡ paired high low)
IsCharacterRest (in_sequence s) from bytes to = AreInRanges (ranges s) bytes × (from ≡ bytes ++ to)

-- The bytes `from` may remain, and the text then has the value `whole`.
abbrev pub Remains : State → List ℕ → Raw → Type 0
Remains (value d k) from whole = (start end : List ℕ) × (v : Raw)
    × IsSpaces from start × IsValue v d start end × After k d v end whole
Remains (first_element d k) from whole = (vs : Elements (List ℕ)) × (to : List ℕ)
    × IsElements vs d from to × After k (suc d) (array vs) to whole
Remains (first_key d k) from whole = (ms : Members (List ℕ)) × (to : List ℕ)
    × IsMembers ms d from to × After k (suc d) (object ms) to whole
Remains (next_key d k ms) from whole = (start key end : List ℕ)
    × IsSpaces from start × IsString start key end × AfterKey ms key d k end whole
Remains (colon d k ms key) from whole = AfterKey ms key d k from whole
Remains (after d k v) from whole = After k d v from whole
Remains (in_word b left v d k) from whole = (to : List ℕ) × (from ≡ b ∷ (left ++ to)) × After k d v to whole
Remains (in_number part bytes d k) from whole = (rest to : List ℕ)
    × IsNumberRest part rest × (from ≡ rest ++ to) × After k d (number (bytes ++ rest)) to whole
Remains (in_text u content d k) from whole = InText u content d k from whole
Remains (in_character p u content d k) from whole = (bytes mid : List ℕ)
    × IsCharacterRest p from bytes mid × InText u (content ++ bytes) d k mid whole

-- The same of what a step gives; nothing remains where it gives none.
abbrev pub Follows : Option State → List ℕ → Raw → Type 0
Follows None from whole = ⊥
Follows (Some s) from whole = Remains s from whole
