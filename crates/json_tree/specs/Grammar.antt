-- JSON texts (RFC 8259) in UTF-8, as a relation between bytes and values. "X stands at the front of `from`, and
-- `to` follows" is said by X, `from` and `to`.
use Rattle.std.specs.Prelude.{◌≡◌, ℕ, zero, suc, ◌+◌, ◌-◌, ◌*◌, ◌≤◌, ◌⊎◌, List, [], ◌∷◌, ◌++◌, Bool, true, false, codes, encode_utf8}
use Rattle.std.specs.List.{AllByRecursion}
use Rattle.json_decimal.specs.Literal.{Literal, IsLiteral, spelling}
use Rattle.json_tree.specs.Values.{Raw, Json, null, truth, number, text, array, object, Elements, no_elements, element, Members, no_members, member, HasDistinctKeys, IsReadAs}

-- Insignificant white space (section 2): a space, a tab, a line feed or a carriage return.
abbrev pub IsSpace : ℕ → Type 0
IsSpace b = (b ≡ 32) ⊎ (b ≡ 9) ⊎ (b ≡ 10) ⊎ (b ≡ 13)

abbrev pub IsSpaces : List ℕ → List ℕ → Type 0
IsSpaces from to = (spaces : List ℕ) × AllByRecursion IsSpace spaces × (from ≡ spaces ++ to)

-- A byte of a text that stands for itself (section 7): ASCII from the space on, but for the quotation mark and
-- the backslash.
abbrev pub IsPlainByte : ℕ → Type 0
IsPlainByte b = (32 ≤ b) × (b ≤ 127) × (b ≡ 34 → ⊥) × (b ≡ 92 → ⊥)

-- The bytes lie in these ranges, each in one.
abbrev pub AreInRanges : List (ℕ × ℕ) → List ℕ → Type 0
AreInRanges [] bytes = bytes ≡ []
AreInRanges (r ∷ ranges) bytes = (b : ℕ) × (rest : List ℕ) × (bytes ≡ b ∷ rest) × (r.0 ≤ b) × (b ≤ r.1) × AreInRanges ranges rest

abbrev pub tail : ℕ × ℕ
tail = (0x80, 0xBF)

-- A character of two to four bytes in UTF-8 (RFC 3629, section 4): UTF8-2, UTF8-3 and UTF8-4.
abbrev pub IsMultibyte : List ℕ → Type 0
IsMultibyte bytes =
    AreInRanges ((0xC2, 0xDF) ∷ tail ∷ []) bytes
    ⊎ AreInRanges ((0xE0, 0xE0) ∷ (0xA0, 0xBF) ∷ tail ∷ []) bytes
    ⊎ AreInRanges ((0xE1, 0xEC) ∷ tail ∷ tail ∷ []) bytes
    ⊎ AreInRanges ((0xED, 0xED) ∷ (0x80, 0x9F) ∷ tail ∷ []) bytes
    ⊎ AreInRanges ((0xEE, 0xEF) ∷ tail ∷ tail ∷ []) bytes
    ⊎ AreInRanges ((0xF0, 0xF0) ∷ (0x90, 0xBF) ∷ tail ∷ tail ∷ []) bytes
    ⊎ AreInRanges ((0xF1, 0xF3) ∷ tail ∷ tail ∷ tail ∷ []) bytes
    ⊎ AreInRanges ((0xF4, 0xF4) ∷ (0x80, 0x8F) ∷ tail ∷ tail ∷ []) bytes

-- A character behind a backslash and the code that it stands for (section 7): `"`, `\`, `/`, and `b`, `f`, `n`,
-- `r` and `t`.
abbrev pub IsShortEscape : ℕ → ℕ → Type 0
IsShortEscape mark code =
    ((mark ≡ 34) × (code ≡ 34))
    ⊎ ((mark ≡ 92) × (code ≡ 92))
    ⊎ ((mark ≡ 47) × (code ≡ 47))
    ⊎ ((mark ≡ 98) × (code ≡ 8))
    ⊎ ((mark ≡ 102) × (code ≡ 12))
    ⊎ ((mark ≡ 110) × (code ≡ 10))
    ⊎ ((mark ≡ 114) × (code ≡ 13))
    ⊎ ((mark ≡ 116) × (code ≡ 9))

-- A hexadecimal digit of either case, and its value.
abbrev pub IsHexDigit : ℕ → ℕ → Type 0
IsHexDigit b value =
    ((48 ≤ b) × (b ≤ 57) × (value ≡ b - 48))
    ⊎ ((65 ≤ b) × (b ≤ 70) × (value ≡ b - 55))
    ⊎ ((97 ≤ b) × (b ≤ 102) × (value ≡ b - 87))

-- So many hexadecimal digits that lead from one value to another.
abbrev pub AreHexDigits : ℕ → ℕ → List ℕ → ℕ → List ℕ → Type 0
AreHexDigits zero before from after to = (after ≡ before) × (from ≡ to)
AreHexDigits (suc n) before from after to = (b digit : ℕ) × (mid : List ℕ)
    × (from ≡ b ∷ mid) × IsHexDigit b digit × AreHexDigits n (before * 16 + digit) mid after to

-- The four digits behind `u`, the values of the first two of them, and the value of all.
abbrev pub IsUnit : List ℕ → ℕ → ℕ → ℕ → List ℕ → Type 0
IsUnit from first second unit to = (x y : ℕ) × (mid : List ℕ) × (from ≡ x ∷ y ∷ mid)
    × IsHexDigit x first × IsHexDigit y second × AreHexDigits 2 (first * 16 + second) mid unit to

-- The digits of a unit that is no surrogate: D is followed by 0 to 7 (RFC 9535, section 2.3.1.1, non-surrogate).
abbrev pub IsNonSurrogate : List ℕ → ℕ → List ℕ → Type 0
IsNonSurrogate from unit to = (first second : ℕ) × IsUnit from first second unit to × (first ≡ 13 → second ≤ 7)

-- Those of a high surrogate: D and then 8 to B.
abbrev pub IsHighSurrogate : List ℕ → ℕ → List ℕ → Type 0
IsHighSurrogate from unit to = (second : ℕ) × IsUnit from 13 second unit to × (8 ≤ second) × (second ≤ 11)

-- Those of a low surrogate: D and then C to F.
abbrev pub IsLowSurrogate : List ℕ → ℕ → List ℕ → Type 0
IsLowSurrogate from unit to = (second : ℕ) × IsUnit from 13 second unit to × (12 ≤ second)

-- The bytes of the character of a surrogate pair.
abbrev pub paired : ℕ → ℕ → List ℕ
paired high low = encode_utf8 (0x10000 + (high - 0xD800) * 0x400 + (low - 0xDC00))

-- What stands behind `\u`, and the bytes that it stands for: a unit that is no surrogate, or a high surrogate,
-- `\u` and a low one.
abbrev pub IsUnicode : List ℕ → List ℕ → List ℕ → Type 0
IsUnicode from bytes to =
    ((unit : ℕ) × IsNonSurrogate from unit to × (bytes ≡ encode_utf8 unit))
    ⊎ ((high low : ℕ) × (next : List ℕ) × IsHighSurrogate from high (92 ∷ 117 ∷ next)
    × IsLowSurrogate next low to × (bytes ≡ paired high low))

-- What stands behind a backslash, and the bytes that it stands for.
abbrev pub IsEscape : List ℕ → List ℕ → List ℕ → Type 0
IsEscape from bytes to =
    ((mark code : ℕ) × IsShortEscape mark code × (from ≡ mark ∷ to) × (bytes ≡ code ∷ []))
    ⊎ ((mid : List ℕ) × (from ≡ 117 ∷ mid) × IsUnicode mid bytes to)

-- A character of a text (section 7), and the bytes that it stands for.
abbrev pub IsCharacter : List ℕ → List ℕ → List ℕ → Type 0
IsCharacter from bytes to =
    ((b : ℕ) × IsPlainByte b × (from ≡ b ∷ to) × (bytes ≡ b ∷ []))
    ⊎ (IsMultibyte bytes × (from ≡ bytes ++ to))
    ⊎ ((mid : List ℕ) × (from ≡ 92 ∷ mid) × IsEscape mid bytes to)

-- So many characters, and then the quotation mark that ends the text.
abbrev pub IsCharacters : ℕ → List ℕ → List ℕ → List ℕ → Type 0
IsCharacters zero from content to = (content ≡ []) × (from ≡ 34 ∷ to)
IsCharacters (suc n) from content to = (bytes rest mid : List ℕ)
    × IsCharacter from bytes mid × (content ≡ bytes ++ rest) × IsCharacters n mid rest to

-- A text between quotation marks (section 7), and the bytes that it stands for.
abbrev pub IsString : List ℕ → List ℕ → List ℕ → Type 0
IsString from content to = (n : ℕ) × (mid : List ℕ) × (from ≡ 34 ∷ mid) × IsCharacters n mid content to

-- The bytes of a number (section 6) with at most 38 digits before the exponent mark and 3 behind it.
abbrev pub IsNumber : List ℕ → Type 0
IsNumber bytes = (l : Literal) × IsLiteral l × (bytes ≡ spelling l)

-- The literal names (section 3).
abbrev pub literal_name : Bool → List ℕ
literal_name true = codes "true"
literal_name false = codes "false"

-- Values (section 3), arrays (section 5) and objects (section 4). Arrays and objects nest at most `depth` deep,
-- where the outermost counts as 1.
abbrev mutual
  pub IsValue : Raw → ℕ → List ℕ → List ℕ → Type 0
  IsValue null depth from to = from ≡ codes "null" ++ to
  IsValue (truth b) depth from to = from ≡ literal_name b ++ to
  IsValue (number bytes) depth from to = IsNumber bytes × (from ≡ bytes ++ to)
  IsValue (text content) depth from to = IsString from content to
  IsValue (array vs) depth from to = (inner : ℕ) × (mid : List ℕ)
      × (depth ≡ suc inner) × (from ≡ 91 ∷ mid) × IsElements vs inner mid to
  IsValue (object ms) depth from to = (inner : ℕ) × (mid : List ℕ)
      × (depth ≡ suc inner) × (from ≡ 123 ∷ mid) × IsMembers ms inner mid to

  -- What follows the opening bracket, with the closing one.
  pub IsElements : Elements (List ℕ) → ℕ → List ℕ → List ℕ → Type 0
  IsElements no_elements depth from to = IsSpaces from (93 ∷ to)
  IsElements (element v vs) depth from to = (start end : List ℕ)
      × IsSpaces from start × IsValue v depth start end × IsMoreElements vs depth end to

  -- What follows an element: each further one behind a comma, and the closing bracket.
  pub IsMoreElements : Elements (List ℕ) → ℕ → List ℕ → List ℕ → Type 0
  IsMoreElements no_elements depth from to = IsSpaces from (93 ∷ to)
  IsMoreElements (element v vs) depth from to = (mid start end : List ℕ)
      × IsSpaces from (44 ∷ mid) × IsSpaces mid start × IsValue v depth start end × IsMoreElements vs depth end to

  -- What follows the opening brace, with the closing one. A colon stands between a key and its value.
  pub IsMembers : Members (List ℕ) → ℕ → List ℕ → List ℕ → Type 0
  IsMembers no_members depth from to = IsSpaces from (125 ∷ to)
  IsMembers (member key v ms) depth from to = (start end mid first last : List ℕ)
      × IsSpaces from start × IsString start key end × IsSpaces end (58 ∷ mid) × IsSpaces mid first
      × IsValue v depth first last × IsMoreMembers ms depth last to

  -- What follows a member: each further one behind a comma, and the closing brace.
  pub IsMoreMembers : Members (List ℕ) → ℕ → List ℕ → List ℕ → Type 0
  IsMoreMembers no_members depth from to = IsSpaces from (125 ∷ to)
  IsMoreMembers (member key v ms) depth from to = (comma start end mid first last : List ℕ)
      × IsSpaces from (44 ∷ comma) × IsSpaces comma start × IsString start key end × IsSpaces end (58 ∷ mid)
      × IsSpaces mid first × IsValue v depth first last × IsMoreMembers ms depth last to

-- A JSON text (section 2): one value, with white space round it, that nests at most 64 deep (a limit that section
-- 9 leaves to a reader).
abbrev pub IsText : List ℕ → Raw → Type 0
IsText bytes raw = (start end : List ℕ) × IsSpaces bytes start × IsValue raw 64 start end × IsSpaces end []

-- The bytes are a JSON text of this value, no object in it has two members of one key (section 4), and each number
-- is in range.
abbrev pub Spells : List ℕ → Json → Type 0
Spells bytes value = (raw : Raw) × IsText bytes raw × HasDistinctKeys raw × IsReadAs raw value
