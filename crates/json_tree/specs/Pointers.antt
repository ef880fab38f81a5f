-- JSON Pointers (RFC 6901): the text of a place in a value, and the value to which a text leads.
use Rattle.std.specs.Prelude.{◌≡◌, ℕ, ◌==◌, if◌then◌else◌, ◌⊎◌, List, [], ◌∷◌, ◌++◌, Some, codes, decimal}
use Rattle.json_tree.specs.Values.{Value, array, object, Members, no_members, member}
use Rattle.json_tree.specs.Places.{element_at, member_at}

-- A byte of a reference token (section 3): `~` as `~0` and `/` as `~1`.
abbrev pub token_byte : ℕ → List ℕ
token_byte b = if b == 126 then codes "~0" else if b == 47 then codes "~1" else b ∷ []

abbrev pub token_text : List ℕ → List ℕ
token_text [] = []
token_text (b ∷ bytes) = token_byte b ++ token_text bytes

-- The pointer with these tokens, each behind a `/`. A text that no tokens have is malformed: it neither is empty nor
-- begins with `/`, or has a `~` without `0` or `1` behind it.
abbrev pub pointer_text : List (List ℕ) → List ℕ
pointer_text [] = []
pointer_text (token ∷ tokens) = 47 ∷ (token_text token ++ pointer_text tokens)

-- The first member with the key has this value.
abbrev pub IsFirstMember : {N : Type 0} → List ℕ → Members N → Value N → Type 0
IsFirstMember key no_members w = ⊥
IsFirstMember key (member k v ms) w = ((key ≡ k) × (w ≡ v)) ⊎ ((key ≡ k → ⊥) × IsFirstMember key ms w)

-- One token leads from a value to a part (section 4): to the element of an array at that index, in digits without
-- leading zeros, or to the member of an object with that key, of equal keys the first.
abbrev pub IsStep : {N : Type 0} → Value N → List ℕ → Value N → Type 0
IsStep (array vs) token part = (i : ℕ) × (token ≡ decimal i) × (element_at vs i ≡ Some part)
IsStep (object ms) token part = IsFirstMember token ms part
IsStep other token part = ⊥

abbrev pub LeadsTo : {N : Type 0} → Value N → List (List ℕ) → Value N → Type 0
LeadsTo v [] w = v ≡ w
LeadsTo {N = N} v (token ∷ tokens) w = (part : Value N) × IsStep v token part × LeadsTo part tokens w

-- The text is a pointer that leads from the first value to the second.
abbrev pub PointsTo : {N : Type 0} → Value N → List ℕ → Value N → Type 0
PointsTo v bytes w = (tokens : List (List ℕ)) × (bytes ≡ pointer_text tokens) × LeadsTo v tokens w

-- The token of a part by its position: the position itself in an array, the key in an object.
abbrev pub HasToken : {N : Type 0} → Value N → ℕ → List ℕ → Value N → Type 0
HasToken (array vs) i token part = (element_at vs i ≡ Some part) × (token ≡ decimal i)
HasToken (object ms) i token part = member_at ms i ≡ Some (token, part)
HasToken other i token part = ⊥

-- The tokens on the way to a place.
abbrev pub AreReferenceTokens : {N : Type 0} → Value N → List ℕ → List (List ℕ) → Type 0
AreReferenceTokens v [] tokens = tokens ≡ []
AreReferenceTokens {N = N} v (i ∷ place) tokens = (token : List ℕ) × (part : Value N) × (rest : List (List ℕ))
    × HasToken v i token part × AreReferenceTokens part place rest × (tokens ≡ token ∷ rest)

-- The text is the pointer of a place.
abbrev pub IsPointerOf : {N : Type 0} → Value N → List ℕ → List ℕ → Type 0
IsPointerOf v place bytes = (tokens : List (List ℕ)) × AreReferenceTokens v place tokens × (bytes ≡ pointer_text tokens)
