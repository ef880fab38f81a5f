-- What stands in front and what follows: a part of a text is the same part in front of anything else.
use Rattle.std.proofs.Common.{◌≡◌, ℕ, zero, suc, ◌*◌, ◌+◌, inl, inr, codes, List, [], ◌∷◌, ◌++◌, append_assoc, refl, sym, ap, ◌∙◌, subst}
use Rattle.json_tree.specs.Values.{Raw, null, truth, number, text, array, object, Elements, no_elements, element, Members, no_members, member}
use Rattle.json_tree.specs.Grammar.{IsSpaces, AreHexDigits, IsUnit, IsUnicode, IsEscape, IsCharacter, IsCharacters, IsString, literal_name, IsValue, IsElements, IsMoreElements, IsMembers, IsMoreMembers}

-- What the relation takes from the front stands in front of `to`, and it takes the same in front of any other bytes.
pub record Takes (R : List ℕ → List ℕ → Type 0) (from to : List ℕ) : Type 0 where
  pub front : List ℕ
  pub is : from ≡ front ++ to
  pub leaves : (other : List ℕ) → R (front ++ other) other

-- one behind the other
abbrev pub Then : (List ℕ → List ℕ → Type 0) → (List ℕ → List ℕ → Type 0) → List ℕ → List ℕ → Type 0
Then R S from to = (mid : List ℕ) × R from mid × S mid to

pub takes_then : {R S : List ℕ → List ℕ → Type 0} {from mid to : List ℕ} → Takes R from mid → Takes S mid to → Takes (Then R S) from to
takes_then {R} {S} {from} {mid} {to} r s = record {
  front = r.front ++ s.front;
  is = r.is ∙ ap (λ (rest : List ℕ). r.front ++ rest) s.is ∙ sym (append_assoc r.front s.front to);
  leaves = λ other. (s.front ++ other, subst (λ (bytes : List ℕ). R bytes (s.front ++ other)) (sym (append_assoc r.front s.front other)) (r.leaves (s.front ++ other)), s.leaves other);
}

pub takes_as : {R S : List ℕ → List ℕ → Type 0} {from to : List ℕ} → ((f t : List ℕ) → R f t → S f t) → Takes R from to → Takes S from to
takes_as h r = record { front = r.front; is = r.is; leaves = λ other. h (r.front ++ other) other (r.leaves other) }

-- a byte, and then what follows it
pub takes_behind : {R : List ℕ → List ℕ → Type 0} {from to : List ℕ} (b : ℕ) (bytes : List ℕ) → bytes ≡ b ∷ from → Takes R from to
    → Takes (λ f t. (mid : List ℕ) × (f ≡ b ∷ mid) × R mid t) bytes to
takes_behind b bytes e r = record {
  front = b ∷ r.front;
  is = e ∙ ap (λ (rest : List ℕ). b ∷ rest) r.is;
  leaves = λ other. (r.front ++ other, refl, r.leaves other);
}

-- ---- white space and marks
pub spaces_taken : (from to : List ℕ) → IsSpaces from to → Takes IsSpaces from to
spaces_taken from to (spaces, all, e) = record { front = spaces; is = e; leaves = λ other. (spaces, all, refl) }

-- with the mark behind it
abbrev pub IsMark : ℕ → List ℕ → List ℕ → Type 0
IsMark mark from to = IsSpaces from (mark ∷ to)

pub mark_taken : (mark : ℕ) (from to : List ℕ) → IsSpaces from (mark ∷ to) → Takes (IsMark mark) from to
mark_taken mark from to (spaces, all, e) = record {
  front = spaces ++ mark ∷ [];
  is = e ∙ sym (append_assoc spaces (mark ∷ []) to);
  leaves = λ other. (spaces, all, append_assoc spaces (mark ∷ []) other);
}

-- ---- texts
abbrev TakesDigits : ℕ → ℕ → ℕ → List ℕ → List ℕ → Type 0
TakesDigits n before after from to = Takes (λ f t. AreHexDigits n before f after t) from to

digits_taken : (n before after : ℕ) (from to : List ℕ) → AreHexDigits n before from after to → TakesDigits n before after from to
digits_taken zero before after from to (same, e) = record { front = []; is = e; leaves = λ other. (same, refl) }
digits_taken (suc n) before after from to (b, digit, mid, e, hex, more) =
    let r = digits_taken n (before * 16 + digit) after mid to more in record {
      front = b ∷ r.front;
      is = e ∙ ap (λ (rest : List ℕ). b ∷ rest) r.is;
      leaves = λ other. (b, digit, r.front ++ other, refl, hex, r.leaves other);
    }

abbrev TakesUnit : ℕ → ℕ → ℕ → List ℕ → List ℕ → Type 0
TakesUnit first second unit from to = Takes (λ f t. IsUnit f first second unit t) from to

unit_taken : (first second unit : ℕ) (from to : List ℕ) → IsUnit from first second unit to → TakesUnit first second unit from to
unit_taken first second unit from to (x, y, mid, e, high, low, digits) =
    let r = digits_taken 2 (first * 16 + second) unit mid to digits in record {
      front = x ∷ y ∷ r.front;
      is = e ∙ ap (λ (rest : List ℕ). x ∷ y ∷ rest) r.is;
      leaves = λ other. (x, y, r.front ++ other, refl, high, low, r.leaves other);
    }

abbrev TakesUnicode : List ℕ → List ℕ → List ℕ → Type 0
TakesUnicode bytes from to = Takes (λ f t. IsUnicode f bytes t) from to

unicode_taken : (bytes from to : List ℕ) → IsUnicode from bytes to → TakesUnicode bytes from to
unicode_taken bytes from to (inl (unit, (first, second, digits, range), e)) =
    let r = unit_taken first second unit from to digits in takes_as (λ f t d. inl (unit, (first, second, d, range), e)) r
unicode_taken bytes from to (inr (high, low, next, (second, digits, least, most), (third, more, range), e)) =
    let r = unit_taken 13 second high from (92 ∷ 117 ∷ next) digits in
    let s = unit_taken 13 third low next to more in record {
      front = r.front ++ 92 ∷ 117 ∷ s.front;
      is = r.is ∙ ap (λ (rest : List ℕ). r.front ++ 92 ∷ 117 ∷ rest) s.is ∙ sym (append_assoc r.front (92 ∷ 117 ∷ s.front) to);
      leaves = λ other. inr (
        high,
        low,
        s.front ++ other,
        (second, subst (λ (b : List ℕ). IsUnit b 13 second high (92 ∷ 117 ∷ (s.front ++ other))) (sym (append_assoc r.front (92 ∷ 117 ∷ s.front) other)) (r.leaves (92 ∷ 117 ∷ (s.front ++ other))), least, most),
        (third, s.leaves other, range),
        e,
      );
    }

abbrev TakesEscape : List ℕ → List ℕ → List ℕ → Type 0
TakesEscape bytes from to = Takes (λ f t. IsEscape f bytes t) from to

escape_taken : (bytes from to : List ℕ) → IsEscape from bytes to → TakesEscape bytes from to
escape_taken bytes from to (inl (mark, code, short, e, same)) = record { front = mark ∷ []; is = e; leaves = λ other. inl (mark, code, short, refl, same) }
escape_taken bytes from to (inr (mid, e, unicode)) = takes_as (λ f t h. inr h) (takes_behind 117 from e (unicode_taken bytes mid to unicode))

abbrev TakesCharacter : List ℕ → List ℕ → List ℕ → Type 0
TakesCharacter bytes from to = Takes (λ f t. IsCharacter f bytes t) from to

character_taken : (bytes from to : List ℕ) → IsCharacter from bytes to → TakesCharacter bytes from to
character_taken bytes from to (inl (b, plain, e, same)) = record { front = b ∷ []; is = e; leaves = λ other. inl (b, plain, refl, same) }
character_taken bytes from to (inr (inl (multibyte, e))) = record { front = bytes; is = e; leaves = λ other. inr (inl (multibyte, refl)) }
character_taken bytes from to (inr (inr (mid, e, escape))) = takes_as (λ f t h. inr (inr h)) (takes_behind 92 from e (escape_taken bytes mid to escape))

abbrev TakesCharacters : ℕ → List ℕ → List ℕ → List ℕ → Type 0
TakesCharacters n content from to = Takes (λ f t. IsCharacters n f content t) from to

characters_taken : (n : ℕ) (content from to : List ℕ) → IsCharacters n from content to → TakesCharacters n content from to
characters_taken zero content from to (none, e) = record { front = 34 ∷ []; is = e; leaves = λ other. (none, refl) }
characters_taken (suc n) content from to (bytes, rest, mid, character, e, more) =
    takes_as (λ f t (m, first, others). (bytes, rest, m, first, e, others))
    (takes_then (character_taken bytes from mid character) (characters_taken n rest mid to more))

abbrev pub TakesString : List ℕ → List ℕ → List ℕ → Type 0
TakesString content from to = Takes (λ f t. IsString f content t) from to

pub string_taken : (content from to : List ℕ) → IsString from content to → TakesString content from to
string_taken content from to (n, mid, e, characters) =
    takes_as (λ f t (m, is, others). (n, m, is, others)) (takes_behind 34 from e (characters_taken n content mid to characters))

-- ---- values
mutual
  pub value_taken : (v : Raw) (depth : ℕ) (from to : List ℕ) → IsValue v depth from to → Takes (IsValue v depth) from to
  value_taken null depth from to e = record { front = codes "null"; is = e; leaves = λ other. refl }
  value_taken (truth b) depth from to e = record { front = literal_name b; is = e; leaves = λ other. refl }
  value_taken (number bytes) depth from to (is, e) = record { front = bytes; is = e; leaves = λ other. (is, refl) }
  value_taken (text content) depth from to h = string_taken content from to h
  value_taken (array vs) depth from to (inner, mid, deep, e, h) =
      takes_as (λ f t (m, is, more). (inner, m, deep, is, more)) (takes_behind 91 from e (elements_taken vs inner mid to h))
  value_taken (object ms) depth from to (inner, mid, deep, e, h) =
      takes_as (λ f t (m, is, more). (inner, m, deep, is, more)) (takes_behind 123 from e (members_taken ms inner mid to h))

  pub elements_taken : (vs : Elements (List ℕ)) (depth : ℕ) (from to : List ℕ) → IsElements vs depth from to → Takes (IsElements vs depth) from to
  elements_taken no_elements depth from to h = mark_taken 93 from to h
  elements_taken (element v vs) depth from to (start, end, spaces, value, more) =
      takes_as (λ f t (s, sp, (n, w, others)). (s, n, sp, w, others))
      (takes_then (spaces_taken from start spaces) (takes_then (value_taken v depth start end value) (more_elements_taken vs depth end to more)))

  pub more_elements_taken : (vs : Elements (List ℕ)) (depth : ℕ) (from to : List ℕ) → IsMoreElements vs depth from to → Takes (IsMoreElements vs depth) from to
  more_elements_taken no_elements depth from to h = mark_taken 93 from to h
  more_elements_taken (element v vs) depth from to (mid, start, end, comma, spaces, value, more) =
      takes_as (λ f t (m, c, (s, sp, (n, w, others))). (m, s, n, c, sp, w, others))
      (takes_then (mark_taken 44 from mid comma) (takes_then (spaces_taken mid start spaces) (takes_then (value_taken v depth start end value) (more_elements_taken vs depth end to more))))

  pub members_taken : (ms : Members (List ℕ)) (depth : ℕ) (from to : List ℕ) → IsMembers ms depth from to → Takes (IsMembers ms depth) from to
  members_taken no_members depth from to h = mark_taken 125 from to h
  members_taken (member key v ms) depth from to (start, end, mid, first, last, spaces, name, colon, blank, value, more) =
      takes_as (λ f t (s, sp, (n, k, (m, c, (a, b, (z, w, others))))). (s, n, m, a, z, sp, k, c, b, w, others))
      (takes_then (spaces_taken from start spaces) (takes_then (string_taken key start end name) (takes_then (mark_taken 58 end mid colon)
      (takes_then (spaces_taken mid first blank) (takes_then (value_taken v depth first last value) (more_members_taken ms depth last to more))))))

  pub more_members_taken : (ms : Members (List ℕ)) (depth : ℕ) (from to : List ℕ) → IsMoreMembers ms depth from to → Takes (IsMoreMembers ms depth) from to
  more_members_taken no_members depth from to h = mark_taken 125 from to h
  more_members_taken (member key v ms) depth from to (comma, start, end, mid, first, last, mark, spaces, name, colon, blank, value, more) =
      takes_as (λ f t (x, y, (s, sp, (n, k, (m, c, (a, b, (z, w, others)))))). (x, s, n, m, a, z, y, sp, k, c, b, w, others))
      (takes_then (mark_taken 44 from comma mark) (takes_then (spaces_taken comma start spaces) (takes_then (string_taken key start end name)
      (takes_then (mark_taken 58 end mid colon) (takes_then (spaces_taken mid first blank)
      (takes_then (value_taken v depth first last value) (more_members_taken ms depth last to more)))))))
