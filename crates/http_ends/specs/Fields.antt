-- What the fields of a head say. A field is its name, and its value without the spaces and tabs around it.
use Rattle.std.specs.Prelude.{ℕ, Bool, true, false, ◌&&◌, List, [], ◌∷◌, length, Option, Some, None, if◌then◌else◌, ◌==◌, nat_lt, nat_le, codes}
use Rattle.std.specs.List.{list_all, list_any, slice_split}
use Rattle.std.specs.Char.{is_ascii_digit}
use Rattle.std.specs.Str.{str_eq_ignore_ascii_case}
use Rattle.std.specs.Str.Parse.{digits_value}
use Rattle.httparse.specs.Ascii.{comma}
use Rattle.httparse.specs.Grammar.{trim_ows}

-- The field has this name. Names are compared without regard to case (RFC 9110, section 5.1).
abbrev pub is_field_named : List ℕ → List ℕ × List ℕ → Bool
is_field_named name field = str_eq_ignore_ascii_case field.0 name

-- The values of the fields of this name, in their order.
abbrev pub values_named : List ℕ → List (List ℕ × List ℕ) → List (List ℕ)
values_named name [] = []
values_named name (field ∷ fields) = if is_field_named name field then field.1 ∷ values_named name fields else values_named name fields

-- 1 to 18 digits.
abbrev pub is_content_length : List ℕ → Bool
is_content_length text = nat_lt 0 (length text) && (nat_le (length text) 18 && list_all is_ascii_digit text)

-- There is no length, or one, which is a number: a second one, also an equal one, is refused (RFC 9112, section 6.3).
abbrev pub is_framed : List (List ℕ) → Bool
is_framed [] = true
is_framed (value ∷ []) = is_content_length value
is_framed (value ∷ other ∷ values) = false

-- The length that is said, if one is.
abbrev pub length_said : List (List ℕ) → Option ℕ
length_said [] = None
length_said (value ∷ values) = Some (digits_value 10 value)

-- The values of the fields `Content-Length` (RFC 9110, section 8.6).
abbrev pub lengths : List (List ℕ × List ℕ) → List (List ℕ)
lengths fields = values_named (codes "content-length") fields

-- The values of the fields `Transfer-Encoding` (RFC 9112, section 6.1).
abbrev pub codings : List (List ℕ × List ℕ) → List (List ℕ)
codings fields = values_named (codes "transfer-encoding") fields

-- The text without the spaces and tabs around it is this connection option, in any case (RFC 9110, section 7.6.1).
abbrev pub is_connection_option : List ℕ → List ℕ → Bool
is_connection_option option text = str_eq_ignore_ascii_case (trim_ows text) option

-- The field is a `Connection` that has the option `close` between its commas (RFC 9112, section 9.6).
abbrev pub says_close : List ℕ × List ℕ → Bool
says_close field = is_field_named (codes "connection") field && list_any (is_connection_option (codes "close")) (slice_split (λ b. b == comma) field.1)
