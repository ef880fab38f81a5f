-- The grammar of names and of digital twin model identifiers (DTDL v2, "Digital Twin Model Identifier").
use Rattle.std.specs.Prelude.{◌≡◌, ℕ, ◌-◌, ◌<◌, ◌≤◌, Bool, ◌||◌, ◌==◌, nat_eq, bytes_eq, false, List, ◌∷◌, ◌++◌, length, take, drop, slice_index, IsTrue, refl, codes}
use Rattle.std.specs.List.{All, AllPass, join_with_byte, slice_split, starts_with}
use Rattle.std.specs.Char.{is_ascii_alphabetic, is_ascii_alphanumeric}
use Rattle.std.specs.Fmt.{decimal}
use Rattle.std.specs.declared.cmp.Ordering.{Ordering}
use Rattle.std.specs.Ordering.{nat_cmp}
use Rattle.std.specs.Cmp.Lexicographic.{slice_cmp}
use Rattle.std.specs.Coded.{Coded, code_by, coded×, coded_ℕ, coded_list}

-- a letter, a digit or an underscore
abbrev pub is_name_byte : ℕ → Bool
is_name_byte c = is_ascii_alphanumeric c || (c == 95)

-- `[A-Za-z](?:[A-Za-z0-9_]*[A-Za-z0-9])?`
pub record IsSegment (bytes : List ℕ) : Type 0 where
  pub first : IsTrue (is_ascii_alphabetic (slice_index bytes 0))
  pub each : AllPass is_name_byte bytes
  pub last : IsTrue (is_ascii_alphanumeric (slice_index bytes (length bytes - 1)))

-- a name is a segment of at most 64 bytes
pub record NameText (bytes : List ℕ) : Type 0 where
  pub segment : IsSegment bytes
  pub short : length bytes ≤ 64

-- what an identifier tells: the segments of its path, and its version
pub record Identifier : Type 0 where
  pub segments : List (List ℕ)
  pub version : ℕ

abbrev pub identifier_code : Coded Identifier
identifier_code =
    code_by (List (List ℕ) × ℕ) (coded× (coded_list (coded_list coded_ℕ)) coded_ℕ) (λ i. (i.segments, i.version)) (λ p. record { segments = p.0; version = p.1 }) (λ _. refl)

-- `dtmi:`, the segments with `:` between them, `;` and the decimal digits of the version
abbrev pub dtmi_text : Identifier → List ℕ
dtmi_text i = codes "dtmi:" ++ (join_with_byte 58 i.segments ++ 59 ∷ decimal i.version)

-- the order of the printed bytes, in which versions stand as their digits do: `10` before `9`
abbrev pub id_cmp : Identifier → Identifier → Ordering
id_cmp a b = slice_cmp nat_cmp (dtmi_text a) (dtmi_text b)

-- equal in the printed bytes
abbrev pub id_eq : Identifier → Identifier → Bool
id_eq a b = bytes_eq (dtmi_text a) (dtmi_text b)

-- the bytes are of the grammar, whatever their number, and spell this identifier
pub record HasDtmiForm (bytes : List ℕ) (i : Identifier) : Type 0 where
  pub spelled : bytes ≡ dtmi_text i
  pub some : 0 < length i.segments
  pub each : All IsSegment i.segments
  pub positive : 1 ≤ i.version
  pub small : i.version ≤ 999999999

-- a DTMI has at most 2,048 bytes
pub record DtmiText (bytes : List ℕ) (i : Identifier) : Type 0 where
  pub form : HasDtmiForm bytes i
  pub short : length bytes ≤ 2048

abbrev pub IsDtmi : List ℕ → Type 0
IsDtmi bytes = (i : Identifier) × DtmiText bytes i

-- the texts that belong to the language itself and to standards; that they are refused is this project's own
abbrev pub is_reserved : List ℕ → Bool
is_reserved bytes = starts_with nat_eq bytes (codes "dtmi:dtdl:") || starts_with nat_eq bytes (codes "dtmi:standard:")

-- a DTMI that may be used for a model of one's own
pub record OwnDtmiText (bytes : List ℕ) (i : Identifier) : Type 0 where
  pub text : DtmiText bytes i
  pub free : is_reserved bytes ≡ false

-- the identifier of a text whose `;` stands at `path_end`
abbrev pub identifier_at : List ℕ → ℕ → ℕ → Identifier
identifier_at text path_end version =
    record { segments = slice_split (λ b. b == 58) (drop 5 (take path_end text)); version = version }

-- what a stored DTMI keeps
pub record IsStored (text : List ℕ) (path_end version : ℕ) : Type 0 where
  pub from : 5 ≤ path_end
  pub to : path_end ≤ length text
  pub own : OwnDtmiText text (identifier_at text path_end version)
