-- What a value that can be of a grammar is read as.
use Rattle.std.proofs.Common.{◌≡◌, ℕ, ◌-◌, ◌<◌, Bool, true, false, nat_le, List, length, map, get_or, refl, sym, subst, ◌∙◌, arith}
use Rattle.std.specs.Prelude.{ℤ, pos, negsuc, ◌≤ℤ◌, slice_index}
use Rattle.std.specs.Char.{is_ascii_alphabetic, is_ascii_alphanumeric}
use Rattle.std.proofs.lemmas.Bool.{leb-true, le-leb}
use Rattle.std.proofs.lemmas.Int.{ints}
use Rattle.dt_base.specs.names.Faults.{RefusesDtmi}
use Rattle.dt_base.specs.names.Grammar.{NameText, OwnDtmiText, dtmi_text, is_name_byte}
use Rattle.dt_base.proofs.names.Exact.{dtmi_refused}
use Rattle.dt_base.specs.declared.names.fault.NameFault.{NameFault}
use Rattle.dt_base.specs.declared.names.fault.NameFault.TheVariants as fault
use Rattle.json_decimal.specs.Number.{Number}
use Rattle.json_decimal.specs.Comparing.{IsWhole}
use Rattle.json_decimal.proofs.Wholes.{one_whole}
use Rattle.json_tree.specs.Values.{Json, null, truth, number, text, array, object, Elements}
use Rattle.json_tree.specs.View.{view, elements_view}
use Rattle.json_tree.specs.declared.tree.Tree.{Tree}
use Rattle.json_tree.specs.declared.tree.Tree as variants
use Rattle.local_rules.specs.Quantities.{IsStringValue}
use Rattle.local_rules.specs.Types.{MayHaveBeside, further}
use Rattle.local_rules.specs.declared.role.Element.TheVariants as element_kind
use Rattle.local_rules.specs.declared.role.Position.{Position}
use Rattle.json_tree.proofs.Views.{list_of-elements_of}
use Rattle.model_read.proofs.Seen.{seen_list}
use Rattle.json_tree.proofs.Parts.{item_part}
use Rattle.model_read.specs.Machinery.Shapes.{CanBe, CanBeId, CanBeName, CanBeMultiplicity, CanBeTypes, EachIs, IsListOf}

-- ---- texts
pub word_of : (P : List ℕ → Type 0) (v : Json) → CanBe ((bytes : List ℕ) × (v ≡ text bytes) × P bytes) → IsStringValue v
word_of P (text bytes) can = (bytes, refl)
word_of P null can = absurd (can (λ is. let e = is.1 in absurd cc))
word_of P (truth b) can = absurd (can (λ is. let e = is.1 in absurd cc))
word_of P (number n) can = absurd (can (λ is. let e = is.1 in absurd cc))
word_of P (array vs) can = absurd (can (λ is. let e = is.1 in absurd cc))
word_of P (object ms) can = absurd (can (λ is. let e = is.1 in absurd cc))

pub id_word : (v : Json) → CanBeId v → IsStringValue v
id_word v can = word_of (λ bytes. Unit {0}) v (λ none. can (λ is. none (dtmi_text is.0, is.1.0, tt)))

-- a text of the grammar is refused for want of memory alone
is_memory : (f : NameFault) → CanBe (f ≡ fault.OutOfMemory) → f ≡ fault.OutOfMemory
is_memory fault.OutOfMemory can = refl
is_memory fault.Empty can = absurd (can (λ e. cc))
is_memory fault.TooLong can = absurd (can (λ e. cc))
is_memory (fault.BadByte at) can = absurd (can (λ e. cc))
is_memory fault.Ends can = absurd (can (λ e. cc))
is_memory fault.BadVersion can = absurd (can (λ e. cc))
is_memory fault.Reserved can = absurd (can (λ e. cc))

stable : (b : Bool) → CanBe (b ≡ true) → b ≡ true
stable true can = refl
stable false can = absurd (can (λ e. cc))

-- a text that can be a name is one
pub name_text : (bytes : List ℕ) → CanBeName (text bytes) → NameText bytes
name_text bytes can = record {
  segment = record {
    first = stable (is_ascii_alphabetic (slice_index bytes 0)) (λ none. is_one (λ n. none n.segment.first));
    each = λ i d within. stable (is_name_byte (get_or bytes i d)) (λ none. is_one (λ n. none (n.segment.each i d within)));
    last = stable (is_ascii_alphanumeric (slice_index bytes (length bytes - 1))) (λ none. is_one (λ n. none n.segment.last));
  };
  short = leb-true (length bytes) 64 (stable (nat_le (length bytes) 64) (λ none. is_one (λ n. none (le-leb (length bytes) 64 n.short))));
}
  where
    is_one : CanBe (NameText bytes)
    is_one none = can (λ is. none (let same : bytes ≡ is.0 = (let e = is.1 in cc) in subst NameText (sym same) is.2))

pub id_wants_memory : (bytes : List ℕ) (f : NameFault) → CanBeId (text bytes) → RefusesDtmi bytes f → f ≡ fault.OutOfMemory
id_wants_memory bytes f can refused = is_memory f (λ other. can (λ is.
    let same : bytes ≡ dtmi_text is.0 = (let e = is.1.0 in cc) in
    other (dtmi_refused bytes is.0 f (subst (λ (b : List ℕ). OwnDtmiText b is.0) (sym same) is.1.1) refused)))

-- ---- quantities
-- a whole number that can be a multiplicity is not negative
pub count : (n : Number) (z : ℤ) → CanBeMultiplicity (number n) → IsWhole n z → (m : ℕ) × (z ≡ pos m)
count n (pos m) can whole = (m, refl)
count n (negsuc k) can whole = absurd (can (λ is.
    let same : n ≡ is.0 = (let e = is.2 in cc) in
    let one : negsuc k ≡ is.1 = one_whole n (negsuc k) is.1 whole (subst (λ (m : Number). IsWhole m is.1) (sym same) is.5) in
    let low : pos 1 ≤ℤ negsuc k = subst (λ (y : ℤ). pos 1 ≤ℤ y) (sym one) is.3 in
    absurd (omega (arith, ints, low))))

-- ---- entries
-- the entries of a list `@type`
pub type_entries : (p : Position) (t : Tree) (ts slice : List Tree) → t ≡ variants.List ts → slice ≡ ts → CanBeTypes p (view t)
    → CanBe (MayHaveBeside element_kind.Property (further p (map view slice)))
type_entries p t ts slice is same can =
    subst (λ (vs : List Json). CanBe (MayHaveBeside element_kind.Property (further p vs))) (list_of-elements_of (map view slice))
    (can (elements_view slice) (seen_list t ts slice is same))

pub each : (P : Json → Type 0) (trees : List Tree) (i : ℕ) (t : Tree) → EachIs P (elements_view trees) → i < length trees → t ≡ get_or trees i t → P (view t)
each P trees i t all within is = all i (view t) (item_part trees i t within is)

pub entries : (P : Json → Type 0) (v : Json) (vs : Elements Number) → v ≡ array vs → IsListOf P v → EachIs P vs
entries P v vs is listed =
    let same : listed.0 ≡ vs = (let e : array listed.0 ≡ array vs = sym listed.1 ∙ is in cc) in
    subst (EachIs P) same listed.2
