-- How long the texts of twins and relationships are.
use Rattle.std.proofs.Common.{◌≡◌, ℕ, ◌+◌, ◌<◌, Option, Some, None, MatchOption, List, length, codes, sym, subst, arith}
use Rattle.json_decimal.specs.Number.{Number}
use Rattle.json_tree.specs.Values.{Json, object, text, Members, no_members, member}
use Rattle.json_tree.specs.Printing.{printed}
use Rattle.json_tree.specs.View.{view}
use Rattle.json_length.specs.Lengths.{member_length, members_length}
use Rattle.json_length.proofs.Lengths.{members_printed}
use Rattle.json_tree.specs.Members.{members_in}
use Rattle.dt_base.specs.names.Grammar.{dtmi_text}
use Rattle.rel_graph.specs.declared.edge.Edge.{Edge}
use Rattle.json_tree.specs.declared.tree.Tree.{Tree}
use Rattle.twin_value.specs.Twins.{picked, joined_members, any_key, with_metadata, twin_json, link_json}
use Rattle.twin_value.specs.declared.twin.Twin.{Twin}

-- nothing is left
pub ended : (r : Option ℕ) (left n : ℕ) → r ≡ None → left < n → MatchOption r (left < n) (λ rest. rest + n ≡ left)
ended r left n none less = subst (λ (r : Option ℕ). MatchOption r (left < n) (λ rest. rest + n ≡ left)) (sym none) less

-- the last of the parts is what is left to spend
pub followed : (r : Option ℕ) (inner all left n : ℕ) → MatchOption r (inner < all) (λ rest. rest + all ≡ inner) → inner + n ≡ left + all
    → MatchOption r (left < n) (λ rest. rest + n ≡ left)
followed None inner all left n h e = omega arith
followed (Some rest) inner all left n h e = omega arith

pub joined_length : (ms ns : Members Number) → members_length (joined_members ms ns) ≡ members_length ms + members_length ns
joined_length no_members ns = omega arith
joined_length (member key v ms) ns = let more = joined_length ms ns in omega arith

pub object_length : (key : List ℕ) (v : Json) (ms : Members Number) → length (printed (object (member key v ms))) ≡ 1 + (member_length (key, v) + members_length ms)
object_length key v ms = omega (arith, members_printed key v ms)

pub part_length : (v : Json) → length (printed (with_metadata v)) ≡ 16 + members_length (members_in v)
part_length v = omega (arith, object_length (codes "$metadata") (object no_members) (members_in v))

pub metadata_length : (model : List ℕ) → length (printed (object (member (codes "$model") (text model) no_members))) ≡ 1 + member_length (codes "$model", text model)
metadata_length model = omega (arith, object_length (codes "$model") (text model) no_members)

pub twin_length : (t : Twin) → length (printed (twin_json t)) ≡ 1 + (member_length (codes "$dtId", text t.id)
    + (member_length (codes "$metadata", object (member (codes "$model") (text (dtmi_text t.model)) no_members))
    + (members_length (members_in (view t.values)) + members_length (picked any_key with_metadata (members_in (view t.parts))))))
twin_length t = omega (
  arith,
  object_length (codes "$dtId") (text t.id) (member (codes "$metadata") (object (member (codes "$model") (text (dtmi_text t.model)) no_members))
      (joined_members (members_in (view t.values)) (picked any_key with_metadata (members_in (view t.parts))))),
  joined_length (members_in (view t.values)) (picked any_key with_metadata (members_in (view t.parts))),
)

pub link_length : (e : Edge Tree) → length (printed (link_json e)) ≡ 1 + (member_length (codes "$relationshipId", text e.id)
    + (member_length (codes "$relationshipName", text e.name) + (member_length (codes "$sourceId", text e.source)
    + (member_length (codes "$targetId", text e.target) + members_length (members_in (view e.payload))))))
link_length e = object_length (codes "$relationshipId") (text e.id) (member (codes "$relationshipName") (text e.name)
    (member (codes "$sourceId") (text e.source) (member (codes "$targetId") (text e.target) (members_in (view e.payload)))))
