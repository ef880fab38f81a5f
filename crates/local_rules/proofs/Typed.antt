-- What an `@type` names at a position is a type of the position.
use Rattle.std.proofs.Common.{◌≡◌, Some, None, filter_map, option_to_list, option_and_then, bytes_eq, codes}
use Rattle.json_decimal.specs.Number.{Number}
use Rattle.json_tree.specs.Values.{Json, null, truth, number, text, array, object, Members}
use Rattle.json_tree.specs.Members.{list_of, text_in, value_at}
use Rattle.local_rules.specs.Tables.{type_text, types_of}
use Rattle.local_rules.specs.Roles.{element_named, named_by, only, type_in, type_of}
use Rattle.local_rules.specs.declared.role.Element.{Element}
use Rattle.local_rules.specs.declared.role.Position.{Position}
use Rattle.local_rules.proofs.Among.{Among, found_among, only_among, mapped_among}

pub named_among : (p : Position) (v : Json) (e : Element) → named_by p v ≡ Some e → Among e (types_of p)
named_among p v e is = elim (text_in v) as (λ t. option_and_then (element_named p) t ≡ Some e → Among e (types_of p)) [
  | None ↦ λ none. absurd cc
  | Some bytes ↦ λ found. found_among (λ x. bytes_eq (type_text x) bytes) (types_of p) e found
] is

pub type_among : (p : Position) (v : Json) (e : Element) → type_in p v ≡ Some e → Among e (types_of p)
type_among p (text bytes) e is = named_among p (text bytes) e (elim (element_named p bytes) as (λ o. only (option_to_list o) ≡ Some e → o ≡ Some e) [
  | None ↦ λ none. absurd cc
  | Some x ↦ λ same. same
] is)
type_among p (array vs) e is =
    let m = mapped_among (named_by p) (list_of vs) e (only_among (filter_map (named_by p) (list_of vs)) e is) in
    named_among p m.0 e m.1
type_among p null e is = absurd cc
type_among p (truth b) e is = absurd cc
type_among p (number n) e is = absurd cc
type_among p (object ms) e is = absurd cc

pub type_of_among : (p : Position) (ms : Members Number) (e : Element) → type_of p ms ≡ Some e → Among e (types_of p)
type_of_among p ms e is = elim (value_at (codes "@type") ms) as (λ t. option_and_then (type_in p) t ≡ Some e → Among e (types_of p)) [
  | None ↦ λ none. absurd cc
  | Some v ↦ λ named. type_among p v e named
] is
