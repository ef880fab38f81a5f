-- The first breach of the value of a query's body, by its pointer.
use Rattle.std.specs.Prelude.{ℕ, List, [], Option, Some, None, is_some, is_none, bytes_eq, codes, if◌then◌else◌}
use Rattle.std.specs.Option.{option_map, option_or}
use Rattle.json_decimal.specs.Number.{Number}
use Rattle.json_tree.specs.Values.{Json, null, truth, number, text, array, object, Members, no_members, member}
use Rattle.json_tree.specs.Members.{text_in, value_at}
use Rattle.twin_value.specs.declared.code.BodyCode.{BodyCode}
use Rattle.twin_value.specs.declared.code.BodyCode.TheVariants as code
use Rattle.query_bodies.specs.Breaches.{is_text_or_null}

-- The pointer to a member that is not of the kind that its key asks for.
abbrev pub wrong_pointer : List ℕ → Json → Option (List ℕ)
wrong_pointer key v =
    if bytes_eq key (codes "query") then (if is_some (text_in v) then None else Some (codes "/query"))
    else (if bytes_eq key (codes "continuationToken") then (if is_text_or_null v then None else Some (codes "/continuationToken")) else None)

abbrev pub first_wrong : Members Number → Option (List ℕ)
first_wrong no_members = None
first_wrong (member key v ms) = option_or (wrong_pointer key v) (first_wrong ms)

abbrev pub first_of_members : Members Number → Option (List ℕ × BodyCode)
first_of_members ms = if is_none (value_at (codes "query") ms) then Some ([], code.MissingKey) else option_map (λ pointer. (pointer, code.WrongKind)) (first_wrong ms)

abbrev pub first_breach : Json → Option (List ℕ × BodyCode)
first_breach null = Some ([], code.WrongKind)
first_breach (truth b) = Some ([], code.WrongKind)
first_breach (number n) = Some ([], code.WrongKind)
first_breach (text bytes) = Some ([], code.WrongKind)
first_breach (array vs) = Some ([], code.WrongKind)
first_breach (object ms) = first_of_members ms
