use Rattle.std.proofs.Common.{◌≡◌, ◌++◌, length, drop, map}
use Rattle.std.specs.Option.{IfSome, option_map, option_to_list}
use Rattle.httparse.specs.Spans.{header_bytes, span_bytes, IsWithin}
use Rattle.http_ends.specs.Fields.{values_named}
use Rattle.http_ends.proofs.fields.find_named.Given as goal

-- what was found and what is found in the rest are all values
abbrev pub invariant-finding : goal.invariant-finding
invariant-finding l = record {
  within : IfSome l.first (IsWithin (length l.bytes));
  values : option_to_list (option_map (span_bytes l.bytes) l.first) ++ values_named l.name (map (header_bytes l.bytes) (drop l.field-index l.fields)) ≡ values_named l.name (map (header_bytes l.bytes) l.fields);
}
