use Rattle.std.proofs.Common.{◌≡◌, drop, map}
use Rattle.std.specs.List.{list_any}
use Rattle.httparse.specs.Spans.{header_bytes}
use Rattle.http_ends.specs.Fields.{says_close}
use Rattle.http_ends.proofs.fields.says_close.Given as goal

-- no field so far has the word
abbrev pub invariant-asking : goal.invariant-asking
invariant-asking l = list_any says_close (map (header_bytes l.bytes) (drop l.field-index l.fields)) ≡ list_any says_close (map (header_bytes l.bytes) l.fields)
