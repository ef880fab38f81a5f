use Rattle.std.proofs.Common.{◌≡◌, ◌++◌, ◌<◌, length, take, string_bytes, sym, ◌∙◌, arith}
use Rattle.std.proofs.lemmas.List.{append-nil}
use Rattle.std.proofs.Math.Seq.{take-length}
use Rattle.std.proofs.lemmas.Str.{IsCharBoundary-start, IsCharBoundary-after_ascii}
use Rattle.query_text.specs.Printed.{escaped_query}
use Rattle.query_text.proofs.Escaped.{run_printed, byte_printed, escaped_ascii}
use Rattle.query_text.proofs.escapes.push_escaped.Goals as goal

pub runs-init : goal.runs-init
runs-init c = record { boundary = IsCharBoundary-start _ c.as_bytes-bytes.ensures.utf8; escaped_query = sym (append-nil _) }

pub returns-then-end-bytes : goal.returns-then-end-bytes
returns-then-end-bytes c =
    let bytes = c.as_bytes-bytes.result.now in
    let ran : string_bytes c.push_str.new.self ≡ string_bytes c.args.out.now ++ escaped_query (take c.plain_end-end.result bytes) =
    rw (c.in_ok-push_str.ensures.bytes, c.range.ensures.value, sym c.as_bytes-bytes.ensures.value)
    (run_printed _ _ bytes c.runs.at c.plain_end-end.result c.plain_end-end.ensures.forward c.plain_end-end.ensures.within c.plain_end-end.ensures.plain c.runs.invariant.escaped_query) in
    let whole : take c.plain_end-end.result bytes ≡ c.args.text.now = rw c.if-end-bytes.true (take-length bytes ∙ c.as_bytes-bytes.ensures.value) in
    rw whole at ran

pub runs-preserved : goal.runs-preserved
runs-preserved c =
    let bytes = c.as_bytes-bytes.result.now in
    let le = c.plain_end-end.ensures.within in
    let other = c.if-end-bytes.false in
    let lt : c.plain_end-end.result < length bytes = grind arith in
    let ran : string_bytes c.push_str.new.self ≡ string_bytes c.args.out.now ++ escaped_query (take c.plain_end-end.result bytes) =
    rw (c.in_ok-push_str.ensures.bytes, c.range.ensures.value, sym c.as_bytes-bytes.ensures.value)
    (run_printed _ _ bytes c.runs.at c.plain_end-end.result c.plain_end-end.ensures.forward le c.plain_end-end.ensures.plain c.runs.invariant.escaped_query) in
    record {
      boundary = IsCharBoundary-after_ascii bytes c.plain_end-end.result c.as_bytes-bytes.ensures.utf8 lt (escaped_ascii _ (c.plain_end-end.ensures.next lt));
      escaped_query = rw c.in_ok-push_escape.ensures (byte_printed _ _ bytes c.plain_end-end.result lt ran);
    }
