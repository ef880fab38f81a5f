use Rattle.std.proofs.Common.{◌≡◌, ◌++◌, ◌<◌, length, take, string_bytes, sym, ◌∙◌, arith}
use Rattle.std.proofs.lemmas.List.{append-nil}
use Rattle.std.proofs.Math.Seq.{take-length}
use Rattle.std.proofs.lemmas.Str.{IsCharBoundary-start, IsCharBoundary-after_ascii}
use Rattle.json_tree.specs.Pointers.{token_text}
use Rattle.json_tree.proofs.FirstKeys.{run_written, byte_written, slash_ascii}
use Rattle.json_tree.proofs.pointers.push_key.Goals as goal

pub runs-init : goal.runs-init
runs-init c = record { boundary = IsCharBoundary-start _ c.as_bytes-bytes.ensures.utf8; escaped = sym (append-nil _) }

pub returns-then-end-bytes : goal.returns-then-end-bytes
returns-then-end-bytes c =
    let bytes = c.as_bytes-bytes.result.now in
    let ran : string_bytes c.push_str.new.self ≡ string_bytes c.args.out.now ++ token_text (take c.bare_end-end.result bytes) =
    rw (c.in_ok-push_str.ensures.bytes, c.range.ensures.value, sym c.as_bytes-bytes.ensures.value)
    (run_written _ _ bytes c.runs.at c.bare_end-end.result c.bare_end-end.ensures.forward c.bare_end-end.ensures.within c.bare_end-end.ensures.bare c.runs.invariant.escaped) in
    let whole : take c.bare_end-end.result bytes ≡ c.args.key.now = rw c.if-end-bytes.true (take-length bytes ∙ c.as_bytes-bytes.ensures.value) in
    rw whole at ran

pub runs-preserved : goal.runs-preserved
runs-preserved c =
    let bytes = c.as_bytes-bytes.result.now in
    let le = c.bare_end-end.ensures.within in
    let other = c.if-end-bytes.false in
    let lt : c.bare_end-end.result < length bytes = grind arith in
    let ran : string_bytes c.push_str.new.self ≡ string_bytes c.args.out.now ++ token_text (take c.bare_end-end.result bytes) =
    rw (c.in_ok-push_str.ensures.bytes, c.range.ensures.value, sym c.as_bytes-bytes.ensures.value)
    (run_written _ _ bytes c.runs.at c.bare_end-end.result c.bare_end-end.ensures.forward le c.bare_end-end.ensures.bare c.runs.invariant.escaped) in
    record {
      boundary = IsCharBoundary-after_ascii bytes c.bare_end-end.result c.as_bytes-bytes.ensures.utf8 lt (slash_ascii _ (c.bare_end-end.ensures.next lt));
      escaped = rw (c.in_ok-push_str-2.ensures.bytes, c.escape_of.ensures) (byte_written _ _ bytes c.bare_end-end.result lt ran);
    }
