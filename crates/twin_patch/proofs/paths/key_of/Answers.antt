use Rattle.std.proofs.Common.{◌≡◌, ◌+◌, ◌++◌, ◌<◌, ◌∷◌, [], length, get_or, string_bytes, sym, ap, ◌∙◌, subst, arith}
use Rattle.std.specs.List.{slice_range, AllByRecursion}
use Rattle.std.specs.Str.{IsCharBoundary}
use Rattle.std.proofs.lemmas.Str.{IsCharBoundary-start, IsCharBoundary-after_ascii}
use Rattle.json_tree.specs.Pointers.{token_text}
use Rattle.json_tree.specs.Machinery.Tokens.{IsNoSlash}
use Rattle.twin_patch.proofs.Tokens.{Forward, run_bare, run_forward, run_back, tilde_split, tilde_last, escape_forward, escape_back, no_escape, no_end, token_read, escape_ascii, escaped_small}
use Rattle.twin_patch.proofs.paths.key_of.Goals as goal

pub runs-init : goal.runs-init
runs-init c = record { boundary = IsCharBoundary-start _ c.as_bytes-bytes.ensures.utf8; forward = λ more e. rw c.new-key.ensures.bytes e; back = λ whole e. (whole, e) }

pub returns-then-end-bytes : goal.returns-then-end-bytes
returns-then-end-bytes c =
    let bytes = c.as_bytes-bytes.result.now in
    let at = c.runs.at in
    let end = c.end_at-end.result in
    let ends = c.end_at-end.ensures in
    let plain : AllByRecursion IsNoSlash bytes = rw c.as_bytes-bytes.ensures.value c.requires in
    let pushed : string_bytes c.push_str.new.self ≡ string_bytes c.runs.key ++ slice_range bytes at end = c.in_ok-push_str.ensures.bytes
    ∙ ap (λ r. string_bytes c.runs.key ++ r) (c.range.ensures.value ∙ ap (λ s. slice_range s at end) (sym c.as_bytes-bytes.ensures.value)) in
    let ran : Forward bytes (string_bytes c.push_str.new.self) end =
    subst (λ k. Forward bytes k end) (sym pushed) (run_forward bytes (string_bytes c.runs.key) at end ends.forward (run_bare bytes at end plain ends.others) c.runs.invariant.forward) in
    let done = c.if-end-bytes.true in
    sym c.as_bytes-bytes.ensures.value ∙ token_read bytes (string_bytes c.push_str.new.self) end (omega (arith, done)) ran ∙ ap token_text (sym c.from_string.ensures)

pub returns-then-end-bytes-2 : goal.returns-then-end-bytes-2
returns-then-end-bytes-2 c = λ key e.
    let bytes = c.as_bytes-bytes.result.now in
    let at = c.runs.at in
    let end = c.end_at-end.result in
    let ends = c.end_at-end.ensures in
    let plain : AllByRecursion IsNoSlash bytes = rw c.as_bytes-bytes.ensures.value c.requires in
    let left = run_back bytes at end ends.forward (run_bare bytes at end plain ends.others) c.runs.invariant.back in
    let last = c.if-end-bytes-2.true in
    let lt : end < length bytes = omega (arith, last) in
    no_end bytes end (tilde_last bytes end last (ends.next lt)) left key (c.as_bytes-bytes.ensures.value ∙ e)

pub returns-in-None : goal.returns-in-None
returns-in-None c = λ key e.
    let bytes = c.as_bytes-bytes.result.now in
    let at = c.runs.at in
    let end = c.end_at-end.result in
    let ends = c.end_at-end.ensures in
    let plain : AllByRecursion IsNoSlash bytes = rw c.as_bytes-bytes.ensures.value c.requires in
    let left = run_back bytes at end ends.forward (run_bare bytes at end plain ends.others) c.runs.invariant.back in
    let within = ends.within in
    let other = c.if-end-bytes.false in
    let more = c.if-end-bytes-2.false in
    let lt : end < length bytes = grind arith in
    let lt2 : end + 1 < length bytes = grind arith in
    no_escape bytes end (get_or bytes (end + 1) 0) (tilde_split bytes end lt2 (ends.next lt)) c.in-None.ensures left key (c.as_bytes-bytes.ensures.value ∙ e)

pub runs-preserved : goal.runs-preserved
runs-preserved c =
    let bytes = c.as_bytes-bytes.result.now in
    let at = c.runs.at in
    let end = c.end_at-end.result in
    let ends = c.end_at-end.ensures in
    let plain : AllByRecursion IsNoSlash bytes = rw c.as_bytes-bytes.ensures.value c.requires in
    let pushed : string_bytes c.push_str.new.self ≡ string_bytes c.runs.key ++ slice_range bytes at end = c.in_ok-push_str.ensures.bytes
    ∙ ap (λ r. string_bytes c.runs.key ++ r) (c.range.ensures.value ∙ ap (λ s. slice_range s at end) (sym c.as_bytes-bytes.ensures.value)) in
    let bare = run_bare bytes at end plain ends.others in
    let ran : Forward bytes (string_bytes c.push_str.new.self) end =
    subst (λ k. Forward bytes k end) (sym pushed) (run_forward bytes (string_bytes c.runs.key) at end ends.forward bare c.runs.invariant.forward) in
    let left = run_back bytes at end ends.forward bare c.runs.invariant.back in
    let within = ends.within in
    let other = c.if-end-bytes.false in
    let more = c.if-end-bytes-2.false in
    let lt : end < length bytes = grind arith in
    let lt2 : end + 1 < length bytes = grind arith in
    let byte = get_or bytes (end + 1) 0 in
    let split = tilde_split bytes end lt2 (ends.next lt) in
    let found = c.in-Some.ensures in
    let two : (end + 1) + 1 ≡ end + 2 = omega arith in
    let added : string_bytes c.push.new.self ≡ string_bytes c.push_str.new.self ++ c.in-Some.character ∷ [] = c.in_ok-push-in-Some.ensures.bytes
    ∙ ap (λ r. string_bytes c.push_str.new.self ++ r) (c.in_ok-push-in-Some.ensures.ascii (escaped_small c.in-Some.character found.0)) in
    record {
      boundary = subst (λ n. IsCharBoundary bytes n) two (IsCharBoundary-after_ascii bytes (end + 1) c.as_bytes-bytes.ensures.utf8 lt2 (escape_ascii c.in-Some.character byte found.0 found.1));
      forward = subst (λ k. Forward bytes k (end + 2)) (sym added) (escape_forward bytes (string_bytes c.push_str.new.self) end c.in-Some.character byte split found.1 ran);
      back = escape_back bytes end byte split left;
    }

pub returns : goal.returns
returns c =
    let bytes = c.as_bytes-bytes.result.now in
    sym c.as_bytes-bytes.ensures.value ∙ token_read bytes (string_bytes c.runs.key) c.runs.at c.runs-test.false c.runs.invariant.forward ∙ ap token_text (sym c.from_string-2.ensures)
