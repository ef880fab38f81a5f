use Rattle.std.proofs.Common.{◌≡◌, ℕ, ◌+◌, List, sym, ap, ◌∙◌, subst, arith}
use Rattle.std.specs.List.{slice_range, AllByRecursion}
use Rattle.std.specs.Str.{IsCharBoundary}
use Rattle.std.proofs.lemmas.Str.{IsCharBoundary-after_ascii}
use Rattle.json_tree.specs.Pointers.{token_text}
use Rattle.json_tree.specs.Machinery.Tokens.{IsNoSlash}
use Rattle.twin_patch.proofs.Tokens.{PathForward, slash_split, path_forward, path_back, no_token, no_start, path_read}
use Rattle.twin_patch.proofs.paths.path_of.Goals as goal

pub returns-then-bytes-at-ne47 : goal.returns-then-bytes-at-ne47
returns-then-bytes-at-ne47 c = λ path e.
    no_start c.as_bytes-bytes.result.now c.tokens.at c.tokens-test.true c.if-bytes-at-ne47.true c.tokens.invariant.back path (c.as_bytes-bytes.ensures.value ∙ e)

pub range-requires-clause-start_boundary : goal.range-requires-clause-start_boundary
range-requires-clause-start_boundary c = λ _.
    let slash = c.if-bytes-at-ne47.false in
    subst (λ bs. IsCharBoundary bs (c.tokens.at + 1)) c.as_bytes-bytes.ensures.value
    (IsCharBoundary-after_ascii c.as_bytes-bytes.result.now c.tokens.at c.as_bytes-bytes.ensures.utf8 c.tokens-test.true (omega (arith, slash)))

pub key_of-requires : goal.key_of-requires
key_of-requires c =
    rw c.range.ensures.value
    (subst (λ bs. AllByRecursion IsNoSlash (slice_range bs (c.tokens.at + 1) c.end_at-end.result)) c.as_bytes-bytes.ensures.value c.end_at-end.ensures.others)

pub returns-in-None : goal.returns-in-None
returns-in-None c = λ path e.
    let bytes = c.as_bytes-bytes.result.now in
    let at = c.tokens.at in
    let end = c.end_at-end.result in
    let ends = c.end_at-end.ensures in
    let token = slice_range bytes (at + 1) end in
    let same : c.range.result.now ≡ token = c.range.ensures.value ∙ ap (λ bs. slice_range bs (at + 1) end) (sym c.as_bytes-bytes.ensures.value) in
    let none : (key : List ℕ) → c.range.result.now ≡ token_text key → ⊥ = rw c.in-None.is at c.in_ok-key.ensures in
    no_token bytes token at end (slash_split bytes at end c.tokens-test.true c.if-bytes-at-ne47.false ends.forward) ends.others ends.next (λ key is. none key (same ∙ is)) c.tokens.invariant.back path
    (c.as_bytes-bytes.ensures.value ∙ e)

pub tokens-preserved : goal.tokens-preserved
tokens-preserved c =
    let bytes = c.as_bytes-bytes.result.now in
    let at = c.tokens.at in
    let end = c.end_at-end.result in
    let ends = c.end_at-end.ensures in
    let token = slice_range bytes (at + 1) end in
    let same : c.range.result.now ≡ token = c.range.ensures.value ∙ ap (λ bs. slice_range bs (at + 1) end) (sym c.as_bytes-bytes.ensures.value) in
    let is : c.range.result.now ≡ token_text c.in-Some.key = rw c.in-Some.is at c.in_ok-key.ensures in
    let split = slash_split bytes at end c.tokens-test.true c.if-bytes-at-ne47.false ends.forward in
    record {
      forward = subst (λ (p : List (List ℕ)). PathForward bytes p end) (sym c.in_ok-push-in-Some.ensures.items)
          (path_forward bytes token c.in-Some.key c.tokens.path.items at end split (sym same ∙ is) c.tokens.invariant.forward);
      back = path_back bytes token at end split ends.others ends.next c.tokens.invariant.back;
    }

pub returns : goal.returns
returns c = sym c.as_bytes-bytes.ensures.value ∙ path_read c.as_bytes-bytes.result.now c.tokens.path.items c.tokens.at c.tokens-test.false c.tokens.invariant.forward
