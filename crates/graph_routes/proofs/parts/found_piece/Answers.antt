use Rattle.std.proofs.Common.{◌≡◌, ◌<◌, ◌-◌, ◌==◌, ◌∙◌, ℕ, drop, length, slice_get, ap, sym, arith}
use Rattle.std.specs.List.{slice_split}
use Rattle.std.proofs.lemmas.Str.{IsCharBoundary-start, IsCharBoundary-after_ascii}
use Rattle.graph_routes.proofs.Slashes.{boundary_at, found_at, more_at, none_at, slash_at}
use Rattle.graph_routes.proofs.parts.found_piece.Goals as goal

pub pieces-init : goal.pieces-init
pieces-init c =
    let none_behind : c.args.slashes - 0 ≡ c.args.slashes = omega arith in
    record {
      within = omega arith;
      boundary = IsCharBoundary-start _ c.as_bytes-bytes.ensures.utf8;
      same = ap (λ (n : ℕ). slice_get (slice_split (λ b. b == 47) c.as_bytes-bytes.result.now) n) none_behind;
    }

pub returns-then-slash-bytes : goal.returns-then-slash-bytes
returns-then-slash-bytes c =
    let none = none_at c.as_bytes-bytes.result.now c.pieces.start c.next_slash-slash.result c.pieces.counter c.args.slashes c.pieces.invariant.within c.next_slash-slash.ensures.next c.if-slash-bytes.true c.pieces-test.true in
    rw (sym c.as_bytes-bytes.ensures.value) (sym none ∙ c.pieces.invariant.same)

pub pieces-preserved : goal.pieces-preserved
pieces-preserved c =
    let bytes = c.as_bytes-bytes.result.now in
    let within = c.next_slash-slash.ensures.within in
    let other = c.if-slash-bytes.false in
    let lt : c.next_slash-slash.result < length bytes = grind arith in
    let slash = slash_at bytes c.pieces.start c.next_slash-slash.result c.pieces.invariant.within c.next_slash-slash.ensures.next lt in
    let more = more_at bytes c.pieces.start c.next_slash-slash.result c.pieces.counter c.args.slashes c.pieces.invariant.within c.next_slash-slash.ensures.next lt c.pieces-test.true in
    record {
      within = omega (arith, lt);
      boundary = IsCharBoundary-after_ascii bytes c.next_slash-slash.result c.as_bytes-bytes.ensures.utf8 lt (omega (arith, slash));
      same = sym more ∙ c.pieces.invariant.same;
    }

pub range-requires-clause-end_boundary : goal.range-requires-clause-end_boundary
range-requires-clause-end_boundary c = rw (sym c.as_bytes-bytes.ensures.value) (boundary_at c.as_bytes-bytes.result.now c.pieces.start c.next_slash-end.result c.pieces.invariant.within c.next_slash-end.ensures.next c.next_slash-end.ensures.within)

pub returns : goal.returns
returns c =
    let bytes = c.as_bytes-bytes.result.now in
    let all_behind : 0 ≡ c.args.slashes - c.pieces.counter = omega (arith, c.pieces-test.false) in
    let found = found_at bytes c.pieces.start c.next_slash-end.result c.pieces.invariant.within c.next_slash-end.ensures.next c.next_slash-end.ensures.within in
    rw (c.range.ensures.value, sym c.as_bytes-bytes.ensures.value)
    (sym found ∙ ap (λ (n : ℕ). slice_get (slice_split (λ b. b == 47) (drop c.pieces.start bytes)) n) all_behind ∙ c.pieces.invariant.same)
