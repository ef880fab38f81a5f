use Rattle.std.proofs.Common.{◌<◌, ◌++◌, string_bytes, sym, ap, ◌∙◌, arith}
use Rattle.query_text.specs.Machinery.Pieces.{pending, load}
use Rattle.query_text.proofs.Waiting.{pending_push, load_push}
use Rattle.query_text.proofs.conditions.push_condition.Goals as goal

pub pieces-smaller : goal.pieces-smaller
pieces-smaller c =
    let whole = ap load c.in-Some.ensures.items ∙ load_push c.pop.new.self.items c.in-Some.piece in
    let lighter = c.in_ok-push_piece.ensures.load in
    let smaller : load c.push_piece.new.pieces.items < load c.pieces.pieces.items = omega (arith, whole, lighter) in
    smaller

pub pieces-preserved : goal.pieces-preserved
pieces-preserved c =
    c.in_ok-push_piece.ensures.pending
    ∙ ap (λ l. string_bytes c.pieces.out ++ l) (sym (ap pending c.in-Some.ensures.items ∙ pending_push c.pop.new.self.items c.in-Some.piece))
    ∙ c.pieces.invariant
