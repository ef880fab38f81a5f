use Rattle.std.proofs.Common.{sym, ◌∙◌}
use Rattle.graph_routes.proofs.Pieces.{second_between}
use Rattle.graph_routes.proofs.parts.second_part.Goals as goal

pub returns : goal.returns
returns c = λ r parts m. second_between r parts c.args.path.now m ∙ sym c.piece.ensures
