use Rattle.std.proofs.Common.{sym, ◌∙◌}
use Rattle.graph_routes.proofs.Pieces.{first_between}
use Rattle.graph_routes.proofs.parts.first_part.Goals as goal

pub returns : goal.returns
returns c = λ r parts m. first_between r parts c.args.path.now m ∙ sym c.piece.ensures
