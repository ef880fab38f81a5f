use Rattle.std.proofs.Common.{◌≡◌, ◌==◌, [], List, ℕ, None, Option, Bor, slice_get, sym, ap, ◌∙◌}
use Rattle.std.specs.List.{slice_split}
use Rattle.std.specs.Option.{option_map, unwrap_or}
use Rattle.std.proofs.lemmas.Option.{unwrap_or-slice_get}
use Rattle.graph_routes.proofs.parts.piece.Goals as goal

pub returns-in-None : goal.returns-in-None
returns-in-None c =
    let pieces = slice_split (λ b. b == 47) c.args.path.now in
    let none : slice_get pieces c.args.slashes ≡ None = sym c.found_piece.ensures ∙ ap (λ (o : Option (Bor (List ℕ))). option_map (λ p. p.now) o) c.in-None.is in
    sym (ap (λ (o : Option (List ℕ)). unwrap_or o []) none) ∙ unwrap_or-slice_get pieces c.args.slashes []
