use Rattle.std.proofs.Common.{◌≡◌, sym, ◌∙◌, true, false}
use Rattle.json_tree.specs.View.{view}
use Rattle.twin_value.proofs.Bodies.{link_result}
use Rattle.twin_value.proofs.link.read_rel.Goals as goal

pub returns : goal.returns
returns c =
    link_result c.args.resolved.now (view c.args.tree.now) (λ n. let e : false ≡ true = sym c.if-names_none.false ∙ c.names_none.ensures.1 n in cc) c.args.source.now c.args.id.now c.link_by-read.result
    (rw (c.in_ok-library.ensures, c.link_of-link.ensures, c.as_slice.ensures) at c.link_by-read.ensures)
