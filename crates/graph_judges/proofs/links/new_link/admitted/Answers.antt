use Rattle.std.proofs.Common.{◌∙◌, length, sym, ap, subst}
use Rattle.graph_steps.specs.States.{Link, link_text, link_value}
use Rattle.graph_steps.specs.bodies.Kept.{IsKeptLink}
use Rattle.graph_judges.proofs.links.new_link.admitted.Goals as goal

pub returns-in_ok-tree-in-None-clause-judged : goal.returns-in_ok-tree-in-None-clause-judged
returns-in_ok-tree-in-None-clause-judged c = (c.in-None.ensures, c.sized.ensures.link)

pub returns-in_ok-tree-in-None-clause-held : goal.returns-in_ok-tree-in-None-clause-held
returns-in_ok-tree-in-None-clause-held c = record {
  kept = subst IsKeptLink (sym c.sized.ensures.link) c.requires.kept;
  size = c.sized.ensures.bytes ∙ c.in-Some.ensures.0 ∙ ap (λ (l : Link). length (link_text l)) (sym c.sized.ensures.link);
}

pub returns-in_ok-tree-in-None-clause-tree : goal.returns-in_ok-tree-in-None-clause-tree
returns-in_ok-tree-in-None-clause-tree c = c.in_ok-tree-in-None.ensures ∙ ap (λ (l : Link). link_value l) (sym c.sized.ensures.link)
