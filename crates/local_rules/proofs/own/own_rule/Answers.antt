use Rattle.std.proofs.Common.{inr, ap, ◌∙◌}
use Rattle.json_tree.specs.View.{view}
use Rattle.local_rules.specs.Kinds.{is_of_kind}
use Rattle.local_rules.specs.declared.role.Kind.{Kind}
use Rattle.local_rules.proofs.Firsts.{own}
use Rattle.local_rules.proofs.own.own_rule.Goals as goal

pub returns : goal.returns
returns c = own c.args.role (view c.args.tree.now) c.further_rule.result (
    inr (
      λ wrong.
          let is = c.is_of_kind.ensures ∙ ap (λ (k : Kind). is_of_kind k (view c.args.tree.now)) c.kind_of.ensures ∙ wrong in
          let isnt = c.if-not-is_of_kind.false in
          cc,
      c.further_rule.ensures,
    )
    )
