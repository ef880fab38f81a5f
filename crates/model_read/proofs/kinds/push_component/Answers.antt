use Rattle.std.proofs.Common.{sym, ap, subst, Some}
use Rattle.json_tree.specs.View.{members_view}
use Rattle.dtdl_terms.specs.Terms.{KindTerm}
use Rattle.dtdl_terms.specs.declared.content.ContentKind as kinds
use Rattle.dtdl_terms.proofs.TermViews.{term-Component}
use Rattle.local_rules.specs.declared.role.Position.TheVariants as position
use Rattle.local_rules.specs.Declarations.{AreKind}
use Rattle.local_rules.specs.Typed.{type_of_kind}
use Rattle.model_read.proofs.kinds.push_component.Goals as goal

pub returns : goal.returns
returns c =
    let seen = term-Component c.in-Ok.of in record {
      kind = kinds.Component c.in-Ok.of;
      items = c.in_ok-push.ensures.items;
      are = subst (λ (k : KindTerm). AreKind position.Content k (members_view c.args.members.now)) (sym seen) c.in-Ok.ensures;
      named = sym (ap (λ (k : KindTerm). Some (type_of_kind k)) seen);
    }
