use Rattle.std.proofs.Common.{sym, ap, subst, Some}
use Rattle.json_tree.specs.View.{members_view}
use Rattle.dtdl_terms.specs.Terms.{KindTerm}
use Rattle.dtdl_terms.specs.declared.content.ContentKind as kinds
use Rattle.dtdl_terms.proofs.TermViews.{term-Command}
use Rattle.local_rules.specs.declared.role.Position.TheVariants as position
use Rattle.local_rules.specs.Declarations.{AreKind}
use Rattle.local_rules.specs.Typed.{type_of_kind}
use Rattle.model_read.proofs.kinds.push_command.Goals as goal

pub returns : goal.returns
returns c =
    let seen = term-Command c.in-Ok.request c.in-Ok-optional_payload.response in record {
      kind = kinds.Command c.in-Ok.request c.in-Ok-optional_payload.response;
      items = c.in_ok-push.ensures.items;
      are = subst (λ (k : KindTerm). AreKind position.Content k (members_view c.args.members.now)) (sym seen) (c.in-Ok.ensures, c.in-Ok-optional_payload.ensures);
      named = sym (ap (λ (k : KindTerm). Some (type_of_kind k)) seen);
    }
