use Rattle.std.proofs.Common.{sym, ap, subst, Some}
use Rattle.json_tree.specs.View.{members_view}
use Rattle.dtdl_terms.specs.Terms.{KindTerm}
use Rattle.dtdl_terms.specs.declared.content.ContentKind as kinds
use Rattle.dtdl_terms.proofs.TermViews.{term-Telemetry}
use Rattle.local_rules.specs.declared.role.Position.TheVariants as position
use Rattle.local_rules.specs.Declarations.{AreKind}
use Rattle.local_rules.specs.Typed.{type_of_kind}
use Rattle.model_read.proofs.kinds.push_telemetry.Goals as goal

pub returns : goal.returns
returns c =
    let seen = term-Telemetry c.in-Ok-schema_at.schema c.in-Ok.semantic c.in-Ok.unit in record {
      kind = kinds.Telemetry c.in-Ok-schema_at.schema c.in-Ok.semantic c.in-Ok.unit;
      items = c.in_ok-push.ensures.items;
      are = subst (λ (k : KindTerm). AreKind position.Content k (members_view c.args.members.now)) (sym seen) (c.in-Ok-schema_at.ensures, c.in-Ok.ensures.semantic, c.in-Ok.ensures.unit);
      named = sym (ap (λ (k : KindTerm). Some (type_of_kind k)) seen);
    }
