use Rattle.std.proofs.Common.{sym, ap, subst, Some}
use Rattle.json_tree.specs.View.{members_view}
use Rattle.dtdl_terms.specs.Terms.{KindTerm}
use Rattle.dtdl_terms.specs.declared.content.ContentKind as kinds
use Rattle.dtdl_terms.proofs.TermViews.{term-Property}
use Rattle.local_rules.specs.Declarations.{AreKind}
use Rattle.local_rules.specs.Typed.{type_of_kind}
use Rattle.model_read.proofs.kinds.push_property.Goals as goal

pub returns : goal.returns
returns c =
    let seen = term-Property c.in-Ok-schema_at.schema c.in-Ok.semantic c.in-Ok.unit c.is_writable-writable.result in record {
      kind = kinds.Property c.in-Ok-schema_at.schema c.in-Ok.semantic c.in-Ok.unit c.is_writable-writable.result;
      items = c.in_ok-push.ensures.items;
      are = subst (λ (k : KindTerm). AreKind c.args.position k (members_view c.args.members.now)) (sym seen) (c.in-Ok-schema_at.ensures, c.in-Ok.ensures.semantic, c.in-Ok.ensures.unit, c.is_writable-writable.ensures);
      named = sym (ap (λ (k : KindTerm). Some (type_of_kind k)) seen);
    }
