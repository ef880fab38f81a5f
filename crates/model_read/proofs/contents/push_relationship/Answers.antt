use Rattle.std.proofs.Common.{sym, ap, subst, Some}
use Rattle.json_tree.specs.View.{members_view, elements_view}
use Rattle.dtdl_terms.specs.Terms.{KindTerm}
use Rattle.dtdl_terms.specs.declared.content.ContentKind as kinds
use Rattle.dtdl_terms.proofs.TermViews.{term-Relationship}
use Rattle.local_rules.specs.declared.role.Position.TheVariants as position
use Rattle.local_rules.specs.Declarations.{AreKind}
use Rattle.local_rules.specs.Typed.{type_of_kind}
use Rattle.model_read.proofs.contents.push_relationship.Goals as goal

pub returns : goal.returns
returns c =
    let seen = term-Relationship c.in-Ok.target c.in-Ok-properties_of.properties c.max_at-max.result c.is_writable-writable.result in record {
      kind = kinds.Relationship c.in-Ok.target c.in-Ok-properties_of.properties c.max_at-max.result c.is_writable-writable.result;
      items = c.in_ok-push.ensures.items;
      are = subst (λ (k : KindTerm). AreKind position.Content k (members_view c.args.members.now)) (sym seen) (
        c.in-Ok.ensures,
        (elements_view c.entries_at-entries.result.now, c.entries_at-entries.ensures, c.in-Ok-properties_of.ensures),
        c.max_at-max.ensures,
        c.is_writable-writable.ensures,
      );
      named = sym (ap (λ (k : KindTerm). Some (type_of_kind k)) seen);
    }
