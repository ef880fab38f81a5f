use Rattle.std.proofs.Common.{Some, cond, is_eq, ap, ◌∙◌}
use Rattle.std.specs.Ordering.{nat_cmp}
use Rattle.std.specs.Cmp.Lexicographic.{slice_cmp}
use Rattle.model_life.specs.resolution.Machinery.Families.{content_at, declared_by}
use Rattle.model_life.proofs.resolution.Declared.{contents_keyed, contents_put}
use Rattle.model_life.proofs.resolution.contents.Contents.add.Goals as goal

pub invariant_of-self-2 : goal.invariant_of-self-2
invariant_of-self-2 c = (
  c.insert.ensures.ordered,
  contents_keyed c.self.inside.by_name.entries c.insert.new.self.entries c.as_str.result (c.args.from, c.args.content) c.in_ok-insert.ensures.entries c.as_str.ensures.same c.self.invariant.1,
)

pub returns : goal.returns
returns c name =
    contents_put c.self.inside.by_name.entries c.insert.new.self.entries c.as_str.result (c.args.from, c.args.content) c.in_ok-insert.ensures.entries c.as_str.ensures.same c.self.invariant.1 name
    ∙ ap (λ rs. cond (is_eq (slice_cmp nat_cmp name c.args.content.now.name)) (Some (declared_by c.args.from.now c.args.content.now)) (content_at name rs)) c.self.view_is
