use Rattle.std.proofs.Common.{◌≡◌, [], ◌∷◌, None, sym, ap, ◌∙◌, subst}
use Rattle.dtdl_terms.specs.Sets.{interface_at}
use Rattle.model_life.specs.sets.Changing.{AreFree}
use Rattle.model_life.specs.Models.{interfaces_of, first_user}
use Rattle.model_life.proofs.Seen.{seen_all, seen_none, seen_some, found_none, found_some, copied_is, copied_not}
use Rattle.model_life.proofs.Least.{unused_free}
use Rattle.model_life.proofs.models.Models.drop_model.Goals as goal

pub returns-then-is_none-clause-end : goal.returns-then-is_none-clause-end
returns-then-is_none-clause-end c =
    seen_none c.args.id.now c.self.inside.set c.self.inside.records c.args.self.now c.self.view_is
    (found_none c.get.result (interface_at c.args.id.now c.self.inside.set) c.is_none.result c.is_none.ensures c.if-is_none.true c.get.ensures)

pub returns-then-is_some-clause-end : goal.returns-then-is_some-clause-end
returns-then-is_some-clause-end c = (
  seen_some c.args.id.now c.self.inside.set c.self.inside.records c.args.self.now c.self.view_is
      (found_some c.get.result (interface_at c.args.id.now c.self.inside.set) c.is_none.result c.is_none.ensures c.if-is_none.false c.get.ensures),
  copied_is c.used_by.result (first_user c.args.id.now c.args.self.now) c.used_by.ensures (sym c.is_some.ensures ∙ c.if-is_some.true),
)

pub take_back-requires-clause-free : goal.take_back-requires-clause-free
take_back-requires-clause-free c =
    let none : first_user c.args.id.now c.args.self.now ≡ None = copied_not c.used_by.result (first_user c.args.id.now c.args.self.now) c.used_by.ensures (sym c.is_some.ensures ∙ c.if-is_some.false) in
    let free : AreFree c.self.inside.set (c.args.id.now ∷ []) = unused_free c.self.inside.set c.self.inside.records c.args.id.now c.self.invariant.ordered (ap (first_user c.args.id.now) c.self.view_is ∙ none) in
    subst (AreFree (interfaces_of c.args.self.now)) (sym c.from_ref.ensures.value)
    (subst (λ s. AreFree s (c.args.id.now ∷ [])) (sym (seen_all c.self.inside.set c.self.inside.records) ∙ ap interfaces_of c.self.view_is) free)

pub returns-clause-end : goal.returns-clause-end
returns-clause-end c = (
  seen_some c.args.id.now c.self.inside.set c.self.inside.records c.args.self.now c.self.view_is
      (found_some c.get.result (interface_at c.args.id.now c.self.inside.set) c.is_none.result c.is_none.ensures c.if-is_none.false c.get.ensures),
  copied_not c.used_by.result (first_user c.args.id.now c.args.self.now) c.used_by.ensures (sym c.is_some.ensures ∙ c.if-is_some.false),
)
