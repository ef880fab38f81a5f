use Rattle.std.proofs.Common.{◌≡◌, inl, inr, None, ap, ◌∙◌}
use Rattle.model_life.specs.resolution.Resolving.{entry_at}
use Rattle.model_life.proofs.resolution.Holding.{put_counted}
use Rattle.model_life.proofs.resolution.resolutions.Resolutions.hold.Goals as goal

pub invariant_of-self-2 : goal.invariant_of-self-2
invariant_of-self-2 c =
    let absent : entry_at c.args.key c.make_room-self-inside.new.entries.entries ≡ None =
    elim c.make_room-self-inside.ensures.kept [
      | inl is ↦ ap (entry_at c.args.key) (is ∙ c.self.view_is) ∙ c.requires
      | inr is ↦ ap (entry_at c.args.key) is
    ] in (
      c.insert.ensures.ordered,
      put_counted c.make_room-self-inside.new.entries.entries c.insert.new.self.entries c.args.key c.args.resolved c.make_room-self-inside.result c.contents_of-contents.result c.saturating_add-self-inside.result
          c.insert.ensures.was_ordered absent c.in_ok-before.ensures.entries c.contents_of-contents.ensures c.saturating_add-self-inside.ensures c.make_room-self-inside.ensures.room c.make_room-self-inside.ensures.counted,
    )
