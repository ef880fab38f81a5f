use Rattle.std.proofs.Common.{◌≡◌, ◌+◌, ◌||◌, take, cond, None, sym, ap, ◌∙◌}
use Rattle.std.specs.Option.{option_copied}
use Rattle.dt_base.specs.names.Grammar.{Identifier, id_eq}
use Rattle.dtdl_terms.specs.declared.interface.Interface.{Interface}
use Rattle.model_life.proofs.resolution.Families.{stands}
use Rattle.model_life.specs.sets.Changing.{is_one_of}
use Rattle.model_life.specs.Machinery.Keeping.{user_at}
use Rattle.model_life.proofs.Using.{any_next}
use Rattle.model_life.proofs.Linking.{unlinked_step, unlinked_over}
use Rattle.model_life.proofs.users.unlink_all.Goals.{in-Some, in_default}
use Rattle.model_life.proofs.users.unlink_all.Goals as goal

pub unlink-requires : goal.unlink-requires
unlink-requires c t used =
    let i : Interface = c.in-Some.interface.now in
    c.requires.texts i t (stands c.args.set.now c.id-item.result i (sym c.get.ensures ∙ ap option_copied c.in-Some.is)) used

pub ids-preserved : goal.ids-preserved
ids-preserved c t u =
    let id : Identifier = c.id-item.result in
    let last : cond (is_one_of (take c.ids.id-index c.args.ids.now) u || id_eq u c.id-item.result) None (user_at t u c.args.users.now) ≡ cond (is_one_of (take (c.ids.id-index + 1) c.args.ids.now) u) None (user_at t u c.args.users.now) =
    ap (λ b. cond b None (user_at t u c.args.users.now)) (sym (any_next (id_eq u) c.args.ids.now c.ids.id-index c.id-item.result c.ids-test.true c.id-item.is)) in
    elim c.match-get.branch [
      | in-Some w ↦
          ap (user_at t u) w.users-is
          ∙ unlinked_step c.args.set.now id w.in-Some.interface.now (sym c.get.ensures ∙ ap option_copied w.in-Some.is) c.args.users.now c.ids.users w.unlink.new.users (λ user. is_one_of (take c.ids.id-index c.args.ids.now) user) c.requires.within c.ids.invariant w.unlink.ensures t u
          ∙ last
      | in_default w ↦
          ap (user_at t u) w.users-is
          ∙ unlinked_over c.args.set.now id (sym c.get.ensures ∙ ap option_copied w.in_default.is) c.args.users.now c.ids.users (λ user. is_one_of (take c.ids.id-index c.args.ids.now) user) c.requires.within c.ids.invariant t u
          ∙ last
    ]
