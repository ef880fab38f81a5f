use Rattle.std.proofs.Common.{◌≡◌, ◌+◌, ◌∷◌, false, drop, None, Some, sym, ap, ◌∙◌, subst}
use Rattle.std.specs.Option.{option_copied}
use Rattle.dt_base.specs.names.Grammar.{Identifier, id_eq}
use Rattle.dtdl_terms.specs.Sets.{interface_at}
use Rattle.dtdl_terms.specs.declared.interface.Interface.{Interface}
use Rattle.model_life.proofs.resolution.Families.{stands}
use Rattle.model_life.specs.sets.Changing.{is_one_of}
use Rattle.model_life.specs.Machinery.Keeping.{UsersAreWithin, user_at, use_of}
use Rattle.model_life.proofs.Using.{drop_next, not_there}
use Rattle.model_life.proofs.Linking.{others_apart, within_step, linked_step, linked_over}
use Rattle.model_life.proofs.users.link_all.Goals.{in-Some+in_ok-link, in_default}
use Rattle.model_life.proofs.users.link_all.Goals as goal

pub link-requires : goal.link-requires
link-requires c t used =
    let i : Interface = c.in-Some.interface.now in
    c.requires.texts i t (stands c.args.set.now c.id-item.result i (sym c.get.ensures ∙ ap option_copied c.in-Some.is)) used

pub returns-in_err-link-clause-within : goal.returns-in_err-link-clause-within
returns-in_err-link-clause-within c =
    within_step c.args.set.now c.id-item.result c.in-Some.interface.now (sym c.get.ensures ∙ ap option_copied c.in-Some.is) c.ids.users c.link.new.users c.ids.invariant.within c.link.ensures.others

pub returns-in_err-link-clause-others : goal.returns-in_err-link-clause-others
returns-in_err-link-clause-others c used user off =
    c.link.ensures.others used user
    (others_apart c.args.set.now c.id-item.result c.in-Some.interface.now (sym c.get.ensures ∙ ap option_copied c.in-Some.is) used user (not_there (id_eq user) c.args.ids.now c.ids.id-index c.id-item.result c.ids-test.true c.id-item.is off))
    ∙ c.ids.invariant.others used user off

pub ids-preserved : goal.ids-preserved
ids-preserved c =
    let id : Identifier = c.id-item.result in
    let next : drop c.ids.id-index c.args.ids.now ≡ c.id-item.result ∷ drop (c.ids.id-index + 1) c.args.ids.now = drop_next c.args.ids.now c.ids.id-index c.id-item.result c.ids-test.true c.id-item.is in
    let so_far : (t u : Identifier) → is_one_of (c.id-item.result ∷ drop (c.ids.id-index + 1) c.args.ids.now) u ≡ false → user_at t u c.ids.users ≡ use_of t (interface_at u c.args.set.now) =
    λ t u off. c.ids.invariant.linked t u (ap (λ xs. is_one_of xs u) next ∙ off) in
    elim c.match-get.branch [
      | in-Some+in_ok-link w ↦
          let i : Interface = w.in-Some.interface.now in
          let found : interface_at c.id-item.result c.args.set.now ≡ Some i = sym c.get.ensures ∙ ap option_copied w.in-Some.is in
          record {
            linked = λ t u off. ap (user_at t u) w.users-is
                ∙ linked_step c.args.set.now id i found c.ids.users w.link.new.users (drop (c.ids.id-index + 1) c.args.ids.now) c.ids.invariant.within w.in_ok-link.ensures.ok so_far t u off;
            within = subst (UsersAreWithin c.args.set.now) (sym w.users-is) (within_step c.args.set.now id i found c.ids.users w.link.new.users c.ids.invariant.within w.link.ensures.others);
            others = λ t u off. ap (user_at t u) w.users-is
                ∙ w.link.ensures.others t u (others_apart c.args.set.now id i found t u (not_there (id_eq u) c.args.ids.now c.ids.id-index id c.ids-test.true c.id-item.is off))
                ∙ c.ids.invariant.others t u off;
          }
      | in_default w ↦
          let none : interface_at c.id-item.result c.args.set.now ≡ None = sym c.get.ensures ∙ ap option_copied w.in_default.is in
          record {
            linked = λ t u off. ap (user_at t u) w.users-is ∙ linked_over c.args.set.now id none c.ids.users (drop (c.ids.id-index + 1) c.args.ids.now) c.ids.invariant.within so_far t u off;
            within = subst (UsersAreWithin c.args.set.now) (sym w.users-is) c.ids.invariant.within;
            others = λ t u off. ap (user_at t u) w.users-is ∙ c.ids.invariant.others t u off;
          }
    ]
