use Rattle.std.proofs.Common.{cond, ◌||◌, ◌&&◌, Some, sym, ap, ◌∙◌, subst}
use Rattle.std.specs.List.{AllByRecursion, list_any}
use Rattle.std.proofs.lemmas.Result.{on_ok_weaker}
use Rattle.dt_base.specs.names.Grammar.{id_eq}
use Rattle.dtdl_terms.specs.TermViews.{kind_term}
use Rattle.model_life.specs.Models.{is_component}
use Rattle.model_life.specs.Machinery.Keeping.{HasText, user_at}
use Rattle.model_life.proofs.Using.{one_more}
use Rattle.model_life.proofs.Linking.{all_named}
use Rattle.model_life.proofs.users.link.Goals as goal

pub add_parents-requires : goal.add_parents-requires
add_parents-requires c =
    subst (AllByRecursion (HasText c.args.records.now)) (sym c.as_slice.ensures)
    (all_named (HasText c.args.records.now) c.args.interface.now.parents (λ t e. c.requires t (ap (λ b. b || list_any (λ k. is_component t (kind_term k.kind)) c.args.interface.now.contents) e)))

pub returns-clause-ok : goal.returns-clause-ok
returns-clause-ok c =
    on_ok_weaker c.add_components.result
    (λ put t u.
    one_more (list_any (id_eq t) c.args.interface.now.parents) (list_any (λ k. is_component t (kind_term k.kind)) c.args.interface.now.contents) (id_eq u c.args.interface.now.id) (Some tt) (user_at t u c.args.users.now) (user_at t u c.add_parents.new.users) (user_at t u c.add_components.new.users)
    (c.in_ok-add_parents.ensures.ok t u ∙ ap (λ ps. cond (list_any (id_eq t) ps && id_eq u c.args.interface.now.id) (Some tt) (user_at t u c.args.users.now)) c.as_slice.ensures)
    (put t u ∙ ap (λ ks. cond (list_any (λ k. is_component t (kind_term k.kind)) ks && id_eq u c.args.interface.now.id) (Some tt) (user_at t u c.add_parents.new.users)) c.as_slice-2.ensures))
    c.add_components.ensures.ok
