use Rattle.std.proofs.Common.{◌||◌, sym, ap, subst}
use Rattle.std.specs.List.{AllByRecursion, list_any}
use Rattle.dtdl_terms.specs.TermViews.{kind_term}
use Rattle.model_life.specs.Models.{is_component}
use Rattle.model_life.specs.Machinery.Keeping.{HasText}
use Rattle.model_life.proofs.Linking.{all_named}
use Rattle.model_life.proofs.users.unlink.Goals as goal

pub take_parents-requires : goal.take_parents-requires
take_parents-requires c =
    subst (AllByRecursion (HasText c.args.records.now)) (sym c.as_slice.ensures)
    (all_named (HasText c.args.records.now) c.args.interface.now.parents (λ t e. c.requires t (ap (λ b. b || list_any (λ k. is_component t (kind_term k.kind)) c.args.interface.now.contents) e)))
