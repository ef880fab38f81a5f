use Rattle.std.proofs.Common.{◌∙◌, sym, subst}
use Rattle.std.specs.List.{AllByRecursion}
use Rattle.dtdl_terms.specs.Distinct.{HasDeclaration}
use Rattle.dtdl_terms.specs.declared.uploaded.Uploaded.{Uploaded}
use Rattle.extend_resolve.specs.Breaches.{IsSound}
use Rattle.model_life.specs.Models.{interfaces_of, with_new_models}
use Rattle.model_life.specs.Refusals.{AreNew}
use Rattle.model_life.specs.Sums.{AreWithinLimits}
use Rattle.std.proofs.Common.{List}
use Rattle.graph_machine.proofs.Kept.{all_declared}
use Rattle.graph_machine.proofs.growing.add.Goals as goal

pub add-requires : goal.add-requires
add-requires c = subst (AllByRecursion (λ (u : Uploaded). HasDeclaration u.interface)) (sym c.in_ok-copies.ensures) (all_declared c.args.new.now c.requires.each)

pub returns-in-Ok-clause-judged : goal.returns-in-Ok-clause-judged
returns-in-Ok-clause-judged c = λ s same.
    subst (λ (us : List Uploaded). AreNew c.args.models.now us × IsSound (interfaces_of c.args.models.now) us × AreWithinLimits (with_new_models us c.args.models.now)) c.in_ok-copies.ensures c.in-Ok.ensures.end

pub returns-in_ok-refused-in-Err-clause-judged : goal.returns-in_ok-refused-in-Err-clause-judged
returns-in_ok-refused-in-Err-clause-judged c = λ s same. c.in_ok-refused-in-Err.ensures s (same ∙ sym c.in-Err.ensures.err)
