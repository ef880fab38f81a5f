use Rattle.std.proofs.Common.{◌↔◌, ◌⊎◌}
use Rattle.dtdl_terms.specs.declared.resolved.ResolvedContent.{ResolvedContent}
use Rattle.model_life.specs.resolution.Machinery.Families.{HasContent, IsDeclaredFirst}
use Rattle.model_life.proofs.resolution.contents.add_contents.Given as goal

abbrev pub invariant-contents : goal.invariant-contents
invariant-contents l = (r : ResolvedContent) → HasContent l.contents r ↔ (HasContent l.fn.contents r ⊎ IsDeclaredFirst l.interface l.content-index r)
