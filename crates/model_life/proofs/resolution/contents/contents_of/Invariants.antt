use Rattle.std.proofs.Common.{◌↔◌}
use Rattle.dtdl_terms.specs.declared.resolved.ResolvedContent.{ResolvedContent}
use Rattle.model_life.specs.resolution.Machinery.Families.{HasContent, IsDeclaredByFirst}
use Rattle.model_life.proofs.resolution.contents.contents_of.Given as goal

abbrev pub invariant-interfaces : goal.invariant-interfaces
invariant-interfaces l = (r : ResolvedContent) → HasContent l.contents r ↔ IsDeclaredByFirst l.interfaces l.interface-index r
