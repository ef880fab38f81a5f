use Rattle.std.proofs.Common.{sym, subst}
use Rattle.extend_resolve.specs.Machinery.Links.{AreLinksWithin}
use Rattle.extend_resolve.proofs.Worlds.{world_within}
use Rattle.extend_resolve.proofs.judge.Judge.new.Goals as goal

pub depths-requires : goal.depths-requires
depths-requires c = record { within = subst AreLinksWithin (sym c.as_slice-2.ensures.value) (world_within c.in_ok-world.ensures) }
