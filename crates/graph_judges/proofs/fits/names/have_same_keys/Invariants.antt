use Rattle.std.proofs.Common.{◌≡◌, ◌-◌, ◌≤◌, length, map, take}
use Rattle.graph_judges.proofs.fits.names.have_same_keys.Given as goal

-- the keys so far are the same
abbrev pub invariant-members : goal.invariant-members
invariant-members l = (l.at ≤ length l.a) × (take l.at (map (λ m. m.key) l.a) ≡ take l.at (map (λ m. m.key) l.b))

abbrev pub decreases-members : goal.decreases-members
decreases-members l = length l.a - l.at
