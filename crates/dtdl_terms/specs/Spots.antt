-- The pointers to places of an interface.
use Rattle.std.specs.Prelude.{ℕ, List, Bool, true, false, ◌++◌, codes, decimal}
use Rattle.dtdl_terms.specs.declared.spot.Spot.{Spot}
use Rattle.dtdl_terms.specs.declared.spot.Spot.TheVariants as spots

-- the pointer from the interface on; `as_text` says that `extends` is a text alone, and no list
abbrev pub spot_text : Bool → Spot → List ℕ
spot_text as_text spots.Whole = codes ""
spot_text as_text spots.Id = codes "/@id"
spot_text as_text spots.Parents = codes "/extends"
spot_text true (spots.Parent k) = codes "/extends"
spot_text false (spots.Parent k) = codes "/extends/" ++ decimal k
spot_text as_text (spots.ContentSchema k) = codes "/contents/" ++ decimal k ++ codes "/schema"
