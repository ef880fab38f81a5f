-- Sets of interfaces to which others come, or from which some go.
use Rattle.std.specs.Prelude.{◌≡◌, ◌⊎◌, ℕ, List, [], ◌∷◌, Bool, true, not, map, Some}
use Rattle.std.specs.List.{filter, list_any}
use Rattle.dt_base.specs.names.Grammar.{Identifier, dtmi_text, id_eq}
use Rattle.dtdl_terms.specs.Distinct.{AreDistinct}
use Rattle.dtdl_terms.specs.Sets.{interface_at, with_interface}
use Rattle.dtdl_terms.specs.declared.interface.Interface.{Interface}
use Rattle.dtdl_terms.specs.declared.uploaded.Uploaded.{Uploaded}
use Rattle.extend_resolve.specs.SetRules.{NamesParent, NamesComponent}

-- the set with the interfaces of the uploads, each at its place
abbrev pub with_uploads : List Uploaded → List Interface → List Interface
with_uploads [] set = set
with_uploads (u ∷ us) set = with_uploads us (with_interface u.interface set)

-- the set without the interfaces of these identifiers
abbrev pub is_one_of : List Identifier → Identifier → Bool
is_one_of ids id = list_any (id_eq id) ids

abbrev pub without_interfaces : List Identifier → List Interface → List Interface
without_interfaces ids set = filter (λ i. not (is_one_of ids i.id)) set

-- Two lists have the same interface under each identifier.
abbrev pub HaveTheSame : List Interface → List Interface → Type 0
HaveTheSame a b = (p : Identifier) → interface_at p a ≡ interface_at p b

-- No two interfaces have one identifier.
abbrev pub HaveDistinctIds : List Interface → Type 0
HaveDistinctIds is = AreDistinct (map (λ i. dtmi_text i.id) is)

-- Only interfaces of these identifiers name one of them as a parent, or as the interface of a component.
abbrev pub AreFree : List Interface → List Identifier → Type 0
AreFree set ids = (i : Interface) (k : ℕ) (p : Identifier) → interface_at i.id set ≡ Some i → NamesParent i k p ⊎ NamesComponent i k p
    → is_one_of ids p ≡ true → is_one_of ids i.id ≡ true
