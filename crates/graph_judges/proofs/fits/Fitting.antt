-- A twin fits a model exactly where what is printed of it has no breach, and what is read back of that has values and components
-- of the same names.
use Rattle.std.proofs.Common.{◌≡◌}
use Rattle.std.specs.Prelude.{IsTrue}
use Rattle.json_decimal.specs.Number.{Number}
use Rattle.json_tree.specs.Values.{text, object, Members, no_members, member}
use Rattle.std.proofs.Common.{codes}
use Rattle.json_tree.specs.Members.{members_in}
use Rattle.dt_base.specs.names.Grammar.{dtmi_text}
use Rattle.dtdl_terms.specs.declared.interface.Interface.{Interface}
use Rattle.dtdl_terms.specs.declared.resolved.Resolved.{Resolved}
use Rattle.twin_patch.specs.Objects.{sorted_members}
use Rattle.twin_value.specs.Breaches.{HasNoBreach, IsTwinBreach, library_of, twin_role_of}
use Rattle.twin_value.specs.Roles.{body_member_role}
use Rattle.twin_value.specs.Twins.{picked, same_value, is_value_role, is_part_role, without_metadata}
use Rattle.graph_steps.specs.Inherited.{inherited}
use Rattle.graph_steps.specs.States.{State, Twin, set_of, twin_value}
use Rattle.graph_steps.specs.Typed.{FitsModel}
use Rattle.graph_steps.specs.TwinAsks.{twin_for}
use Rattle.graph_steps.specs.bodies.Kept.{IsKeptTwin}
use Rattle.graph_steps.proofs.bodies.Keys.{sorted_in_order, members_in_order, keys_sorted, keys_picked}
use Rattle.graph_judges.specs.fits.Machinery.Keys.{keys_in}
use Rattle.graph_judges.proofs.fits.Keys.{all_by_keys, printed_members, values_read, parts_read}

module _ (s : State) (i : Interface) (t : Twin) where
  abbrev model : Resolved
  model = inherited (set_of s) i

  abbrev read : Twin
  read = twin_for s t.id i (twin_value t)

  abbrev printed : Members Number
  printed = printed_members (library_of model) model.contents t.id (object (member (codes "$model") (text (dtmi_text t.model)) no_members)) (members_in t.values) (members_in t.parts)

  abbrev pub AreRead : Twin → Type 0
  AreRead u = (keys_in (members_in u.values) ≡ keys_in (members_in t.values)) × (keys_in (members_in u.parts) ≡ keys_in (members_in t.parts))

  pub fits_read : HasNoBreach (IsTwinBreach model (twin_value t)) → AreRead read → FitsModel (set_of s) i t
  fits_read clear same = record {
    unbroken = clear;
    values = all_by_keys (λ key. IsTrue (is_value_role (body_member_role (twin_role_of model) key))) (members_in read.values) (members_in t.values) same.0
        (keys_sorted (λ key. IsTrue (is_value_role (body_member_role (twin_role_of model) key))) (picked (λ key. is_value_role (body_member_role (twin_role_of model) key)) same_value (sorted_members printed)) (keys_picked (λ key. is_value_role (body_member_role (twin_role_of model) key)) same_value (sorted_members printed)));
    parts = all_by_keys (λ key. IsTrue (is_part_role (body_member_role (twin_role_of model) key))) (members_in read.parts) (members_in t.parts) same.1
        (keys_sorted (λ key. IsTrue (is_part_role (body_member_role (twin_role_of model) key))) (picked (λ key. is_part_role (body_member_role (twin_role_of model) key)) without_metadata (sorted_members printed)) (keys_picked (λ key. is_part_role (body_member_role (twin_role_of model) key)) without_metadata (sorted_members printed)));
  }

  pub read_fits : IsKeptTwin t → FitsModel (set_of s) i t → AreRead read
  read_fits kept f = (
    values_read (library_of model) model.contents t.id (object (member (codes "$model") (text (dtmi_text t.model)) no_members)) (members_in t.values) (members_in t.parts) same_value f.values f.parts (members_in_order t.values (sorted_in_order t.values kept.values)),
    parts_read (library_of model) model.contents t.id (object (member (codes "$model") (text (dtmi_text t.model)) no_members)) (members_in t.values) (members_in t.parts) without_metadata f.values f.parts (members_in_order t.parts (sorted_in_order t.parts kept.parts)),
  )
