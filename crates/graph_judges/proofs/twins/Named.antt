-- The model that a body names.
use Rattle.std.proofs.Common.{◌≡◌, ℕ, ◌≤◌, List, [], ◌∷◌, Bool, true, false, cond, codes, bytes_eq, Option, Some, None, IsSome, refl, sym, ap, ◌∙◌, subst, is_eq, lit≤}
use Rattle.std.specs.Prelude.{IsTrue}
use Rattle.std.specs.Option.{IsSomeAnd, option_and_then}
use Rattle.std.specs.List.{find}
use Rattle.dt_base.specs.names.Grammar.{Identifier, dtmi_text}
use Rattle.json_tree.specs.Values.{Json, null, truth, number, text, array, object}
use Rattle.json_tree.specs.Members.{text_in, value_in}
use Rattle.dtdl_terms.specs.Sets.{interface_at}
use Rattle.dtdl_terms.specs.declared.interface.Interface.{Interface}
use Rattle.ordered_table.proofs.Flat.{C}
use Rattle.twin_value.specs.Fits.{is_object}
use Rattle.twin_value.specs.Roles.{Role, body_member_role, twin_body, twin_metadata, model_id}
use Rattle.twin_value.specs.Breaches.{IsBodyBreach, HasNoBreach, IsModelId, IsOuterBreach, no_library, text_under}
use Rattle.twin_value.specs.Codes.{code_number}
use Rattle.twin_value.specs.Twins.{model_text}
use Rattle.twin_value.specs.declared.code.BodyCode.{BodyCode}
use Rattle.twin_value.specs.declared.code.BodyCode.TheVariants as code
use Rattle.graph_steps.specs.States.{State, set_of, interface_of}
use Rattle.graph_steps.specs.TwinAsks.{interface_named, interface_in}
use Rattle.graph_steps.proofs.invariants.Keyed.{tests}
use Rattle.graph_steps.proofs.invariants.Members.{found_at}
use Rattle.std.proofs.lemmas.Option.{none-some}

-- ---- a body without a breach that shows without a model
abbrev NoOuter : Role → Json → Type 0
NoOuter r v = (place : List ℕ) (broken : BodyCode) → IsBodyBreach r v place broken → code_number broken ≤ 3 → ⊥

under : (r : Role) (v : Json) (key : List ℕ) (w : Json) → NoOuter r v → value_in key v ≡ Some w → NoOuter (body_member_role r key) w
under r null key w h e = absurd (none-some w e)
under r (truth b) key w h e = absurd (none-some w e)
under r (number n) key w h e = absurd (none-some w e)
under r (text bytes) key w h e = absurd (none-some w e)
under r (array vs) key w h e = absurd (none-some w e)
under r (object ms) key w h e = λ place broken b low. let f = found_at key ms w e in h (f.0 ∷ place) broken (body_member_role r key, w, (key, f.1, refl), b) low

has_at : (b : Bool) (o : Option Json) → (b ≡ false → ⊥) → (IsTrue b × (o ≡ None) → ⊥) → (w : Json) × (o ≡ Some w)
has_at b (Some w) is has = (w, refl)
has_at true None is has = absurd (has (refl, refl))
has_at false None is has = absurd (is refl)

some_text : (o : Option (List ℕ)) → (o ≡ None → ⊥) → (t : List ℕ) × (o ≡ Some t)
some_text (Some t) h = (t, refl)
some_text None h = absurd (h refl)

text_known : (key : List ℕ) (v w : Json) (t : List ℕ) → value_in key v ≡ Some w → text_in w ≡ Some t → text_under key v ≡ Some t
text_known key v w t e f = ap (λ (o : Option Json). option_and_then text_in o) e ∙ f

is_id : (w : Json) (t : List ℕ) → NoOuter model_id w → text_in w ≡ Some t → (IsModelId t → ⊥) → ⊥
is_id w t h e no_id = h [] code.BadId (subst (λ (o : Option (List ℕ)). IsSomeAnd o (λ bytes. IsModelId bytes → ⊥)) (sym e) no_id) (lit≤ tt)

metadata_of : (v : Json) → NoOuter (twin_body no_library []) v → (m : Json) × (value_in (codes "$metadata") v ≡ Some m) × NoOuter twin_metadata m
metadata_of v h =
    let m = has_at (is_object v) (value_in (codes "$metadata") v) (λ e. h [] code.WrongKind e (lit≤ tt)) (λ e. h [] code.MissingKey e (lit≤ tt)) in
    (m.0, m.1, under (twin_body no_library []) v (codes "$metadata") m.0 h m.1)

value_of : (m : Json) → NoOuter twin_metadata m → (w : Json) × (value_in (codes "$model") m ≡ Some w) × NoOuter model_id w
value_of m h =
    let w = has_at (is_object m) (value_in (codes "$model") m) (λ e. h [] code.WrongKind e (lit≤ tt)) (λ e. h [] code.MissingKey e (lit≤ tt)) in
    (w.0, w.1, under twin_metadata m (codes "$model") w.0 h w.1)

text_of : (m : Json) → NoOuter twin_metadata m → (t : List ℕ) × (text_under (codes "$model") m ≡ Some t) × ((IsModelId t → ⊥) → ⊥)
text_of m h =
    let w = value_of m h in
    let t = some_text (text_in w.0) (λ e. w.2 [] code.WrongKind e (lit≤ tt)) in
    (t.0, text_known (codes "$model") m w.0 t.0 w.1 t.1, is_id w.0 t.0 w.2 t.1)

pub outer_model : (v : Json) → HasNoBreach (IsOuterBreach v) → IsSomeAnd (model_text v) (λ model. (IsModelId model → ⊥) → ⊥)
outer_model v clear =
    let m = metadata_of v (λ place broken b low. clear place broken (b, low)) in
    let t = text_of m.0 m.2 in
    let known : model_text v ≡ Some t.0 = ap (λ (o : Option Json). option_and_then (text_under (codes "$model")) o) m.1 ∙ t.1 in
    subst (λ (o : Option (List ℕ)). IsSomeAnd o (λ model. (IsModelId model → ⊥) → ⊥)) (sym known) t.2

pub some_and : {X : Type 0} (o : Option X) (P : X → Type 0) → IsSomeAnd o P → IsSome o
some_and (Some x) P h = refl
some_and None P h = absurd h

-- ---- the interface of that model
named_found : (model : Identifier) (is : List Interface) → find (λ (i : Interface). bytes_eq (dtmi_text i.id) (dtmi_text model)) is ≡ interface_at model is
named_found model [] = refl
named_found model (i ∷ is) =
    ap (λ b. cond b (Some i) (find (λ (j : Interface). bytes_eq (dtmi_text j.id) (dtmi_text model)) is)) (sym (tests (dtmi_text model) (dtmi_text i.id)))
    ∙ ap (λ o. cond (is_eq (C (dtmi_text model) (dtmi_text i.id))) (Some i) o) (named_found model is)

pub same_interface : (s : State) (v : Json) (model : Identifier) → model_text v ≡ Some (dtmi_text model) → interface_in s v ≡ interface_of s model
same_interface s v model e =
    let named : interface_in s v ≡ interface_named s (dtmi_text model) = rw e refl in
    named ∙ named_found model (set_of s)
