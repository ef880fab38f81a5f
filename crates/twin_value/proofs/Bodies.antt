-- What a body without breach tells.
use Rattle.std.proofs.Common.{◌≡◌, ℕ, suc, ◌<◌, inl, inr, List, [], ◌∷◌, Bool, true, false, codes, bytes_eq, Option, Some, None, Result, Ok, Err, refl, sym, ap, subst, ◌∙◌, arith}
use Rattle.std.specs.Prelude.{IsSome, IsTrue, MatchResult, if◌then◌else◌}
use Rattle.std.specs.Option.{IsSomeAnd, option_and_then}
use Rattle.std.proofs.lemmas.Slice.Eq.{bytes_eq-Decides}
use Rattle.json_decimal.specs.Number.{Number}
use Rattle.json_tree.specs.Values.{Json, null, truth, number, text, array, object, Members, no_members, member}
use Rattle.json_tree.specs.Places.{member_at}
use Rattle.json_tree.specs.declared.tree.Tree.{Tree}
use Rattle.rel_graph.specs.declared.edge.Edge.{Edge}
use Rattle.json_tree.specs.Members.{text_in, value_at, value_in, members_in}
use Rattle.dt_base.specs.names.Grammar.{Identifier, OwnDtmiText}
use Rattle.dt_base.specs.names.Faults.{RefusesDtmi}
use Rattle.dt_base.specs.declared.names.fault.NameFault.{NameFault}
use Rattle.dt_base.specs.declared.names.fault.NameFault.TheVariants as fault
use Rattle.dt_base.proofs.names.Exact.{dtmi_refused}
use Rattle.dtdl_terms.specs.Terms.{ContentTerms}
use Rattle.dtdl_terms.specs.declared.resolved.Resolved.{Resolved}
use Rattle.dtdl_terms.specs.declared.resolved.ResolvedContent.{ResolvedContent}
use Rattle.twin_value.specs.Fits.{is_object}
use Rattle.twin_value.specs.Roles.{Role, Library, body_member_role, twin_body, twin_metadata, model_id, link_body}
use Rattle.twin_value.specs.Breaches.{IsBodyBreach, IsFirstBodyBreach, BodyBreachComesBefore, HasNoBreach, EndsBy, IsModelId, text_under, IsLinkBreach, NamesNone, link_role_of, key_position}
use Rattle.twin_value.specs.Twins.{model_text, IsLinkOf}
use Rattle.twin_value.specs.declared.code.BodyCode.{BodyCode}
use Rattle.twin_value.specs.declared.code.BodyCode.TheVariants as code
use Rattle.twin_value.specs.declared.end.BodyEnd.{BodyEnd}
use Rattle.twin_value.specs.declared.end.BodyEnd.TheVariants as ends

-- ---- members
found_here : (b : Bool) (key k : List ℕ) (v : Json) (ms : Members Number) (w : Json) → bytes_eq k key ≡ b → (if b then Some v else value_at key ms) ≡ Some w
    → (value_at key ms ≡ Some w → (i : ℕ) × (member_at ms i ≡ Some (key, w))) → (i : ℕ) × (member_at (member k v ms) i ≡ Some (key, w))
found_here true key k v ms w is e later =
    let same : k ≡ key = (bytes_eq-Decides k key).0 is in
    let value : v ≡ w = cc in
    (0, ap (λ (q : List ℕ). Some (q, v)) same ∙ ap (λ (x : Json). Some (key, x)) value)
found_here false key k v ms w is e later = let h = later e in (suc h.0, h.1)

found_at : (key : List ℕ) (ms : Members Number) (w : Json) → value_at key ms ≡ Some w → (i : ℕ) × (member_at ms i ≡ Some (key, w))
found_at key no_members w e = absurd cc
found_at key (member k v ms) w e = found_here (bytes_eq k key) key k v ms w refl e (found_at key ms w)

-- a member of a body without breach has none in its role
pub under : (r : Role) (v : Json) (key : List ℕ) (w : Json) → HasNoBreach (IsBodyBreach r v) → value_in key v ≡ Some w → HasNoBreach (IsBodyBreach (body_member_role r key) w)
under r null key w h e = absurd cc
under r (truth b) key w h e = absurd cc
under r (number n) key w h e = absurd cc
under r (text bytes) key w h e = absurd cc
under r (array vs) key w h e = absurd cc
under r (object ms) key w h e = λ place broken b.
    let f = found_at key ms w e in
    h (f.0 ∷ place) broken (body_member_role r key, w, (key, f.1, refl), b)

has_at : (b : Bool) (o : Option Json) → (b ≡ false → ⊥) → (IsTrue b × (o ≡ None) → ⊥) → (w : Json) × (o ≡ Some w)
has_at b (Some w) is has = (w, refl)
has_at true None is has = absurd (has (refl, refl))
has_at false None is has = absurd (is refl)

some_text : (o : Option (List ℕ)) → (o ≡ None → ⊥) → (t : List ℕ) × (o ≡ Some t)
some_text (Some t) h = (t, refl)
some_text None h = absurd (h refl)

text_known : (key : List ℕ) (v w : Json) (t : List ℕ) → value_in key v ≡ Some w → text_in w ≡ Some t → text_under key v ≡ Some t
text_known key v w t e f = ap (λ (o : Option Json). option_and_then text_in o) e ∙ f

-- ---- twins
is_id : (w : Json) (t : List ℕ) → HasNoBreach (IsBodyBreach model_id w) → text_in w ≡ Some t → (IsModelId t → ⊥) → ⊥
is_id w t h e no_id = h [] code.BadId (subst (λ (o : Option (List ℕ)). IsSomeAnd o (λ bytes. IsModelId bytes → ⊥)) (sym e) no_id)

pub model_told : (l : Library) (cs : List ResolvedContent) (v : Json) → HasNoBreach (IsBodyBreach (twin_body l cs) v) → IsSomeAnd (model_text v) (λ model. (IsModelId model → ⊥) → ⊥)
model_told l cs v h =
    let m = has_at (is_object v) (value_in (codes "$metadata") v) (h [] code.WrongKind) (h [] code.MissingKey) in
    let hm : HasNoBreach (IsBodyBreach twin_metadata m.0) = under (twin_body l cs) v (codes "$metadata") m.0 h m.1 in
    let w = has_at (is_object m.0) (value_in (codes "$model") m.0) (hm [] code.WrongKind) (hm [] code.MissingKey) in
    let hw : HasNoBreach (IsBodyBreach model_id w.0) = under twin_metadata m.0 (codes "$model") w.0 hm w.1 in
    let t = some_text (text_in w.0) (hw [] code.WrongKind) in
    let known : model_text v ≡ Some t.0 = ap (λ (o : Option Json). option_and_then (text_under (codes "$model")) o) m.1 ∙ text_known (codes "$model") m.0 w.0 t.0 w.1 t.1 in
    subst (λ (o : Option (List ℕ)). IsSomeAnd o (λ model. (IsModelId model → ⊥) → ⊥)) (sym known) (is_id w.0 t.0 hw t.1)

pub some_model : (o : Option (List ℕ)) (P : List ℕ → Type 0) → IsSomeAnd o P → IsSome o
some_model (Some t) P h = refl
some_model None P h = absurd h

is_memory : (f : NameFault) → ((f ≡ fault.OutOfMemory → ⊥) → ⊥) → f ≡ fault.OutOfMemory
is_memory fault.Empty h = absurd (h (λ e. cc))
is_memory fault.TooLong h = absurd (h (λ e. cc))
is_memory (fault.BadByte at) h = absurd (h (λ e. cc))
is_memory fault.Ends h = absurd (h (λ e. cc))
is_memory fault.BadVersion h = absurd (h (λ e. cc))
is_memory fault.Reserved h = absurd (h (λ e. cc))
is_memory fault.OutOfMemory h = refl

own : (t : List ℕ) (is : IsModelId t) → OwnDtmiText t is.0.0
own t is = let short = is.2 in record { text = record { form = is.0.1; short = omega (arith, short) }; free = is.1 }

at_text : (o : Option (List ℕ)) (t : List ℕ) (P : List ℕ → Type 0) → o ≡ Some t → IsSomeAnd o P → P t
at_text o t P e h = subst (λ (p : Option (List ℕ)). IsSomeAnd p P) e h

pub model_wants_memory : (v : Json) (t : List ℕ) (f : NameFault) → IsSomeAnd (model_text v) (λ model. (IsModelId model → ⊥) → ⊥) → model_text v ≡ Some t → RefusesDtmi t f → f ≡ fault.OutOfMemory
model_wants_memory v t f h e refused = is_memory f (λ other. at_text (model_text v) t (λ model. (IsModelId model → ⊥) → ⊥) e h (λ is. other (dtmi_refused t is.0.0 f (own t is) refused)))

pub told : (o : Option (List ℕ)) (t : List ℕ) (P : List ℕ → Type 0) → o ≡ Some t → P t → IsSomeAnd o P
told o t P e h = subst (λ (p : Option (List ℕ)). IsSomeAnd p P) (sym e) h

-- ---- relationships
member_text : (r : Role) (v : Json) (key : List ℕ) (w : Json) → HasNoBreach (IsBodyBreach r v) → value_in key v ≡ Some w → (IsBodyBreach (body_member_role r key) w [] code.WrongKind → ⊥)
member_text r v key w h e = under r v key w h e [] code.WrongKind

is_some : (o : Option (List ℕ)) (t : List ℕ) → o ≡ Some t → IsSome o
is_some o t e = subst (λ (p : Option (List ℕ)). IsSome p) (sym e) refl

pub name_told : (l : Library) (from : Option Identifier) (ps : ContentTerms) (v : Json) → HasNoBreach (IsBodyBreach (link_body l from ps) v) → IsSome (text_under (codes "$relationshipName") v)
name_told l from ps v h =
    let w = has_at (is_object v) (value_in (codes "$relationshipName") v) (h [] code.WrongKind) (λ lack. h [] code.MissingKey (inr lack)) in
    let t = some_text (text_in w.0) (member_text (link_body l from ps) v (codes "$relationshipName") w.0 h w.1) in
    is_some (text_under (codes "$relationshipName") v) t.0 (text_known (codes "$relationshipName") v w.0 t.0 w.1 t.1)

pub target_told : (l : Library) (from : Option Identifier) (ps : ContentTerms) (v : Json) → HasNoBreach (IsBodyBreach (link_body l from ps) v) → IsSome (text_under (codes "$targetId") v)
target_told l from ps v h =
    let w = has_at (is_object v) (value_in (codes "$targetId") v) (h [] code.WrongKind) (λ lack. h [] code.MissingKey (inl lack)) in
    let t = some_text (text_in w.0) (member_text (link_body l from ps) v (codes "$targetId") w.0 h w.1) in
    is_some (text_under (codes "$targetId") v) t.0 (text_known (codes "$targetId") v w.0 t.0 w.1 t.1)

-- where the relationship is declared, the breaches are those of its role
module _ (r : Resolved) (v : Json) (names : NamesNone r v → ⊥) where
  pub link_clear : HasNoBreach (IsBodyBreach (link_role_of r v) v) → HasNoBreach (IsLinkBreach r v)
  link_clear h place broken (inl b) = names b.0
  link_clear h place broken (inr b) = h place broken b.1

  pub link_ends : (end : BodyEnd) → EndsBy (IsBodyBreach (link_role_of r v) v) end → EndsBy (IsLinkBreach r v) end
  link_ends (ends.Fault place broken) first = record {
    breach = inr (names, first.breach);
    least = λ other another before b. elim b [ inl c ↦ names c.0 | inr c ↦ first.least other another before c.1 ];
  }
  link_ends ends.OutOfMemory h = tt

pub link_result : (r : Resolved) (v : Json) → (NamesNone r v → ⊥) → (source id : List ℕ) (res : Result (Edge Tree) BodyEnd)
    → MatchResult res (λ e. HasNoBreach (IsBodyBreach (link_role_of r v) v) × IsLinkOf (link_role_of r v) source id v e) (EndsBy (IsBodyBreach (link_role_of r v) v))
    → MatchResult res (λ e. HasNoBreach (IsLinkBreach r v) × IsLinkOf (link_role_of r v) source id v e) (EndsBy (IsLinkBreach r v))
link_result r v names source id (Ok e) h = (link_clear r v names h.0, h.1)
link_result r v names source id (Err end) h = link_ends r v names end h

not_before : (i : ℕ) → BodyBreachComesBefore (i ∷ []) code.UnknownRelationship (i ∷ []) code.UnknownRelationship → ⊥
not_before i (inl (inl less)) = omega (arith, less)
not_before i (inl (inr same)) = same.1
not_before i (inr same) = let less : 6 < 6 = same.1 in omega (arith, less)

none_least : (r : Resolved) (v : Json) (i : ℕ) → NamesNone r v → i ≡ key_position (codes "$relationshipName") (members_in v)
    → (other : List ℕ) (another : BodyCode) → BodyBreachComesBefore other another (i ∷ []) code.UnknownRelationship → IsLinkBreach r v other another → ⊥
none_least r v i names is other another before (inl b) =
    let place : other ≡ i ∷ [] = b.1 ∙ ap (λ (n : ℕ). n ∷ []) (sym is) in
    not_before i (subst (λ (o : List ℕ). BodyBreachComesBefore o code.UnknownRelationship (i ∷ []) code.UnknownRelationship) place (subst (λ (c : BodyCode). BodyBreachComesBefore other c (i ∷ []) code.UnknownRelationship) b.2 before))
none_least r v i names is other another before (inr b) = b.0 names

pub link_unknown : (r : Resolved) (v : Json) (place : List ℕ) → NamesNone r v → place ≡ key_position (codes "$relationshipName") (members_in v) ∷ [] → IsFirstBodyBreach (IsLinkBreach r v) place code.UnknownRelationship
link_unknown r v place names e = subst (λ (p : List ℕ). IsFirstBodyBreach (IsLinkBreach r v) p code.UnknownRelationship) (sym e) (record {
  breach = inl (names, refl, refl);
  least = none_least r v (key_position (codes "$relationshipName") (members_in v)) names refl;
})
