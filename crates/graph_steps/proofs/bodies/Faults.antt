-- Breaches stand somewhere, and the refusals that name them.
use Rattle.std.proofs.Common.{◌≡◌, ◌↔◌, ℕ, suc, inl, inr, List, [], ◌∷◌, codes, Bool, true, false, bytes_eq, Option, Some, None, Result, Ok, Err, refl, sym, ap, subst}
use Rattle.std.specs.Prelude.{if◌then◌else◌, MatchOption, IfSome}
use Rattle.std.specs.Result.{IfOk}
use Rattle.std.specs.Option.{IsSomeAnd, option_and_then}
use Rattle.json_decimal.specs.Number.{Number}
use Rattle.json_tree.specs.Values.{Json, null, truth, number, text, array, object, Members, no_members, member}
use Rattle.json_tree.specs.Places.{IsPart, member_at, IsSomewhere}
use Rattle.json_tree.specs.declared.places.Place.{Place}
use Rattle.json_tree.specs.Members.{members_in, value_at, text_in}
use Rattle.dt_base.specs.names.Grammar.{NameText}
use Rattle.dtdl_terms.specs.declared.resolved.Resolved.{Resolved}
use Rattle.twin_value.specs.Roles.{Role}
use Rattle.twin_value.specs.Breaches.{HasBodyPart, IsBodyBreach, IsLinkBreach, NamesNone, link_called, link_role_of, IsFirstBodyBreach, EndsBy, HasNoBreach, key_position}
use Rattle.twin_value.specs.declared.code.BodyCode.{BodyCode}
use Rattle.twin_value.specs.declared.end.BodyEnd.{BodyEnd}
use Rattle.twin_value.specs.declared.end.BodyEnd.TheVariants as ends
use Rattle.graph_asks.specs.declared.refusal.Refusal.{Refusal}
use Rattle.graph_steps.specs.TwinAsks.{BodyFault}
use Rattle.graph_steps.specs.bodies.Bodies.{FailsBy}
use Rattle.graph_steps.specs.bodies.Machinery.Faults.{Names, EndsSomewhere, TellsFailure, TellsBreach}
use Rattle.graph_steps.specs.declared.bodies.failure.BodyFailure.{BodyFailure}
use Rattle.graph_steps.specs.declared.bodies.failure.BodyFailure.TheVariants as failures

-- ---- places
part_is : (r : Role) (v : Json) (i : ℕ) (s : Role) (part : Json) → HasBodyPart r v i s part → IsPart v i part
part_is r null i s part p = absurd p
part_is r (truth b) i s part p = absurd p
part_is r (number n) i s part p = absurd p
part_is r (text bytes) i s part p = absurd p
part_is r (array vs) i s part p = p.0
part_is r (object ms) i s part p = (p.0, p.1)

pub breach_somewhere : (r : Role) (v : Json) (place : List ℕ) (broken : BodyCode) → IsBodyBreach r v place broken → IsSomewhere v place
breach_somewhere r v [] broken b = (v, refl)
breach_somewhere r v (i ∷ place) broken (s, part, p, b) = let below = breach_somewhere s part place broken b in (below.0, (part, part_is r v i s part p, below.1))

at_position : (key : List ℕ) (ms : Members Number) (w : Json) → value_at key ms ≡ Some w → (k : List ℕ) × (member_at ms (key_position key ms) ≡ Some (k, w))
at_position key no_members w e = absurd cc
at_position key (member k v ms) w e = either (bytes_eq k key) e (at_position key ms w) where
  either : (b : Bool) → (if b then Some v else value_at key ms) ≡ Some w → (value_at key ms ≡ Some w → (q : List ℕ) × (member_at ms (key_position key ms) ≡ Some (q, w)))
      → (q : List ℕ) × (member_at (member k v ms) (if b then 0 else suc (key_position key ms)) ≡ Some (q, w))
  either true h later = let same : v ≡ w = cc in (k, ap (λ (x : Json). Some (k, x)) same)
  either false h later = later h

named_somewhere : (key : List ℕ) (v w : Json) → value_at key (members_in v) ≡ Some w → IsSomewhere v (key_position key (members_in v) ∷ [])
named_somewhere key null w e = absurd cc
named_somewhere key (truth b) w e = absurd cc
named_somewhere key (number n) w e = absurd cc
named_somewhere key (text bytes) w e = absurd cc
named_somewhere key (array vs) w e = absurd cc
named_somewhere key (object ms) w e = let at = at_position key ms w e in (w, (w, (at.0, at.1), refl))

none_somewhere : (r : Resolved) (v : Json) (o : Option Json) → value_at (codes "$relationshipName") (members_in v) ≡ o → NamesNone r v → IsSomewhere v (key_position (codes "$relationshipName") (members_in v) ∷ [])
none_somewhere r v (Some w) e names = named_somewhere (codes "$relationshipName") v w e
none_somewhere r v None e names = absurd (subst (λ (o : Option Json). IsSomeAnd (option_and_then text_in o) (λ name. NameText name × (link_called name r.contents ≡ None))) e names)

pub link_somewhere : (r : Resolved) (v : Json) (place : List ℕ) (broken : BodyCode) → IsLinkBreach r v place broken → IsSomewhere v place
link_somewhere r v place broken (inl b) = subst (IsSomewhere v) (sym b.1) (none_somewhere r v (value_at (codes "$relationshipName") (members_in v)) refl b.0)
link_somewhere r v place broken (inr b) = breach_somewhere (link_role_of r v) v place broken b.1

-- ---- ends of readings
module _ (Broken : List ℕ → BodyCode → Type 0) (v : Json) (somewhere : (place : List ℕ) (broken : BodyCode) → Broken place broken → IsSomewhere v place) where
  pub end_somewhere : (end : BodyEnd) → EndsBy Broken end → EndsSomewhere v end
  end_somewhere (ends.Fault place code) first = somewhere place.steps code first.breach
  end_somewhere ends.OutOfMemory first = tt

-- The same breaches, told otherwise.
module _ (Broken Other : List ℕ → BodyCode → Type 0) (same : (place : List ℕ) (broken : BodyCode) → Broken place broken ↔ Other place broken) where
  pub clear_moves : HasNoBreach Broken → HasNoBreach Other
  clear_moves h place broken b = h place broken ((same place broken).1 b)

  pub first_moves : (place : List ℕ) (broken : BodyCode) → IsFirstBodyBreach Broken place broken → IsFirstBodyBreach Other place broken
  first_moves place broken first = record {
    breach = (same place broken).0 first.breach;
    least = λ other another before b. first.least other another before ((same other another).1 b);
  }

  pub failure_tells : (v : Json) (end : BodyEnd) (failure : BodyFailure) → EndsBy Broken end → TellsFailure v end failure → FailsBy (BodyFault Other v) failure
  failure_tells v (ends.Fault place code) (failures.Refused refusal) first names = (place.steps, names.0, code, first_moves place.steps code first, names.1, names.2)
  failure_tells v (ends.Fault place code) failures.OutOfMemory first names = tt
  failure_tells v ends.OutOfMemory (failures.Refused refusal) first names = absurd names
  failure_tells v ends.OutOfMemory failures.OutOfMemory first names = tt

pub names_fault : (Broken : List ℕ → BodyCode → Type 0) (v : Json) (place : List ℕ) (code : BodyCode) (refusal : Refusal) → IsFirstBodyBreach Broken place code → Names v place code refusal → BodyFault Broken v refusal
names_fault Broken v place code refusal first names = (place, names.0, code, first, names.1, names.2)

-- ---- the breach that there may be
module _ (Broken : List ℕ → BodyCode → Type 0) (v : Json) where
  pub found_somewhere : ((place : List ℕ) (broken : BodyCode) → Broken place broken → IsSomewhere v place) → (found : Option (Place × BodyCode))
      → MatchOption found (HasNoBreach Broken) (λ b. IsFirstBodyBreach Broken b.0.steps b.1) → IfSome found (λ b. IsSomewhere v b.0.steps)
  found_somewhere somewhere None h = tt
  found_somewhere somewhere (Some b) h = somewhere b.0.steps b.1 h.breach

  told : (found : Option (Place × BodyCode)) (refusal : Option Refusal) → MatchOption found (HasNoBreach Broken) (λ b. IsFirstBodyBreach Broken b.0.steps b.1) → TellsBreach v found refusal
      → MatchOption refusal (HasNoBreach Broken) (BodyFault Broken v)
  told None None h tells = h
  told None (Some refusal) h tells = absurd tells
  told (Some b) None h tells = absurd tells
  told (Some b) (Some refusal) h tells = names_fault Broken v b.0.steps b.1 refusal h tells

  pub fault_told : {E : Type 0} (found : Option (Place × BodyCode)) (res : Result (Option Refusal) E) → MatchOption found (HasNoBreach Broken) (λ b. IsFirstBodyBreach Broken b.0.steps b.1)
      → IfOk res (TellsBreach v found) → IfOk res (λ refusal. MatchOption refusal (HasNoBreach Broken) (BodyFault Broken v))
  fault_told found (Ok refusal) h tells = told found refusal h tells
  fault_told found (Err e) h tells = tt
