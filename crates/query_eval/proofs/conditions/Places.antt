-- Where the bytes of a text stand in others, by the places at which a search finds them.
use Rattle.std.proofs.Common.{◌≡◌, ℕ, zero, suc, ◌+◌, ◌<◌, List, [], ◌∷◌, Bool, true, false, ◌||◌, ◌&&◌, Option, Some, None, length, nat_eq, refl, sym, ap, ap₂, ◌∙◌, arith, true≢false}
use Rattle.std.specs.Prelude.{slice_index}
use Rattle.std.specs.List.{starts_with}
use Rattle.std.specs.Option.{is_some}
use Rattle.std.proofs.lemmas.Bool.{eq-eqb, eqb-true, and_parts, or_right}
use Rattle.memchr.specs.Find.{OccursAt, FindsNeedle}
use Rattle.graph_steps.specs.Conditions.{stands_in}

-- ---- a place further
next : (b : ℕ) (whole : List ℕ) (k j : ℕ) → slice_index (b ∷ whole) (suc k + j) ≡ slice_index whole (k + j)
next b whole k j = let e : suc k + j ≡ suc (k + j) = omega arith in ap (slice_index (b ∷ whole)) e

next-at : (b : ℕ) (whole : List ℕ) (j : ℕ) → slice_index (b ∷ whole) (0 + suc j) ≡ slice_index whole (0 + j)
next-at b whole j = let e : 0 + suc j ≡ suc (0 + j) = omega arith in ap (slice_index (b ∷ whole)) e

-- ---- at the front
pub front-from : (whole part : List ℕ) → OccursAt whole part 0 → starts_with nat_eq whole part ≡ true
front-from whole [] occurs = refl
front-from [] (p ∷ part) occurs = absurd (omega (arith, occurs.fits))
front-from (b ∷ whole) (p ∷ part) occurs =
    let rest : OccursAt whole part 0 = record {
      fits = omega (arith, occurs.fits);
      reads = λ j low. sym (next-at b whole j) ∙ occurs.reads (suc j) (omega (arith, low));
    } in
    ap₂ (λ (x y : Bool). x && y) (eq-eqb p b (sym (occurs.reads 0 (omega arith)))) (front-from whole part rest)

cons-reads : (b p : ℕ) (whole part : List ℕ) → b ≡ p → ((j : ℕ) → j < length part → slice_index whole (0 + j) ≡ slice_index part j)
    → (j : ℕ) → j < length (p ∷ part) → slice_index (b ∷ whole) (0 + j) ≡ slice_index (p ∷ part) j
cons-reads b p whole part is reads zero low = is
cons-reads b p whole part is reads (suc j) low = next-at b whole j ∙ reads j (omega (arith, low))

pub front-to : (whole part : List ℕ) → starts_with nat_eq whole part ≡ true → OccursAt whole part 0
front-to whole [] h = record { fits = omega arith; reads = λ j low. absurd (omega (arith, low)) }
front-to [] (p ∷ part) h = absurd (true≢false (sym h))
front-to (b ∷ whole) (p ∷ part) h =
    let each = and_parts (nat_eq p b) (starts_with nat_eq whole part) h in
    let rest = front-to whole part each.1 in
    record { fits = omega (arith, rest.fits); reads = cons-reads b p whole part (sym (eqb-true p b each.0)) rest.reads }

-- ---- anywhere
later : (b : ℕ) (whole part : List ℕ) (k : ℕ) → OccursAt (b ∷ whole) part (suc k) → OccursAt whole part k
later b whole part k occurs = record { fits = omega (arith, occurs.fits); reads = λ j low. sym (next b whole k j) ∙ occurs.reads j low }

sooner : (b : ℕ) (whole part : List ℕ) (k : ℕ) → OccursAt whole part k → OccursAt (b ∷ whole) part (suc k)
sooner b whole part k occurs = record { fits = omega (arith, occurs.fits); reads = λ j low. next b whole k j ∙ occurs.reads j low }

pub stands-from : (whole part : List ℕ) (k : ℕ) → OccursAt whole part k → stands_in whole part ≡ true
stands-from [] part zero occurs = front-from [] part occurs
stands-from [] part (suc k) occurs = absurd (omega (arith, occurs.fits))
stands-from (b ∷ whole) part zero occurs = ap (λ (x : Bool). x || stands_in whole part) (front-from (b ∷ whole) part occurs)
stands-from (b ∷ whole) part (suc k) occurs =
    or_right (starts_with nat_eq (b ∷ whole) part) (stands_in whole part) (stands-from whole part k (later b whole part k occurs))

pub stands-to : (whole part : List ℕ) → stands_in whole part ≡ true → (k : ℕ) × OccursAt whole part k
stands-to [] part h = (0, front-to [] part h)
stands-to (b ∷ whole) part h =
    elim (starts_with nat_eq (b ∷ whole) part) as (λ (x : Bool). starts_with nat_eq (b ∷ whole) part ≡ x → (x || stands_in whole part) ≡ true → (k : ℕ) × OccursAt (b ∷ whole) part k) [
      | true ↦ λ e g. (0, front-to (b ∷ whole) part e)
      | false ↦ λ e g. let found = stands-to whole part g in (suc found.0, sooner b whole part found.0 found.1)
    ] refl h

-- what a search finds
pub found_stands : (whole part : List ℕ) (found : Option ℕ) → FindsNeedle whole part 0 found → is_some found ≡ stands_in whole part
found_stands whole part (Some k) h = sym (stands-from whole part k h.1)
found_stands whole part None h =
    elim (stands_in whole part) as (λ (x : Bool). stands_in whole part ≡ x → false ≡ x) [
      | true ↦ λ e. let at = stands-to whole part e in absurd (h at.0 (omega arith) (omega (arith, at.1.fits)) at.1)
      | false ↦ λ e. refl
    ] refl
