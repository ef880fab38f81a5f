-- What each step asks for, of a seat whose view is known by an equation.
use Rattle.std.proofs.Common.{◌≡◌, ℕ, ◌+◌, ◌%◌, ◌^◌, ◌<◌, eqb, List, [], ◌∷◌, sym, refl, ap, ◌∙◌, subst}
use Rattle.std.specs.Prelude.{Some}
use Rattle.std.specs.Option.{unwrap_or}
use Rattle.std.specs.declared.option.Option.{Option}
use mathlib.Core.Option.{none}
use mathlib.Core.List.{head-eq_of_cons-eq}
use prog.Atomic.{either}
use Rattle.atomic_table.specs.Table.{State, Me, step, rest, Allows, Splits, Joins}
use Rattle.one_history.specs.declared.history.Entry.{Entry}
use Rattle.one_history.specs.declared.history.Member.{Member}
use Rattle.one_history.specs.declared.history.Turn.TheVariants.{Idle, Waits}
use Rattle.one_history.specs.declared.history.View.{View}
use Rattle.one_history.specs.Histories.{state_after}
use Rattle.one_history.specs.Machinery.Rules.{view, alone, parent, child, note, merged, spent, Kept}
use Rattle.one_history.specs.Machinery.Plays.{drew, entered, left, awaited, looked, checked}
use Rattle.one_history.specs.Passes.{Serving}
use Rattle.one_history.proofs.Steps.{draws, awaits, looks, checks, enters, leaves, splits, notes, joins}

module _ {O S A R : Type 0} (state : O → S) (sound : A → Type 0) (allowed : S → A → R → Type 0) (follows : S → A → R → S) (key : O) where
  abbrev M : Type 0
  M = Me (Option O) (View O A R)

  abbrev Rule : State (Option O) (View O A R) → Type 0
  Rule = Kept state sound allowed follows key

  pub asks_draw : (slots id old new : ℕ) (me : M) → (m : Member O A R) × (me ≡ (alone m, [])) → old < 18446744073709551615 → new ≡ old + 1
      → Allows Rule slots id me 0 (λ n. either (eqb n old) new n) (drew (step slots 0 old new none) me)
  asks_draw slots id old new me r room up = subst (λ (z : M). Allows Rule slots id z 0 (λ n. either (eqb n old) new n) (drew (step slots 0 old new none) z)) (sym r.1)
      (draws state sound allowed follows key slots id old new r.0 room up)

  pub asks_await : (slots id t : ℕ) (me : M) → (m : Member O A R) × (me ≡ (view (m ∷ []) [] (Waits t), []))
      → Allows Rule slots id me 1 (λ n. n) (awaited state sound allowed follows (step slots 1 0 0 none) me)
  asks_await slots id t me r = subst (λ (z : M). Allows Rule slots id z 1 (λ n. n) (awaited state sound allowed follows (step slots 1 0 0 none) z)) (sym r.1)
      (awaits state sound allowed follows key slots id t r.0)

  pub asks_look : (slots id : ℕ) (me : M) → (m : Member O A R) × (older : List (List (Entry A R))) × (me ≡ (view (m ∷ []) older Idle, []))
      → Allows Rule slots id me 1 (λ n. n) (looked state sound allowed follows (step slots 1 0 0 none) me)
  asks_look slots id me r = subst (λ (z : M). Allows Rule slots id z 1 (λ n. n) (looked state sound allowed follows (step slots 1 0 0 none) z)) (sym r.2)
      (looks state sound allowed follows key slots id r.0 r.1)

  pub asks_check : (slots id : ℕ) (me : M) → (m : Member O A R) × (me ≡ (alone m, []))
      → Allows Rule slots id me 1 (λ n. n) (checked state sound allowed follows (step slots 1 0 0 none) me)
  asks_check slots id me r = subst (λ (z : M). Allows Rule slots id z 1 (λ n. n) (checked state sound allowed follows (step slots 1 0 0 none) z)) (sym r.1)
      (checks state sound allowed follows key slots id r.0)

  pub asks_enter : (slots id : ℕ) (me : M) (told : A → R → Type 0) (a : A) (b : R) → told a b
      → (m : Member O A R) × (t : ℕ) × (o : O) × Serving m t o me × sound a × allowed (state_after follows (state m.opening) m.seen) a b × (state o ≡ follows (state_after follows (state m.opening) m.seen) a b)
      → Allows Rule slots id me 1 (λ n. (n + 1) % 2 ^ 64) (entered told (step slots 1 1 0 none) me)
  asks_enter slots id me told a b is r = subst (λ (z : M). Allows Rule slots id z 1 (λ n. (n + 1) % 2 ^ 64) (entered told (step slots 1 1 0 none) z)) (sym r.3)
      (enters state sound allowed follows key slots id r.1 r.0 (Some r.2) r.2 told a b is refl r.4 r.5 r.6)

  pub asks_leave : (slots id : ℕ) (me : M) → (m : Member O A R) × (t : ℕ) × (o : O) × Serving m t o me × (state o ≡ state_after follows (state m.opening) m.seen)
      → Allows Rule slots id me 1 (λ n. (n + 1) % 2 ^ 64) (left (step slots 1 1 0 none) me)
  asks_leave slots id me r = subst (λ (z : M). Allows Rule slots id z 1 (λ n. (n + 1) % 2 ^ 64) (left (step slots 1 1 0 none) z)) (sym r.3)
      (leaves state sound allowed follows key slots id r.1 r.0 (Some r.2) r.2 refl r.4)

  pub asks_cut : (id : ℕ) (me : M) → (m : Member O A R) × (me ≡ (alone m, [])) → Splits Rule id me.0 (parent me.0) (child me.0)
  asks_cut id me r = subst (λ (z : M). Splits Rule id z.0 (parent z.0) (child z.0)) (sym r.1) (splits state sound allowed follows key id r.0)

  pub asks_note : (id : ℕ) (me : M) → (m : Member O A R) × (me ≡ (alone m, [])) → Splits Rule id me.0 me.0 (note me.0)
  asks_note id me r = subst (λ (z : M). Splits Rule id z.0 z.0 (note z.0)) (sym r.1) (notes state sound allowed follows key id r.0)

  pub asks_join : (id : ℕ) (me : M) (other : ℕ) (you : M) → me.0.turn ≡ Idle → you.0.turn ≡ Idle → Joins Rule id me.0 other you.0 (merged me.0 you.0) spent
  asks_join id me other you calm calm' = joins state sound allowed follows key id me.0 other you.0 calm calm'

module _ {O A R : Type 0} where
  -- the seat has the object, as its list of slots says
  pub slot_taken : (m : Member O A R) (t : ℕ) (o : O) (me : Me (Option O) (View O A R)) → Serving m t o me → me.1 ≡ (0, Some o) ∷ rest me.1
  slot_taken m t o me e = subst (λ (z : Me (Option O) (View O A R)). z.1 ≡ (0, Some o) ∷ rest z.1) (sym e) refl

  -- the value that an exchange found is the object that the seat had
  pub found_object : (m : Member O A R) (t : ℕ) (o : O) (me : Me (Option O) (View O A R)) (x : Option O) (object : O) → Serving m t o me → me.1 ≡ (0, x) ∷ rest me.1 → x ≡ Some object → o ≡ object
  found_object m t o me x object e f is =
      let both : (0, Some o) ∷ [] ≡ (0, x) ∷ rest me.1 = sym (ap (λ (z : Me (Option O) (View O A R)). z.1) e) ∙ f in
      ap (λ (z : Option O). unwrap_or z o) (ap (λ (z : ℕ × Option O). z.1) (head-eq_of_cons-eq both) ∙ is)

  -- two exchanges, after which the seat has another object
  pub given_back : (m : Member O A R) (t : ℕ) (o o' : O) (me me1 me2 : Me (Option O) (View O A R)) (x : Option O) → Serving m t o me → me1 ≡ (me.0, (0, x) ∷ rest me.1) → me2 ≡ (me1.0, (0, Some o') ∷ rest me1.1) → Serving m t o' me2
  given_back m t o o' me me1 me2 x e f g = g ∙ ap (λ (z : Me (Option O) (View O A R)). (z.0, (0, Some o') ∷ rest z.1)) f ∙ ap (λ (z : Me (Option O) (View O A R)). (z.0, (0, Some o') ∷ rest z.1)) e

  -- a seat serves one pass
  pub one_served : (m n : Member O A R) (t u : ℕ) (o p : O) (me : Me (Option O) (View O A R)) → Serving m t o me → Serving n u p me → m ≡ n
  one_served m n t u o p me e f = head-eq_of_cons-eq (ap (λ (z : Me (Option O) (View O A R)). z.0.members) (sym e ∙ f))
