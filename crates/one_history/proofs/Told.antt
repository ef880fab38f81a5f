-- What the calls say of a pass, from what its seat knows.
use Rattle.std.proofs.Common.{◌≡◌, ℕ, List, [], ◌∷◌, ◌++◌, sym, refl, ap, subst}
use Rattle.std.specs.Prelude.{IfOk, OnErr}
use Rattle.std.specs.declared.option.Option.{Option}
use Rattle.std.specs.declared.result.Result.{Result}
use Rattle.std.specs.declared.result.Result.TheVariants.{Ok, Err}
use Rattle.atomic_table.specs.Table.{Me}
use Rattle.one_history.specs.declared.history.Entry.{Entry}
use Rattle.one_history.specs.declared.history.Member.{Member}
use Rattle.one_history.specs.declared.history.View.{View}
use Rattle.one_history.specs.Histories.{state_after, IsHistory, GrowsByOthers, GrowsByCall, entry}
use Rattle.one_history.specs.Machinery.Rules.{saw, alone}
use Rattle.one_history.specs.Machinery.Plays.{Learns}
use Rattle.one_history.specs.Passes.{seen_of, number_of, made_of}
use Rattle.one_history.proofs.Growth.{history_one}

module _ {O A R : Type 0} where
  pub me_seen : (m : Member O A R) (me : Me (Option O) (View O A R)) → me ≡ (alone m, []) → seen_of me.0.members ≡ m.seen
  me_seen m me is = ap (λ (z : Me (Option O) (View O A R)). seen_of z.0.members) is

  pub me_number : (m : Member O A R) (me : Me (Option O) (View O A R)) → me ≡ (alone m, []) → number_of me.0.members ≡ m.number
  me_number m me is = ap (λ (z : Me (Option O) (View O A R)). number_of z.0.members) is

  pub me_made : (m : Member O A R) (me : Me (Option O) (View O A R)) → me ≡ (alone m, []) → made_of me.0.members ≡ m.made
  me_made m me is = ap (λ (z : Me (Option O) (View O A R)). made_of z.0.members) is

module _ {O S A R E : Type 0} (state : O → S) (sound : A → Type 0) (allowed : S → A → R → Type 0) (follows : S → A → R → S) where
  -- what a call leaves
  abbrev pub Leaves : O → A → Result R E → List ℕ → ℕ → List (Entry A R) → Me (Option O) (View O A R) → Type 0
  Leaves first ask result number made before me' =
      ((n : Member O A R) × (n.opening ≡ first) × (me' ≡ (alone n, [])) × (n.number ≡ number) × (n.made ≡ made))
      × IfOk result (λ r. GrowsByCall number ask r before (seen_of me'.0.members))
      × OnErr result (GrowsByOthers number before (seen_of me'.0.members))
      × IsHistory sound allowed follows (state first) (seen_of me'.0.members)

  pub called : (result : Result R E) (me' : Me (Option O) (View O A R)) (m : Member O A R) (log : List (Entry A R)) (ask : A) (first : O) → m.opening ≡ first → Learns state sound allowed follows m log → sound ask
      → IfOk result (λ r. (me' ≡ (alone (saw m (log ++ entry ask r m.number ∷ [])), [])) × allowed (state_after follows (state m.opening) log) ask r)
      → OnErr result (me' ≡ (alone (saw m log), []))
      → Leaves first ask result m.number m.made m.seen me'
  called (Ok r) me' m log ask first is learnt may ok err =
      let g = learnt.0 in
      let now : List (Entry A R) = log ++ entry ask r m.number ∷ [] in
      let sees : seen_of me'.0.members ≡ now = me_seen (saw m now) me' ok.0 in (
        (saw m now, is, ok.0, refl, refl),
        subst (GrowsByCall m.number ask r m.seen) (sym sees) (g.0, ap (λ (z : List (Entry A R)). z ++ entry ask r m.number ∷ []) g.1, g.2),
        tt,
        subst (λ (z : O × List (Entry A R)). IsHistory sound allowed follows (state z.0) z.1) (λ i. (is i, sym sees i)) (history_one sound allowed follows (state m.opening) log (entry ask r m.number) learnt.1 may ok.1),
      )
  called (Err e) me' m log ask first is learnt may ok err =
      let sees : seen_of me'.0.members ≡ log = me_seen (saw m log) me' err in (
        (saw m log, is, err, refl, refl),
        tt,
        subst (GrowsByOthers m.number m.seen) (sym sees) learnt.0,
        subst (λ (z : O × List (Entry A R)). IsHistory sound allowed follows (state z.0) z.1) (λ i. (is i, sym sees i)) learnt.1,
      )
