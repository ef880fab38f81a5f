-- Who stands where, after one view is replaced and after a seat is added.
use Rattle.std.proofs.Common.{◌≡◌, ◌≢◌, ℕ, ◌⊎◌, List, [], ◌∷◌, ◌++◌, length, set, sym, ◌∙◌, subst, inl, inr, ⊎_elim}
use mathlib.Core.Option.{some}
use lib.ListN.{get_elem?}
use Rattle.atomic_table.proofs.Lists.{at_set, set_else, at_longer, at_last}
use Rattle.one_history.specs.declared.history.Entry.{Entry}
use Rattle.one_history.specs.declared.history.Member.{Member}
use Rattle.one_history.specs.declared.history.View.{View}
use Rattle.one_history.specs.Machinery.Rules.{StandsIn, Stands, WasTold}
use Rattle.one_history.proofs.Places.{put_at, end_at, at_once}

module _ {O A R : Type 0} where
  pub stands_set : (views : List (View O A R)) (id : ℕ) (w : View O A R) (j : ℕ) (n : Member O A R) → Stands (set views id w) j n → ((j ≡ id) × StandsIn w.members n) ⊎ ((j ≢ id) × Stands views j n)
  stands_set views id w j n h = ⊎_elim (λ (t : (j ≡ id) × (w ≡ h.0)). inl (t.0, subst (λ (z : View O A R). StandsIn z.members n) (sym t.1) h.2)) (λ (t : (j ≢ id) × (get_elem? views j ≡ some h.0)). inr (t.0, (h.0, t.1, h.2)))
      (at_set views id j w h.0 h.1)

  pub set_stands : (views : List (View O A R)) (id : ℕ) (w : View O A R) (j : ℕ) (n : Member O A R) → j ≢ id → Stands views j n → Stands (set views id w) j n
  set_stands views id w j n ne h = (h.0, set_else views id j w ne ∙ h.1, h.2)

  pub put_stands : (views : List (View O A R)) (id : ℕ) (v w : View O A R) (n : Member O A R) → get_elem? views id ≡ some v → StandsIn w.members n → Stands (set views id w) id n
  put_stands views id v w n at h = (w, put_at views id v w at, h)

  -- a pass that stands in the seat is one of its view
  pub stands_here : (views : List (View O A R)) (id : ℕ) (v : View O A R) (n : Member O A R) → get_elem? views id ≡ some v → Stands views id n → StandsIn v.members n
  stands_here views id v n at h = subst (λ (z : View O A R). StandsIn z.members n) (at_once views h.0 v id h.1 at) h.2

  pub told_set : (views : List (View O A R)) (id : ℕ) (w : View O A R) (es : List (Entry A R)) → WasTold (set views id w) es → StandsIn w.older es ⊎ WasTold views es
  told_set views id w es h = ⊎_elim (λ (t : (h.0 ≡ id) × (w ≡ h.1)). inl (subst (λ (z : View O A R). StandsIn z.older es) (sym t.1) h.3)) (λ (t : (h.0 ≢ id) × (get_elem? views h.0 ≡ some h.1)). inr (h.0, h.1, t.1, h.3))
      (at_set views id h.0 w h.1 h.2)

  pub stands_end : (views : List (View O A R)) (w : View O A R) (j : ℕ) (n : Member O A R) → Stands (views ++ w ∷ []) j n → Stands views j n ⊎ ((j ≡ length views) × StandsIn w.members n)
  stands_end views w j n h = ⊎_elim (λ (t : get_elem? views j ≡ some h.0). inl (h.0, t, h.2)) (λ (t : (j ≡ length views) × (w ≡ h.0)). inr (t.0, subst (λ (z : View O A R). StandsIn z.members n) (sym t.1) h.2))
      (end_at views w h.0 j h.1)

  pub longer_stands : (views : List (View O A R)) (w : View O A R) (j : ℕ) (n : Member O A R) → Stands views j n → Stands (views ++ w ∷ []) j n
  longer_stands views w j n h = (h.0, at_longer views (w ∷ []) j h.0 h.1, h.2)

  pub end_stands : (views : List (View O A R)) (w : View O A R) (n : Member O A R) (k : ℕ) → length views ≡ k → StandsIn w.members n → Stands (views ++ w ∷ []) k n
  end_stands views w n k is h = (w, at_last views w k is, h)

  pub told_end : (views : List (View O A R)) (w : View O A R) (es : List (Entry A R)) → WasTold (views ++ w ∷ []) es → WasTold views es ⊎ StandsIn w.older es
  told_end views w es h = ⊎_elim (λ (t : get_elem? views h.0 ≡ some h.1). inl (h.0, h.1, t, h.3)) (λ (t : (h.0 ≡ length views) × (w ≡ h.1)). inr (subst (λ (z : View O A R). StandsIn z.older es) (sym t.1) h.3))
      (end_at views w h.1 h.0 h.2)
