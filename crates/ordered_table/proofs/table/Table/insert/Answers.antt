use Rattle.std.proofs.Common.{◌≡◌, ℕ, List, [], ◌∷◌, Ordering, Some, None, IfOk, Result, Ok, Err, OnOk, OnErr, refl, sym, ap, ◌∙◌, subst}
use Rattle.std.specs.Option.{option_copied_mut}
use Rattle.std.specs.Map.{lookup, set_value}
use Rattle.std.specs.BTreeMap.{is_at, insert_entry}
use Rattle.std.proofs.lemmas.Result.{on_ok_weaker, on_err_weaker}
use Rattle.std.proofs.lemmas.Map.Steps.{set_value_same}
use Rattle.ordered_table.specs.Rows.{pair_cmp, flat}
use Rattle.ordered_table.proofs.Flat.{C, found, missed, insert-flat}
use Rattle.ordered_table.proofs.Opened.{open-flat}
use Rattle.std.specs.Map.{keys_of, values_of}
use Rattle.std.specs.List.{All}
use Rattle.std.specs.List.Sorted.{IsStrictlySortedBy}
use Rattle.std.proofs.lemmas.Map.Views.{All-values-set_value, All-values-insert_entry}
use Rattle.ordered_table.proofs.Ordered.{sorted-flat, one_sorted}
use Rattle.ordered_table.proofs.table.Table.insert.Goals as goal

-- the entries of each row are in order
abbrev AreSorted : {K V : Type 0} → (K → K → Ordering) → List (List ℕ × List (K × V)) → Type 0
AreSorted R rs = All (λ row. IsStrictlySortedBy R (keys_of row)) (values_of rs)

-- what follows from either end of a call
at_ends : {A E P Q R : Type 0} (r : Result A E) → OnOk r P → OnErr r Q → (P → R) → (Q → R) → R
at_ends (Ok x) p q f h = f p
at_ends (Err e) p q f h = h q

pub returns-clause-old : goal.returns-clause-old
returns-clause-old g c =
    let looked : lookup (is_at (C c.args.at.now)) c.self.inside.rows.entries ≡ Some c.in-Some.row.now = sym c.get_mut.ensures.value ∙ ap option_copied_mut c.in-Some.is in
    subst (λ x. IfOk c.insert.result (λ old. old ≡ x)) (found g.K.Ord.cmp c.args.at.now c.args.key c.self.inside.rows.entries c.in-Some.row.now c.args.self.now c.self.invariant.0 c.self.view_is looked) c.insert.ensures.old

pub returns-clause-ok : goal.returns-clause-ok
returns-clause-ok g c =
    let looked : lookup (is_at (C c.args.at.now)) c.self.inside.rows.entries ≡ Some c.in-Some.row.now = sym c.get_mut.ensures.value ∙ ap option_copied_mut c.in-Some.is in
    on_ok_weaker c.insert.result (λ e.
    ap flat ((c.get_mut.follows.holds c.insert.new.self).0 ∙ ap (set_value (is_at (C c.args.at.now)) c.self.inside.rows.entries) e)
    ∙ insert-flat g.K.Ord.cmp c.args.at.now c.args.key c.args.value c.in-Some.row.now c.self.inside.rows.entries c.self.invariant.0 looked
    ∙ ap (λ es. insert_entry (pair_cmp g.K.Ord.cmp) es (c.args.at.now, c.args.key) c.args.value) c.self.view_is) c.insert.ensures.ok

pub returns-clause-err : goal.returns-clause-err
returns-clause-err g c =
    let looked : lookup (is_at (C c.args.at.now)) c.self.inside.rows.entries ≡ Some c.in-Some.row.now = sym c.get_mut.ensures.value ∙ ap option_copied_mut c.in-Some.is in
    on_err_weaker c.insert.result (λ e.
    ap flat ((c.get_mut.follows.holds c.insert.new.self).0 ∙ ap (set_value (is_at (C c.args.at.now)) c.self.inside.rows.entries) e
    ∙ set_value_same (is_at (C c.args.at.now)) c.self.inside.rows.entries c.in-Some.row.now looked)
    ∙ c.self.view_is) c.insert.ensures.err

pub returns-in_default-clause-ordered : goal.returns-in_default-clause-ordered
returns-in_default-clause-ordered g c =
    sorted-flat g.K.Ord.cmp c.self.inside.rows.entries c.args.self.now c.self.invariant.0 c.self.invariant.1 c.self.view_is

pub returns-clause-ordered : goal.returns-clause-ordered
returns-clause-ordered g c =
    sorted-flat g.K.Ord.cmp c.self.inside.rows.entries c.args.self.now c.self.invariant.0 c.self.invariant.1 c.self.view_is

pub invariant_of-self-2 : goal.invariant_of-self-2
invariant_of-self-2 g c =
    let written = c.get_mut.follows.holds c.insert.new.self in
    (written.4, subst (λ es. All (λ row. IsStrictlySortedBy g.K.Ord.cmp (keys_of row)) (values_of es)) (sym written.0) (All-values-set_value (is_at (C c.args.at.now)) (λ row. IsStrictlySortedBy g.K.Ord.cmp (keys_of row)) c.self.inside.rows.entries c.insert.new.self c.self.invariant.1 c.insert.ensures.ordered))

pub invariant_of-self : goal.invariant_of-self
invariant_of-self g c =
    let same = ap (λ rows. rows.entries) c.get_mut.follows.holds-at-none in
    let before : AreSorted g.K.Ord.cmp c.get_mut.follows.lender-at-none.entries = subst (AreSorted g.K.Ord.cmp) (sym same) c.self.invariant.1 in (
      c.open.ensures.ordered (subst (λ es. IsStrictlySortedBy C (keys_of es)) (sym same) c.self.invariant.0),
      at_ends c.open.result c.open.ensures.ok c.open.ensures.err
          (λ e. subst (AreSorted g.K.Ord.cmp) (sym e) (All-values-insert_entry C c.args.at.now ((c.args.key, c.args.value) ∷ []) (λ row. IsStrictlySortedBy g.K.Ord.cmp (keys_of row)) c.get_mut.follows.lender-at-none.entries before (one_sorted g.K.Ord.cmp (c.args.key, c.args.value) [] refl)))
          (λ e. subst (AreSorted g.K.Ord.cmp) (sym e) before),
    )

pub returns-in_default-clause-old : goal.returns-in_default-clause-old
returns-in_default-clause-old g c =
    let looked : lookup (is_at (C c.args.at.now)) c.self.inside.rows.entries ≡ None = sym c.get_mut.ensures.value ∙ ap option_copied_mut c.in_default.is in
    subst (λ x. IfOk c.open.result (λ old. old ≡ x)) (missed g.K.Ord.cmp c.args.at.now c.args.key c.self.inside.rows.entries c.args.self.now c.self.invariant.0 c.self.view_is looked) c.open.ensures.none

pub returns-in_default-clause-ok : goal.returns-in_default-clause-ok
returns-in_default-clause-ok g c =
    let looked : lookup (is_at (C c.args.at.now)) c.self.inside.rows.entries ≡ None = sym c.get_mut.ensures.value ∙ ap option_copied_mut c.in_default.is in
    on_ok_weaker c.open.result (λ e.
    ap flat (e ∙ ap (λ rows. insert_entry C rows.entries c.args.at.now ((c.args.key, c.args.value) ∷ [])) c.get_mut.follows.holds-at-none)
    ∙ open-flat g.K.Ord.cmp c.args.at.now c.args.key c.args.value c.self.inside.rows.entries c.self.invariant.0 looked
    ∙ ap (λ es. insert_entry (pair_cmp g.K.Ord.cmp) es (c.args.at.now, c.args.key) c.args.value) c.self.view_is) c.open.ensures.ok
