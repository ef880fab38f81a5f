-- The first difference among members, from one on.
use Rattle.std.proofs.Common.{◌≡◌, ℕ, zero, suc, ◌<◌, ◌≤◌, List, [], ◌∷◌, length, get_or, drop, Option, Some, None, refl, sym, ap, ◌∙◌, arith}
use Rattle.std.specs.Option.{option_or}
use Rattle.json_tree.specs.View.{view, members_view}
use Rattle.json_tree.specs.declared.tree.Member.{Member}
use Rattle.json_tree.specs.Members.{text_in}
use Rattle.graph_routes.specs.Identifiers.{difference, first_difference}

module _ (ids : List ℕ → Option (List ℕ)) where
  abbrev at_member : Member → Option (List ℕ × List ℕ)
  at_member m = difference (text_in (view m.value)) (ids m.key)

  abbrev from : List Member → Option (List ℕ × List ℕ)
  from ms = first_difference ids (members_view ms)

  pub differs_later : (ms : List Member) (i : ℕ) (m : Member) → i < length ms → m ≡ get_or ms i m → at_member m ≡ None → from (drop i ms) ≡ from (drop (suc i) ms)
  differs_later [] i m within is none = absurd (omega (arith, within))
  differs_later (n ∷ ms) zero m within is none = ap (λ (o : Option (List ℕ × List ℕ)). option_or o (from ms)) (ap at_member (sym is) ∙ none)
  differs_later (n ∷ ms) (suc i) m within is none = differs_later ms i m (omega (arith, within)) is none

  pub differs_here : (ms : List Member) (i : ℕ) (m : Member) (d : List ℕ × List ℕ) → i < length ms → m ≡ get_or ms i m → at_member m ≡ Some d → from (drop i ms) ≡ Some d
  differs_here [] i m d within is some = absurd (omega (arith, within))
  differs_here (n ∷ ms) zero m d within is some = ap (λ (o : Option (List ℕ × List ℕ)). option_or o (from ms)) (ap at_member (sym is) ∙ some)
  differs_here (n ∷ ms) (suc i) m d within is some = differs_here ms i m d (omega (arith, within)) is some

  pub differs_no_more : (ms : List Member) (i : ℕ) → length ms ≤ i → from (drop i ms) ≡ None
  differs_no_more [] zero past = refl
  differs_no_more [] (suc i) past = refl
  differs_no_more (n ∷ ms) zero past = absurd (omega (arith, past))
  differs_no_more (n ∷ ms) (suc i) past = differs_no_more ms i (omega (arith, past))
