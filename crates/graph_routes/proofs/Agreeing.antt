-- A body in which no identifier differs from that of the path agrees with it.
use Rattle.std.proofs.Common.{◌≡◌, ℕ, List, Bool, true, false, bytes_eq, Option, Some, None, refl, ap, subst, ◌∙◌}
use Rattle.std.specs.Prelude.{IfSome, if◌then◌else◌}
use Rattle.std.specs.Option.{option_and_then, option_or}
use Rattle.std.proofs.lemmas.Slice.Eq.{bytes_eq-Decides}
use Rattle.json_decimal.specs.Number.{Number}
use Rattle.json_tree.specs.Values.{Json, Members, no_members, member}
use Rattle.json_tree.specs.Members.{text_in, value_at}
use Rattle.graph_routes.specs.Identifiers.{difference, first_difference}

neither : {A : Type 0} (x y : Option A) → option_or x y ≡ None → (x ≡ None) × (y ≡ None)
neither None y e = (refl, e)
neither (Some a) y e = absurd cc

module _ (path : List ℕ) where
  text_agrees : (t : Option (List ℕ)) → difference t (Some path) ≡ None → IfSome t (λ given. given ≡ path)
  text_agrees None e = tt
  text_agrees (Some given) e = by (bytes_eq given path) refl e
    where
      by : (b : Bool) → bytes_eq given path ≡ b → if◌then◌else◌ {A = Option (List ℕ × List ℕ)} b None (Some (given, path)) ≡ None → given ≡ path
      by true is h = (bytes_eq-Decides given path).0 is
      by false is h = absurd cc

  module _ (ids : List ℕ → Option (List ℕ)) (key : List ℕ) (wanted : ids key ≡ Some path) where
    abbrev TextAgrees : Option Json → Type 0
    TextAgrees v = IfSome (option_and_then text_in v) (λ given. given ≡ path)

    pub agrees : (ms : Members Number) → first_difference ids ms ≡ None → TextAgrees (value_at key ms)
    agrees no_members e = tt
    agrees (member k v ms) e = by (bytes_eq k key) refl (agrees ms)
      where
        by : (b : Bool) → bytes_eq k key ≡ b → (first_difference ids ms ≡ None → TextAgrees (value_at key ms)) → TextAgrees (if b then Some v else value_at key ms)
        by true is rest =
            let same : k ≡ key = (bytes_eq-Decides k key).0 is in
            let here : difference (text_in v) (ids k) ≡ None = (neither (difference (text_in v) (ids k)) (first_difference ids ms) e).0 in
            text_agrees (text_in v) (subst (λ (o : Option (List ℕ)). difference (text_in v) o ≡ None) (ap ids same ∙ wanted) here)
        by false is rest = rest (neither (difference (text_in v) (ids k)) (first_difference ids ms) e).1
