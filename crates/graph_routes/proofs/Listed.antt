-- A path has no methods but those that it lists.
use Rattle.std.proofs.Common.{◌≡◌, ℕ, zero, suc, ◌<◌, List, [], ◌∷◌, length, Bool, true, false, refl, subst, arith}
use Rattle.std.specs.Prelude.{◌==◌, ◌||◌, Contains, slice_index_or}
use Rattle.std.proofs.lemmas.Bool.{or_right}
use Rattle.graph_routes.specs.declared.method.Method.{Method}
use Rattle.graph_routes.specs.declared.method.Method.TheVariants as method

abbrev number_of : Method → ℕ
number_of method.Delete = 0
number_of method.Get = 1
number_of method.Patch = 2
number_of method.Post = 3
number_of method.Put = 4

-- The test for a method among others.
abbrev pub has : List Method → Method → Bool
has [] m = false
has (n ∷ ns) m = (number_of n == number_of m) || has ns m

has_first : (n : Method) (ns : List Method) → has (n ∷ ns) n ≡ true
has_first method.Delete ns = refl
has_first method.Get ns = refl
has_first method.Patch ns = refl
has_first method.Post ns = refl
has_first method.Put ns = refl

at_position : (ns : List Method) (m : Method) (k : ℕ) → k < length ns → slice_index_or ns k m ≡ m → has ns m ≡ true
at_position [] m k less e = absurd (omega (arith, less))
at_position (n ∷ ns) m zero less e = subst (λ (x : Method). has (n ∷ ns) x ≡ true) e (has_first n ns)
at_position (n ∷ ns) m (suc k) less e = or_right (number_of n == number_of m) (has ns m) (at_position ns m k (omega (arith, less)) e)

pub listed_method : (ns : List Method) (m : Method) → Contains ns m → has ns m ≡ true
listed_method ns m (k, less, e) = at_position ns m k less e
