-- Values where they are.
use Rattle.std.specs.Prelude.{List, map}
use Rattle.std.specs.Borrow.{Bor}

abbrev pub values_now : {A : Type 0} → List (Bor A) → List A
values_now xs = map (λ x. x.now) xs
