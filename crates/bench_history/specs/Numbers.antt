-- The number after an ask.
use Rattle.std.specs.Prelude.{ℕ, ◌+◌, ◌%◌, ◌^◌}
use Rattle.bench_history.specs.declared.number.Ask.{Ask}
use Rattle.bench_history.specs.declared.number.Ask.TheVariants.{Add, Read}

abbrev pub next : ℕ → Ask → ℕ
next s (Add n) = (s + n) % 2 ^ 64
next s Read = s
