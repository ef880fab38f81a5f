use Rattle.std.proofs.Common.{◌≡◌, ℕ, ◌≤◌, List, refl, sym, subst, length, take, true, arith}
use Rattle.std.specs.List.{AllPass}
use Rattle.std.proofs.lemmas.Grind.{common_steps}
use Rattle.std.proofs.lemmas.List.Elements.{All-more}
use Rattle.std.proofs.lemmas.List.{take_all}
use Rattle.dt_base.specs.names.Grammar.{is_name_byte}
use Rattle.dt_base.proofs.names.name.are_name_bytes.Goals as goal

pub loop-byte-preserved : goal.loop-byte-preserved
loop-byte-preserved c =
    All-more (λ (x : ℕ). is_name_byte x ≡ true) c.args.bytes.now c.loop-byte.byte-index _ c.loop-byte-test.true c.loop-byte.invariant (sym c.if-not-is_name_byte.ensures)

pub returns : goal.returns
returns c = (
  λ _. subst (λ (l : List ℕ). AllPass is_name_byte l) (take_all c.loop-byte.byte-index c.args.bytes.now c.loop-byte-test.false) c.loop-byte.invariant,
  λ _. refl,
)
