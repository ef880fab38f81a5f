use Rattle.std.proofs.Common.{◌≡◌, ℕ, List, refl, sym, subst, ◌∙◌, arith, length, true, false}
use Rattle.std.specs.Prelude.{◌==◌}
use Rattle.std.specs.List.{AllPass}
use Rattle.std.proofs.lemmas.Grind.{common_steps}
use Rattle.std.proofs.lemmas.List.Elements.{All-more}
use Rattle.std.proofs.lemmas.List.{take_all}
use Rattle.twin_value.specs.Breaches.{is_id_byte}
use Rattle.twin_value.proofs.ids.is_twin_id.Goals as goal

pub loop-byte-preserved : goal.loop-byte-preserved
loop-byte-preserved c =
    All-more (λ (x : ℕ). is_id_byte x ≡ true) c.as_bytes-bytes.result.now c.loop-byte.byte-index _ c.loop-byte-test.true c.loop-byte.invariant (sym c.if-not-is_id_byte.ensures)

pub returns : goal.returns
returns c =
    let empty : (length c.as_bytes-bytes.result.now == 0) ≡ false = sym c.is_empty.ensures ∙ c.if-is_empty.false in (
      λ _. rw (sym c.as_bytes-bytes.ensures.value) (record {
        some = grind (arith, common_steps);
        few = c.if-bytes-gt-MOST_BYTES.false;
        each = subst (λ (l : List ℕ). AllPass is_id_byte l) (take_all c.loop-byte.byte-index c.as_bytes-bytes.result.now c.loop-byte-test.false) c.loop-byte.invariant;
      }),
      λ _. refl,
    )
