use Rattle.std.proofs.Common.{◌≡◌, ℕ, ◌+◌, ◌∷◌, drop, cond, refl, ap, ◌∙◌, arith}
use Rattle.std.specs.Prelude.{IsSome}
use Rattle.dt_base.specs.names.Grammar.{Identifier, id_eq}
use Rattle.dtdl_terms.specs.Sets.{interface_at}
use Rattle.model_life.specs.sets.Changing.{is_one_of}
use Rattle.model_life.proofs.sets.Looking.{eq_tests, at_text}
use Rattle.model_life.specs.Machinery.Keeping.{capped, share_in, share_at, written_at}
use Rattle.model_life.proofs.Using.{drop_next, taken_sum, placed_all, not_there}
use Rattle.model_life.proofs.Taking.{exact, exact_sum}
use Rattle.model_life.proofs.Recorded.{written_next}
use Rattle.model_life.proofs.shares.Shares.add.Goals as goal

pub ids-init : goal.ids-init
ids-init c = record {
  sum = omega arith;
  low = c.requires.low;
  written = c.requires.before;
  others = λ q off. refl;
}

pub write-requires-clause-there : goal.write-requires-clause-there
write-requires-clause-there c = placed_all (λ id. IsSome (interface_at id c.args.set.now)) c.args.ids.now c.ids.id-index c.id-item.result c.requires.there c.ids-test.true c.id-item.is

pub ids-preserved : goal.ids-preserved
ids-preserved c =
    let bounded = c.if-sum-gt-MOST_RESOLVED_BYTES.false in
    let id : Identifier = c.id-item.result in
    let s : ℕ = share_at c.args.set.now id in
    let next : c.saturating_add-sum.result ≡ c.ids.sum + share_at c.args.set.now c.id-item.result =
    exact_sum c.ids.sum s c.in_ok-bytes.bytes c.saturating_add-sum.result c.in_ok-bytes.ensures.bytes c.saturating_add-sum.ensures (omega (arith, bounded)) in
    let so_far = c.ids.invariant.sum in
    let more = taken_sum (share_at c.args.set.now) c.args.ids.now c.ids.id-index id c.ids-test.true c.id-item.is in
    let whole : capped s ≡ s = exact s 268435456 (capped s) refl (omega (arith, next, bounded)) (omega arith) in
    let rest : drop c.ids.id-index c.args.ids.now ≡ id ∷ drop (c.ids.id-index + 1) c.args.ids.now = drop_next c.args.ids.now c.ids.id-index id c.ids-test.true c.id-item.is in
    record {
      sum = omega (arith, next, so_far, more);
      low = omega (arith, bounded);
      written = λ q off.
          written_next (share_at c.args.set.now) id q (drop (c.ids.id-index + 1) c.args.ids.now) (capped s) c.ids.self c.write.new.self
          (λ p same. ap (share_in c.args.set.now) (at_text p id c.args.set.now same)) whole (c.in_ok-bytes.ensures.ok q)
          (λ on. c.ids.invariant.written q (ap (λ xs. is_one_of xs q) rest ∙ on)) off;
      others = λ q off.
          c.in_ok-bytes.ensures.ok q
          ∙ ap (λ b. cond b (capped s) (written_at q c.ids.self)) (eq_tests q id ∙ not_there (id_eq q) c.args.ids.now c.ids.id-index id c.ids-test.true c.id-item.is off)
          ∙ c.ids.invariant.others q off;
    }

pub returns-then-sum-gt-MOST_RESOLVED_BYTES-clause-others : goal.returns-then-sum-gt-MOST_RESOLVED_BYTES-clause-others
returns-then-sum-gt-MOST_RESOLVED_BYTES-clause-others c q off =
    let id : Identifier = c.id-item.result in
    c.in_ok-bytes.ensures.ok q
    ∙ ap (λ b. cond b (capped (share_at c.args.set.now id)) (written_at q c.ids.self)) (eq_tests q id ∙ not_there (id_eq q) c.args.ids.now c.ids.id-index id c.ids-test.true c.id-item.is off)
    ∙ c.ids.invariant.others q off
