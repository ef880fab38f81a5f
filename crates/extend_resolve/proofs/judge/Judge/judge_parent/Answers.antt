use Rattle.std.proofs.Common.{ℕ, ◌<◌, ◌+◌, length, sym, ◌∙◌, subst, arith}
use Rattle.std.specs.List.{AllByRecursion}
use Rattle.dt_base.specs.names.Grammar.{Identifier}
use Rattle.dtdl_terms.specs.declared.uploaded.Uploaded.{Uploaded}
use Rattle.extend_resolve.specs.SetRules.{NamesParent}
use Rattle.extend_resolve.specs.Machinery.Owners.{AreFresh}
use Rattle.extend_resolve.specs.Machinery.Judges.{KnowsOwners}
use Rattle.extend_resolve.proofs.Members.{placed_within}
use Rattle.extend_resolve.proofs.Owning.{AreNamesBelow, fresh_reached}
use Rattle.extend_resolve.proofs.Judging.{absent_least, owned_skip, owned_more, kept_below, is_reached, reached_below, declared_nodes, names_below}
use Rattle.extend_resolve.proofs.judge.Judge.judge_parent.Goals as goal
use Rattle.extend_resolve.proofs.judge.Judge.judge_parent.Goals.{then-at-count, else-at-count}

-- the identifier of a parent
named : (u : Uploaded) (k : ℕ) → k < length u.interface.parents → (p : Identifier) × NamesParent u.interface k p
named u k low = placed_within u.interface.parents k low

pub returns-in_default-clause-least : goal.returns-in_default-clause-least
returns-in_default-clause-least c =
    absent_least c.args.self.now c.args.index c.args.uploaded.now c.requires.judging c.args.at (named c.args.uploaded.now c.args.at c.requires.at).0 c.found_where.result
    (named c.args.uploaded.now c.args.at c.requires.at).1
    (sym (c.parent_number.ensures _ (named c.args.uploaded.now c.args.at c.requires.at).1) ∙ c.in_default.is) c.found_where.ensures

pub returns-in_default-clause-owned : goal.returns-in_default-clause-owned
returns-in_default-clause-owned c more =
    owned_skip c.args.self.now c.args.index c.args.uploaded.now c.requires.judging c.args.owners.now c.args.at (named c.args.uploaded.now c.args.at c.requires.at).0
    (named c.args.uploaded.now c.args.at c.requires.at).1
    (sym (c.parent_number.ensures _ (named c.args.uploaded.now c.args.at c.requires.at).1) ∙ c.in_default.is) c.requires.owned

pub reach-requires-clause-within : goal.reach-requires-clause-within
reach-requires-clause-within c = kept_below c.args.self.now c.requires.judging.judge (named c.args.uploaded.now c.args.at c.requires.at).0 c.in-Some.parent (sym (c.parent_number.ensures _ (named c.args.uploaded.now c.args.at c.requires.at).1) ∙ c.in-Some.is)

pub judge_reached-found-requires-clause-reached : goal.judge_reached-found-requires-clause-reached
judge_reached-found-requires-clause-reached c =
    is_reached c.args.self.now.world.numbers.entries c.args.self.now.world.links.items c.args.uploaded.now.interface c.args.at (named c.args.uploaded.now c.args.at c.requires.at).0 c.in-Some.parent c.as_slice.result.now c.in_ok-reached.reached.items
    (named c.args.uploaded.now c.args.at c.requires.at).1
    (sym (c.parent_number.ensures _ (named c.args.uploaded.now c.args.at c.requires.at).1) ∙ c.in-Some.is) c.in_ok-reached.ensures.behind c.as_slice.ensures.value

pub add_owners-requires-clause-reached : goal.add_owners-requires-clause-reached
add_owners-requires-clause-reached c =
    subst (λ n. AllByRecursion (λ y. y < n) c.as_slice-then-at-count.result.now) (sym (declared_nodes c.args.self.now c.requires.judging.judge))
    (reached_below c.args.self.now c.requires.judging.judge c.args.uploaded.now.interface c.args.at c.as_slice-then-at-count.result.now
    (is_reached c.args.self.now.world.numbers.entries c.args.self.now.world.links.items c.args.uploaded.now.interface c.args.at (named c.args.uploaded.now c.args.at c.requires.at).0 c.in-Some.parent c.as_slice-then-at-count.result.now c.in_ok-reached.reached.items
    (named c.args.uploaded.now c.args.at c.requires.at).1
    (sym (c.parent_number.ensures _ (named c.args.uploaded.now c.args.at c.requires.at).1) ∙ c.in-Some.is) c.in_ok-reached.ensures.behind c.as_slice-then-at-count.ensures.value))

pub add_owners-requires-clause-names : goal.add_owners-requires-clause-names
add_owners-requires-clause-names c y x h =
    subst (λ n. x < n) (sym c.requires.names) (names_below c.args.self.now c.requires.judging.judge y x h)

pub returns-clause-owned : goal.returns-clause-owned
returns-clause-owned c more =
    elim c.if-at-count.branch [
      | then-at-count w ↦
          subst (λ os. KnowsOwners c.args.self.now os c.args.index c.args.uploaded.now (c.args.at + 1)) (sym (w.owners-is ∙ w.add_owners.ensures))
          (owned_more c.args.self.now c.args.index c.args.uploaded.now c.requires.judging c.args.owners.now c.args.at w.as_slice-then-at-count.result.now
          (is_reached c.args.self.now.world.numbers.entries c.args.self.now.world.links.items c.args.uploaded.now.interface c.args.at (named c.args.uploaded.now c.args.at c.requires.at).0 c.in-Some.parent w.as_slice-then-at-count.result.now c.in_ok-reached.reached.items
          (named c.args.uploaded.now c.args.at c.requires.at).1
          (sym (c.parent_number.ensures _ (named c.args.uploaded.now c.args.at c.requires.at).1) ∙ c.in-Some.is) c.in_ok-reached.ensures.behind w.as_slice-then-at-count.ensures.value)
          c.requires.names c.requires.owned)
      | else-at-count w ↦ absurd (let size = c.len-count.ensures in omega (arith, more, size, w.if-at-count.false))
    ]

pub returns-clause-fresh : goal.returns-clause-fresh
returns-clause-fresh c =
    elim c.if-at-count.branch [
      | then-at-count w ↦
          subst (λ os. AreFresh os (c.args.index + 1) (length c.args.self.now.new.now)) (sym (w.owners-is ∙ w.add_owners.ensures))
          (fresh_reached c.args.self.now.names.declared.items c.args.index c.args.owners.now w.as_slice-then-at-count.result.now (length c.args.self.now.new.now)
          (subst (AreNamesBelow c.args.self.now.names.declared.items 0) (sym c.requires.names) (names_below c.args.self.now c.requires.judging.judge)) c.requires.fresh)
      | else-at-count w ↦ subst (λ os. AreFresh os (c.args.index + 1) (length c.args.self.now.new.now)) (sym w.owners-is) c.requires.fresh
    ]
