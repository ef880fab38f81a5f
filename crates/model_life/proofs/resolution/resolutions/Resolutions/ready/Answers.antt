use Rattle.std.proofs.Common.{◌≡◌, inl, inr, [], Result, Ok, Err, OnOk, Some, sym, ap, ◌∙◌, subst}
use Rattle.std.specs.Prelude.{IsSome, OnErr}
use Rattle.std.specs.Option.{is_some}
use Rattle.dt_base.specs.names.Grammar.{Identifier}
use Rattle.dtdl_terms.specs.Sets.{interface_at}
use Rattle.model_life.specs.resolution.Resolving.{IsResolved, entry_at, HoldsRight}
use Rattle.model_life.proofs.resolution.Families.{some_of}
use Rattle.model_life.proofs.resolution.Holding.{none_right, put_right, put_there}
use Rattle.model_life.proofs.resolution.resolutions.Resolutions.ready.Goals as goal

on_ok_more : {T E : Type 0} (r : Result T E) {P Q : Type 0} → (P → Q) → OnOk r P → OnOk r Q
on_ok_more (Ok x) f h = f h
on_ok_more (Err e) f h = tt

at_each_end : {T E : Type 0} (r : Result T E) {P Q R : Type 0} → (P → R) → (Q → R) → OnOk r P → OnErr r Q → R
at_each_end (Ok x) f g h k = f h
at_each_end (Err e) f g h k = g k

pub returns-clause-held : goal.returns-clause-held
returns-clause-held c =
    on_ok_more c.hold.result
    (λ h.
    subst (λ (q : Identifier). IsSome (entry_at q c.hold.new.self)) c.in_ok-key.ensures
    (ap is_some
    (elim h [
      | inl is ↦ put_there c.in_ok-key.key c.in-Ok.resolved c.args.self.now c.hold.new.self is
      | inr is ↦ put_there c.in_ok-key.key c.in-Ok.resolved [] c.hold.new.self is
    ]))) c.hold.ensures.ok

pub returns-clause-right : goal.returns-clause-right
returns-clause-right c =
    let one = some_of (interface_at c.args.id.now c.args.set.now) c.requires.there in
    let found : interface_at c.in_ok-key.key c.args.set.now ≡ Some one.0 = ap (λ (q : Identifier). interface_at q c.args.set.now) c.in_ok-key.ensures ∙ one.1 in
    let resolved : IsResolved c.args.set.now one.0 c.in-Ok.resolved = c.in-Ok.ensures one.0 one.1 in
    at_each_end c.hold.result
    (λ h.
    elim h [
      | inl is ↦ put_right c.args.set.now c.in_ok-key.key one.0 c.in-Ok.resolved c.args.self.now c.hold.new.self found resolved is c.requires.right
      | inr is ↦ put_right c.args.set.now c.in_ok-key.key one.0 c.in-Ok.resolved [] c.hold.new.self found resolved is (none_right c.args.set.now)
    ])
    (λ h.
    elim h [
      | inl is ↦ subst (HoldsRight c.args.set.now) (sym is) c.requires.right
      | inr is ↦ subst (HoldsRight c.args.set.now) (sym is) (none_right c.args.set.now)
    ]) c.hold.ensures.ok c.hold.ensures.err
