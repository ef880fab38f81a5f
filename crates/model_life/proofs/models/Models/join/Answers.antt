use Rattle.std.proofs.Common.{◌≡◌, ◌+◌, ◌<◌, IsSome, false, length, None, sym, ap, ◌∙◌, subst, arith}
use Rattle.std.specs.List.{AllByRecursion, sum_by}
use Rattle.dt_base.specs.names.Grammar.{Identifier}
use Rattle.dtdl_terms.specs.Sets.{InOrder, interface_at}
use Rattle.extend_resolve.specs.Breaches.{BreaksNoRule, IsSound}
use Rattle.model_life.specs.resolution.Resolving.{LacksNone}
use Rattle.model_life.proofs.resolution.Changes.{all_map}
use Rattle.model_life.specs.sets.Changing.{with_uploads, is_one_of, without_interfaces}
use Rattle.model_life.proofs.sets.Looking.{AreAbsent}
use Rattle.model_life.specs.Models.{interfaces_of, model_at, with_new_models}
use Rattle.model_life.specs.Sums.{AllTake, AreWithinLimits}
use Rattle.model_life.specs.Machinery.Keeping.{models_of, recorded, share_of, share_at, written_at, AreWritten, RecordsFit, IsKept}
use Rattle.model_life.proofs.Seen.{seen_all, none_seen}
use Rattle.model_life.proofs.Taking.{all_take, past_sum, exact_sum}
use Rattle.model_life.proofs.Whole.{length_seen, within_limits}
use Rattle.model_life.proofs.Growing.{texts_of}
use Rattle.model_life.proofs.Joining.{joined_apart, joined_rules, joined_whole, joined_ordered, back, back_fits, back_models, back_written, back_kept, joined_there, joined_before, joined_length, joined_bytes, joined_shares, length_joined, bytes_joined, joined_declared}
use Rattle.model_life.proofs.models.Models.join.Goals as goal

pub grow-requires-clause-absent : goal.grow-requires-clause-absent
grow-requires-clause-absent c =
    let absent : AreAbsent c.self.inside.set c.args.new =
    all_map (λ u. model_at u.interface.id c.args.self.now ≡ None) (λ u. interface_at u.interface.id c.self.inside.set ≡ None) c.args.new (λ u h. none_seen u.interface.id c.self.inside.set c.self.inside.records c.args.self.now c.self.view_is h) c.requires.new in
    absent

pub grow-requires-clause-apart : goal.grow-requires-clause-apart
grow-requires-clause-apart c =
    let absent : AreAbsent c.self.inside.set c.args.new =
    all_map (λ u. model_at u.interface.id c.args.self.now ≡ None) (λ u. interface_at u.interface.id c.self.inside.set ≡ None) c.args.new (λ u h. none_seen u.interface.id c.self.inside.set c.self.inside.records c.args.self.now c.self.view_is h) c.requires.new in
    let sound : IsSound c.self.inside.set c.args.new = subst (λ s. IsSound s c.args.new) (ap interfaces_of (sym c.self.view_is) ∙ seen_all c.self.inside.set c.self.inside.records) c.requires.sound in
    joined_apart c.args.new c.args.ids.now c.self.inside.set c.self.inside.records c.self.inside.users c.self.inside.shares c.self.inside.bytes c.self.inside.resolved c.self.invariant c.requires.ids absent sound

pub grow-requires-clause-whole : goal.grow-requires-clause-whole
grow-requires-clause-whole c =
    let absent : AreAbsent c.self.inside.set c.args.new =
    all_map (λ u. model_at u.interface.id c.args.self.now ≡ None) (λ u. interface_at u.interface.id c.self.inside.set ≡ None) c.args.new (λ u h. none_seen u.interface.id c.self.inside.set c.self.inside.records c.args.self.now c.self.view_is h) c.requires.new in
    let sound : IsSound c.self.inside.set c.args.new = subst (λ s. IsSound s c.args.new) (ap interfaces_of (sym c.self.view_is) ∙ seen_all c.self.inside.set c.self.inside.records) c.requires.sound in
    joined_whole c.args.new c.args.ids.now c.self.inside.set c.self.inside.records c.self.inside.users c.self.inside.shares c.self.inside.bytes c.self.inside.resolved c.self.invariant c.requires.ids absent sound

pub shrink-requires-clause-ordered : goal.shrink-requires-clause-ordered
shrink-requires-clause-ordered c =
    let absent : AreAbsent c.self.inside.set c.args.new =
    all_map (λ u. model_at u.interface.id c.args.self.now ≡ None) (λ u. interface_at u.interface.id c.self.inside.set ≡ None) c.args.new (λ u h. none_seen u.interface.id c.self.inside.set c.self.inside.records c.args.self.now c.self.view_is h) c.requires.new in
    let sound : IsSound c.self.inside.set c.args.new = subst (λ s. IsSound s c.args.new) (ap interfaces_of (sym c.self.view_is) ∙ seen_all c.self.inside.set c.self.inside.records) c.requires.sound in
    subst InOrder (sym c.in-Ok.ensures.ok) (joined_ordered c.args.new c.args.ids.now c.self.inside.set c.self.inside.records c.self.inside.users c.self.inside.shares c.self.inside.bytes c.self.inside.resolved c.self.invariant c.requires.ids absent sound)

pub shrink-requires-clause-texts : goal.shrink-requires-clause-texts
shrink-requires-clause-texts c =
    let absent : AreAbsent c.self.inside.set c.args.new =
    all_map (λ u. model_at u.interface.id c.args.self.now ≡ None) (λ u. interface_at u.interface.id c.self.inside.set ≡ None) c.args.new (λ u h. none_seen u.interface.id c.self.inside.set c.self.inside.records c.args.self.now c.self.view_is h) c.requires.new in
    let sound : IsSound c.self.inside.set c.args.new = subst (λ s. IsSound s c.args.new) (ap interfaces_of (sym c.self.view_is) ∙ seen_all c.self.inside.set c.self.inside.records) c.requires.sound in
    texts_of c.grow.new.set c.grow.new.records (subst LacksNone (sym c.in-Ok.ensures.ok) (joined_whole c.args.new c.args.ids.now c.self.inside.set c.self.inside.records c.self.inside.users c.self.inside.shares c.self.inside.bytes c.self.inside.resolved c.self.invariant c.requires.ids absent sound)) c.grow.ensures.fits.records

pub invariant_of-self-then-bytes-gt-MOST_MODEL_BYTES : goal.invariant_of-self-then-bytes-gt-MOST_MODEL_BYTES
invariant_of-self-then-bytes-gt-MOST_MODEL_BYTES c =
    let absent : AreAbsent c.self.inside.set c.args.new =
    all_map (λ u. model_at u.interface.id c.args.self.now ≡ None) (λ u. interface_at u.interface.id c.self.inside.set ≡ None) c.args.new (λ u h. none_seen u.interface.id c.self.inside.set c.self.inside.records c.args.self.now c.self.view_is h) c.requires.new in
    let sound : IsSound c.self.inside.set c.args.new = subst (λ s. IsSound s c.args.new) (ap interfaces_of (sym c.self.view_is) ∙ seen_all c.self.inside.set c.self.inside.records) c.requires.sound in
    let fits : RecordsFit (with_uploads c.args.new c.self.inside.set) c.grow.new.records c.grow.new.users = subst (λ s. RecordsFit s c.grow.new.records c.grow.new.users) c.in-Ok.ensures.ok c.grow.ensures.fits in
    let kept : IsKept c.self.inside.set c.shrink.new.records c.shrink.new.users c.self.inside.shares c.self.inside.bytes c.self.inside.resolved =
    back_kept c.args.new c.args.ids.now c.self.inside.set c.self.inside.records c.self.inside.users c.self.inside.shares c.self.inside.bytes c.self.inside.resolved c.self.invariant c.requires.ids absent sound c.shrink.new.records c.shrink.new.users c.self.inside.shares
    (back_fits c.args.new c.args.ids.now c.self.inside.set c.self.inside.records c.self.inside.users c.self.inside.shares c.self.inside.bytes c.self.inside.resolved c.self.invariant c.requires.ids absent sound c.grow.new.records c.shrink.new.records c.grow.new.users c.shrink.new.users fits c.shrink.ensures.records c.shrink.ensures.users) c.self.invariant.written in
    subst (λ s. IsKept s c.shrink.new.records c.shrink.new.users c.self.inside.shares c.self.inside.bytes c.self.inside.resolved) (sym (c.shrink.ensures.set ∙ ap (without_interfaces c.args.ids.now) c.in-Ok.ensures.ok ∙ back c.args.new c.args.ids.now c.self.inside.set c.self.inside.records c.self.inside.users c.self.inside.shares c.self.inside.bytes c.self.inside.resolved c.self.invariant c.requires.ids absent sound)) kept

pub returns-then-bytes-gt-MOST_MODEL_BYTES-clause-err : goal.returns-then-bytes-gt-MOST_MODEL_BYTES-clause-err
returns-then-bytes-gt-MOST_MODEL_BYTES-clause-err c =
    let absent : AreAbsent c.self.inside.set c.args.new =
    all_map (λ u. model_at u.interface.id c.args.self.now ≡ None) (λ u. interface_at u.interface.id c.self.inside.set ≡ None) c.args.new (λ u h. none_seen u.interface.id c.self.inside.set c.self.inside.records c.args.self.now c.self.view_is h) c.requires.new in
    let sound : IsSound c.self.inside.set c.args.new = subst (λ s. IsSound s c.args.new) (ap interfaces_of (sym c.self.view_is) ∙ seen_all c.self.inside.set c.self.inside.records) c.requires.sound in
    let view : models_of (with_uploads c.args.new c.self.inside.set) c.grow.new.records ≡ with_new_models c.args.new (models_of c.self.inside.set c.self.inside.records) = sym (ap (λ s. models_of s c.grow.new.records) c.in-Ok.ensures.ok) ∙ c.in-Ok.ensures.models in
    ap (λ s. models_of s c.shrink.new.records) (c.shrink.ensures.set ∙ ap (without_interfaces c.args.ids.now) c.in-Ok.ensures.ok)
    ∙ back_models c.args.new c.args.ids.now c.self.inside.set c.self.inside.records c.self.inside.users c.self.inside.shares c.self.inside.bytes c.self.inside.resolved c.self.invariant c.requires.ids absent sound c.grow.new.records c.shrink.new.records view c.shrink.ensures.records
    ∙ c.self.view_is

pub returns-then-bytes-gt-MOST_MODEL_BYTES-clause-end : goal.returns-then-bytes-gt-MOST_MODEL_BYTES-clause-end
returns-then-bytes-gt-MOST_MODEL_BYTES-clause-end c =
    let absent : AreAbsent c.self.inside.set c.args.new =
    all_map (λ u. model_at u.interface.id c.args.self.now ≡ None) (λ u. interface_at u.interface.id c.self.inside.set ≡ None) c.args.new (λ u h. none_seen u.interface.id c.self.inside.set c.self.inside.records c.args.self.now c.self.view_is h) c.requires.new in
    let sound : IsSound c.self.inside.set c.args.new = subst (λ s. IsSound s c.args.new) (ap interfaces_of (sym c.self.view_is) ∙ seen_all c.self.inside.set c.self.inside.records) c.requires.sound in
    let fits : RecordsFit (with_uploads c.args.new c.self.inside.set) c.grow.new.records c.grow.new.users = subst (λ s. RecordsFit s c.grow.new.records c.grow.new.users) c.in-Ok.ensures.ok c.grow.ensures.fits in
    let view : models_of (with_uploads c.args.new c.self.inside.set) c.grow.new.records ≡ with_new_models c.args.new c.args.self.now = sym (ap (λ s. models_of s c.grow.new.records) c.in-Ok.ensures.ok) ∙ c.in-Ok.ensures.models ∙ ap (with_new_models c.args.new) c.self.view_is in
    let many : length (with_new_models c.args.new c.args.self.now) ≡ length c.self.inside.set + length c.args.new = length_joined c.args.new c.args.ids.now c.self.inside.set c.self.inside.records c.self.inside.users c.self.inside.shares c.self.inside.bytes c.self.inside.resolved c.self.invariant c.requires.ids absent sound c.grow.new.records c.args.self.now view in
    let own : length c.self.inside.set ≡ length c.args.self.now = sym (length_seen c.self.inside.set c.self.inside.records) ∙ ap length c.self.view_is in
    let few = c.requires.few in (
      c.requires.new,
      c.requires.sound,
      (
        λ h. omega (arith, many, own, few, h),
        subst (λ n. 67108864 < n) (sym (bytes_joined c.args.new c.args.ids.now c.self.inside.set c.self.inside.records c.self.inside.users c.self.inside.shares c.self.inside.bytes c.self.inside.resolved c.self.invariant c.requires.ids absent sound c.grow.new.records c.grow.new.users c.args.self.now fits view))
            (past_sum c.self.inside.bytes (recorded c.grow.new.records c.args.ids.now) c.bytes_of.result c.saturating_add-bytes.result 67108864 c.bytes_of.ensures c.saturating_add-bytes.ensures c.if-bytes-gt-MOST_MODEL_BYTES.true),
      ),
    )

pub add-requires-clause-sound : goal.add-requires-clause-sound
add-requires-clause-sound c =
    let absent : AreAbsent c.self.inside.set c.args.new =
    all_map (λ u. model_at u.interface.id c.args.self.now ≡ None) (λ u. interface_at u.interface.id c.self.inside.set ≡ None) c.args.new (λ u h. none_seen u.interface.id c.self.inside.set c.self.inside.records c.args.self.now c.self.view_is h) c.requires.new in
    let sound : IsSound c.self.inside.set c.args.new = subst (λ s. IsSound s c.args.new) (ap interfaces_of (sym c.self.view_is) ∙ seen_all c.self.inside.set c.self.inside.records) c.requires.sound in
    subst BreaksNoRule (sym c.in-Ok.ensures.ok) (joined_rules c.args.new c.args.ids.now c.self.inside.set c.self.inside.records c.self.inside.users c.self.inside.shares c.self.inside.bytes c.self.inside.resolved c.self.invariant c.requires.ids absent sound)

pub add-requires-clause-ordered : goal.add-requires-clause-ordered
add-requires-clause-ordered c =
    let absent : AreAbsent c.self.inside.set c.args.new =
    all_map (λ u. model_at u.interface.id c.args.self.now ≡ None) (λ u. interface_at u.interface.id c.self.inside.set ≡ None) c.args.new (λ u h. none_seen u.interface.id c.self.inside.set c.self.inside.records c.args.self.now c.self.view_is h) c.requires.new in
    let sound : IsSound c.self.inside.set c.args.new = subst (λ s. IsSound s c.args.new) (ap interfaces_of (sym c.self.view_is) ∙ seen_all c.self.inside.set c.self.inside.records) c.requires.sound in
    subst InOrder (sym c.in-Ok.ensures.ok) (joined_ordered c.args.new c.args.ids.now c.self.inside.set c.self.inside.records c.self.inside.users c.self.inside.shares c.self.inside.bytes c.self.inside.resolved c.self.invariant c.requires.ids absent sound)

pub add-requires-clause-there : goal.add-requires-clause-there
add-requires-clause-there c =
    let absent : AreAbsent c.self.inside.set c.args.new =
    all_map (λ u. model_at u.interface.id c.args.self.now ≡ None) (λ u. interface_at u.interface.id c.self.inside.set ≡ None) c.args.new (λ u h. none_seen u.interface.id c.self.inside.set c.self.inside.records c.args.self.now c.self.view_is h) c.requires.new in
    let sound : IsSound c.self.inside.set c.args.new = subst (λ s. IsSound s c.args.new) (ap interfaces_of (sym c.self.view_is) ∙ seen_all c.self.inside.set c.self.inside.records) c.requires.sound in
    subst (λ s. AllByRecursion (λ id. IsSome (interface_at id s)) c.args.ids.now) (sym c.in-Ok.ensures.ok) (joined_there c.args.new c.args.ids.now c.self.inside.set c.self.inside.records c.self.inside.users c.self.inside.shares c.self.inside.bytes c.self.inside.resolved c.self.invariant c.requires.ids absent sound)

pub add-requires-clause-before : goal.add-requires-clause-before
add-requires-clause-before c =
    let absent : AreAbsent c.self.inside.set c.args.new =
    all_map (λ u. model_at u.interface.id c.args.self.now ≡ None) (λ u. interface_at u.interface.id c.self.inside.set ≡ None) c.args.new (λ u h. none_seen u.interface.id c.self.inside.set c.self.inside.records c.args.self.now c.self.view_is h) c.requires.new in
    let sound : IsSound c.self.inside.set c.args.new = subst (λ s. IsSound s c.args.new) (ap interfaces_of (sym c.self.view_is) ∙ seen_all c.self.inside.set c.self.inside.records) c.requires.sound in
    subst (λ s. (q : Identifier) → is_one_of c.args.ids.now q ≡ false → written_at q c.self.inside.shares ≡ share_at s q) (sym c.in-Ok.ensures.ok) (joined_before c.args.new c.args.ids.now c.self.inside.set c.self.inside.records c.self.inside.users c.self.inside.shares c.self.inside.bytes c.self.inside.resolved c.self.invariant c.requires.ids absent sound)

pub shrink-requires-in_default-add-clause-ordered : goal.shrink-requires-in_default-add-clause-ordered
shrink-requires-in_default-add-clause-ordered c =
    let absent : AreAbsent c.self.inside.set c.args.new =
    all_map (λ u. model_at u.interface.id c.args.self.now ≡ None) (λ u. interface_at u.interface.id c.self.inside.set ≡ None) c.args.new (λ u h. none_seen u.interface.id c.self.inside.set c.self.inside.records c.args.self.now c.self.view_is h) c.requires.new in
    let sound : IsSound c.self.inside.set c.args.new = subst (λ s. IsSound s c.args.new) (ap interfaces_of (sym c.self.view_is) ∙ seen_all c.self.inside.set c.self.inside.records) c.requires.sound in
    subst InOrder (sym c.in-Ok.ensures.ok) (joined_ordered c.args.new c.args.ids.now c.self.inside.set c.self.inside.records c.self.inside.users c.self.inside.shares c.self.inside.bytes c.self.inside.resolved c.self.invariant c.requires.ids absent sound)

pub shrink-requires-in_default-add-clause-texts : goal.shrink-requires-in_default-add-clause-texts
shrink-requires-in_default-add-clause-texts c =
    let absent : AreAbsent c.self.inside.set c.args.new =
    all_map (λ u. model_at u.interface.id c.args.self.now ≡ None) (λ u. interface_at u.interface.id c.self.inside.set ≡ None) c.args.new (λ u h. none_seen u.interface.id c.self.inside.set c.self.inside.records c.args.self.now c.self.view_is h) c.requires.new in
    let sound : IsSound c.self.inside.set c.args.new = subst (λ s. IsSound s c.args.new) (ap interfaces_of (sym c.self.view_is) ∙ seen_all c.self.inside.set c.self.inside.records) c.requires.sound in
    texts_of c.grow.new.set c.grow.new.records (subst LacksNone (sym c.in-Ok.ensures.ok) (joined_whole c.args.new c.args.ids.now c.self.inside.set c.self.inside.records c.self.inside.users c.self.inside.shares c.self.inside.bytes c.self.inside.resolved c.self.invariant c.requires.ids absent sound)) c.grow.ensures.fits.records

pub shrink-requires-then-resolved-gt-MOST_RESOLVED_BYTES-clause-ordered : goal.shrink-requires-then-resolved-gt-MOST_RESOLVED_BYTES-clause-ordered
shrink-requires-then-resolved-gt-MOST_RESOLVED_BYTES-clause-ordered c =
    let absent : AreAbsent c.self.inside.set c.args.new =
    all_map (λ u. model_at u.interface.id c.args.self.now ≡ None) (λ u. interface_at u.interface.id c.self.inside.set ≡ None) c.args.new (λ u h. none_seen u.interface.id c.self.inside.set c.self.inside.records c.args.self.now c.self.view_is h) c.requires.new in
    let sound : IsSound c.self.inside.set c.args.new = subst (λ s. IsSound s c.args.new) (ap interfaces_of (sym c.self.view_is) ∙ seen_all c.self.inside.set c.self.inside.records) c.requires.sound in
    subst InOrder (sym c.in-Ok.ensures.ok) (joined_ordered c.args.new c.args.ids.now c.self.inside.set c.self.inside.records c.self.inside.users c.self.inside.shares c.self.inside.bytes c.self.inside.resolved c.self.invariant c.requires.ids absent sound)

pub shrink-requires-then-resolved-gt-MOST_RESOLVED_BYTES-clause-texts : goal.shrink-requires-then-resolved-gt-MOST_RESOLVED_BYTES-clause-texts
shrink-requires-then-resolved-gt-MOST_RESOLVED_BYTES-clause-texts c =
    let absent : AreAbsent c.self.inside.set c.args.new =
    all_map (λ u. model_at u.interface.id c.args.self.now ≡ None) (λ u. interface_at u.interface.id c.self.inside.set ≡ None) c.args.new (λ u h. none_seen u.interface.id c.self.inside.set c.self.inside.records c.args.self.now c.self.view_is h) c.requires.new in
    let sound : IsSound c.self.inside.set c.args.new = subst (λ s. IsSound s c.args.new) (ap interfaces_of (sym c.self.view_is) ∙ seen_all c.self.inside.set c.self.inside.records) c.requires.sound in
    texts_of c.grow.new.set c.grow.new.records (subst LacksNone (sym c.in-Ok.ensures.ok) (joined_whole c.args.new c.args.ids.now c.self.inside.set c.self.inside.records c.self.inside.users c.self.inside.shares c.self.inside.bytes c.self.inside.resolved c.self.invariant c.requires.ids absent sound)) c.grow.ensures.fits.records

pub invariant_of-self-in_default-add : goal.invariant_of-self-in_default-add
invariant_of-self-in_default-add c =
    let absent : AreAbsent c.self.inside.set c.args.new =
    all_map (λ u. model_at u.interface.id c.args.self.now ≡ None) (λ u. interface_at u.interface.id c.self.inside.set ≡ None) c.args.new (λ u h. none_seen u.interface.id c.self.inside.set c.self.inside.records c.args.self.now c.self.view_is h) c.requires.new in
    let sound : IsSound c.self.inside.set c.args.new = subst (λ s. IsSound s c.args.new) (ap interfaces_of (sym c.self.view_is) ∙ seen_all c.self.inside.set c.self.inside.records) c.requires.sound in
    let fits : RecordsFit (with_uploads c.args.new c.self.inside.set) c.grow.new.records c.grow.new.users = subst (λ s. RecordsFit s c.grow.new.records c.grow.new.users) c.in-Ok.ensures.ok c.grow.ensures.fits in
    let kept : IsKept c.self.inside.set c.shrink-in_default-add.new.records c.shrink-in_default-add.new.users c.remove_all.new.shares c.self.inside.bytes c.self.inside.resolved =
    back_kept c.args.new c.args.ids.now c.self.inside.set c.self.inside.records c.self.inside.users c.self.inside.shares c.self.inside.bytes c.self.inside.resolved c.self.invariant c.requires.ids absent sound c.shrink-in_default-add.new.records c.shrink-in_default-add.new.users c.remove_all.new.shares
    (back_fits c.args.new c.args.ids.now c.self.inside.set c.self.inside.records c.self.inside.users c.self.inside.shares c.self.inside.bytes c.self.inside.resolved c.self.invariant c.requires.ids absent sound c.grow.new.records c.shrink-in_default-add.new.records c.grow.new.users c.shrink-in_default-add.new.users fits c.shrink-in_default-add.ensures.records c.shrink-in_default-add.ensures.users) (back_written c.args.new c.args.ids.now c.self.inside.set c.self.inside.records c.self.inside.users c.self.inside.shares c.self.inside.bytes c.self.inside.resolved c.self.invariant c.requires.ids absent sound c.add.new.self c.remove_all.new.shares c.add.ensures.others c.remove_all.ensures) in
    subst (λ s. IsKept s c.shrink-in_default-add.new.records c.shrink-in_default-add.new.users c.remove_all.new.shares c.self.inside.bytes c.self.inside.resolved) (sym (c.shrink-in_default-add.ensures.set ∙ ap (without_interfaces c.args.ids.now) c.in-Ok.ensures.ok ∙ back c.args.new c.args.ids.now c.self.inside.set c.self.inside.records c.self.inside.users c.self.inside.shares c.self.inside.bytes c.self.inside.resolved c.self.invariant c.requires.ids absent sound)) kept

pub returns-in_default-add-clause-err : goal.returns-in_default-add-clause-err
returns-in_default-add-clause-err c =
    let absent : AreAbsent c.self.inside.set c.args.new =
    all_map (λ u. model_at u.interface.id c.args.self.now ≡ None) (λ u. interface_at u.interface.id c.self.inside.set ≡ None) c.args.new (λ u h. none_seen u.interface.id c.self.inside.set c.self.inside.records c.args.self.now c.self.view_is h) c.requires.new in
    let sound : IsSound c.self.inside.set c.args.new = subst (λ s. IsSound s c.args.new) (ap interfaces_of (sym c.self.view_is) ∙ seen_all c.self.inside.set c.self.inside.records) c.requires.sound in
    let view : models_of (with_uploads c.args.new c.self.inside.set) c.grow.new.records ≡ with_new_models c.args.new (models_of c.self.inside.set c.self.inside.records) = sym (ap (λ s. models_of s c.grow.new.records) c.in-Ok.ensures.ok) ∙ c.in-Ok.ensures.models in
    ap (λ s. models_of s c.shrink-in_default-add.new.records) (c.shrink-in_default-add.ensures.set ∙ ap (without_interfaces c.args.ids.now) c.in-Ok.ensures.ok)
    ∙ back_models c.args.new c.args.ids.now c.self.inside.set c.self.inside.records c.self.inside.users c.self.inside.shares c.self.inside.bytes c.self.inside.resolved c.self.invariant c.requires.ids absent sound c.grow.new.records c.shrink-in_default-add.new.records view c.shrink-in_default-add.ensures.records
    ∙ c.self.view_is

pub invariant_of-self-then-resolved-gt-MOST_RESOLVED_BYTES : goal.invariant_of-self-then-resolved-gt-MOST_RESOLVED_BYTES
invariant_of-self-then-resolved-gt-MOST_RESOLVED_BYTES c =
    let absent : AreAbsent c.self.inside.set c.args.new =
    all_map (λ u. model_at u.interface.id c.args.self.now ≡ None) (λ u. interface_at u.interface.id c.self.inside.set ≡ None) c.args.new (λ u h. none_seen u.interface.id c.self.inside.set c.self.inside.records c.args.self.now c.self.view_is h) c.requires.new in
    let sound : IsSound c.self.inside.set c.args.new = subst (λ s. IsSound s c.args.new) (ap interfaces_of (sym c.self.view_is) ∙ seen_all c.self.inside.set c.self.inside.records) c.requires.sound in
    let fits : RecordsFit (with_uploads c.args.new c.self.inside.set) c.grow.new.records c.grow.new.users = subst (λ s. RecordsFit s c.grow.new.records c.grow.new.users) c.in-Ok.ensures.ok c.grow.ensures.fits in
    let kept : IsKept c.self.inside.set c.shrink-then-resolved-gt-MOST_RESOLVED_BYTES.new.records c.shrink-then-resolved-gt-MOST_RESOLVED_BYTES.new.users c.remove_all-then-resolved-gt-MOST_RESOLVED_BYTES.new.shares c.self.inside.bytes c.self.inside.resolved =
    back_kept c.args.new c.args.ids.now c.self.inside.set c.self.inside.records c.self.inside.users c.self.inside.shares c.self.inside.bytes c.self.inside.resolved c.self.invariant c.requires.ids absent sound c.shrink-then-resolved-gt-MOST_RESOLVED_BYTES.new.records c.shrink-then-resolved-gt-MOST_RESOLVED_BYTES.new.users c.remove_all-then-resolved-gt-MOST_RESOLVED_BYTES.new.shares
    (back_fits c.args.new c.args.ids.now c.self.inside.set c.self.inside.records c.self.inside.users c.self.inside.shares c.self.inside.bytes c.self.inside.resolved c.self.invariant c.requires.ids absent sound c.grow.new.records c.shrink-then-resolved-gt-MOST_RESOLVED_BYTES.new.records c.grow.new.users c.shrink-then-resolved-gt-MOST_RESOLVED_BYTES.new.users fits c.shrink-then-resolved-gt-MOST_RESOLVED_BYTES.ensures.records c.shrink-then-resolved-gt-MOST_RESOLVED_BYTES.ensures.users) (back_written c.args.new c.args.ids.now c.self.inside.set c.self.inside.records c.self.inside.users c.self.inside.shares c.self.inside.bytes c.self.inside.resolved c.self.invariant c.requires.ids absent sound c.add.new.self c.remove_all-then-resolved-gt-MOST_RESOLVED_BYTES.new.shares c.add.ensures.others c.remove_all-then-resolved-gt-MOST_RESOLVED_BYTES.ensures) in
    subst (λ s. IsKept s c.shrink-then-resolved-gt-MOST_RESOLVED_BYTES.new.records c.shrink-then-resolved-gt-MOST_RESOLVED_BYTES.new.users c.remove_all-then-resolved-gt-MOST_RESOLVED_BYTES.new.shares c.self.inside.bytes c.self.inside.resolved) (sym (c.shrink-then-resolved-gt-MOST_RESOLVED_BYTES.ensures.set ∙ ap (without_interfaces c.args.ids.now) c.in-Ok.ensures.ok ∙ back c.args.new c.args.ids.now c.self.inside.set c.self.inside.records c.self.inside.users c.self.inside.shares c.self.inside.bytes c.self.inside.resolved c.self.invariant c.requires.ids absent sound)) kept

pub returns-then-resolved-gt-MOST_RESOLVED_BYTES-clause-err : goal.returns-then-resolved-gt-MOST_RESOLVED_BYTES-clause-err
returns-then-resolved-gt-MOST_RESOLVED_BYTES-clause-err c =
    let absent : AreAbsent c.self.inside.set c.args.new =
    all_map (λ u. model_at u.interface.id c.args.self.now ≡ None) (λ u. interface_at u.interface.id c.self.inside.set ≡ None) c.args.new (λ u h. none_seen u.interface.id c.self.inside.set c.self.inside.records c.args.self.now c.self.view_is h) c.requires.new in
    let sound : IsSound c.self.inside.set c.args.new = subst (λ s. IsSound s c.args.new) (ap interfaces_of (sym c.self.view_is) ∙ seen_all c.self.inside.set c.self.inside.records) c.requires.sound in
    let view : models_of (with_uploads c.args.new c.self.inside.set) c.grow.new.records ≡ with_new_models c.args.new (models_of c.self.inside.set c.self.inside.records) = sym (ap (λ s. models_of s c.grow.new.records) c.in-Ok.ensures.ok) ∙ c.in-Ok.ensures.models in
    ap (λ s. models_of s c.shrink-then-resolved-gt-MOST_RESOLVED_BYTES.new.records) (c.shrink-then-resolved-gt-MOST_RESOLVED_BYTES.ensures.set ∙ ap (without_interfaces c.args.ids.now) c.in-Ok.ensures.ok)
    ∙ back_models c.args.new c.args.ids.now c.self.inside.set c.self.inside.records c.self.inside.users c.self.inside.shares c.self.inside.bytes c.self.inside.resolved c.self.invariant c.requires.ids absent sound c.grow.new.records c.shrink-then-resolved-gt-MOST_RESOLVED_BYTES.new.records view c.shrink-then-resolved-gt-MOST_RESOLVED_BYTES.ensures.records
    ∙ c.self.view_is

pub returns-then-resolved-gt-MOST_RESOLVED_BYTES-clause-end : goal.returns-then-resolved-gt-MOST_RESOLVED_BYTES-clause-end
returns-then-resolved-gt-MOST_RESOLVED_BYTES-clause-end c =
    let absent : AreAbsent c.self.inside.set c.args.new =
    all_map (λ u. model_at u.interface.id c.args.self.now ≡ None) (λ u. interface_at u.interface.id c.self.inside.set ≡ None) c.args.new (λ u h. none_seen u.interface.id c.self.inside.set c.self.inside.records c.args.self.now c.self.view_is h) c.requires.new in
    let sound : IsSound c.self.inside.set c.args.new = subst (λ s. IsSound s c.args.new) (ap interfaces_of (sym c.self.view_is) ∙ seen_all c.self.inside.set c.self.inside.records) c.requires.sound in
    let fits : RecordsFit (with_uploads c.args.new c.self.inside.set) c.grow.new.records c.grow.new.users = subst (λ s. RecordsFit s c.grow.new.records c.grow.new.users) c.in-Ok.ensures.ok c.grow.ensures.fits in
    let view : models_of (with_uploads c.args.new c.self.inside.set) c.grow.new.records ≡ with_new_models c.args.new c.args.self.now = sym (ap (λ s. models_of s c.grow.new.records) c.in-Ok.ensures.ok) ∙ c.in-Ok.ensures.models ∙ ap (with_new_models c.args.new) c.self.view_is in
    let many : length (with_new_models c.args.new c.args.self.now) ≡ length c.self.inside.set + length c.args.new = length_joined c.args.new c.args.ids.now c.self.inside.set c.self.inside.records c.self.inside.users c.self.inside.shares c.self.inside.bytes c.self.inside.resolved c.self.invariant c.requires.ids absent sound c.grow.new.records c.args.self.now view in
    let own : length c.self.inside.set ≡ length c.args.self.now = sym (length_seen c.self.inside.set c.self.inside.records) ∙ ap length c.self.view_is in
    let few = c.requires.few in
    let bytes : c.saturating_add-bytes.result ≡ c.self.inside.bytes + recorded c.grow.new.records c.args.ids.now =
    (let low = c.if-bytes-gt-MOST_MODEL_BYTES.false in exact_sum c.self.inside.bytes (recorded c.grow.new.records c.args.ids.now) c.bytes_of.result c.saturating_add-bytes.result c.bytes_of.ensures c.saturating_add-bytes.ensures (omega (arith, low))) in
    let low = c.if-bytes-gt-MOST_MODEL_BYTES.false in
    let take : AllTake (interfaces_of (with_new_models c.args.new c.args.self.now)) (sum_by (share_of (with_uploads c.args.new c.self.inside.set)) (with_uploads c.args.new c.self.inside.set)) =
    subst (λ s. AllTake s (sum_by (share_of (with_uploads c.args.new c.self.inside.set)) (with_uploads c.args.new c.self.inside.set))) (sym (seen_all (with_uploads c.args.new c.self.inside.set) c.grow.new.records) ∙ ap interfaces_of view)
    (all_take (with_uploads c.args.new c.self.inside.set) (joined_rules c.args.new c.args.ids.now c.self.inside.set c.self.inside.records c.self.inside.users c.self.inside.shares c.self.inside.bytes c.self.inside.resolved c.self.invariant c.requires.ids absent sound) (joined_declared c.args.new c.args.ids.now c.self.inside.set c.self.inside.records c.self.inside.users c.self.inside.shares c.self.inside.bytes c.self.inside.resolved c.self.invariant c.requires.ids absent sound c.requires.declared) (joined_ordered c.args.new c.args.ids.now c.self.inside.set c.self.inside.records c.self.inside.users c.self.inside.shares c.self.inside.bytes c.self.inside.resolved c.self.invariant c.requires.ids absent sound)) in
    let all = bytes_joined c.args.new c.args.ids.now c.self.inside.set c.self.inside.records c.self.inside.users c.self.inside.shares c.self.inside.bytes c.self.inside.resolved c.self.invariant c.requires.ids absent sound c.grow.new.records c.grow.new.users c.args.self.now fits view in (
      c.requires.new,
      c.requires.sound,
      (
        λ h. omega (arith, many, own, few, h),
        λ h. omega (arith, all, bytes, low, h),
        (
          sum_by (share_of (with_uploads c.args.new c.self.inside.set)) (with_uploads c.args.new c.self.inside.set),
          take,
          subst (λ n. 268435456 < n) (sym (joined_shares c.args.new c.args.ids.now c.self.inside.set c.self.inside.records c.self.inside.users c.self.inside.shares c.self.inside.bytes c.self.inside.resolved c.self.invariant c.requires.ids absent sound))
              (subst (λ s. 268435456 < c.self.inside.resolved + sum_by (share_at s) c.args.ids.now) c.in-Ok.ensures.ok (c.in-Ok-add.ensures.past c.if-resolved-gt-MOST_RESOLVED_BYTES.true)),
        ),
      ),
    )

pub invariant_of-self-2 : goal.invariant_of-self-2
invariant_of-self-2 c =
    let absent : AreAbsent c.self.inside.set c.args.new =
    all_map (λ u. model_at u.interface.id c.args.self.now ≡ None) (λ u. interface_at u.interface.id c.self.inside.set ≡ None) c.args.new (λ u h. none_seen u.interface.id c.self.inside.set c.self.inside.records c.args.self.now c.self.view_is h) c.requires.new in
    let sound : IsSound c.self.inside.set c.args.new = subst (λ s. IsSound s c.args.new) (ap interfaces_of (sym c.self.view_is) ∙ seen_all c.self.inside.set c.self.inside.records) c.requires.sound in
    let fits : RecordsFit (with_uploads c.args.new c.self.inside.set) c.grow.new.records c.grow.new.users = subst (λ s. RecordsFit s c.grow.new.records c.grow.new.users) c.in-Ok.ensures.ok c.grow.ensures.fits in
    let bytes : c.saturating_add-bytes.result ≡ c.self.inside.bytes + recorded c.grow.new.records c.args.ids.now =
    (let low = c.if-bytes-gt-MOST_MODEL_BYTES.false in exact_sum c.self.inside.bytes (recorded c.grow.new.records c.args.ids.now) c.bytes_of.result c.saturating_add-bytes.result c.bytes_of.ensures c.saturating_add-bytes.ensures (omega (arith, low))) in
    let low = c.if-bytes-gt-MOST_MODEL_BYTES.false in
    let bounded = c.if-resolved-gt-MOST_RESOLVED_BYTES.false in
    let written : AreWritten (with_uploads c.args.new c.self.inside.set) c.add.new.self = subst (λ s. AreWritten s c.add.new.self) c.in-Ok.ensures.ok (c.in-Ok-add.ensures.all (omega (arith, bounded))) in
    let total : c.in-Ok-add.resolved ≡ c.self.inside.resolved + sum_by (share_at (with_uploads c.args.new c.self.inside.set)) c.args.ids.now =
    subst (λ s. c.in-Ok-add.resolved ≡ c.self.inside.resolved + sum_by (share_at s) c.args.ids.now) c.in-Ok.ensures.ok (c.in-Ok-add.ensures.exact (omega (arith, bounded))) in
    let many : length (with_uploads c.args.new c.self.inside.set) ≡ length c.self.inside.set + length c.args.new = joined_length c.args.new c.args.ids.now c.self.inside.set c.self.inside.records c.self.inside.users c.self.inside.shares c.self.inside.bytes c.self.inside.resolved c.self.invariant c.requires.ids absent sound in
    let own : length c.self.inside.set ≡ length c.args.self.now = sym (length_seen c.self.inside.set c.self.inside.records) ∙ ap length c.self.view_is in
    let few = c.requires.few in
    let kept : IsKept (with_uploads c.args.new c.self.inside.set) c.grow.new.records c.grow.new.users c.add.new.self c.saturating_add-bytes.result c.in-Ok-add.resolved =
    record {
      rules = joined_rules c.args.new c.args.ids.now c.self.inside.set c.self.inside.records c.self.inside.users c.self.inside.shares c.self.inside.bytes c.self.inside.resolved c.self.invariant c.requires.ids absent sound;
      ordered = joined_ordered c.args.new c.args.ids.now c.self.inside.set c.self.inside.records c.self.inside.users c.self.inside.shares c.self.inside.bytes c.self.inside.resolved c.self.invariant c.requires.ids absent sound;
      declared = joined_declared c.args.new c.args.ids.now c.self.inside.set c.self.inside.records c.self.inside.users c.self.inside.shares c.self.inside.bytes c.self.inside.resolved c.self.invariant c.requires.ids absent sound c.requires.declared;
      fits = fits;
      written = written;
      sum = bytes ∙ sym (joined_bytes c.args.new c.args.ids.now c.self.inside.set c.self.inside.records c.self.inside.users c.self.inside.shares c.self.inside.bytes c.self.inside.resolved c.self.invariant c.requires.ids absent sound c.grow.new.records c.grow.new.users fits);
      total = total ∙ sym (joined_shares c.args.new c.args.ids.now c.self.inside.set c.self.inside.records c.self.inside.users c.self.inside.shares c.self.inside.bytes c.self.inside.resolved c.self.invariant c.requires.ids absent sound);
      few = omega (arith, many, own, few);
      small = omega (arith, low);
      bounded = omega (arith, bounded);
    } in
    subst (λ s. IsKept s c.grow.new.records c.grow.new.users c.add.new.self c.saturating_add-bytes.result c.in-Ok-add.resolved) (sym c.in-Ok.ensures.ok) kept

pub returns-clause-end : goal.returns-clause-end
returns-clause-end c =
    let absent : AreAbsent c.self.inside.set c.args.new =
    all_map (λ u. model_at u.interface.id c.args.self.now ≡ None) (λ u. interface_at u.interface.id c.self.inside.set ≡ None) c.args.new (λ u h. none_seen u.interface.id c.self.inside.set c.self.inside.records c.args.self.now c.self.view_is h) c.requires.new in
    let sound : IsSound c.self.inside.set c.args.new = subst (λ s. IsSound s c.args.new) (ap interfaces_of (sym c.self.view_is) ∙ seen_all c.self.inside.set c.self.inside.records) c.requires.sound in
    let fits : RecordsFit (with_uploads c.args.new c.self.inside.set) c.grow.new.records c.grow.new.users = subst (λ s. RecordsFit s c.grow.new.records c.grow.new.users) c.in-Ok.ensures.ok c.grow.ensures.fits in
    let view : models_of (with_uploads c.args.new c.self.inside.set) c.grow.new.records ≡ with_new_models c.args.new c.args.self.now = sym (ap (λ s. models_of s c.grow.new.records) c.in-Ok.ensures.ok) ∙ c.in-Ok.ensures.models ∙ ap (with_new_models c.args.new) c.self.view_is in
    let bytes : c.saturating_add-bytes.result ≡ c.self.inside.bytes + recorded c.grow.new.records c.args.ids.now =
    (let low = c.if-bytes-gt-MOST_MODEL_BYTES.false in exact_sum c.self.inside.bytes (recorded c.grow.new.records c.args.ids.now) c.bytes_of.result c.saturating_add-bytes.result c.bytes_of.ensures c.saturating_add-bytes.ensures (omega (arith, low))) in
    let low = c.if-bytes-gt-MOST_MODEL_BYTES.false in
    let bounded = c.if-resolved-gt-MOST_RESOLVED_BYTES.false in
    let written : AreWritten (with_uploads c.args.new c.self.inside.set) c.add.new.self = subst (λ s. AreWritten s c.add.new.self) c.in-Ok.ensures.ok (c.in-Ok-add.ensures.all (omega (arith, bounded))) in
    let total : c.in-Ok-add.resolved ≡ c.self.inside.resolved + sum_by (share_at (with_uploads c.args.new c.self.inside.set)) c.args.ids.now =
    subst (λ s. c.in-Ok-add.resolved ≡ c.self.inside.resolved + sum_by (share_at s) c.args.ids.now) c.in-Ok.ensures.ok (c.in-Ok-add.ensures.exact (omega (arith, bounded))) in
    let many : length (with_uploads c.args.new c.self.inside.set) ≡ length c.self.inside.set + length c.args.new = joined_length c.args.new c.args.ids.now c.self.inside.set c.self.inside.records c.self.inside.users c.self.inside.shares c.self.inside.bytes c.self.inside.resolved c.self.invariant c.requires.ids absent sound in
    let own : length c.self.inside.set ≡ length c.args.self.now = sym (length_seen c.self.inside.set c.self.inside.records) ∙ ap length c.self.view_is in
    let few = c.requires.few in
    let kept : IsKept (with_uploads c.args.new c.self.inside.set) c.grow.new.records c.grow.new.users c.add.new.self c.saturating_add-bytes.result c.in-Ok-add.resolved =
    record {
      rules = joined_rules c.args.new c.args.ids.now c.self.inside.set c.self.inside.records c.self.inside.users c.self.inside.shares c.self.inside.bytes c.self.inside.resolved c.self.invariant c.requires.ids absent sound;
      ordered = joined_ordered c.args.new c.args.ids.now c.self.inside.set c.self.inside.records c.self.inside.users c.self.inside.shares c.self.inside.bytes c.self.inside.resolved c.self.invariant c.requires.ids absent sound;
      declared = joined_declared c.args.new c.args.ids.now c.self.inside.set c.self.inside.records c.self.inside.users c.self.inside.shares c.self.inside.bytes c.self.inside.resolved c.self.invariant c.requires.ids absent sound c.requires.declared;
      fits = fits;
      written = written;
      sum = bytes ∙ sym (joined_bytes c.args.new c.args.ids.now c.self.inside.set c.self.inside.records c.self.inside.users c.self.inside.shares c.self.inside.bytes c.self.inside.resolved c.self.invariant c.requires.ids absent sound c.grow.new.records c.grow.new.users fits);
      total = total ∙ sym (joined_shares c.args.new c.args.ids.now c.self.inside.set c.self.inside.records c.self.inside.users c.self.inside.shares c.self.inside.bytes c.self.inside.resolved c.self.invariant c.requires.ids absent sound);
      few = omega (arith, many, own, few);
      small = omega (arith, low);
      bounded = omega (arith, bounded);
    } in
    subst AreWithinLimits view (within_limits (with_uploads c.args.new c.self.inside.set) c.grow.new.records c.grow.new.users c.add.new.self c.saturating_add-bytes.result c.in-Ok-add.resolved kept)
