use Rattle.std.proofs.Common.{◌≡◌, map, false, refl, sym, ap, ◌∙◌, subst}
use Rattle.dt_base.specs.names.Grammar.{Identifier}
use Rattle.dtdl_terms.specs.Sets.{interface_at}
use Rattle.model_life.specs.sets.Changing.{with_uploads, is_one_of}
use Rattle.model_life.specs.Machinery.Keeping.{models_of, HaveTexts, UsersAreWithin}
use Rattle.model_life.proofs.Growing.{AreRecords, rolled_back, records_back, models_same, fits_same, users_back, texts_of, joined_records, within_joined, joined_models}
use Rattle.model_life.proofs.store.grow.Goals as goal

pub returns-in_default-clause-err : goal.returns-in_default-clause-err
returns-in_default-clause-err c =
    c.leave_all.ensures.set
    ∙ rolled_back c.args.new c.args.ids.now c.args.set.now c.enter_all.new.set c.requires.ids c.requires.ordered c.enter_all.ensures.ordered c.requires.absent c.enter_all.ensures.interfaces

pub returns-in_default-clause-same : goal.returns-in_default-clause-same
returns-in_default-clause-same c =
    ap (λ s. models_of s c.leave_all.new.records)
    (c.leave_all.ensures.set
    ∙ rolled_back c.args.new c.args.ids.now c.args.set.now c.enter_all.new.set c.requires.ids c.requires.ordered c.enter_all.ensures.ordered c.requires.absent c.enter_all.ensures.interfaces)
    ∙ models_same c.args.set.now c.args.records.now c.leave_all.new.records
    (records_back c.args.new c.args.ids.now c.args.set.now c.args.records.now c.enter_all.new.records c.leave_all.new.records c.requires.ids c.requires.absent c.requires.fits.records c.enter_all.ensures.others c.leave_all.ensures.records)

pub returns-in_default-clause-fits : goal.returns-in_default-clause-fits
returns-in_default-clause-fits c =
    fits_same c.args.set.now c.leave_all.new.set c.args.records.now c.leave_all.new.records c.args.users.now c.args.users.now
    (c.leave_all.ensures.set
    ∙ rolled_back c.args.new c.args.ids.now c.args.set.now c.enter_all.new.set c.requires.ids c.requires.ordered c.enter_all.ensures.ordered c.requires.absent c.enter_all.ensures.interfaces)
    (records_back c.args.new c.args.ids.now c.args.set.now c.args.records.now c.enter_all.new.records c.leave_all.new.records c.requires.ids c.requires.absent c.requires.fits.records c.enter_all.ensures.others c.leave_all.ensures.records)
    (λ t u. refl) c.requires.fits

pub link_all-requires-clause-texts : goal.link_all-requires-clause-texts
link_all-requires-clause-texts c =
    let others : (q : Identifier) → is_one_of (map (λ u. u.interface.id) c.args.new) q ≡ false → interface_at q (with_uploads c.args.new c.args.set.now) ≡ interface_at q c.args.set.now =
    λ q off. ap (interface_at q) (sym c.in-Ok.ensures.ok) ∙ c.enter_all.ensures.interfaces q off in
    subst (λ s. HaveTexts s c.enter_all.new.records) (sym c.in-Ok.ensures.ok)
    (texts_of (with_uploads c.args.new c.args.set.now) c.enter_all.new.records c.requires.whole
    (joined_records c.args.new c.args.set.now c.requires.absent c.requires.apart c.args.records.now c.enter_all.new.records c.requires.fits.records c.in-Ok.ensures.records others c.enter_all.ensures.others))

pub link_all-requires-clause-within : goal.link_all-requires-clause-within
link_all-requires-clause-within c =
    let others : (q : Identifier) → is_one_of (map (λ u. u.interface.id) c.args.new) q ≡ false → interface_at q (with_uploads c.args.new c.args.set.now) ≡ interface_at q c.args.set.now =
    λ q off. ap (interface_at q) (sym c.in-Ok.ensures.ok) ∙ c.enter_all.ensures.interfaces q off in
    subst (λ s. UsersAreWithin s c.args.users.now) (sym c.in-Ok.ensures.ok)
    (within_joined c.args.new c.args.set.now c.requires.absent c.requires.apart c.args.users.now c.requires.fits.users others)

pub shrink-requires-clause-texts : goal.shrink-requires-clause-texts
shrink-requires-clause-texts c =
    let others : (q : Identifier) → is_one_of (map (λ u. u.interface.id) c.args.new) q ≡ false → interface_at q (with_uploads c.args.new c.args.set.now) ≡ interface_at q c.args.set.now =
    λ q off. ap (interface_at q) (sym c.in-Ok.ensures.ok) ∙ c.enter_all.ensures.interfaces q off in
    subst (λ s. HaveTexts s c.enter_all.new.records) (sym c.in-Ok.ensures.ok)
    (texts_of (with_uploads c.args.new c.args.set.now) c.enter_all.new.records c.requires.whole
    (joined_records c.args.new c.args.set.now c.requires.absent c.requires.apart c.args.records.now c.enter_all.new.records c.requires.fits.records c.in-Ok.ensures.records others c.enter_all.ensures.others))

pub returns-in_default-link_all-clause-err : goal.returns-in_default-link_all-clause-err
returns-in_default-link_all-clause-err c =
    c.shrink.ensures.set
    ∙ rolled_back c.args.new c.args.ids.now c.args.set.now c.enter_all.new.set c.requires.ids c.requires.ordered c.enter_all.ensures.ordered c.requires.absent c.enter_all.ensures.interfaces

pub returns-in_default-link_all-clause-same : goal.returns-in_default-link_all-clause-same
returns-in_default-link_all-clause-same c =
    ap (λ s. models_of s c.shrink.new.records)
    (c.shrink.ensures.set
    ∙ rolled_back c.args.new c.args.ids.now c.args.set.now c.enter_all.new.set c.requires.ids c.requires.ordered c.enter_all.ensures.ordered c.requires.absent c.enter_all.ensures.interfaces)
    ∙ models_same c.args.set.now c.args.records.now c.shrink.new.records
    (records_back c.args.new c.args.ids.now c.args.set.now c.args.records.now c.enter_all.new.records c.shrink.new.records c.requires.ids c.requires.absent c.requires.fits.records c.enter_all.ensures.others c.shrink.ensures.records)

pub returns-in_default-link_all-clause-fits : goal.returns-in_default-link_all-clause-fits
returns-in_default-link_all-clause-fits c =
    fits_same c.args.set.now c.shrink.new.set c.args.records.now c.shrink.new.records c.args.users.now c.shrink.new.users
    (c.shrink.ensures.set
    ∙ rolled_back c.args.new c.args.ids.now c.args.set.now c.enter_all.new.set c.requires.ids c.requires.ordered c.enter_all.ensures.ordered c.requires.absent c.enter_all.ensures.interfaces)
    (records_back c.args.new c.args.ids.now c.args.set.now c.args.records.now c.enter_all.new.records c.shrink.new.records c.requires.ids c.requires.absent c.requires.fits.records c.enter_all.ensures.others c.shrink.ensures.records)
    (users_back c.args.new c.args.ids.now c.args.set.now c.args.users.now c.link_all.new.users c.shrink.new.users c.requires.ids c.requires.absent c.requires.fits.users c.link_all.ensures.others c.shrink.ensures.users)
    c.requires.fits

pub returns-clause-models : goal.returns-clause-models
returns-clause-models c =
    ap (λ s. models_of s c.enter_all.new.records) c.in-Ok.ensures.ok
    ∙ joined_models c.args.new c.args.set.now c.args.records.now c.enter_all.new.records c.requires.ordered c.requires.absent c.in-Ok.ensures.records c.enter_all.ensures.others

pub returns-clause-fits : goal.returns-clause-fits
returns-clause-fits c =
    let others : (q : Identifier) → is_one_of (map (λ u. u.interface.id) c.args.new) q ≡ false → interface_at q (with_uploads c.args.new c.args.set.now) ≡ interface_at q c.args.set.now =
    λ q off. ap (interface_at q) (sym c.in-Ok.ensures.ok) ∙ c.enter_all.ensures.interfaces q off in
    record {
      records = subst (λ s. AreRecords s c.enter_all.new.records) (sym c.in-Ok.ensures.ok)
          (joined_records c.args.new c.args.set.now c.requires.absent c.requires.apart c.args.records.now c.enter_all.new.records c.requires.fits.records c.in-Ok.ensures.records others c.enter_all.ensures.others);
      users = c.in-Ok-link_all.ensures.ok;
    }
