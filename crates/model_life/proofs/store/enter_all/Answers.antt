use Rattle.std.proofs.Common.{◌≡◌, ◌∷◌, ◌++◌, [], map, List, sym, ap, ◌∙◌, subst, append_assoc}
use Rattle.dtdl_terms.specs.Sets.{InOrder, interface_at, with_interface}
use Rattle.dtdl_terms.specs.declared.uploaded.Uploaded.{Uploaded}
use Rattle.model_life.specs.sets.Changing.{is_one_of, HaveDistinctIds}
use Rattle.model_life.proofs.sets.Looking.{AreAbsent}
use Rattle.model_life.proofs.Recorded.{absent_next, with_more, others_next, records_next, interfaces_kept, ordered_kept}
use Rattle.model_life.proofs.store.enter_all.Goals as goal

pub enter-requires : goal.enter-requires
enter-requires c =
    let u : Uploaded = c.in-Some.upload in
    let rest : List Uploaded = c.next.new.self.rest.items in
    let split : c.new.yielded ++ c.in-Some.upload ∷ c.next.new.self.rest.items ≡ c.args.new = ap (λ r. c.new.yielded ++ r) (sym c.in-Some.ensures.steps.0) ∙ c.new.invariant.whole in
    ap (interface_at u.interface.id) c.new.invariant.set
    ∙ absent_next c.new.yielded u rest c.args.set.now (subst (AreAbsent c.args.set.now) (sym split) c.requires.absent) (subst (λ us. HaveDistinctIds (map (λ (v : Uploaded). v.interface) us)) (sym split) c.requires.apart)

pub new-preserved : goal.new-preserved
new-preserved c =
    let u : Uploaded = c.in-Some.upload in
    let rest : List Uploaded = c.next.new.self.rest.items in
    let split : c.new.yielded ++ c.in-Some.upload ∷ c.next.new.self.rest.items ≡ c.args.new = ap (λ r. c.new.yielded ++ r) (sym c.in-Some.ensures.steps.0) ∙ c.new.invariant.whole in
    record {
      whole = append_assoc c.new.yielded (u ∷ []) rest ∙ split;
      set = c.in_ok-enter.ensures.ok ∙ ap (with_interface u.interface) c.new.invariant.set ∙ sym (with_more c.new.yielded u c.args.set.now);
      records = records_next c.new.yielded u rest c.new.records c.enter.new.records (subst (λ us. HaveDistinctIds (map (λ (v : Uploaded). v.interface) us)) (sym split) c.requires.apart) c.in_ok-enter.ensures.record c.new.invariant.records;
      others = λ q off. let both = others_next c.new.yielded u [] q off in c.enter.ensures.others q both.1 ∙ c.new.invariant.others q both.0;
    }

pub new-preserved-in_ok-enter : goal.new-preserved-in_ok-enter
new-preserved-in_ok-enter c =
    let u : Uploaded = c.in-Some.upload in
    let rest : List Uploaded = c.next.new.self.rest.items in
    let split : c.new.yielded ++ c.in-Some.upload ∷ c.next.new.self.rest.items ≡ c.args.new = ap (λ r. c.new.yielded ++ r) (sym c.in-Some.ensures.steps.0) ∙ c.new.invariant.whole in
    record {
      whole = append_assoc c.new.yielded (u ∷ []) rest ∙ split;
      set = c.in_ok-enter.ensures.ok ∙ ap (with_interface u.interface) c.new.invariant.set ∙ sym (with_more c.new.yielded u c.args.set.now);
      records = records_next c.new.yielded u rest c.new.records c.enter.new.records (subst (λ us. HaveDistinctIds (map (λ (v : Uploaded). v.interface) us)) (sym split) c.requires.apart) c.in_ok-enter.ensures.record c.new.invariant.records;
      others = λ q off. let both = others_next c.new.yielded u [] q off in c.enter.ensures.others q both.1 ∙ c.new.invariant.others q both.0;
    }

pub returns-in_err-enter-clause-ordered : goal.returns-in_err-enter-clause-ordered
returns-in_err-enter-clause-ordered c =
    let u : Uploaded = c.in-Some.upload in
    let rest : List Uploaded = c.next.new.self.rest.items in
    let split : c.new.yielded ++ c.in-Some.upload ∷ c.next.new.self.rest.items ≡ c.args.new = ap (λ r. c.new.yielded ++ r) (sym c.in-Some.ensures.steps.0) ∙ c.new.invariant.whole in
    subst InOrder (sym (c.in_err-enter.ensures.err ∙ c.new.invariant.set))
    (ordered_kept c.new.yielded (u ∷ rest) c.args.set.now c.requires.ordered (subst (AreAbsent c.args.set.now) (sym split) c.requires.absent) (subst (λ us. HaveDistinctIds (map (λ (v : Uploaded). v.interface) us)) (sym split) c.requires.apart))

pub returns-in_err-enter-clause-interfaces : goal.returns-in_err-enter-clause-interfaces
returns-in_err-enter-clause-interfaces c q off =
    let u : Uploaded = c.in-Some.upload in
    let rest : List Uploaded = c.next.new.self.rest.items in
    let split : c.new.yielded ++ c.in-Some.upload ∷ c.next.new.self.rest.items ≡ c.args.new = ap (λ r. c.new.yielded ++ r) (sym c.in-Some.ensures.steps.0) ∙ c.new.invariant.whole in
    ap (interface_at q) (c.in_err-enter.ensures.err ∙ c.new.invariant.set)
    ∙ interfaces_kept c.new.yielded (u ∷ rest) c.args.set.now (subst (AreAbsent c.args.set.now) (sym split) c.requires.absent) (subst (λ us. HaveDistinctIds (map (λ (v : Uploaded). v.interface) us)) (sym split) c.requires.apart) q
    (ap (λ us. is_one_of (map (λ (v : Uploaded). v.interface.id) us) q) split ∙ off)

pub returns-in_err-enter-clause-others : goal.returns-in_err-enter-clause-others
returns-in_err-enter-clause-others c q off =
    let u : Uploaded = c.in-Some.upload in
    let rest : List Uploaded = c.next.new.self.rest.items in
    let split : c.new.yielded ++ c.in-Some.upload ∷ c.next.new.self.rest.items ≡ c.args.new = ap (λ r. c.new.yielded ++ r) (sym c.in-Some.ensures.steps.0) ∙ c.new.invariant.whole in
    let both = others_next c.new.yielded u rest q (ap (λ us. is_one_of (map (λ (v : Uploaded). v.interface.id) us) q) split ∙ off) in
    c.enter.ensures.others q both.1 ∙ c.new.invariant.others q both.0

pub returns-clause-ordered : goal.returns-clause-ordered
returns-clause-ordered c =
    let rest : List Uploaded = c.new.upload-iterator.rest.items in
    subst InOrder (sym c.new.invariant.set)
    (ordered_kept c.new.yielded rest c.args.set.now c.requires.ordered (subst (AreAbsent c.args.set.now) (sym c.new.invariant.whole) c.requires.absent) (subst (λ us. HaveDistinctIds (map (λ (v : Uploaded). v.interface) us)) (sym c.new.invariant.whole) c.requires.apart))

pub returns-clause-interfaces : goal.returns-clause-interfaces
returns-clause-interfaces c q off =
    let rest : List Uploaded = c.new.upload-iterator.rest.items in
    ap (interface_at q) c.new.invariant.set
    ∙ interfaces_kept c.new.yielded rest c.args.set.now (subst (AreAbsent c.args.set.now) (sym c.new.invariant.whole) c.requires.absent) (subst (λ us. HaveDistinctIds (map (λ (v : Uploaded). v.interface) us)) (sym c.new.invariant.whole) c.requires.apart) q
    (ap (λ us. is_one_of (map (λ (v : Uploaded). v.interface.id) us) q) c.new.invariant.whole ∙ off)
