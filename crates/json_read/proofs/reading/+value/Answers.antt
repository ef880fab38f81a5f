use Rattle.std.proofs.Common.{◌≡◌, ◌<◌, ◌+◌, ◌-◌, ◌∷◌, [], ℕ, suc, length, get_or, true, false, refl, sym, ap, ◌∙◌, arith}
use Rattle.std.proofs.lemmas.Result.{err_from_is_err_and}
use Rattle.json_tree.specs.Values.{null, truth}
use Rattle.json_read.specs.Machinery.Automaton.{value, first_element, first_key, after, as_value, reading, in_array, in_object, next_key}
use Rattle.json_read.proofs.Readings.{outcome_from}
use Rattle.json_read.proofs.EscapeSpans.{leads_map}
use Rattle.json_read.proofs.ValueSpans.{array_begins, array_ends, object_begins, object_ends, array_opens_at, object_opens_at, text_begins, word_begins, text_is, null_is, truth_is, no_elements_are, no_members_are}
use Rattle.std.specs.Option.{option_map}
use Rattle.json_read.proofs.Items.{no_elements_read, element_read, element_comma, element_close, element_fault, no_members_read, member_read, member_comma, member_close, member_fault}
use Rattle.json_read.proofs.reading.+value.Goals as goal

pub array_of-returns-then-byte_at-eq93-clause-read : goal.array_of-returns-then-byte_at-eq93-clause-read
array_of-returns-then-byte_at-eq93-clause-read t c k =
    let mark = c.if-byte_at-eq93.true in
    let within : c.spaces_end-start.result < length c.args.bytes.now = c.byte_at.ensures.within (omega arith) in
    rw (c.found_at.ensures.tree, c.found_at.ensures.range, c.found_at.ensures.at, c.new.ensures)
    (no_elements_are c.args.bytes.now (after (suc c.args.depth) k) (c.spaces_end-start.result + 1) _
    (c.spaces_end-start.ensures.same (first_element c.args.depth k) refl refl refl refl
    ∙ array_ends c.args.bytes.now c.spaces_end-start.result c.args.depth k within (sym c.byte_at.ensures.value ∙ mark)))

pub array_of-returns-clause-read : goal.array_of-returns-clause-read
array_of-returns-clause-read t c k =
    let front = c.spaces_end-start.ensures.same (first_element c.args.depth k) refl refl refl refl
    ∙ array_begins c.args.bytes.now c.spaces_end-start.result c.args.depth k c.spaces_end-start.ensures.all (λ e. c.if-byte_at-eq93.false (c.byte_at.ensures.value ∙ e)) in
    leads_map c.args.bytes.now _ _ c.elements_of.result _ _ front (λ r h. (h.0, h.1, h.2, front ∙ h.3)) (c.elements_of.ensures.read k)

pub object_of-returns-then-byte_at-eq125-clause-read : goal.object_of-returns-then-byte_at-eq125-clause-read
object_of-returns-then-byte_at-eq125-clause-read t c k =
    let mark = c.if-byte_at-eq125.true in
    let within : c.spaces_end-start.result < length c.args.bytes.now = c.byte_at.ensures.within (omega arith) in
    rw (c.found_at.ensures.tree, c.found_at.ensures.range, c.found_at.ensures.at, c.new.ensures)
    (no_members_are c.args.bytes.now (after (suc c.args.depth) k) (c.spaces_end-start.result + 1) _
    (c.spaces_end-start.ensures.same (first_key c.args.depth k) refl refl refl refl
    ∙ object_ends c.args.bytes.now c.spaces_end-start.result c.args.depth k within (sym c.byte_at.ensures.value ∙ mark)))

pub object_of-returns-clause-read : goal.object_of-returns-clause-read
object_of-returns-clause-read t c k =
    let front = c.spaces_end-start.ensures.same (first_key c.args.depth k) refl refl refl refl
    ∙ object_begins c.args.bytes.now c.spaces_end-start.result c.args.depth k c.spaces_end-start.ensures.all (λ e. c.if-byte_at-eq125.false (c.byte_at.ensures.value ∙ e)) in
    leads_map c.args.bytes.now _ _ c.members_of.result _ _ front (λ r h. (h.0, h.1, h.2, front ∙ h.3)) (c.members_of.ensures.read k)

pub value_of-returns-in_err-text-in-34-clause-read : goal.value_of-returns-in_err-text-in-34-clause-read
value_of-returns-in_err-text-in-34-clause-read t c k =
    let mark = c.in-34.is in
    let within : c.spaces_end-at.result < length c.args.bytes.now = c.byte_at.ensures.within (omega arith) in
    let spaces = c.spaces_end-at.ensures.same (value c.args.depth k) refl refl refl refl in
    let byte : get_or c.args.bytes.now c.spaces_end-at.result 0 ≡ 34 = sym c.byte_at.ensures.value ∙ mark in
    let e = err_from_is_err_and c.from_residual.result c.from_residual.ensures.1 in
    rw (e.1, e.2) (outcome_from c.args.bytes.now _ _ _ (spaces ∙ text_begins c.args.bytes.now c.spaces_end-at.result c.args.depth k within byte)
    (c.in_err-text-in-34.ensures.read as_value c.args.depth k))

pub value_of-returns-in_ok-text-in-34-clause-read : goal.value_of-returns-in_ok-text-in-34-clause-read
value_of-returns-in_ok-text-in-34-clause-read t c k =
    let mark = c.in-34.is in
    let within : c.spaces_end-at.result < length c.args.bytes.now = c.byte_at.ensures.within (omega arith) in
    let spaces = c.spaces_end-at.ensures.same (value c.args.depth k) refl refl refl refl in
    let byte : get_or c.args.bytes.now c.spaces_end-at.result 0 ≡ 34 = sym c.byte_at.ensures.value ∙ mark in
    rw (c.found_at.ensures.tree, c.found_at.ensures.range, c.found_at.ensures.at)
    (text_is c.args.bytes.now (after c.args.depth k) c.in_ok-text-in-34.text c.in_ok-text-in-34.end _
    (spaces ∙ text_begins c.args.bytes.now c.spaces_end-at.result c.args.depth k within byte ∙ c.in_ok-text-in-34.ensures.read as_value c.args.depth k))

pub value_of-returns-else-depth-eq0-clause-read : goal.value_of-returns-else-depth-eq0-clause-read
value_of-returns-else-depth-eq0-clause-read t c k =
    let mark = c.in-91.is in
    let within : c.spaces_end-at.result < length c.args.bytes.now = c.byte_at.ensures.within (omega arith) in
    let spaces = c.spaces_end-at.ensures.same (value c.args.depth k) refl refl refl refl in
    let byte : get_or c.args.bytes.now c.spaces_end-at.result 0 ≡ 91 = sym c.byte_at.ensures.value ∙ mark in
    let deep = c.if-depth-eq0.false in
    let some : 0 < c.args.depth = omega arith in
    let more : suc (c.args.depth - 1) ≡ c.args.depth = omega arith in
    let front = spaces ∙ array_opens_at c.args.bytes.now c.spaces_end-at.result c.args.depth k some within byte in
    leads_map c.args.bytes.now _ _ c.array_of.result _ _ front
    (λ r h. (h.0, h.1, h.2, front ∙ h.3 ∙ ap (λ (n : ℕ). reading c.args.bytes.now (after n k h.0) r.at) more))
    (c.array_of.ensures.read k)

pub value_of-returns-else-depth-eq0-2-clause-read : goal.value_of-returns-else-depth-eq0-2-clause-read
value_of-returns-else-depth-eq0-2-clause-read t c k =
    let mark = c.in-123.is in
    let within : c.spaces_end-at.result < length c.args.bytes.now = c.byte_at.ensures.within (omega arith) in
    let spaces = c.spaces_end-at.ensures.same (value c.args.depth k) refl refl refl refl in
    let byte : get_or c.args.bytes.now c.spaces_end-at.result 0 ≡ 123 = sym c.byte_at.ensures.value ∙ mark in
    let deep = c.if-depth-eq0-2.false in
    let some : 0 < c.args.depth = omega arith in
    let more : suc (c.args.depth - 1) ≡ c.args.depth = omega arith in
    let front = spaces ∙ object_opens_at c.args.bytes.now c.spaces_end-at.result c.args.depth k some within byte in
    leads_map c.args.bytes.now _ _ c.object_of.result _ _ front
    (λ r h. (h.0, h.1, h.2, front ∙ h.3 ∙ ap (λ (n : ℕ). reading c.args.bytes.now (after n k h.0) r.at) more))
    (c.object_of.ensures.read k)

pub value_of-returns-in_err-word_end-in-110-clause-read : goal.value_of-returns-in_err-word_end-in-110-clause-read
value_of-returns-in_err-word_end-in-110-clause-read t c k =
    let mark = c.in-110.is in
    let within : c.spaces_end-at.result < length c.args.bytes.now = c.byte_at.ensures.within (omega arith) in
    let spaces = c.spaces_end-at.ensures.same (value c.args.depth k) refl refl refl refl in
    let byte : get_or c.args.bytes.now c.spaces_end-at.result 0 ≡ 110 = sym c.byte_at.ensures.value ∙ mark in
    let e = err_from_is_err_and c.from_residual-in_err-word_end-in-110.result c.from_residual-in_err-word_end-in-110.ensures.1 in
    rw (e.1, e.2) (outcome_from c.args.bytes.now _ _ _ (spaces ∙ word_begins c.args.bytes.now c.spaces_end-at.result 110 (117 ∷ 108 ∷ 108 ∷ []) null c.args.depth k within byte refl)
    (c.in_err-word_end-in-110.ensures.read null c.args.depth k))

pub value_of-returns-in_ok-word_end-in-110-clause-read : goal.value_of-returns-in_ok-word_end-in-110-clause-read
value_of-returns-in_ok-word_end-in-110-clause-read t c k =
    let mark = c.in-110.is in
    let within : c.spaces_end-at.result < length c.args.bytes.now = c.byte_at.ensures.within (omega arith) in
    let spaces = c.spaces_end-at.ensures.same (value c.args.depth k) refl refl refl refl in
    let byte : get_or c.args.bytes.now c.spaces_end-at.result 0 ≡ 110 = sym c.byte_at.ensures.value ∙ mark in
    rw (c.found_at-in-110.ensures.tree, c.found_at-in-110.ensures.range, c.found_at-in-110.ensures.at)
    (null_is c.args.bytes.now (after c.args.depth k) c.in_ok-word_end-in-110.field-0 _
    (spaces ∙ word_begins c.args.bytes.now c.spaces_end-at.result 110 (117 ∷ 108 ∷ 108 ∷ []) null c.args.depth k within byte refl ∙ c.in_ok-word_end-in-110.ensures.read null c.args.depth k))

pub value_of-returns-in_err-word_end-in-116-clause-read : goal.value_of-returns-in_err-word_end-in-116-clause-read
value_of-returns-in_err-word_end-in-116-clause-read t c k =
    let mark = c.in-116.is in
    let within : c.spaces_end-at.result < length c.args.bytes.now = c.byte_at.ensures.within (omega arith) in
    let spaces = c.spaces_end-at.ensures.same (value c.args.depth k) refl refl refl refl in
    let byte : get_or c.args.bytes.now c.spaces_end-at.result 0 ≡ 116 = sym c.byte_at.ensures.value ∙ mark in
    let e = err_from_is_err_and c.from_residual-in_err-word_end-in-116.result c.from_residual-in_err-word_end-in-116.ensures.1 in
    rw (e.1, e.2) (outcome_from c.args.bytes.now _ _ _ (spaces ∙ word_begins c.args.bytes.now c.spaces_end-at.result 116 (114 ∷ 117 ∷ 101 ∷ []) (truth true) c.args.depth k within byte refl)
    (c.in_err-word_end-in-116.ensures.read (truth true) c.args.depth k))

pub value_of-returns-in_ok-word_end-in-116-clause-read : goal.value_of-returns-in_ok-word_end-in-116-clause-read
value_of-returns-in_ok-word_end-in-116-clause-read t c k =
    let mark = c.in-116.is in
    let within : c.spaces_end-at.result < length c.args.bytes.now = c.byte_at.ensures.within (omega arith) in
    let spaces = c.spaces_end-at.ensures.same (value c.args.depth k) refl refl refl refl in
    let byte : get_or c.args.bytes.now c.spaces_end-at.result 0 ≡ 116 = sym c.byte_at.ensures.value ∙ mark in
    rw (c.found_at-in-116.ensures.tree, c.found_at-in-116.ensures.range, c.found_at-in-116.ensures.at)
    (truth_is c.args.bytes.now (after c.args.depth k) true c.in_ok-word_end-in-116.field-0 _
    (spaces ∙ word_begins c.args.bytes.now c.spaces_end-at.result 116 (114 ∷ 117 ∷ 101 ∷ []) (truth true) c.args.depth k within byte refl ∙ c.in_ok-word_end-in-116.ensures.read (truth true) c.args.depth k))

pub value_of-returns-in_err-word_end-in-102-clause-read : goal.value_of-returns-in_err-word_end-in-102-clause-read
value_of-returns-in_err-word_end-in-102-clause-read t c k =
    let mark = c.in-102.is in
    let within : c.spaces_end-at.result < length c.args.bytes.now = c.byte_at.ensures.within (omega arith) in
    let spaces = c.spaces_end-at.ensures.same (value c.args.depth k) refl refl refl refl in
    let byte : get_or c.args.bytes.now c.spaces_end-at.result 0 ≡ 102 = sym c.byte_at.ensures.value ∙ mark in
    let e = err_from_is_err_and c.from_residual-in_err-word_end-in-102.result c.from_residual-in_err-word_end-in-102.ensures.1 in
    rw (e.1, e.2) (outcome_from c.args.bytes.now _ _ _ (spaces ∙ word_begins c.args.bytes.now c.spaces_end-at.result 102 (97 ∷ 108 ∷ 115 ∷ 101 ∷ []) (truth false) c.args.depth k within byte refl)
    (c.in_err-word_end-in-102.ensures.read (truth false) c.args.depth k))

pub value_of-returns-in_ok-word_end-in-102-clause-read : goal.value_of-returns-in_ok-word_end-in-102-clause-read
value_of-returns-in_ok-word_end-in-102-clause-read t c k =
    let mark = c.in-102.is in
    let within : c.spaces_end-at.result < length c.args.bytes.now = c.byte_at.ensures.within (omega arith) in
    let spaces = c.spaces_end-at.ensures.same (value c.args.depth k) refl refl refl refl in
    let byte : get_or c.args.bytes.now c.spaces_end-at.result 0 ≡ 102 = sym c.byte_at.ensures.value ∙ mark in
    rw (c.found_at-in-102.ensures.tree, c.found_at-in-102.ensures.range, c.found_at-in-102.ensures.at)
    (truth_is c.args.bytes.now (after c.args.depth k) false c.in_ok-word_end-in-102.field-0 _
    (spaces ∙ word_begins c.args.bytes.now c.spaces_end-at.result 102 (97 ∷ 108 ∷ 115 ∷ 101 ∷ []) (truth false) c.args.depth k within byte refl ∙ c.in_ok-word_end-in-102.ensures.read (truth false) c.args.depth k))

pub elements_of-elements-init : goal.elements_of-elements-init
elements_of-elements-init t c = record {
  forward = omega arith;
  reached = omega arith;
  within = c.requires;
  read = λ k. rw c.new-items.ensures.items (no_elements_read c.args.bytes.now c.args.depth k c.args.at);
}

pub elements_of-returns-in_err-item-clause-read : goal.elements_of-returns-in_err-item-clause-read
elements_of-returns-in_err-item-clause-read t c k =
    let e = err_from_is_err_and c.from_residual.result c.from_residual.ensures.1 in
    let r = c.elements.invariant.read k in
    rw (e.1, e.2) (outcome_from c.args.bytes.now _ _ _ r.4 (c.in_err-item.ensures.read (in_array r.0 ∷ k)))

pub elements_of-returns-then-mark-eq93-clause-read : goal.elements_of-returns-then-mark-eq93-clause-read
elements_of-returns-then-mark-eq93-clause-read t c k =
    let mark = c.if-mark-eq93.true in
    let within : c.spaces_end-at.result < length c.args.bytes.now = c.byte_at-mark.ensures.within (omega arith) in
    rw c.from_vec.ensures (element_close c.args.bytes.now c.args.depth k c.args.at c.push.new.self.items (option_map (λ v. v.items) c.in_ok-range.range) c.elements.position c.spaces_end-at.result
    (element_read c.args.bytes.now c.args.depth k c.args.at c.elements.items.items (option_map (λ v. v.items) c.elements.range) c.elements.position c.elements.at
    (c.elements.invariant.read k) c.in_ok-item.item.tree (option_map (λ v. v.items) c.in_ok-item.item.range) c.in_ok-item.item.at c.spaces_end-at.result
    c.in_ok-item.ensures.read c.spaces_end-at.ensures.same c.push.new.self.items c.in_ok-push.ensures.items (option_map (λ v. v.items) c.in_ok-range.range) c.in_ok-range.ensures)
    within (sym c.byte_at-mark.ensures.value ∙ mark))

pub elements_of-returns-then-mark-ne44-clause-read : goal.elements_of-returns-then-mark-ne44-clause-read
elements_of-returns-then-mark-ne44-clause-read t c k =
    element_fault c.args.bytes.now c.args.depth k c.args.at c.push.new.self.items (option_map (λ v. v.items) c.in_ok-range.range) c.elements.position c.spaces_end-at.result
    (element_read c.args.bytes.now c.args.depth k c.args.at c.elements.items.items (option_map (λ v. v.items) c.elements.range) c.elements.position c.elements.at
    (c.elements.invariant.read k) c.in_ok-item.item.tree (option_map (λ v. v.items) c.in_ok-item.item.range) c.in_ok-item.item.at c.spaces_end-at.result
    c.in_ok-item.ensures.read c.spaces_end-at.ensures.same c.push.new.self.items c.in_ok-push.ensures.items (option_map (λ v. v.items) c.in_ok-range.range) c.in_ok-range.ensures)
    c.fault_at.result c.fault_at.ensures c.spaces_end-at.ensures.all (λ e. c.if-mark-ne44.true (c.byte_at-mark.ensures.value ∙ e)) (λ e. c.if-mark-eq93.false (c.byte_at-mark.ensures.value ∙ e))

pub elements_of-elements-preserved : goal.elements_of-elements-preserved
elements_of-elements-preserved t c =
    let mark = c.if-mark-ne44.false in
    let within : c.spaces_end-at.result < length c.args.bytes.now = c.byte_at-mark.ensures.within (omega arith) in
    let a = c.elements.invariant.forward in
    let b = c.elements.invariant.reached in
    let d = c.in_ok-item.ensures.forward in
    let e = c.spaces_end-at.ensures.forward in
    record {
      forward = omega (arith, a, d, e);
      reached = omega (arith, b, d, e);
      within = omega (arith, within);
      read = λ k. element_comma c.args.bytes.now c.args.depth k c.args.at c.push.new.self.items (option_map (λ v. v.items) c.in_ok-range.range) c.elements.position c.spaces_end-at.result
          (element_read c.args.bytes.now c.args.depth k c.args.at c.elements.items.items (option_map (λ v. v.items) c.elements.range) c.elements.position c.elements.at
          (c.elements.invariant.read k) c.in_ok-item.item.tree (option_map (λ v. v.items) c.in_ok-item.item.range) c.in_ok-item.item.at c.spaces_end-at.result
          c.in_ok-item.ensures.read c.spaces_end-at.ensures.same c.push.new.self.items c.in_ok-push.ensures.items (option_map (λ v. v.items) c.in_ok-range.range) c.in_ok-range.ensures)
          within (sym c.byte_at-mark.ensures.value ∙ mark);
    }

pub elements_of-returns-clause-read : goal.elements_of-returns-clause-read
elements_of-returns-clause-read t c k =
    let r = c.elements.invariant.read k in
    let reached = c.elements.invariant.reached in
    let out = c.elements-test.false in
    outcome_from c.args.bytes.now _ _ _ r.4 (c.fault_at-2.ensures (value c.args.depth (in_array r.0 ∷ k)) (λ lt. absurd (omega (arith, lt, reached, out))) (λ le. refl))

pub members_of-members-init : goal.members_of-members-init
members_of-members-init t c = record {
  forward = omega arith;
  reached = omega arith;
  within = c.requires;
  read = λ k. rw c.in_ok-members.ensures.items (no_members_read c.args.bytes.now c.args.depth k c.args.at);
}

pub members_of-returns-in_err-key-clause-read : goal.members_of-returns-in_err-key-clause-read
members_of-returns-in_err-key-clause-read t c k =
    let e = err_from_is_err_and c.from_residual-in_err-key.result c.from_residual-in_err-key.ensures.1 in
    let r = c.members.invariant.read k in
    rw (e.1, e.2) (outcome_from c.args.bytes.now _ _ _ r.4 (c.in_err-key.ensures.read c.args.depth k r.0))

pub members_of-returns-in_err-value-clause-read : goal.members_of-returns-in_err-value-clause-read
members_of-returns-in_err-value-clause-read t c k =
    let e = err_from_is_err_and c.from_residual-in_err-value.result c.from_residual-in_err-value.ensures.1 in
    let r = c.members.invariant.read k in
    rw (e.1, e.2) (outcome_from c.args.bytes.now _ _ _ (r.4 ∙ c.in_ok-key.ensures.read c.args.depth k r.0) (c.in_err-value.ensures.read (in_object r.0 c.in_ok-key.key ∷ k)))

pub members_of-returns-then-mark-eq125-clause-read : goal.members_of-returns-then-mark-eq125-clause-read
members_of-returns-then-mark-eq125-clause-read t c k =
    let mark = c.if-mark-eq125.true in
    let within : c.spaces_end-at.result < length c.args.bytes.now = c.byte_at-mark.ensures.within (omega arith) in
    rw c.from_vec.ensures (member_close c.args.bytes.now c.args.depth k c.args.at c.push.new.self.items (option_map (λ v. v.items) c.in_ok-range.range) c.members.position c.spaces_end-at.result
    (member_read c.args.bytes.now c.args.depth k c.args.at c.members.members.items (option_map (λ v. v.items) c.members.range) c.members.position c.members.at
    (c.members.invariant.read k) (record { key = c.in_ok-key.key; value = c.in_ok-value.value.tree }) (option_map (λ v. v.items) c.in_ok-value.value.range) c.in_ok-key.colon c.in_ok-value.value.at c.spaces_end-at.result
    (λ raws. c.in_ok-key.ensures.read c.args.depth k raws)
    c.in_ok-value.ensures.read c.spaces_end-at.ensures.same c.push.new.self.items c.in_ok-push.ensures.items (option_map (λ v. v.items) c.in_ok-range.range) c.in_ok-range.ensures)
    within (sym c.byte_at-mark.ensures.value ∙ mark))

pub members_of-returns-then-mark-ne44-clause-read : goal.members_of-returns-then-mark-ne44-clause-read
members_of-returns-then-mark-ne44-clause-read t c k =
    member_fault c.args.bytes.now c.args.depth k c.args.at c.push.new.self.items (option_map (λ v. v.items) c.in_ok-range.range) c.members.position c.spaces_end-at.result
    (member_read c.args.bytes.now c.args.depth k c.args.at c.members.members.items (option_map (λ v. v.items) c.members.range) c.members.position c.members.at
    (c.members.invariant.read k) (record { key = c.in_ok-key.key; value = c.in_ok-value.value.tree }) (option_map (λ v. v.items) c.in_ok-value.value.range) c.in_ok-key.colon c.in_ok-value.value.at c.spaces_end-at.result
    (λ raws. c.in_ok-key.ensures.read c.args.depth k raws)
    c.in_ok-value.ensures.read c.spaces_end-at.ensures.same c.push.new.self.items c.in_ok-push.ensures.items (option_map (λ v. v.items) c.in_ok-range.range) c.in_ok-range.ensures)
    c.fault_at.result c.fault_at.ensures c.spaces_end-at.ensures.all (λ e. c.if-mark-ne44.true (c.byte_at-mark.ensures.value ∙ e)) (λ e. c.if-mark-eq125.false (c.byte_at-mark.ensures.value ∙ e))

pub members_of-members-preserved : goal.members_of-members-preserved
members_of-members-preserved t c =
    let mark = c.if-mark-ne44.false in
    let within : c.spaces_end-at.result < length c.args.bytes.now = c.byte_at-mark.ensures.within (omega arith) in
    let a = c.members.invariant.forward in
    let b = c.members.invariant.reached in
    let g = c.in_ok-key.ensures.forward in
    let d = c.in_ok-value.ensures.forward in
    let e = c.spaces_end-at.ensures.forward in
    record {
      forward = omega (arith, a, g, d, e);
      reached = omega (arith, b, g, d, e);
      within = omega (arith, within);
      read = λ k. member_comma c.args.bytes.now c.args.depth k c.args.at c.push.new.self.items (option_map (λ v. v.items) c.in_ok-range.range) c.members.position c.spaces_end-at.result
          (member_read c.args.bytes.now c.args.depth k c.args.at c.members.members.items (option_map (λ v. v.items) c.members.range) c.members.position c.members.at
          (c.members.invariant.read k) (record { key = c.in_ok-key.key; value = c.in_ok-value.value.tree }) (option_map (λ v. v.items) c.in_ok-value.value.range) c.in_ok-key.colon c.in_ok-value.value.at c.spaces_end-at.result
          (λ raws. c.in_ok-key.ensures.read c.args.depth k raws)
          c.in_ok-value.ensures.read c.spaces_end-at.ensures.same c.push.new.self.items c.in_ok-push.ensures.items (option_map (λ v. v.items) c.in_ok-range.range) c.in_ok-range.ensures)
          within (sym c.byte_at-mark.ensures.value ∙ mark);
    }

pub members_of-returns-clause-read : goal.members_of-returns-clause-read
members_of-returns-clause-read t c k =
    let r = c.members.invariant.read k in
    let reached = c.members.invariant.reached in
    let out = c.members-test.false in
    outcome_from c.args.bytes.now _ _ _ r.4 (c.fault_at-2.ensures (next_key c.args.depth k r.0) (λ lt. absurd (omega (arith, lt, reached, out))) (λ le. refl))
