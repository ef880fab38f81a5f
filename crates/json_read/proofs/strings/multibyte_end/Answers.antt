use Rattle.std.proofs.Common.{◌<◌, length, sym, ◌∙◌, arith}
use Rattle.json_read.specs.Machinery.Automaton.{after_e0, after_ed, after_f0, after_f4, two_tails, three_tails}
use Rattle.json_read.proofs.TextSpans.{copies_c2, copies_e0, copies_e1, copies_ed, copies_ee, copies_f0, copies_f1, copies_f4, narrows_two, narrows_three, narrows_e0, narrows_ed, narrows_f0, narrows_f4}
use Rattle.json_read.proofs.strings.multibyte_end.Goals as goal

pub returns-in-194-to-223-clause-read : goal.returns-in-194-to-223-clause-read
returns-in-194-to-223-clause-read c =
    let value = c.byte_at.ensures.value in
    let high = c.requires in
    let within : c.args.at < length c.args.bytes.now = c.byte_at.ensures.within (omega arith) in
    copies_c2 c.args.bytes.now c.args.at c.tail_end.result within (omega arith) (omega arith) c.tail_end.ensures.within c.tail_end.ensures.read

pub returns-in-224-clause-read : goal.returns-in-224-clause-read
returns-in-224-clause-read c =
    let value = c.byte_at.ensures.value in
    let high = c.requires in
    let within : c.args.at < length c.args.bytes.now = c.byte_at.ensures.within (omega arith) in
    copies_e0 c.args.bytes.now c.args.at c.second_end.result within (sym value ∙ c.in-224.is) c.second_end.ensures.within (c.second_end.ensures.read after_e0 narrows_e0)

pub returns-in-225-to-236-clause-read : goal.returns-in-225-to-236-clause-read
returns-in-225-to-236-clause-read c =
    let value = c.byte_at.ensures.value in
    let high = c.requires in
    let within : c.args.at < length c.args.bytes.now = c.byte_at.ensures.within (omega arith) in
    copies_e1 c.args.bytes.now c.args.at c.second_end-in-225-to-236.result within (omega arith) (omega arith) c.second_end-in-225-to-236.ensures.within (c.second_end-in-225-to-236.ensures.read two_tails narrows_two)

pub returns-in-237-clause-read : goal.returns-in-237-clause-read
returns-in-237-clause-read c =
    let value = c.byte_at.ensures.value in
    let high = c.requires in
    let within : c.args.at < length c.args.bytes.now = c.byte_at.ensures.within (omega arith) in
    copies_ed c.args.bytes.now c.args.at c.second_end-in-237.result within (sym value ∙ c.in-237.is) c.second_end-in-237.ensures.within (c.second_end-in-237.ensures.read after_ed narrows_ed)

pub returns-in-238-to-239-clause-read : goal.returns-in-238-to-239-clause-read
returns-in-238-to-239-clause-read c =
    let value = c.byte_at.ensures.value in
    let high = c.requires in
    let within : c.args.at < length c.args.bytes.now = c.byte_at.ensures.within (omega arith) in
    copies_ee c.args.bytes.now c.args.at c.second_end-in-238-to-239.result within (omega arith) (omega arith) c.second_end-in-238-to-239.ensures.within (c.second_end-in-238-to-239.ensures.read two_tails narrows_two)

pub returns-in-240-clause-read : goal.returns-in-240-clause-read
returns-in-240-clause-read c =
    let value = c.byte_at.ensures.value in
    let high = c.requires in
    let within : c.args.at < length c.args.bytes.now = c.byte_at.ensures.within (omega arith) in
    copies_f0 c.args.bytes.now c.args.at c.third_end.result within (sym value ∙ c.in-240.is) c.third_end.ensures.within (c.third_end.ensures.read after_f0 narrows_f0)

pub returns-in-241-to-243-clause-read : goal.returns-in-241-to-243-clause-read
returns-in-241-to-243-clause-read c =
    let value = c.byte_at.ensures.value in
    let high = c.requires in
    let within : c.args.at < length c.args.bytes.now = c.byte_at.ensures.within (omega arith) in
    copies_f1 c.args.bytes.now c.args.at c.third_end-in-241-to-243.result within (omega arith) (omega arith) c.third_end-in-241-to-243.ensures.within (c.third_end-in-241-to-243.ensures.read three_tails narrows_three)

pub returns-in-244-clause-read : goal.returns-in-244-clause-read
returns-in-244-clause-read c =
    let value = c.byte_at.ensures.value in
    let high = c.requires in
    let within : c.args.at < length c.args.bytes.now = c.byte_at.ensures.within (omega arith) in
    copies_f4 c.args.bytes.now c.args.at c.third_end-in-244.result within (sym value ∙ c.in-244.is) c.third_end-in-244.ensures.within (c.third_end-in-244.ensures.read after_f4 narrows_f4)
