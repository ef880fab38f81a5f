use Rattle.std.proofs.Common.{ℕ, List, false, ◌∙◌, refl}
use Rattle.model_life.specs.declared.records.Record.{Record}
use Rattle.model_life.proofs.Recorded.{fresh_is, put_record, kept_record}
use Rattle.model_life.proofs.store.add_record.Goals as goal

abbrev record_of : List ℕ → ℕ → Record
record_of t n = record { text = t; decommissioned = false; bytes = n }

pub returns-clause-record : goal.returns-clause-record
returns-clause-record c =
    put_record c.args.interface.now c.in_ok-id.id (record_of c.in_ok-text.text c.len-bytes.result) c.args.records.now c.insert.new.self c.in_ok-insert.ensures.ok c.in_ok-id.ensures
    (fresh_is c.args.interface.now c.in_ok-text.text c.in_ok-canon_interface.field-0 c.len-bytes.result (record_of c.in_ok-text.text c.len-bytes.result) refl (c.in_ok-text.ensures ∙ c.as_str.ensures.same) c.in_ok-canon_interface.ensures c.len-bytes.ensures)

pub returns-clause-others : goal.returns-clause-others
returns-clause-others c = kept_record c.args.interface.now c.args.records.now c.insert.new.self
    (put_record c.args.interface.now c.in_ok-id.id (record_of c.in_ok-text.text c.len-bytes.result) c.args.records.now c.insert.new.self c.in_ok-insert.ensures.ok c.in_ok-id.ensures
    (fresh_is c.args.interface.now c.in_ok-text.text c.in_ok-canon_interface.field-0 c.len-bytes.result (record_of c.in_ok-text.text c.len-bytes.result) refl (c.in_ok-text.ensures ∙ c.as_str.ensures.same) c.in_ok-canon_interface.ensures c.len-bytes.ensures))
