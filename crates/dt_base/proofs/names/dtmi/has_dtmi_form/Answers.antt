use Rattle.std.proofs.Common.{arith}
use Rattle.dt_base.proofs.names.Reading.{form_whole, form_wrong}
use Rattle.dt_base.proofs.names.dtmi.has_dtmi_form.Goals as goal

pub returns-in-Whole : goal.returns-in-Whole
returns-in-Whole c = form_whole c.args.text.now c.as_bytes-bytes.result.now _ c.in-Whole.state c.ends.result c.as_bytes-bytes.ensures.value c.in-Whole.ensures c.ends.ensures

pub returns-in-Wrong : goal.returns-in-Wrong
returns-in-Wrong c = form_wrong c.args.text.now c.as_bytes-bytes.result.now _ c.in-Wrong.at c.in-Wrong.state c.as_bytes-bytes.ensures.value c.in-Wrong.ensures (omega arith)
