use Rattle.std.proofs.Common.{codes, arith}
use Rattle.json_tree.specs.Values.{text}
use Rattle.json_length.specs.Lengths.{member_length}
use Rattle.dt_base.specs.names.Grammar.{dtmi_text}
use Rattle.twin_value.proofs.TwinLengths.{ended, followed, metadata_length}
use Rattle.twin_value.proofs.length.left_after_metadata.Goals as goal

pub returns-in_err-left-2 : goal.returns-in_err-left-2
returns-in_err-left-2 c =
    let key = c.in_ok-left.ensures in
    let low = c.in_err-left-2.ensures in
    let whole = metadata_length (dtmi_text c.args.model.now) in
    ended _ _ _ c.from_residual-in_err-left-2.ensures (omega (arith, whole))

pub returns : goal.returns
returns c =
    let key = c.in_ok-left.ensures in
    let three = c.in_ok-left-2.ensures in
    let named = c.left_after_named.ensures in
    let whole = metadata_length (dtmi_text c.args.model.now) in
    followed _ _ (member_length (codes "$model", text (dtmi_text c.args.model.now))) _ _ (rw c.as_str.ensures.same at named) (omega (arith, whole))
