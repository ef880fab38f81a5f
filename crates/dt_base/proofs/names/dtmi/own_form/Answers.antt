use Rattle.std.proofs.Common.{sym, ◌∙◌, refl}
use Rattle.dt_base.specs.declared.names.walk.State.TheVariants.{Version}
use Rattle.dt_base.proofs.names.Reading.{reads_dtmis}
use Rattle.dt_base.proofs.names.Cuts.{stored, found}
use Rattle.dt_base.proofs.names.dtmi.own_form.Goals as goal

pub returns-then-is_reserved : goal.returns-then-is_reserved
returns-then-is_reserved c =
    (reads_dtmis.text c.args.bytes.now (Version c.args.version) c.requires.walked refl c.requires.short, sym c.if-is_reserved.ensures)

pub unwrap-path_end-requires : goal.unwrap-path_end-requires
unwrap-path_end-requires c = found c.args.bytes.now c.args.version c.end_of_path.result c.requires.walked c.end_of_path.ensures

pub returns : goal.returns
returns c =
    stored c.args.bytes.now _ c.args.version c.requires.walked c.requires.short (sym c.if-is_reserved.ensures)
    (sym c.end_of_path.ensures ∙ c.unwrap-path_end.ensures)
