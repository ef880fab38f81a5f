use Rattle.json_tree.specs.View.{view}
use Rattle.json_tree.specs.Values.{Raw}
use Rattle.json_tree.specs.Grammar.{IsText}
use Rattle.json_tree.specs.Pointers.{IsPointerOf}
use Rattle.json_read.proofs.Pointed.{read_stands, read_pointer, if_ok}
use Rattle.json_read.proofs.Spelled.{text_refused}
use Rattle.json_read.proofs.reading.pointer_in.Goals as goal

pub pointer_of-requires : goal.pointer_of-requires
pointer_of-requires c =
    let r = c.in-Ok.ensures in
    read_stands c.args.bytes.now c.args.place.now.steps r.0 (view c.in-Ok.found.tree) r.1 r.3 c.requires

pub returns-in-Ok : goal.returns-in-Ok
returns-in-Ok c =
    let r = c.in-Ok.ensures in
    if_ok c.pointer_of.result
    (λ pointer. IsPointerOf (view c.in-Ok.found.tree) c.args.place.now.steps pointer.text)
    (λ pointer. (raw : Raw) × IsText c.args.bytes.now raw × IsPointerOf raw c.args.place.now.steps pointer.text)
    (λ pointer is. read_pointer c.args.bytes.now c.args.place.now.steps r.0 (view c.in-Ok.found.tree) r.1 r.3 pointer.text is)
    c.pointer_of.ensures.text

pub want_of_memory-requires : goal.want_of_memory-requires
want_of_memory-requires c = text_refused c.args.bytes.now c.requires.0 c.in-Err.fault c.requires.1 c.in-Err.ensures
