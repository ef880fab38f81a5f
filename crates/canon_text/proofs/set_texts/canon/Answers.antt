use Rattle.std.proofs.Common.{◌++◌, [], ◌∷◌, map, ap, ◌∙◌}
use Rattle.canon_text.specs.Machinery.Pairs.{pair_at}
use Rattle.canon_text.proofs.Pieces.{set_printed}
use Rattle.canon_text.proofs.set_texts.canon.Goals as goal

pub returns : goal.returns
returns c =
    rw (c.from_vec.ensures, c.into_bytes.ensures.value, c.in_ok-push_str-2.ensures.bytes, c.in_ok-push_interfaces.ensures, c.in_ok-push_str.ensures.bytes, c.new-out.ensures.bytes)
    (ap (λ bytes. bytes ++ 10 ∷ []) (set_printed c.as_slice.result.now c.args.interfaces.now (ap (map pair_at) c.as_slice.ensures.value ∙ c.in_ok-list.ensures)))
