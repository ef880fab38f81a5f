use Rattle.std.proofs.Common.{ℕ, ◌/◌, ◌%◌, List, ◌∷◌, ◌++◌, sym, ap, ◌∙◌, append_assoc}
use Rattle.std.specs.Prelude.{codes}
use Rattle.std.specs.Fmt.{decimal}
use Rattle.dtdl_cmd.specs.making.Requests.{numeral, reading, tenths}
use Rattle.dtdl_cmd.proofs.making.Puts.{put_as}
use Rattle.dtdl_cmd.proofs.making.requests.put_sensor.Goals as goal

pub returns : goal.returns
returns c =
    put_as c.request.result c.as_str.result.now (codes "/digitaltwins/sensor-" ++ numeral c.args.k) c.as_str-2.result.now
    (codes "{\"$metadata\":{\"$model\":\"dtmi:demo:Sensor;1\"},\"reading\":" ++ (reading c.args.k ++ codes "}"))
    (c.as_str.ensures.value ∙ c.in_ok-path.ensures.ok ∙ ap (λ (n : List ℕ). codes "/digitaltwins/sensor-" ++ n) c.in_ok-numeral.ensures)
    (c.as_str-2.ensures.value ∙ c.in_ok-body.ensures.ok
    ∙ ap (λ (text : List ℕ). codes "{\"$metadata\":{\"$model\":\"dtmi:demo:Sensor;1\"},\"reading\":" ++ text)
    (sym (append_assoc (decimal (tenths c.args.k / 10)) (46 ∷ decimal (tenths c.args.k % 10)) (codes "}"))))
    c.request.ensures
