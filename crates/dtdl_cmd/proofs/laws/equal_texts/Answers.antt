use Rattle.dtdl_cmd.specs.Answers.{uploaded_interfaces}
use Rattle.dtdl_cmd.proofs.laws.equal_texts.Goals as goal

pub returns : goal.returns
returns c = λ documents others uploads more d e.
    c.one_set_text.ensures (uploaded_interfaces uploads) (uploaded_interfaces more) (c.declared_set.ensures.sound documents uploads d)
    (c.declared_set.ensures.sound others more e) (c.declared_set.ensures.apart documents uploads d) (c.declared_set.ensures.apart others more e)
