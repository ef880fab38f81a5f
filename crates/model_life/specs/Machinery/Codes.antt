-- Models as values by which proofs tell them apart. This serves the types that hold a list of them.
use Rattle.std.specs.Prelude.{refl, Bool}
use Rattle.std.specs.Coded.{Coded, code_by, coded×, coded_bool}
use Rattle.dtdl_terms.specs.declared.interface.Interface.{Interface}
use Rattle.dtdl_terms.specs.contracts.interface.Interface as interface_row
use Rattle.model_life.specs.Models.{Model, model_of}

abbrev pub model_code : Coded Model
model_code = code_by (Interface × Bool) (coded× interface_row.the_row.coded coded_bool) (λ m. (m.interface, m.decommissioned)) (λ p. model_of p.0 p.1) (λ _. refl)
