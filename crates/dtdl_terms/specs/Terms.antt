-- What schemas and contents declare, as plain data: a `Schema` or a `Content` without where it lies in memory.
use Rattle.std.specs.Prelude.{ℕ, List, Bool, Option}
use Rattle.dt_base.specs.names.Grammar.{Identifier}
use Rattle.dtdl_terms.specs.declared.common.Common.{Common}
use Rattle.dtdl_terms.specs.declared.primitive.Primitive.{Primitive}
use Rattle.dtdl_terms.specs.declared.enumeration.EnumEntry.{EnumEntry}

mutual
  pub data SchemaTerm : Type 0 where
    primitive : Primitive → SchemaTerm
    named : Identifier → SchemaTerm
    array_of : Common → SchemaTerm → SchemaTerm
    enumeration : Common → Bool → List EnumEntry → SchemaTerm
    map_of : Common → PayloadTerm → PayloadTerm → SchemaTerm
    object_of : Common → PayloadTerms → SchemaTerm

  -- a payload, a field, a map's key or value: its name, what every element has, and its schema
  pub data PayloadTerm : Type 0 where
    payload : List ℕ → Common → SchemaTerm → PayloadTerm

  pub data PayloadTerms : Type 0 where
    no_payloads : PayloadTerms
    more_payloads : PayloadTerm → PayloadTerms → PayloadTerms

mutual
  pub data ContentTerm : Type 0 where
    content : List ℕ → Common → KindTerm → ContentTerm

  pub data KindTerm : Type 0 where
    telemetry : SchemaTerm → Option (List ℕ) → Option (List ℕ) → KindTerm
    property : SchemaTerm → Option (List ℕ) → Option (List ℕ) → Bool → KindTerm
    command : Option PayloadTerm → Option PayloadTerm → KindTerm
    relationship : Option Identifier → ContentTerms → Option ℕ → Bool → KindTerm
    component : Identifier → KindTerm

  pub data ContentTerms : Type 0 where
    no_contents : ContentTerms
    more_contents : ContentTerm → ContentTerms → ContentTerms
