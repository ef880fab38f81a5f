-- Schemas by their variants, and look-up by names in terms.
use Rattle.std.proofs.Common.{◌≡◌, ℕ, List, [], ◌∷◌, map, Bool, true, false, cond, Option, Some, None, refl, sym, ap, ◌∙◌}
use Rattle.std.specs.List.{find}
use Rattle.std.specs.Option.{option_map}
use Rattle.std.specs.Borrow.{Bor}
use Rattle.dt_base.specs.names.Grammar.{Identifier, dtmi_text}
use Rattle.dtdl_terms.specs.declared.common.Common.{Common}
use Rattle.dtdl_terms.specs.declared.schema.Schema as schemas
use Rattle.twin_value.specs.Fits.{standing}
use Rattle.dtdl_terms.specs.Terms.{SchemaTerm, PayloadTerm}
use Rattle.dtdl_terms.specs.Distinct.{schema_id, payload_name}
use Rattle.dtdl_terms.specs.TermViews.{schema_term, payload_term, payloads_term}
use Rattle.dtdl_terms.specs.declared.schema.Schema.{Schema}
use Rattle.dtdl_terms.specs.declared.schema.Payload.{Payload}
use Rattle.dtdl_terms.proofs.TermViews.{term-Primitive, term-Named, term-Array, term-Enumeration, term-Map, term-Object}
use Rattle.twin_value.specs.Named.{is_called, schema_called, field_called, fields_in}
use Rattle.twin_value.specs.Roles as r
use Rattle.twin_value.specs.Machinery.Views.{payload_role}

pub ruleset terms = (term-Primitive, term-Named, term-Array, term-Enumeration, term-Map, term-Object)

found_step : {X Y : Type 0} (f : X → Y) (b : Bool) (x : X) (o : Option X) → cond b (Some (f x)) (option_map f o) ≡ option_map f (cond b (Some x) o)
found_step f true x o = refl
found_step f false x o = refl

pub found_map : {X Y : Type 0} (p : Y → Bool) (f : X → Y) (xs : List X) → find p (map f xs) ≡ option_map f (find (λ x. p (f x)) xs)
found_map p f [] = refl
found_map p f (x ∷ xs) = ap (λ o. cond (p (f x)) (Some (f x)) o) (found_map p f xs) ∙ found_step f (p (f x)) x (find (λ y. p (f y)) xs)

-- the schema that a name leads to
pub schema_found : (q : List ℕ) (ss : List Schema) → schema_called q (map schema_term ss)
    ≡ option_map schema_term (find (λ s. is_called q (option_map dtmi_text (schema_id (schema_term s)))) ss)
schema_found q ss = found_map (λ (s : SchemaTerm). is_called q (option_map dtmi_text (schema_id s))) schema_term ss

-- the field that a name leads to
fields_list : (ps : List Payload) → fields_in (payloads_term ps) ≡ map payload_term ps
fields_list [] = refl
fields_list (p ∷ ps) = ap (λ (l : List PayloadTerm). payload_term p ∷ l) (fields_list ps)

field_found : (q : List ℕ) (ps : List Payload) → field_called q (payloads_term ps) ≡ option_map payload_term (find (λ (p : Payload). is_called q (Some p.name)) ps)
field_found q ps =
    ap (find (λ (p : PayloadTerm). is_called q (Some (payload_name p)))) (fields_list ps)
    ∙ found_map (λ (p : PayloadTerm). is_called q (Some (payload_name p))) payload_term ps

role_of_field : (ns : List Schema) (o : Option Payload) → payload_role ns o ≡ r.field_role (map schema_term ns) (option_map payload_term o)
role_of_field ns None = refl
role_of_field ns (Some p) = refl

pub field_role_found : (ns : List Schema) (q : List ℕ) (ps : List Payload)
    → payload_role ns (find (λ (p : Payload). is_called q (Some p.name)) ps) ≡ r.field_role (map schema_term ns) (field_called q (payloads_term ps))
field_role_found ns q ps =
    role_of_field ns (find (λ (p : Payload). is_called q (Some p.name)) ps) ∙ ap (r.field_role (map schema_term ns)) (sym (field_found q ps))

-- the keys of an object's fields
pub object_keys : (ns : List Schema) (schema : Schema) (c : Common) (fields index : List Payload) → schema ≡ schemas.Object c fields → index ≡ fields → (key : List ℕ)
    → payload_role ns (find (λ (p : Payload). is_called key (Some p.name)) index) ≡ r.value_member_role (map schema_term ns) (Some (schema_term schema)) key
object_keys ns schema c fields index is same key =
    ap (λ (ps : List Payload). payload_role ns (find (λ (p : Payload). is_called key (Some p.name)) ps)) same
    ∙ field_role_found ns key fields
    ∙ sym (ap (λ (t : SchemaTerm). r.value_member_role (map schema_term ns) (Some t) key) (ap schema_term is ∙ term-Object c fields))

-- what a reference stands for
mapped : (o : Option (Bor Schema)) → option_map (λ (s : Bor Schema). schema_term s.now) o ≡ option_map schema_term (option_map (λ (s : Bor Schema). s.now) o)
mapped None = refl
mapped (Some s) = refl

pub named_stands : (ss : List Schema) (schema : Schema) (id : Identifier) (q : List ℕ) (found : Option (Bor Schema)) → schema ≡ schemas.Named id → q ≡ dtmi_text id
    → option_map (λ (s : Bor Schema). s.now) found ≡ find (λ (s : Schema). is_called q (option_map dtmi_text (schema_id (schema_term s)))) ss
    → option_map (λ (s : Bor Schema). schema_term s.now) found ≡ standing (map schema_term ss) (schema_term schema)
named_stands ss schema id q found is e h =
    mapped found
    ∙ ap (option_map schema_term) h
    ∙ sym (schema_found q ss)
    ∙ ap (λ (t : List ℕ). schema_called t (map schema_term ss)) e
    ∙ sym (ap (standing (map schema_term ss)) (ap schema_term is ∙ term-Named id))
