-- What a value in a body is to be: every place gets a role from the role of the value around it and from its key.
use Rattle.std.specs.Prelude.{ℕ, List, [], Option, Some, None, map, codes, bytes_eq, if◌then◌else◌}
use Rattle.dt_base.specs.names.Grammar.{Identifier}
use Rattle.dtdl_terms.specs.Terms.{SchemaTerm, array_of, map_of, object_of, PayloadTerm, KindTerm, property, component, ContentTerm, content, ContentTerms}
use Rattle.dtdl_terms.specs.TermViews.{schema_term, kind_term}
use Rattle.dtdl_terms.specs.declared.schema.Schema.{Schema}
use Rattle.dtdl_terms.specs.declared.resolved.ResolvedContent.{ResolvedContent}
use Rattle.dtdl_terms.specs.declared.resolved.NamedIn.{NamedIn}
use Rattle.dtdl_terms.specs.declared.resolved.PartOf.{PartOf}
use Rattle.twin_value.specs.Named.{content_called, property_called, named_of, part_of, field_called}
use Rattle.twin_value.specs.Fits.{standing, schema_of}

-- What contents refer to: the schemas that interfaces declare, and the interfaces of components.
pub record Library : Type 0 where
  pub named : List NamedIn
  pub parts : List PartOf

pub data Role : Type 0 where
  -- anything: it is judged no further
  anything : Role
  -- what nothing declares
  undeclared : Role
  -- a text, an object
  any_text : Role
  any_object : Role
  -- the `$model` of a twin's `$metadata`, a relationship's `$targetId` and `$relationshipName`
  model_id : Role
  target_id : Role
  link_name : Role
  -- a twin's `$metadata`
  twin_metadata : Role
  -- the body of a twin with these contents
  twin_body : Library → List ResolvedContent → Role
  -- a component with these contents
  part_body : Library → List ResolvedContent → Role
  -- the body of a relationship that an interface declares with these properties
  link_body : Library → Option Identifier → ContentTerms → Role
  -- a value of the schema, if there is one, whose references name schemas of the list
  value : List SchemaTerm → Option SchemaTerm → Role

-- ---- the roles of contents
-- The schemas that an interface declares.
abbrev pub schemas_in : Option NamedIn → List Schema
schemas_in None = []
schemas_in (Some n) = n.schemas

abbrev pub schemas_from : Library → Identifier → List SchemaTerm
schemas_from l from = map schema_term (schemas_in (named_of from l.named))

abbrev pub contents_in : Option PartOf → List ResolvedContent
contents_in None = []
contents_in (Some p) = p.contents

-- A value of a schema, whose references name schemas of the list.
abbrev pub value_of : List SchemaTerm → SchemaTerm → Role
value_of ns s = value ns (standing ns s)

-- A member that an interface declares by a content of this kind: in a twin a property or a component, elsewhere a
-- property.
abbrev pub declared_role : Library → Identifier → KindTerm → Role
declared_role l from (property s semantic unit writable) = value_of (schemas_from l from) s
declared_role l from other = undeclared

abbrev pub twin_declared_role : Library → Identifier → KindTerm → Role
twin_declared_role l from (component of) = part_body l (contents_in (part_of of l.parts))
twin_declared_role l from other = declared_role l from other

abbrev pub twin_content_role : Library → Option ResolvedContent → Role
twin_content_role l None = undeclared
twin_content_role l (Some c) = twin_declared_role l c.from (kind_term c.content.kind)

abbrev pub part_content_role : Library → Option ResolvedContent → Role
part_content_role l None = undeclared
part_content_role l (Some c) = declared_role l c.from (kind_term c.content.kind)

abbrev pub content_kind : ContentTerm → KindTerm
content_kind (content name c kind) = kind

abbrev pub link_property_role : Library → Option Identifier → Option ContentTerm → Role
link_property_role l None c = undeclared
link_property_role l (Some from) None = undeclared
link_property_role l (Some from) (Some c) = declared_role l from (content_kind c)

-- ---- the roles of members
abbrev pub twin_role : Library → List ResolvedContent → List ℕ → Role
twin_role l cs key =
    if bytes_eq key (codes "$metadata") then twin_metadata
    else (if bytes_eq key (codes "$dtId") then any_text
    else (if bytes_eq key (codes "$etag") then anything
    else twin_content_role l (content_called key cs)))

abbrev pub body_part_role : Library → List ResolvedContent → List ℕ → Role
body_part_role l cs key = if bytes_eq key (codes "$metadata") then any_object else part_content_role l (content_called key cs)

abbrev pub link_role : Library → Option Identifier → ContentTerms → List ℕ → Role
link_role l from ps key =
    if bytes_eq key (codes "$targetId") then target_id
    else (if bytes_eq key (codes "$relationshipName") then link_name
    else (if bytes_eq key (codes "$relationshipId") then any_text
    else (if bytes_eq key (codes "$sourceId") then any_text
    else (if bytes_eq key (codes "$etag") then anything
    else (if bytes_eq key (codes "$metadata") then anything
    else link_property_role l from (property_called key ps))))))

abbrev pub field_role : List SchemaTerm → Option PayloadTerm → Role
field_role ns None = undeclared
field_role ns (Some p) = value_of ns (schema_of p)

abbrev pub value_member_role : List SchemaTerm → Option SchemaTerm → List ℕ → Role
value_member_role ns (Some (map_of c k v)) key = value_of ns (schema_of v)
value_member_role ns (Some (object_of c fields)) key = field_role ns (field_called key fields)
value_member_role ns other key = anything

abbrev pub value_element_role : List SchemaTerm → Option SchemaTerm → Role
value_element_role ns (Some (array_of c s)) = value_of ns s
value_element_role ns other = anything

abbrev pub body_member_role : Role → List ℕ → Role
body_member_role twin_metadata key = if bytes_eq key (codes "$model") then model_id else anything
body_member_role (twin_body l cs) key = twin_role l cs key
body_member_role (part_body l cs) key = body_part_role l cs key
body_member_role (link_body l from ps) key = link_role l from ps key
body_member_role (value ns s) key = value_member_role ns s key
body_member_role other key = anything

abbrev pub element_role : Role → Role
element_role (value ns s) = value_element_role ns s
element_role other = anything
