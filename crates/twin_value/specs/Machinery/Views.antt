-- The roles that the code's roles stand for.
use Rattle.std.specs.Prelude.{ℕ, List, map, Option, Some, None}
use Rattle.std.specs.Option.{option_map}
use Rattle.dtdl_terms.specs.TermViews.{schema_term, contents_term}
use Rattle.dtdl_terms.specs.declared.schema.Schema.{Schema}
use Rattle.dtdl_terms.specs.declared.schema.Payload.{Payload}
use Rattle.std.specs.List.{find}
use Rattle.twin_value.specs.Named.{is_called}
use Rattle.twin_value.specs.Roles as r
use Rattle.twin_value.specs.declared.role.Role.{Role}
use Rattle.twin_value.specs.declared.role.Role.TheVariants as role
use Rattle.twin_value.specs.declared.keys.Keys.{Keys}
use Rattle.twin_value.specs.declared.keys.Keys.TheVariants as keys

abbrev pub role_view : Role → r.Role
role_view role.Anything = r.anything
role_view role.Undeclared = r.undeclared
role_view role.Text = r.any_text
role_view role.Object = r.any_object
role_view role.ModelId = r.model_id
role_view role.TargetId = r.target_id
role_view role.LinkName = r.link_name
role_view role.TwinMetadata = r.twin_metadata
role_view (role.Twin library contents) = r.twin_body library.now contents.now
role_view (role.Part library contents) = r.part_body library.now contents.now
role_view (role.Link library from properties) = r.link_body library.now (option_map (λ f. f.now) from) (contents_term properties.now)
role_view (role.Value named schema) = r.value (map schema_term named.now) (option_map (λ s. schema_term s.now) schema)

-- A field of declared type, by its name.
abbrev pub payload_role : List Schema → Option Payload → r.Role
payload_role ns None = r.undeclared
payload_role ns (Some p) = r.value_of (map schema_term ns) (schema_term p.schema)

abbrev pub keys_role : Keys → List ℕ → r.Role
keys_role (keys.Same s) key = role_view s
keys_role keys.Metadata key = r.body_member_role r.twin_metadata key
keys_role (keys.Twin library contents) key = r.twin_role library.now contents key
keys_role (keys.Part library contents) key = r.body_part_role library.now contents key
keys_role (keys.Link library from properties) key = r.link_role library.now (option_map (λ f. f.now) from) (contents_term properties) key
keys_role (keys.Fields named fields) key = payload_role named.now (find (λ (p : Payload). is_called key (Some p.name)) fields)
