use Rattle.std.proofs.Common.{List, inl, inr, refl, sym, subst}
use Rattle.json_tree.specs.View.{view}
use Rattle.local_rules.specs.Breaches.{BreaksAlone}
use Rattle.local_rules.specs.Machinery.Firsts.{IsFirstAmong}
use Rattle.local_rules.specs.declared.rule.LocalRule.{LocalRule}
use Rattle.local_rules.specs.declared.role.Role.TheVariants as role
use Rattle.local_rules.specs.declared.rule.LocalRule.TheVariants as rule
use Rattle.local_rules.proofs.Firsts.{at_role, first_one, object_rules}
use Rattle.local_rules.proofs.own.further_rule.Goals as goal

pub returns-in-Interface : goal.returns-in-Interface
returns-in-Interface c =
    let Broken : LocalRule → Type 0 = λ one. BreaksAlone one c.args.role (view c.args.tree.now) in
    subst (λ (rules : List LocalRule). IsFirstAmong Broken rules c.then_some.result) (sym (object_rules c.args.role c.in-Interface.is))
    (first_one Broken rule.MissingKey c.lacks_key.result c.then_some.result c.lacks_key.ensures c.then_some.ensures)

pub returns-in-Parent : goal.returns-in-Parent
returns-in-Parent c = elim c.in-Parent.is [
  | inl is ↦ at_role c.args.role role.Parent (view c.args.tree.now) c.interface_id_rule.result is c.interface_id_rule.ensures
  | inr (inl is) ↦ at_role c.args.role role.InterfaceId (view c.args.tree.now) c.interface_id_rule.result is c.interface_id_rule.ensures
  | inr (inr is) ↦ at_role c.args.role role.InterfaceReference (view c.args.tree.now) c.interface_id_rule.result is c.interface_id_rule.ensures
]

pub returns-in-Schema : goal.returns-in-Schema
returns-in-Schema c = at_role c.args.role (role.Schema c.in-Schema.part) (view c.args.tree.now) c.schema_rule.result c.in-Schema.is c.schema_rule.ensures

pub returns-in-Type : goal.returns-in-Type
returns-in-Type c = at_role c.args.role (role.Type c.in-Type.position) (view c.args.tree.now) c.type_rule.result c.in-Type.is c.type_rule.ensures

pub returns-in-Extends : goal.returns-in-Extends
returns-in-Extends c = at_role c.args.role role.Extends (view c.args.tree.now) c.parents_rule.result c.in-Extends.is c.parents_rule.ensures

pub returns-in-ElementId : goal.returns-in-ElementId
returns-in-ElementId c = at_role c.args.role role.ElementId (view c.args.tree.now) c.element_id_rule.result c.in-ElementId.is c.element_id_rule.ensures

pub returns-in-EnumValues : goal.returns-in-EnumValues
returns-in-EnumValues c =
    let v = view c.args.tree.now in
    let k = c.in-EnumValues.value_schema in
    let decided = c.has_too_many_enum_values.ensures in
    at_role c.args.role (role.EnumValues k) v c.then_some-in-EnumValues.result c.in-EnumValues.is
    (first_one (λ one. BreaksAlone one (role.EnumValues k) v) rule.TooManyEnumValues c.has_too_many_enum_values.result c.then_some-in-EnumValues.result (λ is. (k, refl, decided.0 is), λ h. decided.1 h.2)
    c.then_some-in-EnumValues.ensures)

pub returns-in-Context : goal.returns-in-Context
returns-in-Context c =
    let v = view c.args.tree.now in
    at_role c.args.role role.Context v c.then_some-in-Context.result c.in-Context.is
    (first_one (λ one. BreaksAlone one role.Context v) rule.BadContext c.is_bad_context.result c.then_some-in-Context.result c.is_bad_context.ensures c.then_some-in-Context.ensures)

pub returns-in-CommandType : goal.returns-in-CommandType
returns-in-CommandType c =
    let v = view c.args.tree.now in
    at_role c.args.role role.CommandType v c.then_some-in-CommandType.result c.in-CommandType.is
    (first_one (λ one. BreaksAlone one role.CommandType v) rule.BadCommandType c.is_bad_command_type.result c.then_some-in-CommandType.result c.is_bad_command_type.ensures c.then_some-in-CommandType.ensures)

pub returns-in-ValueSchema : goal.returns-in-ValueSchema
returns-in-ValueSchema c =
    let v = view c.args.tree.now in
    at_role c.args.role role.ValueSchema v c.then_some-in-ValueSchema.result c.in-ValueSchema.is
    (first_one (λ one. BreaksAlone one role.ValueSchema v) rule.BadValueSchema c.is_bad_value_schema.result c.then_some-in-ValueSchema.result c.is_bad_value_schema.ensures c.then_some-in-ValueSchema.ensures)

pub returns-in-Name : goal.returns-in-Name
returns-in-Name c =
    let v = view c.args.tree.now in
    at_role c.args.role role.Name v c.then_some-in-Name.result c.in-Name.is
    (first_one (λ one. BreaksAlone one role.Name v) rule.BadName c.is_bad_name.result c.then_some-in-Name.result (λ is. (refl, c.is_bad_name.ensures.0 is), λ h. c.is_bad_name.ensures.1 h.1) c.then_some-in-Name.ensures)
