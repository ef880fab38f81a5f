-- What the walk knows of a value beside its role, and the rules that follow from it alone.
use Rattle.std.specs.Prelude.{◌≡◌, ℕ, List, [], ◌∷◌, Bool, false, Option, Some, None, if◌then◌else◌}
use Rattle.std.specs.Option.{option_map, option_map_or}
use Rattle.json_tree.specs.Values.{Json, null, truth, number, text, array, object}
use Rattle.json_tree.specs.Places.{IsPart, member_at}
use Rattle.json_tree.specs.Members.{list_of}
use Rattle.local_rules.specs.Roles.{part_role}
use Rattle.local_rules.specs.Repeats.{repeats_name, repeats_text, repeats_value}
use Rattle.local_rules.specs.Languages.{is_language}
use Rattle.local_rules.specs.declared.marks.Mark.{Mark}
use Rattle.local_rules.specs.declared.marks.Mark.TheVariants as marks
use Rattle.local_rules.specs.declared.marks.MarkedRole.{MarkedRole}
use Rattle.local_rules.specs.declared.role.Role.{Role}
use Rattle.local_rules.specs.declared.role.Role.TheVariants as role
use Rattle.local_rules.specs.declared.rule.LocalRule.{LocalRule}
use Rattle.local_rules.specs.declared.rule.LocalRule.TheVariants as rule

-- ---- marks, from the list or the object above
abbrev pub entry_repeats : Role → List Json → ℕ → Bool
entry_repeats role.Contents vs i = repeats_name vs i
entry_repeats role.Properties vs i = repeats_name vs i
entry_repeats role.Fields vs i = repeats_name vs i
entry_repeats (role.EnumValues k) vs i = repeats_name vs i
entry_repeats role.Extends vs i = repeats_text vs i
entry_repeats other vs i = false

abbrev pub entry_repeats_value : Role → List Json → ℕ → Bool
entry_repeats_value (role.EnumValues k) vs i = repeats_value vs i
entry_repeats_value other vs i = false

abbrev pub entry_mark : Role → List Json → ℕ → Mark
entry_mark r vs i = marks.Entry r (entry_repeats r vs i) (entry_repeats_value r vs i)

abbrev pub member_of_entry : Mark → Mark
member_of_entry (marks.Entry list repeats same_value) = marks.Member list repeats same_value
member_of_entry other = marks.Plain

abbrev pub member_mark : Role → Mark → List ℕ → Mark
member_mark (role.Localized which) m key = marks.Localized (is_language key)
member_mark r m key = member_of_entry m

abbrev pub part_mark : Role → Mark → Json → ℕ → Mark
part_mark r m null i = marks.Plain
part_mark r m (truth b) i = marks.Plain
part_mark r m (number n) i = marks.Plain
part_mark r m (text bytes) i = marks.Plain
part_mark r m (array vs) i = entry_mark r (list_of vs) i
part_mark r m (object ms) i = option_map_or (λ e. member_mark r m e.0) (member_at ms i) marks.Plain

-- ---- the rules that follow
abbrev pub entry_rule : Role → Bool → Option LocalRule
entry_rule role.Extends repeats = if repeats then Some rule.RepeatedParent else None
entry_rule other repeats = None

abbrev pub name_rule : Role → Option LocalRule
name_rule role.Contents = Some rule.DuplicateName
name_rule role.Properties = Some rule.DuplicateName
name_rule role.Fields = Some rule.DuplicateField
name_rule (role.EnumValues k) = Some rule.DuplicateEnumName
name_rule other = None

abbrev pub value_rule : Role → Option LocalRule
value_rule (role.EnumValues k) = Some rule.DuplicateEnumValue
value_rule other = None

-- by the role of the member, and that of the list in which its object stands
abbrev pub member_rule : Role → Role → Bool → Bool → Option LocalRule
member_rule role.Name list repeats same_value = if repeats then name_rule list else None
member_rule (role.EnumValue k) list repeats same_value = if same_value then value_rule list else None
member_rule other list repeats same_value = None

abbrev pub mark_rule : Role → Mark → Option LocalRule
mark_rule r marks.Plain = None
mark_rule r (marks.Entry list repeats same_value) = entry_rule list repeats
mark_rule r (marks.Member list repeats same_value) = member_rule r list repeats same_value
mark_rule r (marks.Localized is_language) = if is_language then None else Some rule.BadLanguage

abbrev pub BreaksMark : LocalRule → MarkedRole → Type 0
BreaksMark broken r = mark_rule r.role r.mark ≡ Some broken

-- ---- marked roles, from above down
abbrev pub part_marked : MarkedRole → Json → ℕ → Option MarkedRole
part_marked r v i = option_map (λ s. record { role = s; mark = part_mark r.role r.mark v i }) (part_role r.role v i)

-- At a place of a value that stands in the first marked role stands this part, in the second one.
abbrev pub HasMarkedRole : MarkedRole → Json → List ℕ → MarkedRole → Json → Type 0
HasMarkedRole r v [] q w = (r ≡ q) × (v ≡ w)
HasMarkedRole r v (i ∷ place) q w = (s : MarkedRole) × (part : Json) × IsPart v i part × (part_marked r v i ≡ Some s) × HasMarkedRole s part place q w

-- The role of an interface.
abbrev pub interface_role : MarkedRole
interface_role = record { role = role.Interface; mark = marks.Plain }
