use Rattle.std.proofs.Common.{◌≡◌, ◌==◌, [], length}
use Rattle.std.specs.List.{list_all, slice_split}
use Rattle.std.specs.Option.{option_map_or}
use Rattle.std.specs.Char.{is_ascii_alphanumeric}
use Rattle.local_rules.specs.Languages.{is_language, is_subtag}
use Rattle.local_rules.proofs.languages.is_language.Given as goal

-- the subtags so far are right, so the rest decides
abbrev pub invariant-subtags : goal.invariant-subtags
invariant-subtags l = list_all (is_subtag is_ascii_alphanumeric) (option_map_or (λ rest. slice_split (λ b. b == 45) rest.now) l.rest []) ≡ is_language l.text

abbrev pub decreases-subtags : goal.decreases-subtags
decreases-subtags l = option_map_or (λ rest. length rest.now) l.rest 0
