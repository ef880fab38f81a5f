-- The rule on `@id`s, by what is known of the earlier ones.
use Rattle.std.proofs.Common.{◌≡◌, ℕ, inl, inr, List, Bool, true, false, Option, Some, None, cond, nat_lt}
use Rattle.json_decimal.specs.Number.{Number}
use Rattle.json_tree.specs.Values.{Json, null, truth, number, text, array, object, Members}
use Rattle.local_rules.specs.Codes.{rule_number}
use Rattle.local_rules.specs.Identifiers.{OfText}
use Rattle.local_rules.specs.Breaches.{BreaksById}
use Rattle.local_rules.specs.Machinery.Firsts.{earlier}
use Rattle.local_rules.specs.declared.rule.LocalRule.{LocalRule}
use Rattle.local_rules.specs.declared.rule.LocalRule.TheVariants as rule
use Rattle.local_rules.specs.declared.marks.MarkedRole.{MarkedRole}
use Rattle.local_rules.specs.declared.role.Role.{Role}
use Rattle.local_faults.specs.Machinery.Walks.{BreaksMarked}

pub of_text : (P Q : List ℕ → Type 0) → ((bytes : List ℕ) → P bytes → Q bytes) → (v : Json) → OfText P v → OfText Q v
of_text P Q f null b = b
of_text P Q f (truth t) b = b
of_text P Q f (number n) b = b
of_text P Q f (text bytes) b = f bytes b
of_text P Q f (array vs) b = b
of_text P Q f (object ms) b = b

pub id_along : (P Q : List ℕ → Type 0) → ((bytes : List ℕ) → P bytes → Q bytes) → (broken : LocalRule) (r : Role) (v : Json) → BreaksById P broken r v → BreaksById Q broken r v
id_along P Q f rule.RepeatedId r v b = (b.0, of_text P Q f v b.1)
id_along P Q f other r v b = b

pub breaks_along : (ms : Members Number) (P Q : List ℕ → Type 0) → ((bytes : List ℕ) → P bytes → Q bytes)
    → (broken : LocalRule) (r : MarkedRole) (v : Json) → BreaksMarked ms P broken r v → BreaksMarked ms Q broken r v
breaks_along ms P Q f broken r v (inl b) = inl b
breaks_along ms P Q f broken r v (inr (inl b)) = inr (inl b)
breaks_along ms P Q f broken r v (inr (inr b)) = inr (inr (id_along P Q f broken r.role v b))

-- where no rule is named first, the second is none
no_second : (test : Bool) (a b : LocalRule) → cond test (Some b) (Some a) ≡ None → Some b ≡ None
no_second true a b e = e
no_second false a b e = absurd cc

pub none_of_two : (a b : Option LocalRule) → earlier a b ≡ None → b ≡ None
none_of_two None b e = e
none_of_two (Some a) None e = absurd cc
none_of_two (Some a) (Some b) e = no_second (nat_lt (rule_number b) (rule_number a)) a b e
