-- Marks tell what the places in lists and objects break.
use Rattle.std.proofs.Common.{◌≡◌, ℕ, inl, inr, List, [], ◌∷◌, ◌++◌, Bool, true, false, Option, Some, None, refl, sym, ap, subst, ◌∙◌}
use Rattle.std.specs.Option.{option_map, option_map_or}
use Rattle.json_decimal.specs.Number.{Number}
use Rattle.json_tree.specs.Values.{Json, null, truth, number, text, array, object, Elements, Members}
use Rattle.json_tree.specs.Places.{IsPart, member_at}
use Rattle.json_tree.specs.Members.{list_of}
use Rattle.local_rules.specs.Roles.{HasRole, part_role, entry_role}
use Rattle.local_rules.specs.Languages.{is_language}
use Rattle.local_rules.specs.Repeats.{IsEntry, IsInEntry, repeats_name, repeats_text, repeats_value}
use Rattle.local_rules.specs.Breaches.{BreaksByPlace}
use Rattle.local_rules.specs.Machinery.Marks.{HasMarkedRole, entry_mark, entry_repeats, entry_repeats_value, entry_rule, interface_role, mark_rule, member_mark, member_of_entry, member_rule, name_rule, part_mark, part_marked, value_rule}
use Rattle.local_rules.specs.declared.marks.Mark.{Mark}
use Rattle.local_rules.specs.declared.marks.Mark.TheVariants as marks
use Rattle.local_rules.specs.declared.marks.MarkedRole.{MarkedRole}
use Rattle.local_rules.specs.declared.role.Localized.{Localized}
use Rattle.local_rules.specs.declared.role.ValueSchema.{ValueSchema}
use Rattle.local_rules.specs.declared.role.Role.{Role}
use Rattle.local_rules.specs.declared.role.Role.TheVariants as role
use Rattle.local_rules.specs.declared.rule.LocalRule.{LocalRule}
use Rattle.local_rules.specs.declared.rule.LocalRule.TheVariants as rule
use Rattle.local_faults.proofs.Steps.{one_part}

-- ---- a part, with and without its mark
abbrev marked : Mark → Role → MarkedRole
marked m s = record { role = s; mark = m }

of_part : (r : MarkedRole) (v : Json) (i : ℕ) (s : MarkedRole) → part_marked r v i ≡ Some s
    → (part_role r.role v i ≡ Some s.role) × (part_mark r.role r.mark v i ≡ s.mark)
of_part r v i s is = elim (part_role r.role v i) as (λ o. option_map (marked (part_mark r.role r.mark v i)) o ≡ Some s → (o ≡ Some s.role) × (part_mark r.role r.mark v i ≡ s.mark)) [
  | None ↦ λ none. absurd cc
  | Some q ↦ λ some. (let same : marked (part_mark r.role r.mark v i) q ≡ s = cc in (ap (λ (x : MarkedRole). Some x.role) same, ap (λ (x : MarkedRole). x.mark) same))
] is

pub role_of_marked : (r : MarkedRole) (v : Json) (place : List ℕ) (q : MarkedRole) (w : Json) → HasMarkedRole r v place q w → HasRole r.role v place q.role w
role_of_marked r v [] q w h = (ap (λ (x : MarkedRole). x.role) h.0, h.1)
role_of_marked r v (i ∷ place) q w h = (h.0.role, h.1, h.2, (of_part r v i h.0 h.3).0, role_of_marked h.0 h.1 place q w h.4)

pub marked_of_role : (r : MarkedRole) (v : Json) (place : List ℕ) (q : Role) (w : Json) → HasRole r.role v place q w
    → (m : Mark) × HasMarkedRole r v place (record { role = q; mark = m }) w
marked_of_role r v [] q w h = (r.mark, (λ i. record { role = h.0 i; mark = r.mark }, h.1))
marked_of_role r v (i ∷ place) q w h =
    let s = marked (part_mark r.role r.mark v i) h.0 in
    let there = marked_of_role s h.1 place q w h.4 in
    (there.0, (s, h.1, h.2, ap (option_map (marked (part_mark r.role r.mark v i))) h.3, there.1))

-- ---- a place has one role and one value
same_role : (r : Role) (v : Json) (i : ℕ) (s t : Role) → part_role r v i ≡ Some s → part_role r v i ≡ Some t → s ≡ t
same_role r v i s t p q = let e : Some s ≡ Some t = sym p ∙ q in cc

one_role_at : (r : Role) (v : Json) (place : List ℕ) (q p : Role) (w u : Json) → HasRole r v place q w → HasRole r v place p u → (q ≡ p) × (w ≡ u)
one_role_at r v [] q p w u g h = (sym g.0 ∙ h.0, sym g.1 ∙ h.1)
one_role_at r v (i ∷ place) q p w u g h =
    let role_same = same_role r v i h.0 g.0 h.3 g.3 in
    let part_same = one_part v i h.1 g.1 h.2 g.2 in
    let there = subst (λ (t : Role). HasRole t g.1 place p u) role_same (subst (λ (x : Json). HasRole h.0 x place p u) part_same h.4) in
    one_role_at g.0 g.1 place q p w u g.4 there

-- ---- the last step of a place
not_empty : (xs : List ℕ) (x : ℕ) → [] ≡ xs ++ x ∷ [] → ⊥
not_empty [] x e = cc
not_empty (y ∷ ys) x e = cc

last_of : (xs ys : List ℕ) (x y : ℕ) → xs ++ x ∷ [] ≡ ys ++ y ∷ [] → (xs ≡ ys) × (x ≡ y)
last_of [] [] x y e = (refl, cc)
last_of [] (b ∷ ys) x y e = let rest : [] ≡ ys ++ y ∷ [] = cc in absurd (not_empty ys y rest)
last_of (a ∷ xs) [] x y e = let rest : [] ≡ xs ++ x ∷ [] = cc in absurd (not_empty xs x rest)
last_of (a ∷ xs) (b ∷ ys) x y e =
    let head : a ≡ b = cc in
    let rest : xs ++ x ∷ [] ≡ ys ++ y ∷ [] = cc in
    let more = last_of xs ys x y rest in
    (λ i. head i ∷ more.0 i, more.1)

record LastStep (r : MarkedRole) (v : Json) (place : List ℕ) (q : MarkedRole) (w : Json) : Type 0 where
  up : List ℕ
  at : ℕ
  within : MarkedRole
  around : Json
  is : place ≡ up ++ at ∷ []
  stands : HasMarkedRole r v up within around
  is_part : IsPart around at w
  part : part_marked within around at ≡ Some q

last_step : (r : MarkedRole) (v : Json) (i : ℕ) (place : List ℕ) (q : MarkedRole) (w : Json) → HasMarkedRole r v (i ∷ place) q w → LastStep r v (i ∷ place) q w
last_step r v i [] q w h = record {
  up = [];
  at = i;
  within = r;
  around = v;
  is = refl;
  stands = (refl, refl);
  is_part = subst (λ (x : Json). IsPart v i x) h.4.1 h.2;
  part = h.3 ∙ ap (λ (x : MarkedRole). Some x) h.4.0;
}
last_step r v i (j ∷ place) q w h =
    let l = last_step h.0 h.1 j place q w h.4 in
    record {
      up = i ∷ l.up;
      at = l.at;
      within = l.within;
      around = l.around;
      is = ap (λ (xs : List ℕ). i ∷ xs) l.is;
      stands = (h.0, h.1, h.2, h.3, l.stands);
      is_part = l.is_part;
      part = l.part;
    }

-- ---- where a mark comes from
no_entry_of_member : (m : Mark) (list : Role) (a b : Bool) → member_of_entry m ≡ marks.Entry list a b → ⊥
no_entry_of_member marks.Plain list a b e = cc
no_entry_of_member (marks.Entry l x y) list a b e = cc
no_entry_of_member (marks.Member l x y) list a b e = cc
no_entry_of_member (marks.Localized x) list a b e = cc

no_entry : (r : Role) (m : Mark) (key : List ℕ) (list : Role) (a b : Bool) → member_mark r m key ≡ marks.Entry list a b → ⊥
no_entry (role.Localized which) m key list a b e = cc
no_entry other m key list a b e = no_entry_of_member m list a b e

no_entry_at : (r : Role) (m : Mark) (o : Option (List ℕ × Json)) (list : Role) (a b : Bool)
    → option_map_or (λ e. member_mark r m e.0) o marks.Plain ≡ marks.Entry list a b → ⊥
no_entry_at r m None list a b e = cc
no_entry_at r m (Some x) list a b e = no_entry r m x.0 list a b e

entry_from : (r : Role) (m : Mark) (v : Json) (i : ℕ) (list : Role) (a b : Bool) → part_mark r m v i ≡ marks.Entry list a b
    → (vs : Elements Number) × (v ≡ array vs) × (r ≡ list) × (entry_repeats list (list_of vs) i ≡ a) × (entry_repeats_value list (list_of vs) i ≡ b)
entry_from r m (array vs) i list a b e =
    let same : r ≡ list = cc in
    let repeats : entry_repeats r (list_of vs) i ≡ a = cc in
    let repeats_too : entry_repeats_value r (list_of vs) i ≡ b = cc in
    (vs, refl, same, ap (λ (q : Role). entry_repeats q (list_of vs) i) (sym same) ∙ repeats, ap (λ (q : Role). entry_repeats_value q (list_of vs) i) (sym same) ∙ repeats_too)
entry_from r m (object ms) i list a b e = absurd (no_entry_at r m (member_at ms i) list a b e)
entry_from r m null i list a b e = absurd cc
entry_from r m (truth t) i list a b e = absurd cc
entry_from r m (number n) i list a b e = absurd cc
entry_from r m (text bytes) i list a b e = absurd cc

was_entry : (m : Mark) (list : Role) (a b : Bool) → member_of_entry m ≡ marks.Member list a b → m ≡ marks.Entry list a b
was_entry marks.Plain list a b e = absurd cc
was_entry (marks.Entry l x y) list a b e =
    let p : l ≡ list = cc in
    let q : x ≡ a = cc in
    let s : y ≡ b = cc in
    λ i. marks.Entry (p i) (q i) (s i)
was_entry (marks.Member l x y) list a b e = absurd cc
was_entry (marks.Localized x) list a b e = absurd cc

member_was_entry : (r : Role) (m : Mark) (key : List ℕ) (list : Role) (a b : Bool) → member_mark r m key ≡ marks.Member list a b → m ≡ marks.Entry list a b
member_was_entry (role.Localized which) m key list a b e = absurd cc
member_was_entry other m key list a b e = was_entry m list a b e

object_was_entry : (r : Role) (m : Mark) (o : Option (List ℕ × Json)) (list : Role) (a b : Bool)
    → option_map_or (λ e. member_mark r m e.0) o marks.Plain ≡ marks.Member list a b → m ≡ marks.Entry list a b
object_was_entry r m None list a b e = absurd cc
object_was_entry r m (Some x) list a b e = member_was_entry r m x.0 list a b e

member_from : (r : Role) (m : Mark) (v : Json) (i : ℕ) (list : Role) (a b : Bool) → part_mark r m v i ≡ marks.Member list a b → m ≡ marks.Entry list a b
member_from r m (array vs) i list a b e = absurd cc
member_from r m (object ms) i list a b e = object_was_entry r m (member_at ms i) list a b e
member_from r m null i list a b e = absurd cc
member_from r m (truth t) i list a b e = absurd cc
member_from r m (number n) i list a b e = absurd cc
member_from r m (text bytes) i list a b e = absurd cc

no_language_of_member : (m : Mark) (b : Bool) → member_of_entry m ≡ marks.Localized b → ⊥
no_language_of_member marks.Plain b e = cc
no_language_of_member (marks.Entry l x y) b e = cc
no_language_of_member (marks.Member l x y) b e = cc
no_language_of_member (marks.Localized x) b e = cc

language_of : (r : Role) (m : Mark) (key : List ℕ) (b : Bool) → member_mark r m key ≡ marks.Localized b → (which : Localized) × (r ≡ role.Localized which) × (is_language key ≡ b)
language_of (role.Localized which) m key b e = (which, refl, cc)
language_of other m key b e = absurd (no_language_of_member m b e)

language_at : (r : Role) (m : Mark) (o : Option (List ℕ × Json)) (b : Bool) → option_map_or (λ e. member_mark r m e.0) o marks.Plain ≡ marks.Localized b
    → (key : List ℕ) × (w : Json) × (which : Localized) × (o ≡ Some (key, w)) × (r ≡ role.Localized which) × (is_language key ≡ b)
language_at r m None b e = absurd cc
language_at r m (Some x) b e = let l = language_of r m x.0 b e in (x.0, x.1, l.0, refl, l.1, l.2)

language_from : (r : Role) (m : Mark) (v : Json) (i : ℕ) (b : Bool) → part_mark r m v i ≡ marks.Localized b
    → (ms : Members Number) × (key : List ℕ) × (w : Json) × (which : Localized) × (v ≡ object ms) × (member_at ms i ≡ Some (key, w)) × (r ≡ role.Localized which) × (is_language key ≡ b)
language_from r m (object ms) i b e = let l = language_at r m (member_at ms i) b e in (ms, l.0, l.1, l.2, refl, l.3, l.4, l.5)
language_from r m (array vs) i b e = absurd cc
language_from r m null i b e = absurd cc
language_from r m (truth t) i b e = absurd cc
language_from r m (number n) i b e = absurd cc
language_from r m (text bytes) i b e = absurd cc

-- the mark of a member of an entry that is no list and no localized text
object_below : (s : Role) (m : Mark) (around : Json) (j : ℕ) (w : Json) (q : MarkedRole) → IsPart around j w → part_marked (marked m s) around j ≡ Some q
    → entry_role s ≡ None → ((x : Mark) (key : List ℕ) → member_mark s x key ≡ member_of_entry x) → member_of_entry m ≡ q.mark
object_below s m (array us) j w q p is no_list plain =
    let found : entry_role s ≡ Some q.role = (of_part (marked m s) (array us) j q is).0 in
    let none : None ≡ Some q.role = sym no_list ∙ found in
    absurd cc
object_below s m (object ms) j w q p is no_list plain =
    sym (plain m p.0) ∙ (sym (ap (λ (o : Option (List ℕ × Json)). option_map_or (λ e. member_mark s m e.0) o marks.Plain) p.1) ∙ (of_part (marked m s) (object ms) j q is).1)
object_below s m null j w q p is no_list plain = absurd p
object_below s m (truth t) j w q p is no_list plain = absurd p
object_below s m (number n) j w q p is no_list plain = absurd p
object_below s m (text bytes) j w q p is no_list plain = absurd p

-- the rule of a name or of an enum value, by its mark
name_found : (q : MarkedRole) (list : Role) (a b : Bool) (broken : LocalRule) → marks.Member list a b ≡ q.mark → q.role ≡ role.Name → a ≡ true → name_rule list ≡ Some broken
    → mark_rule q.role q.mark ≡ Some broken
name_found q list a b broken is name on found =
    ap (mark_rule q.role) (sym is) ∙ (ap (λ (r : Role). member_rule r list a b) name ∙ (ap (λ (t : Bool). member_rule role.Name list t b) on ∙ found))

value_found : (q : MarkedRole) (list : Role) (a b : Bool) (broken : LocalRule) → marks.Member list a b ≡ q.mark → (k : ValueSchema) → q.role ≡ role.EnumValue k → b ≡ true
    → value_rule list ≡ Some broken → mark_rule q.role q.mark ≡ Some broken
value_found q list a b broken is k value on found =
    ap (mark_rule q.role) (sym is) ∙ (ap (λ (r : Role). member_rule r list a b) value ∙ (ap (λ (t : Bool). member_rule (role.EnumValue k) list a t) on ∙ found))

-- ---- from marks to places
-- an interface itself has no mark
starts_plain : (m : Mark) (v : Json) (q : MarkedRole) (w : Json) → HasMarkedRole interface_role v [] q w → q.mark ≡ m → marks.Plain ≡ m
starts_plain m v q w h is = ap (λ (x : MarkedRole). x.mark) h.0 ∙ is

module _ (v : Json) where
  entry_place : (place : List ℕ) (q : MarkedRole) (w : Json) (list : Role) (a b : Bool) → HasMarkedRole interface_role v place q w → q.mark ≡ marks.Entry list a b
      → (up : List ℕ) × (i : ℕ) × (vs : Elements Number) × (place ≡ up ++ i ∷ []) × HasRole role.Interface v up list (array vs)
      × (entry_repeats list (list_of vs) i ≡ a) × (entry_repeats_value list (list_of vs) i ≡ b)
  entry_place [] q w list a b h is = let none = starts_plain (marks.Entry list a b) v q w h is in absurd cc
  entry_place (j ∷ place) q w list a b h is =
      let l = last_step interface_role v j place q w h in
      let from = entry_from l.within.role l.within.mark l.around l.at list a b ((of_part l.within l.around l.at q l.part).1 ∙ is) in
      let stands = role_of_marked interface_role v l.up l.within l.around l.stands in
      let there = subst (λ (x : Json). HasRole role.Interface v l.up list x) from.1 (subst (λ (s : Role). HasRole role.Interface v l.up s l.around) from.2 stands) in
      (l.up, l.at, from.0, l.is, there, from.3, from.4)

  -- an entry of a list in this role that does what its mark tells
  with_entry : (P : List Json → ℕ → Bool) (place : List ℕ) (q : MarkedRole) (w : Json) (list : Role) (a b : Bool)
      → ((vs : List Json) (i : ℕ) → entry_repeats list vs i ≡ a → entry_repeats_value list vs i ≡ b → P vs i ≡ true)
      → HasMarkedRole interface_role v place q w → q.mark ≡ marks.Entry list a b → IsEntry v list P place
  with_entry P place q w list a b holds h is =
      let e = entry_place place q w list a b h is in
      (e.0, e.1, e.3, record { entries = e.2; stands = e.4; holds = holds (list_of e.2) e.1 e.5 e.6 })

  in_entry : (P : List Json → ℕ → Bool) (place : List ℕ) (q : MarkedRole) (w : Json) (list : Role) (a b : Bool)
      → ((vs : List Json) (i : ℕ) → entry_repeats list vs i ≡ a → entry_repeats_value list vs i ≡ b → P vs i ≡ true)
      → HasMarkedRole interface_role v place q w → q.mark ≡ marks.Member list a b → IsInEntry v list P place
  in_entry P [] q w list a b holds h is = let none = starts_plain (marks.Member list a b) v q w h is in absurd cc
  in_entry P (j ∷ place) q w list a b holds h is =
      let l = last_step interface_role v j place q w h in
      let was = member_from l.within.role l.within.mark l.around l.at list a b ((of_part l.within l.around l.at q l.part).1 ∙ is) in
      (l.up, l.at, l.is, with_entry P l.up l.within l.around list a b holds l.stands was)

  no_language : (place : List ℕ) (q : MarkedRole) (w : Json) → HasMarkedRole interface_role v place q w → q.mark ≡ marks.Localized false
      → BreaksByPlace v place rule.BadLanguage q.role
  no_language [] q w h is = let none = starts_plain (marks.Localized false) v q w h is in absurd cc
  no_language (j ∷ place) q w h is =
      let l = last_step interface_role v j place q w h in
      let from = language_from l.within.role l.within.mark l.around l.at false ((of_part l.within l.around l.at q l.part).1 ∙ is) in
      let stands = role_of_marked interface_role v l.up l.within l.around l.stands in
      let there = subst (λ (x : Json). HasRole role.Interface v l.up (role.Localized from.3) x) from.4 (subst (λ (s : Role). HasRole role.Interface v l.up s l.around) from.6 stands) in
      (l.up, l.at, from.3, from.0, l.is, there, (from.1, from.2, from.5, from.7))

  -- the rule of a name or of an enum value
  name_breaks : (place : List ℕ) (q : MarkedRole) (w : Json) (list : Role) (b : Bool) (broken : LocalRule) → HasMarkedRole interface_role v place q w
      → q.mark ≡ marks.Member list true b → q.role ≡ role.Name → name_rule list ≡ Some broken → BreaksByPlace v place broken q.role
  name_breaks place q w role.Contents b broken h is name found =
      let one : rule.DuplicateName ≡ broken = cc in
      subst (λ (x : LocalRule). BreaksByPlace v place x q.role) one (name, inl (in_entry repeats_name place q w role.Contents true b (λ vs i repeats too. repeats) h is))
  name_breaks place q w role.Properties b broken h is name found =
      let one : rule.DuplicateName ≡ broken = cc in
      subst (λ (x : LocalRule). BreaksByPlace v place x q.role) one (name, inr (in_entry repeats_name place q w role.Properties true b (λ vs i repeats too. repeats) h is))
  name_breaks place q w role.Fields b broken h is name found =
      let one : rule.DuplicateField ≡ broken = cc in
      subst (λ (x : LocalRule). BreaksByPlace v place x q.role) one (name, in_entry repeats_name place q w role.Fields true b (λ vs i repeats too. repeats) h is)
  name_breaks place q w (role.EnumValues k) b broken h is name found =
      let one : rule.DuplicateEnumName ≡ broken = cc in
      subst (λ (x : LocalRule). BreaksByPlace v place x q.role) one (name, (k, in_entry repeats_name place q w (role.EnumValues k) true b (λ vs i repeats too. repeats) h is))
  name_breaks place q w other b broken h is name found = absurd cc

  value_breaks : (place : List ℕ) (q : MarkedRole) (w : Json) (list : Role) (a : Bool) (broken : LocalRule) → HasMarkedRole interface_role v place q w
      → q.mark ≡ marks.Member list a true → (k : ValueSchema) → q.role ≡ role.EnumValue k → value_rule list ≡ Some broken → BreaksByPlace v place broken q.role
  value_breaks place q w (role.EnumValues j) a broken h is k value found =
      let one : rule.DuplicateEnumValue ≡ broken = cc in
      subst (λ (x : LocalRule). BreaksByPlace v place x q.role) one
      ((k, value), (j, in_entry repeats_value place q w (role.EnumValues j) a true (λ vs i repeats too. too) h is))
  value_breaks place q w other a broken h is k value found = absurd cc

  member_breaks : (place : List ℕ) (q : MarkedRole) (w : Json) (r list : Role) (a b : Bool) (broken : LocalRule) → HasMarkedRole interface_role v place q w
      → q.mark ≡ marks.Member list a b → q.role ≡ r → member_rule r list a b ≡ Some broken → BreaksByPlace v place broken q.role
  member_breaks place q w role.Name list true b broken h is same found = name_breaks place q w list b broken h is same found
  member_breaks place q w role.Name list false b broken h is same found = absurd cc
  member_breaks place q w (role.EnumValue k) list a true broken h is same found = value_breaks place q w list a broken h is k same found
  member_breaks place q w (role.EnumValue k) list a false broken h is same found = absurd cc
  member_breaks place q w other list a b broken h is same found = absurd cc

  entry_breaks : (place : List ℕ) (q : MarkedRole) (w : Json) (list : Role) (a b : Bool) (broken : LocalRule) → HasMarkedRole interface_role v place q w
      → q.mark ≡ marks.Entry list a b → entry_rule list a ≡ Some broken → BreaksByPlace v place broken q.role
  entry_breaks place q w role.Extends true b broken h is found =
      let one : rule.RepeatedParent ≡ broken = cc in
      subst (λ (x : LocalRule). BreaksByPlace v place x q.role) one (with_entry repeats_text place q w role.Extends true b (λ vs i repeats too. repeats) h is)
  entry_breaks place q w role.Extends false b broken h is found = absurd cc
  entry_breaks place q w other a b broken h is found = absurd cc

  by_mark : (place : List ℕ) (q : MarkedRole) (w : Json) (m : Mark) (broken : LocalRule) → HasMarkedRole interface_role v place q w
      → q.mark ≡ m → mark_rule q.role m ≡ Some broken → BreaksByPlace v place broken q.role
  by_mark place q w marks.Plain broken h is found = absurd cc
  by_mark place q w (marks.Entry list a b) broken h is found = entry_breaks place q w list a b broken h is found
  by_mark place q w (marks.Member list a b) broken h is found = member_breaks place q w q.role list a b broken h is refl found
  by_mark place q w (marks.Localized true) broken h is found = absurd cc
  by_mark place q w (marks.Localized false) broken h is found =
      let one : rule.BadLanguage ≡ broken = cc in
      subst (λ (x : LocalRule). BreaksByPlace v place x q.role) one (no_language place q w h is)

  pub mark_breaks : (place : List ℕ) (q : MarkedRole) (w : Json) (broken : LocalRule) → HasMarkedRole interface_role v place q w
      → mark_rule q.role q.mark ≡ Some broken → BreaksByPlace v place broken q.role
  mark_breaks place q w broken h found = by_mark place q w q.mark broken h refl found

  -- ---- from places to marks
  -- what stands at a place whose last step is known
  last_at : (place : List ℕ) (q : MarkedRole) (w : Json) (up : List ℕ) (i : ℕ) (r : Role) (around : Json) → HasMarkedRole interface_role v place q w
      → place ≡ up ++ i ∷ [] → HasRole role.Interface v up r around
      → (m : Mark) × HasMarkedRole interface_role v up (marked m r) around × IsPart around i w × (part_marked (marked m r) around i ≡ Some q)
  last_at [] q w up i r around h is stands = absurd (not_empty up i is)
  last_at (j ∷ place) q w up i r around h is stands =
      let l = last_step interface_role v j place q w h in
      let end = last_of l.up up l.at i (sym l.is ∙ is) in
      let there = subst (λ (p : List ℕ). HasMarkedRole interface_role v p l.within l.around) end.0 l.stands in
      let one = one_role_at role.Interface v up l.within.role r l.around around (role_of_marked interface_role v up l.within l.around there) stands in
      let within : l.within ≡ marked l.within.mark r = (λ t. record { role = one.0 t; mark = l.within.mark }) in
      let part = subst (λ (n : ℕ). part_marked l.within l.around n ≡ Some q) end.1 l.part in
      let is_part = subst (λ (n : ℕ). IsPart l.around n w) end.1 l.is_part in (
        l.within.mark,
        subst (λ (x : Json). HasMarkedRole interface_role v up (marked l.within.mark r) x) one.1 (subst (λ (s : MarkedRole). HasMarkedRole interface_role v up s l.around) within there),
        subst (λ (x : Json). IsPart x i w) one.1 is_part,
        subst (λ (x : Json). part_marked (marked l.within.mark r) x i ≡ Some q) one.1 (subst (λ (s : MarkedRole). part_marked s l.around i ≡ Some q) within part),
      )

  entry_at : (place : List ℕ) (q : MarkedRole) (w : Json) (up : List ℕ) (i : ℕ) (r : Role) (vs : Elements Number) → HasMarkedRole interface_role v place q w
      → place ≡ up ++ i ∷ [] → HasRole role.Interface v up r (array vs) → (entry_role r ≡ Some q.role) × (entry_mark r (list_of vs) i ≡ q.mark)
  entry_at place q w up i r vs h is stands =
      let l = last_at place q w up i r (array vs) h is stands in
      of_part (marked l.0 r) (array vs) i q l.3

  -- a member of an entry of a list, by the roles of the list and of its entries
  member_at_entry : (r s : Role) → entry_role r ≡ Some s → entry_role s ≡ None → ((m : Mark) (key : List ℕ) → member_mark s m key ≡ member_of_entry m)
      → (place : List ℕ) (q : MarkedRole) (w : Json) (P : List Json → ℕ → Bool) → HasMarkedRole interface_role v place q w → IsInEntry v r P place
      → (vs : List Json) × (i : ℕ) × (P vs i ≡ true) × (marks.Member r (entry_repeats r vs i) (entry_repeats_value r vs i) ≡ q.mark)
  member_at_entry r s entries no_list plain [] q w P h e = absurd (not_empty e.0 e.1 e.2)
  member_at_entry r s entries no_list plain (k ∷ place) q w P h e =
      let has = e.3.3 in
      let l = last_step interface_role v k place q w h in
      let end = last_of l.up e.0 l.at e.1 (sym l.is ∙ e.2) in
      let entry = entry_at l.up l.within l.around e.3.0 e.3.1 r has.entries l.stands (end.0 ∙ e.3.2) has.stands in
      let its_role : Some l.within.role ≡ Some s = sym entry.0 ∙ entries in
      let same : l.within.role ≡ s = cc in
      let within : l.within ≡ marked (entry_mark r (list_of has.entries) e.3.1) s = (λ t. record { role = same t; mark = sym entry.1 t }) in
      let part = subst (λ (x : MarkedRole). part_marked x l.around l.at ≡ Some q) within l.part in
      (list_of has.entries, e.3.1, has.holds, object_below s (entry_mark r (list_of has.entries) e.3.1) l.around l.at w q l.is_part part no_list plain)

  pub place_breaks : (place : List ℕ) (q : MarkedRole) (w : Json) (broken : LocalRule) → HasMarkedRole interface_role v place q w
      → BreaksByPlace v place broken q.role → mark_rule q.role q.mark ≡ Some broken
  place_breaks place q w rule.BadLanguage h b =
      let l = last_at place q w b.0 b.1 (role.Localized b.2) (object b.3) h b.4 b.5 in
      let is = (of_part (marked l.0 (role.Localized b.2)) (object b.3) b.1 q l.3).1 in
      let mark : marks.Localized false ≡ q.mark =
      sym (ap (λ (o : Option (List ℕ × Json)). option_map_or (λ e. member_mark (role.Localized b.2) l.0 e.0) o marks.Plain) b.6.2 ∙ ap marks.Localized b.6.3) ∙ is in
      ap (mark_rule q.role) (sym mark)
  place_breaks place q w rule.RepeatedParent h b =
      let entry = entry_at place q w b.0 b.1 role.Extends b.3.entries h b.2 b.3.stands in
      ap (mark_rule q.role) (sym entry.1) ∙ ap (entry_rule role.Extends) b.3.holds
  place_breaks place q w rule.DuplicateName h (name, inl e) =
      let m = member_at_entry role.Contents role.Content refl refl (λ x key. refl) place q w repeats_name h e in
      name_found q role.Contents (repeats_name m.0 m.1) false rule.DuplicateName m.3 name m.2 refl
  place_breaks place q w rule.DuplicateName h (name, inr e) =
      let m = member_at_entry role.Properties role.RelationshipProperty refl refl (λ x key. refl) place q w repeats_name h e in
      name_found q role.Properties (repeats_name m.0 m.1) false rule.DuplicateName m.3 name m.2 refl
  place_breaks place q w rule.DuplicateField h (name, e) =
      let m = member_at_entry role.Fields role.Field refl refl (λ x key. refl) place q w repeats_name h e in
      name_found q role.Fields (repeats_name m.0 m.1) false rule.DuplicateField m.3 name m.2 refl
  place_breaks place q w rule.DuplicateEnumName h (name, (k, e)) =
      let m = member_at_entry (role.EnumValues k) (role.EnumEntry k) refl refl (λ x key. refl) place q w repeats_name h e in
      name_found q (role.EnumValues k) (repeats_name m.0 m.1) (repeats_value m.0 m.1) rule.DuplicateEnumName m.3 name m.2 refl
  place_breaks place q w rule.DuplicateEnumValue h ((j, value), (k, e)) =
      let m = member_at_entry (role.EnumValues k) (role.EnumEntry k) refl refl (λ x key. refl) place q w repeats_value h e in
      value_found q (role.EnumValues k) (repeats_name m.0 m.1) (repeats_value m.0 m.1) rule.DuplicateEnumValue m.3 j value m.2 refl
  place_breaks place q w other h b = absurd b
