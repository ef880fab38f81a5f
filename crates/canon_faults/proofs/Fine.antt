-- When a value in a role breaks no rule, whatever stands elsewhere but for the schemas that are named and the `@id`s.
use Rattle.std.proofs.Common.{◌≡◌, ℕ, ◌≤◌, ◌⊎◌, inl, inr, List, [], ◌∷◌, length, true, sym, subst, arith}
use Rattle.std.specs.List.{AllByRecursion}
use Rattle.std.proofs.lemmas.Bool.{false≢true}
use Rattle.json_decimal.specs.Number.{Number}
use Rattle.json_tree.specs.Values.{Json, array, object, Elements, Members}
use Rattle.json_tree.specs.Members.{list_of}
use Rattle.local_rules.specs.Kinds.{MissingKey}
use Rattle.local_rules.specs.Repeats.{repeats_text, repeats_name, repeats_value}
use Rattle.local_rules.specs.Languages.{IsNoLanguage}
use Rattle.local_rules.specs.Breaches.{BreaksAlone, BreaksBySchemas}
use Rattle.local_rules.specs.Machinery.Firsts.{further_rules}
use Rattle.local_rules.proofs.Among.{Among}
use Rattle.local_rules.proofs.Firsts.{only}
use Rattle.local_rules.specs.declared.rule.LocalRule.{LocalRule}
use Rattle.local_rules.specs.declared.rule.LocalRule.TheVariants as rule
use Rattle.local_rules.specs.declared.role.Localized.{Localized}
use Rattle.local_rules.specs.declared.role.ValueSchema.{ValueSchema}
use Rattle.local_rules.specs.declared.role.SchemaUse.TheVariants as schema_use
use Rattle.local_rules.specs.declared.role.Role.{Role}
use Rattle.local_rules.specs.declared.role.Role.TheVariants as role

abbrev pub HasNames : Role → Type 0
HasNames r = (r ≡ role.Contents) ⊎ (r ≡ role.Properties) ⊎ (r ≡ role.Fields) ⊎ ((k : ValueSchema) × (r ≡ role.EnumValues k))

pub record Fine (interface : Members Number) (r : Role) (v : Json) : Type 0 where
  pub alone : (broken : LocalRule) → BreaksAlone broken r v → ⊥
  pub schemas : (broken : LocalRule) → BreaksBySchemas interface broken r v → ⊥
  pub parents : (vs : Elements Number) (i : ℕ) → r ≡ role.Extends → v ≡ array vs → repeats_text (list_of vs) i ≡ true → ⊥
  pub names : (vs : Elements Number) (i : ℕ) → HasNames r → v ≡ array vs → repeats_name (list_of vs) i ≡ true → ⊥
  pub values : (vs : Elements Number) (i : ℕ) (k : ValueSchema) → r ≡ role.EnumValues k → v ≡ array vs → repeats_value (list_of vs) i ≡ true → ⊥
  pub languages : (which : Localized) (ms : Members Number) (i : ℕ) → r ≡ role.Localized which → v ≡ object ms → IsNoLanguage ms i → ⊥

-- ---- by the role and the value alone
among_all : {X : Type 0} (P : X → Type 0) (x : X) (xs : List X) → AllByRecursion P xs → Among x xs → P x
among_all P x [] all among = absurd among
among_all P x (y ∷ ys) all (inl same) = subst P (sym same) all.0
among_all P x (y ∷ ys) all (inr later) = among_all P x ys all.1 later

-- none is broken where none of those is that the role can break
pub all_alone : (r : Role) (v : Json) → AllByRecursion (λ one. BreaksAlone one r v → ⊥) (rule.WrongKind ∷ further_rules r) → (broken : LocalRule) → BreaksAlone broken r v → ⊥
all_alone r v all broken b = among_all (λ one. BreaksAlone one r v → ⊥) broken (rule.WrongKind ∷ further_rules r) all (only broken r v b) b

-- ---- by schemas
-- roles in which no schema stands
abbrev pub IsPlain : Role → Type 0
IsPlain (role.Schema part) = ⊥
IsPlain role.NamedSchema = ⊥
IsPlain other = Unit {0}

pub plain_schemas : (ms : Members Number) (r : Role) (v : Json) → IsPlain r → (broken : LocalRule) → BreaksBySchemas ms broken r v → ⊥
plain_schemas ms r v plain rule.UnknownSchema b = subst IsPlain b.1 plain
plain_schemas ms r v plain rule.TooDeep (inl is, level) = subst IsPlain is plain
plain_schemas ms r v plain rule.TooDeep (inr (inl is), level) = subst IsPlain is plain
plain_schemas ms r v plain rule.TooDeep (inr (inr is), level) = subst IsPlain is plain
plain_schemas ms r v plain rule.ArrayInProperty b = subst IsPlain b.0 plain
plain_schemas ms r v plain other b = b

-- ---- objects
abbrev pub IsOfObject : Role → Type 0
IsOfObject role.Interface = Unit {0}
IsOfObject role.Content = Unit {0}
IsOfObject role.RelationshipProperty = Unit {0}
IsOfObject (role.Payload part) = Unit {0}
IsOfObject role.Field = Unit {0}
IsOfObject (role.EnumEntry k) = Unit {0}
IsOfObject role.NamedSchema = Unit {0}
IsOfObject (role.Schema schema_use.Outer) = Unit {0}
IsOfObject (role.Schema schema_use.Property) = Unit {0}
IsOfObject (role.Schema schema_use.Inner) = Unit {0}
IsOfObject other = ⊥

pub object_alone : (r : Role) (ms : Members Number) → IsOfObject r → (MissingKey r (object ms) → ⊥) → (broken : LocalRule) → BreaksAlone broken r (object ms) → ⊥
object_alone role.Interface ms of has = all_alone role.Interface (object ms) (λ b. false≢true (sym b), (has, tt))
object_alone role.Content ms of has = all_alone role.Content (object ms) (λ b. false≢true (sym b), (has, tt))
object_alone role.RelationshipProperty ms of has = all_alone role.RelationshipProperty (object ms) (λ b. false≢true (sym b), (has, tt))
object_alone (role.Payload part) ms of has = all_alone (role.Payload part) (object ms) (λ b. false≢true (sym b), (has, tt))
object_alone role.Field ms of has = all_alone role.Field (object ms) (λ b. false≢true (sym b), (has, tt))
object_alone (role.EnumEntry k) ms of has = all_alone (role.EnumEntry k) (object ms) (λ b. false≢true (sym b), (has, tt))
object_alone role.NamedSchema ms of has = all_alone role.NamedSchema (object ms) (λ b. false≢true (sym b), (has, tt))
object_alone (role.Schema part) ms of has =
    all_alone (role.Schema part) (object ms) (λ b. false≢true (sym b), (has, (λ b. b, (λ b. b, (λ b. b, (λ b. b, (λ b. subst IsOfObject b.0 of, tt)))))))
object_alone other ms of has = absurd of

pub object_fine : (interface : Members Number) (r : Role) (ms : Members Number) → IsOfObject r → (MissingKey r (object ms) → ⊥)
    → ((broken : LocalRule) → BreaksBySchemas interface broken r (object ms) → ⊥) → Fine interface r (object ms)
object_fine interface r ms of has schemas = record {
  alone = object_alone r ms of has;
  schemas = schemas;
  parents = λ vs i is e again. absurd (subst IsOfObject is of);
  names = λ vs i is e again. absurd (let f : object ms ≡ array vs = e in cc);
  values = λ vs i k is e again. absurd (subst IsOfObject is of);
  languages = λ which ns i is e bad. absurd (subst IsOfObject is of);
}

-- ---- lists
abbrev pub IsFew : Role → ℕ → Type 0
IsFew role.Contents n = n ≤ 300
IsFew role.Extends n = n ≤ 2
IsFew role.Fields n = n ≤ 30
IsFew (role.EnumValues k) n = n ≤ 100
IsFew role.Schemas n = Unit {0}
IsFew role.Properties n = Unit {0}
IsFew other n = ⊥

pub list_alone : (r : Role) (vs : Elements Number) → IsFew r (length (list_of vs)) → (broken : LocalRule) → BreaksAlone broken r (array vs) → ⊥
list_alone role.Contents vs few = all_alone role.Contents (array vs) (λ b. false≢true (sym b), (λ b. (let more = b.1 in omega arith), tt))
list_alone role.Extends vs few = all_alone role.Extends (array vs)
    (λ b. false≢true (sym b), (λ b. b, (λ b. b, (λ b. b, (λ b. b, (λ b. (let more = b.1 in omega arith), tt))))))
list_alone role.Fields vs few = all_alone role.Fields (array vs) (λ b. false≢true (sym b), (λ b. (let more = b.1 in omega arith), tt))
list_alone (role.EnumValues k) vs few = all_alone (role.EnumValues k) (array vs) (λ b. false≢true (sym b), (λ b. (let more = b.2 in omega arith), tt))
list_alone role.Schemas vs few = all_alone role.Schemas (array vs) (λ b. false≢true (sym b), tt)
list_alone role.Properties vs few = all_alone role.Properties (array vs) (λ b. false≢true (sym b), tt)
list_alone other vs few = absurd few

list_plain : (r : Role) (n : ℕ) → IsFew r n → IsPlain r
list_plain (role.Schema part) n few = few
list_plain role.NamedSchema n few = few
list_plain other n few = tt

-- what does not repeat in a list in this role
abbrev pub NothingRepeats : Role → Elements Number → ℕ → Type 0
NothingRepeats role.Extends vs i = repeats_text (list_of vs) i ≡ true → ⊥
NothingRepeats role.Contents vs i = repeats_name (list_of vs) i ≡ true → ⊥
NothingRepeats role.Properties vs i = repeats_name (list_of vs) i ≡ true → ⊥
NothingRepeats role.Fields vs i = repeats_name (list_of vs) i ≡ true → ⊥
NothingRepeats (role.EnumValues k) vs i = (repeats_name (list_of vs) i ≡ true → ⊥) × (repeats_value (list_of vs) i ≡ true → ⊥)
NothingRepeats other vs i = Unit {0}

names_once : (r : Role) (vs : Elements Number) (i : ℕ) → HasNames r → NothingRepeats r vs i → repeats_name (list_of vs) i ≡ true → ⊥
names_once r vs i (inl is) once = subst (λ (p : Role). NothingRepeats p vs i) is once
names_once r vs i (inr (inl is)) once = subst (λ (p : Role). NothingRepeats p vs i) is once
names_once r vs i (inr (inr (inl is))) once = subst (λ (p : Role). NothingRepeats p vs i) is once
names_once r vs i (inr (inr (inr is))) once = (subst (λ (p : Role). NothingRepeats p vs i) is.1 once).0

pub list_fine : (interface : Members Number) (r : Role) (vs : Elements Number) → IsFew r (length (list_of vs)) → ((i : ℕ) → NothingRepeats r vs i)
    → Fine interface r (array vs)
list_fine interface r vs few once = record {
  alone = list_alone r vs few;
  schemas = plain_schemas interface r (array vs) (list_plain r (length (list_of vs)) few);
  parents = λ ws i is e again.
      let same : ws ≡ vs = cc in
      subst (λ (p : Role). NothingRepeats p vs i) is (once i) (subst (λ (us : Elements Number). repeats_text (list_of us) i ≡ true) same again);
  names = λ ws i is e again.
      let same : ws ≡ vs = cc in
      names_once r vs i is (once i) (subst (λ (us : Elements Number). repeats_name (list_of us) i ≡ true) same again);
  values = λ ws i k is e again.
      let same : ws ≡ vs = cc in
      (subst (λ (p : Role). NothingRepeats p vs i) is (once i)).1 (subst (λ (us : Elements Number). repeats_value (list_of us) i ≡ true) same again);
  languages = λ which ns i is e bad. absurd (let f : array vs ≡ object ns = e in cc);
}

-- ---- values without parts
abbrev pub IsLeaf : Json → Type 0
IsLeaf (array vs) = ⊥
IsLeaf (object ms) = ⊥
IsLeaf other = Unit {0}

pub leaf_fine : (interface : Members Number) (r : Role) (v : Json) → IsLeaf v → ((broken : LocalRule) → BreaksAlone broken r v → ⊥)
    → ((broken : LocalRule) → BreaksBySchemas interface broken r v → ⊥) → Fine interface r v
leaf_fine interface r v leaf alone schemas = record {
  alone = alone;
  schemas = schemas;
  parents = λ vs i is e again. absurd (subst IsLeaf e leaf);
  names = λ vs i is e again. absurd (subst IsLeaf e leaf);
  values = λ vs i k is e again. absurd (subst IsLeaf e leaf);
  languages = λ which ms i is e bad. absurd (subst IsLeaf e leaf);
}
