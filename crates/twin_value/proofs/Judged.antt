-- What an object that lacks something breaks.
use Rattle.std.proofs.Common.{◌≡◌, ◌<◌, ◌⊎◌, List, Bool, true, false, codes, Option, Some, None, sym, ◌∙◌, arith}
use Rattle.json_tree.specs.Values.{Json}
use Rattle.dt_base.specs.names.Grammar.{Identifier}
use Rattle.dtdl_terms.specs.Terms.{ContentTerms}
use Rattle.dtdl_terms.specs.declared.resolved.ResolvedContent.{ResolvedContent}
use Rattle.twin_value.specs.Fits.{is_object}
use Rattle.twin_value.specs.Roles.{Role, Library, any_object, twin_metadata, twin_body, part_body, link_body}
use Rattle.twin_value.specs.Breaches.{WrongBodyKind, MissingBodyKey, BadBodyId, UnknownMember, BadValue, BreaksBody, Lacks}
use Rattle.twin_value.specs.Machinery.Walks.{JudgesBody, Lacking}
use Rattle.twin_value.specs.Codes.{code_number}
use Rattle.twin_value.specs.declared.code.BodyCode.{BodyCode}
use Rattle.twin_value.specs.declared.code.BodyCode.TheVariants as code

apart : (b : Bool) → b ≡ true → b ≡ false → ⊥
apart b e f = let g : true ≡ false = sym e ∙ f in cc

module _ (r : Role) (Lack : Type 0) (v : Json)
    (wrong : WrongBodyKind r v → is_object v ≡ false) (is_wrong : is_object v ≡ false → WrongBodyKind r v) (missing : MissingBodyKey r v → Lack) (is_missing : Lack → MissingBodyKey r v)
    (id : BadBodyId r v → ⊥) (unknown : UnknownMember r v → ⊥) (bad : BadValue r v → ⊥) where
  nothing : is_object v ≡ true → (Lack → ⊥) → (broken : BodyCode) → BreaksBody broken r v → ⊥
  nothing is has code.WrongKind b = apart (is_object v) is (wrong b)
  nothing is has code.MissingKey b = has (missing b)
  nothing is has code.BadId b = id b
  nothing is has code.UnknownMember b = unknown b
  nothing is has code.BadValue b = bad b
  nothing is has code.UnknownRelationship b = b

  no_code : (other : BodyCode) → code_number other < 1 → BreaksBody other r v → ⊥
  no_code code.WrongKind less b = omega (arith, less)
  no_code code.MissingKey less b = omega (arith, less)
  no_code code.BadId less b = omega (arith, less)
  no_code code.UnknownMember less b = omega (arith, less)
  no_code code.BadValue less b = omega (arith, less)
  no_code code.UnknownRelationship less b = omega (arith, less)

  one_code : is_object v ≡ true → (other : BodyCode) → code_number other < 2 → BreaksBody other r v → ⊥
  one_code is code.WrongKind less b = apart (is_object v) is (wrong b)
  one_code is code.MissingKey less b = omega (arith, less)
  one_code is code.BadId less b = omega (arith, less)
  one_code is code.UnknownMember less b = omega (arith, less)
  one_code is code.BadValue less b = omega (arith, less)
  one_code is code.UnknownRelationship less b = omega (arith, less)

  pub lacking_judges : (o : Option BodyCode) → Lacking Lack v o → JudgesBody r v o
  lacking_judges None h = nothing h.0 h.1
  lacking_judges (Some code.WrongKind) h = (is_wrong h, no_code)
  lacking_judges (Some code.MissingKey) h = (is_missing h.1, one_code h.0)
  lacking_judges (Some code.BadId) h = absurd h
  lacking_judges (Some code.UnknownMember) h = absurd h
  lacking_judges (Some code.BadValue) h = absurd h
  lacking_judges (Some code.UnknownRelationship) h = absurd h

pub metadata_judges : (v : Json) (o : Option BodyCode) → Lacking (Lacks (codes "$model") v) v o → JudgesBody twin_metadata v o
metadata_judges v o h = lacking_judges twin_metadata (Lacks (codes "$model") v) v (λ x. x) (λ x. x) (λ x. x) (λ x. x) (λ x. x) (λ x. x) (λ x. x) o h

pub twin_judges : (l : Library) (cs : List ResolvedContent) (v : Json) (o : Option BodyCode) → Lacking (Lacks (codes "$metadata") v) v o → JudgesBody (twin_body l cs) v o
twin_judges l cs v o h = lacking_judges (twin_body l cs) (Lacks (codes "$metadata") v) v (λ x. x) (λ x. x) (λ x. x) (λ x. x) (λ x. x) (λ x. x) (λ x. x) o h

pub link_judges : (l : Library) (from : Option Identifier) (ps : ContentTerms) (v : Json) (o : Option BodyCode)
    → Lacking (Lacks (codes "$targetId") v ⊎ Lacks (codes "$relationshipName") v) v o → JudgesBody (link_body l from ps) v o
link_judges l from ps v o h =
    lacking_judges (link_body l from ps) (Lacks (codes "$targetId") v ⊎ Lacks (codes "$relationshipName") v) v (λ x. x) (λ x. x) (λ x. x) (λ x. x) (λ x. x) (λ x. x) (λ x. x) o h

-- a component breaks what any object does
part_none : (l : Library) (cs : List ResolvedContent) (v : Json) → ((broken : BodyCode) → BreaksBody broken any_object v → ⊥) → (broken : BodyCode) → BreaksBody broken (part_body l cs) v → ⊥
part_none l cs v h code.WrongKind b = h code.WrongKind b
part_none l cs v h code.MissingKey b = b
part_none l cs v h code.BadId b = b
part_none l cs v h code.UnknownMember b = b
part_none l cs v h code.BadValue b = b
part_none l cs v h code.UnknownRelationship b = b

pub part_judges : (l : Library) (cs : List ResolvedContent) (v : Json) (o : Option BodyCode) → JudgesBody any_object v o → JudgesBody (part_body l cs) v o
part_judges l cs v None h = part_none l cs v h
part_judges l cs v (Some code.WrongKind) h = (h.0, λ other less b. absurd (no_code (part_body l cs) ⊥ v (λ x. x) (λ x. x) (λ x. x) (λ x. x) (λ x. x) (λ x. x) (λ x. x) other less b))
part_judges l cs v (Some code.MissingKey) h = absurd h.0
part_judges l cs v (Some code.BadId) h = absurd h.0
part_judges l cs v (Some code.UnknownMember) h = absurd h.0
part_judges l cs v (Some code.BadValue) h = absurd h.0
part_judges l cs v (Some code.UnknownRelationship) h = absurd h.0
