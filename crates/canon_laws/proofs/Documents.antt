-- What the canonical tree of a set declares, and the types of what documents declare.
use Rattle.std.proofs.Common.{◌≡◌, ℕ, ◌+◌, is_none, List, [], ◌∷◌, map, Bool, true, false, if◌then◌else◌, Option, Some, None, refl, sym, ap, ap₂, ◌∙◌, subst}
use Rattle.std.specs.Prelude.{codes, IfSome}
use Rattle.std.specs.List.{AllByRecursion, AllZip, enumerate_from}
use Rattle.json_decimal.specs.Number.{Number}
use Rattle.json_tree.specs.Values.{Json, null, truth, number, text, array, object, Elements, no_elements, element, elements_of, Members}
use Rattle.json_tree.specs.Members.{list_of, value_at}
use Rattle.local_rules.specs.Roles.{element_named, named_by}
use Rattle.local_rules.specs.Types.{further}
use Rattle.local_rules.specs.declared.role.Position.{Position}
use Rattle.local_rules.specs.declared.role.Position.TheVariants as position
use Rattle.dtdl_terms.specs.Terms.{ContentTerm, content, KindTerm, telemetry, property, command, relationship, component, ContentTerms, no_contents, more_contents}
use Rattle.dtdl_terms.specs.TermViews.{content_term}
use Rattle.dtdl_terms.specs.Equality.{SameElements, DeclareTheSame}
use Rattle.dtdl_terms.specs.declared.content.Content.{Content}
use Rattle.dtdl_terms.specs.declared.interface.Interface.{Interface}
use Rattle.dtdl_terms.specs.declared.uploaded.Uploaded.{Uploaded}
use Rattle.local_rules.specs.Declarations.{IsSemantic, AreKind, IsContent, AreProperties, IsContentEntry, DeclaresInterface}
use Rattle.model_read.specs.Uploads.{IsUploadedAt, AreUploaded}
use Rattle.canon_text.specs.Sorting.{sorted_by}
use Rattle.canon_text.specs.Canonical.{interface_pair, set_value}
use Rattle.canon_text.specs.Identified.{InterfaceIsIdentified}
use Rattle.canon_text.specs.Machinery.Pairs.{pair_name, pair_value}
use Rattle.canon_text.proofs.Sets.{set_told}
use Rattle.canon_text.proofs.Told.{all_sorted, all_mapped, all_with}
use Rattle.local_rules.specs.Typed.{NamesNoType, KindIsTyped, ContentIsTyped, PropertiesAreTyped, IsTyped}
use Rattle.canon_laws.proofs.Tables.{Pairs, list_again}
use Rattle.canon_laws.proofs.Contents.{interface_back}

-- ---- sets
abbrev interface_of : Uploaded → Interface
interface_of u = u.interface

-- what the value of a pair declares has this pair
abbrev InterfaceBack : List ℕ × Json → Type 0
InterfaceBack m = (j : Interface) (ms : Members Number) → pair_value m ≡ object ms → DeclaresInterface ms j → interface_pair j ≡ m

uploads_back : (whole : Json) (nth n : ℕ) (ms : Pairs) (us : List Uploaded) → AllByRecursion InterfaceBack ms
    → AllZip (IsUploadedAt whole nth) (enumerate_from n (list_of (elements_of (map pair_value ms)))) us → map interface_pair (map interface_of us) ≡ ms
uploads_back whole nth n [] [] back all = refl
uploads_back whole nth n [] (u ∷ us) back all = absurd all
uploads_back whole nth n (m ∷ ms) [] back all = absurd all
uploads_back whole nth n (m ∷ ms) (u ∷ us) back all =
    ap₂ (λ (o : List ℕ × Json) (os : Pairs). o ∷ os) (back.0 u.interface all.0.members all.0.is all.0.declares) (uploads_back whole nth (n + 1) ms us back.1 all.1)

-- what the tree declares has its pairs, in their order
pub set_pairs : (is : List Interface) (nth : ℕ) (us : List Uploaded) → AllByRecursion IsTyped is → AreUploaded (set_value is) nth us
    → map interface_pair (map interface_of us) ≡ sorted_by pair_name (map interface_pair is)
set_pairs is nth us types g =
    let back = all_mapped interface_pair InterfaceBack is (all_with IsTyped (λ i. InterfaceBack (interface_pair i)) (λ i h j ms object_is declares. interface_back i j ms h object_is declares) is types) in
    uploads_back (set_value is) nth 0 (sorted_by pair_name (map interface_pair is)) us (all_sorted pair_name InterfaceBack (map interface_pair is) back) g

pub set_back : (is : List Interface) (nth : ℕ) (us : List Uploaded) → AllByRecursion IsTyped is → AreUploaded (set_value is) nth us → set_value (map interface_of us) ≡ set_value is
set_back is nth us types g = list_again (map interface_pair is) (map interface_pair (map interface_of us)) (set_pairs is nth us types g)

pub set_same : (is : List Interface) (nth : ℕ) (us : List Uploaded) → AllByRecursion InterfaceIsIdentified is → AllByRecursion (λ u. InterfaceIsIdentified u.interface) us
    → AllByRecursion IsTyped is → AreUploaded (set_value is) nth us → SameElements DeclareTheSame is (map interface_of us)
set_same is nth us own owns types g = set_told is (map interface_of us) own (all_mapped interface_of InterfaceIsIdentified us owns) (sym (set_back is nth us types g))

-- ---- the types of what is declared
none_of : {A : Type 0} (o : Option A) → is_none o ≡ true → o ≡ None
none_of None e = refl
none_of (Some x) e = absurd (let f : false ≡ true = e in cc)

further_named : (p : Position) (vs : List Json) (name : List ℕ) → further p vs ≡ text name ∷ [] → element_named p name ≡ None
further_named p [] name e = absurd (let f : [] ≡ text name ∷ [] = e in cc)
further_named p (v ∷ vs) name e = by (is_none (named_by p v)) refl (further_named p vs name) e
  where
    by : (b : Bool) → is_none (named_by p v) ≡ b → (further p vs ≡ text name ∷ [] → element_named p name ≡ None) → (if b then v ∷ further p vs else further p vs) ≡ text name ∷ []
        → element_named p name ≡ None
    by true t later f =
        let same : v ≡ text name = cc in
        none_of (element_named p name) (sym (ap (λ (w : Json). is_none (named_by p w)) same) ∙ t)
    by false t later f = later f

semantic_typed : (p : Position) (o : Option Json) (semantic : Option (List ℕ)) → IsSemantic p o semantic → IfSome semantic (NamesNoType p)
semantic_typed p o None g = tt
semantic_typed p None (Some name) g = absurd g
semantic_typed p (Some null) (Some name) g = absurd g
semantic_typed p (Some (truth b)) (Some name) g = absurd g
semantic_typed p (Some (number n)) (Some name) g = absurd g
semantic_typed p (Some (text b)) (Some name) g = absurd g
semantic_typed p (Some (array vs)) (Some name) g = further_named p (list_of vs) name g
semantic_typed p (Some (object ms)) (Some name) g = absurd g

mutual
  kind_typed : (p : Position) (k : KindTerm) (ms : Members Number) → AreKind p k ms → KindIsTyped p k
  kind_typed p (telemetry s semantic unit) ms g = semantic_typed p (value_at (codes "@type") ms) semantic g.1
  kind_typed p (property s semantic unit writable) ms g = semantic_typed p (value_at (codes "@type") ms) semantic g.1
  kind_typed p (command request response) ms g = tt
  kind_typed p (relationship target properties most writable) ms g = properties_typed properties g.1.0 g.1.2
  kind_typed p (component of) ms g = tt

  content_typed : (p : Position) (c : ContentTerm) (v : Json) → IsContent p c v → ContentIsTyped p c
  content_typed p (content n c k) v g = kind_typed p k g.0 g.4

  properties_typed : (cs : ContentTerms) (vs : Elements Number) → AreProperties cs vs → PropertiesAreTyped cs
  properties_typed no_contents vs g = tt
  properties_typed (more_contents c cs) no_elements g = absurd g
  properties_typed (more_contents c cs) (element v vs) g = ((g.0.1, content_typed position.Property c v g.0.0), properties_typed cs vs g.1)

contents_typed : (vs : List Json) (cs : List Content) → AllZip IsContentEntry vs cs → AllByRecursion (λ c. ContentIsTyped position.Content (content_term c)) cs
contents_typed [] [] g = tt
contents_typed [] (c ∷ cs) g = absurd g
contents_typed (v ∷ vs) [] g = absurd g
contents_typed (v ∷ vs) (c ∷ cs) g = (content_typed position.Content (content_term c) v g.0.1, contents_typed vs cs g.1)

pub interface_typed : (ms : Members Number) (i : Interface) → DeclaresInterface ms i → IsTyped i
interface_typed ms i g = contents_typed (list_of g.contents.0) i.contents g.contents.2

listed_typed : (whole : Json) (nth n : ℕ) (vs : List Json) (us : List Uploaded) → AllZip (IsUploadedAt whole nth) (enumerate_from n vs) us → AllByRecursion (λ u. IsTyped u.interface) us
listed_typed whole nth n [] [] g = tt
listed_typed whole nth n [] (u ∷ us) g = absurd g
listed_typed whole nth n (v ∷ vs) [] g = absurd g
listed_typed whole nth n (v ∷ vs) (u ∷ us) g = (interface_typed g.0.members u.interface g.0.declares, listed_typed whole nth (n + 1) vs us g.1)

pub all_typed : (whole : Json) (nth : ℕ) (us : List Uploaded) → AreUploaded whole nth us → AllByRecursion (λ u. IsTyped u.interface) us
all_typed (array vs) nth us g = listed_typed (array vs) nth 0 (list_of vs) us g
all_typed (object ms) nth us g = subst (λ (xs : List Uploaded). AllByRecursion (λ u. IsTyped u.interface) xs) (sym g.1) (interface_typed g.2.members g.0.interface g.2.declares, tt)
all_typed null nth us g = absurd g
all_typed (truth b) nth us g = absurd g
all_typed (number n) nth us g = absurd g
all_typed (text bytes) nth us g = absurd g
