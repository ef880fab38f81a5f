-- Schemas of interfaces, properties of relationships and members, by their names.
use Rattle.std.proofs.Common.{◌≡◌, ℕ, zero, suc, ◌+◌, add-one, ◌<◌, ◌≤◌, List, [], ◌∷◌, length, get_or, drop, map, Bool, true, false, not, Option, Some, None, cond, unwrap_or, refl, sym, ap, ◌∙◌, arith, bytes_eq}
use Rattle.std.specs.Prelude.{if◌then◌else◌}
use Rattle.std.specs.Borrow.{Bor}
use Rattle.std.specs.List.{find, AllByRecursion}
use Rattle.std.specs.Option.{option_map}
use Rattle.dt_base.specs.names.Grammar.{Identifier, dtmi_text}
use Rattle.json_tree.specs.View.{members_view}
use Rattle.json_tree.specs.declared.tree.Member.{Member}
use Rattle.dtdl_terms.specs.Terms.{ContentTerm}
use Rattle.dtdl_terms.specs.Distinct.{content_name}
use Rattle.dtdl_terms.specs.TermViews.{schema_term, kind_term, content_term, contents_term}
use Rattle.dtdl_terms.specs.declared.schema.Schema.{Schema}
use Rattle.dtdl_terms.specs.declared.content.Content.{Content}
use Rattle.dtdl_terms.specs.declared.resolved.NamedIn.{NamedIn}
use Rattle.twin_value.specs.Named.{is_called, named_of, properties_in, property_called}
use Rattle.twin_value.specs.Roles.{Library, schemas_in, schemas_from, undeclared, declared_role, link_property_role}
use Rattle.twin_value.specs.Breaches.{key_position}
use Rattle.twin_value.proofs.Schemas.{found_map}

-- ---- the schemas of an interface
listed : (o : Option NamedIn) → unwrap_or (option_map (λ (n : NamedIn). n.schemas) o) [] ≡ schemas_in o
listed None = refl
listed (Some n) = refl

pub schemas_found : (l : Library) (from : Identifier) (q : List ℕ) (found : Option (List Schema)) → q ≡ dtmi_text from
    → unwrap_or found [] ≡ unwrap_or (option_map (λ (n : NamedIn). n.schemas) (find (λ (n : NamedIn). is_called q (Some (dtmi_text n.of))) l.named)) []
    → map schema_term (unwrap_or found []) ≡ schemas_from l from
schemas_found l from q found e h =
    ap (map schema_term) (h
    ∙ ap (λ (t : List ℕ). unwrap_or (option_map (λ (n : NamedIn). n.schemas) (find (λ (n : NamedIn). is_called t (Some (dtmi_text n.of))) l.named)) []) e
    ∙ listed (named_of from l.named))

-- where no interface declares schemas, none is found
first_declared : (b : Bool) (n : NamedIn) (o : Option NamedIn) → n.schemas ≡ [] → [] ≡ unwrap_or (option_map (λ (n : NamedIn). n.schemas) o) []
    → [] ≡ unwrap_or (option_map (λ (n : NamedIn). n.schemas) (cond b (Some n) o)) []
first_declared true n o is rest = sym is
first_declared false n o is rest = rest

pub none_declared : (p : NamedIn → Bool) (ns : List NamedIn) → AllByRecursion (λ (n : NamedIn). n.schemas ≡ []) ns
    → [] ≡ unwrap_or (option_map (λ (n : NamedIn). n.schemas) (find p ns)) []
none_declared p [] h = refl
none_declared p (n ∷ ns) h = first_declared (p n) n (find p ns) h.0 (none_declared p ns h.1)

-- ---- the properties of a relationship
properties_list : (ps : List Content) → properties_in (contents_term ps) ≡ map content_term ps
properties_list [] = refl
properties_list (p ∷ ps) = ap (λ (l : List ContentTerm). content_term p ∷ l) (properties_list ps)

pub property_found : (q : List ℕ) (ps : List Content) → property_called q (contents_term ps) ≡ option_map content_term (find (λ (p : Content). is_called q (Some p.name)) ps)
property_found q ps =
    ap (find (λ (p : ContentTerm). is_called q (Some (content_name p)))) (properties_list ps)
    ∙ found_map (λ (p : ContentTerm). is_called q (Some (content_name p))) content_term ps

pub property_role_found : (l : Library) (from : Option (Bor Identifier)) (f : Bor Identifier) (q : List ℕ) (ps : List Content) (o : Option (Bor Content)) (p : Bor Content) → from ≡ Some f
    → option_map (λ (c : Bor Content). c.now) o ≡ find (λ (c : Content). is_called q (Some c.name)) ps → o ≡ Some p
    → link_property_role l (option_map (λ (x : Bor Identifier). x.now) from) (property_called q (contents_term ps)) ≡ declared_role l f.now (kind_term p.now.kind)
property_role_found l from f q ps o p e h is =
    ap (λ (x : Option (Bor Identifier)). link_property_role l (option_map (λ (y : Bor Identifier). y.now) x) (property_called q (contents_term ps))) e
    ∙ ap (link_property_role l (Some f.now)) (property_found q ps ∙ ap (option_map content_term) (sym h ∙ ap (option_map (λ (c : Bor Content). c.now)) is))

pub property_role_lost : (l : Library) (from : Option (Bor Identifier)) (f : Bor Identifier) (q : List ℕ) (ps : List Content) (o : Option (Bor Content)) → from ≡ Some f
    → option_map (λ (c : Bor Content). c.now) o ≡ find (λ (c : Content). is_called q (Some c.name)) ps → o ≡ None
    → link_property_role l (option_map (λ (x : Bor Identifier). x.now) from) (property_called q (contents_term ps)) ≡ undeclared
property_role_lost l from f q ps o e h is =
    ap (λ (x : Option (Bor Identifier)). link_property_role l (option_map (λ (y : Bor Identifier). y.now) x) (property_called q (contents_term ps))) e
    ∙ ap (link_property_role l (Some f.now)) (property_found q ps ∙ ap (option_map content_term) (sym h ∙ ap (option_map (λ (c : Bor Content). c.now)) is))

-- ---- the first that passes, from a position on
pub find_next : {X : Type 0} (p : X → Bool) (xs : List X) (i : ℕ) (x : X) → i < length xs → x ≡ get_or xs i x → p x ≡ false → find p (drop i xs) ≡ find p (drop (suc i) xs)
find_next p [] i x within is other = absurd (omega (arith, within))
find_next {X} p (y ∷ ys) zero x within is other = ap (λ (b : Bool). cond b (Some y) (find p ys)) (ap p (sym is) ∙ other)
find_next p (y ∷ ys) (suc i) x within is other = find_next p ys i x (omega (arith, within)) is other

pub find_here : {X : Type 0} (p : X → Bool) (xs : List X) (i : ℕ) (x : X) → i < length xs → x ≡ get_or xs i x → p x ≡ true → find p (drop i xs) ≡ Some x
find_here p [] i x within is same = absurd (omega (arith, within))
find_here {X} p (y ∷ ys) zero x within is same = ap (λ (b : Bool). cond b (Some y) (find p ys)) (ap p (sym is) ∙ same) ∙ ap Some (sym is)
find_here p (y ∷ ys) (suc i) x within is same = find_here p ys i x (omega (arith, within)) is same

pub find_past : {X : Type 0} (p : X → Bool) (xs : List X) (i : ℕ) → length xs ≤ i → find p (drop i xs) ≡ None
find_past p [] zero past = refl
find_past p [] (suc i) past = refl
find_past p (y ∷ ys) zero past = absurd (omega (arith, past))
find_past p (y ∷ ys) (suc i) past = find_past p ys i (omega (arith, past))

pub find_on : {X : Type 0} (p : X → Bool) (xs : List X) (i : ℕ) (x : X) → i < length xs → x ≡ get_or xs i x → p x ≡ false → find p (drop (i + 1) xs) ≡ find p (drop i xs)
find_on p xs i x within is other = ap (λ (n : ℕ). find p (drop n xs)) (add-one i) ∙ sym (find_next p xs i x within is other)

-- ---- positions of members
pub untrue : (b : Bool) → not b ≡ true → b ≡ false
untrue true e = cc
untrue false e = refl

pub unfalse : (b : Bool) → not b ≡ false → b ≡ true
unfalse true e = refl
unfalse false e = cc

pub position_next : (key : List ℕ) (ms : List Member) (i : ℕ) (m : Member) → i < length ms → m ≡ get_or ms i m → bytes_eq m.key key ≡ false
    → key_position key (members_view (drop i ms)) ≡ suc (key_position key (members_view (drop (suc i) ms)))
position_next key [] i m within is other = absurd (omega (arith, within))
position_next key (n ∷ ms) zero m within is other =
    ap (λ (b : Bool). if b then 0 else suc (key_position key (members_view ms))) (ap (λ (x : Member). bytes_eq x.key key) (sym is) ∙ other)
position_next key (n ∷ ms) (suc i) m within is other = position_next key ms i m (omega (arith, within)) is other

pub position_here : (key : List ℕ) (ms : List Member) (i : ℕ) (m : Member) → i < length ms → m ≡ get_or ms i m → bytes_eq m.key key ≡ true → key_position key (members_view (drop i ms)) ≡ 0
position_here key [] i m within is same = absurd (omega (arith, within))
position_here key (n ∷ ms) zero m within is same =
    ap (λ (b : Bool). if b then 0 else suc (key_position key (members_view ms))) (ap (λ (x : Member). bytes_eq x.key key) (sym is) ∙ same)
position_here key (n ∷ ms) (suc i) m within is same = position_here key ms i m (omega (arith, within)) is same

pub position_past : (key : List ℕ) (ms : List Member) (i : ℕ) → length ms ≤ i → key_position key (members_view (drop i ms)) ≡ 0
position_past key [] zero past = refl
position_past key [] (suc i) past = refl
position_past key (n ∷ ms) zero past = absurd (omega (arith, past))
position_past key (n ∷ ms) (suc i) past = position_past key ms i (omega (arith, past))
