-- Trees grown one part at a time.
use Rattle.std.proofs.Common.{◌≡◌, ℕ, ◌+◌, ◌<◌, List, [], ◌∷◌, ◌++◌, length, take, get_or, map, Option, Some, None, append_assoc, refl, sym, ap, ◌∙◌}
use Rattle.std.specs.Prelude.{reverse}
use Rattle.std.proofs.lemmas.List.{map-append, map_more, reverse-append, append-nil}
use Rattle.json_tree.specs.Values.{Json}
use Rattle.json_tree.specs.View.{view, member_view}
use Rattle.json_tree.specs.declared.tree.Tree.{Tree}
use Rattle.json_tree.specs.declared.tree.Member.{Member}
use Rattle.canon_text.specs.Objects.{present}
use Rattle.canon_text.specs.Machinery.Pairs.{pair_value}

pub pair_same : (k l : List ℕ) (v w : Json) → k ≡ l → v ≡ w → ◌≡◌ {A = List ℕ × Json} (k, v) (l, w)
pair_same k l v w e f = λ i. (e i, f i)

-- ---- a member that is put, or left out
present_append : (ps qs : List (List ℕ × Option Json)) → present (ps ++ qs) ≡ present ps ++ present qs
present_append [] qs = refl
present_append ((key, None) ∷ ps) qs = present_append ps qs
present_append ((key, Some v) ∷ ps) qs = ap (λ (ms : List (List ℕ × Json)). (key, v) ∷ ms) (present_append ps qs)

pub left_out : (ms : List (List ℕ × Json)) (key : List ℕ) (parts : List (List ℕ × Option Json)) (v : Option Json) → None ≡ v → ms ≡ present parts
    → ms ≡ present (parts ++ (key, v) ∷ [])
left_out ms key parts v none same =
    same ∙ sym (append-nil (present parts)) ∙ ap (λ (o : Option Json). present parts ++ present ((key, o) ∷ [])) none ∙ sym (present_append parts ((key, v) ∷ []))

pub put_in : (members : List Member) (m : Member) (key : List ℕ) (tree : Tree) (parts : List (List ℕ × Option Json)) (v : Option Json) → m.key ≡ key → m.value ≡ tree
    → Some (view tree) ≡ v → map member_view members ≡ present parts → map member_view (members ++ m ∷ []) ≡ present (parts ++ (key, v) ∷ [])
put_in members m key tree parts v named valued some same =
    map-append member_view members (m ∷ [])
    ∙ ap (λ (ms : List (List ℕ × Json)). ms ++ member_view m ∷ []) same
    ∙ ap (λ (p : List ℕ × Json). present parts ++ p ∷ []) (pair_same m.key key (view m.value) (view tree) named (ap view valued))
    ∙ ap (λ (o : Option Json). present parts ++ present ((key, o) ∷ [])) some
    ∙ sym (present_append parts ((key, v) ∷ []))

-- ---- a named value that is added for one more item
pub named_more : {A : Type 0} (pair : A → List ℕ × Json) (xs : List A) (i : ℕ) (x : A) (old new : List (List ℕ × Json)) (key : List ℕ) (v : Json)
    → i < length xs → x ≡ get_or xs i x → old ≡ map pair (take i xs) → new ≡ old ++ (key, v) ∷ [] → key ≡ (pair x).0 → v ≡ (pair x).1
    → new ≡ map pair (take (i + 1) xs)
named_more pair xs i x old new key v low at so_far put named valued =
    put
    ∙ ap (λ (ms : List (List ℕ × Json)). ms ++ (key, v) ∷ []) so_far
    ∙ ap (λ (p : List ℕ × Json). map pair (take i xs) ++ p ∷ []) (pair_same key (pair x).0 v (pair x).1 named valued ∙ ap pair at)
    ∙ sym (map_more pair xs i x low)

-- ---- values taken from the end of a list
abbrev pub values_of : List Member → List Json
values_of ms = map pair_value (map member_view ms)

pub drained : (left rest : List Member) (m : Member) (trees : List Tree) (all : List Json) → left ≡ rest ++ m ∷ [] → values_of left ++ map view (reverse trees) ≡ all
    → values_of rest ++ map view (reverse (trees ++ m.value ∷ [])) ≡ all
drained left rest m trees all is same =
    ap (λ (ts : List Tree). values_of rest ++ map view ts) (reverse-append trees (m.value ∷ []))
    ∙ sym (append_assoc (values_of rest) (view m.value ∷ []) (map view (reverse trees)))
    ∙ ap (λ (vs : List Json). vs ++ map view (reverse trees))
    (sym (ap (map pair_value) (map-append member_view rest (m ∷ [])) ∙ map-append pair_value (map member_view rest) (member_view m ∷ [])))
    ∙ ap (λ (ms : List Member). values_of ms ++ map view (reverse trees)) (sym is)
    ∙ same
