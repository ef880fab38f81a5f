-- Objects printed part by part.
use Rattle.std.proofs.Common.{◌≡◌, ℕ, List, [], ◌∷◌, ◌++◌, Bool, true, false, Option, Some, append_assoc, refl, sym, ap, ◌∙◌}
use Rattle.std.specs.Prelude.{codes}
use Rattle.json_tree.specs.Values.{Json}
use Rattle.json_tree.specs.Printing.{printed, quoted}
use Rattle.canon_text.specs.Canonical.{typed}
use Rattle.canon_text.specs.Objects.{object_of_parts}
use Rattle.canon_print.specs.Machinery.Bodies.{comma_unless, head_text, parts_left, IsPrinted}

part_split : (first : Bool) (key : List ℕ) (v : Json) (parts : List (List ℕ × Option Json))
    → parts_left first ((key, Some v) ∷ parts) ≡ comma_unless first ++ (head_text key ++ (printed v ++ parts_left false parts))
part_split true key v parts = sym (append_assoc (quoted key) (58 ∷ []) (printed v ++ parts_left false parts))
part_split false key v parts = ap (λ bytes. 44 ∷ bytes) (sym (append_assoc (quoted key) (58 ∷ []) (printed v ++ parts_left false parts)))

-- a part behind its head
pub part_printed : (before headed now : List ℕ) (first : Bool) (head key : List ℕ) (v : Json)
    → headed ≡ (before ++ comma_unless first) ++ head → head ≡ head_text key → now ≡ headed ++ printed v → IsPrinted before now first false key (Some v)
part_printed before headed now first head key v behind named valued = λ parts.
    ap (λ bytes. before ++ bytes) (part_split first key v parts)
    ∙ sym (append_assoc before (comma_unless first) (head_text key ++ (printed v ++ parts_left false parts)))
    ∙ sym (append_assoc (before ++ comma_unless first) (head_text key) (printed v ++ parts_left false parts))
    ∙ sym (append_assoc ((before ++ comma_unless first) ++ head_text key) (printed v) (parts_left false parts))
    ∙ ap (λ bytes. (((before ++ comma_unless first) ++ bytes) ++ printed v) ++ parts_left false parts) (sym named)
    ∙ ap (λ bytes. (bytes ++ printed v) ++ parts_left false parts) (sym behind)
    ∙ ap (λ bytes. bytes ++ parts_left false parts) (sym valued)

-- a part whose head holds its value
pub given_printed : (before now : List ℕ) (first : Bool) (given key : List ℕ) (v : Json)
    → now ≡ (before ++ comma_unless first) ++ given → given ≡ head_text key ++ printed v → IsPrinted before now first false key (Some v)
given_printed before now first given key v behind same =
    part_printed before ((before ++ comma_unless first) ++ head_text key) now first (head_text key) key v refl refl
    (behind ∙ ap (λ bytes. (before ++ comma_unless first) ++ bytes) same ∙ sym (append_assoc (before ++ comma_unless first) (head_text key) (printed v)))

-- a type and a semantic type in a list
pub types_printed : (before now given : List ℕ) (first : Bool) (kind semantic : List ℕ) → given ≡ quoted kind
    → now ≡ (((((before ++ comma_unless first) ++ codes "\"@type\":[") ++ given) ++ 44 ∷ []) ++ quoted semantic) ++ 93 ∷ []
    → IsPrinted before now first false (codes "@type") (Some (typed kind (Some semantic)))
types_printed before now given first kind semantic same ended =
    let start = before ++ comma_unless first in
    let head = codes "\"@type\":[" in
    let last = quoted semantic ++ 93 ∷ [] in
    given_printed before now first (head ++ (quoted kind ++ 44 ∷ last)) (codes "@type") (typed kind (Some semantic))
    (ended
    ∙ ap (λ bytes. ((((start ++ head) ++ bytes) ++ 44 ∷ []) ++ quoted semantic) ++ 93 ∷ []) same
    ∙ append_assoc (((start ++ head) ++ quoted kind) ++ 44 ∷ []) (quoted semantic) (93 ∷ [])
    ∙ append_assoc ((start ++ head) ++ quoted kind) (44 ∷ []) last
    ∙ append_assoc (start ++ head) (quoted kind) (44 ∷ last)
    ∙ append_assoc start head (quoted kind ++ 44 ∷ last))
    refl

-- the opening brace before all parts
pub object_begun : (before opened : List ℕ) (parts : List (List ℕ × Option Json)) → opened ≡ before ++ 123 ∷ []
    → before ++ printed (object_of_parts parts) ≡ opened ++ parts_left true parts
object_begun before opened parts brace = sym (append_assoc before (123 ∷ []) (parts_left true parts)) ∙ ap (λ bytes. bytes ++ parts_left true parts) (sym brace)

-- the closing brace behind all parts
pub parts_ended : (first : Bool) (last : List ℕ) → last ++ parts_left first [] ≡ last ++ 125 ∷ []
parts_ended true last = refl
parts_ended false last = refl
