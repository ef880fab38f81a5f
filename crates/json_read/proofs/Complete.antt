-- In every state some bytes may remain.
use Rattle.std.proofs.Common.{ℕ, suc, List, [], ◌∷◌, ◌++◌, refl}
use Rattle.json_tree.specs.Values.{Raw, number, text, array, object, no_elements, element, no_members, member}
use Rattle.json_tree.specs.Grammar.{IsValue}
use Rattle.json_read.specs.Machinery.Automaton.{Pairs, Use, as_value, as_key, Frame, in_array, in_object, behind_zero, State, value, first_element, first_key, next_key, colon, after, in_word, in_number, in_text, in_character}
use Rattle.json_read.specs.Machinery.Remains.{Remains, After, AfterKey, InText, with_elements, with_members}
use Rattle.json_read.proofs.Numbers.{complete-number, number_zero, back-may_end}
use Rattle.json_read.proofs.Spaces.{no_spaces}
use Rattle.json_read.proofs.Texts.{complete-point}

pub complete-after : (k : List Frame) (d : ℕ) (v : Raw) → (from : List ℕ) × (whole : Raw) × After k d v from whole
complete-after [] d v = ([], v, (no_spaces [], refl))
complete-after (in_array vs ∷ k) d v =
    let r = complete-after k (suc d) (array (with_elements vs (element v no_elements))) in
    (93 ∷ r.0, r.1, (no_elements, r.0, no_spaces (93 ∷ r.0), r.2))
complete-after (in_object ms key ∷ k) d v =
    let r = complete-after k (suc d) (object (with_members ms (member key v no_members))) in
    (125 ∷ r.0, r.1, (no_members, r.0, no_spaces (125 ∷ r.0), r.2))

abbrev naught : Raw
naught = number (48 ∷ [])

naught_is : (d : ℕ) (to : List ℕ) → IsValue naught d (48 ∷ to) to
naught_is d to = (number_zero [] (back-may_end behind_zero refl), refl)

pub complete-key : (ms : Pairs) (key : List ℕ) (d : ℕ) (k : List Frame) → (from : List ℕ) × (whole : Raw) × AfterKey ms key d k from whole
complete-key ms key d k =
    let r = complete-after (in_object ms key ∷ k) d naught in
    (58 ∷ 48 ∷ r.0, r.1, (48 ∷ r.0, 48 ∷ r.0, r.0, naught, no_spaces (58 ∷ 48 ∷ r.0), no_spaces (48 ∷ r.0), naught_is d r.0, r.2))

pub complete-text : (u : Use) (content : List ℕ) (d : ℕ) (k : List Frame) → (from : List ℕ) × (whole : Raw) × InText u content d k from whole
complete-text as_value content d k =
    let r = complete-after k d (text (content ++ [])) in
    (34 ∷ r.0, r.1, (0, [], r.0, (refl, refl), r.2))
complete-text (as_key ms) content d k =
    let r = complete-key ms (content ++ []) d k in
    (34 ∷ r.0, r.1, (0, [], r.0, (refl, refl), r.2))

pub complete : (s : State) → (from : List ℕ) × (whole : Raw) × Remains s from whole
complete (value d k) =
    let r = complete-after k d naught in
    (48 ∷ r.0, r.1, (48 ∷ r.0, r.0, naught, no_spaces (48 ∷ r.0), naught_is d r.0, r.2))
complete (first_element d k) =
    let r = complete-after k (suc d) (array no_elements) in
    (93 ∷ r.0, r.1, (no_elements, r.0, no_spaces (93 ∷ r.0), r.2))
complete (first_key d k) =
    let r = complete-after k (suc d) (object no_members) in
    (125 ∷ r.0, r.1, (no_members, r.0, no_spaces (125 ∷ r.0), r.2))
complete (next_key d k ms) =
    let r = complete-key ms [] d k in
    (34 ∷ 34 ∷ r.0, r.1, (34 ∷ 34 ∷ r.0, [], r.0, no_spaces (34 ∷ 34 ∷ r.0), (0, 34 ∷ r.0, refl, (refl, refl)), r.2))
complete (colon d k ms key) = complete-key ms key d k
complete (after d k v) = complete-after k d v
complete (in_word b left v d k) =
    let r = complete-after k d v in
    (b ∷ (left ++ r.0), r.1, (r.0, refl, r.2))
complete (in_number part bytes d k) =
    let n = complete-number part in
    let r = complete-after k d (number (bytes ++ n.0)) in
    (n.0 ++ r.0, r.1, (n.0, r.0, n.1, refl, r.2))
complete (in_text u content d k) = complete-text u content d k
complete (in_character p u content d k) =
    let c = complete-point p in
    let r = complete-text u (content ++ c.1) d k in
    (c.0 ++ r.0, r.1, (c.1, r.0, c.2 r.0, r.2))
