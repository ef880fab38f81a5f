-- Lists that are printed text by text.
use Rattle.std.proofs.Common.{◌≡◌, ℕ, zero, suc, ◌+◌, ◌<◌, List, ◌∷◌, ◌++◌, length, drop, get_or, append_assoc, add-one, drop-cons, sym, ap, ◌∙◌}
use Rattle.query_text.specs.Printed.{each_behind}
use Rattle.query_text.specs.Machinery.Parts.{mark_before, left}

-- the list from a place on begins with what stands there
drop_at_item : {X : Type 0} (xs : List X) (i : ℕ) (x : X) → i < length xs → x ≡ get_or xs i x → drop i xs ≡ x ∷ drop (i + 1) xs
drop_at_item xs i x within is =
    drop-cons xs i x within ∙ ap (λ y. y ∷ drop (suc i) xs) (sym is) ∙ ap (λ n. x ∷ drop n xs) (sym (add-one i))

after : {X : Type 0} (mark : List ℕ) (text : X → List ℕ) (i : ℕ) (xs : List X) → left mark text (i + 1) xs ≡ each_behind mark text xs
after mark text i xs = ap (λ n. left mark text n xs) (add-one i)

split : {X : Type 0} (mark : List ℕ) (text : X → List ℕ) (i : ℕ) (x : X) (xs : List X)
    → left mark text i (x ∷ xs) ≡ mark_before mark i ++ (text x ++ left mark text (i + 1) xs)
split mark text zero x xs = ap (λ e. text x ++ e) (sym (after mark text 0 xs))
split mark text (suc i) x xs = ap (λ e. mark ++ (text x ++ e)) (sym (after mark text (suc i) xs))

-- one more text, behind what separates it from those before it
pub one_more : {X : Type 0} (mark : List ℕ) (text : X → List ℕ) (out all : List ℕ) (xs : List X) (i : ℕ) (x : X) → i < length xs → x ≡ get_or xs i x
    → out ++ left mark text i (drop i xs) ≡ all → ((out ++ mark_before mark i) ++ text x) ++ left mark text (i + 1) (drop (i + 1) xs) ≡ all
one_more mark text out all xs i x lt is h =
    let rest = left mark text (i + 1) (drop (i + 1) xs) in
    append_assoc (out ++ mark_before mark i) (text x) rest
    ∙ append_assoc out (mark_before mark i) (text x ++ rest)
    ∙ ap (λ e. out ++ e) (sym (ap (λ l. left mark text i l) (drop_at_item xs i x lt is) ∙ split mark text i x (drop (i + 1) xs))) ∙ h

-- the same where something stands before each text
pub one_behind : {X : Type 0} (mark : List ℕ) (text : X → List ℕ) (out all : List ℕ) (xs : List X) (i : ℕ) (x : X) → i < length xs → x ≡ get_or xs i x
    → out ++ each_behind mark text (drop i xs) ≡ all → ((out ++ mark) ++ text x) ++ each_behind mark text (drop (i + 1) xs) ≡ all
one_behind mark text out all xs i x lt is h =
    let rest = each_behind mark text (drop (i + 1) xs) in
    append_assoc (out ++ mark) (text x) rest
    ∙ append_assoc out mark (text x ++ rest)
    ∙ ap (λ e. out ++ e) (sym (ap (λ l. each_behind mark text l) (drop_at_item xs i x lt is))) ∙ h

-- four pieces, one behind the other
pub four : (o a b c d p q r s : List ℕ) → a ≡ o ++ p → b ≡ a ++ q → c ≡ b ++ r → d ≡ c ++ s → d ≡ o ++ (p ++ (q ++ (r ++ s)))
four o a b c d p q r s first second third last =
    last
    ∙ ap (λ l. l ++ s) (third ∙ ap (λ l. l ++ r) (second ∙ ap (λ l. l ++ q) first))
    ∙ append_assoc ((o ++ p) ++ q) r s
    ∙ append_assoc (o ++ p) q (r ++ s)
    ∙ append_assoc o p (q ++ (r ++ s))
