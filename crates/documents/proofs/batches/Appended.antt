-- The elements of one array and then those of another.
use Rattle.std.proofs.Common.{◌≡◌, ℕ, List, [], ◌∷◌, ◌++◌, refl, ap, subst}
use Rattle.json_decimal.specs.Number.{Number}
use Rattle.json_tree.specs.Values.{Raw, Json, Elements, no_elements, element, elements_of, ElementsHaveDistinctKeys, IsReadAs, ElementsAreReadAs}
use Rattle.json_tree.specs.Grammar.{IsElements, IsMoreElements}
use Rattle.documents.proofs.batches.Frames.{Takes, takes_then, takes_as, spaces_taken, mark_taken, value_taken}

abbrev pub appended : Elements (List ℕ) → Elements (List ℕ) → Elements (List ℕ)
appended no_elements ws = ws
appended (element v vs) ws = element v (appended vs ws)

-- What stands in front of the closing bracket, where a comma and further elements with their own bracket stand in its place.
abbrev pub OpensMore : Elements (List ℕ) → ℕ → List ℕ → List ℕ → Type 0
OpensMore vs depth from at = (w : Raw) (ws : Elements (List ℕ)) (rest to : List ℕ) → at ≡ 44 ∷ rest
    → IsElements (element w ws) depth rest to → IsMoreElements (appended vs (element w ws)) depth from to

abbrev pub Opens : Elements (List ℕ) → ℕ → List ℕ → List ℕ → Type 0
Opens vs depth from at = (w : Raw) (ws : Elements (List ℕ)) (rest to : List ℕ) → at ≡ 44 ∷ rest
    → IsElements (element w ws) depth rest to → IsElements (appended vs (element w ws)) depth from to

more_opened : (vs : Elements (List ℕ)) (depth : ℕ) (from to : List ℕ) → IsMoreElements vs depth from to → Takes (OpensMore vs depth) from (93 ∷ to)
more_opened no_elements depth from to (spaces, all, e) = record {
  front = spaces;
  is = e;
  leaves = λ other w ws rest stop same (start, end, blank, value, more).
      (rest, start, end, (spaces, all, ap (λ (r : List ℕ). spaces ++ r) same), blank, value, more);
}
more_opened (element v vs) depth from to (mid, start, end, comma, spaces, value, more) =
    takes_as (λ f t (m, c, (s, blank, (n, is, opens))) w ws rest stop same elements. (m, s, n, c, blank, is, opens w ws rest stop same elements))
    (takes_then (mark_taken 44 from mid comma) (takes_then (spaces_taken mid start spaces) (takes_then (value_taken v depth start end value) (more_opened vs depth end to more))))

pub opened : (v : Raw) (vs : Elements (List ℕ)) (depth : ℕ) (from to : List ℕ) → IsElements (element v vs) depth from to → Takes (Opens (element v vs) depth) from (93 ∷ to)
opened v vs depth from to (start, end, spaces, value, more) =
    takes_as (λ f t (s, blank, (n, is, opens)) w ws rest stop same elements. (s, n, blank, is, opens w ws rest stop same elements))
    (takes_then (spaces_taken from start spaces) (takes_then (value_taken v depth start end value) (more_opened vs depth end to more)))

pub appended_distinct : (vs ws : Elements (List ℕ)) → ElementsHaveDistinctKeys vs → ElementsHaveDistinctKeys ws → ElementsHaveDistinctKeys (appended vs ws)
appended_distinct no_elements ws h more = more
appended_distinct (element v vs) ws (own, h) more = (own, appended_distinct vs ws h more)

pub appended_read : (vs ws : Elements (List ℕ)) (xs ys : List Json) → ElementsAreReadAs vs (elements_of xs) → ElementsAreReadAs ws (elements_of ys)
    → ElementsAreReadAs (appended vs ws) (elements_of (xs ++ ys))
appended_read no_elements ws [] ys h more = more
appended_read no_elements ws (x ∷ xs) ys h more = absurd cc
appended_read (element v vs) ws [] ys (x, xs, own, h, e) more = absurd cc
appended_read (element v vs) ws (y ∷ xs) ys (x, zs, own, h, e) more =
    let first : x ≡ y = cc in let others : zs ≡ elements_of xs = cc in (
      y,
      elements_of (xs ++ ys),
      subst (λ (j : Json). IsReadAs v j) first own,
      appended_read vs ws xs ys (subst (λ (js : Elements Number). ElementsAreReadAs vs js) others h) more,
      refl,
    )
