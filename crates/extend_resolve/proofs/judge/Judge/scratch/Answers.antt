use Rattle.std.proofs.Common.{◌≡◌, ℕ, zero, suc, ◌<◌, List, Bool, false, Option, None, length, replicate, get_or, refl, sym, ap, ◌∙◌, rules, arith}
use Rattle.std.proofs.lemmas.List.{get_or-replicate}
use Rattle.std.proofs.lemmas.Option.{none-some}
use Rattle.extend_resolve.specs.declared.owners.Owner.{Owner}
use Rattle.extend_resolve.specs.Machinery.Owners.{nobody}
use Rattle.extend_resolve.proofs.judge.Judge.scratch.Goals as goal

-- what is read of equal items, or past them, is that item
same_at : {A : Type 0} → (n k : ℕ) (d : A) → get_or (replicate n d) k d ≡ d
same_at zero k d = refl
same_at (suc n) zero d = refl
same_at (suc n) (suc k) d = same_at n k d

pub returns : goal.returns
returns c =
    let marks = c.in_ok-marks.ensures.items_if_clones_equal (λ y h. search rules) in
    let owners = c.in_ok-owners.ensures.items_if_clones_equal (λ y h. search rules) in
    let composed = c.in_ok-composed.ensures.items_if_clones_equal (λ y h. search rules) in
    let bound : length c.in_ok-owners.owners.items ≡ c.args.self.now.names.bound = omega (arith, c.in_ok-owners.ensures.len, c.in_ok-owners.owners.ok.0) in
    record {
      marks = λ y. ap (λ (bs : List Bool). get_or bs y false) marks ∙ same_at _ y false;
      marks_length = omega (arith, c.in_ok-marks.ensures.len, c.in_ok-marks.marks.ok.0, c.args.self.now.world.links.ok.0);
      owners_length = bound;
      fresh = λ x r low from to same.
          let within : x < c.args.self.now.names.bound = omega (arith, low, bound) in
          let round = ap (λ (os : List Owner). (get_or os x nobody).round) owners ∙ ap (λ (o : Owner). o.round) (get_or-replicate _ x _ nobody within) in
          omega (arith, to, same, round);
      composed_length = omega (arith, c.in_ok-composed.ensures.len, c.in_ok-composed.composed.ok.0, c.args.self.now.world.links.ok.0);
      composed = λ x b is. absurd (none-some b (sym (ap (λ (os : List (Option Bool)). get_or os x None) composed ∙ same_at _ x None) ∙ is));
    }
