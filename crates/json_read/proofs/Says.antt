-- The outcome of reading says what the bytes are.
use Rattle.std.proofs.Common.{◌≡◌, ℕ, zero, suc, ◌+◌, ◌<◌, ◌↔◌, List, [], ◌∷◌, ◌++◌, take, Option, Some, None, refl, sym, ap, ◌∙◌, subst, arith}
use Rattle.json_tree.specs.Values.{Raw}
use Rattle.json_tree.specs.Grammar.{IsText, IsValue}
use Rattle.json_read.specs.Faults.{IsFirstWrongByte, IsCutShortText}
use Rattle.json_read.specs.Machinery.Automaton.{State, start, step, end, Outcome, wrong, cut, gives, outcome_at_end, followed_step, outcome}
use Rattle.json_read.specs.Machinery.Remains.{Remains, Follows}
use Rattle.json_read.specs.Machinery.Steps.{GoesOn, Says}
use Rattle.json_read.proofs.States.{forward, backward, ends_forward, ends_backward}
use Rattle.json_read.proofs.Complete.{complete}

-- through a step, both ways
onward : (s u : State) (b : ℕ) (rest : List ℕ) (whole : Raw) → step s b ≡ Some u → Remains s (b ∷ rest) whole → Remains u rest whole
onward s u b rest whole e h = subst (λ t. Follows t rest whole) e (forward s b rest whole h)

backed : (s u : State) (b : ℕ) (rest : List ℕ) (whole : Raw) → step s b ≡ Some u → Remains u rest whole → Remains s (b ∷ rest) whole
backed s u b rest whole e h = backward s b rest whole (subst (λ t. Follows t rest whole) (sym e) h)

goes_on : (s u : State) (b : ℕ) (bytes : List ℕ) → step s b ≡ Some u → GoesOn u bytes → GoesOn s (b ∷ bytes)
goes_on s u b bytes e g = (g.0, g.1, backed s u b (bytes ++ g.0) g.1 e g.2)

went_on : (s u : State) (b : ℕ) (bytes : List ℕ) → step s b ≡ Some u → GoesOn s (b ∷ bytes) → GoesOn u bytes
went_on s u b bytes e g = (g.0, g.1, onward s u b (bytes ++ g.0) g.1 e g.2)

is_live : (s : State) → GoesOn s []
is_live s = complete s

take_more : (b : ℕ) (bytes : List ℕ) (i : ℕ) → take (suc i + 1) (b ∷ bytes) ≡ b ∷ take (i + 1) bytes
take_more b bytes i = let e : suc i + 1 ≡ suc (i + 1) = omega arith in rw e refl

says_end : (s : State) (at : ℕ) (e : Option Raw) → end s ≡ e → Says s at [] (outcome_at_end e)
says_end s at None e = (is_live s, λ whole h. absurd (let f : end s ≡ Some whole = ends_forward s whole h in cc))
says_end s at (Some raw) e = λ whole. (
  λ h. (let f : end s ≡ Some whole = ends_forward s whole h in let g : Some raw ≡ Some whole = sym e ∙ f in cc),
  λ same. ends_backward s whole (e ∙ ap Some same),
)

live_more : (s u : State) (b : ℕ) (bytes : List ℕ) → step s b ≡ Some u → (i : ℕ) → ((j : ℕ) → j < i → GoesOn u (take (j + 1) bytes))
    → (j : ℕ) → j < suc i → GoesOn s (take (j + 1) (b ∷ bytes))
live_more s u b bytes e i live zero h = goes_on s u b [] e (is_live u)
live_more s u b bytes e i live (suc j) h = subst (GoesOn s) (sym (take_more b bytes j)) (goes_on s u b (take (j + 1) bytes) e (live j (omega (arith, h))))

says_more : (s u : State) (at b : ℕ) (bytes : List ℕ) (o : Outcome) → step s b ≡ Some u → Says u (at + 1) bytes o → Says s at (b ∷ bytes) o
says_more s u at b bytes (wrong n) e h = (
  suc h.0,
  omega (arith, h.1),
  omega (arith, h.2),
  (λ g. h.3 (went_on s u b (take (h.0 + 1) bytes) e (subst (GoesOn s) (take_more b bytes h.0) g))),
  live_more s u b bytes e h.0 h.4,
)
says_more s u at b bytes cut e h = (goes_on s u b bytes e h.0, λ whole r. h.1 whole (onward s u b bytes whole e r))
says_more s u at b bytes (gives raw) e h = λ whole. (λ r. (h whole).0 (onward s u b bytes whole e r), λ r. backed s u b bytes whole e ((h whole).1 r))

says_step : (s : State) (at b : ℕ) (bytes : List ℕ) (t : Option State) → step s b ≡ t
    → ((u : State) → Says u (at + 1) bytes (outcome u (at + 1) bytes)) → Says s at (b ∷ bytes) (followed_step t at (λ u. outcome u (at + 1) bytes))
says_step s at b bytes None e rec = (
  0,
  omega arith,
  omega arith,
  (λ g. subst (λ t. Follows t g.0 g.1) e (forward s b g.0 g.1 g.2)),
  λ j h. absurd (omega (arith, h)),
)
says_step s at b bytes (Some u) e rec = says_more s u at b bytes (outcome u (at + 1) bytes) e (rec u)

pub says : (bytes : List ℕ) (s : State) (at : ℕ) → Says s at bytes (outcome s at bytes)
says [] s at = says_end s at (end s) refl
says (b ∷ bytes) s at = says_step s at b bytes (step s b) refl (λ u. says bytes u (at + 1))

-- A text is what may remain at the start.
pub text-remains : (bytes : List ℕ) (raw : Raw) → IsText bytes raw → Remains start bytes raw
text-remains bytes raw h = (h.0, h.1, raw, h.2, h.3, (h.4, refl))

pub remains-text : (bytes : List ℕ) (raw : Raw) → Remains start bytes raw → IsText bytes raw
remains-text bytes raw h = (h.0, h.1, h.3, subst (λ v. IsValue v 64 h.0 h.1) (sym h.5.1) h.4, h.5.0)

pub says_wrong : (bytes : List ℕ) (n : ℕ) → outcome start 0 bytes ≡ wrong n → IsFirstWrongByte bytes n
says_wrong bytes n e =
    let h = subst (Says start 0 bytes) e (says bytes start 0) in
    let same : h.0 ≡ n = omega (arith, h.1) in
    subst (IsFirstWrongByte bytes) same (record {
      within = h.2;
      dead = λ g. h.3 (g.0, g.1, text-remains (take (h.0 + 1) bytes ++ g.0) g.1 g.2);
      least = λ j lt. let g = h.4 j lt in (g.0, g.1, remains-text (take (j + 1) bytes ++ g.0) g.1 g.2);
    })

pub says_cut : (bytes : List ℕ) → outcome start 0 bytes ≡ cut → IsCutShortText bytes
says_cut bytes e =
    let h = subst (Says start 0 bytes) e (says bytes start 0) in
    record {
      viable = (h.0.0, h.0.1, remains-text (bytes ++ h.0.0) h.0.1 h.0.2);
      none = λ raw t. h.1 raw (text-remains bytes raw t);
    }

pub says_gives : (bytes : List ℕ) (raw : Raw) → outcome start 0 bytes ≡ gives raw → (other : Raw) → IsText bytes other ↔ (raw ≡ other)
says_gives bytes raw e other =
    let h = subst (Says start 0 bytes) e (says bytes start 0) in
    ((λ t. (h other).0 (text-remains bytes other t)), λ same. remains-text bytes other ((h other).1 same))
