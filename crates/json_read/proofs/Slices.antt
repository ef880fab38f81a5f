-- Parts of a list between two positions, and choices by a byte.
use Rattle.std.proofs.Common.{◌≡◌, ℕ, ◌+◌, ◌-◌, ◌<◌, ◌≤◌, ◌⊎◌, List, [], ◌∷◌, ◌++◌, length, take, drop, get_or, Bool, true, false, cond, nat_eq, nat_le, ◌&&◌, IsTrue, ◌↔◌, ap, ◌∙◌, arith}
use Rattle.std.specs.List.{slice_range}
use Rattle.std.proofs.Math.Seq.{take-add}
use Rattle.std.proofs.lemmas.List.{drop-drop}
use Rattle.std.proofs.lemmas.List.Edits.{between_none, between_more}
use Rattle.json_tree.proofs.Choices.{is_byte-in, no_byte-in, is_within-in, not_within-in}

pub slice_none : (bytes : List ℕ) (at : ℕ) → slice_range bytes at at ≡ []
slice_none bytes at = between_none bytes at

pub slice_one : (bytes : List ℕ) (at : ℕ) → at < length bytes → slice_range bytes at (at + 1) ≡ get_or bytes at 0 ∷ []
slice_one bytes at h = between_more bytes at at 0 (omega arith) h ∙ ap (λ (x : List ℕ). x ++ get_or bytes at 0 ∷ []) (between_none bytes at)

pub slice_join : (bytes : List ℕ) (a b c : ℕ) → a ≤ b → b ≤ c → slice_range bytes a c ≡ slice_range bytes a b ++ slice_range bytes b c
slice_join bytes a b c p q =
    let count : c - a ≡ (b - a) + (c - b) = omega arith in
    let place : a + (b - a) ≡ b = omega arith in
    let rest : drop (b - a) (drop a bytes) ≡ drop b bytes = drop-drop (b - a) a bytes ∙ ap (λ (n : ℕ). drop n bytes) place in
    ap (λ (n : ℕ). take n (drop a bytes)) count
    ∙ take-add (b - a) (c - b) (drop a bytes)
    ∙ ap (λ (x : List ℕ). slice_range bytes a b ++ take (c - b) x) rest

pub slice_cons : (bytes : List ℕ) (at stop : ℕ) → at < length bytes → at + 1 ≤ stop → slice_range bytes at stop ≡ get_or bytes at 0 ∷ slice_range bytes (at + 1) stop
slice_cons bytes at stop h p = slice_join bytes at (at + 1) stop (omega arith) p ∙ ap (λ (x : List ℕ). x ++ slice_range bytes (at + 1) stop) (slice_one bytes at h)

-- the sides of a choice by one byte or a range of bytes
pub at_byte : {A : Type 0} (b n : ℕ) (x y : A) → b ≡ n → cond (nat_eq b n) x y ≡ x
at_byte b n x y e = ap (λ (t : Bool). cond t x y) (is_byte-in b n e)

pub past_byte : {A : Type 0} (b n : ℕ) (x y : A) → (b ≡ n → ⊥) → cond (nat_eq b n) x y ≡ y
past_byte b n x y e = ap (λ (t : Bool). cond t x y) (no_byte-in b n e)

pub at_range : {A : Type 0} (b low high : ℕ) (x y : A) → low ≤ b → b ≤ high → cond (nat_le low b && nat_le b high) x y ≡ x
at_range b low high x y p q = ap (λ (t : Bool). cond t x y) (is_within-in b low high p q)

pub past_range : {A : Type 0} (b low high : ℕ) (x y : A) → (b < low) ⊎ (high < b) → cond (nat_le low b && nat_le b high) x y ≡ y
past_range b low high x y p = ap (λ (t : Bool). cond t x y) (not_within-in b low high p)

-- a test that tells a fact
pub told : (b : Bool) (P : Type 0) → (IsTrue b ↔ P) → b ≡ true → P
told b P h e = h.0 e

pub denied : (b : Bool) (P : Type 0) → (IsTrue b ↔ P) → b ≡ false → P → ⊥
denied b P h e p = let t : b ≡ true = h.1 p in cc
