-- At most one answer fits a text, want of memory aside: it is either read, or refused by one fault.
use Rattle.std.proofs.Common.{◌≡◌, ℕ, ◌+◌, ◌<◌, ◌≤◌, ◌⊎◌, inl, inr, List, [], ◌∷◌, ◌++◌, length, take, drop, refl, sym, ap, ◌∙◌, subst, arith, append_assoc, append-nil, length-append}
use Rattle.std.specs.Prelude.{Contains}
use Rattle.std.proofs.lemmas.List.{take-append-drop}
use Rattle.std.proofs.lemmas.Bool.{cases_order, false≢true}
use Rattle.dt_base.specs.declared.names.fault.NameFault.{NameFault}
use Rattle.dt_base.specs.declared.names.fault.NameFault.TheVariants.{Empty, TooLong, BadByte, Ends, BadVersion, Reserved, OutOfMemory}
use Rattle.dt_base.specs.names.Grammar.{Identifier, NameText, OwnDtmiText, IsDtmi}
use Rattle.dt_base.specs.names.Faults.{IsViable, IsFirstWrong, RefusesName, RefusesDtmi}

module _ (Text : List ℕ → Type 0) where
  viable-from_text : (bytes : List ℕ) → Text bytes → IsViable Text bytes
  viable-from_text bytes t = ([], subst Text (sym (append-nil bytes)) t)

  -- what begins with a wrong byte is no beginning of a text
  wrong_viable : (bytes : List ℕ) (at : ℕ) → IsFirstWrong Text bytes at → IsViable Text bytes → ⊥
  wrong_viable bytes at w v =
      let front : List ℕ = take (at + 1) bytes in
      w.dead (
        drop (at + 1) bytes ++ v.0,
        subst Text (ap (λ b. b ++ v.0) (sym (take-append-drop (at + 1) bytes)) ∙ append_assoc (take (at + 1) bytes) (drop (at + 1) bytes) v.0) v.1,
      )

  wrong_before : (bytes : List ℕ) (a b : ℕ) → IsFirstWrong Text bytes a → IsFirstWrong Text bytes b → a < b → ⊥
  wrong_before bytes a b v w h = v.dead (w.least a h)

  wrong_once : (bytes : List ℕ) (a b : ℕ) → IsFirstWrong Text bytes a → IsFirstWrong Text bytes b → a ≡ b
  wrong_once bytes a b v w =
      elim (cases_order a b)
      [ inl e ↦ e | inr o ↦ elim o [ inl h ↦ absurd (wrong_before bytes a b v w h) | inr h ↦ absurd (wrong_before bytes b a w v h) ] ]

name_viable_short : (bytes : List ℕ) → IsViable NameText bytes → length bytes ≤ 64
name_viable_short bytes v = omega (arith, v.1.short, length-append bytes v.0)

dtmi_viable_short : (bytes : List ℕ) → IsViable IsDtmi bytes → length bytes ≤ 2048
dtmi_viable_short bytes v = omega (arith, v.1.1.short, length-append bytes v.0)

dtmi_some : (bytes : List ℕ) → IsDtmi bytes → 0 < length bytes
dtmi_some [] t = let e = t.1.form.spelled in cc
dtmi_some (c ∷ cs) t = omega arith

-- ---- a text that is read is refused by want of memory alone
pub dtmi_refused : (bytes : List ℕ) (i : Identifier) (f : NameFault) → OwnDtmiText bytes i → RefusesDtmi bytes f → f ≡ OutOfMemory
dtmi_refused bytes i Empty t r = absurd (omega (arith, dtmi_some bytes (i, t.text), ap length r))
dtmi_refused bytes i TooLong t r = absurd (omega (arith, t.text.short))
dtmi_refused bytes i (BadByte at) t r = absurd (wrong_viable IsDtmi bytes at r.1 (viable-from_text IsDtmi bytes (i, t.text)))
dtmi_refused bytes i Ends t r = absurd (r.1.none (i, t.text))
dtmi_refused bytes i BadVersion t r = absurd (wrong_viable IsDtmi bytes r.1.0 r.1.1 (viable-from_text IsDtmi bytes (i, t.text)))
dtmi_refused bytes i Reserved t r = absurd (false≢true (sym t.free ∙ r.1))
dtmi_refused bytes i OutOfMemory t r = refl

-- ---- and a text that is refused has one fault
-- one of them is want of memory, or they are the same
abbrev pub OneFault : NameFault → NameFault → Type 0
OneFault f g = (f ≡ OutOfMemory) ⊎ ((g ≡ OutOfMemory) ⊎ (f ≡ g))

same_fault : {f g : NameFault} → f ≡ g → OneFault f g
same_fault e = inr (inr e)

pub name_fault_unique : (bytes : List ℕ) (f g : NameFault) → RefusesName bytes f → RefusesName bytes g → OneFault f g
name_fault_unique bytes OutOfMemory g r s = inl refl
name_fault_unique bytes f OutOfMemory r s = inr (inl refl)
name_fault_unique bytes BadVersion g r s = absurd r
name_fault_unique bytes Reserved g r s = absurd r
name_fault_unique bytes f BadVersion r s = absurd s
name_fault_unique bytes f Reserved r s = absurd s
name_fault_unique bytes Empty Empty r s = same_fault refl
name_fault_unique bytes Empty TooLong r s = absurd (omega (arith, ap length r))
name_fault_unique bytes Empty (BadByte at) r s = absurd (omega (arith, ap length r, s.1.within))
name_fault_unique bytes Empty Ends r s = absurd (omega (arith, ap length r, s.0))
name_fault_unique bytes TooLong Empty r s = absurd (omega (arith, ap length s))
name_fault_unique bytes TooLong TooLong r s = same_fault refl
name_fault_unique bytes TooLong (BadByte at) r s = absurd (omega (arith, s.0))
name_fault_unique bytes TooLong Ends r s = absurd (omega (arith, name_viable_short bytes s.1.viable))
name_fault_unique bytes (BadByte at) Empty r s = absurd (omega (arith, ap length s, r.1.within))
name_fault_unique bytes (BadByte at) TooLong r s = absurd (omega (arith, r.0))
name_fault_unique bytes (BadByte at) (BadByte at') r s = same_fault (ap BadByte (wrong_once NameText bytes at at' r.1 s.1))
name_fault_unique bytes (BadByte at) Ends r s = absurd (wrong_viable NameText bytes at r.1 s.1.viable)
name_fault_unique bytes Ends Empty r s = absurd (omega (arith, ap length s, r.0))
name_fault_unique bytes Ends TooLong r s = absurd (omega (arith, name_viable_short bytes r.1.viable))
name_fault_unique bytes Ends (BadByte at) r s = absurd (wrong_viable NameText bytes at s.1 r.1.viable)
name_fault_unique bytes Ends Ends r s = same_fault refl

-- the first wrong byte stands on one side of the `;`
two_sides : (bytes : List ℕ) (a b : ℕ) → IsFirstWrong IsDtmi bytes a → IsFirstWrong IsDtmi bytes b → (Contains (take a bytes) 59 → ⊥) → Contains (take b bytes) 59 → ⊥
two_sides bytes a b v w before behind = before (subst (λ (k : ℕ). Contains (take k bytes) 59) (sym (wrong_once IsDtmi bytes a b v w)) behind)

pub dtmi_fault_unique : (bytes : List ℕ) (f g : NameFault) → RefusesDtmi bytes f → RefusesDtmi bytes g → OneFault f g
dtmi_fault_unique bytes OutOfMemory g r s = inl refl
dtmi_fault_unique bytes f OutOfMemory r s = inr (inl refl)
dtmi_fault_unique bytes Empty Empty r s = same_fault refl
dtmi_fault_unique bytes Empty TooLong r s = absurd (omega (arith, ap length r))
dtmi_fault_unique bytes Empty (BadByte at) r s = absurd (omega (arith, ap length r, s.1.within))
dtmi_fault_unique bytes Empty Ends r s = absurd (omega (arith, ap length r, s.0))
dtmi_fault_unique bytes Empty BadVersion r s = absurd (omega (arith, ap length r, s.1.1.within))
dtmi_fault_unique bytes Empty Reserved r s = absurd (omega (arith, ap length r, dtmi_some bytes s.0))
dtmi_fault_unique bytes TooLong Empty r s = absurd (omega (arith, ap length s))
dtmi_fault_unique bytes TooLong TooLong r s = same_fault refl
dtmi_fault_unique bytes TooLong (BadByte at) r s = absurd (omega (arith, s.0))
dtmi_fault_unique bytes TooLong Ends r s = absurd (omega (arith, dtmi_viable_short bytes s.1.viable))
dtmi_fault_unique bytes TooLong BadVersion r s = absurd (omega (arith, s.0))
dtmi_fault_unique bytes TooLong Reserved r s = absurd (omega (arith, s.0.1.short))
dtmi_fault_unique bytes (BadByte at) Empty r s = absurd (omega (arith, ap length s, r.1.within))
dtmi_fault_unique bytes (BadByte at) TooLong r s = absurd (omega (arith, r.0))
dtmi_fault_unique bytes (BadByte at) (BadByte at') r s = same_fault (ap BadByte (wrong_once IsDtmi bytes at at' r.1 s.1))
dtmi_fault_unique bytes (BadByte at) Ends r s = absurd (wrong_viable IsDtmi bytes at r.1 s.1.viable)
dtmi_fault_unique bytes (BadByte at) BadVersion r s = absurd (two_sides bytes at s.1.0 r.1 s.1.1 r.2 s.1.2)
dtmi_fault_unique bytes (BadByte at) Reserved r s = absurd (wrong_viable IsDtmi bytes at r.1 (viable-from_text IsDtmi bytes s.0))
dtmi_fault_unique bytes Ends Empty r s = absurd (omega (arith, ap length s, r.0))
dtmi_fault_unique bytes Ends TooLong r s = absurd (omega (arith, dtmi_viable_short bytes r.1.viable))
dtmi_fault_unique bytes Ends (BadByte at) r s = absurd (wrong_viable IsDtmi bytes at s.1 r.1.viable)
dtmi_fault_unique bytes Ends Ends r s = same_fault refl
dtmi_fault_unique bytes Ends BadVersion r s = absurd (wrong_viable IsDtmi bytes s.1.0 s.1.1 r.1.viable)
dtmi_fault_unique bytes Ends Reserved r s = absurd (r.1.none s.0)
dtmi_fault_unique bytes BadVersion Empty r s = absurd (omega (arith, ap length s, r.1.1.within))
dtmi_fault_unique bytes BadVersion TooLong r s = absurd (omega (arith, r.0))
dtmi_fault_unique bytes BadVersion (BadByte at) r s = absurd (two_sides bytes at r.1.0 s.1 r.1.1 s.2 r.1.2)
dtmi_fault_unique bytes BadVersion Ends r s = absurd (wrong_viable IsDtmi bytes r.1.0 r.1.1 s.1.viable)
dtmi_fault_unique bytes BadVersion BadVersion r s = same_fault refl
dtmi_fault_unique bytes BadVersion Reserved r s = absurd (wrong_viable IsDtmi bytes r.1.0 r.1.1 (viable-from_text IsDtmi bytes s.0))
dtmi_fault_unique bytes Reserved Empty r s = absurd (omega (arith, ap length s, dtmi_some bytes r.0))
dtmi_fault_unique bytes Reserved TooLong r s = absurd (omega (arith, r.0.1.short))
dtmi_fault_unique bytes Reserved (BadByte at) r s = absurd (wrong_viable IsDtmi bytes at s.1 (viable-from_text IsDtmi bytes r.0))
dtmi_fault_unique bytes Reserved Ends r s = absurd (s.1.none r.0)
dtmi_fault_unique bytes Reserved BadVersion r s = absurd (wrong_viable IsDtmi bytes s.1.0 s.1.1 (viable-from_text IsDtmi bytes r.0))
dtmi_fault_unique bytes Reserved Reserved r s = same_fault refl
