-- Several reads are one, and leave the stream as it was.
use Rattle.std.proofs.Common.{◌≡◌, ℕ, List, ◌++◌, Option, Some, None, refl, sym, ap, ◌∙◌, append_assoc, append-nil, arith}
use Rattle.std.specs.Io.KnownBytes.{Consumes}
use Rattle.std.proofs.KnownBytes.{Consumes-nil, Consumes-trans}
use Rattle.http_ends.specs.Streams.{stream_of, OnStreams}
use Rattle.http_ends.specs.reading.Reads.{ReadsMore}

pub Reads-none : {S : Type 0} (left aside : S → Option (List ℕ)) (faults : S → ℕ) (link : S) (bytes : List ℕ) → ReadsMore left aside faults link link bytes bytes
Reads-none left aside faults link bytes = record { bytes = _; grown = sym (append-nil bytes); taken = Consumes-nil (left link); count = omega arith; beside = refl }

pub Reads-trans : {S : Type 0} (left aside : S → Option (List ℕ)) (faults : S → ℕ) {a b c : S} {old mid new : List ℕ}
    → ReadsMore left aside faults a b old mid → ReadsMore left aside faults b c mid new → ReadsMore left aside faults a c old new
Reads-trans left aside faults {a} {b} {c} {old} x y = record {
  bytes = x.bytes ++ y.bytes;
  grown = y.grown ∙ ap (λ bs. bs ++ y.bytes) x.grown ∙ append_assoc old x.bytes y.bytes;
  taken = Consumes-trans (left a) (left b) (left c) x.bytes y.bytes x.taken y.taken;
  count = omega (arith, x.count, y.count);
  beside = y.beside ∙ x.beside;
}

-- a fact of what was read and of what is left of it holds of the streams, where it holds whatever follows
pub on_streams : (old : List ℕ) (before : Option (List ℕ)) (mid new : List ℕ) (after : Option (List ℕ)) (bytes : List ℕ) (P : List ℕ → List ℕ → Type 0)
    → mid ≡ old ++ bytes → Consumes before after bytes → ((more : List ℕ) → after ≡ Some more → P (mid ++ more) (new ++ more))
    → OnStreams (stream_of old before) (stream_of new after) P
on_streams old None mid new after bytes P grown taken fact = tt
on_streams old (Some xs) mid new None bytes P grown taken fact = absurd taken
on_streams old (Some xs) mid new (Some ys) bytes P grown taken fact =
    let same : mid ++ ys ≡ old ++ xs = ap (λ bs. bs ++ ys) grown ∙ append_assoc old bytes ys ∙ ap (λ bs. old ++ bs) (sym taken) in
    rw (← same) (fact ys refl)
