-- The bytes of a connection that are not yet used: those that were read, and then those that the link has left, where
-- it tells them.
use Rattle.std.specs.Prelude.{◌≡◌, ℕ, List, Result, Err, Option, Some, None}
use Rattle.std.specs.Io.KnownBytes.{prepend_known}
use Rattle.http_ends.specs.declared.request.Request.{Request}
use Rattle.http_ends.specs.declared.request.HttpEnd.{HttpEnd}
use Rattle.http_ends.specs.declared.request.HttpEnd.TheVariants.{ReadFault, OutOfMemory}
use Rattle.http_ends.specs.Messages.{IsNext}

-- The read bytes, and what is left of the link.
abbrev pub stream_of : List ℕ → Option (List ℕ) → Option (List ℕ)
stream_of read left = prepend_known read left

-- The fact of the stream before and after, where they are told.
abbrev pub OnStreams : Option (List ℕ) → Option (List ℕ) → (List ℕ → List ℕ → Type 0) → Type 0
OnStreams None after P = Unit {0}
OnStreams (Some before) None P = ⊥
OnStreams (Some before) (Some after) P = P before after

-- The answer is what comes next in the stream. After a read that failed, and after want of memory, the stream is as
-- before.
abbrev pub ReadsNext : Result Request HttpEnd → List ℕ → List ℕ → Type 0
ReadsNext (Err ReadFault) before after = after ≡ before
ReadsNext (Err OutOfMemory) before after = after ≡ before
ReadsNext answer before after = IsNext before answer after
