-- What reading from a link does to the bytes that were read.
use Rattle.std.specs.Prelude.{◌≡◌, ℕ, ◌≤◌, List, Option, ◌++◌}
use Rattle.std.specs.Io.KnownBytes.{Consumes}

-- Bytes moved from the link to the end of what was read. Where the link tells them they are the front of what it had
-- left; what stands aside is as before, and the count of faults did not fall.
pub record ReadsMore {S : Type 0} (left aside : S → Option (List ℕ)) (faults : S → ℕ) (before after : S) (old new : List ℕ) : Type 0 where
  pub bytes : List ℕ
  pub grown : new ≡ old ++ bytes
  pub taken : Consumes (left before) (left after) bytes
  pub count : faults before ≤ faults after
  pub beside : aside after ≡ aside before

-- Neither the link nor what was read changed.
pub record IsUnread {S : Type 0} (before after : S) (old new : List ℕ) : Type 0 where
  pub link : after ≡ before
  pub bytes : new ≡ old
