use Rattle.std.proofs.Common.{◌≡◌, ◌++◌, length}
use Rattle.documents.specs.faultless.Machinery.Placed.{numbered}
use Rattle.documents.proofs.faultless.batches.put_behind.Given as goal

-- those so far are put behind
abbrev pub invariant-more : goal.invariant-more
invariant-more l = record {
  whole : l.yielded ++ l.upload-iterator.rest.items ≡ l.fn.more;
  put : l.uploads.items ≡ l.fn.uploads.items ++ numbered (length l.fn.uploads.items) l.yielded;
}
