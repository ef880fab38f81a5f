use Rattle.std.proofs.Common.{append_assoc}
use Rattle.http_ends.proofs.client_requests.push_request_line.Goals as goal

pub returns : goal.returns
returns c =
    rw (c.in_ok-extend_from_slice-4.ensures.items, c.in_ok-extend_from_slice-3.ensures.items, c.in_ok-extend_from_slice-2.ensures.items, c.in_ok-extend_from_slice.ensures.items, c.as_bytes.ensures.value)
    (simp (append_assoc, c.as_bytes-2.ensures.value))
