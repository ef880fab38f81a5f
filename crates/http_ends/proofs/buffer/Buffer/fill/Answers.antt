use Rattle.std.proofs.Common.{◌≡◌, ◌+◌, ◌-◌, [], ◌++◌, take, drop, slice_range, ap, ◌∙◌, arith, append-nil}
use Rattle.std.proofs.lemmas.List.{with_items_is}
use Rattle.http_ends.proofs.SliceLemmas.{slice_range-filled}
use Rattle.http_ends.specs.declared.buffer.Filled.TheVariants.{Ended, Failed}
use Rattle.http_ends.proofs.buffer.Buffer.fill.Given.{Over}
use Rattle.http_ends.proofs.buffer.Buffer.fill.Goals as goal

-- what was there, and then what was read
grown : (g : Over) (c : goal.After-self-4-1 g) →
    let n = c.read_behind-filled.result.1 in
    let end = c.in_ok-start.start + (c.self.inside.end - c.self.inside.start) in
    let room = c.read_behind-filled.new.room in
    slice_range room c.in_ok-start.start (end + n) ≡ c.args.self.now ++ slice_range room end (end + n)
grown g c =
    let end = c.in_ok-start.start + (c.self.inside.end - c.self.inside.start) in
    let room = c.read_behind-filled.new.room in
    let n = c.read_behind-filled.result.1 in
    slice_range-filled room c.make_room.new.bytes.items c.in_ok-start.start end n (omega arith) (c.read_behind-filled.ensures.front ∙ ap (take end) c.deref_mut.ensures.value)
    ∙ ap (λ xs. xs ++ slice_range room end (end + n)) (c.in_ok-start.ensures.kept ∙ c.self.view_is)

items : (g : Over) (c : goal.After-self-4-1 g) → (Rattle.std.specs.Vec.with_items c.make_room.new.bytes c.read_behind-filled.new.room).items ≡ c.read_behind-filled.new.room
items g c = with_items_is c.make_room.new.bytes c.read_behind-filled.new.room (c.read_behind-filled.auto.room ∙ c.deref_mut.ensures.len)

pub returns-clause-read : goal.returns-clause-read
returns-clause-read g c = record {
  bytes = _;
  grown = rw (items g c) (grown g c);
  taken = c.read_behind-filled.ensures.moved;
  count = c.read_behind-filled.ensures.count;
  beside = c.read_behind-filled.ensures.beside;
}

-- where nothing was read, all is as it was
same : (g : Over) (c : goal.After-self-4-1 g) → c.read_behind-filled.result.1 ≡ 0 →
    let end = c.in_ok-start.start + (c.self.inside.end - c.self.inside.start) in
    slice_range (Rattle.std.specs.Vec.with_items c.make_room.new.bytes c.read_behind-filled.new.room).items c.in_ok-start.start (end + c.read_behind-filled.result.1) ≡ c.args.self.now
same g c none =
    let end = c.in_ok-start.start + (c.self.inside.end - c.self.inside.start) in
    let room = c.read_behind-filled.new.room in
    let size : end + c.read_behind-filled.result.1 - end ≡ 0 = omega arith in
    let behind : slice_range room end (end + c.read_behind-filled.result.1) ≡ [] = ap (λ k. take k (drop end room)) size in
    rw (items g c) (grown g c ∙ ap (λ xs. c.args.self.now ++ xs) behind ∙ append-nil c.args.self.now)

pub returns-clause-ended : goal.returns-clause-ended
returns-clause-ended g c = λ is.
    let ended : c.read_behind-filled.result.0 ≡ Ended = cc in
    let facts = c.read_behind-filled.ensures.ended ended in
    (same g c facts.0, facts.1)

pub returns-clause-failed : goal.returns-clause-failed
returns-clause-failed g c = λ is.
    let failed : c.read_behind-filled.result.0 ≡ Failed = cc in
    let facts = c.read_behind-filled.ensures.failed failed in
    (same g c facts.0, facts.1)
