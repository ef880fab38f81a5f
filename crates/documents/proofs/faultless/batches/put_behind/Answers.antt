use Rattle.std.proofs.Common.{◌≡◌, ◌∷◌, ◌++◌, [], List, length, sym, ap, ◌∙◌, append_assoc}
use Rattle.dtdl_terms.specs.declared.uploaded.Uploaded.{Uploaded}
use Rattle.documents.specs.faultless.Machinery.Placed.{standing_at}
use Rattle.documents.proofs.faultless.Numbered.{put_more}
use Rattle.documents.proofs.faultless.batches.put_behind.Goals as goal

pub more-preserved : goal.more-preserved
more-preserved c =
    let u : Uploaded = c.in-Some.upload in
    let rest : List Uploaded = c.next.new.self.rest.items in
    let split : c.more.yielded ++ u ∷ rest ≡ c.args.more = ap (λ r. c.more.yielded ++ r) (sym c.in-Some.ensures.steps.0) ∙ c.more.invariant.whole in
    let stands : c.in_ok-standing_at.field-0 ≡ standing_at (length c.more.uploads.items) u =
    c.in_ok-standing_at.ensures ∙ ap (λ k. standing_at k u) (c.len-index.ensures ∙ c.more.uploads.ok.0) in
    record {
      whole = ◌∙◌ {A = List Uploaded} (append_assoc c.more.yielded (u ∷ []) rest) split;
      put = ◌∙◌ {A = List Uploaded} c.in_ok-push.ensures.items
          (put_more c.args.uploads.now.items c.more.yielded c.more.uploads.items u c.in_ok-standing_at.field-0 c.more.invariant.put stands);
    }
