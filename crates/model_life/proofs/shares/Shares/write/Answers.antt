use Rattle.std.proofs.Common.{◌≡◌, Some, sym, ap, ◌∙◌}
use Rattle.std.specs.Option.{option_copied}
use Rattle.std.specs.BTreeMap.{insert_entry}
use Rattle.dt_base.specs.names.Grammar.{id_cmp}
use Rattle.dtdl_terms.specs.Sets.{interface_at}
use Rattle.model_life.proofs.resolution.Families.{stands}
use Rattle.model_life.specs.Machinery.Keeping.{capped, share_at, share_in}
use Rattle.model_life.proofs.Recorded.{put_number}
use Rattle.model_life.proofs.shares.Shares.write.Goals as goal

pub share-requires-clause-there : goal.share-requires-clause-there
share-requires-clause-there c = stands c.args.set.now c.args.id.now c.unwrap-interface.result.now (sym c.get.ensures ∙ ap option_copied c.unwrap-interface.ensures)

pub returns-clause-bytes : goal.returns-clause-bytes
returns-clause-bytes c =
    let found : interface_at c.args.id.now c.args.set.now ≡ Some c.unwrap-interface.result.now = sym c.get.ensures ∙ ap option_copied c.unwrap-interface.ensures in
    c.in_ok-bytes.ensures ∙ ap (λ o. capped (share_in c.args.set.now o)) (sym found)

pub returns-clause-ok : goal.returns-clause-ok
returns-clause-ok c q =
    let found : interface_at c.args.id.now c.args.set.now ≡ Some c.unwrap-interface.result.now = sym c.get.ensures ∙ ap option_copied c.unwrap-interface.ensures in
    put_number c.args.id.now c.in_ok-key.key q (capped (share_at c.args.set.now c.args.id.now)) c.in_ok-bytes.bytes c.args.self.now c.insert.new.self.entries
    (c.in_ok-insert.ensures.entries ∙ ap (λ es. insert_entry id_cmp es c.in_ok-key.key c.in_ok-bytes.bytes) c.self.view_is) c.in_ok-key.ensures
    (c.in_ok-bytes.ensures ∙ ap (λ o. capped (share_in c.args.set.now o)) (sym found))
