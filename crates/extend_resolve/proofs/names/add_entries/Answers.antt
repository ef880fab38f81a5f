use Rattle.std.proofs.Common.{◌≡◌, ◌+◌, ◌<◌, ◌∙◌, ◌++◌, [], ◌∷◌, List, length, take, sym, ap, subst, append_assoc, arith, vec_len}
use Rattle.dtdl_terms.specs.declared.content.Content.{Content}
use Rattle.extend_resolve.specs.Machinery.Names.{SortedName, AreEntries, first_bytes}
use Rattle.extend_resolve.proofs.Members.{read_named}
use Rattle.extend_resolve.proofs.Naming.{entry_added, take_one_more}
use Rattle.extend_resolve.proofs.names.add_entries.Goals as goal

pub contents-preserved : goal.contents-preserved
contents-preserved c before are =
    let contents = c.args.node.now.contents in
    let index = c.contents.content-index in
    let entries = c.contents.entries.items in
    let content = c.content-item.result in
    let same = c.as_str-name.ensures.same in
    let low : index < length contents = subst (λ cs. index < length cs) c.as_slice-content-items.ensures c.contents-test.true in
    let e : SortedName = (c.first_bytes.result, c.as_str-name.result, c.len-place.result) in
    let long : vec_len c.contents.entries ≡ length entries = omega arith in
    let more = entry_added (before ++ take index contents) entries content e (c.contents.invariant before are) (c.first_bytes.ensures ∙ ap first_bytes same) same (c.len-place.ensures ∙ long) in
    let read = read_named contents c.as_slice-content-items.result.now index content low c.as_slice-content-items.ensures c.content-item.is in
    subst (AreEntries (before ++ take (index + 1) contents)) (sym {A = List SortedName} c.in_ok-push.ensures.items)
    (subst (λ (cs : List Content). AreEntries cs (entries ++ e ∷ [])) (append_assoc before (take index contents) (content ∷ []) ∙ ap (λ l. before ++ l) (sym (take_one_more contents index content read))) more)
