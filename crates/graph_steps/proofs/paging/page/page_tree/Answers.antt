use Rattle.std.proofs.Common.{◌≡◌, [], ◌∷◌, ◌++◌, map, codes, ap, ◌∙◌}
use Rattle.json_tree.specs.Values.{object, array, elements_of, members_of}
use Rattle.json_tree.specs.View.{view, member_view}
use Rattle.graph_steps.specs.Pages.{on_page}
use Rattle.graph_steps.specs.paging.Rows.{page_of}
use Rattle.graph_steps.specs.paging.Machinery.Joining.{opening}
use Rattle.graph_steps.proofs.paging.PageOf.{page-same, page-members}
use Rattle.graph_steps.proofs.paging.page.page_tree.Goals as goal

pub returns-clause-page : goal.returns-clause-page
returns-clause-page c =
    c.object.ensures
    ∙ ap (λ ms. object (members_of ms)) (c.in_ok-put.ensures ∙ ap (λ ms. ms ++ (codes "value", view c.list.result) ∷ []) c.in_ok-members.ensures ∙ ap (λ v. opening c.args.next ++ (codes "value", v) ∷ []) c.list.ensures)
    ∙ page-members c.args.next (map view c.args.rows.items)

pub returns-clause-of_entries : goal.returns-clause-of_entries
returns-clause-of_entries c = λ entries rows next.
    c.object.ensures
    ∙ ap (λ ms. object (members_of ms)) (c.in_ok-put.ensures ∙ ap (λ ms. ms ++ (codes "value", view c.list.result) ∷ []) c.in_ok-members.ensures ∙ ap (λ v. opening c.args.next ++ (codes "value", v) ∷ []) c.list.ensures)
    ∙ page-members c.args.next (map view c.args.rows.items)
    ∙ ap (page_of c.args.next) rows
    ∙ ap (λ n. page_of n (map (λ e. e.1) (on_page entries))) next
    ∙ page-same entries
