use Rattle.graph_answers.proofs.rows.Pages.{all_pages}
use Rattle.graph_answers.proofs.rows.pages_are_whole.Goals as goal

pub returns : goal.returns
returns c = all_pages
