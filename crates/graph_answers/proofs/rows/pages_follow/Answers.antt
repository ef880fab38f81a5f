use Rattle.graph_answers.proofs.rows.Pages.{count_entry, followed_by_rest, last_page, past_count}
use Rattle.graph_answers.proofs.rows.pages_follow.Goals as goal

pub returns-clause-followed : goal.returns-clause-followed
returns-clause-followed c = λ s q after w many. followed_by_rest s q after w many

pub returns-clause-last : goal.returns-clause-last
returns-clause-last c = λ s q after few. last_page s q after few

pub returns-clause-count : goal.returns-clause-count
returns-clause-count c = count_entry

pub returns-clause-past_count : goal.returns-clause-past_count
returns-clause-past_count c = past_count
