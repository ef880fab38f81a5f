use Rattle.query_bodies.proofs.GivenTokens.{token_names, token_names_only}
use Rattle.query_bodies.proofs.laws.token_as_ids.Goals as goal

pub returns-clause-own : goal.returns-clause-own
returns-clause-own c = token_names

pub returns-clause-only : goal.returns-clause-only
returns-clause-only c = token_names_only
