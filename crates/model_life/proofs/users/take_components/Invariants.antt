use Rattle.std.proofs.Common.{◌≡◌, cond, ◌&&◌, take, None}
use Rattle.std.specs.List.{list_any}
use Rattle.dt_base.specs.names.Grammar.{Identifier, id_eq}
use Rattle.dtdl_terms.specs.TermViews.{kind_term}
use Rattle.model_life.specs.Models.{is_component}
use Rattle.model_life.specs.Machinery.Keeping.{user_at}
use Rattle.model_life.proofs.users.take_components.Given as goal

abbrev pub invariant-contents : goal.invariant-contents
invariant-contents l = (t u : Identifier) → user_at t u l.users ≡ cond (list_any (λ c. is_component t (kind_term c.kind)) (take l.content-index l.contents) && id_eq u l.user) None (user_at t u l.fn.users)
