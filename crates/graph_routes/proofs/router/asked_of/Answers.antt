use Rattle.std.proofs.Common.{inl, sym, subst, ◌∙◌}
use Rattle.std.specs.Prelude.{Contains}
use Rattle.std.proofs.lemmas.Result.{IfOk-weaker}
use Rattle.graph_routes.specs.Methods.{methods}
use Rattle.graph_routes.specs.declared.method.Method.{Method}
use Rattle.graph_routes.proofs.OnePrepared.{one_method}
use Rattle.graph_routes.proofs.router.asked_of.Goals.{in_default-via-in-Some+else-has_method, in_default-via-in_default}
use Rattle.graph_routes.proofs.router.asked_of.Goals as goal

-- no method of the path has the name
pub returns-in_default : goal.returns-in_default
returns-in_default c =
    IfOk-weaker c.not_allowed.result _ _ (λ answer e parts matches. inl (
      (λ m is. elim c.in_default.branch [
        | in_default-via-in-Some+else-has_method w ↦
            let same = one_method m w.in-Some.method (sym is.0 ∙ sym c.as_str.ensures ∙ w.in-Some.ensures) in
            let there = w.has_method.ensures.1 (subst (λ (n : Method). Contains (methods c.args.route) n) same is.1) in
            let not = w.if-has_method.false in
            cc
        | in_default-via-in_default w ↦ w.in_default.ensures m (c.as_str.ensures ∙ is.0)
      ]),
      e,
    )) c.not_allowed.ensures
