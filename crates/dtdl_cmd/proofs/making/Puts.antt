-- Requests by their paths and bodies.
use Rattle.std.proofs.Common.{◌≡◌, ℕ, List, Result, subst}
use Rattle.std.specs.Prelude.{IfOk}
use Rattle.http_ends.specs.declared.request.Request.{Request}
use Rattle.dtdl_cmd.specs.making.Requests.{put}

-- Equal paths and equal bodies make one request.
pub put_as : {E : Type 0} (result : Result Request E) (path way body text : List ℕ) → path ≡ way → body ≡ text
    → IfOk result (λ made. made ≡ put path body) → IfOk result (λ made. made ≡ put way text)
put_as result path way body text same alike h =
    subst (λ (b : List ℕ). IfOk result (λ made. made ≡ put way b)) alike
    (subst (λ (p : List ℕ). IfOk result (λ made. made ≡ put p body)) same h)
