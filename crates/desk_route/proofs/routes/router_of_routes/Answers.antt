use Rattle.std.proofs.Common.{refl}
use Rattle.std.proofs.lemmas.Result.{IfOk-weaker}
use Rattle.matchit.proofs.OnLiterals.{matchit_on_literals}
use Rattle.desk_route.proofs.routes.router_of_routes.Goals as goal

pub returns : goal.returns
unfolding matchit_on_literals
returns c =
    let a1 = c.in_ok-router.ensures in
    let a2 = c.in_ok-router-2.ensures in
    let a3 = c.in_ok-router-3.ensures in
    let a4 = c.in_ok-router-4.ensures in
    let a5 = c.in_ok-router-5.ensures in
    IfOk-weaker c.with_route-6.result _ _ (λ r h. rw (h.1, a5.1, a4.1, a3.1, a2.1, a1.1, c.new-empty.ensures) refl) c.with_route-6.ensures
