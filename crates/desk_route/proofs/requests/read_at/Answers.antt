use Rattle.std.proofs.Common.{subst, sym, ◌∙◌, ap}
use Rattle.desk_route.specs.Routes.{path_of, query_of}
use Rattle.desk_route.specs.Queries.{OrNoMemory}
use Rattle.desk_route.specs.Requesting.{serves, ReadsServed}
use Rattle.desk_route.proofs.RequestLemmas.{served, other_method}
use Rattle.desk_route.proofs.requests.read_at.Goals as goal

pub returns-then-not-serves : goal.returns-then-not-serves
returns-then-not-serves c =
    other_method c.in-Some.allow c.args.route c.args.request.now (sym c.method_of.ensures ∙ c.in-Some.is)
    (sym (ap (serves c.in-Some.allow) c.as_slice.ensures) ∙ sym c.serves.ensures ∙ c.if-not-serves.true)

pub returns : goal.returns
returns c =
    let request = c.args.request.now in
    let path = c.cut.ensures.path ∙ ap path_of c.as_slice-2.ensures in
    let query = c.cut.ensures.query ∙ ap query_of c.as_slice-2.ensures in
    served c.in-Some.allow c.args.route request c.read_served.result (sym c.method_of.ensures ∙ c.in-Some.is)
    (sym (ap (serves c.in-Some.allow) c.as_slice.ensures) ∙ sym c.serves.ensures ∙ c.if-not-serves.false)
    (subst (λ p. OrNoMemory (ReadsServed c.args.route p (query_of request.target) request.body) c.read_served.result) path
    (subst (λ q. OrNoMemory (ReadsServed c.args.route c.cut.result.0.now q request.body) c.read_served.result) query
    (subst (λ b. OrNoMemory (ReadsServed c.args.route c.cut.result.0.now c.cut.result.1.now b) c.read_served.result) c.as_slice-3.ensures c.read_served.ensures)))
