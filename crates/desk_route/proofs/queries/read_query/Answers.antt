use Rattle.std.proofs.Common.{map, subst}
use Rattle.form_urlencoded.specs.Parse.{owned_pairs_left}
use Rattle.desk_route.specs.Queries.{OrNoMemory, text_pair, ReadsPair}
use Rattle.desk_route.proofs.RequestLemmas.{yielded, pair_more, pair_bad}
use Rattle.desk_route.proofs.queries.read_query.Goals as goal

pub returns-in-Err : goal.returns-in-Err
returns-in-Err c =
    let name = c.as_str.result.now in
    let text = c.as_str-in-loop-pair.result.now in
    let left =
    yielded c.loop-pair.pair-iterator c.next.new.self c.in-Some.pair c.in_ok-name.name c.in_ok-name.text name text c.in-Some.ensures.steps c.in_ok-name.was c.as_str.ensures.value c.as_str-in-loop-pair.ensures.value in
    pair_bad c.args.forms.now c.loop-pair.asked c.args.query.now (map text_pair (owned_pairs_left c.loop-pair.pair-iterator)) (map text_pair (owned_pairs_left c.next.new.self)) (name, text) c.in-Err.fault left
    (subst (OrNoMemory (ReadsPair c.args.forms.now c.loop-pair.asked (name, text))) c.in-Err.is c.read_pair.ensures) c.loop-pair.invariant

pub loop-pair-preserved : goal.loop-pair-preserved
loop-pair-preserved c =
    let name = c.as_str.result.now in
    let text = c.as_str-in-loop-pair.result.now in
    let left =
    yielded c.loop-pair.pair-iterator c.next.new.self c.in-Some.pair c.in_ok-name.name c.in_ok-name.text name text c.in-Some.ensures.steps c.in_ok-name.was c.as_str.ensures.value c.as_str-in-loop-pair.ensures.value in
    λ r h.
    c.loop-pair.invariant r
    (pair_more c.args.forms.now c.loop-pair.asked c.with_value-asked.result (map text_pair (owned_pairs_left c.loop-pair.pair-iterator)) (map text_pair (owned_pairs_left c.next.new.self)) (name, text) c.in-Ok.value r left
    (subst (OrNoMemory (ReadsPair c.args.forms.now c.loop-pair.asked (name, text))) c.in-Ok.is c.read_pair.ensures) c.with_value-asked.ensures h)
