use Rattle.std.proofs.Common.{Result, map}
use Rattle.form_urlencoded.specs.Parse.{owned_pairs_left}
use Rattle.desk_route.specs.declared.refusals.WebRefusal.{WebRefusal}
use Rattle.desk_route.specs.declared.parameters.Asked.{Asked}
use Rattle.desk_route.specs.Queries.{text_pair, ReadsPairs, ReadsQuery}
use Rattle.desk_route.proofs.queries.read_query.Given as goal

abbrev pub invariant-loop-pair : goal.invariant-loop-pair
invariant-loop-pair l = (r : Result Asked WebRefusal) → ReadsPairs l.forms l.asked (map text_pair (owned_pairs_left l.pair-iterator)) r → ReadsQuery l.forms l.fn.query r
