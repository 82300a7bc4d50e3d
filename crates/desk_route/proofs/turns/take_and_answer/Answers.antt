use Rattle.desk_route.proofs.TurnLemmas.{exchanged_by, stopped_by}
use Rattle.desk_route.proofs.turns.take_and_answer.Goals as goal

pub take_turn-taker-requires-clause-asked : goal.take_turn-taker-requires-clause-asked
take_turn-taker-requires-clause-asked g c = c.requests_ask_for_listed_commands.ensures c.args.request.now c.args.command.now c.requires.reads

pub returns-clause-answered : goal.returns-clause-answered
returns-clause-answered g c =
    exchanged_by g.T.Taker.turn g.T.Taker.spent c.args.taker c.take_turn-taker.result.0 c.args.request.now c.args.command.now c.requires.reads
    c.take_turn-taker.result.1 c.respond-response.result c.take_turn-taker.ensures.turn c.respond-response.ensures

pub returns-clause-stopped : goal.returns-clause-stopped
returns-clause-stopped g c =
    stopped_by g.T.Taker.turn g.T.Taker.spent c.args.taker c.take_turn-taker.result.0 c.args.request.now c.args.command.now c.requires.reads
    c.take_turn-taker.result.1 c.respond-response.result c.take_turn-taker.ensures.turn c.take_turn-taker.ensures.spent c.respond-response.ensures
