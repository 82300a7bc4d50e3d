use Rattle.std.proofs.Common.{refl}
use Rattle.desk_talk.proofs.Completeness.{completes}
use Rattle.desk_talk.proofs.Nothing.{nothing_session}
use Rattle.desk_talk.specs.declared.ends.SessionEnd.TheVariants.{NoMemory}
use Rattle.desk_route.specs.Exchanges.{Exchanged, IsStopped}
use Rattle.desk_batch.specs.Runs.{JoinsPages}
use Rattle.desk_batch.specs.Turns.{opened_over, OwnTurn, NeverSpent}
use Rattle.desk_batch.specs.Words.{tables_of}
use Rattle.desk_batch.proofs.ShownLemmas.{joins_pages}
use Rattle.desk_batch.proofs.Statuses.{well_status}
use Rattle.desk_batch.proofs.program.batch.Goals as goal

pub returns-in_default-clause-conversation : goal.returns-in_default-clause-conversation
returns-in_default-clause-conversation g c =
    let opened = opened_over (tables_of c.args.store) in
    (NoMemory, opened, refl, nothing_session (Exchanged OwnTurn) (IsStopped OwnTurn NeverSpent) (JoinsPages (tables_of c.args.store)) opened (joins_pages c.args.store) _ _)

pub returns-clause-complete : goal.returns-clause-complete
returns-clause-complete g c =
    λ all qs told requests few read write.
    well_status c.status.result c.serve-book.result.1 c.status.ensures
    (completes _ _ _ _ _ _ _ _ _ c.serve-book.result.1 c.serve-book.ensures.session all qs told requests few
    (λ e. read (c.serve-book.ensures.read_fault e)) (λ e. write (c.serve-book.ensures.write_fault e)))
