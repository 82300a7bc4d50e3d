-- What a run of the program does with its source and its sink.
use Rattle.std.specs.Prelude.{◌≡◌, ℕ, ◌⊎◌, List, map, Option}
use Rattle.std.specs.Io.KnownBytes.{Appends}
use Rattle.desk_io.specs.Moves.{AppendsFront}
use Rattle.desk_base.specs.declared.rows.tables.Tables.{Tables}
use Rattle.desk_core.specs.Books.{BookState}
use Rattle.desk_talk.specs.Sessions.{Exchange, Session}
use Rattle.desk_talk.specs.declared.ends.SessionEnd.{SessionEnd}
use Rattle.desk_talk.specs.declared.ends.SessionEnd.TheVariants as end
use Rattle.desk_route.specs.Exchanges.{Exchanged, IsStopped}
use Rattle.desk_batch.specs.Shown.{Told, exchange_of, AreTold, PagesJoin}
use Rattle.desk_batch.specs.Turns.{opened_over, OwnTurn, NeverSpent}
use Rattle.desk_batch.specs.Words.{usage_line}

-- the exit status of a program that held a conversation with this end
abbrev pub status_of : SessionEnd → ℕ
status_of end.Closed = 0
status_of end.Truncated = 3
status_of (end.BadHead rule) = 4
status_of (end.TooLarge limit) = 5
status_of end.ReadFault = 6
status_of end.WriteFault = 7
status_of end.BudgetEnd = 5
status_of end.NoMemory = 10
status_of end.Spent = 10

-- the exchanges of a conversation over these tables are told by turns whose pages join
abbrev pub JoinsPages : Tables → List Exchange → Type 0
JoinsPages t xs = (told : List Told) × (map exchange_of told ≡ xs) × AreTold (opened_over t) told × PagesJoin (opened_over t) told

-- from a book over these tables on, the requests that were taken had a turn each, their responses were sent, as far as the status says, and
-- the pages among those responses join
abbrev pub HoldsOver : Tables → Option (List ℕ) → Option (List ℕ) → Option (List ℕ) → Option (List ℕ) → ℕ → Type 0
HoldsOver t left left' held held' status =
    (end : SessionEnd) × (last : BookState) × (status ≡ status_of end)
    × Session (Exchanged OwnTurn) (IsStopped OwnTurn NeverSpent) (JoinsPages t) left left' held held' (opened_over t) last end

-- the usage line was sent, with status 2, or a front of it, with status 7
abbrev pub SendsUsage : Option (List ℕ) → Option (List ℕ) → ℕ → Type 0
SendsUsage held held' status = ((status ≡ 2) × Appends held held' usage_line) ⊎ ((status ≡ 7) × AppendsFront held held' usage_line)
