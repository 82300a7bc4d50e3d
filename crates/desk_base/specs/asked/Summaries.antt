-- What the journal shows of its entries.
use Rattle.std.specs.Prelude.{ℕ, nat_lt, List, map, filter, take}
use Rattle.desk_base.specs.rows.Rows.{key_of}
use Rattle.desk_base.specs.rules.Limits.{summary_limit}
use Rattle.desk_base.specs.declared.asked.acts.Act.{Act}
use Rattle.desk_base.specs.declared.asked.acts.Act.TheVariants as act
use Rattle.desk_base.specs.declared.asked.acts.Entry.{Entry}
use Rattle.desk_base.specs.declared.asked.summaries.ActCode.{ActCode}
use Rattle.desk_base.specs.declared.asked.summaries.ActCode.TheVariants as code
use Rattle.desk_base.specs.declared.asked.summaries.Summary.{Summary}

-- what kind of act an act is
abbrev pub code_of : Act → ActCode
code_of (act.Put row) = code.Put (key_of row).table
code_of (act.Remove key) = code.Remove key.table
code_of (act.PutGroup g) = code.PutGroup
code_of (act.DropGroup group) = code.DropGroup
code_of (act.BookGroup group start picks) = code.BookGroup
code_of (act.MoveGroup group start picks) = code.MoveGroup
code_of (act.CancelGroup group) = code.CancelGroup

-- an entry without what its act said and gave
abbrev pub summary_of : Entry → Summary
summary_of e = record { revision = e.revision; caller = e.call.caller; number = e.call.number; pass = e.pass; act = code_of e.act }

-- the first entries above a revision, at most so many as one answer shows
abbrev pub summaries_from : List Entry → ℕ → List Summary
summaries_from journal revision = take summary_limit (map summary_of (filter (λ e. nat_lt revision e.revision) journal))
