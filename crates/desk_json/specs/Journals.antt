-- The JSON of what the journal shows of its entries.
use Rattle.std.specs.Prelude.{ℕ, List, ◌++◌, map, codes}
use Rattle.serde_json.specs.Data.{Data, string, object, no_members, member}
use Rattle.desk_base.specs.declared.asked.summaries.ActCode.{ActCode}
use Rattle.desk_base.specs.declared.asked.summaries.ActCode.TheVariants.{Put, Remove, PutGroup, DropGroup, BookGroup, MoveGroup, CancelGroup}
use Rattle.desk_base.specs.declared.asked.summaries.Summary.{Summary}
use Rattle.desk_json.specs.Words.{table_name}
use Rattle.desk_json.specs.Values.{whole_number, list_of}

-- the name of an act, as it stands in bodies
abbrev pub act_name : ActCode → List ℕ
act_name (Put table) = codes "put_" ++ table_name table
act_name (Remove table) = codes "remove_" ++ table_name table
act_name PutGroup = codes "put_group"
act_name DropGroup = codes "drop_group"
act_name BookGroup = codes "book_group"
act_name MoveGroup = codes "move_group"
act_name CancelGroup = codes "cancel_group"

-- an entry: its act, who asked for it, the number of the connection, and the revision after it
abbrev pub summary_data : Summary → Data
summary_data s =
    object (member (codes "act") (string (act_name s.act))
    (member (codes "caller") (whole_number s.caller)
    (member (codes "number") (whole_number s.number)
    (member (codes "pass") (whole_number s.pass)
    (member (codes "revision") (whole_number s.revision) no_members)))))

-- entries, in order
abbrev pub summaries_data : List Summary → Data
summaries_data summaries = list_of (map summary_data summaries)

-- the object of such entries: them, and the present revision
abbrev pub journal_object : ℕ → Data → Data
journal_object revision entries = object (member (codes "entries") entries (member (codes "revision") (whole_number revision) no_members))

-- entries of the journal over a revision
abbrev pub journal_data : ℕ → List Summary → Data
journal_data revision summaries = journal_object revision (summaries_data summaries)
