-- The JSON text of an answer: compact, with the names of each object in the order of their bytes.
use Rattle.std.specs.Prelude.{ℕ, List, true, false, codes}
use Rattle.serde_json.specs.Data.{Data, string, object, no_members, member}
use Rattle.serde_json.specs.Written.{compact_text}
use Rattle.desk_base.specs.declared.asked.answers.Answer.{Answer}
use Rattle.desk_base.specs.declared.asked.answers.Outcome.{Outcome}
use Rattle.desk_base.specs.declared.asked.answers.Outcome.TheVariants as outcome
use Rattle.desk_base.specs.declared.asked.answers.Reply.{Reply}
use Rattle.desk_base.specs.declared.asked.answers.Reply.TheVariants as reply
use Rattle.desk_json.specs.Values.{whole_number}
use Rattle.desk_json.specs.Pages.{page_data}
use Rattle.desk_json.specs.Receipts.{receipt_data}
use Rattle.desk_json.specs.Journals.{journal_data}
use Rattle.desk_json.specs.Refusals.{refusal_data}

-- the revision alone
abbrev pub revision_data : ℕ → Data
revision_data revision = object (member (codes "revision") (whole_number revision) no_members)

-- what a command gave
abbrev pub reply_data : ℕ → Reply → Data
reply_data revision (reply.Change receipt) = receipt_data false revision receipt
reply_data revision (reply.Rows page) = page_data revision page
reply_data revision (reply.Journal summaries) = journal_data revision summaries
reply_data revision reply.Revision = revision_data revision

-- an object with an error's name alone
abbrev pub error_data : List ℕ → Data
error_data name = object (member (codes "error") (string name) no_members)

-- what became of a command, over the revision after it
abbrev pub outcome_data : ℕ → Outcome → Data
outcome_data revision (outcome.Done given) = reply_data revision given
outcome_data revision (outcome.Repeated receipt) = receipt_data true revision receipt
outcome_data revision (outcome.Refused why) = refusal_data revision why
outcome_data revision outcome.NoMemory = error_data (codes "no_memory")

-- the data of an answer
abbrev pub answer_data : Answer → Data
answer_data answer = outcome_data answer.revision answer.outcome

-- the text of its data
unfoldable pub answer_text : Answer → List ℕ
answer_text answer = compact_text (answer_data answer)
