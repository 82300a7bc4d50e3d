use Rattle.std.proofs.Common.{sym, subst, IsAscii}
use Rattle.desk_time.specs.Moments.{IsMomentText}
use Rattle.desk_time.proofs.MomentTexts.{moment_text-is, moment_text-bytes, moment_text-ascii}
use Rattle.desk_time.proofs.moments.moment_text.Goals as goal

pub returns-clause-text : goal.returns-clause-text
returns-clause-text c = moment_text-bytes c.args.minute c.date_text.result c.clock_text.result c.date_text.ensures.text c.clock_text.ensures.text

pub returns-clause-reads : goal.returns-clause-reads
returns-clause-reads c = subst (λ t. IsMomentText t c.args.minute) (sym (returns-clause-text c)) (moment_text-is c.args.minute c.requires)

pub returns-clause-ascii : goal.returns-clause-ascii
returns-clause-ascii c =
    subst IsAscii (sym (returns-clause-text c)) (moment_text-ascii c.args.minute (subst IsAscii c.date_text.ensures.text c.date_text.ensures.ascii) (subst IsAscii c.clock_text.ensures.text c.clock_text.ensures.ascii))
