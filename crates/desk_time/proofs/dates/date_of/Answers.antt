use Rattle.desk_time.proofs.CalendarDays.{parts_of_day}
use Rattle.desk_time.proofs.dates.date_of.Goals as goal

pub returns-clause-year : goal.returns-clause-year
returns-clause-year c = (parts_of_day c.date_on.result c.args.day c.requires c.date_on.ensures).0

pub returns-clause-month : goal.returns-clause-month
returns-clause-month c = (parts_of_day c.date_on.result c.args.day c.requires c.date_on.ensures).1

pub returns-clause-month_day : goal.returns-clause-month_day
returns-clause-month_day c = (parts_of_day c.date_on.result c.args.day c.requires c.date_on.ensures).2
