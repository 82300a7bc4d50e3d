-- Which commands are served by now.
use Rattle.std.specs.Prelude.{⊤}
use Rattle.desk_base.specs.declared.asked.answers.Command.{Command}
use Rattle.desk_base.specs.declared.asked.answers.Command.TheVariants as command
use Rattle.desk_change.specs.Served.{IsServed}

-- a command that is served
abbrev pub IsBuilt : Command → Type 0
IsBuilt (command.Change call a) = IsServed a
IsBuilt (command.Ask q) = ⊤
