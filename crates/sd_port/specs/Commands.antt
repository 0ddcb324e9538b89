-- Commands, as the definitions have them.
use Rattle.std.specs.Prelude.{Option, Some, None}
use Rattle.sd_model_live.specs.Port as model
use Rattle.sd_admin.specs.Command.{health_word_view}
use Rattle.sd_port.specs.declared.command.PortCommand.{PortCommand}
use Rattle.sd_port.specs.declared.command.PortCommand.TheVariants.{Health, Totals, Nodes, Config, Quit}

-- a command
abbrev pub command_view : PortCommand → model.PortCommand
command_view (Health word) = model.AboutHealth (health_word_view word)
command_view Totals = model.AsksTotals
command_view Nodes = model.AsksNodes
command_view Config = model.AsksConfig
command_view Quit = model.Leaves

-- what a line was read as
abbrev pub answer_view : Option PortCommand → Option model.PortCommand
answer_view (Some command) = Some (command_view command)
answer_view None = None
