-- Commands and their faults, as the definitions have them.
use Rattle.std.specs.Prelude.{Result, Ok, Err}
use Rattle.sd_model_record.specs.Admin as model
use Rattle.sd_key.specs.Kind.{kind_of}
use Rattle.sd_admin.specs.declared.command.HealthWord.{HealthWord}
use Rattle.sd_admin.specs.declared.command.HealthWord.TheVariants.{Up, Down, Ask}
use Rattle.sd_admin.specs.declared.command.Command.{Command}
use Rattle.sd_admin.specs.declared.command.Command.TheVariants.{Stats, Totals, Config, Quit, Show, Delete, Health}
use Rattle.sd_admin.specs.declared.command.AdminFault.{AdminFault}
use Rattle.sd_admin.specs.declared.command.AdminFault.TheVariants.{UnknownWord, MissingName, TooLong}

abbrev pub health_word_view : HealthWord → model.HealthWord
health_word_view Up = model.Up
health_word_view Down = model.Down
health_word_view Ask = model.Ask

abbrev pub command_view : Command → model.Command
command_view Stats = model.Stats
command_view Totals = model.Totals
command_view Config = model.Config
command_view Quit = model.Quit
command_view (Show kind) = model.Show (kind_of kind)
command_view (Delete kind names) = model.Delete (kind_of kind) (model.words names.text.now)
command_view (Health word) = model.Health (health_word_view word)

abbrev pub fault_view : AdminFault → model.AdminFault
fault_view UnknownWord = model.UnknownWord
fault_view MissingName = model.MissingName
fault_view TooLong = model.TooLong

-- what a line was read as
abbrev pub answer_view : Result Command AdminFault → Result model.Command model.AdminFault
answer_view (Ok command) = Ok (command_view command)
answer_view (Err fault) = Err (fault_view fault)
