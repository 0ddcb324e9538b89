-- What a status says to the user, and to the shell.
use Rattle.std.specs.Prelude.{ℕ, List, [], ◌∷◌, ◌++◌, codes, decimal}
use Rattle.sd_model_outside.specs.Backend.{backend_name}
use Rattle.sd_outside.specs.Backends.{kind_of}
use Rattle.sd_opening.specs.declared.status.Part.{Part}
use Rattle.sd_opening.specs.declared.status.Part.TheVariants.{Settings, Script, Packets, Beat, Wire, Backend, Door, Streams}
use Rattle.sd_opening.specs.declared.status.Status.{Status}
use Rattle.sd_opening.specs.declared.status.Status.TheVariants.{Ok, OutOfMemory, Usage, Config, ReadFault, WriteFault, OpenFault, Worn}
use Rattle.sd_opening.specs.declared.status.Status.TheVariants as status
use Rattle.sd_config.specs.declared.fault.ConfigFault.{ConfigFault}
use Rattle.sd_config.specs.declared.fault.ConfigFault.TheVariants as config
use Rattle.sd_config.specs.declared.fault.ConfigFault.TheVariants.{NotToml, Unknown, WrongKind, OutOfRange}
use Rattle.sd_script.specs.declared.fault.ScriptFault.{ScriptFault}
use Rattle.sd_script.specs.declared.fault.ScriptFault.TheVariants.{Word, Length, Truncated}

abbrev pub part_name : Part → List ℕ
part_name Settings = codes "settings"
part_name Script = codes "script"
part_name (Packets i) = codes "packets " ++ decimal i
part_name Beat = codes "beat"
part_name (Wire i) = codes "wire " ++ decimal i
part_name (Backend kind) = backend_name (kind_of kind)
part_name Door = codes "door"
part_name Streams = codes "streams"

-- what is said where no memory was left
abbrev pub no_memory : List ℕ
no_memory = codes "statsd: out of memory"

-- why a settings file isn't accepted
abbrev pub config_reason : ConfigFault → List ℕ
config_reason config.OutOfMemory = no_memory
config_reason NotToml = codes "statsd: settings are not TOML"
config_reason (Unknown name) = codes "statsd: unknown setting " ++ name.items
config_reason (WrongKind name) = codes "statsd: wrong kind for setting " ++ name.items
config_reason (OutOfRange name) = codes "statsd: setting out of range " ++ name.items

-- why a script isn't legal
abbrev pub script_reason : ScriptFault → List ℕ
script_reason (Word at) = codes "statsd: script word at " ++ decimal at
script_reason (Length at) = codes "statsd: script length at " ++ decimal at
script_reason (Truncated at) = codes "statsd: script truncated at " ++ decimal at

-- why a run ended
abbrev pub reason : Status → List ℕ
reason Ok = []
reason OutOfMemory = no_memory
reason Usage = codes "statsd: usage: replay SETTINGS SCRIPT, serve SETTINGS, proxy SETTINGS, drill N"
reason (Config fault) = config_reason fault
reason (status.Script fault) = script_reason fault
reason (ReadFault part) = codes "statsd: read fault " ++ part_name part
reason WriteFault = codes "statsd: write fault"
reason (OpenFault part) = codes "statsd: open fault " ++ part_name part
reason (Worn turns) = codes "statsd: worn after " ++ decimal turns ++ codes " turns"

-- what a status says: nothing for `Ok`, and else why the run ended, and a newline
abbrev pub explanation : Status → List ℕ
explanation Ok = []
explanation OutOfMemory = reason OutOfMemory ++ 10 ∷ []
explanation Usage = reason Usage ++ 10 ∷ []
explanation (Config fault) = reason (Config fault) ++ 10 ∷ []
explanation (status.Script fault) = reason (status.Script fault) ++ 10 ∷ []
explanation (ReadFault part) = reason (ReadFault part) ++ 10 ∷ []
explanation WriteFault = reason WriteFault ++ 10 ∷ []
explanation (OpenFault part) = reason (OpenFault part) ++ 10 ∷ []
explanation (Worn turns) = reason (Worn turns) ++ 10 ∷ []

-- the number that the program exits with
abbrev pub exit_code : Status → ℕ
exit_code Ok = 0
exit_code OutOfMemory = 1
exit_code Usage = 2
exit_code (Config config.OutOfMemory) = 1
exit_code (Config NotToml) = 3
exit_code (Config (Unknown name)) = 3
exit_code (Config (WrongKind name)) = 3
exit_code (Config (OutOfRange name)) = 3
exit_code (status.Script fault) = 4
exit_code (ReadFault part) = 5
exit_code WriteFault = 6
exit_code (OpenFault part) = 7
exit_code (Worn turns) = 8
