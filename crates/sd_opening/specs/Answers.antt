-- How the program of the code answers, as the definitions have it.
use Rattle.sd_model_call.specs.Opening as opening
use Rattle.sd_model_call.specs.Call as model
use Rattle.sd_outside.specs.Backends.{kind_of}
use Rattle.sd_opening.specs.declared.status.Part.{Part}
use Rattle.sd_opening.specs.declared.status.Part.TheVariants.{Settings, Script, Packets, Beat, Wire, Backend, Door, Streams}
use Rattle.sd_opening.specs.declared.status.Status.{Status}
use Rattle.sd_opening.specs.declared.status.Status.TheVariants.{Ok, OutOfMemory, Usage, Config, ReadFault, WriteFault, OpenFault, Worn}
use Rattle.sd_opening.specs.declared.status.Status.TheVariants as status
use Rattle.sd_config.specs.declared.fault.ConfigFault.{ConfigFault}
use Rattle.sd_config.specs.declared.fault.ConfigFault.TheVariants as config
use Rattle.sd_script.specs.declared.fault.ScriptFault.{ScriptFault}
use Rattle.sd_script.specs.declared.fault.ScriptFault.TheVariants.{Word, Length, Truncated}
use Rattle.sd_model_settings.specs.Settings as settings
use Rattle.sd_model_replay.specs.Script.{BadWord, BadLength, CutShort}

abbrev pub part_of : Part → opening.Part
part_of Settings = opening.OfSettings
part_of Script = opening.OfScript
part_of (Packets i) = opening.OfSource i
part_of Beat = opening.OfBeat
part_of (Wire i) = opening.OfWire i
part_of (Backend kind) = opening.OfBackend (kind_of kind)
part_of Door = opening.OfDoor
part_of Streams = opening.OfStreams

abbrev pub config_answer : ConfigFault → model.Answer
config_answer config.OutOfMemory = model.NoMemory
config_answer config.NotToml = model.Misset settings.NotToml
config_answer (config.Unknown name) = model.Misset (settings.Unknown name.items)
config_answer (config.WrongKind name) = model.Misset (settings.WrongKind name.items)
config_answer (config.OutOfRange name) = model.Misset (settings.OutOfRange name.items)

abbrev pub script_answer : ScriptFault → model.Answer
script_answer (Word at) = model.BadScript at BadWord
script_answer (Length at) = model.BadScript at BadLength
script_answer (Truncated at) = model.BadScript at CutShort

abbrev pub answer_of : Status → model.Answer
answer_of Ok = model.Done
answer_of OutOfMemory = model.NoMemory
answer_of Usage = model.NoForm
answer_of (Config fault) = config_answer fault
answer_of (status.Script fault) = script_answer fault
answer_of (ReadFault part) = model.NotRead (part_of part)
answer_of WriteFault = model.NotWritten
answer_of (OpenFault part) = model.NotOpened (part_of part)
answer_of (Worn turns) = model.Worn turns
