-- How a replay of the code ends, as the definitions have it.
use Rattle.sd_model_replay.specs.Script.{BadWord, BadLength, CutShort}
use Rattle.sd_model_replay.specs.AccountingTheorem.{End, Complete, Faulted, ReadFailed, WriteFailed, LimitReached}
use Rattle.sd_admin.specs.Totals.{totals_view}
use Rattle.sd_script.specs.declared.fault.ScriptFault.{ScriptFault}
use Rattle.sd_script.specs.declared.fault.ScriptFault.TheVariants.{Word, Length, Truncated}
use Rattle.sd_replay.specs.declared.run.ReplayEnd.{ReplayEnd}
use Rattle.sd_replay.specs.declared.run.ReplayEnd.TheVariants.{Ok, Script, ReadFault, WriteFault, Worn}

abbrev pub fault_end : ScriptFault → End
fault_end (Word at) = Faulted at BadWord
fault_end (Length at) = Faulted at BadLength
fault_end (Truncated at) = Faulted at CutShort

abbrev pub end_of : ReplayEnd → End
end_of (Ok totals) = Complete (totals_view totals)
end_of (Script fault) = fault_end fault
end_of ReadFault = ReadFailed
end_of WriteFault = WriteFailed
end_of (Worn turns) = LimitReached turns
