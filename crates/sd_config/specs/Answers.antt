-- Answers of the code as the definitions have them.
use Rattle.std.specs.Prelude.{◌≡◌, Result, Ok, Err}
use Rattle.sd_model_settings.specs.Values as model
use Rattle.sd_model_settings.specs.Settings.{SettingsFlaw}
use Rattle.sd_model_settings.specs.Settings as settings
use Rattle.sd_config.specs.declared.fault.ConfigFault.{ConfigFault}
use Rattle.sd_config.specs.declared.fault.ConfigFault.TheVariants.{OutOfMemory, NotToml, Unknown, WrongKind, OutOfRange}
use Rattle.sd_config.specs.declared.fault.ValueFault.{ValueFault}
use Rattle.sd_config.specs.declared.fault.ValueFault.TheVariants.{Kind, Range}

-- what is wrong with a value
abbrev pub flaw_of : ValueFault → model.ValueFlaw
flaw_of Kind = model.OtherKind
flaw_of Range = model.OutsideRange

-- a value that was read, seen by f
abbrev pub seen_by : {A B : Type 0} → (A → B) → Result A ValueFault → Result B model.ValueFlaw
seen_by f (Ok x) = Ok (f x)
seen_by f (Err fault) = Err (flaw_of fault)

-- the definitions give the fault that was answered; want of memory is none of theirs
abbrev pub Fails : {A : Type 0} → ConfigFault → Result A SettingsFlaw → Type 0
Fails OutOfMemory read = Unit {0}
Fails NotToml read = read ≡ Err settings.NotToml
Fails (Unknown name) read = read ≡ Err (settings.Unknown name.items)
Fails (WrongKind name) read = read ≡ Err (settings.WrongKind name.items)
Fails (OutOfRange name) read = read ≡ Err (settings.OutOfRange name.items)

-- the definitions give what was answered, seen by f, unless memory ran out
abbrev pub Gives : {A B : Type 0} → (A → B) → Result A ConfigFault → Result B SettingsFlaw → Type 0
Gives f (Ok x) read = read ≡ Ok (f x)
Gives f (Err fault) read = Fails fault read
