-- What a settings file comes to, by the bytes that were read of it.
use Rattle.std.proofs.Common.{ℕ, List, inl, inr, refl}
use Rattle.sd_model_outside.specs.Outside.{Object, Place}
use Rattle.sd_model_settings.specs.Settings as file
use Rattle.sd_model_settings.specs.Settings.{settings}
use Rattle.sd_model_call.specs.Opening.{AreRead}
use Rattle.sd_model_call.specs.Call.{Answer, IsNotTaken}
use Rattle.sd_config.specs.Answers.{Fails}
use Rattle.sd_config.specs.declared.fault.ConfigFault.{ConfigFault}
use Rattle.sd_config.specs.declared.fault.ConfigFault.TheVariants.{OutOfMemory, NotToml, Unknown, WrongKind, OutOfRange}
use Rattle.sd_opening.specs.Answers.{config_answer}
use Rattle.sd_opening.specs.Causes.{IsRefused}

-- a fault that the definitions give
pub refused_by : (fault : ConfigFault) (bytes : List ℕ) → Fails fault (settings bytes) → IsRefused (config_answer fault) bytes
refused_by OutOfMemory bytes h = inl refl
refused_by NotToml bytes h = inr (file.NotToml, refl, h)
refused_by (Unknown name) bytes h = inr (file.Unknown name.items, refl, h)
refused_by (WrongKind name) bytes h = inr (file.WrongKind name.items, refl, h)
refused_by (OutOfRange name) bytes h = inr (file.OutOfRange name.items, refl, h)

-- a file that was read, and refused
pub not_taken : (answer : Answer) (place : Place) (bytes : List ℕ) (old new : Object) → AreRead place bytes old new → IsRefused answer bytes → IsNotTaken answer place old new
not_taken answer place bytes old new read (inl is) = inl (is, inr (bytes, read.read))
not_taken answer place bytes old new read (inr (flaw, is, refused)) = inr (inr (inr (flaw, is, record { bytes = bytes; read = read; refused = refused })))
