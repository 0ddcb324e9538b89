-- What the cleaning of a name keeps in mind, and why a name has no key.
use Rattle.std.specs.Prelude.{ℕ, Bool, false, List, fold}
use Rattle.sd_model_text.specs.Lists.{is_white_space}
use Rattle.sd_model_text.specs.Names as model
use Rattle.sd_key.specs.declared.cleaning.KeyFault.{KeyFault}
use Rattle.sd_key.specs.declared.cleaning.KeyFault.TheVariants.{Empty, Long}

-- whether a list of bytes ends with white space
abbrev pub ends_blank : List ℕ → Bool
ends_blank bytes = fold (λ _ b. is_white_space b) false bytes

-- the fault of the definitions that a fault of the code is
abbrev pub fault_of : KeyFault → model.KeyFault
fault_of Empty = model.Empty
fault_of (Long len) = model.Long len
