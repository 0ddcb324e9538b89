-- A key is what is left of a name, and that is bytes of names.
use Rattle.std.proofs.Common.{subst}
use Rattle.std.specs.List.{AllPass}
use Rattle.sd_model_text.specs.Names.{cleaned, is_name_byte}
use Rattle.sd_model_text.proofs.NamesLemmas.{as_key-Ok, cleaned-passes}
use Rattle.sd_model_text.proofs.names.clean_keys.Goals as goal

pub returns-clause-bytes : goal.returns-clause-bytes
returns-clause-bytes c name key is = subst (AllPass is_name_byte) (as_key-Ok (cleaned name) key is) (cleaned-passes name)
