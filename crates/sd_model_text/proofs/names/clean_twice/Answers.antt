-- What is left of a name is bytes of names, which stay as they are.
use Rattle.std.proofs.Common.{◌≡◌, Ok, ap, ◌∙◌, subst}
use Rattle.sd_model_text.specs.Names.{cleaned, as_key, clean}
use Rattle.sd_model_text.proofs.NamesLemmas.{as_key-Ok, cleaned-names, cleaned-passes}
use Rattle.sd_model_text.proofs.names.clean_twice.Goals as goal

pub returns : goal.returns
returns c name key is =
    subst (λ bytes. clean bytes ≡ Ok key) (as_key-Ok (cleaned name) key is)
    (ap as_key (cleaned-names (cleaned name) (cleaned-passes name)) ∙ is)
