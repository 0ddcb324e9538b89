-- The name of a line, as the definitions cut it.
use Rattle.sd_model_text.specs.Lists as model
use Rattle.sd_line.specs.declared.named.Named.{Named}

abbrev pub named_view : Named → model.Cut
named_view n = record { part = n.name.now; rest = n.rest.now }
