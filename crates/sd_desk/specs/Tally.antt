-- A tally of the code, as the definitions have it.
use Rattle.sd_model_record.specs.Record as model
use Rattle.sd_desk.specs.declared.tally.Tally.{Tally}

abbrev pub tally_of : Tally → model.Tally
tally_of t = record { packets = t.packets; lines = t.lines; bad = t.bad; dropped = t.dropped }
