-- The facts of a desk of the code, as the definitions have them.
use Rattle.sd_model_outside.specs.Backend.{each_of}
use Rattle.sd_model_record.specs.Desk as model
use Rattle.sd_outside.specs.Backends.{at}
use Rattle.sd_desk.specs.Tally.{tally_of}
use Rattle.sd_desk.specs.declared.facts.DeskFacts.{DeskFacts}

abbrev pub facts_view : DeskFacts → model.Facts
facts_view f =
    record {
      start = f.start;
      last = f.last;
      totals = tally_of f.totals;
      up = f.up;
      rounds = f.rounds;
      faults = each_of (at f.faults);
      repeater_faults = f.repeater_faults;
      admin_faults = f.admin_faults;
    }
