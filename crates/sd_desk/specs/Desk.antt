-- The desk of the code, as the definitions have it, and what it keeps.
use Rattle.std.specs.Prelude.{◌^◌, ◌≤◌}
use Rattle.sd_model_outside.specs.Backend.{Backend, each_of}
use Rattle.sd_model_record.specs.Desk as model
use Rattle.sd_outside.specs.Backends.{at}
use Rattle.sd_desk.specs.Sums.{AddsUp}
use Rattle.sd_desk.specs.Tally.{tally_of}
use Rattle.sd_desk.specs.declared.desk.Desk.TheInside.{Inside}

abbrev pub desk_of : Inside → model.Desk
desk_of d =
    record {
      facts = record {
        start = d.start;
        last = d.last;
        totals = tally_of d.totals;
        up = d.up;
        rounds = d.rounds;
        faults = each_of (at d.faults);
        repeater_faults = d.repeater_faults;
        admin_faults = d.admin_faults;
      };
      tally = tally_of d.tally;
      taken_so_far = tally_of d.taken_so_far;
    }

pub record IsDesk (d : Inside) : Type 0 where
  pub adds_up : AddsUp (desk_of d)
  pub rounds : d.rounds ≤ 2 ^ 63
  pub faults : (b : Backend) → at d.faults b ≤ 2 ^ 63
  pub repeater_faults : d.repeater_faults ≤ 2 ^ 63
  pub admin_faults : d.admin_faults ≤ 2 ^ 63
