use Rattle.std.proofs.Math.Path.{fun_ext}
use Rattle.std.proofs.Common.{true}
use Rattle.sd_model_outside.specs.Backend.{each_of}
use Rattle.sd_desk.proofs.desk.Desk.new.Goals as goal

pub returns : goal.returns
returns c = λ i. record {
  facts = record { start = c.args.start; last = c.args.start; totals = c.none-2.ensures i; up = true; rounds = 0; faults = each_of (fun_ext c.of.ensures i); repeater_faults = 0; admin_faults = 0 };
  tally = c.none.ensures i;
  taken_so_far = c.none-3.ensures i;
}
