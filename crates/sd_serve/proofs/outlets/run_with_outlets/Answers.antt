use Rattle.std.proofs.Common.{rules, refl}
use Rattle.sd_serve.proofs.outlets.run_with_outlets.Goals as goal

pub returns-clause-ran : goal.returns-clause-ran
returns-clause-ran g c =
    let ran = c.run_drained-worked.ensures in
    record {
      flusher = ran.feeding.post_is;
      number = ran.feeding.number;
      admin = ran.admin_work.post_is;
      admin_number = ran.admin_work.number;
      serves = ran.admin_work.serves;
      keeper = ran.admin_work.ends;
      lines = ran.line_work.lines_read;
      objects = record { beat = refl; backs = refl; door = refl; streams = refl };
      same_use = ran.same_use;
      len = ran.len;
      each = ran.each;
    }

-- the leads are what they are once the flusher gives them back
pub returns-clause-flushes : goal.returns-clause-flushes
returns-clause-flushes g c =
    let fed = c.run_drained-worked.ensures.feeding.flushes in
    record { given_all = fed.given_all; flushes = fed.flushes; ended = λ b. (let stops = fed.ended b in search rules) }
