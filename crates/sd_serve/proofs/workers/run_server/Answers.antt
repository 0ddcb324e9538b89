use Rattle.std.proofs.Common.{refl, ap, ◌∙◌}
use Rattle.sd_outside.specs.Backends.{uses}
use Rattle.sd_flush.proofs.DeliveryLemmas.{same_use}
use Rattle.sd_serve.proofs.workers.run_server.Goals as goal

pub returns-clause-ran : goal.returns-clause-ran
returns-clause-ran g c =
    let ran = c.run_workers.ensures in
    let did = ran.first.did in
    let flushed = did.flushes in
    record {
      flusher = did.post_is;
      number = did.number;
      admin = ran.second.post_is;
      admin_number = ran.second.number;
      serves = ran.second.serves;
      keeper = ran.second.ends;
      lines = ran.third.lines_read;
      objects = record { beat = refl; backs = refl; door = refl; streams = refl };
      same_use = λ b. ap (λ backs. uses backs b) flushed.ended ∙ same_use g.K.B.Faulty.seen _ flushed.flushes.rounds _ flushed.given_all flushed.flushes.made.given b;
      len = ran.len;
      each = ran.each;
    }
