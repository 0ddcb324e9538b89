use Rattle.std.proofs.Common.{take, arith}
use Rattle.std.proofs.lemmas.List.{length-take-le}
use Rattle.sd_receive.proofs.CalledLemmas.{no_packets, reads_one}
use Rattle.sd_receive.proofs.streaming.take_read.Goals as goal

pub returns-in-Ok-clause-takes : goal.returns-in-Ok-clause-takes
returns-in-Ok-clause-takes g c = record {
  bytes = take c.in-Ok.len c.read.new.buf;
  some =
      let size = length-take-le c.in-Ok.len c.read.new.buf c.in-Ok.ensures.within in
      let some = c.in-Ok.len-test.1 in omega (arith, size, some);
  read = c.in-Ok.ensures.next;
  takes = c.take_bytes-account.ensures.takes;
  counted = c.add.ensures.counted;
  called = reads_one _ _ c.now.result _ _ (no_packets _ _ _ _ _ _ _ _ c.take_bytes-account.ensures.takes) c.now.ensures c.add.ensures.calls.own;
}
