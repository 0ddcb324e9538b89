use Rattle.sd_receive.proofs.FiledLemmas.{one_filed}
use Rattle.sd_receive.proofs.CalledLemmas.{counts_one, one_count}
use Rattle.sd_receive.proofs.CountedLemmas.{sends_counted}
use Rattle.sd_receive.proofs.turn.take_datagram.Goals as goal

pub returns-clause-takes : goal.returns-clause-takes
returns-clause-takes g c = record {
  failed = c.repeat-failed.ensures.failed;
  filed = one_filed _ _ _ _ _ c.file_datagram-filed.ensures.files;
  sends = c.repeat-failed.ensures.sends;
  called = counts_one _ _ _ c.now.result _ _ _ (one_count _ _ _ _ _ _ _ _ (one_filed _ _ _ _ _ c.file_datagram-filed.ensures.files) c.now.ensures) c.add.ensures.calls.own c.count_sends.ensures.called;
  counted = sends_counted _ _ _ _ _ _ c.repeat-failed.ensures.count c.add.ensures.counted c.count_sends.ensures.counted;
}
