use Rattle.sd_batch.proofs.FilingLemmas.{all_filed}
use Rattle.sd_batch.proofs.filing.file_datagram.Goals as goal

pub returns-clause-files : goal.returns-clause-files
returns-clause-files g c =
    let group = c.args.group.now in
    let read = c.read_datagram-filed.ensures in
    let submits = rw (read.shards, read.caller) at c.submit_all.ensures.submits in
    all_filed _ _ _ _ _ _ _ _ _ _ (g.met.G.Submit.adds_next group c.args.seat.now c.read_datagram-filed.new.seat c.submit_all.new.seat) c.requires.batch.none read.reads submits
