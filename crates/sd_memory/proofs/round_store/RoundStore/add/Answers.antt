use Rattle.sd_memory.proofs.RoundLemmas.{lists-added}
use Rattle.sd_memory.proofs.round_store.RoundStore.add.Goals as goal

pub returns-clause-lists : goal.returns-clause-lists
returns-clause-lists c =
    let s = c.args.self.now in
    lists-added _ _ c.args.bytes.now _ s.spans.items s.open_from _ _ c.append.ensures.bytes c.len-start.ensures c.len.ensures c.push_reserved.ensures.items s.spans_within c.requires.none_open
