use Rattle.sd_memory.proofs.RoundLemmas.{content_at-append}
use Rattle.sd_memory.proofs.round_store.RoundStore.append.Goals as goal

pub returns-clause-content : goal.returns-clause-content
returns-clause-content c =
    let s = c.args.self.now in
    let start = rw c.len.ensures at c.unwrap_or-start.ensures in
    content_at-append _ _ c.args.bytes.now s.spans.items s.open_from _ c.append.ensures.bytes start s.spans_within s.open_within c.requires.some
