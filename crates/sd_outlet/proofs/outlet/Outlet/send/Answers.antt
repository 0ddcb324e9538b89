use Rattle.std.proofs.Common.{sym, ◌∙◌, ap, refl, length, true≢false, arith}
use Rattle.sd_outlet.specs.Buf.{size_of}
use Rattle.sd_outlet.specs.Feed.{one_out, one_kept}
use Rattle.sd_outlet.proofs.QueueSteps.{puts, learns_put}
use Rattle.sd_outlet.proofs.outlet.Outlet.send.Goals as goal

pub push_as-requires-clause-rule : goal.push_as-requires-clause-rule
push_as-requires-clause-rule g c = (puts _ _ _ _ c.requires.feed.puts (c.requires.buf.0 ∙ sym c.requires.feed.full_size), learns_put _ _ c.requires.feed.puts)

pub returns-in-Err-clause-feed : goal.returns-in-Err-clause-feed
returns-in-Err-clause-feed g c =
    let f = c.requires.feed in
    let e = c.in-Err.ensures.rule in
    let q = c.in-Err.ensures.queue in
    let none = f.one c.requires.buf.1 in (
      record {
        full = (q.0 ∙ f.full.0, q.2 ∙ f.full.1);
        empty = f.empty;
        stop = f.stop;
        puts = ap (λ v. v.puts) e.1 ∙ f.puts;
        full_size = ap (λ v. v.size) e.1 ∙ f.full_size;
        takes = f.takes;
        empty_size = f.empty_size;
        least = f.least;
        raises = f.raises;
        raised = f.raised;
        kept = ap size_of e.0 ∙ c.requires.buf.0;
        one = λ out. absurd (true≢false (sym out));
        counted = f.counted ∙ ap length (sym (ap (λ v. v.put) e.1));
        few = f.few;
        balance = omega (arith, f.balance, ap (λ v. length v.put) e.1, ap one_kept none, ap one_out c.requires.buf.1);
      },
      refl,
      refl,
    )
