use Rattle.std.proofs.Common.{refl, sym, ap, ◌∙◌, rules}
use Rattle.sd_shared_desk.specs.Counts.{of_tally}
use Rattle.sd_model_stream.specs.Streams.{ends_by_failure}
use Rattle.sd_desk.specs.Tally.{tally_of}
use Rattle.sd_receive.proofs.line_visitor.LineVisitorVisitor.visit.Goals as goal

pub returns-clause-visited : goal.returns-clause-visited
returns-clause-visited g c =
    let read = c.stream-streamed.ensures.streams in
    let got = c.stream-streamed.result in
    record {
      amounts = of_tally (tally_of got.tally);
      calls = read.went.called.calls;
      made = read.went.called.made;
      holds = record {
        works = search rules;
        stream = read.stream;
        tally = tally_of got.tally;
        taken = got.taken;
        went = record { read = read.went.read; fault = c.is_failure.ensures ∙ sym (ap ends_by_failure read.ended); unanswered = refl };
        filed = read.went.filed;
        counts = refl;
        called = read.went.called.are_so;
        tally_is = c.and-self.ensures.tally;
        taken_is = c.and-self.ensures.taken;
        limit_is = search rules;
      };
      counted = read.went.counted;
    }
