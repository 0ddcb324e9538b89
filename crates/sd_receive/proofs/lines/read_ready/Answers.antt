use Rattle.std.proofs.Common.{[], ◌∷◌, sym, subst}
use Rattle.sd_model_stream.specs.Streams.{StreamLine}
use Rattle.sd_tcp.specs.Cutting.{CutsOn}
use Rattle.sd_tcp.specs.Cut.{cut_view}
use Rattle.sd_receive.proofs.LineLemmas.{ReadsBytes-none}
use Rattle.sd_receive.proofs.lines.read_ready.Goals as goal

pub returns-in_default-clause-takes : goal.returns-in_default-clause-takes
returns-in_default-clause-takes g c = rw (c.none.ensures.tally, c.none.ensures.taken) (ReadsBytes-none _ _ _)

pub returns-clause-takes : goal.returns-clause-takes
returns-clause-takes g c = record {
  lines = cut_view c.in-Some.line ∷ [];
  cut = subst (λ (l : StreamLine). CutsOn (l ∷ []) [] c.args.cutter.now c.finish.new.self) (sym c.in-Some.ensures.ready.1) c.finish.ensures.cut;
  filed = c.read_line-account.ensures.files;
}
