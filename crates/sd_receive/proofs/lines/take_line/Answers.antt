use Rattle.std.proofs.Common.{ℕ, List, [], ◌∷◌, sym, subst}
use Rattle.sd_model_stream.specs.Streams.{Line}
use Rattle.sd_tcp.specs.Cutting.{CutsOn}
use Rattle.sd_receive.proofs.LineLemmas.{ReadsBytes-push}
use Rattle.sd_receive.proofs.lines.take_line.Goals as goal

pub returns-in-Some-clause-takes : goal.returns-in-Some-clause-takes
returns-in-Some-clause-takes g c = record {
  lines = Line c.in-Some.line.now ∷ [];
  cut = subst (λ (bytes : List ℕ). CutsOn (Line c.in-Some.line.now ∷ []) bytes c.args.cutter.now c.args.cutter.now) (sym c.in-Some.ensures.prefix) c.in-Some.ensures.cut;
  filed = c.read_line.ensures.files;
}

pub returns-clause-takes : goal.returns-clause-takes
returns-clause-takes g c = ReadsBytes-push _ _ _ _ _ _ _ _ _ _ c.push-len.ensures.cut c.read_ready-account.ensures.takes
