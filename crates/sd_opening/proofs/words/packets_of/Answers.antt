use Rattle.std.proofs.Common.{sym, ◌∙◌, arith}
use Rattle.sd_opening.proofs.WordsLemmas.{packets_none, packets_some}
use Rattle.sd_opening.proofs.words.packets_of.Goals as goal

pub returns-in_err-packets : goal.returns-in_err-packets
returns-in_err-packets c =
    c.from_residual.ensures ∙ sym (packets_none c.args.word.now (grind arith) (grind arith) c.parse.result c.parse.ensures.value.0 (sym c.ok.ensures.value ∙ c.in_err-packets.was))

pub returns : goal.returns
returns c =
    c.then_some.ensures ∙ sym (packets_some c.args.word.now (grind arith) (grind arith) c.parse.result c.parse.ensures.value.0 c.in_ok-packets.packets (sym c.ok.ensures.value ∙ c.in_ok-packets.was))
