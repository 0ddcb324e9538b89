use Rattle.std.proofs.Common.{◌∙◌, sym, arith}
use Rattle.sd_model_text.specs.Lists.{is_white_space}
use Rattle.sd_model_text.proofs.ListLemmas.{trim_end-goes, trim_end-stays}
use Rattle.sd_proxy_desk.proofs.reply.trimmed.Goals as goal

pub loop-rest-preserved : goal.loop-rest-preserved
loop-rest-preserved c =
    trim_end-goes is_white_space c.loop-rest.rest.now 0 (omega arith) (sym c.is_white_space.ensures ∙ c.if-not-is_white_space.false) ∙ c.loop-rest.invariant

pub returns-then-not-is_white_space : goal.returns-then-not-is_white_space
returns-then-not-is_white_space c =
    sym (trim_end-stays is_white_space c.loop-rest.rest.now 0 (omega arith) (sym c.is_white_space.ensures ∙ c.if-not-is_white_space.true)) ∙ c.loop-rest.invariant
