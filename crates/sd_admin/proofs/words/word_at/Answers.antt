use Rattle.std.proofs.Common.{◌∙◌, sym, ap, option_map, arith}
use Rattle.sd_model_record.specs.Admin.{words}
use Rattle.sd_admin.proofs.WordPlaces.{all_left, one_less, none_left, next_left}
use Rattle.sd_admin.proofs.words.word_at.Goals as goal

pub loop-init : goal.loop-init
loop-init c = (all_left (words c.args.line.now), omega arith)

pub loop-preserved : goal.loop-preserved
loop-preserved c = (
  one_less _ _ _ c.loop.counter _ c.loop.invariant.0 c.in_ok-rest.ensures.words,
  omega (arith, c.in_ok-rest.ensures.within.1, c.loop.invariant.1),
)

pub returns-in_err-rest-clause-word : goal.returns-in_err-rest-clause-word
returns-in_err-rest-clause-word c =
    ap (option_map (λ w. w.now)) c.from_residual.ensures ∙ sym (none_left _ _ c.loop.counter c.args.i c.loop.invariant.0 c.in_err-rest.ensures.words (omega arith))

pub returns-in_err-first_word-clause-word : goal.returns-in_err-first_word-clause-word
returns-in_err-first_word-clause-word c =
    ap (option_map (λ w. w.now)) c.from_residual-in_err-first_word.ensures ∙ sym (none_left _ _ c.loop.counter c.args.i c.loop.invariant.0 c.in_err-first_word.ensures.words (omega arith))

pub returns-clause-word : goal.returns-clause-word
returns-clause-word c = sym (next_left _ _ _ c.loop.counter c.args.i _ c.loop.invariant.0 c.in_ok-first_word.ensures.words (omega arith))
