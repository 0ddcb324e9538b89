use Rattle.std.proofs.Common.{refl, sym, ◌∙◌}
use Rattle.sd_admin.proofs.WordPlaces.{no_word, next_word}
use Rattle.sd_admin.proofs.words.first_word.Goals as goal

pub returns-then-is_empty-clause-words : goal.returns-then-is_empty-clause-words
returns-then-is_empty-clause-words c =
    no_word c.args.line.now _ c.leading_blanks.result c.leading_blanks.ensures.place refl (sym c.is_empty.ensures ∙ c.if-is_empty.true)

pub returns-clause-words : goal.returns-clause-words
returns-clause-words c =
    next_word c.args.line.now _ c.leading_blanks.result c.leading_blanks.ensures.place refl c.split_at.result.0.now c.split_at.result.1.now c.word_len.result c.word_len.ensures.place
    (sym c.is_empty.ensures ∙ c.if-is_empty.false) c.split_at.ensures.front c.split_at.ensures.back
