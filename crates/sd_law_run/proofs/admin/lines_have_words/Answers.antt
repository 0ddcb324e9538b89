use Rattle.std.proofs.lemmas.List.Elements.{recursion_from_All}
use Rattle.sd_admin.specs.Words.{IsWord}
use Rattle.sd_admin.proofs.WordLemmas.{words_are, words-joined, words-trimmed}
use Rattle.sd_law_run.proofs.admin.lines_have_words.Goals as goal

pub returns-clause-words : goal.returns-clause-words
returns-clause-words c = λ line k d inside. (words_are line k d inside).0

pub returns-clause-joined : goal.returns-clause-joined
returns-clause-joined c = λ parts h. words-joined parts (recursion_from_All IsWord parts h)

pub returns-clause-behind : goal.returns-clause-behind
returns-clause-behind c = words-trimmed
