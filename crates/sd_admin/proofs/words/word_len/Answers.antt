use Rattle.std.proofs.Common.{◌∙◌, rules, tests}
use Rattle.std.proofs.lemmas.Iterator.{YieldsList-from_slice}
use Rattle.std.proofs.lemmas.Iterator.Search.{position_from_yields_List}
use Rattle.sd_model_text.specs.Lists.{is_white_space}
use Rattle.sd_admin.proofs.WordPlaces.{place_or_len}
use Rattle.sd_admin.proofs.words.word_len.Goals as goal

pub returns-clause-place : goal.returns-clause-place
returns-clause-place c =
    let found = position_from_yields_List is_white_space _ _ c.position.result c.position.ensures.ran (YieldsList-from_slice c.args.bytes.now c.iter.ensures.rest) (λ x b q k. search (rules, tests)) in
    c.unwrap_or.ensures ∙ place_or_len is_white_space c.args.bytes.now c.position.result found
