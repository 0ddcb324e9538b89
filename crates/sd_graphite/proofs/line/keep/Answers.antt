use Rattle.std.proofs.Common.{◌≡◌, ◌+◌, ◌++◌, ◌∙◌, length, length-append, take, ap, sym, arith}
use Rattle.sd_model_record.specs.Backends.{path_prefix}
use Rattle.sd_graphite.specs.Texts.{path_text}
use Rattle.sd_graphite.proofs.line.keep.Goals as goal

pub returns-clause-text : goal.returns-clause-text
unfolding path_text
returns-clause-text c =
    let p = c.args.path.now in
    let before = path_prefix c.args.names.now p.legacy.now p.prefix.now in
    let all : length (path_text c.args.names.now p) ≡ c.path_prefix_len-path_prefix.result + length p.key.now + length p.back.now = omega (arith, length-append (before ++ p.key.now) p.back.now, length-append before p.key.now, c.path_prefix_len-path_prefix.ensures.len) in
    c.truncate.ensures.items ∙ ap (λ n. take n c.args.line.now.items) (sym all) ∙ c.requires
