use Rattle.std.proofs.Common.{sym, ap, ◌∙◌}
use Rattle.std.specs.List.{list_any}
use Rattle.std.specs.Str.{bytes_eq}
use Rattle.sd_config.proofs.NameLists.{list_any-map}
use Rattle.sd_run.proofs.settings.names_backend.Goals as goal

pub returns : goal.returns
returns c =
    let test = bytes_eq c.args.name.now in
    c.is_among.ensures ∙ sym (list_any-map (λ n. n.items) test c.backends.result.now) ∙ ap (list_any test) c.backends.ensures.value
