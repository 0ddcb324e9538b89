use Rattle.std.proofs.Common.{◌≡◌, map, drop}
use Rattle.toml.specs.View.{items_view}
use Rattle.sd_model_settings.specs.Settings.{unknown_among}
use Rattle.sd_config.proofs.known_names.unknown_among.Given as goal

abbrev pub invariant-loop-item : goal.invariant-loop-item
invariant-loop-item l =
    unknown_among l.prefix (map (λ k. k.now) l.known) (items_view (drop l.item-index l.items))
    ≡ unknown_among l.prefix (map (λ k. k.now) l.known) (items_view l.items)
