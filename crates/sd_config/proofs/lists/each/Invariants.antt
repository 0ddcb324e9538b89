use Rattle.std.proofs.Common.{◌≡◌, ◌≤◌, length, map, drop}
use Rattle.toml.specs.View.{items_view}
use Rattle.sd_model_settings.specs.Values.{each, ranged, are_at_most}
use Rattle.sd_config.proofs.Each.{onto}
use Rattle.sd_config.proofs.lists.each.Given as goal

abbrev pub invariant-loop-item : goal.invariant-loop-item
invariant-loop-item g l =
    (onto g.row.N l.out_of_range (map g.T.Element.seen l.elements.items) (each (g.T.Element.reads l.rule) (items_view (drop l.item-index l.items)))
    ≡ ranged (are_at_most g.row.N) (each (g.T.Element.reads l.rule) (items_view l.items)))
    × (length l.elements.items ≤ g.row.N)
