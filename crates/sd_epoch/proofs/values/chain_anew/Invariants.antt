use Rattle.std.proofs.Common.{◌≡◌, length, take}
use Rattle.sd_epoch.specs.Chain.{IsChain, links_of}
use Rattle.sd_epoch.specs.Values.{value_places, values_before, placed_values}
use Rattle.sd_epoch.proofs.values.chain_anew.Given as goal

-- those so far are chained
abbrev pub invariant-loop-at : goal.invariant-loop-at
invariant-loop-at l = record {
  items : placed_values l.values ≡ placed_values l.fn.values;
  chain : IsChain (value_places (take l.at l.values)) (links_of l.chain.last.items) (values_before (take l.at l.values));
  places : length l.chain.last.items ≡ length l.fn.chain.last.items;
  all : l.at-end ≡ length l.values;
}
