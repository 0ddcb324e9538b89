-- What a contract sees of a list of keys.
use Rattle.std.specs.Prelude.{ℕ, List}
use Rattle.sd_shard.specs.Listed.{ItemList}

-- for how many keys there is room, and the keys
abbrev pub KeyList : Type 0
KeyList = ItemList (List ℕ)
