-- What a list in room that was taken for it keeps of its fields.
use Rattle.std.specs.Prelude.{◌^◌, ◌<◌, vec_capacity}
use Rattle.sd_shard.specs.Listed.{ItemList}
use Rattle.sd_shard.specs.declared.listed.Listed.TheInside.{Inside}

abbrev pub item_list_of : {A : Type 0} → Inside A → ItemList A
item_list_of list = record { room = vec_capacity list.items; items = list.items.items }

abbrev pub AreFew : {A : Type 0} → Inside A → Type 0
AreFew list = vec_capacity list.items < 2 ^ 32
