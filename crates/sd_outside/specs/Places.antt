-- An address as the definitions have it.
use Rattle.std.specs.Prelude.{Option, option_map}
use Rattle.sd_model_outside.specs.Outside as model
use Rattle.sd_outside.specs.declared.address.Address.{Address}
use Rattle.sd_outside.specs.declared.address.Address.TheVariants.{File, Host, Datagrams}

abbrev pub place_of : Address → model.Place
place_of (File name) = model.File name.items
place_of (Host host port) = model.Host host.items port
place_of (Datagrams host port receive_buffer) = model.Datagrams host.items port receive_buffer

-- where an object was last opened, if it was
abbrev pub last_place : Option Address → Option model.Place
last_place at = option_map place_of at
