use Rattle.sd_config.proofs.NameLists.{bytes_ascend, names-members}
use Rattle.sd_config.proofs.known_names.names_ascend.Goals as goal

pub returns : goal.returns
returns c = rw names-members (bytes_ascend _ c.keys.ensures.ordered)
