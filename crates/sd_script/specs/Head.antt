-- First lines of the code, as the definitions have them.
use Rattle.std.specs.Prelude.{◌≡◌, ℕ, List}
use Rattle.sd_model_replay.specs.Script as model
use Rattle.sd_model_replay.specs.Script.{PacketHead, FlushHead, AdminHead, EndHead, head_line, IsForm}
use Rattle.sd_script.specs.declared.head.Body.{Body}
use Rattle.sd_script.specs.declared.head.Head.{Head}
use Rattle.sd_script.specs.declared.head.Head.TheVariants.{Packet, Flush, Admin, End}
use Rattle.sd_script.specs.declared.reader.Item.{Item}
use Rattle.sd_script.specs.declared.reader.Item.TheVariants.{Packet as PacketItem, Flush as FlushItem, Admin as AdminItem, End as EndItem}

abbrev pub head_of : Head → model.Head
head_of (Packet who moment len) = PacketHead who moment len
head_of (Flush ts) = FlushHead ts
head_of (Admin moment len) = AdminHead moment len
head_of End = EndHead

abbrev pub body_view : Body → model.Body
body_view b = record { len = b.len; most = b.most; is_line = b.is_line }

-- the line is that of a form
abbrev pub IsLineOf : ℕ → List ℕ → Head → Type 0
IsLineOf receivers line head = (line ≡ head_line (head_of head)) × IsForm receivers (head_of head)

-- what is answered where the record of this first line was read
abbrev pub item_of : Head → Item
item_of (Packet who moment len) = PacketItem who moment
item_of (Flush ts) = FlushItem ts
item_of (Admin moment len) = AdminItem moment
item_of End = EndItem
