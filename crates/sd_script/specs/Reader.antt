-- The reader of the code, as the definitions have it.
use Rattle.std.specs.Prelude.{ℕ, ◌+◌, ◌<◌, List, [], Option, None, Some, length, take, drop}
use Rattle.std.specs.Option.{ForSome}
use Rattle.sd_script.specs.Ahead.{held_in}
use Rattle.sd_script.specs.Reading.{Reading}
use Rattle.sd_script.specs.declared.reader.Reader.TheInside.{Inside}

-- the body that was read last, where there is one: it stands at the start of the bytes ahead
abbrev pub lent_of : Option ℕ → List ℕ → List ℕ
lent_of None held = []
lent_of (Some len) held = take len held

-- what stands behind that body and its newline
abbrev pub pending_of : Option ℕ → List ℕ → List ℕ
pending_of None held = held
pending_of (Some len) held = drop (len + 1) held

-- what contracts see of the reader
abbrev pub reading_of : Inside → Reading
reading_of r = record { receivers = r.receivers; at = r.at; body = lent_of r.body (held_in r.ahead); pending = pending_of r.body (held_in r.ahead) }

-- the body and its newline are held
abbrev pub IsReader : Inside → Type 0
IsReader r = ForSome r.body (λ len. len < length (held_in r.ahead))
