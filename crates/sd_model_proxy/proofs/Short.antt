-- Short names that proofs have for parts of definitions.
use Rattle.std.specs.Prelude.{List, ℕ, sum_by, ◌≡◌, flat_map, map, Option, Bool, length, nat_le, [], filter, count_by, if◌then◌else◌}
use Rattle.std.specs.Option.{option_map_or}
use Rattle.sd_model_proxy.specs.Routes.{Read, Route, route, To, Unowned, Bad, joined, Batched, goes_to, Batch}
use Rattle.sd_model_text.specs.Lines.{lines}
use Rattle.sd_model_settings.specs.Entries.{Node}
use Rattle.sd_model_ring.specs.Ring.{owner}
use Rattle.sd_model_stream.specs.Streams.{Stream, StreamLine}
use Rattle.sd_model_proxy.specs.Relays.{lines_ended, IsLineRelay, Relay, IsRelay, is_long, lines_of_cut}
use Rattle.sd_model_serve.specs.Receiving.{HaveRun}
use Rattle.sd_model_outside.specs.Outside.{Object}
use Rattle.sd_model_outside.specs.Uses.{AfterSendsOn, WireSend}

-- the send of a packet
abbrev pub send_of : Batch → WireSend
send_of b = record { packet = joined b.lines; is_failed = b.is_failed }

-- how many lines the packets have whose sends failed
abbrev pub lines_not_sent : List Batch → ℕ
lines_not_sent batches = sum_by (λ b. if b.is_failed then length b.lines else 0) batches

-- how many lines the packets have that were sent
abbrev pub lines_sent : List Batch → ℕ
lines_sent batches = sum_by (λ b. if b.is_failed then 0 else length b.lines) batches

-- the lines that one read ended were read together
abbrev pub IsReadOfLines : List StreamLine → Read → Type 0
IsReadOfLines cuts r = (r.lines ≡ flat_map lines_of_cut cuts) × (r.long ≡ count_by is_long cuts)

-- the lines read together that go to the node in a place, in order
abbrev pub lines_to : List Node → ℕ → Read → List (List ℕ)
lines_to nodes place r = filter (λ line. goes_to place (route line nodes r.up)) r.lines

-- the wire of each node got the sends of the packets to its node, and nothing else
abbrev pub AreForwarded : Batched → List Object → List Object → Type 0
AreForwarded batched old new = AfterSendsOn (λ place. map send_of (batched place)) old new

-- each receiver did so with a source of its own, and a run of wires with one for each node
abbrev pub AreRelays : (most : ℕ) → List Node → List Relay → (sources sources_now wires wires_now : List Object) → Type 0
AreRelays most nodes = HaveRun (IsRelay most nodes) (length nodes)

-- each reader of lines did so with a door of its own, and a run of wires with one for each node
abbrev pub AreLineRelays : (most : ℕ) → List Node → List Relay → (doors doors_now wires wires_now : List Object) → Type 0
AreLineRelays most nodes = HaveRun (IsLineRelay most nodes) (length nodes)

-- the lines that each read of streams ended, one stream after another
abbrev pub lines_by_read : List Stream → List (List StreamLine)
lines_by_read streams = flat_map (λ s. lines_ended [] s.reads) streams

-- whether a packet of lines has at most so many bytes
abbrev pub fits : ℕ → List (List ℕ) → Bool
fits most packet = nat_le (length (joined packet)) most

-- how many lines were too long
abbrev pub long_in : List Read → ℕ
long_in reads = sum_by (λ r. r.long) reads

-- the lines of a datagram were read together, and none was too long
abbrev pub IsReadOf : List ℕ → Read → Type 0
IsReadOf datagram r = (r.lines ≡ lines datagram) × (r.long ≡ 0)

-- where the lines that were read went, in order
abbrev pub routes_of : List Node → List Read → List Route
routes_of nodes reads = flat_map (λ r. map (λ line. route line nodes r.up) r.lines) reads

-- to the owner, where there is one
abbrev pub to_owner : Option ℕ → Route
to_owner place = option_map_or To place Unowned

-- where a key goes among the nodes that are up, where there is a key
abbrev pub route_of_key : Option (List ℕ) → List Node → ℕ → Route
route_of_key key nodes up = option_map_or (λ k. to_owner (owner k nodes up)) key Bad
