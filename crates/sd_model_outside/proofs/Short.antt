-- Short names that proofs have for parts of definitions.
use Rattle.std.specs.Prelude.{List, ℕ, Some, filter_map, option_map, slice_get, length, take, ◌<◌, ◌≡◌, not, ◌==◌}
use Rattle.sd_model_outside.specs.Outside.{Object, telling, with_packet, Interval, Content, appended}
use Rattle.sd_model_outside.specs.Uses.{Sending, WireSend}
use Rattle.std.specs.List.{take_while}

-- what an answered question puts out: the first line of the reply, cut
abbrev pub first_line_of : List ℕ → List ℕ
first_line_of reply = take 1024 (take_while (λ byte. not (byte == 10)) reply)

-- a prefix of the bytes was appended, and not all of them
abbrev pub AppendsPrefix : Content → List ℕ → Content → Type 0
AppendsPrefix old bytes new = (n : ℕ) × (n < length bytes) × (new ≡ appended old (take n bytes))

-- the sends on wire i: of the packets that had one there, in order
abbrev pub sends_on : ℕ → List Sending → List WireSend
sends_on i sendings = filter_map (λ s. option_map (λ f. record { packet = s.packet; is_failed = f }) (slice_get s.failed i)) sendings

-- a beat once it was started with an interval
abbrev pub with_interval : Interval → Object → Object
with_interval interval o = record o { interval = Some interval }

-- an object after this packet was sent
abbrev pub sent : List ℕ → Object → Object
sent packet o = telling (with_packet o.content packet) o
