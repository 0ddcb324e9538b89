-- Where a line goes among the nodes that are up; which lines go together in one packet to a node; and what lines count for.
use Rattle.std.specs.{Prelude.{ℕ, ◌==◌, Bool, true, false, List, filter, Option, ◌≡◌, ◌+◌, nat_le, if◌then◌else◌, [], ◌∷◌, ◌++◌, length, map, flat_map, codes, count_by, sum_by, option_map}, Option.{option_and_then, option_map_or}, Result.{result_ok}, List.{join_with_byte, range_with_len}}
use Rattle.sd_model_text.specs.{Names.{clean}, Lists.{cut_at}}
use Rattle.sd_model_settings.specs.Entries.{Node}
use Rattle.sd_model_ring.specs.Ring.{owner}
use Rattle.sd_model_outside.specs.Uses.{WireSend}
use Rattle.sd_model_record.specs.{Desk.{counted}, Totals.{Total, number_in}}

-- the key of a line: that of the name before its first colon, where there is one
abbrev pub key_of_line : List ℕ → Option (List ℕ)
key_of_line line = option_and_then (λ name. result_ok (clean name)) (option_map (λ c. c.part) (cut_at 58 line))

-- Where a line goes: it is bad, since it has no key; it has no owner, since no node is up; or it goes to the node in a place.
pub data Route : Type 0 where
  Bad Unowned : Route
  To : (place : ℕ) → Route

-- where a line goes among the nodes that are up
abbrev pub route : List ℕ → List Node → ℕ → Route
route line nodes up = option_map_or (λ key. option_map_or To (owner key nodes up) Unowned) (key_of_line line) Bad

-- whether a line goes to the node in a place
abbrev pub goes_to : ℕ → Route → Bool
goes_to place (To other) = other == place
goes_to place other = false

-- whether a line was bad
abbrev pub is_bad : Route → Bool
is_bad Bad = true
is_bad goes = false

-- whether a line had no owner
abbrev pub is_unowned : Route → Bool
is_unowned Unowned = true
is_unowned goes = false

-- Lines of a datagram, or that a read of a stream ended; how many were too long besides; the nodes that were up for all of them.
pub record Read : Type 0 where
  pub lines : List (List ℕ)
  pub long : ℕ
  pub up : ℕ

-- the text of a packet of lines, with a newline between each two
abbrev pub joined : List (List ℕ) → List ℕ
joined = join_with_byte 10

-- lines in packets, the first of them begun with these: a line joins the packet before it where it fits, and else begins the next
abbrev pub batches_from : (most : ℕ) → (begun lines : List (List ℕ)) → List (List (List ℕ))
batches_from most begun [] = begun ∷ []
batches_from most begun (line ∷ lines) =
    if nat_le (length (joined (begun ++ line ∷ []))) most then batches_from most (begun ++ line ∷ []) lines else begun ∷ batches_from most (line ∷ []) lines

-- lines in packets, each with as many as fit
abbrev pub batches : (most : ℕ) → (lines : List (List ℕ)) → List (List (List ℕ))
batches most [] = []
batches most (line ∷ lines) = batches_from most (line ∷ []) lines

-- A packet that was sent, or whose send failed, whole: its lines.
pub record Batch : Type 0 where
  pub lines : List (List ℕ)
  pub is_failed : Bool

-- packets by the place of the node that they go to
abbrev pub Batched : Type 0
Batched = ℕ → List Batch

-- the packets to each node are those of the lines that go there, of each read, in order
abbrev pub AreBatched : (most : ℕ) → List Node → List Read → Batched → Type 0
AreBatched most nodes reads batched = (place : ℕ) → map (λ b. b.lines) (batched place) ≡ flat_map (λ r. batches most (filter (λ line. goes_to place (route line nodes r.up)) r.lines)) reads

-- a number of the packets to each node, added up
abbrev pub over_nodes : List Node → Batched → (List Batch → ℕ) → ℕ
over_nodes nodes batched number = sum_by (λ place. number (batched place)) (range_with_len 0 (length nodes))

-- what so many datagrams, so many lines that were too long, lines that went so, and packets count for
abbrev pub totals_by : List Node → (packets long : ℕ) → List Route → Batched → List Total
totals_by nodes packets long routes batched =
    (codes "packets", packets)
    ∷ (codes "lines", length routes + long)
    ∷ (codes "bad", count_by is_bad routes + long)
    ∷ (codes "sent", over_nodes nodes batched (λ batches. sum_by (λ b. if b.is_failed then 0 else length b.lines) batches))
    ∷ (codes "unowned", count_by is_unowned routes)
    ∷ (codes "send_faults", over_nodes nodes batched (λ batches. sum_by (λ b. if b.is_failed then length b.lines else 0) batches))
    ∷ []

-- what so many datagrams, and reads with the packets of their lines, count for
abbrev pub relay_counts : List Node → (packets : ℕ) → List Read → Batched → List Total
relay_counts nodes packets reads batched = totals_by nodes packets (sum_by (λ r. r.long) reads) (flat_map (λ r. map (λ line. route line nodes r.up) r.lines) reads) batched

-- nothing was counted
abbrev pub no_totals : List Total
no_totals = totals_by [] 0 0 [] (λ place. [])

-- totals with others added, name by name, each number up to the last count
abbrev pub add_totals : List Total → List Total → List Total
add_totals a b = map (λ t. (t.0, counted t.1 (number_in b t.0))) a

-- the sums of totals, name by name
abbrev pub sums_of_totals : List (List Total) → List Total
sums_of_totals ts = map (λ t. (t.0, sum_by (λ totals. number_in totals t.0) ts)) no_totals
