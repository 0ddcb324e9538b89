-- Lines that were sent on the wires of their owners, or wait for that, and counted.
use Rattle.std.specs.Prelude.{◌≡◌, ℕ, ◌+◌, ◌<◌, ◌≤◌, List, [], ◌++◌, All, filter, get_or, length, map}
use Rattle.sd_model_outside.specs.Outside.{Object}
use Rattle.sd_model_settings.specs.Entries.{Node}
use Rattle.sd_model_text.specs.Lines.{lines}
use Rattle.sd_model_proxy.specs.Routes.{AreBatched, Batched, add_totals, batches, totals_by, relay_counts, Read, Route, goes_to, route, joined}
use Rattle.sd_model_record.specs.Totals.{Total}
use Rattle.sd_proxy.specs.Waiting.{Holds, batches_behind, under_way}
use Rattle.sd_proxy.specs.declared.waiting.Waiting.{Waiting}
use Rattle.sd_model_outside.specs.Uses.{AfterSendsOn}

-- no line waits for any node
abbrev pub NoneWaits : (most : ℕ) → List Waiting → Type 0
NoneWaits most waiting = All (Holds most []) waiting

-- the read of a datagram, with the nodes that were up
abbrev pub datagram_read : (datagram : List ℕ) → (up : ℕ) → Read
datagram_read datagram up = record { lines = lines datagram; long = 0; up = up }

-- The lines of reads, of so many datagrams in all, were sent in packets of at most so many bytes, and counted.
pub record Forwards (most : ℕ) (nodes : List Node) (packets : ℕ) (reads : List Read) (wires wires_now : List Object)
    (totals totals_now : List Total) : Type 0 where
  pub batched : Batched
  pub are : AreBatched most nodes reads batched
  pub sends : AfterSendsOn (λ place. map (λ b. record { packet = joined b.lines; is_failed = b.is_failed }) (batched place)) wires wires_now
  pub counted : totals_now ≡ add_totals totals (relay_counts nodes packets reads batched)

-- the lines of these that go to the node in a place
abbrev pub lines_for : List Node → (up place : ℕ) → List (List ℕ) → List (List ℕ)
lines_for nodes up place lines = filter (λ line. goes_to place (route line nodes up)) lines

-- What stands within one read: so many datagrams, so many lines that were too long, and lines that went so were counted, and of those
-- for the node in each place some packets were sent and some lines wait, as this says.
pub record Stands (says : ℕ → List (List (List ℕ)) → List (List ℕ) → Type 0) (most : ℕ) (nodes : List Node) (packets long : ℕ)
    (routes : List Route) (waiting : List Waiting) (first wires : List Object) (totals totals_now : List Total) : Type 0 where
  pub sent : Batched
  pub begun : ℕ → List (List ℕ)
  pub are : (place : ℕ) → says place (map (λ b. b.lines) (sent place)) (begun place)
  pub holds : (place : ℕ) (d : Waiting) → place < length waiting → Holds most (begun place) (get_or waiting place d)
  pub sends : AfterSendsOn (λ place. map (λ b. record { packet = joined b.lines; is_failed = b.is_failed }) (sent place)) first wires
  pub counted : totals_now ≡ add_totals totals (totals_by nodes packets long routes sent)

-- where lines go
abbrev pub routes_by : List Node → ℕ → List (List ℕ) → List Route
routes_by nodes up lines = map (λ line. route line nodes up) lines

-- whatever lines come then, the packets that were sent to a node are the first of all, and the lines that wait go on with those
pub record IsUnderWay (most : ℕ) (nodes : List Node) (up : ℕ) (done : List (List ℕ)) (place : ℕ) (packets : List (List (List ℕ))) (begun : List (List ℕ)) : Type 0 where
  pub past : length nodes ≤ place → begun ≡ []
  pub cut : (lines : List (List ℕ)) → batches most (lines_for nodes up place done ++ lines) ≡ packets ++ batches_behind most begun lines

-- these lines of a read were taken, each behind those before
abbrev pub AreUnderWay : ℕ → List Node → (up packets long : ℕ) → (done : List (List ℕ)) → List Waiting → (first wires : List Object)
    → (totals totals_now : List Total) → Type 0
AreUnderWay most nodes up packets long done = Stands (IsUnderWay most nodes up done) most nodes packets long (routes_by nodes up done)

-- Lines of a read were taken behind those before, whichever these were, with so many that were too long.
pub record TakesLines (nodes : List Node) (up : ℕ) (taken : List (List ℕ)) (too_long : ℕ) (waiting waiting_now : List Waiting)
    (wires wires_now : List Object) (totals totals_now : List Total) : Type 0 where
  pub on : (most packets long : ℕ) (done : List (List ℕ)) (first : List Object) (t : List Total)
      → AreUnderWay most nodes up packets long done waiting first wires t totals
      → AreUnderWay most nodes up packets (long + too_long) (done ++ taken) waiting_now first wires_now t totals_now

-- no more lines come: the packets that were sent to a node, and that of the lines that wait, are all; and none wait before a place
pub record IsLeft (most : ℕ) (nodes : List Node) (up : ℕ) (done : List (List ℕ)) (to : ℕ) (place : ℕ) (packets : List (List (List ℕ))) (begun : List (List ℕ)) : Type 0 where
  pub past : length nodes ≤ place → begun ≡ []
  pub before : place < to → begun ≡ []
  pub cut : batches most (lines_for nodes up place done) ≡ packets ++ under_way begun

-- these lines, which are all of a read, were sent
abbrev pub AreSent : ℕ → List Node → (up packets long : ℕ) → (done : List (List ℕ)) → List Waiting → (first wires : List Object)
    → (totals totals_now : List Total) → Type 0
AreSent most nodes up packets long done = Stands (IsLeft most nodes up done (length nodes)) most nodes packets long
    (routes_by nodes up done)
