-- The reader of lines, if there is one: what its post tells of a run.
use Rattle.std.proofs.Common.{◌≡◌, ℕ, List, [], ◌∷◌, ◌++◌, length, map, take, drop, All, refl, sym, ap, subst, ◌∙◌, append-nil}
use Rattle.std.specs.Prelude.{Option, Some, None, IfSome, option_to_list}
use Rattle.std.specs.List.{AllByRecursion}
use Rattle.std.proofs.lemmas.List.Elements.{All-nil, All-cons}
use Rattle.sd_model_outside.specs.Outside.{Object}
use Rattle.sd_model_record.specs.Totals.{Total}
use Rattle.sd_model_settings.specs.Entries.{Node}
use Rattle.sd_model_proxy.specs.Relays.{IsLineRelay, Relay, relay_totals}
use Rattle.sd_model_live.specs.Port.{AreCounted, CountsEach, ProxyAct, ProxyEvent, done_by}
use Rattle.sd_live.specs.Looks.{Begins, HaveAnswered}
use Rattle.sd_relay.specs.Looked.{LookedIn}
use Rattle.sd_live.proofs.LookLemmas.{answered_on}
use Rattle.sd_turn.specs.Lists.{span}
use Rattle.sd_live.specs.Live.{IsPassOf, seen as history_in}
use Rattle.sd_live.specs.declared.up_cell.UpCell.{UpCell}
use Rattle.sd_proxy_desk.specs.Shared.{IsSeatOf, events_of, number_of_seat}
use Rattle.sd_proxy_desk.specs.declared.desk.ProxyDesk.{ProxyDesk}
use Rattle.sd_relay.specs.LinePost.{HasReadIfThere, HasReadLines, IsLineFitted, IsLineReady, NoneWaitsInLine, line_owns, line_wires}
use Rattle.sd_relay.specs.Owns.{IsFreshOwn, number_of, pass_of, seat_of}
use Rattle.sd_relay.specs.Sums.{LineWasRun, line_totals, totals_by_lines}
use Rattle.sd_relay.specs.declared.line_post.LinePost.{LinePost}
use Rattle.sd_relay.proofs.PostLemmas.{drop_run, take_run}
use Rattle.sd_model_live.proofs.Short.{first_history}
use Rattle.sd_model_proxy.proofs.Short.{AreLineRelays}

-- a post for which there is something is there
pub as_many_lines : {L : Type 0} (post : Option (LinePost L)) → length (line_owns post) ≡ length (option_to_list post)
as_many_lines None = refl
as_many_lines (Some p) = refl

-- a post that was not run can be
pub line_ready : {L : Type 0} (cell : UpCell) (desk : ProxyDesk) (history : List ℕ) (nodes : List Node) (post : Option (LinePost L))
    → AllByRecursion (IsFreshOwn cell desk history) (line_owns post) → IfSome post (IsLineFitted nodes)
    → IfSome post (IsLineReady cell desk)
line_ready cell desk history nodes None fresh fitted = fitted
line_ready cell desk history nodes (Some p) fresh fitted =
    record {
      pass = fresh.0.pass;
      seat = fresh.0.seat;
      wires = p.wires.ok.0 ∙ fitted.1 ∙ sym (ap length fitted.0);
      waiting = p.waiting.ok.0 ∙ fitted.2 ∙ sym (ap length fitted.0);
      room = fitted.3;
    }

module _ {L : Type 0} (wire_seen : L → Object) (cell : UpCell) (desk : ProxyDesk) where
  -- the post was run, if there is one
  abbrev pub LinesRead : Option (LinePost L) → Option (LinePost L) → Object → Object → Type 0
  LinesRead p q door door_now = HasReadIfThere wire_seen cell desk p q door door_now

  -- what the reader of lines did
  abbrev pub line_relays_of : (most : ℕ) (p q : Option (LinePost L)) (door door_now : Object) → LinesRead p q door door_now
      → IfSome p (NoneWaitsInLine most) → List Relay
  line_relays_of most None None door door_now h clear = []
  line_relays_of most None (Some q) door door_now h clear = []
  line_relays_of most (Some p) None door door_now h clear = []
  line_relays_of most (Some p) (Some q) door door_now h clear = (h.relays most clear).relay ∷ []

  pub line_relays_count : (most : ℕ) (p q : Option (LinePost L)) (door door_now : Object) (h : LinesRead p q door door_now)
      (clear : IfSome p (NoneWaitsInLine most)) → length (line_relays_of most p q door door_now h clear) ≡ length (option_to_list p)
  line_relays_count most None None door door_now h clear = refl
  line_relays_count most None (Some q) door door_now h clear = absurd h
  line_relays_count most (Some p) None door door_now h clear = absurd h
  line_relays_count most (Some p) (Some q) door door_now h clear = refl

  pub lines_as_many : (p q : Option (LinePost L)) (door door_now : Object) → LinesRead p q door door_now → length (line_owns q)
      ≡ length (line_owns p)
  lines_as_many None None door door_now h = refl
  lines_as_many None (Some q) door door_now h = absurd h
  lines_as_many (Some p) None door door_now h = absurd h
  lines_as_many (Some p) (Some q) door door_now h = refl

  pub line_wires_long : (p q : Option (LinePost L)) (door door_now : Object) → LinesRead p q door door_now → length (line_wires q)
      ≡ length (line_wires p)
  line_wires_long None None door door_now h = refl
  line_wires_long None (Some q) door door_now h = absurd h
  line_wires_long (Some p) None door door_now h = absurd h
  line_wires_long (Some p) (Some q) door door_now h =
      let now = append-nil q.wires.items in
      let old = append-nil p.wires.items in
      ap length now ∙ sym q.wires.ok.0 ∙ h.wires ∙ p.wires.ok.0 ∙ ap length (sym old)

  -- its pass is the cell's, and its seat the desk's
  pub line_passes : (p q : Option (LinePost L)) (door door_now : Object) → LinesRead p q door door_now
      → All (IsPassOf cell) (map pass_of (line_owns q))
  line_passes None None door door_now h = All-nil (IsPassOf cell)
  line_passes None (Some q) door door_now h = absurd h
  line_passes (Some p) None door door_now h = absurd h
  line_passes (Some p) (Some q) door door_now h = All-cons (IsPassOf cell) q.own.pass [] h.pass (All-nil (IsPassOf cell))

  pub line_seats : (p q : Option (LinePost L)) (door door_now : Object) → LinesRead p q door door_now
      → All (IsSeatOf desk) (map seat_of (line_owns q))
  line_seats None None door door_now h = All-nil (IsSeatOf desk)
  line_seats None (Some q) door door_now h = absurd h
  line_seats (Some p) None door door_now h = absurd h
  line_seats (Some p) (Some q) door door_now h = All-cons (IsSeatOf desk) q.own.seat [] h.seat (All-nil (IsSeatOf desk))

  pub line_was_run : (p q : Option (LinePost L)) (door door_now : Object) → LinesRead p q door door_now → IfSome q LineWasRun
  line_was_run None None door door_now h = tt
  line_was_run None (Some q) door door_now h = absurd h
  line_was_run (Some p) None door door_now h = absurd h
  line_was_run (Some p) (Some q) door door_now h = (h.got, h.got_is)

  pub line_relays_counted : (most : ℕ) (nodes : List Node) (p q : Option (LinePost L)) (door door_now : Object) (h : LinesRead p q door door_now)
      (clear : IfSome p (NoneWaitsInLine most)) → IfSome p (IsLineFitted nodes) → line_totals q
      ≡ map (relay_totals nodes) (line_relays_of most p q door door_now h clear)
  line_relays_counted most nodes None None door door_now h clear fitted = refl
  line_relays_counted most nodes None (Some q) door door_now h clear fitted = absurd h
  line_relays_counted most nodes (Some p) None door door_now h clear fitted = absurd h
  line_relays_counted most nodes (Some p) (Some q) door door_now h clear fitted =
      let by = h.relays most clear in
      ap (λ (t : List Total). t ∷ []) (ap totals_by_lines h.got_is ∙ by.totals_are ∙ ap (λ ns. relay_totals ns by.relay) fitted.0)

  -- what it saw is a beginning of the history of all sets
  pub line_relays_looked : (most : ℕ) (nodes : List Node) (history : List ℕ) (p q : Option (LinePost L)) (door door_now : Object)
      (h : LinesRead p q door door_now) (clear : IfSome p (NoneWaitsInLine most))
      → AllByRecursion (IsFreshOwn cell desk (first_history nodes)) (line_owns p)
      → AllByRecursion (λ s. Begins (history_in s) history) (map pass_of (line_owns q))
      → AllByRecursion (LookedIn nodes history) (line_relays_of most p q door door_now h clear)
  line_relays_looked most nodes history None None door door_now h clear fresh begins = tt
  line_relays_looked most nodes history None (Some q) door door_now h clear fresh begins = absurd h
  line_relays_looked most nodes history (Some p) None door door_now h clear fresh begins = absurd h
  line_relays_looked most nodes history (Some p) (Some q) door door_now h clear fresh begins =
      let by = h.relays most clear in
      let ups = map (λ x. x.up) by.relay.reads in
      let looks = subst (λ h. HaveAnswered h (history_in q.own.pass) ups) fresh.0.seen by.looks in
      (answered_on (first_history nodes) (history_in q.own.pass) history ups begins.0 looks, tt)

  -- it has this number, and counted each of its reads in the history of the desk
  pub line_relays_acted : (most : ℕ) (nodes : List Node) (seen_first : List ℕ) (log : List ProxyAct) (from : ℕ) (p q : Option (LinePost L))
      (door door_now : Object) (h : LinesRead p q door door_now) (clear : IfSome p (NoneWaitsInLine most))
      → AllByRecursion (IsFreshOwn cell desk seen_first) (line_owns p) → IfSome p (IsLineFitted nodes) → map number_of (line_owns p)
      ≡ span from (length (line_owns p))
      → AllByRecursion (λ s. events_of s ≡ done_by (number_of_seat s) log) (map seat_of (line_owns q))
      → AreCounted 0 most nodes from (line_relays_of most p q door door_now h clear) log
  line_relays_acted most nodes seen_first log from None None door door_now h clear fresh fitted numbers own = tt
  line_relays_acted most nodes seen_first log from None (Some q) door door_now h clear fresh fitted numbers own = absurd h
  line_relays_acted most nodes seen_first log from (Some p) None door door_now h clear fresh fitted numbers own = absurd h
  line_relays_acted most nodes seen_first log from (Some p) (Some q) door door_now h clear fresh fitted numbers own =
      let by = h.relays most clear in
      let did = by.counts in
      let relay : Relay = by.relay in
      let events : List ProxyEvent = did.0 in
      let number : number_of_seat p.own.seat ≡ from = cc in
      let is : events ≡ done_by from log = sym (did.1 ∙ ap (λ (l : List ProxyEvent). l ++ events) fresh.0.events) ∙ own.0
      ∙ ap (λ n. done_by n log) (h.number ∙ number) in
      (subst (λ l. CountsEach 0 most nodes relay l) is (subst (λ ns. CountsEach 0 most ns relay events) fitted.0 did.2), tt)

  one_line_relay : (most : ℕ) (nodes : List Node) (p q : LinePost L) (door door_now : Object)
      (h : HasReadLines wire_seen cell desk p q door door_now) (clear : NoneWaitsInLine most p) → p.ring ≡ nodes
      → IsLineRelay most nodes (h.relays most clear).relay door door_now (map wire_seen p.wires.items) (map wire_seen q.wires.items)
  one_line_relay most nodes p q door door_now h clear ring =
      subst (λ ns. IsLineRelay most ns (h.relays most clear).relay door door_now (map wire_seen p.wires.items)
      (map wire_seen q.wires.items)) ring (h.relays most clear).relays

  -- it did what a reader of lines does, with its door and its run of wires
  pub all_line_relays : (most : ℕ) (nodes : List Node) (rest : List L) (p q : Option (LinePost L)) (door door_now : Object)
      (h : LinesRead p q door door_now) (clear : IfSome p (NoneWaitsInLine most)) → IfSome p (IsLineFitted nodes)
      → AreLineRelays most nodes (line_relays_of most p q door door_now h clear) (door ∷ []) (door_now ∷ [])
      (map wire_seen (line_wires p ++ rest)) (map wire_seen (line_wires q ++ rest))
  all_line_relays most nodes rest None None door door_now h clear fitted = (ap (λ (d : Object). d ∷ []) h, refl)
  all_line_relays most nodes rest None (Some q) door door_now h clear fitted = absurd h
  all_line_relays most nodes rest (Some p) None door door_now h clear fitted = absurd h
  all_line_relays most nodes rest (Some p) (Some q) door door_now h clear fitted =
      let run : ℕ = length nodes in
      let relay : Relay = (h.relays most clear).relay in
      let old = ap (λ ws. ws ++ rest) (append-nil p.wires.items) in
      let now = ap (λ ws. ws ++ rest) (append-nil q.wires.items) in
      let old_len : length p.wires.items ≡ run = fitted.1 in
      let now_len : length q.wires.items ≡ run = sym q.wires.ok.0 ∙ h.wires ∙ p.wires.ok.0 ∙ old_len in
      let old_wires = map wire_seen (line_wires (Some p) ++ rest) in
      let now_wires = map wire_seen (line_wires (Some q) ++ rest) in
      let took : take run old_wires ≡ map wire_seen p.wires.items = ap (λ ws. take run (map wire_seen ws)) old
      ∙ take_run wire_seen run p.wires.items rest old_len in
      let took_now : take run now_wires ≡ map wire_seen q.wires.items = ap (λ ws. take run (map wire_seen ws)) now
      ∙ take_run wire_seen run q.wires.items rest now_len in
      let left : drop run old_wires ≡ map wire_seen rest = ap (λ ws. drop run (map wire_seen ws)) old
      ∙ drop_run wire_seen run p.wires.items rest old_len in
      let left_now : drop run now_wires ≡ map wire_seen rest = ap (λ ws. drop run (map wire_seen ws)) now
      ∙ drop_run wire_seen run q.wires.items rest now_len in
      let did = subst (λ ws. IsLineRelay most nodes relay door door_now ws (take run now_wires)) (sym took)
      (subst (λ ws. IsLineRelay most nodes relay door door_now (map wire_seen p.wires.items) ws) (sym took_now)
      (one_line_relay most nodes p q door door_now h clear fitted.0)) in
      (did, (refl, left_now ∙ sym left))
