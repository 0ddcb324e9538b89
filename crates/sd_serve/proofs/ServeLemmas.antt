-- A run of the server, put together from what its workers tell, and the closing of its pool and its desk.
use Rattle.std.proofs.Common.{◌≡◌, ◌⊎◌, ℕ, Bool, ◌+◌, ◌<◌, ◌≤◌, Option, List, [], ◌∷◌, ◌++◌, length, map, flat_map, get_or, inl, inr, refl, sym, ap, subst, ◌∙◌, arith, length-append, append_assoc}
use Rattle.std.specs.Prelude.{Some, max, min, option_to_list, slice_get, sum_by}
use Rattle.std.specs.List.{AllByRecursion, range_with_len}
use Rattle.std.specs.Option.{option_map_or}
use Rattle.std.proofs.lemmas.Bool.{cases_lt}
use Rattle.std.proofs.lemmas.List.{length-map, map-append}
use Rattle.std.proofs.lemmas.List.Elements.{recursion_from_All}
use Rattle.std.proofs.lemmas.List.Sums.{sum_by-append, sum_by-cons}
use Rattle.sd_turn.specs.Lists.{span}
use Rattle.sd_model_outside.specs.Uses.{Delivery, AfterDeliveries, FitsUse}
use Rattle.sd_model_outside.specs.Outside.{Object}
use Rattle.sd_model_outside.proofs.DeliveryLemmas.{AfterDeliveries-push}
use Rattle.sd_model_settings.specs.Settings.{Names}
use Rattle.sd_model_settings.specs.Settings as file
use Rattle.sd_model_shard.specs.History.{History, state_after, dropped_in, summed_by}
use Rattle.sd_model_shard.specs.Shard.{empty_state, last_number}
use Rattle.sd_model_outside.specs.Backend.{Backend, at_backend}
use Rattle.sd_model_serve.specs.Receiving.{CountsDatagrams, administrator, events_of, summed_in, EndsFlusher, events_in, acts_in}
use Rattle.sd_pool.specs.Adding.{Adds, JoinsAs}
use Rattle.sd_model_record.specs.Totals.{Among, IsKeeperCall, numbers_in}
use Rattle.sd_shared_desk.specs.Counts.{share, HasCounted}
use Rattle.sd_model_record.specs.Desk.{IsBalanced, Marks}
use Rattle.sd_model_record.specs.DeskHistory.{DeskCall, calls_by, desk_after}
use Rattle.sd_model_serve.specs.Rounds.{RecordForm, Round, round_calls, round_deliveries, round_text, swaps_at, Ran}
use Rattle.sd_flush.specs.Made.{of_rounds}
use Rattle.sd_session.specs.Commands.{AreCommands}
use Rattle.sd_model_serve.specs.Sessions.{asked_by, called_in}
use Rattle.sd_model_serve.proofs.ServedLemmas.{events_of_acts}
use Rattle.sd_serve.proofs.CallerLemmas.{ran_by_callers}
use Rattle.sd_model_run.specs.Run.{ServerTrace, RunSettings, brought_in, counts_in, HasOneDesk, IsRun, Objects}
use Rattle.sd_model_stream.specs.Streams.{CountsReads, LineTrace}
use Rattle.sd_model_run.proofs.CountedLemmas.{sum_by-across, sum_by-range}
use Rattle.sd_serve.proofs.CountedLemmas.{counts_add_up, counts_are, counts_of, no_drops, swaps_drop_nothing}
use Rattle.sd_serve.proofs.RunLemmas.{run_accounted}
use Rattle.sd_outside.specs.declared.datagrams.Ended.{Ended}
use Rattle.sd_outside.specs.declared.datagrams.Ended.TheVariants as ended
use Rattle.sd_outside.specs.declared.backend.Back.{Back}
use Rattle.sd_outside.specs.declared.backends.PerBackend.{PerBackend}
use Rattle.sd_plan.specs.Plan.{plan_view}
use Rattle.sd_plan.specs.declared.reckoning.Reckoning.{Reckoning}
use Rattle.sd_pool.specs.Along.{Pairs}
use Rattle.sd_pool.specs.Books.{IsBookOf, no_book}
use Rattle.sd_pool.specs.Pool.{limits_of, own_at, policy_of, receivers_of, shards_of, who_is}
use Rattle.sd_pool.specs.declared.pool.Pool.{Pool}
use Rattle.sd_pool.specs.declared.seat.Seat.{Seat}
use Rattle.sd_pool.proofs.AlongLemmas.{AllByRecursion-back, AllByRecursion-prefix}
use Rattle.sd_pool.proofs.JoinLemmas.{histories_join}
use Rattle.sd_rows.specs.declared.row.Row.{Row}
use Rattle.sd_shared.specs.declared.shared.Shared.{Shared}
use Rattle.sd_shared_desk.specs.Shared.{OwnSeat as DeskSeat, number_of_seat, part_of, seats_of, start_of}
use Rattle.sd_shared_desk.specs.declared.shared_desk.SharedDesk.{SharedDesk}
use Rattle.sd_delivery.specs.Delivery.{GivesBackends}
use Rattle.sd_outside.specs.Backends.{back_of, uses}
use Rattle.sd_flush.specs.Flushing.{EndsSo, MakesRoundAt, form_of}
use Rattle.sd_flush.proofs.RoundLemmas.{round_called, round_counted, swapped_next}
use Rattle.sd_receive.specs.Posts.{ended_in}
use Rattle.sd_receive.specs.declared.post.Post.{Post}
use Rattle.sd_serve.specs.Closing.{IsClosed}
use Rattle.sd_serve.specs.LinePost.{line_keepers, line_owns, line_seats}
use Rattle.sd_serve.specs.PostRooms.{IsFitted, own_in, seat_in, source_in, wires_in}
use Rattle.sd_serve.specs.Room.{IsPoolFor, Sizing, outlets_of}
use Rattle.sd_serve.specs.Services.{IsCrew, IsNewCrew, all_owns, all_seats, prefix_owns as desk_prefix, prefix_seats}
use Rattle.sd_serve.specs.Serving.{HasServed, door_end_of, end_of, objects_of, run_settings_in}
use Rattle.sd_serve.specs.Through.{FlushesThrough}
use Rattle.sd_serve.specs.declared.line_post.LinePost.{LinePost}
use Rattle.sd_serve.specs.Workers.{HaveRun, Held, Sights}
use Rattle.sd_serve.specs.declared.crew.SeatLists.{SeatLists}
use Rattle.sd_flush.specs.declared.post.FlusherPost.{FlusherPost}
use Rattle.sd_serve.specs.declared.serving.Served.{Served}
use Rattle.sd_serve.proofs.CrewLemmas.{with_flusher}
use Rattle.sd_serve.proofs.LineLemmas.{is_line_trace, keeper_as, line_asked, line_drops, line_shares, line_traces_count, line_traces_ended, line_traces_of}
use Rattle.sd_serve.proofs.DeskLemmas.{Owns, called_since, last_two, lines_read_so, nobody_else, numbers_of_line, received_so}
use Rattle.sd_serve.proofs.PostLemmas.{all_asked, all_ran, all_receiver_traces, all_shares, drops_of, no_share, receiver_traces_count, receiver_traces_ended, receiver_traces_of}
use Rattle.sd_serve.proofs.PostLemmas as posts
use Rattle.sd_serve.proofs.RoomLemmas.{counted_by, each_of}
use Rattle.sd_model_run.proofs.Short.{AreReceiverTraces, any_buffers}
use Rattle.sd_model_stream.proofs.Short.{brought_in_lines, reads_in}
use Rattle.sd_model_serve.proofs.Short.{events_by, brought_by}
use Rattle.sd_model_record.proofs.Short.{IsDeskHistory}
use Rattle.sd_desk.specs.Sums.{Count, Amounts, RoundsMade, TakenBad, TakenDropped, TakenLines, TakenPackets, TotalBad, TotalDropped, TotalLines, TotalPackets, counts, number_of}
use Rattle.sd_desk.proofs.SumLemmas.{numbers_are as numbers_by_name}
use Rattle.std.proofs.Math.Path.{fun_ext}

-- the end of the flusher, as the definitions have it
flusher_as : (asked : ℕ) (end : Ended) (beat beat_now : Object) (made : ℕ) → EndsSo asked end beat beat_now made → EndsFlusher asked (end_of end) beat beat_now made
flusher_as asked ended.End beat beat_now made h = h
flusher_as asked ended.Failed beat beat_now made h = h
flusher_as asked (ended.Stopped rounds) beat beat_now made h = h
flusher_as asked (ended.Worn turns) beat beat_now made h = h

-- what a new caller has made is what it made since
made_new : (shards : ℕ) (acts old new : ℕ → History) → Adds shards acts old new → ((i : ℕ) → old i ≡ []) → (i : ℕ) → i < shards → new i ≡ acts i
made_new shards acts old new added none i below = added i below ∙ ap (λ h. h ++ acts i) (none i)

module _ {D L P B E S G C : Type 0} (see : Sights D L P B E S) (shared : Shared G C) (says : ℕ → Type 0) (plan : Reckoning) (names : Names) (settings : file.Settings) (sizing : Sizing) where
  abbrev pool : Pool
  pool = shared.pool.now

  abbrev desk : SharedDesk
  desk = shared.desk.now

  abbrev asked : ℕ
  asked = shared.run_flushes

  abbrev form : RecordForm
  form = form_of pool plan names

  -- All that is told: of the workers before they ran and after, by the flusher and its last round, and by the closing.
  pub record Reports : Type 0 where
    pub old : Held D L P B E S
    pub new : Held D L P B E S
    pub result : Served
    pub did : HaveRun see shared says settings old new result.ends
    pub is_new : IsNewCrew old.services old.posts
    pub fitted : AllByRecursion (IsFitted sizing.wires) old.posts
    pub count : length old.posts ≡ sizing.receivers
    pub keepers : length (option_to_list old.services.lines) ≡ line_keepers sizing.streams
    pub packets : List D
    pub packets_now : List D
    pub more : List D
    pub packets_are : packets ≡ map source_in old.posts ++ more
    pub packets_left : packets_now ≡ map source_in new.posts ++ more
    pub wires : List L
    pub wires_now : List L
    pub rest : List L
    pub wires_are : wires ≡ flat_map wires_in old.posts ++ rest
    pub wires_left : wires_now ≡ flat_map wires_in new.posts ++ rest
    pub flushes : FlushesThrough form (uses old.objects.backs.now) (any_buffers (outlets_of sizing)) (outlets_of sizing) asked (own_at old.services.flusher.seat) (own_at new.services.flusher.seat) (part_of old.services.flusher.own) (part_of new.services.flusher.own)
        (back_of see.back old.objects.backs.now) (back_of see.back new.objects.backs.now) (see.beat old.objects.beat.now) (see.beat new.objects.beat.now) result.ends.flusher result.outs
    pub post : FlusherPost
    pub backs : PerBackend (Back B)
    pub ts : ℕ
    pub marks : Marks
    pub waiting : List (List (Option Row))
    pub last : MakesRoundAt form (GivesBackends see.back) ts marks (own_at new.services.flusher.seat) (own_at post.seat) (part_of new.services.flusher.own) (part_of post.own) new.objects.backs.now backs waiting
    pub reported_so : (now : ℕ) × says now × (ts ≡ option_map_or (λ second. max second now) result.ends.flusher.last now)
    pub lists : SeatLists
    pub crew : IsCrew pool desk lists (with_flusher post new.services) new.posts
    pub closed : IsClosed pool desk (all_seats (with_flusher post new.services) new.posts) (all_owns (with_flusher post new.services) new.posts) result.books.items result.desk
    pub start : says (start_of desk)

  -- what a run of these terms goes by
  abbrev run_settings_by : PerBackend (Back B) → RunSettings
  run_settings_by backs = record { limits = limits_of pool; policy = policy_of pool; form = form; uses = uses backs; outlets = outlets_of sizing; settings = settings; receivers = sizing.receivers; wires = sizing.wires; streams = sizing.streams; run_flushes = asked }

  module _ (t : Reports) where
    abbrev xs : List (Post D L)
    xs = t.old.posts

    abbrev ys : List (Post D L)
    ys = t.new.posts

    abbrev all : Pairs (posts.Ran see.source see.wire says pool desk asked) xs ys
    all = all_ran see.source see.wire says pool desk asked xs ys t.did.len t.did.each

    abbrev line_old : Option LinePost
    line_old = t.old.services.lines

    abbrev line_now : Option LinePost
    line_now = t.new.services.lines

    abbrev stream_door : Object
    stream_door = see.streams t.old.objects.streams.now

    abbrev stream_door_now : Object
    stream_door_now = see.streams t.new.objects.streams.now

    -- the seats of those who submit samples, and those of all
    abbrev prefix : List Seat
    prefix = prefix_seats t.new.services ys

    abbrev seats : List Seat
    seats = all_seats (with_flusher t.post t.new.services) ys

    abbrev prefix_owns : List DeskSeat
    prefix_owns = desk_prefix t.new.services ys

    abbrev owns : List DeskSeat
    owns = all_owns (with_flusher t.post t.new.services) ys

    abbrev admin_now : Seat
    admin_now = t.new.services.admin.seat

    abbrev admin_own : DeskSeat
    admin_own = t.new.services.admin.own

    -- one shard's history
    abbrev pub log_by : (i : ℕ) → (i < shards_of pool) ⊎ (shards_of pool ≤ i) → History
    log_by i (inl below) = (t.closed.histories i below).log
    log_by i (inr past) = []

    abbrev logs : ℕ → History
    logs i = log_by i (cases_lt i (shards_of pool))

    logs_are : (P : ℕ → History → Type 0) → ((i : ℕ) (below : i < shards_of pool) → P i (t.closed.histories i below).log) → (i : ℕ) → i < shards_of pool → P i (logs i)
    logs_are P each i below = at (cases_lt i (shards_of pool)) where
      at : (d : (i < shards_of pool) ⊎ (shards_of pool ≤ i)) → P i (log_by i d)
      at (inl under) = each i under
      at (inr past) = absurd (omega (arith, past, below))

    joins : (i : ℕ) → i < shards_of pool → JoinsAs (limits_of pool) (policy_of pool) (map (λ (s : Seat). own_at s i) prefix) (own_at t.post.seat i) (own_at admin_now i) (logs i)
    joins = logs_are (λ i acts. JoinsAs (limits_of pool) (policy_of pool) (map (λ (s : Seat). own_at s i) prefix) (own_at t.post.seat i) (own_at admin_now i) acts)
        (λ i below. histories_join pool prefix t.post.seat admin_now i (get_or t.result.books.items i no_book) (t.crew.callers ∙ ap (span 0) (sym (counted_by who_is prefix (receivers_of pool) t.crew.callers))) t.crew.flusher_is.who t.crew.admin_is.who (t.closed.histories i below))

    numbers : (i : ℕ) → i < shards_of pool → IsBookOf (get_or t.result.books.items i no_book) (state_after (limits_of pool) (policy_of pool) (logs i))
    numbers = logs_are (λ i acts. IsBookOf (get_or t.result.books.items i no_book) (state_after (limits_of pool) (policy_of pool) acts)) (λ i below. (t.closed.histories i below).numbers)

    drops_at : (i : ℕ) → i < shards_of pool → sum_by (λ (s : Seat). summed_by dropped_in (own_at s i)) seats ≡ summed_by dropped_in (logs i)
    drops_at = logs_are (λ i acts. sum_by (λ (s : Seat). summed_by dropped_in (own_at s i)) seats ≡ summed_by dropped_in acts) (λ i below. (t.closed.histories i below).shares dropped_in)

    -- the rounds at the ticks, and the last one
    abbrev rounds : List Round
    rounds = t.flushes.rounds ++ t.last.round ∷ []

    swapped : Adds (shards_of pool) (swaps_at rounds) (own_at t.old.services.flusher.seat) (own_at t.post.seat)
    swapped = swapped_next (shards_of pool) (own_at t.old.services.flusher.seat) (own_at t.new.services.flusher.seat) (own_at t.post.seat) t.flushes.rounds t.last.round t.flushes.swapped t.last.made.swapped

    rounds_counted : HasCounted (of_rounds rounds) (part_of t.old.services.flusher.own) (part_of t.post.own)
    rounds_counted = round_counted (part_of t.old.services.flusher.own) (part_of t.new.services.flusher.own) (part_of t.post.own) t.flushes.rounds t.last.round t.flushes.counted t.last.made.counted

    delivered : (b : Backend) → AfterDeliveries ((t.flushes.outlet_traces b).queued ++ round_deliveries form b rounds) (back_of see.back t.old.objects.backs.now b) (back_of see.back t.backs b)
    delivered b =
        let delivery : Round → Delivery = λ r. record { text = round_text form b r; mark = at_backend r.marks b } in
        let queued = (t.flushes.outlet_traces b).queued in
        let ticked = round_deliveries form b t.flushes.rounds in
        let order : (queued ++ ticked) ++ delivery t.last.round ∷ [] ≡ queued ++ round_deliveries form b rounds =
        append_assoc queued ticked (delivery t.last.round ∷ []) ∙ ap (λ (ds : List Delivery). queued ++ ds) (sym (map-append delivery t.flushes.rounds (t.last.round ∷ []))) in
        subst (λ ds. AfterDeliveries ds (back_of see.back t.old.objects.backs.now b) (back_of see.back t.backs b)) order
        (AfterDeliveries-push (queued ++ ticked) (delivery t.last.round) (back_of see.back t.old.objects.backs.now b) (back_of see.back t.new.objects.backs.now b) (back_of see.back t.backs b) (t.flushes.delivered b) (t.last.made.given.delivered b))

    swaps : (i : ℕ) → i < shards_of pool → own_at t.post.seat i ≡ swaps_at rounds i
    swaps i below = made_new (shards_of pool) (swaps_at rounds) (own_at t.old.services.flusher.seat) (own_at t.post.seat) swapped t.is_new.flusher_is.0 i below

    commands : (i : ℕ) → i < shards_of pool → own_at admin_now i ≡ acts_in (asked_by t.did.serves.dialogues) i
    commands i below = made_new (shards_of pool) (acts_in (asked_by t.did.serves.dialogues)) (own_at t.old.services.admin.seat) (own_at admin_now) t.did.serves.asked t.is_new.admin_is.0 i below

    abbrev pub trace : ServerTrace
    trace = record {
      histories = logs;
      receiver_traces = receiver_traces_of see.source see.wire says pool desk asked xs ys all;
      line_traces = line_traces_of says pool desk asked line_old line_now t.result.ends.line_reader stream_door stream_door_now t.did.lines;
      ticked = t.flushes.rounds;
      last = t.last.round;
      outlet_traces = t.flushes.outlet_traces;
      visits = t.did.serves.visits;
      dialogues = t.did.serves.dialogues;
      failures = t.did.serves.failures;
      flusher_ended = end_of t.result.ends.flusher.ended;
      keeper_ended = door_end_of t.result.ends.keeper;
      desk = t.result.desk;
      calls = t.closed.history.log;
    }

    -- as many bring samples as submit them
    bringers : length prefix ≡ length (brought_in trace)
    bringers =
        let receiver_traces = receiver_traces_count see.source see.wire says pool desk asked xs ys all in
        let line_traces = line_traces_count says pool desk asked line_old line_now t.result.ends.line_reader stream_door stream_door_now t.did.lines in
        let seats = length-append (map seat_in ys) (line_seats line_now) in
        let brought = length-append (map brought_by trace.receiver_traces) (map brought_in_lines trace.line_traces) in
        let posts = length-map ys seat_in in
        let line = length-map (option_to_list line_now) (λ (p : LinePost). p.seat) in
        let by_posts = length-map trace.receiver_traces brought_by in
        let by_line = length-map trace.line_traces brought_in_lines in
        omega (arith, receiver_traces, line_traces, seats, brought, posts, line, by_posts, by_line)

    ran : (i : ℕ) → i < shards_of pool → Ran (limits_of pool) (policy_of pool) (shards_of pool) (brought_in trace) rounds (asked_by t.did.serves.dialogues) i (logs i)
    ran i below =
        ran_by_callers (limits_of pool) (policy_of pool) (shards_of pool) i (brought_in trace) rounds (asked_by t.did.serves.dialogues) (map (λ (s : Seat). own_at s i) prefix) (logs i)
        (length-map prefix (λ (s : Seat). own_at s i) ∙ bringers)
        (λ r inside. all_asked see.source see.wire says pool desk asked (line_seats line_now) (map brought_in_lines trace.line_traces) i below
        (λ k under. line_asked says pool desk asked line_old line_now t.result.ends.line_reader stream_door stream_door_now t.did.lines t.is_new.line_is i below k under) xs ys all t.is_new.posts_are r inside)
        t.did.serves.commands
        (subst (λ c. JoinsAs (limits_of pool) (policy_of pool) (map (λ (s : Seat). own_at s i) prefix) (swaps_at rounds i) c (logs i)) (commands i below)
        (subst (λ s. JoinsAs (limits_of pool) (policy_of pool) (map (λ (s : Seat). own_at s i) prefix) s (own_at admin_now i) (logs i)) (swaps i below) (joins i below)))

    -- those who submit samples alone drop any
    prefix_drop : (i : ℕ) → i < shards_of pool → sum_by (λ (s : Seat). summed_by dropped_in (own_at s i)) prefix ≡ summed_by dropped_in (logs i)
    prefix_drop i below =
        let f : Seat → ℕ = λ s. summed_by dropped_in (own_at s i) in
        let all = drops_at i below in
        let both = sum_by-append f prefix (t.post.seat ∷ admin_now ∷ []) in
        let first = sum_by-cons f t.post.seat (admin_now ∷ []) in
        let second = sum_by-cons f admin_now [] in
        let none : summed_by dropped_in (own_at t.post.seat i) ≡ 0 = ap (summed_by dropped_in) (swaps i below) ∙ swaps_drop_nothing rounds i in
        let join = joins i below in
        let events : events_by administrator (logs i) ≡ events_in (asked_by t.did.serves.dialogues) =
        ap events_of (join.commanded ∙ commands i below) ∙ events_of_acts (asked_by t.did.serves.dialogues) i in
        let nothing : summed_by dropped_in (own_at admin_now i) ≡ 0 =
        ap (summed_by dropped_in) (sym join.commanded) ∙ no_drops (limits_of pool) (policy_of pool) empty_state administrator (logs i) join.legal (subst AreCommands (sym events) t.did.serves.commands) in
        omega (arith, all, both, first, second, none, nothing)

    abbrev drops : ℕ
    drops = sum_by (drops_of see.source see.wire says pool desk asked) (map seat_in ys)

    abbrev lines_read : ℕ
    lines_read = line_drops says pool desk asked line_now

    all_drops : drops + lines_read ≡ summed_in dropped_in (shards_of pool) logs
    all_drops =
        sym (sum_by-append (λ (s : Seat). summed_in dropped_in (shards_of pool) (own_at s)) (map seat_in ys) (line_seats line_now))
        ∙ sum_by-across (λ (s : Seat) i. summed_by dropped_in (own_at s i)) prefix (range_with_len 0 (shards_of pool))
        ∙ sum_by-range (λ i. sum_by (λ (s : Seat). summed_by dropped_in (own_at s i)) prefix) (λ i. summed_by dropped_in (logs i)) 0 (shards_of pool) (λ i below. prefix_drop i (omega (arith, below)))

    -- what the desk's callers have seen
    abbrev Sees : DeskSeat → Type 0
    Sees o = (c : Count) → (part_of o).seen c ≤ number_of t.result.desk c

    sees : AllByRecursion Sees owns
    sees = recursion_from_All Sees owns t.closed.seen

    prefix_sees : AllByRecursion Sees prefix_owns
    prefix_sees = AllByRecursion-prefix Sees prefix_owns (t.post.own ∷ admin_own ∷ []) sees

    line_sees : AllByRecursion Sees (line_owns line_now)
    line_sees = AllByRecursion-back Sees (map own_in ys) (line_owns line_now) prefix_sees

    last_sees : AllByRecursion Sees (t.post.own ∷ admin_own ∷ [])
    last_sees = AllByRecursion-back Sees prefix_owns (t.post.own ∷ admin_own ∷ []) sees

    counted : (c : Count) → number_of t.result.desk c ≡ min (counts_of (shards_of pool) trace c) last_number
    counted c =
        let f : DeskSeat → ℕ = λ o. share (part_of o) c in
        let sums = t.closed.sums c in
        let both = sum_by-append f prefix_owns (t.post.own ∷ admin_own ∷ []) in
        let submitted = sum_by-append f (map own_in ys) (line_owns line_now) in
        let first = sum_by-cons f t.post.own (admin_own ∷ []) in
        let second = sum_by-cons f admin_own [] in
        let receivers = all_shares see.source see.wire says pool desk asked xs ys all t.is_new.posts_are c in
        let line = line_shares says pool desk asked line_old line_now t.result.ends.line_reader stream_door stream_door_now t.did.lines t.is_new.line_is c in
        let by_flusher = rounds_counted.adds c in
        let by_keeper = t.did.serves.keeps.counted.adds c in
        let no_part = no_share (part_of t.old.services.flusher.own) t.is_new.flusher_is.1 c in
        let no_admin = no_share (part_of t.old.services.admin.own) t.is_new.admin_is.1 c in
        let whole = counts_add_up form trace drops lines_read all_drops c in
        omega (arith, sums, both, submitted, first, second, receivers, line, by_flusher, by_keeper, no_part, no_admin, whole)

    all_counted : numbers_in t.result.desk ≡ map (λ n. min n last_number) (counts_in (shards_of pool) trace)
    all_counted =
        numbers_by_name t.result.desk ∙ ap (λ (amounts : Amounts). map amounts counts) (fun_ext counted)
        ∙ ap (map (λ n. min n last_number)) (sym (counts_are (shards_of pool) trace))

    balanced : IsBalanced t.result.desk
    balanced =
        let conserved = t.closed.conserved in
        record {
          packets = λ few. let a = t.closed.sums TotalPackets in let b = t.closed.sums TakenPackets in let w = conserved.packets (omega (arith, a, few)) in omega (arith, a, b, w);
          lines = λ few. let a = t.closed.sums TotalLines in let b = t.closed.sums TakenLines in let w = conserved.lines (omega (arith, a, few)) in omega (arith, a, b, w);
          bad = λ few. let a = t.closed.sums TotalBad in let b = t.closed.sums TakenBad in let w = conserved.bad (omega (arith, a, few)) in omega (arith, a, b, w);
          dropped = λ few. let a = t.closed.sums TotalDropped in let b = t.closed.sums TakenDropped in let w = conserved.dropped (omega (arith, a, few)) in omega (arith, a, b, w);
        }

    -- the desk's one history
    desk_owns : AllByRecursion (Owns t.closed.history.log) owns
    desk_owns = recursion_from_All (Owns t.closed.history.log) owns t.closed.history.own

    rounds_called : (part_of t.post.own).own ≡ flat_map round_calls rounds
    rounds_called =
        round_called (part_of t.old.services.flusher.own) (part_of t.new.services.flusher.own) (part_of t.post.own) t.flushes.rounds t.last.round t.flushes.called t.last.made.called
        ∙ ap (λ (l : List DeskCall). l ++ flat_map round_calls rounds) t.is_new.flusher_is.1

    owns_long : length prefix_owns ≡ length (brought_in trace)
    owns_long =
        let seats = length-append (map seat_in ys) (line_seats line_now) in
        let desk_seats = length-append (map own_in ys) (line_owns line_now) in
        let one = length-map ys seat_in in
        let two = length-map ys own_in in
        let three = length-map (option_to_list line_now) (λ (p : LinePost). p.seat) in
        let four = length-map (option_to_list line_now) (λ (p : LinePost). p.own) in
        let brought = bringers in
        omega (arith, seats, desk_seats, one, two, three, four, brought)

    numbers_are : map number_of_seat owns ≡ span 0 (length owns)
    numbers_are = t.crew.numbers ∙ ap (span 0) (sym (counted_by number_of_seat owns (seats_of desk) t.crew.numbers))

    receivers_long : length (map own_in ys) ≡ length trace.receiver_traces
    receivers_long = length-map ys own_in ∙ sym (receiver_traces_count see.source see.wire says pool desk asked xs ys all)

    behind_receivers : owns ≡ map own_in ys ++ (line_owns line_now ++ t.post.own ∷ admin_own ∷ [])
    behind_receivers = append_assoc (map own_in ys) (line_owns line_now) (t.post.own ∷ admin_own ∷ [])

    one_desk : HasOneDesk says trace
    one_desk =
        let log = t.closed.history.log in
        let last = AllByRecursion-back (Owns log) prefix_owns (t.post.own ∷ admin_own ∷ []) desk_owns in
        let two = last_two prefix_owns t.post.own admin_own log numbers_are last.0 last.1.0 in
        let by_order = subst (AllByRecursion (Owns log)) behind_receivers desk_owns in
        let numbers = subst (λ (l : List DeskSeat). map number_of_seat l ≡ span 0 (length l)) behind_receivers numbers_are in
        record {
          legal = subst (λ (n : ℕ). IsDeskHistory n log) (sym t.closed.start) t.closed.history.legal;
          left = t.closed.history.left ∙ ap (λ (n : ℕ). desk_after n log) (sym t.closed.start);
          received = λ r x is.
              subst (λ (n : ℕ). CountsDatagrams says x.read (calls_by n log)) (let same : 0 + r ≡ r = omega arith in same)
              (received_so see.source see.wire says pool desk asked log 0 (line_owns line_now ++ t.post.own ∷ admin_own ∷ []) xs ys all t.is_new.posts_are by_order numbers r x is);
          lines_read = subst (λ (n : ℕ). (l : ℕ) (x : LineTrace) → slice_get trace.line_traces l ≡ Some x → CountsReads says (reads_in x.streams) (calls_by (n + l) log)) receivers_long
              (lines_read_so says pool desk asked log (length (map own_in ys)) (t.post.own ∷ admin_own ∷ []) line_old line_now t.result.ends.line_reader stream_door stream_door_now t.did.lines t.is_new.line_is
              (AllByRecursion-back (Owns log) (map own_in ys) (line_owns line_now ++ t.post.own ∷ admin_own ∷ []) by_order) (numbers_of_line (map own_in ys) (line_owns line_now) (t.post.own ∷ admin_own ∷ []) numbers));
          flushed = ap (λ (n : ℕ). calls_by n log) (sym owns_long) ∙ two.0 ∙ rounds_called;
          kept = subst (λ (n : ℕ). Among IsKeeperCall (called_in trace.dialogues) (calls_by (n + 1) log)) owns_long
              (subst (Among IsKeeperCall (called_in trace.dialogues)) (sym two.1) (called_since (Among IsKeeperCall (called_in trace.dialogues)) (part_of t.old.services.admin.own) (part_of admin_own) t.is_new.admin_is.1 t.did.serves.called));
          others = λ who past. nobody_else owns log numbers_are t.closed.history.whose who
              (let all = length-append prefix_owns (t.post.own ∷ admin_own ∷ []) in let long = owns_long in omega (arith, all, long, past));
        }

    abbrev before : Objects
    before = objects_of see.source see.wire see.beat see.back see.door see.streams t.packets t.wires t.old.objects.beat.now t.old.objects.backs.now t.old.objects.door.now t.old.objects.streams.now

    abbrev behind : Objects
    behind = objects_of see.source see.wire see.beat see.back see.door see.streams t.packets_now t.wires_now t.new.objects.beat.now t.backs t.new.objects.door.now t.new.objects.streams.now

    received : AreReceiverTraces asked t.result.desk.facts.rounds sizing.wires trace.receiver_traces before.sources behind.sources before.wires behind.wires
    received =
        subst (λ (l : List D × List D × List L × List L). AreReceiverTraces asked t.result.desk.facts.rounds sizing.wires trace.receiver_traces (map see.source l.0) (map see.source l.1) (map see.wire l.2) (map see.wire l.3))
        (λ i. (sym t.packets_are i, sym t.packets_left i, sym t.wires_are i, sym t.wires_left i))
        (all_receiver_traces see.source see.wire says pool desk asked t.result.desk.facts.rounds sizing.wires t.more t.rest xs ys all
        (each_of Sees (λ o. (part_of o).seen RoundsMade ≤ t.result.desk.facts.rounds) (map own_in ys) (AllByRecursion-prefix Sees (map own_in ys) (line_owns line_now) prefix_sees) (λ o h. h RoundsMade)) t.fitted)

    is_run : IsRun (run_settings_by t.old.objects.backs.now) says trace before behind
    is_run = record {
      ran = ran;
      count = receiver_traces_count see.source see.wire says pool desk asked xs ys all ∙ t.did.len ∙ t.count;
      received = received;
      flushed = record {
        given = t.flushes.given;
        turns = t.flushes.turns;
        same = t.flushes.same;
        ends = flusher_as asked t.result.ends.flusher.ended (see.beat t.old.objects.beat.now) (see.beat t.new.objects.beat.now) (length t.flushes.rounds) t.flushes.ends;
      };
      last = (t.reported_so.0, t.reported_so.1, t.last.second ∙ t.reported_so.2 ∙ ap (λ (o : Option ℕ). option_map_or (λ second. max second t.reported_so.0) o t.reported_so.0) t.flushes.last);
      used = t.flushes.fits;
      used_last = λ b. subst (λ (u : Bool). FitsUse u (at_backend t.last.round.marks b)) (t.did.same_use b) (t.last.made.given.used b);
      through_outlets = t.flushes.through_outlets;
      delivered = delivered;
      visited = t.did.serves.keeps.served;
      went = t.did.serves.went;
      kept = record {
        turned = t.did.keeper.turns;
        turns = t.did.keeper.turned;
        seen = (part_of admin_own).seen RoundsMade;
        known = last_sees.1.0 RoundsMade;
        ends = keeper_as asked t.result.ends.keeper (see.door t.new.objects.door.now) (part_of admin_own) t.did.keeper.turns t.did.keeper.ends;
      };
      lines_read = is_line_trace says pool desk asked t.result.desk.facts.rounds sizing.streams line_old line_now t.result.ends.line_reader stream_door stream_door_now t.did.lines t.keepers (each_of Sees (λ o. (part_of o).seen RoundsMade ≤ t.result.desk.facts.rounds) (line_owns line_now) line_sees (λ o h. h RoundsMade));
      started = subst says (sym t.closed.start) t.start;
      counted = all_counted;
      balanced = balanced;
      called = one_desk;
    }

    pub served : IsPoolFor sizing pool → map end_of t.result.received.items ≡ map end_of (map ended_in ys)
        → HasServed (run_settings_in sizing plan names settings t.old.objects.backs.now asked) says before behind t.result
    served pool_is ended =
        subst (λ run_settings. HasServed run_settings says before behind t.result)
        (λ i. record {
          limits = pool_is.limits i;
          policy = pool_is.policy i;
          form = record { shards = pool_is.shards i; plan = plan_view plan; names = names };
          uses = uses t.old.objects.backs.now;
          outlets = outlets_of sizing;
          settings = settings;
          receivers = sizing.receivers;
          wires = sizing.wires;
          streams = sizing.streams;
          run_flushes = asked;
        })
        (record {
          trace = trace;
          theorem = run_accounted (run_settings_by t.old.objects.backs.now) says trace before behind is_run;
          received = ended ∙ receiver_traces_ended see.source see.wire says pool desk asked xs ys all;
          flusher = refl;
          keeper = refl;
          line_reader = line_traces_ended says pool desk asked line_old line_now t.result.ends.line_reader stream_door stream_door_now t.did.lines;
          outlets = t.flushes.has;
          outs = t.flushes.are_counted;
          desk = refl;
          shards = t.closed.shards;
          books = numbers;
        })
