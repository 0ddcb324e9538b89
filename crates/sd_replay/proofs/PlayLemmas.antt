-- A replay so far, and one record more.
use Rattle.std.proofs.Math.Nat.{mod-lt}
use Rattle.std.proofs.lemmas.Bool.{cases_lt, eqb-true}
use Rattle.std.specs.FinMap.{empty, get, get-empty, same_map}
use Rattle.std.specs.List.{range_with_len, AllByRecursion}
use Rattle.std.proofs.Common.{◌≡◌, ◌≢◌, inl, inr, ℕ, Bool, true, false, cond, ◌+◌, ◌<◌, ◌≤◌, ◌^◌, min, eqb, List, [], ◌∷◌, ◌++◌, length, map, refl, sym, ap, subst, ◌∙◌, append-nil, length-append, arith}
use Rattle.std.specs.Prelude.{sum_by, Option, Some, None, option_and_then}
use Rattle.std.proofs.lemmas.List.{map-append}
use Rattle.sd_model_text.specs.Lines.{Sample, samples_of}
use Rattle.sd_model_outside.specs.Outside.{Content, Object, Reads, Used, Rose, HasFailedBehind, given, last_count, put_back, telling}
use Rattle.sd_outside.specs.Turns.{FitsLastCount}
use Rattle.sd_model_outside.specs.Uses.{FitsUse, AfterMark, AfterDeliveries, AreRepeated, failures}
use Rattle.sd_model_outside.proofs.OutsideLemmas.{Reads-append, put_back-append}
use Rattle.sd_outside.proofs.NothingWritten.{appended-nil}
use Rattle.sd_model_outside.proofs.WriteLemmas.{given-given}
use Rattle.sd_model_shard.specs.Shard.{State, empty_state, Policy, Submit, after_swap, kept_rows, left_of, table_of}
use Rattle.sd_model_shard.specs.Rows.{Rows, Kept, row_cmp}
use Rattle.sd_model_shard.proofs.RowLemmas.{rows_total, rows_exact}
use Rattle.sd_model_shard.proofs.SummaryLemmas.{get-kept_rows}
use Rattle.sd_model_shard.specs.History.{after_all, answered, part_of, dropped_in}
use Rattle.sd_model_record.specs.Desk.{Desk, Marks, new_desk}
use Rattle.sd_model_record.specs.Record.{Record, record_of}
use Rattle.sd_model_record.specs.Admin as admin
use Rattle.sd_command.proofs.CommandLemmas.{idle_line, state_past}
use Rattle.sd_model_settings.specs.Settings.{Settings, plan_of, names_of}
use Rattle.sd_model_replay.specs.Replay.{Bounds, bounds_of, is_used, targets_of, Played, IsOutcome, no_marks, home_of, replies_to, states_after, moment_of, desk_after_line, Run, first_run, form_of, play, run_of, deliveries}
use Rattle.sd_model_outside.specs.Backend.{Backend, at_backend}
use Rattle.sd_model_record.specs.Backends.{text_of}
use Rattle.sd_model_replay.specs.Script.{ScriptCommand, Packet, Flush, Admin, end_word, spelled, script_text, IsLegal, ScriptFlaw, Faulty, Begins, IsUndecided}
use Rattle.sd_model_serve.specs.Rounds.{Round, round_text}
use Rattle.sd_model_replay.specs.AccountingTheorem.{output_in, output_of, summed, totals_after, Seen, ReplayTrace, AccountingTheorem, Complete, Faulted, ReadFailed, WriteFailed, LimitReached}
use Rattle.sd_model_record.specs.Totals.{Total, totals_of, totals_text}
use Rattle.sd_replay.specs.Replayed.{Replayed}
use Rattle.sd_law_record.proofs.AccountingLemmas.{are_accounted}
use Rattle.sd_model_replay.proofs.HistoryLemmas.{arrivals-history_at, state-history_at}
use Rattle.sd_model_outside.proofs.DeliveryLemmas.{AfterDeliveries-push}
use Rattle.sd_model_record.proofs.WireLemmas.{AreRepeated-next, AreRepeated-none}
use Rattle.sd_model_replay.proofs.ReplayLemmas.{run_before, run_of-push, output_of-push, deliveries-push, delivery_of, sendings-push, script_text-end, AllByRecursion-push}
use Rattle.sd_shards.specs.Shards.{Group, AreAlike, group_bounds, numbers, state_at}
use Rattle.sd_replay.specs.Totals.{totals_of_group}
use Rattle.sd_model_replay.proofs.Short.{text_length, packet_tally, sendings}
use Rattle.sd_model_record.proofs.Short.{with_round}
use Rattle.sd_desk.specs.Steps.{with_tally, with_repeater_faults}

-- the records that were executed
abbrev commands_of : List Played → List ScriptCommand
commands_of played = map (λ p. p.command) played

-- what a replay has done since it began
pub record Progress (settings : Settings) (script left : Content) (old new : Backend → Object) (had has : List Object) (states : ℕ → State) (desk : Desk) (at turn : ℕ) : Type 0 where
  pub played : List Played
  pub read : Reads script (script_text (commands_of played)) left
  pub legal : AllByRecursion (λ p. IsLegal settings.sizes.receivers p.command) played
  pub used : AllByRecursion (λ p. IsOutcome settings p.command p.outcome) played
  pub texts : (back : Backend) → AfterDeliveries (deliveries settings back played) (old back) (new back)
  pub sends : AreRepeated (sendings played) had has
  pub same_states : states ≡ (run_of (bounds_of settings) (first_run played) played).shards
  pub same_desk : desk ≡ (run_of (bounds_of settings) (first_run played) played).desk
  pub same_place : at ≡ text_length played
  pub turns : length played ≡ turn

-- nothing was done yet
unfoldable pub nothing_played : (settings : Settings) (script left : Content) (backs : Backend → Object) (wires : List Object) (states : ℕ → State) (desk : Desk) (at : ℕ) → Reads script [] left → states ≡ (first_run []).shards → desk ≡ (first_run []).desk → at ≡ 0
    → Progress settings script left backs backs wires wires states desk at 0
nothing_played settings script left backs wires states desk at r s d a = record {
  played = [];
  read = r;
  legal = tt;
  used = tt;
  texts = λ back. refl;
  sends = AreRepeated-none wires;
  same_states = s;
  same_desk = d;
  same_place = a;
  turns = refl;
}

-- an object that was given nothing
pub given-nil : (o : Object) → FitsLastCount o.content → given [] o ≡ o
given-nil o fits = ap (λ content. telling content o) (appended-nil o.content fits)

-- shards that go by the settings
abbrev pub GoBy : Settings → Group → Type 0
GoBy settings group = group_bounds group ≡ bounds_of settings

-- so they are as many as these say
pub count_by : (settings : Settings) (group : Group) → GoBy settings group → length group.states ≡ settings.sizes.shards
count_by settings group by = ap (λ (b : Bounds). b.shards) by

pub still_go : (settings : Settings) (old new : Group) → GoBy settings old → AreAlike old new → GoBy settings new
still_go settings old new by alike =
    let same : group_bounds new ≡ group_bounds old = λ k. record { shards = alike.count k; limits = alike.limits k; policy = alike.policy k } in same ∙ by

none_there : (f : Kept → Option Kept) (found : Option Kept) → found ≡ None → option_and_then f found ≡ found
none_there f None none = refl
none_there f (Some kept) none = absurd (cc)

-- a swap leaves an empty shard as it is
idle_swap : (policy : Policy) → after_swap policy empty_state ≡ empty_state
idle_swap policy =
    ap (λ (live : Rows). record empty_state { live = live })
    (same_map rows_total rows_exact (kept_rows policy empty) empty (λ q. get-kept_rows policy empty q ∙ none_there (left_of policy q) (get empty q) (get-empty row_cmp q)))

-- What a record does to shards. Beyond the last of them it does nothing.
module _ (bounds : Bounds) (some : 0 < bounds.shards) where
  not_there : (i : ℕ) (s : Sample) (b : Bool) → eqb i (home_of bounds.shards s) ≡ b → bounds.shards ≤ i → b ≡ false
  not_there i s false is past = refl
  not_there i s true is past =
      let same : i ≡ home_of bounds.shards s = eqb-true i (home_of bounds.shards s) is in let below : home_of bounds.shards s < bounds.shards = mod-lt _ some in absurd (omega (arith, same, below, past))

  none_of : (i : ℕ) (samples : List Sample) → bounds.shards ≤ i → part_of (home_of bounds.shards) i samples ≡ []
  none_of i [] past = refl
  none_of i (s ∷ samples) past = kept (eqb i (home_of bounds.shards s)) (not_there i s (eqb i (home_of bounds.shards s)) refl past) (none_of i samples past) where
    kept : (b : Bool) → b ≡ false → part_of (home_of bounds.shards) i samples ≡ [] → cond b (s ∷ part_of (home_of bounds.shards) i samples) (part_of (home_of bounds.shards) i samples) ≡ []
    kept true is h = absurd (cc)
    kept false is h = h

  -- a shard's state after what a record asks of it
  abbrev asked_by : ScriptCommand → ℕ → State → State
  asked_by c i state = states_after bounds (λ j. state) c i

  idle : (c : ScriptCommand) (i : ℕ) → bounds.shards ≤ i → asked_by c i empty_state ≡ empty_state
  idle (Packet who moment datagram) i past =
      ap (λ (samples : List Sample). after_all bounds.limits bounds.policy empty_state (answered bounds.limits bounds.policy empty_state (map (λ s. record { who = who; event = Submit s }) samples))) (none_of i (samples_of datagram) past)
  idle (Flush ts) i past = idle_swap bounds.policy
  idle (Admin moment line) i past = idle_line bounds (admin.command line)

  -- the states after a record, by those of the shards that there are
  pub stepped : (run : Run) (p : Played) (old new : Group) → length old.states ≡ bounds.shards → length new.states ≡ length old.states → state_at old ≡ run.shards
      → ((i : ℕ) → i < bounds.shards → state_at new i ≡ states_after bounds (state_at old) p.command i) → state_at new ≡ (play bounds run p).shards
  stepped run p old new count alike same each = λ t i. at i t where
    at : (i : ℕ) → state_at new i ≡ (play bounds run p).shards i
    at i = elim (cases_lt i bounds.shards) [
      | inl below ↦ each i below ∙ ap (λ (states : ℕ → State). states_after bounds states p.command i) same
      | inr past ↦ state_past new i (omega (arith, past, count, alike)) ∙ sym (idle p.command i past)
          ∙ ap (asked_by p.command i) (sym (state_past old i (omega (arith, past, count)))) ∙ ap (λ (states : ℕ → State). states_after bounds states p.command i) same
    ]

longer : (commands : List ScriptCommand) (c : ScriptCommand) (at : ℕ) → at ≡ min (length (script_text commands)) last_count → min (at + length (spelled c)) last_count ≡ min (length (script_text (commands ++ c ∷ []))) last_count
longer commands c at e =
    let whole = ap length (script_text-end commands c) in
    omega (arith, e, whole, length-append (script_text commands) (spelled c))

-- an admin line, as it is executed
abbrev pub line_played : ℕ → List ℕ → Played
line_played moment line = record { command = Admin moment line; outcome = record { marks = no_marks; failed = [] } }

-- where records stand before a record, it tells no start
same_shards : (settings : Settings) (played : List Played) (p : Played) → (run_of (bounds_of settings) (first_run played) played).shards ≡ (run_before (bounds_of settings) played p).shards
same_shards settings [] p = refl
same_shards settings (q ∷ played) p = refl

-- a record that replies nothing writes nothing
pub quiet : (settings : Settings) (played : List Played) (p : Played) → output_in settings (run_before (bounds_of settings) played p) p.command ≡ [] → output_of settings (played ++ p ∷ []) ≡ output_of settings played
quiet settings played p none = output_of-push settings played p ∙ ap (λ text. output_of settings played ++ text) none ∙ append-nil (output_of settings played)

-- the desk before a record that stands next, which begins anew at the first
pub desk_before : (settings : Settings) (played : List Played) (p : Played) (desk begun : Desk) → desk ≡ (run_of (bounds_of settings) (first_run played) played).desk → (length played ≡ 0 → begun ≡ new_desk (moment_of p.command)) → (length played ≢ 0 → begun ≡ desk) → begun ≡ (run_before (bounds_of settings) played p).desk
desk_before settings [] p desk begun same first later = first refl
desk_before settings (q ∷ played) p desk begun same first later = later (λ none. absurd (omega (arith, none))) ∙ same

-- and the desk where the end stands next
pub desk_at_end : (settings : Settings) (played : List Played) (desk begun : Desk) → desk ≡ (run_of (bounds_of settings) (first_run played) played).desk → (length played ≡ 0 → begun ≡ new_desk 0) → (length played ≢ 0 → begun ≡ desk) → begun ≡ (run_of (bounds_of settings) (first_run played) played).desk
desk_at_end settings [] desk begun same first later = first refl
desk_at_end settings (q ∷ played) desk begun same first later = later (λ none. absurd (omega (arith, none))) ∙ same

-- One record more. The desk is the one before it.
module _ (settings : Settings) (some : 0 < settings.sizes.shards) (script left left' : Content) (old new new' : Backend → Object) (had has has' : List Object) (group group' : Group) (desk begun desk' : Desk) (at at' turn : ℕ)
    (so_far : Progress settings script left old new had has (state_at group) desk at turn) (by : GoBy settings group) (alike : AreAlike group group') where
  -- what was done with it, whose records are those so far and it
  abbrev pub More : Played → Type 0
  More p = (progress : Progress settings script left' old new' had has' (state_at group') desk' at' (turn + 1)) × (progress.played ≡ so_far.played ++ p ∷ [])

  abbrev pub before : Played → Run
  before p = run_before (bounds_of settings) so_far.played p

  -- the shards before it
  states_before : (p : Played) → state_at group ≡ (before p).shards
  states_before p = so_far.same_states ∙ same_shards settings so_far.played p

  -- whose text was read, and which left what it leaves
  one_more : (p : Played) → Reads left (spelled p.command) left' → IsLegal settings.sizes.receivers p.command → IsOutcome settings p.command p.outcome
      → ((back : Backend) → AfterDeliveries (deliveries settings back (so_far.played ++ p ∷ [])) (old back) (new' back))
      → AreRepeated (sendings (so_far.played ++ p ∷ [])) had has'
      → ((i : ℕ) → i < settings.sizes.shards → state_at group' i ≡ states_after (bounds_of settings) (state_at group) p.command i) → desk' ≡ (play (bounds_of settings) (before p) p).desk
      → at' ≡ min (at + length (spelled p.command)) last_count → More p
  one_more p text legal used after sent each d a =
      let ps = so_far.played in
      let commands : commands_of (ps ++ p ∷ []) ≡ commands_of ps ++ p.command ∷ [] = map-append (λ (q : Played). q.command) ps (p ∷ []) in (
        record {
          played = ps ++ p ∷ [];
          read = so_far.read ∙ ap (put_back (script_text (commands_of ps))) text ∙ put_back-append (script_text (commands_of ps)) (spelled p.command) left'
              ∙ ap (λ (bytes : List ℕ). put_back bytes left') (sym (script_text-end (commands_of ps) p.command))
              ∙ ap (λ cs. put_back (script_text cs) left') (sym commands);
          legal = AllByRecursion-push (λ (q : Played). IsLegal settings.sizes.receivers q.command) ps p so_far.legal legal;
          used = AllByRecursion-push (λ (q : Played). IsOutcome settings q.command q.outcome) ps p so_far.used used;
          texts = after;
          sends = sent;
          same_states = stepped (bounds_of settings) some (before p) p group group' (count_by settings group by) alike.count (states_before p) each ∙ ap (λ (r : Run). r.shards) (sym (run_of-push (bounds_of settings) ps p));
          same_desk = d ∙ ap (λ (r : Run). r.desk) (sym (run_of-push (bounds_of settings) ps p));
          same_place = a ∙ longer (commands_of ps) p.command at so_far.same_place ∙ ap (λ cs. min (length (script_text cs)) last_count) (sym commands);
          turns = omega (arith, so_far.turns, length-append ps (p ∷ []));
        },
        refl,
      )

  -- a record that is no flush gives the backends nothing
  no_delivery : (p : Played) → ((back : Backend) → deliveries settings back (so_far.played ++ p ∷ []) ≡ deliveries settings back so_far.played) → new' ≡ new
      → (back : Backend) → AfterDeliveries (deliveries settings back (so_far.played ++ p ∷ [])) (old back) (new' back)
  no_delivery p same kept back =
      subst (λ ds. AfterDeliveries ds (old back) (new' back)) (sym (same back))
      (subst (λ (f : Backend → Object). AfterDeliveries (deliveries settings back so_far.played) (old back) (f back)) (sym kept) (so_far.texts back))

  -- and one that is no packet is sent on no wire
  no_sending : (p : Played) → sendings (so_far.played ++ p ∷ []) ≡ sendings so_far.played → has' ≡ has → AreRepeated (sendings (so_far.played ++ p ∷ [])) had has'
  no_sending p same kept = subst (λ ss. AreRepeated ss had has') (sym same) (subst (λ ws. AreRepeated (sendings so_far.played) had ws) (sym kept) so_far.sends)

  -- a packet more: it is sent on, its samples are filed, and it is counted
  pub packet_more : (who moment : ℕ) (datagram : List ℕ) (failed : List Bool) → Reads left (spelled (Packet who moment datagram)) left' → IsLegal settings.sizes.receivers (Packet who moment datagram)
      → begun ≡ (before (record { command = Packet who moment datagram; outcome = record { marks = no_marks; failed = failed } })).desk
      → length failed ≡ length (targets_of settings) → AreRepeated (record { packet = datagram; failed = failed } ∷ []) has has'
      → ((i : ℕ) → i < length group.states → state_at group' i ≡ states_after (group_bounds group) (state_at group) (Packet who moment datagram) i)
      → desk' ≡ with_repeater_faults (with_tally begun (packet_tally datagram (sum_by dropped_in (replies_to (group_bounds group) (state_at group) (Packet who moment datagram)))) moment) (failures failed)
      → at' ≡ min (at + length (spelled (Packet who moment datagram))) last_count → new' ≡ new
      → More (record { command = Packet who moment datagram; outcome = record { marks = no_marks; failed = failed } })
  packet_more who moment datagram failed text legal same_desk count sent each d a kept =
      let p : Played = record { command = Packet who moment datagram; outcome = record { marks = no_marks; failed = failed } } in
      let dropped : Bounds → (ℕ → State) → ℕ = λ b states. sum_by dropped_in (replies_to b states p.command) in
      let counted_by : Desk → ℕ → Desk = λ e n. with_repeater_faults (with_tally e (packet_tally datagram n) moment) (failures failed) in
      one_more p text legal (refl, count)
      (no_delivery p (λ back. deliveries-push settings back so_far.played p ∙ append-nil (deliveries settings back so_far.played)) kept)
      (subst (λ ss. AreRepeated ss had has') (sym (sendings-push so_far.played p)) (AreRepeated-next (sendings so_far.played) (record { packet = datagram; failed = failed } ∷ []) had has has' so_far.sends sent))
      (λ i below. each i (omega (arith, below, count_by settings group by)) ∙ ap (λ b. states_after b (state_at group) p.command i) by)
      (d ∙ ap (λ b. counted_by begun (dropped b (state_at group))) by ∙ ap (λ states. counted_by begun (dropped (bounds_of settings) states)) (states_before p)
      ∙ ap (λ e. counted_by e (dropped (bounds_of settings) (before p).shards)) same_desk)
      a

  -- a flush more: the shards are swapped, the tally is taken, and each backend was given the text, as its mark says
  pub flush_more : (ts : ℕ) (marks : Marks) → Reads left (spelled (Flush ts)) left' → IsLegal settings.sizes.receivers (Flush ts)
      → begun ≡ (before (record { command = Flush ts; outcome = record { marks = marks; failed = [] } })).desk
      → ((back : Backend) → FitsUse (is_used settings back) (at_backend marks back))
      → ((back : Backend) → AfterMark (at_backend marks back) (text_of (names_of settings) back (record_of (plan_of settings) (map (λ i. table_of (state_at group i)) (numbers group)) begun.tally ts)) (new back) (new' back))
      → ((i : ℕ) → i < length group.states → state_at group' i ≡ after_swap group.policy (state_at group i)) → desk' ≡ with_round begun marks
      → at' ≡ min (at + length (spelled (Flush ts))) last_count → has' ≡ has → More (record { command = Flush ts; outcome = record { marks = marks; failed = [] } })
  flush_more ts marks text legal same_desk uses after each d a kept =
      let p : Played = record { command = Flush ts; outcome = record { marks = marks; failed = [] } } in
      let run = before p in
      let r : Round = record { ts = ts; tally = run.desk.tally; tables = λ i. table_of (run.shards i); marks = marks } in
      let record_in : ℕ → (ℕ → State) → Desk → Record = λ n states e. record_of (plan_of settings) (map (λ i. table_of (states i)) (range_with_len 0 n)) e.tally ts in
      let same_record : record_in (length group.states) (state_at group) begun ≡ record_in settings.sizes.shards run.shards run.desk =
      ap (λ n. record_in n (state_at group) begun) (count_by settings group by) ∙ ap (λ states. record_in settings.sizes.shards states begun) (states_before p) ∙ ap (record_in settings.sizes.shards run.shards) same_desk in
      let delivered : (back : Backend) → AfterMark (at_backend marks back) (round_text (form_of settings) back r) (new back) (new' back) =
      λ back. subst (λ x. AfterMark (at_backend marks back) (text_of (names_of settings) back x) (new back) (new' back)) same_record (after back) in
      one_more p text legal (refl, uses)
      (λ back. subst (λ ds. AfterDeliveries ds (old back) (new' back)) (sym (deliveries-push settings back so_far.played p))
      (AfterDeliveries-push (deliveries settings back so_far.played) (delivery_of settings back r) (old back) (new back) (new' back) (so_far.texts back) (delivered back)))
      (no_sending p (sendings-push so_far.played p ∙ append-nil (sendings so_far.played)) kept)
      (λ i below. each i (omega (arith, below, count_by settings group by)) ∙ ap (λ (b : Bounds). after_swap b.policy (state_at group i)) by)
      (d ∙ ap (λ (e : Desk). with_round e marks) same_desk)
      a

  -- an admin line more: its command is executed
  pub line_more : (moment : ℕ) (line : List ℕ) → Reads left (spelled (Admin moment line)) left' → IsLegal settings.sizes.receivers (Admin moment line)
      → begun ≡ (before (line_played moment line)).desk
      → ((i : ℕ) → state_at group' i ≡ states_after (group_bounds group) (state_at group) (Admin moment line) i) → desk' ≡ desk_after_line begun (admin.command line)
      → at' ≡ min (at + length (spelled (Admin moment line))) last_count → new' ≡ new → has' ≡ has → More (line_played moment line)
  line_more moment line text legal same_desk each d a kept_backs kept_wires =
      let p = line_played moment line in
      one_more p text legal (refl, refl)
      (no_delivery p (λ back. deliveries-push settings back so_far.played p ∙ append-nil (deliveries settings back so_far.played)) kept_backs)
      (no_sending p (sendings-push so_far.played p ∙ append-nil (sendings so_far.played)) kept_wires)
      (λ i below. each i ∙ ap (λ b. states_after b (state_at group) (Admin moment line) i) by)
      (d ∙ ap (λ (e : Desk). desk_after_line e (admin.command line)) same_desk)
      a

  -- the text of what is replied to it
  pub line_replied : (moment : ℕ) (line : List ℕ) → begun ≡ (before (line_played moment line)).desk
      → output_in settings (record { shards = state_at group; desk = begun }) (Admin moment line) ≡ output_in settings (before (line_played moment line)) (Admin moment line)
  line_replied moment line same_desk =
      ap (λ (states : ℕ → State). output_in settings (record { shards = states; desk = begun }) (Admin moment line)) (states_before (line_played moment line))
      ∙ ap (λ (e : Desk). output_in settings (record { shards = (before (line_played moment line)).shards; desk = e }) (Admin moment line)) same_desk

-- How a replay ends, where these bytes were read behind what it has executed.
module _ (settings : Settings) (old new : Seen) (left : Content) (group : Group) (desk : Desk) (at turn : ℕ) (had has : Backend → Object) (before : (back : Backend) → had back ≡ old.backs back) (now : (back : Backend) → has back ≡ new.backs back)
    (so_far : Progress settings old.script.content left had has old.wires new.wires (state_at group) desk at turn) (ahead : List ℕ) (behind : Reads left ahead new.script.content) (used : Used old.script new.script) where
  abbrev trace : ReplayTrace
  trace = record { played = so_far.played; ahead = ahead }

  -- what these records write was written
  abbrev HasWritten : List Played → Object → Type 0
  HasWritten played output = output ≡ given (output_of settings played) old.output

  theorem : AccountingTheorem settings trace old new
  theorem = record {
    read = Reads-append old.script.content left new.script.content (script_text (commands_of so_far.played)) ahead so_far.read behind;
    legal = so_far.legal;
    accounted = are_accounted settings so_far.played;
    submitted = λ i below. arrivals-history_at (bounds_of settings) i so_far.played;
    state = λ i below. state-history_at (bounds_of settings) i so_far.played;
    used = so_far.used;
    texts = λ back. subst (λ o. AfterDeliveries (deliveries settings back so_far.played) (old.backs back) o) (now back)
        (subst (λ o. AfterDeliveries (deliveries settings back so_far.played) o (has back)) (before back) (so_far.texts back));
    sends = so_far.sends;
  }

  same_totals : (begun : Desk) → length group.states ≡ settings.sizes.shards → begun ≡ (run_of (bounds_of settings) (first_run so_far.played) so_far.played).desk → totals_of_group group begun ≡ totals_after settings so_far.played
  same_totals begun count same_desk =
      let run = run_of (bounds_of settings) (first_run so_far.played) so_far.played in
      ap (λ n. totals_of (summed n (state_at group)) begun.facts) count
      ∙ ap (λ (states : ℕ → State). totals_of (summed settings.sizes.shards states) begun.facts) so_far.same_states
      ∙ ap (λ (e : Desk). totals_of (summed settings.sizes.shards run.shards) e.facts) same_desk

  -- the script counted no fault
  module _ (script_faults : new.script.faults ≡ old.script.faults) where
    -- the word was read, and these totals were written
    pub completes : length group.states ≡ settings.sizes.shards → (begun : Desk) (totals : List Total) (rest : List ℕ) (output : Object) → begun ≡ (run_of (bounds_of settings) (first_run so_far.played) so_far.played).desk → turn < 2 ^ 62 → ahead ≡ end_word ++ rest → totals ≡ totals_of_group group begun
        → HasWritten so_far.played output → new.output ≡ given (totals_text totals) output → Replayed settings (Complete totals) old new
    completes group_count begun totals rest output same_desk few word counts prefix written = record {
      trace = trace;
      theorem = theorem;
      ends = record {
        read = (omega (arith, few, so_far.turns), (rest, word), counts ∙ same_totals begun group_count same_desk);
        script = used;
        script_faults = script_faults;
        output = written ∙ ap (given (totals_text totals)) prefix ∙ given-given (output_of settings so_far.played) (totals_text totals) old.output;
      };
    }

    -- the word was read, and a write of the totals failed
    pub writes_part : length group.states ≡ settings.sizes.shards → (begun : Desk) (rest : List ℕ) (output : Object) → begun ≡ (run_of (bounds_of settings) (first_run so_far.played) so_far.played).desk → turn < 2 ^ 62 → ahead ≡ end_word ++ rest
        → HasWritten so_far.played output → HasFailedBehind (totals_text (totals_of_group group begun)) output new.output → Replayed settings WriteFailed old new
    writes_part group_count begun rest output same_desk few word prefix failed = record {
      trace = trace;
      theorem = theorem;
      ends = record {
        read = tt;
        script = used;
        script_faults = script_faults;
        output = record {
          before = so_far.played;
          text = totals_text (totals_after settings so_far.played);
          few = omega (arith, few, so_far.turns);
          writing = inl (record { all = refl; ends = (rest, word); totals = refl });
          failed = subst (λ totals. HasFailedBehind (totals_text totals) (given (output_of settings so_far.played) old.output) new.output) (same_totals begun group_count same_desk)
              (subst (λ (o : Object). HasFailedBehind (totals_text (totals_of_group group begun)) o new.output) prefix failed);
        };
      };
    }

    -- a write of a reply to the last record failed
    pub replies_part : (prefix : List Played) (p : Played) (output : Object) → so_far.played ≡ prefix ++ p ∷ [] → length prefix < 2 ^ 62
        → HasWritten prefix output → HasFailedBehind (output_in settings (run_before (bounds_of settings) prefix p) p.command) output new.output → Replayed settings WriteFailed old new
    replies_part prefix p output order few written failed =
        let text = output_in settings (run_before (bounds_of settings) prefix p) p.command in
        record {
          trace = trace;
          theorem = theorem;
          ends = record {
            read = tt;
            script = used;
            script_faults = script_faults;
            output = record {
              before = prefix;
              text = text;
              few = few;
              writing = inr (record { last = p; order = order; replies = ap (λ ps. output_in settings (run_of (bounds_of settings) (first_run ps) prefix) p.command) (sym order) });
              failed = subst (λ (o : Object). HasFailedBehind text o new.output) written failed;
            };
          };
        }

    -- a record with a flaw stands next
    pub finds_flaw : (flaw : ScriptFlaw) (place : ℕ) → place ≡ at → turn < 2 ^ 62 → Begins settings.sizes.receivers (Faulty flaw) ahead new.script.content
        → HasWritten so_far.played new.output → Replayed settings (Faulted place flaw) old new
    finds_flaw flaw place here few begins written = record {
      trace = trace;
      theorem = theorem;
      ends = record {
        read = record { few = omega (arith, few, so_far.turns); begins = begins; place = here ∙ so_far.same_place };
        script = used;
        script_faults = script_faults;
        output = written;
      };
    }

    -- as many records were executed as there may be
    pub wears_out : (turns : ℕ) → turns ≡ 2 ^ 62 → turn ≡ 2 ^ 62 → HasWritten so_far.played new.output → Replayed settings (LimitReached turns) old new
    wears_out turns most full written = record {
      trace = trace;
      theorem = theorem;
      ends = record { read = (most, so_far.turns ∙ full); script = used; script_faults = script_faults; output = written };
    }

  -- a read failed while the bytes at hand didn't decide what stands next
  pub fails_to_read : turn < 2 ^ 62 → IsUndecided settings.sizes.receivers ahead → Rose old.script.faults new.script.faults → HasWritten so_far.played new.output → Replayed settings ReadFailed old new
  fails_to_read few undecided rose written = record {
    trace = trace;
    theorem = theorem;
    ends = record { read = (omega (arith, few, so_far.turns), undecided); script = used; script_faults = rose; output = written };
  }
