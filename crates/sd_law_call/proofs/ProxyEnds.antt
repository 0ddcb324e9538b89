-- How a call answers that is asked for the proxy, where nothing hinders it, and what its answers say of its objects.
use Rattle.std.proofs.Common.{◌≡◌, ◌⊎◌, ℕ, ◌+◌, ◌*◌, List, [], ◌∷◌, ◌++◌, length, map, take, drop, refl, sym, ap, subst, ◌∙◌, Option, Some, None, Ok, Err, inl, inr, true, arith}
use Rattle.std.specs.Prelude.{min}
use Rattle.std.specs.List.{AllByRecursion, list_any}
use Rattle.std.proofs.lemmas.List.{length-map}
use Rattle.sd_model_outside.specs.Outside.{File, Host, Datagrams, Object, Rose, last_count, object_at}
use Rattle.sd_model_settings.specs.Entries.{Node}
use Rattle.sd_model_settings.specs.Settings.{Settings, SettingsFlaw, settings}
use Rattle.sd_model_serve.specs.Receiving.{LoopEnd, Spent, Failed, Enough, LimitReached, EndsFlusher, EndsReceiver, most_turns}
use Rattle.sd_model_proxy.specs.Relays.{Relay}
use Rattle.sd_model_live.specs.Port.{has_port}
use Rattle.sd_model_call.specs.Call.{Form, Proxy, form, Answer, Done, NoMemory, NoForm, Misset, BadScript, NotOpened, NotRead, NotWritten, Worn, WritesTotals}
use Rattle.sd_model_call.specs.Opening.{World, Opening, Part, OfSettings, OfScript, OfSource, OfBeat, OfWire, OfBackend, OfDoor, OfStreams, IsAccepted, IsFlawed, numbered, repeated, settled}
use Rattle.sd_law_call.specs.Completeness.{IsBlocked, IsWhole}
use Rattle.sd_model_call.specs.Server.{has_streams, reached_limit, source_openings, stream_openings}
use Rattle.sd_law_call.specs.ServerCompleteness.{AsksFor, HasFaultOf, SourceTookMost, AreRelaysSpent, IsOtherOfProxy, IsOpenedToRelay, IsProxyCauseOf, IsRelayed, IsUnhinderedProxy, NoOtherFailed, OneLoopTookMost}
use Rattle.sd_model_call.specs.Proxy.{AnswersProxy, HasProxied, IsUnfit, ProxyAccounts, line_readers, port_openings, proxy_flaw, proxy_openings, relay_openings, relay_text}
use Rattle.sd_law_call.proofs.BegunLemmas.{Same, all_numbered, accepted_so, at_same, has_flaw, none_failed, not_begun, not_taken, same_start, uncut}
use Rattle.sd_law_call.proofs.LoopEnds.{AreEnded, ComesFrom, OneSourceTookMost, all_done, beat_spent, comes_from, limit_at_one}
use Rattle.sd_law_call.proofs.Openings.{all_append, all_where}
use Rattle.sd_model_call.proofs.Short.{node_place, check_interval, proxy_begun, proxy_answer}
use Rattle.sd_model_proxy.proofs.Short.{AreRelays}

all_relayed : (s : Settings) → AllByRecursion (λ (o : Opening). IsOpenedToRelay o.part) (proxy_openings s)
all_relayed s =
    let opened : Opening → Type 0 = λ o. IsOpenedToRelay o.part in
    let lines : Opening = record { part = OfStreams; place = Host s.addresses.address s.transport.tcp_port } in
    let door : Opening = record { part = OfDoor; place = Host s.addresses.mgmt_address s.transport.proxy_mgmt_port } in
    let wires = repeated (s.sizes.receivers + line_readers s) (map node_place s.lists.nodes) in
    all_append opened (relay_openings s) (stream_openings s ++ port_openings s)
    (all_append opened (source_openings s) (numbered OfWire 0 wires)
    (all_numbered IsOpenedToRelay OfSource (λ i. tt) 0 (repeated s.sizes.receivers (Datagrams s.addresses.address s.server.port s.transport.receive_buffer ∷ [])))
    (all_numbered IsOpenedToRelay OfWire (λ i. tt) 0 wires))
    (all_append opened (stream_openings s) (port_openings s) (all_where opened (has_streams s) lines (λ on. tt)) (all_where opened (has_port s) door (λ on. tt)))

-- the loops of receivers over their sources
looped : (most : ℕ) (nodes : List Node) (rs : List Relay) (ss ns ws wn : List Object) → AreRelays most nodes rs ss ns ws wn → AreEnded 0 0 (map (λ r. r.ended) rs) ss ns
looped most nodes [] ss ns ws wn h = tt
looped most nodes (r ∷ rs) [] ns ws wn h = absurd h
looped most nodes (r ∷ rs) (s ∷ ss) [] ws wn h = absurd h
looped most nodes (r ∷ rs) (s ∷ ss) (n ∷ ns) ws wn h = (
  record { turned = h.0.turned; turns = h.0.turns; seen = 0; known = omega arith; ends = h.0.ends },
  looped most nodes rs ss ns (drop (length nodes) ws) (drop (length nodes) wn) h.1,
)

-- the end of a checker is one of a flusher of which no flushes are asked
as_flusher : (made : ℕ) (ended : LoopEnd) (beat beat_now : Object) → EndsReceiver 0 ended beat beat_now 0 made → EndsFlusher 0 ended beat beat_now made
as_flusher made Spent beat beat_now h = (h.0, h.1, λ some. absurd (omega (arith, some)))
as_flusher made Failed beat beat_now h = (h.0, λ some. absurd (omega (arith, some)))
as_flusher made (Enough flushes) beat beat_now h = absurd (omega (arith, h.0))
as_flusher made (LimitReached turns) beat beat_now h = (h.0, h.1 ∙ sym h.0, h.2, λ some. absurd (omega (arith, some)))

-- a beat whose checker took the most turns
beat_reached_limit : (made : ℕ) (ended : LoopEnd) (beat beat_now : Object) → EndsReceiver 0 ended beat beat_now 0 made → beat_now.turns ≡ min (beat.turns + made) last_count → list_any reached_limit (ended ∷ []) ≡ true → SourceTookMost beat beat_now
beat_reached_limit made Spent beat beat_now h turns is = absurd (cc)
beat_reached_limit made Failed beat beat_now h turns is = absurd (cc)
beat_reached_limit made (Enough flushes) beat beat_now h turns is = absurd (cc)
beat_reached_limit made (LimitReached n) beat beat_now h turns is = turns ∙ ap (λ k. min (beat.turns + k) last_count) h.1

module _ (name : List ℕ) (answer : Answer) (old new : World) (h : HasProxied name answer old new) where
  abbrev start : World
  start = proxy_begun h.values (settled h.values h.settings old)

  abbrev received : List LoopEnd
  received = map (λ r. r.ended) h.relays

  faults : Same (λ o. o.faults) start old
  faults = same_start (λ o. o.faults) (λ place o. refl) (λ content o. refl) (λ interval o. refl) (proxy_openings h.values) (check_interval h.values) h.values h.settings name old h.taken

  turns : Same (λ o. o.turns) start old
  turns = same_start (λ o. o.turns) (λ place o. refl) (λ content o. refl) (λ interval o. refl) (proxy_openings h.values) (check_interval h.values) h.values h.settings name old h.taken

  loops : AreEnded 0 0 received start.served.sources new.served.sources
  loops =
      let run = length h.relays * length h.values.lists.nodes in
      looped h.values.transport.batch_bytes h.values.lists.nodes h.relays start.served.sources new.served.sources (take run start.seen.wires) (take run new.seen.wires) h.theorem.are

  ticked : EndsFlusher 0 h.checker_ended start.served.beat new.served.beat (length h.checks)
  ticked = as_flusher (length h.checks) h.checker_ended start.served.beat new.served.beat h.theorem.checked.ends

  accepted : IsAccepted h.values (File name) old.settings new.settings
  accepted = subst (λ (w : World). IsAccepted h.values (File name) old.settings w.settings) (sym h.others) h.taken

  -- where all was done
  done : proxy_answer h.relays h.checker_ended ≡ Done → AreRelaysSpent name old new
  done is =
      let all = all_done 0 0 (length h.checks) received h.checker_ended [] start.served.sources new.served.sources start.served.beat new.served.beat loops ticked is in
      record {
        values = h.values;
        taken = accepted;
        sources = λ i below. all.sources (λ some. absurd (omega (arith, some))) i (omega (arith, below, length-map h.relays (λ (r : Relay). r.ended), h.count));
        beat = beat_spent 0 (length h.checks) new.served.beat (λ some. absurd (omega (arith, some))) all.beat;
      }

  one_reached_limit : OneSourceTookMost start.served.sources new.served.sources ⊎ (list_any reached_limit (h.checker_ended ∷ []) ≡ true) → OneLoopTookMost old new
  one_reached_limit (inl (i, most)) = inl (i, most ∙ ap (λ n. min (n + most_turns) last_count) (at_same (λ o. o.turns) i start.served.sources old.served.sources turns.sources))
  one_reached_limit (inr is) =
      inr (beat_reached_limit (length h.checks) h.checker_ended start.served.beat new.served.beat h.theorem.checked.ends h.theorem.checked.turns is ∙ ap (λ n. min (n + most_turns) last_count) turns.beat)

  cause : (a : Answer) → proxy_answer h.relays h.checker_ended ≡ a → ComesFrom received h.checker_ended [] start.served.sources new.served.sources start.served.beat new.served.beat a → IsProxyCauseOf name a old new
  cause a whole (inl (i, is, rose)) =
      let from = subst (λ (n : ℕ). Rose n (object_at i new.served.sources).faults) (at_same (λ o. o.faults) i start.served.sources old.served.sources faults.sources) rose in
      subst (λ (b : Answer). IsProxyCauseOf name b old new) (sym (is ∙ ap (λ j. NotRead (OfSource j)) (omega arith))) (tt, from)
  cause a whole (inr (inl (is, rose))) = subst (λ (b : Answer). IsProxyCauseOf name b old new) (sym is) (tt, subst (λ (n : ℕ). Rose n new.served.beat.faults) faults.beat rose)
  cause a whole (inr (inr (inl (is, limit_reached)))) =
      subst (λ (b : Answer). IsProxyCauseOf name b old new) (sym is) (refl, one_reached_limit (limit_at_one (h.checker_ended ∷ []) 0 0 received start.served.sources new.served.sources loops limit_reached))
  cause a whole (inr (inr (inr (is, none)))) = subst (λ (b : Answer). IsProxyCauseOf name b old new) (sym is) (done (whole ∙ is))

  ended : proxy_answer h.relays h.checker_ended ≡ answer → IsProxyCauseOf name answer old new
  ended is = cause answer is (comes_from 0 0 (length h.checks) received h.checker_ended [] start.served.sources new.served.sources start.served.beat new.served.beat loops ticked answer is)

  -- the answer of a proxy that was begun has its cause
  pub proxied_cause : IsProxyCauseOf name answer old new
  proxied_cause = by_written h.written where
    by_uncut : Rose old.seen.output.faults new.seen.output.faults → (answer ≡ NotWritten) ⊎ (proxy_answer h.relays h.checker_ended ≡ answer) → IsProxyCauseOf name answer old new
    by_uncut rose (inl is) = subst (λ (a : Answer). IsProxyCauseOf name a old new) (sym is) rose
    by_uncut rose (inr is) = ended is

    by_written : WritesTotals (relay_text h.values.lists.nodes (h.relays ++ h.line_relays) h.checks) (proxy_answer h.relays h.checker_ended) answer old.seen.output new.seen.output → IsProxyCauseOf name answer old new
    by_written (inl (is, text)) = ended (sym is)
    by_written (inr (is, failed)) = by_uncut failed.rose (uncut (proxy_answer h.relays h.checker_ended) answer is)

module _ (name : List ℕ) (old new : World) where
  -- every answer has its cause
  pub proxy_answer_cause : (answer : Answer) → ProxyAccounts name answer old new → IsProxyCauseOf name answer old new
  proxy_answer_cause answer (inl taken) =
      not_taken name old new (λ a. IsProxyCauseOf name a old new) tt answer taken (λ rose. (tt, rose)) (λ rose. (tt, rose)) (λ flaw has. inl (has, taken.only))
  proxy_answer_cause answer (inr (inl (flaw, is, unfit))) = subst (λ (a : Answer). IsProxyCauseOf name a old new) (sym is) (inr unfit)
  proxy_answer_cause answer (inr (inr (inl not))) =
      not_begun name old new (λ a. IsProxyCauseOf name a old new) tt proxy_openings IsOpenedToRelay answer not.not_begun (all_relayed not.not_begun.values) (λ part closed. closed)
  proxy_answer_cause answer (inr (inr (inr proxied))) = proxied_cause name answer old new proxied

-- a call whose words ask for the proxy, by settings with these bytes
module _ (words : List (List ℕ)) (bytes : List ℕ) (old new : World) (asks : AsksFor Proxy words old bytes) where
  accounted : (answer : Answer) → AnswersProxy (form words) answer old new → ProxyAccounts asks.name answer old new
  accounted answer h = subst (λ (f : Option Form). AnswersProxy f answer old new) asks.form h

  caused : (answer : Answer) → AnswersProxy (form words) answer old new → IsProxyCauseOf asks.name answer old new
  caused answer h = proxy_answer_cause asks.name old new answer (accounted answer h)

  module _ (values : Settings) (accepted : settings bytes ≡ Ok values) where
    not_flawed : (flaw : SettingsFlaw) → IsFlawed flaw (File asks.name) old.settings new.settings → ⊥
    not_flawed flaw has = let same : Err flaw ≡ Ok values = sym (has_flaw asks.name bytes old asks.content flaw new.settings has) ∙ accepted in absurd (cc)

    same_values : (others : Settings) (now : Object) → IsAccepted others (File asks.name) old.settings now → others ≡ values
    same_values others now taken =
        let same : Ok others ≡ Ok values = sym (accepted_so asks.name bytes old asks.content others now taken) ∙ accepted in
        let one : others ≡ values = cc in
        one

    module _ (fits : proxy_flaw values ≡ None) (steady : IsUnhinderedProxy old new) where
      fit : (flaw : SettingsFlaw) → IsUnfit asks.name flaw old new → ⊥
      fit flaw h = let same : Some flaw ≡ None = sym h.flaw_is ∙ ap proxy_flaw (same_values h.values new.settings h.taken) ∙ fits in absurd (cc)

      by_cause : (answer : Answer) → IsProxyCauseOf asks.name answer old new → IsRelayed answer
      by_cause Done h = inl (inl refl)
      by_cause NoMemory h = inl (inr refl)
      by_cause NoForm h = absurd h
      by_cause (Misset flaw) (inl has) = absurd (not_flawed flaw has.0)
      by_cause (Misset flaw) (inr unfit) = absurd (fit flaw unfit)
      by_cause (BadScript at flaw) h = absurd h
      by_cause (NotOpened OfSettings) h = absurd (steady.runs.settings h.1)
      by_cause (NotOpened OfScript) h = absurd h.0
      by_cause (NotOpened (OfSource i)) h = absurd (steady.runs.sources i h.1)
      by_cause (NotOpened OfBeat) h = absurd h.0
      by_cause (NotOpened (OfWire i)) h = inr (OfWire i, tt, refl)
      by_cause (NotOpened (OfBackend b)) h = absurd h.0
      by_cause (NotOpened OfDoor) h = inr (OfDoor, tt, refl)
      by_cause (NotOpened OfStreams) h = inr (OfStreams, tt, refl)
      by_cause (NotRead part) h = absurd (none_failed old new steady.runs part h.0 h.1)
      by_cause NotWritten h = absurd (steady.runs.output h)
      by_cause (Worn turns) h = by_loop h.1 where
        by_loop : OneLoopTookMost old new → IsRelayed (Worn turns)
        by_loop (inl (i, most)) = let few = steady.runs.source_turns i in let low = steady.runs.uncapped i in absurd (omega (arith, most, few, low))
        by_loop (inr most) = let few = steady.runs.beat_turns in let low = steady.beat_uncapped in absurd (omega (arith, most, few, low))

      pub relays : (answer : Answer) → AnswersProxy (form words) answer old new → IsRelayed answer
      relays answer h = by_cause answer (caused answer h)

      module _ (none : NoOtherFailed old new) where
        not_another : (part : Part) → IsOtherOfProxy part → HasFaultOf part old new → ⊥
        not_another (OfWire i) is_other rose = none.wires i rose
        not_another OfDoor is_other rose = none.door rose
        not_another OfStreams is_other rose = none.streams rose
        not_another OfSettings is_other rose = absurd is_other
        not_another OfScript is_other rose = absurd is_other
        not_another (OfSource i) is_other rose = absurd is_other
        not_another OfBeat is_other rose = absurd is_other
        not_another (OfBackend b) is_other rose = absurd is_other

        is_whole : (answer : Answer) → IsProxyCauseOf asks.name answer old new → IsRelayed answer → IsWhole Done answer
        is_whole answer h (inl done) = done
        is_whole answer h (inr (part, is_other, is)) = absurd (not_another part is_other (subst (λ (a : Answer). IsProxyCauseOf asks.name a old new) is h).1)

        pub relays_whole : (answer : Answer) → AnswersProxy (form words) answer old new → IsWhole Done answer
        relays_whole answer h = is_whole answer (caused answer h) (relays answer h)

    module _ (flaw : SettingsFlaw) (found : proxy_flaw values ≡ Some flaw) where
      unfitting : (others : Settings) (now : Object) → IsAccepted others (File asks.name) old.settings now → proxy_flaw others ≡ None → ⊥
      unfitting others now taken fits = let same : Some flaw ≡ None = sym found ∙ sym (ap proxy_flaw (same_values others now taken)) ∙ fits in absurd (cc)

      by_account : (answer : Answer) → ProxyAccounts asks.name answer old new → IsBlocked (Misset flaw) answer
      by_account answer (inl taken) =
          not_taken asks.name old new (IsBlocked (Misset flaw)) (inl (inr refl)) answer taken (λ rose. inr (inl refl)) (λ rose. inr (inr refl)) (λ other has. absurd (not_flawed other has))
      by_account answer (inr (inl (other, is, h))) =
          let same : Some other ≡ Some flaw = sym h.flaw_is ∙ ap proxy_flaw (same_values h.values new.settings h.taken) ∙ found in
          let one : other ≡ flaw = cc in
          inl (inl (is ∙ ap (λ f. Misset f) one))
      by_account answer (inr (inr (inl not))) = absurd (unfitting not.not_begun.values not.not_begun.settings not.not_begun.taken not.fits)
      by_account answer (inr (inr (inr proxied))) = absurd (unfitting proxied.values proxied.settings proxied.taken proxied.fits)

      pub unfit : (answer : Answer) → AnswersProxy (form words) answer old new → IsBlocked (Misset flaw) answer
      unfit answer h = by_account answer (accounted answer h)

  module _ (flaw : SettingsFlaw) (refused : settings bytes ≡ Err flaw) where
    not_accepted : (values : Settings) (now : Object) → IsAccepted values (File asks.name) old.settings now → ⊥
    not_accepted values now taken = let same : Ok values ≡ Err flaw = sym (accepted_so asks.name bytes old asks.content values now taken) ∙ refused in absurd (cc)

    by_flaw : (answer : Answer) → ProxyAccounts asks.name answer old new → IsBlocked (Misset flaw) answer
    by_flaw answer (inl taken) = not_taken asks.name old new (IsBlocked (Misset flaw)) (inl (inr refl)) answer taken (λ rose. inr (inl refl)) (λ rose. inr (inr refl)) same_flaw where
      same_flaw : (other : SettingsFlaw) → IsFlawed other (File asks.name) old.settings new.settings → IsBlocked (Misset flaw) (Misset other)
      same_flaw other has =
          let same : Err other ≡ Err flaw = sym (has_flaw asks.name bytes old asks.content other new.settings has) ∙ refused in
          let one : other ≡ flaw = cc in
          inl (inl (ap (λ f. Misset f) one))
    by_flaw answer (inr (inl (other, is, h))) = absurd (not_accepted h.values new.settings h.taken)
    by_flaw answer (inr (inr (inl not))) = absurd (not_accepted not.not_begun.values not.not_begun.settings not.not_begun.taken)
    by_flaw answer (inr (inr (inr proxied))) = absurd (not_accepted proxied.values proxied.settings proxied.taken)

    pub proxy_blocked : (answer : Answer) → AnswersProxy (form words) answer old new → IsBlocked (Misset flaw) answer
    proxy_blocked answer h = by_flaw answer (accounted answer h)
