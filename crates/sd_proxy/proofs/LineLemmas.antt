-- The streams of a door, one after another.
use Rattle.std.proofs.Common.{◌≡◌, ◌∙◌, ℕ, ◌+◌, ◌<◌, ◌^◌, true, false, List, [], ◌∷◌, ◌++◌, append-nil, length, map, refl, sym, ap, subst, arith}
use Rattle.std.specs.List.{AllZip}
use Rattle.std.proofs.lemmas.List.Concat.{flat_map-append}
use Rattle.sd_model_outside.specs.Outside.{HasFailed, Object}
use Rattle.sd_outside.specs.Turns.{raised, GivesSession, HasLeft, turned}
use Rattle.sd_model_record.specs.Totals.{Total}
use Rattle.sd_model_settings.specs.Entries.{Node}
use Rattle.sd_model_serve.specs.Sessions.{Visit}
use Rattle.sd_model_stream.specs.Streams.{AtEnd, StreamLine, EndsStream, Failed, IsStreamOf, Stream, StreamEnd, LimitReached, ends_by_failure}
use Rattle.sd_model_proxy.specs.Routes.{add_totals, no_totals}
use Rattle.sd_model_proxy.specs.Relays.{EndsServing, lines_ended}
use Rattle.sd_model_live.specs.Port.{CountsRead}
use Rattle.sd_outside.specs.declared.door.DoorEnd.{DoorEnd}
use Rattle.sd_proxy_desk.specs.Ends.{door_end_view}
use Rattle.sd_proxy_desk.specs.Views.{totals_view}
use Rattle.sd_proxy_desk.specs.declared.totals.ProxyTotals.{ProxyTotals}
use Rattle.sd_talk.proofs.DoorLemmas.{ServesDoor-failed, ServesDoor-next, ServesDoor-none, ServesDoor-one}
use Rattle.sd_proxy.specs.Looking.{PassSeen}
use Rattle.sd_proxy.specs.Proxying.{LinesByLooks, RelaySeen}
use Rattle.sd_proxy.specs.Streaming.{SendsStream, SendsStreams}
use Rattle.sd_proxy.specs.declared.lined.Lined.{Lined}
use Rattle.sd_proxy.proofs.LookedLemmas.{SendsByLooks-next, SendsByLooks-none, zip_append}
use Rattle.sd_model_serve.proofs.Short.{IsFaultOf}
use Rattle.sd_model_proxy.proofs.Short.{lines_by_read, IsReadOfLines}

-- a turn of a door that had taken few
pub one_turn : (old new first n : ℕ) → new ≡ raised old → old ≡ first + n → first < 2 ^ 62 → n < 2 ^ 62 → new ≡ first + (n + 1)
one_turn old new first n is so_far few less = omega (arith, is, so_far, few, less)

-- a stream that ended by a failure has a source that failed
failed_ends : (ended : StreamEnd) (reads : ℕ) (source source_now : Object) → EndsStream ended reads source source_now
    → ends_by_failure ended ≡ true → 0 < source_now.faults
failed_ends AtEnd reads source source_now ends is = absurd (cc)
failed_ends Failed reads source source_now ends is = let rose = ends.0 in omega (arith, rose)
failed_ends (LimitReached turns) reads source source_now ends is = absurd (cc)

module _ (most : ℕ) (nodes : List Node) where
  -- no session was read
  pub SendsStreams-none : (own : PassSeen) (door door_now : Object) (wires : List Object) (t : List Total) → door.is_out ≡ false
      → door.turns < 2 ^ 63 → door_now ≡ turned door → t ≡ no_totals → SendsStreams most nodes own own door door_now wires wires t
  SendsStreams-none own door door_now wires t none few idle nothing = record {
    visits = [];
    failures = 0;
    streams = [];
    served = ServesDoor-none door door_now none (ap (λ (o : Object). o.content) idle) (ap (λ (o : Object). o.opened_at) idle)
        (ap (λ (o : Object). o.is_out) idle) (ap (λ (o : Object). o.faults) idle)
        (let turns = ap (λ (o : Object). o.turns) idle in omega (arith, turns, few));
    went = tt;
    reads = [];
    are = tt;
    sends = SendsByLooks-none most nodes own wires t nothing;
  }

  -- nothing was done
  pub SendsStreams-first : (own : PassSeen) (door : Object) (wires : List Object) (t : List Total) → door.is_out ≡ false → t ≡ no_totals
      → SendsStreams most nodes own own door door wires wires t
  SendsStreams-first own door wires t none nothing = record {
    visits = [];
    failures = 0;
    streams = [];
    served = ServesDoor-none door door none refl refl refl refl (omega arith);
    went = tt;
    reads = [];
    are = tt;
    sends = SendsByLooks-none most nodes own wires t nothing;
  }

  -- the door failed
  pub SendsStreams-failed : (own : PassSeen) (door door_now : Object) (wires : List Object) (t : List Total) → door.is_out ≡ false
      → door.turns < 2 ^ 63 → HasFailed (turned door) door_now → t ≡ no_totals → SendsStreams most nodes own own door door_now wires wires t
  SendsStreams-failed own door door_now wires t none few failed nothing = record {
    visits = [];
    failures = 1;
    streams = [];
    served = ServesDoor-failed door door_now none few failed;
    went = tt;
    reads = [];
    are = tt;
    sends = SendsByLooks-none most nodes own wires t nothing;
  }

  -- a session was read, and given back
  pub SendsStreams-one : (own own_now : PassSeen) (asking asking_now telling door door_mid door_now : Object)
      (wires wires_now : List Object) (t : List Total) → door.turns < 2 ^ 63
      → GivesSession asking telling door door_mid → HasLeft asking_now telling door_mid door_now
      → SendsStream most nodes own own_now asking asking_now wires wires_now t
      → SendsStreams most nodes own own_now door door_now wires wires_now t
  SendsStreams-one own own_now asking asking_now telling door door_mid door_now wires wires_now t few gives left sends =
      let s = sends.stream in
      let v : Visit = record {
        asking = asking;
        asking_now = asking_now;
        answered = telling;
        answered_now = telling;
        is_fault = ends_by_failure s.ended;
      } in
      let failed = failed_ends s.ended (length s.reads) asking asking_now sends.went.ends in
      let cause : IsFaultOf v = λ is. let some = failed is in omega (arith, some) in
      record {
        visits = v ∷ [];
        failures = 0;
        streams = s ∷ [];
        served = ServesDoor-one v door door_mid door_now few gives left cause;
        went = (record { read = sends.went; fault = refl; unanswered = refl }, tt);
        reads = sends.reads;
        are = subst (λ (ls : List (List StreamLine)). AllZip IsReadOfLines ls sends.reads) (sym (append-nil (lines_ended [] s.reads))) sends.are;
        sends = sends.sends;
      }

  -- sessions were read behind others
  pub SendsStreams-next : (own own_mid own_now : PassSeen) (door door_mid door_now : Object) (u v w : List Object) (s t : ProxyTotals)
      (both : List Total) → both ≡ add_totals (totals_view s) (totals_view t)
      → SendsStreams most nodes own own_mid door door_mid u v (totals_view s)
      → SendsStreams most nodes own_mid own_now door_mid door_now v w (totals_view t)
      → SendsStreams most nodes own own_now door door_now u w both
  SendsStreams-next own own_mid own_now door door_mid door_now u v w s t both is a b = record {
    visits = a.visits ++ b.visits;
    failures = a.failures + b.failures;
    streams = a.streams ++ b.streams;
    served = ServesDoor-next a.visits b.visits a.failures b.failures door door_mid door_now a.served b.served;
    went = zip_append IsStreamOf a.visits b.visits a.streams b.streams a.went b.went;
    reads = a.reads ++ b.reads;
    are = subst (λ (ls : List (List StreamLine)). AllZip IsReadOfLines ls (a.reads ++ b.reads))
        (sym (flat_map-append (λ (x : Stream). lines_ended [] x.reads) a.streams b.streams))
        (zip_append IsReadOfLines (lines_by_read a.streams) (lines_by_read b.streams) a.reads b.reads a.are b.are);
    sends = SendsByLooks-next most nodes own own_mid own_now a.reads b.reads u v w s t both is a.sends b.sends;
  }

  -- what a reader of lines did
  pub lines_out : (old new : RelaySeen) (ended : DoorEnd) (t : ProxyTotals) (p : Lined) → p.ended ≡ ended → p.totals ≡ t
      → length old.wires ≡ length nodes → EndsServing (door_end_view ended) old.source new.source
      → SendsStreams most nodes (record { history = old.history; looks = old.looks; events = old.events })
      (record { history = new.history; looks = new.looks; events = new.events }) old.source new.source old.wires new.wires
      (totals_view t)
      → LinesByLooks most nodes old new p
  lines_out old new ended t p so counts each ends a =
      let looked = a.sends.looked in
      let forwards = a.sends.forwards in
      let counted = looked.counts in
      record {
        relay = record { datagrams = []; reads = a.reads; batched = forwards.batched; ended = door_end_view ended };
        each = looked.each;
        looks = looked.answered;
        relays = record {
          visits = a.visits;
          failures = a.failures;
          streams = a.streams;
          served = a.served;
          went = a.went;
          none = refl;
          read = a.are;
          forwarded = record { packets = forwards.are; each = each; sends = forwards.sends };
          ends = ends;
        };
        counts = (
          map CountsRead counted.counts,
          counted.are,
          record { counts = counted.counts; are = refl; each = counted.each; sum = sym forwards.counted ∙ counted.sum },
        );
        totals_are = ap totals_view counts ∙ forwards.counted;
        ended_so = ap door_end_view so;
      }
