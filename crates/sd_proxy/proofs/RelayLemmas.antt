-- What a receiver of a proxy did, one turn of its source after another.
use Rattle.std.proofs.Common.{◌≡◌, ◌∙◌, ℕ, ◌+◌, ◌<◌, ◌≤◌, min, List, [], ◌∷◌, ◌++◌, length, length-append, append-nil, append_assoc, map, refl, sym, ap, subst, arith}
use Rattle.std.specs.Prelude.{All, None, Some, slice_get}
use Rattle.std.specs.List.{AllZip, last_or}
use Rattle.std.proofs.lemmas.List.{map-append}
use Rattle.std.proofs.lemmas.List.Elements.{All-nil, All-cons, All-append}
use Rattle.std.proofs.lemmas.List.Sums.{fold_push}
use Rattle.sd_model_outside.specs.Outside.{Object, Content, Datagrams, HasFailed, Rose, last_count}
use Rattle.sd_outside.specs.Turns.{raised, GivesDatagram, turned}
use Rattle.sd_model_outside.specs.Uses.{IsSpent, with_datagrams}
use Rattle.sd_model_outside.proofs.TurnLemmas.{with_datagrams-append}
use Rattle.sd_model_settings.specs.Entries.{Node}
use Rattle.sd_model_serve.specs.Receiving.{EndsReceiver, most_turns}
use Rattle.sd_model_proxy.specs.Routes.{Read, add_totals, no_totals, relay_counts}
use Rattle.sd_model_proxy.specs.Relays.{IsRelay, Relay, relay_totals}
use Rattle.sd_model_record.specs.Totals.{Total}
use Rattle.sd_model_live.specs.Port.{CountsFor, CountsRead, ProxyEvent}
use Rattle.sd_live.specs.Looks.{Begins, HaveAnswered, last_place}
use Rattle.sd_live.proofs.LookLemmas.{answered_more, begun, last_at, none_answered, one_answered}
use Rattle.sd_proxy.specs.Forwarding.{Forwards, datagram_read}
use Rattle.sd_proxy.specs.Looking.{Counted, Looked, PassSeen}
use Rattle.sd_proxy.specs.Proxying.{Proxies, ProxiesByLooks, RelaySeen}
use Rattle.sd_proxy.specs.Views.{end_view}
use Rattle.sd_proxy_desk.specs.Views.{totals_view}
use Rattle.sd_outside.specs.declared.datagrams.Ended.{Ended}
use Rattle.sd_proxy.specs.declared.proxied.Proxied.{Proxied}
use Rattle.sd_proxy_desk.specs.declared.totals.ProxyTotals as code
use Rattle.sd_proxy.proofs.ForwardLemmas.{Forwards-none, Forwards-next, nothing_more}
use Rattle.sd_model_proxy.proofs.Short.{IsReadOf}

-- a source gave no datagram
with_datagrams-nil : (content : Content) → content ≡ with_datagrams [] content
with_datagrams-nil (Datagrams left) = refl
with_datagrams-nil content = refl

-- the same nodes were up for each read
abbrev pub under : ℕ → List Read → List Total → Type 0
under up reads totals = All (λ (r : Read). r.up ≡ up) reads

-- no read, and no look
pub looked-none : (packets most : ℕ) (nodes : List Node) (old : PassSeen) (totals : List Total) → totals ≡ no_totals
    → Looked packets most nodes old old [] totals
looked-none packets most nodes old totals none = record {
  each = record { places = []; made = sym (append-nil old.looks); reported = refl };
  answered = none_answered old.history;
  counts = record { counts = []; are = sym (append-nil old.events); each = tt; sum = none };
}

-- what looks were told stands where the history went on
pub reported_on : (mid now : List ℕ) → Begins mid now → (places : List ℕ) (reads : List Read)
    → map (λ p. slice_get mid p) places ≡ map (λ (r : Read). Some r.up) reads
    → map (λ p. slice_get now p) places ≡ map (λ (r : Read). Some r.up) reads
reported_on mid now goes_on [] [] reported = refl
reported_on mid now goes_on [] (r ∷ reads) reported = absurd (cc)
reported_on mid now goes_on (p ∷ places) [] reported = absurd (cc)
reported_on mid now goes_on (p ∷ places) (r ∷ reads) reported =
    let first : slice_get mid p ≡ Some r.up = cc in
    let rest : map (λ p. slice_get mid p) places ≡ map (λ (r : Read). Some r.up) reads = cc in
    λ i. begun mid now goes_on p r.up first i ∷ reported_on mid now goes_on places reads rest i

-- one datagram more
pub under-next : (up : ℕ) (datagram : List ℕ) (reads : List Read) → All (λ (r : Read). r.up ≡ up) reads
    → All (λ (r : Read). r.up ≡ up) (reads ++ datagram_read datagram up ∷ [])
under-next up datagram reads all =
    let P : Read → Type 0 = λ r. r.up ≡ up in
    All-append P reads (datagram_read datagram up ∷ []) all (All-cons P (datagram_read datagram up) [] refl (All-nil P))

-- two lists that agree place by place, with one more each
pub zip_push : {A B : Type 0} (R : A → B → Type 0) (xs : List A) (ys : List B) (x : A) (y : B) → AllZip R xs ys → R x y
    → AllZip R (xs ++ x ∷ []) (ys ++ y ∷ [])
zip_push R [] [] x y all one = (one, tt)
zip_push R [] (b ∷ ys) x y all one = absurd all
zip_push R (a ∷ xs) [] x y all one = absurd all
zip_push R (a ∷ xs) (b ∷ ys) x y all one = (all.0, zip_push R xs ys x y all.1 one)

-- one read more, and its count
counted-next : (packets most : ℕ) (nodes : List Node) (old mid now : List ProxyEvent) (read : Read)
    (came_to totals totals_now : List Total) → now ≡ mid ++ CountsRead came_to ∷ [] → CountsFor packets most nodes read came_to
    → totals_now ≡ add_totals totals came_to → (reads : List Read) → Counted packets most nodes old mid reads totals
    → Counted packets most nodes old now (reads ++ read ∷ []) totals_now
counted-next packets most nodes old mid now read came_to totals totals_now did counts both reads h = record {
  counts = h.counts ++ came_to ∷ [];
  are = did ∙ ap (λ (l : List ProxyEvent). l ++ CountsRead came_to ∷ []) h.are
      ∙ append_assoc old (map CountsRead h.counts) (CountsRead came_to ∷ [])
      ∙ ap (λ (l : List ProxyEvent). old ++ l) (sym (map-append CountsRead h.counts (came_to ∷ [])));
  each = zip_push (CountsFor packets most nodes) reads h.counts read came_to h.each counts;
  sum = both ∙ ap (λ (t : List Total). add_totals t came_to) h.sum ∙ sym (fold_push add_totals no_totals h.counts came_to);
}

-- what a read that was counted by itself counts for
counts_for : (packets most : ℕ) (nodes : List Node) (read : Read) (wires wires_now : List Object) (none came_to : List Total)
    → none ≡ no_totals → Forwards most nodes packets (read ∷ []) wires wires_now none came_to → CountsFor packets most nodes read came_to
counts_for packets most nodes read wires wires_now none came_to nothing f = (
  f.batched,
  f.are,
  f.counted ∙ ap (λ (t : List Total). add_totals t (relay_counts nodes packets (read ∷ []) f.batched)) nothing,
)

-- A read's lines were sent under the set that a look answered, and counted at the desk.
pub record One (packets most : ℕ) (nodes : List Node) (old now : PassSeen) (read : Read) (wires wires_now : List Object)
    (none came_to : List Total) : Type 0 where
  pub goes_on : Begins old.history now.history
  pub last : last_or None now.history ≡ Some read.up
  pub looks : now.looks ≡ old.looks ++ last_place now.history ∷ []
  pub did : now.events ≡ old.events ++ CountsRead came_to ∷ []
  pub nothing : none ≡ no_totals
  pub forwards : Forwards most nodes packets (read ∷ []) wires wires_now none came_to

-- one read more, its look and its count
pub looked-next : (packets most : ℕ) (nodes : List Node) (old mid now : PassSeen) (read : Read) (wires wires_now : List Object)
    (none came_to totals totals_now : List Total) → One packets most nodes mid now read wires wires_now none came_to
    → totals_now ≡ add_totals totals came_to → (reads : List Read) → Looked packets most nodes old mid reads totals
    → Looked packets most nodes old now (reads ++ read ∷ []) totals_now
looked-next packets most nodes old mid now read wires wires_now none came_to totals totals_now one both reads h =
    let place = last_place now.history in
    record {
      each = record {
        places = h.each.places ++ place ∷ [];
        made = one.looks ∙ ap (λ (l : List ℕ). l ++ place ∷ []) h.each.made ∙ append_assoc old.looks h.each.places (place ∷ []);
        reported = map-append (λ p. slice_get now.history p) h.each.places (place ∷ [])
            ∙ (λ i. reported_on mid.history now.history one.goes_on h.each.places reads h.each.reported i
            ++ last_at read.up now.history one.last i ∷ [])
            ∙ sym (map-append (λ (r : Read). Some r.up) reads (read ∷ []));
      };
      answered = subst (HaveAnswered old.history now.history) (sym (map-append (λ (r : Read). r.up) reads (read ∷ [])))
          (answered_more old.history mid.history now.history (map (λ (r : Read). r.up) reads) (read.up ∷ []) h.answered
          (one_answered mid.history now.history read.up one.goes_on one.last));
      counts = counted-next packets most nodes old.events mid.events now.events read came_to totals totals_now one.did
          (counts_for packets most nodes read wires wires_now none came_to one.nothing one.forwards) both reads h.counts;
    }

-- What a receiver did in so many turns of its source, in which the source didn't fail, and what is known of its datagrams.
pub record Ran (most : ℕ) (nodes : List Node) (known : List Read → List Total → Type 0) (source source_now : Object) (took : ℕ) (wires wires_now : List Object) (totals : List Total) : Type 0 where
  pub datagrams : List (List ℕ)
  pub reads : List Read
  pub are : known reads totals
  pub read : AllZip IsReadOf datagrams reads
  pub forwards : Forwards most nodes (length datagrams) reads wires wires_now no_totals totals
  pub given : source.content ≡ with_datagrams datagrams source_now.content
  pub turns : source_now.turns ≡ min (source.turns + took) last_count
  pub many : length reads ≤ took
  pub faults : source_now.faults ≡ source.faults
  pub same : source_now ≡ record source { content = source_now.content; faults = source_now.faults; turns = source_now.turns }

pub ran_first : (most : ℕ) (nodes : List Node) (known : List Read → List Total → Type 0) (source : Object) (wires : List Object) (t : List Total) → known [] t → source.turns ≤ last_count → t ≡ no_totals → Ran most nodes known source source 0 wires wires t
ran_first most nodes known source wires t are fits none = record {
  datagrams = [];
  reads = [];
  are = are;
  read = tt;
  forwards = Forwards-none most nodes wires no_totals t (none ∙ nothing_more nodes);
  given = with_datagrams-nil source.content;
  turns = omega (arith, fits);
  many = omega arith;
  faults = refl;
  same = refl;
}

-- a source that is as it was
pub same_faults : (old new : Object) → new ≡ old → new ≡ record old { faults = new.faults }
same_faults old new last = last ∙ ap (λ (o : Object). record old { faults = o.faults }) (sym last)

-- What a receiver did, what is known of its datagrams, what it counted, and how it ended.
pub record Out (most : ℕ) (nodes : List Node) (known : List Read → List Total → Type 0) (source now : Object) (wires wires_now : List Object) (p : Proxied) : Type 0 where
  pub relay : Relay
  pub are : known relay.reads (relay_totals nodes relay)
  pub relays : IsRelay most nodes relay source now wires wires_now
  pub totals : totals_view p.totals ≡ relay_totals nodes relay
  pub ended : end_view p.ended ≡ relay.ended

module _ (most : ℕ) (nodes : List Node) (known : List Read → List Total → Type 0) (source mid now : Object) (took : ℕ) where
  -- nothing else of a source changed
  abbrev Same : Object → Object → Type 0
  Same old new = new ≡ record old { content = new.content; faults = new.faults; turns = new.turns }

  same_next : Same source mid → Same mid now → Same source now
  same_next first second = second ∙ ap (λ (o : Object). record o { content = now.content; faults = now.faults; turns = now.turns }) first

  same_given : (datagram : List ℕ) → GivesDatagram datagram mid now → Same mid now
  same_given datagram gives = ap (λ (o : Object). record o { content = now.content; faults = now.faults; turns = now.turns }) (sym gives)

  -- a turn that gave a datagram, whose lines were sent
  pub ran_read : (known_now : List Read → List Total → Type 0) (datagram : List ℕ) (up : ℕ) (wires wires_mid wires_now : List Object)
      (t t_now : List Total) → ((reads : List Read) → known reads t → known_now (reads ++ datagram_read datagram up ∷ []) t_now)
      → Ran most nodes known source mid took wires wires_mid t → GivesDatagram datagram mid now
      → Forwards most nodes 1 (datagram_read datagram up ∷ []) wires_mid wires_now t t_now
      → Ran most nodes known_now source now (took + 1) wires wires_now t_now
  ran_read known_now datagram up wires wires_mid wires_now t t_now next ran gives forwards =
      let read : Read = datagram_read datagram up in
      let content : mid.content ≡ with_datagrams (datagram ∷ []) now.content = ap (λ (o : Object). o.content) gives in
      let count : length (ran.reads ++ read ∷ []) ≡ length ran.reads + 1 = length-append ran.reads (read ∷ []) in
      let turn : raised mid.turns ≡ now.turns = ap (λ (o : Object). o.turns) gives in
      record {
        datagrams = ran.datagrams ++ datagram ∷ [];
        reads = ran.reads ++ read ∷ [];
        are = next ran.reads ran.are;
        read = zip_push IsReadOf ran.datagrams ran.reads datagram read ran.read (refl, refl);
        forwards = subst (λ (n : ℕ). Forwards most nodes n (ran.reads ++ read ∷ []) wires wires_now no_totals t_now)
            (sym (length-append ran.datagrams (datagram ∷ [])))
            (Forwards-next most nodes (length ran.datagrams) 1 ran.reads
            (read ∷ []) wires wires_mid wires_now no_totals t t_now ran.forwards forwards);
        given = ran.given ∙ ap (with_datagrams ran.datagrams) content ∙ with_datagrams-append now.content ran.datagrams (datagram ∷ []);
        turns = omega (arith, turn, ran.turns);
        many = omega (arith, count, ran.many);
        faults = ap (λ (o : Object). o.faults) (sym gives) ∙ ran.faults;
        same = same_next ran.same (same_given datagram gives);
      }

  -- a turn that gave nothing
  pub ran_idle : (wires wires_now : List Object) (t : List Total) → Ran most nodes known source mid took wires wires_now t → now ≡ turned mid → Ran most nodes known source now (took + 1) wires wires_now t
  ran_idle wires wires_now t ran idle =
      let turn : now.turns ≡ raised mid.turns = ap (λ (o : Object). o.turns) idle in
      record {
        datagrams = ran.datagrams;
        reads = ran.reads;
        are = ran.are;
        read = ran.read;
        forwards = ran.forwards;
        given = ran.given ∙ ap (λ (o : Object). with_datagrams ran.datagrams o.content) (sym idle);
        turns = omega (arith, turn, ran.turns);
        many = omega (arith, ran.many);
        faults = ap (λ (o : Object). o.faults) idle ∙ ran.faults;
        same = same_next ran.same (let back : turned mid ≡ now = sym idle in ap (λ (o : Object). record o { content = now.content; faults = now.faults; turns = now.turns }) (sym back));
      }

  -- how it ended: at most the count of the source's faults changed
  pub ran_out : (wires wires_now : List Object) (ended : Ended) (t : code.ProxyTotals) (p : Proxied) → p.ended ≡ ended → p.totals ≡ t → Ran most nodes known source mid took wires wires_now (totals_view t) → length wires ≡ length nodes
      → now ≡ record mid { faults = now.faults } → EndsReceiver 0 (end_view ended) source now 0 took → Out most nodes known source now wires wires_now p
  ran_out wires wires_now ended t p so counts ran each last ends = record {
    relay = record { datagrams = ran.datagrams; reads = ran.reads; batched = ran.forwards.batched; ended = end_view ended };
    are = subst (known ran.reads) ran.forwards.counted ran.are;
    relays = record {
      given = ran.given ∙ ap (λ (o : Object). with_datagrams ran.datagrams o.content) (sym last);
      read = ran.read;
      forwarded = record { packets = ran.forwards.are; each = each; sends = ran.forwards.sends };
      turned = took;
      turns = ap (λ (o : Object). o.turns) last ∙ ran.turns;
      many = ran.many;
      ends = ends;
      same = same_next ran.same (last ∙ ap (λ (o : Object). record mid { content = o.content; faults = now.faults; turns = o.turns }) (sym last));
    };
    totals = ap totals_view counts ∙ ran.forwards.counted;
    ended = ap end_view so;
  }

  -- the source had nothing left
  pub ends_spent : (wires wires_now : List Object) (t : List Total) → Ran most nodes known source mid took wires wires_now t → now ≡ mid → IsSpent mid.content → took < most_turns → IsSpent now.content × (now.faults ≡ source.faults) × (0 < 0 → 0 < 0) × (took < most_turns)
  ends_spent wires wires_now t ran last spent few = (subst (λ (o : Object). IsSpent o.content) (sym last) spent, ap (λ (o : Object). o.faults) last ∙ ran.faults, λ none. none, few)

  -- the source failed
  pub ends_failed : (wires wires_now : List Object) (t : List Total) → Ran most nodes known source mid took wires wires_now t → HasFailed mid now → took < most_turns → Rose source.faults now.faults × (0 < 0 → 0 < 0) × (took < most_turns)
  ends_failed wires wires_now t ran failed few = (subst (λ n. Rose n now.faults) ran.faults failed.rose, λ none. none, few)

-- what a receiver did under one set
pub out_under : (most : ℕ) (nodes : List Node) (up : ℕ) (source now : Object) (wires wires_now : List Object) (p : Proxied) → Out most nodes (under up) source now wires wires_now p → Proxies most nodes up source now wires wires_now p
out_under most nodes up source now wires wires_now p out = record { relay = out.relay; under = out.are; relays = out.relays; totals = out.totals; ended = out.ended }

-- what a receiver did by looks
pub out_looked : (most : ℕ) (nodes : List Node) (old new : RelaySeen) (p : Proxied)
    → Out most nodes (Looked 1 most nodes (record { history = old.history; looks = old.looks; events = old.events })
    (record { history = new.history; looks = new.looks; events = new.events })) old.source new.source old.wires new.wires p
    → ProxiesByLooks most nodes old new p
out_looked most nodes old new p out =
    let counts = out.are.counts in
    record {
      relay = out.relay;
      each = out.are.each;
      looks = out.are.answered;
      relays = out.relays;
      counts = (
        map CountsRead counts.counts,
        counts.are,
        record { counts = counts.counts; are = refl; each = counts.each; sum = counts.sum },
      );
      totals_are = out.totals;
      ended_so = out.ended;
    }
