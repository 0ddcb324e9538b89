-- What the flusher left, with outlets and without.
use Rattle.sd_model_outside.proofs.BackendLemmas.{at_each}
use Rattle.std.proofs.Common.{◌≡◌, ℕ, ◌+◌, ◌≤◌, Bool, true, false, List, [], ◌∷◌, ◌++◌, length, map, min, refl, sym, ap, subst, ◌∙◌, arith, inl, inr, length-append}
use Rattle.std.specs.Prelude.{Some, None, Result, Ok, Err, ⊤}
use Rattle.std.specs.List.{AllByRecursion}
use Rattle.std.proofs.lemmas.List.{length-map}
use Rattle.sd_model_outside.specs.Uses.{Delivery, AfterDeliveries, FitsUse, missed}
use Rattle.sd_model_outside.specs.Uses as deliveries
use Rattle.sd_model_outside.specs.Outside.{Object, last_count}
use Rattle.sd_model_shard.specs.History.{History}
use Rattle.sd_model_outside.specs.Backend.{Backend, at_backend}
use Rattle.sd_shared_desk.specs.Counts.{Part}
use Rattle.sd_model_record.specs.Desk.{Marks}
use Rattle.sd_model_serve.specs.Rounds.{RecordForm, MarksFit, Round, round_deliveries, round_text, OutletRoom, AreChosen, chosen, OutletTrace, IsOutletTrace}
use Rattle.sd_outlet.specs.declared.feed.Feed.{Feed}
use Rattle.sd_outlet.specs.declared.outlet.Outlet.{Outlet}
use Rattle.sd_outlet.specs.declared.worked.Worked.{Worked}
use Rattle.sd_outlet.specs.Feed.{IsFeedOf, buffers, bytes_of, sends_of, sent}
use Rattle.sd_outlet.specs.Worked.{EachUsed, HasWorked}
use Rattle.sd_outside.specs.declared.backend.Back.{Back}
use Rattle.sd_outside.specs.declared.backends.PerBackend.{PerBackend}
use Rattle.sd_delivery.specs.Delivery.{GivesBackends}
use Rattle.sd_outside.specs.Backends.{back_of, uses}
use Rattle.sd_flush.specs.Flushing.{Flushes}
use Rattle.sd_delivery.specs.Leads.{AreReadyLeads, GivesOutlets, Offers, StopsLeads, feed_in, lead_at, no_marks, offered_to, outlet_in as outlet_of}
use Rattle.sd_flush.specs.Made.{GivesRounds}
use Rattle.sd_delivery.specs.Offers.{AfterOffer, AfterOffers, HasOffered, Offer, queued_by, texts_queued}
use Rattle.sd_outside.specs.Backends.{at}
use Rattle.sd_flush.specs.declared.flushed.Flushed.{Flushed}
use Rattle.sd_delivery.specs.declared.outlets.Leads.{Leads}
use Rattle.sd_delivery.specs.declared.outlets.Skip.{Skip}
use Rattle.sd_delivery.specs.declared.outlets.Skip.TheVariants.{Full, Long, Spent}
use Rattle.sd_outside.specs.declared.backends.PerBackend.{PerBackend}
use Rattle.sd_flush.proofs.DeliveryLemmas.{given_deliveries, marks_fit}
use Rattle.sd_flush.proofs.OfferLemmas.{effects, few_queued, given_offers, none_marked}
use Rattle.sd_serve.specs.OutRoom.{HasOutRooms, outlet_in, room_seen}
use Rattle.sd_serve.specs.Outlets.{AreLeadsOf, offered_of}
use Rattle.sd_serve.specs.Through.{FlushesThrough}
use Rattle.sd_serve.specs.declared.out_room.OutRoom.{OutRoom}
use Rattle.sd_serve.specs.declared.outlets.OutCount.{OutCount}
use Rattle.sd_model_run.proofs.Short.{no_outlet_trace}

-- without outlets all goes straight to the backends
pub straight : {B : Type 0} (seen : B → Object) (form : RecordForm) (asked : ℕ) (own own_now : ℕ → History) (part part_now : Part) (backs backs_now : PerBackend (Back B)) (beat beat_now : Object) (flushed : Flushed)
    → Flushes form (GivesBackends seen) (λ old new. new ≡ old) asked own own_now part part_now backs backs_now beat beat_now flushed → (outlets : Bool) (room : OutletRoom) → HasOutRooms outlets room.buffers room.bytes None
    → FlushesThrough form (uses backs) outlets room asked own own_now part part_now (back_of seen backs) (back_of seen backs_now) beat beat_now flushed None
straight seen form asked own own_now part part_now backs backs_now beat beat_now flushed h true room has = absurd has
straight {B} seen form asked own own_now part part_now backs backs_now beat beat_now flushed h false room has =
    let made = h.flushes in
    let given = subst (λ (b : PerBackend (Back B)). GivesRounds form (GivesBackends seen) made.rounds backs b) (sym h.ended) made.made.given in
    record {
      rounds = made.rounds;
      swapped = made.made.swapped;
      fits = marks_fit seen form (uses backs) made.rounds backs backs_now (λ b. refl) given;
      counted = made.made.counted;
      called = made.made.called;
      outlet_traces = λ b. no_outlet_trace;
      through_outlets = λ b. refl;
      has = refl;
      are_counted = record { skips = λ b. refl; faults = λ b. refl };
      delivered = given_deliveries seen form made.rounds backs backs_now given;
      given = made.given;
      turns = made.turns;
      same = made.same;
      ends = made.ends;
      last = made.last;
    }

-- whether a text was queued, by what became of it
abbrev is_sent : Result ⊤ Skip → Bool
is_sent (Ok done) = true
is_sent (Err skip) = false

abbrev is_queued : Offer → Bool
is_queued f = is_sent f.offered

-- what was queued is what was chosen so
are_chosen : (offers : List Offer) → texts_queued offers ≡ chosen (map is_queued offers) (map (λ (f : Offer). f.text) offers)
are_chosen [] = refl
are_chosen (f ∷ offers) = by_answer f.offered (are_chosen offers) where
  by_answer : (a : Result ⊤ Skip) → texts_queued offers ≡ chosen (map is_queued offers) (map (λ (g : Offer). g.text) offers)
      → queued_by a f.text ++ texts_queued offers ≡ chosen (is_sent a ∷ map is_queued offers) (f.text ∷ map (λ (g : Offer). g.text) offers)
  by_answer (Ok done) rest = ap (λ (l : List (List ℕ)). f.text ∷ l) rest
  by_answer (Err skip) rest = rest

-- of these offers, behind so many texts that were sent, each that was sent fits a buffer, and each other one had a reason
abbrev Reasoned : Outlet → ℕ → List Offer → Type 0
Reasoned o before offers = AreChosen (record { buffers = buffers o; bytes = bytes_of o }) before (map is_queued offers) (map (λ (f : Offer). f.text) offers)

one_reasoned : (o : Outlet) (text : List ℕ) (offers : List Offer) (old mid : Feed) (a : Result ⊤ Skip) → AfterOffer a text o old mid → Reasoned o (length (sent mid)) offers
    → AreChosen (record { buffers = buffers o; bytes = bytes_of o }) (length (sent old)) (is_sent a ∷ map is_queued offers) (text ∷ map (λ (f : Offer). f.text) offers)
one_reasoned o text offers old mid (Ok done) one rest = (one.fits, subst (λ n. Reasoned o n offers) (ap length one.queued ∙ length-append (sent old) (text ∷ [])) rest)
one_reasoned o text offers old mid (Err (Long len)) one rest = (inl one.longer, subst (λ (f : Feed). Reasoned o (length (sent f)) offers) one.same rest)
one_reasoned o text offers old mid (Err Full) one rest = (inr (inl one.in_use), subst (λ (ts : List (List ℕ)). Reasoned o (length ts) offers) one.same rest)
one_reasoned o text offers old mid (Err (Spent sends)) one rest = (inr (inr one.all), subst (λ (f : Feed). Reasoned o (length (sent f)) offers) one.same rest)

are_reasoned : (o : Outlet) (offers : List Offer) (old new : Feed) → AfterOffers o offers old new → Reasoned o (length (sent old)) offers
are_reasoned o [] old new h = tt
are_reasoned o (f ∷ offers) old new h = one_reasoned o f.text offers old h.0 f.offered h.1 (are_reasoned o offers h.0 new h.2)

each_used : (ds : List Delivery) → EachUsed ds → AllByRecursion (λ (d : Delivery). FitsUse true d.mark) ds
each_used [] h = tt
each_used (d ∷ ds) h = (h.0, each_used ds h.1)

-- rounds that write to no backend leave it as it is
left_alone : (form : RecordForm) (b : Backend) (rounds : List Round) (o : Object) → AllByRecursion (MarksFit (λ c. false)) rounds → AfterDeliveries (round_deliveries form b rounds) o o
left_alone form b [] o h = refl
left_alone form b (r ∷ rounds) o h = (o, subst (λ m. deliveries.AfterMark m (round_text form b r) o o) (sym (h.0 b)) refl, left_alone form b rounds o h.1)

-- deliveries, and rounds behind them that write to no backend
with_rounds : (form : RecordForm) (b : Backend) (rounds : List Round) → AllByRecursion (MarksFit (λ c. false)) rounds → (ds : List Delivery) (old new : Object) → AfterDeliveries ds old new
    → AfterDeliveries (ds ++ round_deliveries form b rounds) old new
with_rounds form b rounds none [] old new h = subst (λ o. AfterDeliveries (round_deliveries form b rounds) old o) (sym h) (left_alone form b rounds old none)
with_rounds form b rounds none (d ∷ ds) old new h = (h.0, h.1, with_rounds form b rounds none ds h.0 new h.2)

-- marks of backends that aren't used fit so
fit_none : (rounds : List Round) → AllByRecursion (λ (r : Round). r.marks ≡ no_marks) rounds → AllByRecursion (MarksFit (λ c. false)) rounds
fit_none [] h = tt
fit_none (r ∷ rounds) h = ((λ b. ap (λ (m : Marks). at_backend m b) h.0 ∙ at_each (λ c. deliveries.NotUsed) b), fit_none rounds h.1)

-- no text, no delivery
no_delivery : (deliveries : List Delivery) (w : Worked) (old new : Object) → map (λ (d : Delivery). d.text) deliveries ≡ [] → AfterDeliveries deliveries old new
    → w.faults ≡ min (missed deliveries) last_count → (new ≡ old) × (w.faults ≡ 0)
no_delivery [] w old new none after faults = (after, omega (arith, faults))
no_delivery (d ∷ deliveries) w old new none after faults = absurd (let long : length (map (λ (e : Delivery). e.text) (d ∷ deliveries)) ≡ 0 = ap length none in omega (arith, long))

no_offer : (offers : List Offer) → map (λ (f : Offer). f.text) offers ≡ [] → texts_queued offers ≡ []
no_offer [] none = refl
no_offer (f ∷ offers) none = absurd (let long : length (map (λ (g : Offer). g.text) (f ∷ offers)) ≡ 0 = ap length none in omega (arith, long))

-- What was counted where an outlet was closed on which these texts were sent.
pub record WasClosed (used : Bool) (sent_texts : List (List ℕ)) (rounds : ℕ) (count : OutCount) (old new : Object) : Type 0 where
  pub skipped : count.skipped + length sent_texts ≡ offered_of used rounds
  pub worked : HasWorked sent_texts count.worked old new

module _ (room : OutRoom) (texts : List (List ℕ)) (feed feed_now : Feed) (none : sent feed ≡ []) (count : OutCount) (old new : Object) where
  -- what went through an outlet, and what its counts and its backend tell of that
  pub record WentOut (used : Bool) : Type 0 where
    pub flow : OutletTrace
    pub through_outlets : IsOutletTrace used (room_seen room) texts flow
    pub skips : count.skipped ≡ flow.skipped
    pub faults : count.worked.faults ≡ min (missed flow.queued) last_count
    pub delivered : AfterDeliveries flow.queued old new

  went_out : (used : Bool) → WasClosed used (sent feed_now) (length texts) count old new → HasOffered (offered_to used texts) (outlet_in room) feed feed_now → WentOut used
  went_out false was f =
      let queued : sent feed_now ≡ [] = (effects (outlet_in room) f.offers feed feed_now f.after).sent_are ∙ (λ i. none i ++ no_offer f.offers f.of_texts i) in
      let no = no_delivery was.worked.deliveries count.worked old new (was.worked.of_texts ∙ queued) was.worked.after was.worked.faults in
      record { flow = no_outlet_trace; through_outlets = refl; skips = (let skipped = was.skipped in omega (arith, skipped)); faults = no.1; delivered = no.0 }
  went_out true was f =
      let all : sent feed_now ≡ texts_queued f.offers = (effects (outlet_in room) f.offers feed feed_now f.after).sent_are ∙ ap (λ (l : List (List ℕ)). l ++ texts_queued f.offers) none in
      let long = length-map was.worked.deliveries (λ (d : Delivery). d.text) in
      let queued = ap length was.worked.of_texts in
      record {
        flow = record { queued = was.worked.deliveries; skipped = count.skipped };
        through_outlets = record {
          choice = map is_queued f.offers;
          chosen_so = subst (AreChosen (room_seen room) 0 (map is_queued f.offers)) f.of_texts
              (subst (λ n. AreChosen (room_seen room) n (map is_queued f.offers) (map (λ (o : Offer). o.text) f.offers)) (ap length none)
              (are_reasoned (outlet_in room) f.offers feed feed_now f.after));
          queued = was.worked.of_texts ∙ all ∙ are_chosen f.offers ∙ ap (chosen (map is_queued f.offers)) f.of_texts;
          used = each_used was.worked.deliveries was.worked.used;
          others = (let skipped = was.skipped in omega (arith, long, queued, skipped));
        };
        skips = refl;
        faults = was.worked.faults;
        delivered = was.worked.after;
      }

-- how many texts a feed has sent is at most how many were offered at its outlet
pub few_sent : (used : Bool) (texts : List (List ℕ)) (o : Outlet) (feed feed_now : Feed) → sent feed ≡ [] → HasOffered (offered_to used texts) o feed feed_now → length (sent feed_now) ≤ offered_of used (length texts)
few_sent used texts o feed feed_now none f =
    let all : length (sent feed_now) ≡ length (texts_queued f.offers) = ap length ((effects o f.offers feed feed_now f.after).sent_are ∙ ap (λ (l : List (List ℕ)). l ++ texts_queued f.offers) none) in
    let few = few_queued f.offers in
    let count = sym (length-map f.offers (λ (x : Offer). x.text)) ∙ ap length f.of_texts ∙ offered_long used in
    omega (arith, all, few, count) where
      offered_long : (u : Bool) → length (offered_to u texts) ≡ offered_of u (length texts)
      offered_long true = refl
      offered_long false = refl

-- with outlets all goes through them
module _ (form : RecordForm) (used : Backend → Bool) (outlets : PerBackend Outlet) (asked : ℕ) (own own_now : ℕ → History) (part part_now : Part) (beat beat_now : Object) (flushed : Flushed) (leads leads_now : Leads)
    (opened : AreLeadsOf used outlets leads) (ready : AreReadyLeads leads_now)
    (h : Flushes form GivesOutlets StopsLeads asked own own_now part part_now leads leads_now beat beat_now flushed) where
  abbrev rounds : List Round
  rounds = h.flushes.rounds

  abbrev texts : Backend → List (List ℕ)
  texts b = map (round_text form b) rounds

  -- the feed of a backend's outlet, at first and once all texts were offered
  abbrev feed : Backend → Feed
  feed b = feed_in (lead_at leads b)

  abbrev feed_mid : Backend → Feed
  feed_mid b = feed_in (lead_at h.given_all b)

  offers : (b : Backend) → Offers (texts b) (lead_at leads b) (lead_at h.given_all b)
  offers = given_offers form rounds leads h.given_all h.flushes.made.given

  offered : (b : Backend) → HasOffered (offered_to (used b) (texts b)) (at outlets b) (feed b) (feed_mid b)
  offered b =
      subst (λ (o : Outlet). HasOffered (offered_to (used b) (texts b)) o (feed b) (feed_mid b)) (opened.outlets_are b)
      (subst (λ (u : Bool). HasOffered (offered_to u (texts b)) (outlet_of (lead_at leads b)) (feed b) (feed_mid b)) (opened.used_are b) (offers b).offered)

  -- the feed is stopped since
  abbrev feed_now : Backend → Feed
  feed_now b = feed_in (lead_at leads_now b)

  sent_same : (b : Backend) → sent (feed_now b) ≡ sent (feed_mid b)
  sent_same b = (h.ended b).stopped.same

  counted : (b : Backend) → flushed.rounds ≡ length (texts b)
  counted b = h.flushes.count ∙ sym (length-map rounds (round_text form b))

  -- the feed is the outlet's
  pub is_feed : (b : Backend) → IsFeedOf (at outlets b) (feed_now b)
  is_feed b = subst (λ (o : Outlet). IsFeedOf o (feed_now b)) ((h.ended b).same.outlet ∙ (offers b).same.outlet ∙ opened.outlets_are b) (ready b).feed_is

  -- it has sent no more than was offered
  pub few_sends : (b : Backend) → sends_of (feed_now b) ≤ offered_of (used b) flushed.rounds
  few_sends b =
      let few = few_sent (used b) (texts b) (at outlets b) (feed b) (feed_mid b) (opened.none b) (offered b) in
      let sends = (is_feed b).counted in
      let same = ap length (sent_same b) in
      let all = ap (offered_of (used b)) (counted b) in
      omega (arith, few, sends, same, all)

  module _ (rooms : PerBackend OutRoom) (counts : PerBackend OutCount) (back back_now : Backend → Object) (outlets_are : (b : Backend) → at outlets b ≡ outlet_in (at rooms b))
      (was : (b : Backend) → WasClosed (used b) (sent (feed_now b)) flushed.rounds (at counts b) (back b) (back_now b)) where
    went : (b : Backend) → WentOut (at rooms b) (texts b) (feed b) (feed_mid b) (opened.none b) (at counts b) (back b) (back_now b) (used b)
    went b =
        went_out (at rooms b) (texts b) (feed b) (feed_mid b) (opened.none b) (at counts b) (back b) (back_now b) (used b)
        (subst (λ (l : List (List ℕ)). WasClosed (used b) l (length (texts b)) (at counts b) (back b) (back_now b)) (sent_same b)
        (subst (λ (n : ℕ). WasClosed (used b) (sent (feed_now b)) n (at counts b) (back b) (back_now b)) (counted b) (was b)))
        (subst (λ (o : Outlet). HasOffered (offered_to (used b) (texts b)) o (feed b) (feed_mid b)) (outlets_are b) (offered b))

    pub through : (outlets : Bool) (room : OutletRoom) → HasOutRooms outlets room.buffers room.bytes (Some rooms) → FlushesThrough form used outlets room asked own own_now part part_now back back_now beat beat_now flushed (Some counts)
    through false room has = absurd has
    through true room has =
        let made = h.flushes in
        let none = fit_none rounds (none_marked form rounds leads h.given_all made.made.given) in
        record {
          rounds = rounds;
          swapped = made.made.swapped;
          fits = none;
          counted = made.made.counted;
          called = made.made.called;
          outlet_traces = λ b. (went b).flow;
          through_outlets = λ b. subst (λ (r : OutletRoom). IsOutletTrace (used b) r (texts b) (went b).flow) (λ i. record { buffers = (has b).count i; bytes = (has b).size i }) (went b).through_outlets;
          has = refl;
          are_counted = record { skips = λ b. (went b).skips; faults = λ b. (went b).faults };
          delivered = λ b. with_rounds form b rounds none (went b).flow.queued (back b) (back_now b) (went b).delivered;
          given = made.given;
          turns = made.turns;
          same = made.same;
          ends = made.ends;
          last = made.last;
        }
