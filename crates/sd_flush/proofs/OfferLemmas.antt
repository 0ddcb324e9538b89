-- Texts that were offered to outlets, one after another.
use Rattle.std.proofs.Common.{◌≡◌, ℕ, ◌+◌, ◌≤◌, Bool, true, false, List, [], ◌∷◌, ◌++◌, length, map, refl, sym, ap, subst, ◌∙◌, append-nil, append_assoc, arith, length-append}
use Rattle.std.specs.Prelude.{Result, Ok, Err, ⊤}
use Rattle.std.specs.List.{AllByRecursion}
use Rattle.std.proofs.lemmas.List.{map-append}
use Rattle.sd_model_outside.specs.Backend.{Backend}
use Rattle.sd_model_serve.specs.Rounds.{Round, RecordForm, round_text}
use Rattle.sd_outlet.specs.declared.feed.Feed.{Feed}
use Rattle.sd_outlet.specs.declared.outlet.Outlet.{Outlet}
use Rattle.sd_outlet.specs.Feed.{sent, stopped_at}
use Rattle.sd_delivery.specs.declared.outlets.Lead.{Lead}
use Rattle.sd_delivery.specs.declared.outlets.Leads.{Leads}
use Rattle.sd_delivery.specs.declared.outlets.Skip.{Skip}
use Rattle.sd_delivery.specs.declared.outlets.Skip.TheVariants.{Long, Full, Spent}
use Rattle.sd_delivery.specs.Leads.{GivesOutlets, IsSameLead, Offers, lead_at, offered_to, outlet_in, no_marks}
use Rattle.sd_flush.specs.Made.{GivesRounds}
use Rattle.sd_delivery.specs.Offers.{AfterOffer, AfterOffers, HasOffered, Offer, queued_by, texts_queued}

-- What texts leave at an outlet: those that were sent.
pub record Effects (queued : List (List ℕ)) (old new : Feed) : Type 0 where
  pub sent_are : sent new ≡ sent old ++ queued
  pub stopped : stopped_at new ≡ stopped_at old

-- of one text
effect : (offered : Result ⊤ Skip) (text : List ℕ) (o : Outlet) (old new : Feed) → AfterOffer offered text o old new → Effects (queued_by offered text) old new
effect (Ok done) text o old new h = record { sent_are = h.queued; stopped = h.stopped }
effect (Err (Long len)) text o old new h = record { sent_are = ap sent h.same ∙ sym (append-nil (sent old)); stopped = ap stopped_at h.same }
effect (Err Full) text o old new h = record { sent_are = h.same ∙ sym (append-nil (sent old)); stopped = h.stopped }
effect (Err (Spent sends)) text o old new h = record { sent_are = ap sent h.same ∙ sym (append-nil (sent old)); stopped = ap stopped_at h.same }

-- of all
pub effects : (o : Outlet) (offers : List Offer) (old new : Feed) → AfterOffers o offers old new → Effects (texts_queued offers) old new
effects o [] old new h = record { sent_are = ap sent h ∙ sym (append-nil (sent old)); stopped = ap stopped_at h }
effects o (f ∷ offers) old new h =
    let first = effect f.offered f.text o old h.0 h.1 in
    let rest = effects o offers h.0 new h.2 in
    record {
      sent_are = rest.sent_are ∙ ap (λ (l : List (List ℕ)). l ++ texts_queued offers) first.sent_are ∙ append_assoc (sent old) (queued_by f.offered f.text) (texts_queued offers);
      stopped = rest.stopped ∙ first.stopped;
    }

-- a text is sent once at most
one_queued : (offered : Result ⊤ Skip) (text : List ℕ) → length (queued_by offered text) ≤ 1
one_queued (Ok done) text = omega arith
one_queued (Err skip) text = omega arith

-- no more are sent than are offered
pub few_queued : (offers : List Offer) → length (texts_queued offers) ≤ length offers
few_queued [] = omega arith
few_queued (f ∷ offers) = omega (arith, one_queued f.offered f.text, few_queued offers, length-append (queued_by f.offered f.text) (texts_queued offers))

-- offers, and more of them
after_more : (o : Outlet) (offers more : List Offer) (old mid new : Feed) → AfterOffers o offers old mid → AfterOffers o more mid new → AfterOffers o (offers ++ more) old new
after_more o [] more old mid new h rest = subst (λ (f : Feed). AfterOffers o more f new) h rest
after_more o (f ∷ offers) more old mid new h rest = (h.0, h.1, after_more o offers more h.0 mid new h.2 rest)

offered_more : (texts more : List (List ℕ)) (o : Outlet) (old mid new : Feed) → HasOffered texts o old mid → HasOffered more o mid new → HasOffered (texts ++ more) o old new
offered_more texts more o old mid new h rest = record {
  offers = h.offers ++ rest.offers;
  of_texts = map-append (λ (f : Offer). f.text) h.offers rest.offers ∙ (λ i. h.of_texts i ++ rest.of_texts i);
  after = after_more o h.offers rest.offers old mid new h.after rest.after;
}

-- what is offered of texts and of more of them
offered_both : (used : Bool) (texts more : List (List ℕ)) → offered_to used (texts ++ more) ≡ offered_to used texts ++ offered_to used more
offered_both true texts more = refl
offered_both false texts more = refl

-- of no text nothing is offered
offered_nothing : (used : Bool) (o : Outlet) (f : Feed) → HasOffered (offered_to used []) o f f
offered_nothing true o f = record { offers = []; of_texts = refl; after = refl }
offered_nothing false o f = record { offers = []; of_texts = refl; after = refl }

pub no_offers : (lead : Lead) → Offers [] lead lead
no_offers lead = record { same = record { used = refl; outlet = refl }; offered = offered_nothing lead.used lead.outlet.now lead.feed }

more_offers : (texts more : List (List ℕ)) (old mid new : Lead) → Offers texts old mid → Offers more mid new → Offers (texts ++ more) old new
more_offers texts more old mid new h rest = record {
  same = record { used = rest.same.used ∙ h.same.used; outlet = rest.same.outlet ∙ h.same.outlet };
  offered = subst (λ (l : List (List ℕ)). HasOffered l old.outlet.now old.feed new.feed) (sym (offered_both old.used texts more))
      (offered_more (offered_to old.used texts) (offered_to old.used more) old.outlet.now old.feed mid.feed new.feed h.offered
      (subst (λ (u : Bool). HasOffered (offered_to u more) old.outlet.now mid.feed new.feed) h.same.used
      (subst (λ (o : Outlet). HasOffered (offered_to mid.used more) o mid.feed new.feed) h.same.outlet rest.offered)));
}

module _ (form : RecordForm) where
  -- the texts of rounds were offered, in order
  pub given_offers : (rounds : List Round) (old new : Leads) → GivesRounds form GivesOutlets rounds old new → (b : Backend) → Offers (map (round_text form b) rounds) (lead_at old b) (lead_at new b)
  given_offers [] old new h b = subst (Offers [] (lead_at old b)) (sym (ap (λ (leads : Leads). lead_at leads b) h)) (no_offers (lead_at old b))
  given_offers (r ∷ rounds) old new h b = more_offers (round_text form b r ∷ []) (map (round_text form b) rounds) (lead_at old b) (lead_at h.0 b) (lead_at new b) (h.1.offers b) (given_offers rounds h.0 new h.2 b)

  -- the marks of the rounds are those of backends that aren't used
  pub none_marked : (rounds : List Round) (old new : Leads) → GivesRounds form GivesOutlets rounds old new → AllByRecursion (λ (r : Round). r.marks ≡ no_marks) rounds
  none_marked [] old new h = tt
  none_marked (r ∷ rounds) old new h = (h.1.unused, none_marked rounds h.0 new h.2)
