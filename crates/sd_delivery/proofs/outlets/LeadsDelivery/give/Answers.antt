use Rattle.std.proofs.Math.Path.{fun_ext}
use Rattle.std.proofs.Common.{[], ◌∷◌, ap, subst}
use Rattle.sd_desk.specs.Marks.{mark_of}
use Rattle.sd_model_outside.specs.Backend.{Graphite, Console, each_of}
use Rattle.sd_model_record.specs.Backends.{console_text, text_of}
use Rattle.sd_model_record.specs.Record.{Record}
use Rattle.sd_record.specs.Record.{record_view}
use Rattle.sd_delivery.specs.Leads.{Offers, lead_at}
use Rattle.sd_delivery.specs.declared.outlets.Leads.{Leads}
use Rattle.sd_outside.proofs.BackendLemmas.{at_both}
use Rattle.sd_delivery.proofs.outlets.LeadsDelivery.give.Goals as goal

pub offer-requires : goal.offer-requires
offer-requires g c = record { ready = c.requires.ready Graphite }

pub offer-requires-2 : goal.offer-requires-2
offer-requires-2 g c = record { ready = c.requires.ready Console }

-- the record is the same after Graphite's turn
pub returns-clause-gives : goal.returns-clause-gives
returns-clause-gives g c =
    let new : Leads = record { graphite = c.offer.new.lead; console = c.offer-2.new.lead } in
    record {
      unused = ap each_of (fun_ext (λ b. ap mark_of (c.of.ensures b)));
      offers = at_both (λ b. Offers (text_of c.args.names.now b (record_view c.args.rec.now) ∷ []) (lead_at c.args.self.now b) (lead_at new b)) c.offer.ensures.offers
          (subst (λ (r : Record). Offers (console_text r ∷ []) c.args.self.now.console c.offer-2.new.lead) c.offer.ensures.record c.offer-2.ensures.offers);
    }
