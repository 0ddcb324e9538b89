use Rattle.std.proofs.Common.{Bool, [], ◌∷◌, refl, sym, subst}
use Rattle.sd_record.specs.Record.{record_view}
use Rattle.sd_delivery.specs.Leads.{offered_to}
use Rattle.sd_delivery.specs.Offers.{HasOffered}
use Rattle.sd_delivery.proofs.outlets.offer.Goals as goal

pub returns-clause-offers : goal.returns-clause-offers
returns-clause-offers g c =
    let text = g.T.RecordText.text_of c.args.form.now (record_view c.args.rec.now) in
    let lead = c.args.lead.now in
    record {
      same = record { used = refl; outlet = refl };
      offered = subst (λ (used : Bool). HasOffered (offered_to used (text ∷ [])) lead.outlet.now lead.feed c.offer_text-offered.new.feed) (sym c.if-not-lead.false)
          (record { offers = record { text = text; offered = c.offer_text-offered.result } ∷ []; of_texts = refl; after = (c.offer_text-offered.new.feed, c.offer_text-offered.ensures.offered, refl) });
    }
