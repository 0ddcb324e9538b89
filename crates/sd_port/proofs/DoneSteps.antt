-- What a thread did, one thing behind another.
use Rattle.std.proofs.Common.{◌≡◌, ◌∙◌, ℕ, List, [], ◌∷◌, ◌++◌, append-nil, append_assoc, refl, sym, ap, subst}
use Rattle.std.specs.Prelude.{flat_map}
use Rattle.sd_model_live.specs.Port.{ProxyEvent, PortExchange, line_events}
use Rattle.sd_live.specs.Live.{looks_of, seen}
use Rattle.sd_proxy_desk.specs.Shared.{events_of}
use Rattle.sd_proxy_desk.specs.declared.hub.ProxyPass.{ProxyPass}
use Rattle.sd_talk.specs.Answers.{Along}
use Rattle.sd_port.specs.Doing.{HasDone}
use Rattle.sd_port.specs.Answering.{HasAnswered}
use Rattle.sd_port.specs.declared.answerer.PortAnswerer.{PortAnswerer}
use Rattle.sd_port.proofs.LookSteps.{looks-none, looks-more}
use Rattle.sd_model_live.proofs.Short.{line_looks}

-- nothing
pub done-none : (own : ProxyPass) → HasDone [] [] own own
done-none own = record {
  did = sym (append-nil (events_of own.seat));
  number = refl;
  publishes = refl;
  looked = looks-none (seen own.pass) (looks_of own.pass);
}

-- more
pub done-more : (events more : List ProxyEvent) (ups next : List ℕ) (own mid own_now : ProxyPass) → HasDone events ups own mid → HasDone more next mid own_now → HasDone (events ++ more) (ups ++ next) own own_now
done-more events more ups next own mid own_now h g = record {
  did = g.did ∙ ap (λ (l : List ProxyEvent). l ++ more) h.did ∙ append_assoc (events_of own.seat) events more;
  number = g.number ∙ h.number;
  publishes = g.publishes ∙ h.publishes;
  looked = looks-more (seen own.pass) (seen mid.pass) (seen own_now.pass) (looks_of own.pass) (looks_of mid.pass) (looks_of own_now.pass) ups next h.looked g.looked;
}

-- What an answerer did in lines: it works with the same seat and pass, and did with them what the lines do.
pub record HasAnsweredAll (es : List PortExchange) (old new : PortAnswerer) : Type 0 where
  pub works : new.own.ghost_name ≡ old.own.ghost_name
  pub done : HasDone (flat_map line_events es) (flat_map line_looks es) old.own.now new.own.now

-- an answerer did in lines what each of them leads to
pub answered_all : (es : List PortExchange) (old new : PortAnswerer) → Along HasAnswered es old new → HasAnsweredAll es old new
answered_all [] old new same = subst (HasAnsweredAll [] old) (sym same) (record { works = refl; done = done-none old.own.now })
answered_all (e ∷ es) old new along =
    let rest = answered_all es along.0 new along.2 in
    record {
      works = rest.works ∙ along.1.works;
      done = done-more (line_events e) (flat_map line_events es) (line_looks e) (flat_map line_looks es) old.own.now along.0.own.now new.own.now along.1.executed rest.done;
    }
