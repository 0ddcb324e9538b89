-- The history of a proxy's desk goes on by a call, and is told by all seats at the end.
use Rattle.std.proofs.Common.{◌≡◌, ◌<◌, ℕ, Bool, true, false, cond, eqb, List, [], ◌∷◌, ◌++◌, refl, sym, ap, subst, ◌∙◌}
use Rattle.std.proofs.lemmas.List.{map_push}
use Rattle.std.proofs.lemmas.List.Elements.{All-map, All-weaker}
use Rattle.sd_model_live.specs.Port.{AreActs, IsHeard, ProxyAct, ProxyEvent, ProxyFacts, done_by, facts_after, first_facts}
use Rattle.sd_proxy_desk.specs.Left.{facts_left}
use Rattle.sd_turn.specs.Entries.{entries_by, pick}
use Rattle.sd_turn.specs.Turn as turn
use Rattle.sd_proxy_desk.specs.declared.ask.ProxyAsk.{ProxyAsk}
use Rattle.sd_proxy_desk.specs.declared.ask.ProxyReply.{ProxyReply}
use Rattle.sd_proxy_desk.specs.declared.desk.ProxyDesk.{ProxyDesk}
use Rattle.sd_proxy_desk.specs.declared.noted.Noted.{Noted}
use Rattle.sd_proxy_desk.specs.Asks.{Does, act_in, acts, entry_of, event_in, event_of, events}
use Rattle.sd_proxy_desk.specs.Behind.{Behind, Stands}
use Rattle.sd_proxy_desk.specs.Shared.{History, OwnSeat, events_of, number_of_seat, seats_of}
use Rattle.sd_model_live.proofs.Short.{IsProxyHistory}

-- acts with one more are acts where it was told the facts that those before left
acts_more : (f : ProxyFacts) (log : List ProxyAct) (a : ProxyAct) → AreActs f log → IsHeard (facts_left f log) a.event → AreActs f (log ++ a ∷ [])
acts_more f [] a are promised = (promised, tt)
acts_more f (b ∷ log) a are promised = (are.0, acts_more (facts_after f b.event) log a are.1 promised)

-- the facts after one act more
left_more : (f : ProxyFacts) (log : List ProxyAct) (a : ProxyAct) → facts_left f (log ++ a ∷ []) ≡ facts_after (facts_left f log) a.event
left_more f [] a = refl
left_more f (b ∷ log) a = left_more (facts_after f b.event) log a

-- what an ask leaves stands for the history with its entry
pub Stands-push : (old new : Behind) (log : List Noted) (number : ℕ) (ask : ProxyAsk) (reply : ProxyReply) → Stands old log → Does old.facts ask new.facts reply → Stands new (log ++ entry_of number ask reply ∷ [])
Stands-push old new log number ask reply stands does =
    let n = entry_of number ask reply in
    let e = event_of ask reply in
    let pushed = map_push act_in log n in
    record {
      legal = subst IsProxyHistory (sym pushed) (acts_more first_facts (acts log) (act_in n) stands.legal (subst (λ (f : ProxyFacts). IsHeard f e) stands.left does.promised));
      left = does.changed ∙ ap (λ (f : ProxyFacts). facts_after f e) stands.left ∙ sym (left_more first_facts (acts log) (act_in n)) ∙ ap (facts_left first_facts) (sym pushed);
    }

-- what a seat's caller did, with one entry more
pub events_more : (old new : OwnSeat) (ask : ProxyAsk) (reply : ProxyReply) → turn.own new ≡ turn.own old ++ entry_of (number_of_seat old) ask reply ∷ [] → events_of new ≡ events_of old ++ event_of ask reply ∷ []
events_more old new ask reply own = ap events own ∙ map_push event_in (turn.own old) (entry_of (number_of_seat old) ask reply)

-- the events of a seat's entries are those of its number
events_own : (n : ℕ) (log : List Noted) → events (entries_by (λ e. e.number) n log) ≡ done_by n (acts log)
events_own n [] = refl
events_own n (e ∷ log) = by_test (eqb e.number n) (events_own n log) where
  by_test : (b : Bool) → events (entries_by (λ e. e.number) n log) ≡ done_by n (acts log) → events (pick b e (entries_by (λ e. e.number) n log)) ≡ cond b (event_in e ∷ done_by n (acts log)) (done_by n (acts log))
  by_test true rest = ap (λ (l : List ProxyEvent). event_in e ∷ l) rest
  by_test false rest = rest

-- the one history of the desk
pub history : (desk : ProxyDesk) (seats : List OwnSeat) (b : Behind) → turn.History desk.turn seats b → History desk seats b.facts
history desk seats b h = record {
  log = acts h.log;
  legal = h.legal;
  left = h.stands.left;
  own = All-weaker (λ (s : OwnSeat). turn.own s ≡ entries_by (λ (e : Noted). e.number) (number_of_seat s) h.log) (λ (s : OwnSeat). events_of s ≡ done_by (number_of_seat s) (acts h.log))
      (λ s is. ap events is ∙ events_own (number_of_seat s) h.log) seats h.entries;
  inside = All-map (λ (a : ProxyAct). a.who < seats_of desk) act_in h.log h.inside;
}
