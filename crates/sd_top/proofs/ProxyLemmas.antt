-- The proxy: settings that are those of one, and its account.
use Rattle.std.proofs.Common.{◌≡◌, ℕ, List, [], ◌∷◌, ◌++◌, map, codes, None, inl, inr, refl, sym, ap, subst, ◌∙◌}
use Rattle.sd_model_outside.specs.Outside.{File, Object}
use Rattle.sd_model_settings.specs.Settings as file
use Rattle.sd_model_record.specs.Totals.{totals_text}
use Rattle.sd_model_call.specs.Opening.{IsAccepted, World, settled}
use Rattle.sd_model_call.specs.Call.{Answer, StopsAmong, WritesTotals}
use Rattle.sd_model_call.specs.Proxy.{ProxyAccounts, proxy_flaw, proxy_openings, relay_text}
use Rattle.sd_model_call.specs.Server.{ends_answer}
use Rattle.sd_proxy_desk.specs.Checking as checking
use Rattle.sd_outside.specs.declared.datagrams.Ended.{Ended}
use Rattle.sd_outside.specs.declared.datagrams.Ended.TheVariants.{End, Failed, Stopped, Worn}
use Rattle.sd_proxy.specs.Views.{end_view}
use Rattle.sd_relay.specs.declared.relaying.Relayed.{Relayed}
use Rattle.sd_serve.specs.Serving.{end_of}
use Rattle.sd_top.specs.Relaying.{HasRelayed, relay_answer, relay_lines}
use Rattle.sd_model_call.proofs.Short.{proxy_answer}

-- the ends of receivers, as a server's and as a proxy's crate see them
same_ends : (ends : List Ended) → map end_of ends ≡ map end_view ends
same_ends [] = refl
same_ends (End ∷ ends) = ap (λ es. end_view End ∷ es) (same_ends ends)
same_ends (Failed ∷ ends) = ap (λ es. end_view Failed ∷ es) (same_ends ends)
same_ends (Stopped rounds ∷ ends) = ap (λ es. end_view (Stopped rounds) ∷ es) (same_ends ends)
same_ends (Worn turns ∷ ends) = ap (λ es. end_view (Worn turns) ∷ es) (same_ends ends)

module _ (name : List ℕ) (values : file.Settings) (settings : Object) (old new : World) (taken : IsAccepted values (File name) old.settings settings) (fit : proxy_flaw values ≡ None) where
  -- the proxy couldn't be begun
  pub proxy_stopped : (answer : Answer) → StopsAmong (proxy_openings values) answer (settled values settings old) new → ProxyAccounts name answer old new
  proxy_stopped answer stops = inr (inr (inl (record { not_begun = record { values = values; settings = settings; taken = taken; stops = stops }; fits = fit })))

  -- it ran, and its totals were written
  pub proxy_ran : (r : Relayed) (answer : Answer) (mid : World) (output : Object) → HasRelayed values (settled values settings old) mid r → new ≡ record mid { seen = record mid.seen { output = output } }
      → WritesTotals (relay_lines r.sums r.checked) (relay_answer r.received.items r.checked) answer old.seen.output output → ProxyAccounts name answer old new
  proxy_ran r answer mid output h is written =
      let x = h.relayed in
      let text : relay_lines r.sums r.checked ≡ relay_text values.lists.nodes (x.relays ++ x.line_relays) x.checks = (λ i. totals_text (x.sums i ++ (codes "checks", x.checked i) ∷ (codes "probe_faults", x.faults i) ∷ [])) in
      let ends = same_ends r.received.items ∙ x.received in
      let whole : relay_answer r.received.items r.checked ≡ proxy_answer x.relays (checking.end_view r.checked.ended) = (λ i. ends_answer (ends i) (checking.end_view r.checked.ended) []) in
      subst (λ (w : World). ProxyAccounts name answer old w) (sym (is ∙ ap (λ (w : World). record w { seen = record w.seen { output = output } }) h.others))
      (inr (inr (inr (record {
        values = values;
        settings = settings;
        taken = taken;
        fits = fit;
        relays = x.relays;
        count = x.count;
        line_relays = x.line_relays;
        one = x.one;
        checks = x.checks;
        checker_ended = checking.end_view r.checked.ended;
        theorem = x.theorem;
        written = subst (λ t. WritesTotals t (proxy_answer x.relays (checking.end_view r.checked.ended)) answer old.seen.output output) text (subst (λ a. WritesTotals (relay_lines r.sums r.checked) a answer old.seen.output output) whole written);
        others = refl;
      }))))
