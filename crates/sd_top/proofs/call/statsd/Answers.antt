use Rattle.std.proofs.Common.{◌≡◌, Option, Some, map, string_bytes, refl, sym, ap, ◌∙◌, option_map}
use Rattle.sd_model_call.specs.Call as model
use Rattle.sd_model_call.proofs.WordsLemmas.{drill_read}
use Rattle.sd_opening.specs.Words.{form_view}
use Rattle.sd_opening.specs.declared.words.Form.{Form}
use Rattle.sd_top.proofs.CallLemmas.{by_words, by_files, by_own, by_drill}
use Rattle.sd_top.proofs.call.statsd.Goals as goal

-- what the words ask for, where it was told as this form
asked : (form : Option model.Form) (reported : Option Form) (f g : Form) → option_map form_view reported ≡ form → reported ≡ Some f → f ≡ g → form ≡ Some (form_view g)
asked form reported f g views some same = sym views ∙ ap (option_map form_view) some ∙ ap (λ h. Some (form_view h)) same

pub returns-in-None : goal.returns-in-None
returns-in-None g c =
    let asks = sym c.form_of.ensures ∙ ap (option_map form_view) c.in-None.is in
    record { accounting = by_words _ _ asks; serving = rw asks tt; proxying = rw asks tt }

pub returns-in-Some-Replay : goal.returns-in-Some-Replay
returns-in-Some-Replay g c =
    let asks = asked _ _ _ _ c.form_of.ensures c.in-Some-Replay.is c.in-Some-Replay.field-0-is in
    record { accounting = by_files _ _ _ _ _ _ asks c.replay_files.ensures; serving = rw asks tt; proxying = rw asks tt }

pub returns-in-Some-Serve : goal.returns-in-Some-Serve
returns-in-Some-Serve g c =
    let asks = asked _ _ _ _ c.form_of.ensures c.in-Some-Serve.is c.in-Some-Serve.field-0-is in
    record { accounting = by_own _ _ _ _ _ asks (refl, refl); serving = rw asks c.serve_files.ensures; proxying = rw asks tt }

pub returns-in-Some-Proxy : goal.returns-in-Some-Proxy
returns-in-Some-Proxy g c =
    let asks = asked _ _ _ _ c.form_of.ensures c.in-Some-Proxy.is c.in-Some-Proxy.field-0-is in
    record { accounting = by_own _ _ _ _ _ asks (refl, refl); serving = rw asks tt; proxying = rw asks c.proxy_files.ensures }

pub drill-requires-clause-some : goal.drill-requires-clause-some
drill-requires-clause-some g c = (drill_read (map (λ w. string_bytes w) c.args.words.now) _ (asked _ _ _ _ c.form_of.ensures c.in-Some-Drill.is c.in-Some-Drill.field-0-is)).1

pub drill-requires-clause-most : goal.drill-requires-clause-most
drill-requires-clause-most g c = (drill_read (map (λ w. string_bytes w) c.args.words.now) _ (asked _ _ _ _ c.form_of.ensures c.in-Some-Drill.is c.in-Some-Drill.field-0-is)).2

pub returns-in-Some-Drill : goal.returns-in-Some-Drill
returns-in-Some-Drill g c =
    let asks = asked _ _ _ _ c.form_of.ensures c.in-Some-Drill.is c.in-Some-Drill.field-0-is in
    record { accounting = by_drill _ _ _ _ _ asks c.drill.ensures; serving = rw asks tt; proxying = rw asks tt }
