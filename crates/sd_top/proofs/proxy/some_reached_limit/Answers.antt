use Rattle.std.proofs.Common.{◌∷◌, [], false, ap, sym, ◌∙◌}
use Rattle.std.specs.Prelude.{◌||◌}
use Rattle.std.proofs.Math.Bool.{or-false}
use Rattle.sd_model_call.specs.Server.{reached_limit}
use Rattle.sd_proxy_desk.specs.Checking.{end_view}
use Rattle.sd_top.proofs.ServerLemmas.{limit_among}
use Rattle.sd_top.proofs.proxy.some_reached_limit.Goals as goal

pub returns-then-any_reached_limit : goal.returns-then-any_reached_limit
returns-then-any_reached_limit c =
    let k = reached_limit (end_view c.args.checked.now.ended) in
    let among = limit_among c.args.received.now (end_view c.args.checked.now.ended ∷ []) in
    c.if-any_reached_limit.true ∙ sym (among ∙ ap (λ a. a || (k || false)) (sym c.any_reached_limit.ensures ∙ c.if-any_reached_limit.true))

pub returns-else-any_reached_limit : goal.returns-else-any_reached_limit
returns-else-any_reached_limit c =
    let k = reached_limit (end_view c.args.checked.now.ended) in
    let among = limit_among c.args.received.now (end_view c.args.checked.now.ended ∷ []) in
    c.checker_reached_limit.ensures ∙ sym (among ∙ ap (λ a. a || (k || false)) (sym c.any_reached_limit.ensures ∙ c.if-any_reached_limit.false) ∙ or-false k)
