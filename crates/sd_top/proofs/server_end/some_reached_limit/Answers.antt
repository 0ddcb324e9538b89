use Rattle.std.proofs.Common.{◌∷◌, map, ap, sym, ◌∙◌}
use Rattle.std.specs.Prelude.{◌||◌}
use Rattle.std.specs.Option.{option_to_list}
use Rattle.std.specs.List.{list_any}
use Rattle.sd_model_call.specs.Server.{reached_limit}
use Rattle.sd_serve.specs.Serving.{door_end_of, end_of}
use Rattle.sd_top.proofs.ServerLemmas.{limit_among}
use Rattle.sd_top.proofs.server_end.some_reached_limit.Goals as goal

pub returns-then-any_reached_limit : goal.returns-then-any_reached_limit
returns-then-any_reached_limit c =
    let es = end_of c.args.ends.now.flusher.ended ∷ door_end_of c.args.ends.now.keeper ∷ map door_end_of (option_to_list c.args.ends.now.line_reader) in
    c.if-any_reached_limit.true ∙ sym (limit_among c.args.received.now es ∙ ap (λ a. a || list_any reached_limit es) (sym c.any_reached_limit.ensures ∙ c.if-any_reached_limit.true))

pub returns-else-any_reached_limit : goal.returns-else-any_reached_limit
returns-else-any_reached_limit c =
    let es = end_of c.args.ends.now.flusher.ended ∷ door_end_of c.args.ends.now.keeper ∷ map door_end_of (option_to_list c.args.ends.now.line_reader) in
    c.other_reached_limit.ensures ∙ sym (limit_among c.args.received.now es ∙ ap (λ a. a || list_any reached_limit es) (sym c.any_reached_limit.ensures ∙ c.if-any_reached_limit.false))
