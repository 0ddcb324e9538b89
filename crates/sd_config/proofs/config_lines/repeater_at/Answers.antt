use Rattle.std.proofs.Common.{◌∙◌, ap, Some, None, codes}
use Rattle.sd_plan.specs.Entries.{target_view}
use Rattle.sd_config.proofs.ConfigPlaces.{through, got, got_none}
use Rattle.sd_config.proofs.config_lines.repeater_at.Goals as goal
use Rattle.sd_model_settings.proofs.Short.{repeater_line}

pub returns-in-Some : goal.returns-in-Some
returns-in-Some c = ap (λ l. Some l) c.repeater_line.ensures ∙ through target_view (repeater_line (codes "repeater")) c.args.repeater.now c.args.place (Some c.in-Some.target.now) (got c.args.repeater.now c.args.place c.in-Some.target c.in-Some.ensures.lookup)

pub returns-in-None : goal.returns-in-None
returns-in-None c = through target_view (repeater_line (codes "repeater")) c.args.repeater.now c.args.place None (got_none c.args.repeater.now c.args.place c.in-None.ensures.lookup)
