use Rattle.std.proofs.Common.{◌∙◌, ap, Some, None, codes}
use Rattle.sd_law_settings.specs.Ranges.{IsClasses}
use Rattle.sd_plan.specs.Entries.{classes_view}
use Rattle.sd_config.proofs.ConfigPlaces.{all_at, through, got, got_none}
use Rattle.sd_config.proofs.config_lines.histogram_at.Goals as goal
use Rattle.sd_model_settings.proofs.Short.{histogram_line}

pub histogram_line-requires : goal.histogram_line-requires
histogram_line-requires c = all_at classes_view IsClasses c.args.histogram.now c.args.place c.in-Some.classes.now c.requires.range (got c.args.histogram.now c.args.place c.in-Some.classes c.in-Some.ensures.lookup)

pub returns-in-Some : goal.returns-in-Some
returns-in-Some c = ap (λ l. Some l) c.histogram_line.ensures ∙ through classes_view (histogram_line (codes "histogram")) c.args.histogram.now c.args.place (Some c.in-Some.classes.now) (got c.args.histogram.now c.args.place c.in-Some.classes c.in-Some.ensures.lookup)

pub returns-in-None : goal.returns-in-None
returns-in-None c = through classes_view (histogram_line (codes "histogram")) c.args.histogram.now c.args.place None (got_none c.args.histogram.now c.args.place c.in-None.ensures.lookup)
