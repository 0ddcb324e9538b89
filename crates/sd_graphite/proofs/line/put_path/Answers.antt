use Rattle.std.proofs.Common.{ap, ◌∙◌}
use Rattle.sd_model_text.specs.Numbers.{number_text}
use Rattle.sd_model_record.specs.Backends.{graphite_line}
use Rattle.sd_graphite.proofs.line.put_path.Goals as goal

pub returns : goal.returns
returns c = c.end.ensures ∙ ap (λ path. graphite_line c.args.names.now path (number_text c.args.number.0) c.args.second.now) c.begin.ensures.text
