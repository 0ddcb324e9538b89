-- Marks of the code, as the definitions have them.
use Rattle.sd_model_outside.specs.Backend.{each_of}
use Rattle.sd_model_outside.specs.Uses as deliveries
use Rattle.sd_model_record.specs.Desk as model
use Rattle.sd_desk.specs.declared.marks.Mark.{Mark}
use Rattle.sd_desk.specs.declared.marks.Mark.TheVariants.{NotUsed, Written, Fault}
use Rattle.sd_outside.specs.Backends.{at}
use Rattle.sd_outside.specs.declared.backends.PerBackend.{PerBackend}

abbrev pub mark_of : Mark → deliveries.Mark
mark_of NotUsed = deliveries.NotUsed
mark_of Written = deliveries.Written
mark_of Fault = deliveries.Fault

abbrev pub marks_of : PerBackend Mark → model.Marks
marks_of m = each_of (λ b. mark_of (at m b))
