-- The classes of timers' lines, as the definitions have them.
use Rattle.sd_model_settings.specs.Entries as model
use Rattle.sd_plan.specs.declared.timer_class.TimerClass.{TimerClass}
use Rattle.sd_plan.specs.declared.timer_class.TimerClass.TheVariants.{Std, Upper, Lower, Count, CountPs, Sum, SumSquares, Mean, Median, Histogram, CountPercent, MeanPercent, UpperPercent, LowerPercent, SumPercent, SumSquaresPercent}

abbrev pub class_of : TimerClass → model.TimerClass
class_of Std = model.Std
class_of Upper = model.Upper
class_of Lower = model.Lower
class_of Count = model.Count
class_of CountPs = model.CountPs
class_of Sum = model.Sum
class_of SumSquares = model.SumSquares
class_of Mean = model.Mean
class_of Median = model.Median
class_of Histogram = model.Histogram
class_of CountPercent = model.CountPercent
class_of MeanPercent = model.MeanPercent
class_of UpperPercent = model.UpperPercent
class_of LowerPercent = model.LowerPercent
class_of SumPercent = model.SumPercent
class_of SumSquaresPercent = model.SumSquaresPercent
