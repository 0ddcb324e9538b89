use Rattle.std.proofs.Common.{arith, length-take}
use Rattle.std.specs.Prelude.{ℕ}
use Rattle.sd_script.proofs.AheadLemmas.{slice_range-later}
use Rattle.sd_script.proofs.ahead.Ahead.take.Goals as goal

pub returns : goal.returns
returns c =
    let a = c.args.self.now in
    slice_range-later a.room.items a.start a.end c.args.count (omega (arith, c.requires, length-take {A = ℕ}))
