use Rattle.std.proofs.Common.{rules, tests}
use Rattle.std.proofs.lemmas.Iterator.{YieldsList-from_slice}
use Rattle.std.proofs.lemmas.Iterator.Search.{find_from_yields_List}
use Rattle.sd_model_ring.specs.Ring.{is_up}
use Rattle.sd_ring.proofs.points.first_up.Goals as goal

pub returns : goal.returns
returns c =
    let found = find_from_yields_List (λ p. is_up c.args.up p.node) _ _ c.find.result c.find.ensures.ran (YieldsList-from_slice c.args.points.now cc) (λ x b q k. search (rules, tests)) in
    rw (← found) (search rules)
