use Rattle.std.proofs.Common.{◌≡◌, ◌-◌, cond, true, false, length, take, drop, ap, sym, ◌∙◌, arith, length-drop}
use Rattle.std.proofs.lemmas.Int.{ints}
use Rattle.std.proofs.lemmas.List.{take-map, drop-map, take_all, length-map}
use Rattle.sd_model_shard.specs.Values.{is_upper}
use Rattle.sd_decimal.specs.declared.number.Micro.{Micro}
use Rattle.sd_stats.specs.Timer.{numbers}
use Rattle.sd_stats.proofs.threshold_parts.part_of.Goals as goal

pub returns-then-threshold-gt0-clause-part : goal.returns-then-threshold-gt0-clause-part
returns-then-threshold-gt0-clause-part c =
    let n = c.args.count in
    let xs = c.args.values.now in
    let up : is_upper c.args.threshold.0 ≡ true = grind (arith, ints) in
    sym (take-map (λ (v : Micro). v.0) n xs) ∙ ap (λ b. cond b (take n (numbers xs)) (drop (length (numbers xs) - n) (numbers xs))) (sym up)

pub returns-else-threshold-gt0-clause-part : goal.returns-else-threshold-gt0-clause-part
returns-else-threshold-gt0-clause-part c =
    let n = c.args.count in
    let xs = c.args.values.now in
    let rest = length xs - n in
    let down : is_upper c.args.threshold.0 ≡ false = grind (arith, ints) in
    ap numbers (take_all (length xs - rest) (drop rest xs) (omega (arith, length-drop rest xs)))
    ∙ sym (drop-map (λ (v : Micro). v.0) rest xs)
    ∙ ap (λ k. drop (k - n) (numbers xs)) (sym (length-map xs (λ (v : Micro). v.0)))
    ∙ ap (λ b. cond b (take n (numbers xs)) (drop (length (numbers xs) - n) (numbers xs))) (sym down)
