use Rattle.std.proofs.Common.{rules, ◌≡◌, length, drop, All, sym, subst}
use Rattle.sd_cases_outlets.specs.Lookers.{IsNew, HasSeen}
use Rattle.sd_cases_outlets.proofs.Answered.{all_seen, take_prefix}
use Rattle.sd_cases_outlets.proofs.lookers.look_all.Goals as goal

pub returns : goal.returns
returns g c =
    let news = c.look_each.new.lookers in
    let olds = c.as_mut_slice.result.now in
    let len : length news ≡ length olds = c.look_each.ensures.len in
    let wide : length news ≡ c.args.lookers.len = search rules in
    subst (All (HasSeen c.args.cell.now)) (sym (take_prefix news (drop (length news) c.args.lookers.items) c.args.lookers.len wide))
    (all_seen c.args.cell.now olds news len (subst (All (IsNew c.args.cell.now)) (sym c.as_mut_slice.ensures.value) c.requires) c.look_each.ensures.each)
