use Rattle.std.proofs.Common.{◌∙◌, sym, subst}
use Rattle.std.proofs.lemmas.List.{with_items_is}
use Rattle.sd_relay.specs.Posts.{WereRun}
use Rattle.sd_relay.proofs.workers.run_relays.Goals as goal

pub returns-clause-receivers : goal.returns-clause-receivers
returns-clause-receivers g c =
    let cell = c.args.live.now.hub.cell.now in
    let desk = c.args.live.now.hub.desk.now in
    let slice = c.as_mut_slice-receivers in
    let ran = c.run_workers in
    let before = c.args.posts.now.receivers in
    let same = with_items_is before ran.new.others (ran.ensures.len ∙ slice.ensures.len) in
    subst (WereRun g.D.Faulty.seen g.L.Faulty.seen cell desk before.items) (sym same)
    (subst (λ l. WereRun g.D.Faulty.seen g.L.Faulty.seen cell desk l ran.new.others) slice.ensures.value
    (record { len = ran.ensures.len; each = ran.ensures.each }))
