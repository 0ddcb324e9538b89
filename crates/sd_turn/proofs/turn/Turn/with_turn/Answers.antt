use Rattle.std.proofs.Common.{◌++◌, sym, ap, ◌∙◌}
use Rattle.sd_turn.specs.Views.{first_account, own_of, seen_of, released}
use Rattle.sd_turn.specs.Entries.{entries_by}
use Rattle.sd_turn.specs.History.{noting}
use Rattle.sd_turn.specs.Turn.{opened_with}
use Rattle.sd_turn.proofs.EntryLists.{own_entries}
use Rattle.sd_turn.proofs.Steps.{finishes}
use Rattle.sd_turn.proofs.turn.Turn.with_turn.Goals as goal

pub returns-clause-all : goal.returns-clause-all
returns-clause-all g c =
    let m = g.V.Stepped in
    let number = c.args.seat.now.number in
    let v = c.args.seat.now.seat.me.0 in
    let t = c.take.ensures.taken in
    let log = t.1 in
    let f = m.fixed (opened_with c.args.self.now) in
    let done = c.change-answer in
    let es = g.Q.Change.entries c.args.change.now done.new.change done.result f number in
    let held = ap (λ m. m.0) t.2 in
    let is_left = ap (λ m. m.0) c.give.ensures.1 ∙ ap (λ a. released (noting done.new.seat.me.0 (g.Q.Change.entries a done.new.change done.result f number))) c.of-before.ensures ∙ ap (λ v. released (noting v es)) (done.ensures.seat.1 ∙ held) in
    let left = finishes number v log es c.args.seat.now.plain in
    let named = ap (λ x. (first_account x.accounts).number) c.args.seat.now.plain in
    ap own_of is_left ∙ left.2 ∙ ap (λ l. l ++ es) (t.5.1 ∙ ap (λ k. entries_by m.who k log) named)
    ∙ sym (own_entries m.who number log es (g.met.Q.Change.entries_name c.args.change.now done.new.change done.result f number))
    ∙ sym (ap (entries_by m.who number) (ap seen_of is_left ∙ left.1))
