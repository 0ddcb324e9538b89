use Rattle.std.proofs.Common.{◌≡◌, [], ◌∷◌, ◌++◌, map, option_to_list, sym, ap, ◌∙◌}
use Rattle.std.proofs.lemmas.List.Elements.{All-pop}
use Rattle.sd_turn.specs.Views.{first_account}
use Rattle.sd_turn.proofs.Totals.{popped}
use Rattle.sd_turn.proofs.turn_table.TurnTable.gather.Goals as goal

pub loop-next-preserved : goal.loop-next-preserved
loop-next-preserved g c =
    let inner = g.T.PlainSeat.inner in
    let account_of = λ (s : g.row.T.Denot). first_account (inner s).me.0.accounts in
    let IsSeat : g.row.T.Denot → Type 0 = λ s. (inner s).table_id ≡ c.args.self.now.table.shared.table_id in
    let i = c.loop-next.invariant in
    let j = c.join.ensures in
    let e = c.into_inner.ensures in
    let left = c.pop-in-loop-next.new.self.items in
    let taken = c.pop-in-loop-next.ensures.items ∙ ap (λ o. left ++ option_to_list o) c.in-Some-pop.is in
    let one = ap (λ v. v.accounts) e.plain.1 ∙ ap (λ a. a ∷ []) (sym (ap (λ v. first_account v.accounts) e.plain.1) ∙ ap (λ s. first_account s.me.0.accounts) e.inner) in (
      j.0 ∙ i.0,
      ap (λ m. m.0.turn) j.1 ∙ i.1,
      i.2 ∙ popped account_of _ left c.in-Some-pop.next _ c.loop-next.keeper.me.0.accounts taken one ∙ ap (λ m. map account_of left ++ m.0.accounts) (sym j.1),
      (All-pop IsSeat _ _ _ c.pop-in-loop-next.ensures.items i.3).0,
    )
