use Rattle.std.proofs.Common.{rules, sym, ap, subst, ◌∙◌}
use Rattle.sd_turn.specs.Views.{IsPlain}
use Rattle.sd_turn.proofs.TableSteps.{takes_at}
use Rattle.sd_turn.proofs.turn_table.TurnTable.take.Goals as goal

pub compare_exchange-found-requires : goal.compare_exchange-found-requires
compare_exchange-found-requires g c =
    let same = c.loop.invariant.1 in
    let s = c.requires.seat in (
      c.loop.invariant.0 ∙ s.0,
      search rules,
      takes_at g.B.Behind.protocol _ _ g.B.Behind.laws _ _ c.args.number _ _ (ap (λ m. m.1) same ∙ s.1)
          (subst (λ m. IsPlain c.args.number m.0) (sym same) s.2) (ap (λ m. m.0.fixed) same ∙ s.3) (search rules),
    )
