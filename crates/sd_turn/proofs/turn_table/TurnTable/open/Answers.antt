use Rattle.std.proofs.Common.{rules, ◌≡◌, List, [], ◌∷◌, sym, ap, subst}
use Rattle.atomic_table.specs.Table.{opening}
use Rattle.sd_turn.specs.Views.{first_view}
use Rattle.sd_turn.specs.Rule.{Kept, Opens}
use Rattle.sd_turn.proofs.TableSteps.{opens}
use Rattle.sd_turn.proofs.turn_table.TurnTable.open.Goals as goal

pub new-requires : goal.new-requires
new-requires g c =
    let b = g.B.Behind.protocol in
    let count : c.args.seats ≡ c.from.result = search rules in
    let items : c.push.new.self.items ≡ c.args.value ∷ [] = search rules in
    subst (λ (z : List g.row.S.Denot). Kept b (b.fixed c.of.result.value) c.from.result (opening c.args.words.now z (first_view (b.fixed c.of.result.value) c.from.result))) (sym items)
    (opens b _ _ g.B.Behind.laws c.args.value c.args.words.now (ap b.fixed (sym c.of.ensures)) (search rules) (subst (λ n. Opens b n c.args.value c.args.words.now) count c.requires.opens))
