use Rattle.std.proofs.Common.{◌∙◌, ◌≡◌, ◌++◌, ap, sym, arith, length, drop, length-drop}
use Rattle.sd_script.specs.Texts.{text_from}
use Rattle.sd_script.proofs.TextLemmas.{text_from_end, text_at_some}
use Rattle.sd_script.proofs.drill.Drill.refill.Goals as goal
use Rattle.sd_script.proofs.drill.Drill.refill.Goals.{else-self-len-via-then-self-len+else-self, else-self-len-via-else-self-len}

pub returns-then-self-clause-end : goal.returns-then-self-clause-end
returns-then-self-clause-end c empty = absurd (text_at_some _ _ (sym c.make_next.ensures.text ∙ empty))

pub returns-else-self-len-clause-end : goal.returns-else-self-len-clause-end
returns-else-self-len-clause-end c empty =
    let d = c.args.self.now in
    let short : length (drop d.given d.text.items) ≡ 0 = ap length empty in
    elim c.else-self-len.branch [
      | else-self-len-via-then-self-len+else-self w ↦ ap (λ xs. xs ++ text_from d.packets d.next) empty ∙ text_from_end d.packets d.next (omega arith)
      | else-self-len-via-else-self-len w ↦ absurd (omega (arith, short, length-drop d.given d.text.items))
    ]
