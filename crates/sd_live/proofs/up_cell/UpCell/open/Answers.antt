use Rattle.std.proofs.Common.{◌≡◌, ℕ, ◌+◌, ◌≤◌, ◌++◌, [], ◌∷◌, length, All, rules, refl, sym, ap, subst, ◌∙◌, length-append}
use Rattle.std.proofs.lemmas.List.Elements.{All-nil, All-push}
use Rattle.crossbeam_utils.specs.Seq.{cell_view}
use Rattle.sd_live.specs.declared.pass.UpPass.{UpPass}
use Rattle.sd_live.specs.declared.up_cell.UpCell.{UpCell}
use Rattle.sd_model_live.specs.Proxy.{all_of}
use Rattle.sd_live.specs.Live.{seen, IsReceiverOf}
use Rattle.sd_live.proofs.AllNodes.{is_all}
use Rattle.sd_live.proofs.Steps.{begins}
use Rattle.sd_live.proofs.up_cell.UpCell.open.Goals as goal

-- a receiver's pass that has seen the first set
abbrev Fresh : UpCell → ℕ → UpPass → Type 0
Fresh cell nodes p = IsReceiverOf cell p × (seen p ≡ all_of nodes ∷ [])

pub ruled-requires : goal.ruled-requires
ruled-requires c = (search rules, (search rules, begins _ refl))

pub loop-init : goal.loop-init
loop-init c =
    let cell = c.new-cell.ensures in
    let checker = c.new-checker.ensures in
    let ruled = c.in_ok-sets.ensures in
    let all = is_all c.args.nodes c.requires.nodes.1 in
    let view = ap cell_view checker.1 ∙ ruled.1 in (
      ((ap (λ p. p.table_id) checker.1 ∙ ruled.0 ∙ (λ i. (sym cell.1 i).table.shared.table_id), checker.0 ∙ all ∙ ap all_of (sym cell.0), subst (λ n. n ≤ 64) (sym cell.0) c.requires.nodes.1), ap (λ v. v.publishes) view),
      (λ i. (checker.0 ∙ all) i ∷ ap (λ v. v.published) view i),
      subst (All (Fresh c.new-cell.result c.args.nodes)) (sym c.new-made.ensures.items) (All-nil (Fresh c.new-cell.result c.args.nodes)),
      ap length c.new-made.ensures.items,
    )

pub loop-preserved : goal.loop-preserved
loop-preserved c =
    let i = c.loop.invariant in
    let a = c.another.ensures in
    let made = c.loop.made.items in
    let items : c.push.new.self.items ≡ made ++ c.another.result ∷ [] = search rules in (
      (a.same.0, a.same.1 ∙ i.0.1),
      a.same.2 ∙ i.1,
      subst (All (Fresh c.new-cell.result c.args.nodes)) (sym items) (All-push (Fresh c.new-cell.result c.args.nodes) made c.another.result i.2 (a.new.0, a.new.1 ∙ i.1)),
      ap length items ∙ length-append made (c.another.result ∷ []) ∙ ap (λ n. n + 1) i.3,
    )
