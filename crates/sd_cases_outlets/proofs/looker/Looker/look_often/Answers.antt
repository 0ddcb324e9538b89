use Rattle.std.proofs.Common.{rules, ◌≡◌, ◌++◌, [], ◌∷◌, sym, subst}
use Rattle.sd_live.specs.Live.{seen}
use Rattle.sd_live.specs.Looks.{HaveAnswered}
use Rattle.sd_live.proofs.LookLemmas.{none_answered, one_answered, answered_on, answered_more}
use Rattle.sd_cases_outlets.proofs.looker.Looker.look_often.Goals as goal

pub loop-init : goal.loop-init
loop-init g c = (c.requires.pass, subst (HaveAnswered (seen c.args.self.now.pass) (seen c.args.self.now.pass)) (sym c.requires.none) (none_answered (seen c.args.self.now.pass)))

pub loop-preserved : goal.loop-preserved
loop-preserved g c =
    let l = c.look-up.ensures in
    let items : c.push.new.self.items ≡ c.loop.self.answers.items ++ c.look-up.result ∷ [] = search rules in
    (l.pass.0, subst (HaveAnswered (seen c.args.self.now.pass) (seen c.look-up.new.pass)) (sym items) (answered_more (seen c.args.self.now.pass) (seen c.loop.self.pass) (seen c.look-up.new.pass) c.loop.self.answers.items (c.look-up.result ∷ []) c.loop.invariant.1 (one_answered (seen c.loop.self.pass) (seen c.look-up.new.pass) c.look-up.result l.seen l.answer)))

pub returns-then-is_err : goal.returns-then-is_err
returns-then-is_err g c =
    let l = c.look-up.ensures in
    let items : c.push.new.self.items ≡ c.loop.self.answers.items = search rules in
    record {
      pass = l.pass.0;
      answers = subst (HaveAnswered (seen c.args.self.now.pass) (seen c.look-up.new.pass)) (sym items) (answered_on (seen c.args.self.now.pass) (seen c.loop.self.pass) (seen c.look-up.new.pass) c.loop.self.answers.items l.seen c.loop.invariant.1);
    }
