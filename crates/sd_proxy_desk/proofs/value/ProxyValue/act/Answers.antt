use Rattle.std.proofs.Common.{refl, sym, ap, subst}
use Rattle.sd_proxy_desk.specs.declared.ask.ProxyReply.TheVariants.{Reported}
use Rattle.sd_proxy_desk.specs.Asks.{Does}
use Rattle.sd_proxy_desk.proofs.value.ProxyValue.act.Goals as goal

pub returns-in-Facts-clause-does : goal.returns-in-Facts-clause-does
returns-in-Facts-clause-does c =
    let facts = c.args.self.now.facts in
    let f = c.self.inside.facts in
    subst (λ ask. Does facts ask facts (Reported f)) (sym c.in-Facts.is) (record { changed = refl; promised = ap (λ b. b.facts) c.self.view_is; replied = (f, refl) })
