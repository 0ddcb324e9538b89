use Rattle.std.proofs.Common.{ap, subst, arith}
use Rattle.std.specs.FinMap.{len}
use Rattle.sd_epoch.specs.Table.{Listing, AreApart, live_of}
use Rattle.sd_epoch.specs.TableInside.{since_in}
use Rattle.sd_epoch.proofs.SumLemmas.{reported_apart}
use Rattle.sd_epoch.proofs.TableLemmas.{reported_count}
use Rattle.sd_epoch.proofs.table.Table.rows.Goals as goal

pub overflow_cast-result : goal.overflow_cast-result
overflow_cast-result c = omega (arith, c.self.invariant.order, c.self.invariant.limits.few_rows, c.len.ensures)

pub returns-clause-live : goal.returns-clause-live
returns-clause-live c =
    let t = c.self.inside in
    omega (arith, c.len.ensures, t.order.places.ok.0, reported_count t.rows.rows (since_in t) t.order.places.items c.self.invariant.rows, ap (λ (s : Listing). len (live_of s)) c.self.view_is)

pub returns-clause-apart : goal.returns-clause-apart
returns-clause-apart c =
    let t = c.self.inside in
    subst (λ (s : Listing). AreApart s.listed) c.self.view_is (reported_apart t.rows.rows (since_in t) t.order.places.items c.self.invariant.rows.listed)

pub returns-clause-within : goal.returns-clause-within
returns-clause-within c = omega (arith, c.self.invariant.order, c.len.ensures, ap (λ (s : Listing). s.limits.rows) c.self.view_is)
