use Rattle.std.proofs.Common.{ap, ◌∙◌}
use Rattle.std.specs.FinMap.{contains_key}
use Rattle.sd_epoch.specs.Table.{Listing, live_of, id_of}
use Rattle.sd_epoch.specs.TableInside.{since_in}
use Rattle.sd_epoch.proofs.TableLemmas.{find_tells}
use Rattle.sd_epoch.proofs.table.Table.has_row.Goals as goal

pub returns : goal.returns
returns c =
    let t = c.self.inside in
    let id = id_of c.args.kind c.args.key.now in
    c.is_some.ensures ∙ find_tells t.rows.rows (since_in t) t.order.places.items c.args.kind c.args.key.now c.find.result c.self.invariant.rows c.find.ensures.found
    ∙ ap (λ (s : Listing). contains_key (live_of s) id) c.self.view_is
