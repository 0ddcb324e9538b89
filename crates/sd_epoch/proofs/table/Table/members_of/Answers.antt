use Rattle.std.proofs.Common.{◌≡◌, Option, ap, sym, subst, arith}
use Rattle.std.specs.Prelude.{IfSome}
use Rattle.std.specs.List.{slice_get}
use Rattle.sd_model_shard.specs.Rows.{RowId, Kept}
use Rattle.sd_rows.specs.Rows.{row_at}
use Rattle.sd_rows.proofs.IndexLemmas.{some_of}
use Rattle.sd_epoch.specs.Scratch.{texts}
use Rattle.sd_epoch.specs.Table.{Listing}
use Rattle.sd_epoch.proofs.TableLemmas.{place_live, place_within, at_place}
use Rattle.sd_epoch.proofs.table.Table.members_of.Goals as goal

pub put_members-requires-clause-room : goal.put_members-requires-clause-room
put_members-requires-clause-room c = omega (arith, c.requires.room, ap (λ (s : Listing). s.entries) c.self.view_is)

pub put_members-requires-clause-within : goal.put_members-requires-clause-within
put_members-requires-clause-within c =
    let w = c.self.invariant in
    omega (arith, place_within c.self.inside c.self.invariant c.args.self.now c.self.view_is c.args.i c.index.result.now c.requires.place c.index.ensures, w.places, w.member_places)

pub returns-clause-members : goal.returns-clause-members
returns-clause-members c =
    let t = c.self.inside in
    let place = c.index.result.now in
    let there = some_of (row_at t.rows.rows place) (place_live c.self.inside c.self.invariant c.args.self.now c.self.view_is c.args.i place c.requires.place c.index.ensures) in
    let at = at_place c.self.inside c.self.invariant c.args.self.now c.self.view_is c.args.i place c.requires.place c.index.ensures there.0 there.1 in
    subst (λ (s : Listing). IfSome (slice_get s.listed c.args.i) (λ row. texts c.put_members.new.self.members ≡ row.1.since.members)) c.self.view_is
    (subst (λ (o : Option (RowId × Kept)). IfSome o (λ row. texts c.put_members.new.self.members ≡ row.1.since.members)) (sym at.listed) c.put_members.ensures.members)
