use Rattle.std.proofs.Common.{◌∙◌, ◌+◌, sym, ap}
use Rattle.sd_turn.specs.Lists.{span}
use Rattle.sd_model_record.specs.Desk.{new_desk}
use Rattle.sd_shared_desk.specs.Behind.{Behind}
use Rattle.sd_serve.proofs.room.ServerRoom.open.Goals as goal

pub returns-clause-room : goal.returns-clause-room
returns-clause-room g c =
    let many = c.submitters-submitters.ensures in
    let pool = c.in_ok-pool.ensures in
    let desk = c.in_ok-desk.ensures in
    record {
      sizes_are = c.requires;
      pool = record { shards = pool.shards; limits = pool.limits; policy = pool.policy; receivers = pool.receivers ∙ many };
      callers = pool.callers.0 ∙ ap (span 0) many;
      flushes = pool.callers.1;
      commands = pool.callers.2;
      seats = pool.seats;
      closing = pool.room;
      desk = ap (λ (b : Behind). b.desk) desk.desk.0 ∙ ap new_desk (sym (ap (λ (b : Behind). b.desk.facts.start) desk.desk.0));
      desk_seats = desk.desk.1 ∙ ap (λ n. n + 2) many;
      numbers = desk.numbers ∙ ap (λ n. span 0 (n + 2)) many;
      owns = desk.seats;
      benches = c.in_ok-benches.ensures;
      postings = c.in_ok-postings.ensures;
    }

pub returns-clause-start : goal.returns-clause-start
returns-clause-start g c = ap (λ (b : Behind). b.desk.facts.start) c.in_ok-desk.ensures.desk.0
