use Rattle.std.proofs.Common.{◌≡◌, ◌+◌, ◌++◌, ◌∷◌, [], List, length, sym, ap, subst, ◌∙◌, append_assoc, arith}
use Rattle.std.specs.List.{AllByRecursion}
use Rattle.std.specs.Vec.{with_items}
use Rattle.std.proofs.lemmas.List.{with_items_is, length-map, length-append, length_push}
use Rattle.std.proofs.lemmas.List.Elements.{recursion_from_All}
use Rattle.sd_epoch.specs.Limits.{limits_of}
use Rattle.sd_shard.specs.Policy.{policy_of}
use Rattle.sd_turn.specs.Turn.{number_of, IsNewSeatOf as IsNewTurnSeatOf}
use Rattle.sd_pool.specs.Along.{Along}
use Rattle.sd_pool.specs.Dealing.{AreDealt, AreSetUp, Given}
use Rattle.sd_pool.specs.Pool.{OwnSeat, HasRoom}
use Rattle.sd_pool.specs.declared.pool.ShardTurn.{ShardTurn}
use Rattle.sd_pool.specs.declared.seat.Seat.{Seat}
use Rattle.sd_pool.proofs.StandsLemmas.{All-push}
use Rattle.sd_pool.proofs.AlongLemmas.{Along-long, span_long}
use Rattle.sd_pool.proofs.DealLemmas.{deal_more, AreSetUp-push, who_flusher, who_admin, dealt_receivers, dealt_back, dealt_prefix, new_seats, room_is}
use Rattle.sd_pool.proofs.pool.Pool.open.Goals as goal

pub deal-requires : goal.deal-requires
deal-requires c =
    let list = c.in_ok-turn.list.items in
    let many = sym (length-map list (λ (s : OwnSeat). number_of s)) ∙ ap length c.in_ok-turn.ensures.numbers ∙ span_long 0 (c.args.receivers + 2) in
    many ∙ sym c.loop-number.invariant.len ∙ ap length (sym c.deref_mut.ensures.value)

pub loop-number-preserved : goal.loop-number-preserved
loop-number-preserved c =
    let r = c.args.receivers in
    let inv = c.loop-number.invariant in
    let all = c.loop-number.all in
    let turns = c.loop-number.turns.items in
    let list = c.in_ok-turn.list in
    let new = c.deal.new.all in
    let t : ShardTurn = record { turn = c.in_ok-turn.turn } in
    let lists = c.loop-number.lists.items in
    let kept = c.in_ok-push-2.ensures.items in
    let many = sym (length-map list.items (λ (s : OwnSeat). number_of s)) ∙ ap length c.in_ok-turn.ensures.numbers ∙ span_long 0 (r + 2) in
    let along : Along Given all.items new list.items = subst (λ (os : List Seat). Along Given os new list.items) c.deref_mut.ensures.value c.in_ok-deal.ensures.given in
    let long = (Along-long Given all.items new list.items along).0 in
    let back : (with_items all new).items ≡ new = with_items_is all new (omega (arith, long, all.ok.0)) in
    let pushed = c.in_ok-push.ensures.items in
    record {
      count = ap length pushed ∙ length_push turns t ∙ ap (λ n. n + 1) inv.count;
      len = ap length back ∙ long ∙ inv.len;
      setups = subst (AreSetUp (limits_of c.args.limits) (policy_of c.args.policy) c.args.shards r) (sym pushed)
          (AreSetUp-push (limits_of c.args.limits) (policy_of c.args.policy) c.args.shards r c.loop-number.number turns t inv.setups inv.count c.in_ok-turn.ensures.setup);
      lists = ap length kept ∙ length_push lists c.deal.new.list ∙ ap (λ n. n + 1) inv.lists;
      rooms = subst (AllByRecursion (HasRoom (r + 2))) (sym kept)
          (All-push (HasRoom (r + 2)) lists c.deal.new.list inv.rooms (c.in_ok-deal.ensures.empty, omega (arith, c.in_ok-deal.ensures.room, many, list.ok.0, list.ok.1)));
      dealt = subst (λ (ts : List ShardTurn). AreDealt ts r 0 (with_items all new).items) (sym pushed)
          (subst (AreDealt (turns ++ t ∷ []) r 0) (sym back)
          (deal_more turns t r 0 (r + 2) all.items new list.items inv.dealt along c.in_ok-turn.ensures.numbers (recursion_from_All (IsNewTurnSeatOf t.turn) list.items c.in_ok-turn.ensures.seats)));
    }

pub returns-clause-callers : goal.returns-clause-callers
returns-clause-callers c =
    let r = c.args.receivers in
    let inv = c.loop-number.invariant in
    let turns = c.loop-number.turns.items in
    let recs = c.pop-2.new.self.items in
    let flusher = c.in-Some-pop.flusher in
    let admin = c.in-Some.admin in
    let whole : c.loop-number.all.items ≡ recs ++ flusher ∷ admin ∷ [] =
    c.in-Some.ensures.items ∙ ap (λ (l : List Seat). l ++ admin ∷ []) c.in-Some-pop.ensures.items ∙ append_assoc recs (flusher ∷ []) (admin ∷ []) in
    let count = ap length whole ∙ length-append recs (flusher ∷ admin ∷ []) in
    let dealt = subst (AreDealt turns r 0) whole inv.dealt in
    let behind = dealt_back turns r 0 r recs (flusher ∷ admin ∷ []) dealt (omega (arith, count, inv.len)) in (
      dealt_receivers turns r 0 r recs (dealt_prefix turns r 0 recs (flusher ∷ admin ∷ []) dealt) (omega (arith, count, inv.len)) (omega arith),
      behind.0.who ∙ who_flusher r,
      behind.1.0.who ∙ who_admin r,
    )

pub returns-clause-seats : goal.returns-clause-seats
returns-clause-seats c =
    let r = c.args.receivers in
    let inv = c.loop-number.invariant in
    let turns = c.loop-number.turns.items in
    let recs = c.pop-2.new.self.items in
    let flusher = c.in-Some-pop.flusher in
    let admin = c.in-Some.admin in
    let whole : c.loop-number.all.items ≡ recs ++ flusher ∷ admin ∷ [] =
    c.in-Some.ensures.items ∙ ap (λ (l : List Seat). l ++ admin ∷ []) c.in-Some-pop.ensures.items ∙ append_assoc recs (flusher ∷ []) (admin ∷ []) in
    let count = ap length (sym whole) in
    new_seats (record { shards = c.args.shards; turns = c.loop-number.turns; counted = _ }) (limits_of c.args.limits) (policy_of c.args.policy) r c.requires.shards.0 c.requires.shards.1 c.requires.receivers.0 c.requires.receivers.1
    inv.setups 0 (recs ++ flusher ∷ admin ∷ []) (omega (arith, count, inv.len)) (subst (AreDealt turns r 0) whole inv.dealt)

pub returns-clause-room : goal.returns-clause-room
returns-clause-room c =
    let r = c.args.receivers in
    let inv = c.loop-number.invariant in
    room_is (record { shards = c.args.shards; turns = c.loop-number.turns; counted = _ }) (limits_of c.args.limits) (policy_of c.args.policy) r c.requires.shards.0 c.requires.shards.1 c.requires.receivers.0 c.requires.receivers.1
    inv.setups (record { lists = c.loop-number.lists }) (omega (arith, inv.lists, inv.count, c.loop-number-test.false)) inv.rooms
