use Rattle.std.proofs.Common.{◌≡◌, ◌∙◌, ℕ, ◌+◌, Bool, true, false, List, [], ◌∷◌, All, append-nil, if◌then◌else◌, length, map, refl, sym, ap, subst, arith}
use Rattle.std.specs.Prelude.{option_to_list}
use Rattle.std.specs.Int.{from_bool}
use Rattle.std.specs.List.{AllByRecursion}
use Rattle.std.proofs.lemmas.List.{length-map}
use Rattle.sd_model_live.specs.Proxy.{all_of}
use Rattle.sd_live.specs.Live.{IsCheckerOf, IsReceiverOf, seen}
use Rattle.sd_live.specs.declared.pass.UpPass.{UpPass}
use Rattle.sd_proxy_desk.specs.Shared.{IsNewSeatOf, number_of_seat}
use Rattle.sd_turn.specs.Lists.{span}
use Rattle.sd_talk.specs.Room.{IsLineRoom}
use Rattle.sd_relay.specs.Owns.{pass_of, passes_in, seat_of, seats_in}
use Rattle.sd_relay.proofs.LookLemmas.{all_behind}
use Rattle.sd_relay.proofs.OwnLemmas.{fresh_pairs, numbered, span_length}
use Rattle.sd_relay.proofs.PostLemmas.{by_recursion}
use Rattle.sd_relay.proofs.own_parts.open_hub.Goals as goal

-- a flag as a number
one_if : (b : Bool) → from_bool b ≡ (if b then 1 else 0)
one_if true = refl
one_if false = refl

pub paired-requires-clause-passes : goal.paired-requires-clause-passes
paired-requires-clause-passes c =
    let flag = c.from-others.ensures ∙ one_if c.args.has_lines in
    let count = c.in_ok-cell.ensures.count in
    omega (arith, flag, count)

pub paired-requires-clause-seats : goal.paired-requires-clause-seats
paired-requires-clause-seats c =
    let flag = c.from-others.ensures ∙ one_if c.args.has_lines in
    let seats = sym (length-map c.in_ok-desk.seats.items number_of_seat) ∙ ap length c.in_ok-desk.ensures.numbers
    ∙ span_length 0 (c.args.receivers + (1 + c.from-others.result) + 1) in
    omega (arith, flag, seats)

pub returns : goal.returns
returns c =
    let cell = c.in_ok-cell.cell in
    let desk = c.in_ok-desk.desk in
    let opened = c.in_ok-cell.ensures in
    let seated = c.in_ok-desk.ensures in
    let own = c.paired.ensures in
    let owns = c.paired.result in
    let receivers = owns.receivers.items in
    let checker = owns.checker in
    let port = owns.port.own in
    let lines = option_to_list owns.lines in
    let flag : c.from-others.result ≡ (if c.args.has_lines then 1 else 0) = c.from-others.ensures ∙ one_if c.args.has_lines in
    let history : List ℕ = all_of c.args.nodes ∷ [] in
    let Fresh : UpPass → Type 0 = λ p. IsReceiverOf cell p × (seen p ≡ history) in
    let passes = by_recursion Fresh (passes_in owns) (subst (All Fresh) own.passes opened.receivers) in
    let seats = by_recursion (IsNewSeatOf desk) (seats_in owns) (subst (All (IsNewSeatOf desk)) own.seats seated.seats) in
    let pass = all_behind Fresh (map pass_of receivers) (port.pass ∷ map pass_of lines) passes in
    let last = all_behind (IsNewSeatOf desk) (map seat_of receivers) (checker.seat ∷ port.seat ∷ map seat_of lines) seats in
    let first = subst (λ p. IsCheckerOf cell p × (seen p ≡ history)) (sym own.checker) opened.checker in
    let seat_count : c.args.receivers + (1 + c.from-others.result) + 1
    ≡ length receivers + 2 + length lines = let a = own.count in let b = own.lines in omega (arith, flag, a, b) in
    let numbers = numbered 0 receivers checker.seat port.seat lines
    (ap (map number_of_seat) (sym own.seats) ∙ seated.numbers ∙ ap (span 0) seat_count) in
    let pass_count = opened.count in
    let seats_made = sym (length-map c.in_ok-desk.seats.items number_of_seat) ∙ ap length c.in_ok-desk.ensures.numbers
    ∙ span_length 0 (c.args.receivers + (1 + c.from-others.result) + 1) in
    let from : 0 + length receivers + 2 ≡ c.args.receivers + 2 = let a = own.count in omega (arith, a) in
    record {
      cell = opened.nodes;
      desk = let a = seated.count in omega (arith, a, flag);
      each = fresh_pairs cell desk history receivers (port.pass ∷ map pass_of lines) (checker.seat ∷ port.seat ∷ map seat_of lines) passes
          seats;
      checker = record { pass = first.0.0; seen = first.1; seat = last.0.0; events = last.0.1 };
      port = record { pass = pass.0.0.0; seen = pass.0.1; seat = last.1.0.0; events = last.1.0.1 };
      line_reader = fresh_pairs cell desk history lines [] [] (subst (λ l. AllByRecursion Fresh l) (sym (append-nil (map pass_of lines))) pass.1)
          (subst (λ l. AllByRecursion (IsNewSeatOf desk) l) (sym (append-nil (map seat_of lines))) last.1.1);
      publishes = first.0.1;
      count = own.count;
      line_readers = own.lines;
      numbers = numbers.prefix ∙ ap (span 0) own.count;
      checker_number = let a = numbers.checker in let b = own.count in omega (arith, a, b);
      port_number = let a = numbers.port in let b = own.count in omega (arith, a, b);
      line_reader_number = numbers.behind ∙ ap (λ n. span n (length lines)) from ∙ ap (span (c.args.receivers + 2)) own.lines;
      line = subst IsLineRoom (sym own.line) c.in_ok-line.ensures;
      none = own.none;
      pass_room = let a = own.pass_room in omega (arith, a, pass_count, flag);
      seat_room = let a = own.seat_room in omega (arith, a, seats_made, flag);
    }
