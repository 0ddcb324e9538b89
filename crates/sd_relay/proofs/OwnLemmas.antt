-- Passes and seats, paired.
use Rattle.std.proofs.Common.{◌≡◌, ◌∙◌, ℕ, zero, suc, ◌+◌, List, [], ◌∷◌, ◌++◌, All, length, map, refl, sym, ap, arith}
use Rattle.std.specs.List.{AllByRecursion}
use Rattle.std.proofs.lemmas.List.Elements.{All-nil, All-cons}
use Rattle.sd_turn.specs.Lists.{span}
use Rattle.sd_live.specs.Live.{IsReceiverOf, seen}
use Rattle.sd_live.specs.declared.pass.UpPass.{UpPass}
use Rattle.sd_live.specs.declared.up_cell.UpCell.{UpCell}
use Rattle.sd_proxy_desk.specs.Shared.{IsNewSeatOf, OwnSeat, number_of_seat}
use Rattle.sd_proxy_desk.specs.declared.desk.ProxyDesk.{ProxyDesk}
use Rattle.sd_proxy_desk.specs.declared.hub.ProxyPass.{ProxyPass}
use Rattle.sd_relay.specs.Owns.{IsFreshOwn, number_of, pass_of, seat_of}

-- What seats have these numbers, in order: those of a list, two more, and those of another list.
pub record Numbered (from : ℕ) (owns : List ProxyPass) (next last : OwnSeat) (more : List ProxyPass) : Type 0 where
  pub prefix : map number_of owns ≡ span from (length owns)
  pub checker : number_of_seat next ≡ from + length owns
  pub port : number_of_seat last ≡ from + length owns + 1
  pub behind : map number_of more ≡ span (from + length owns + 2) (length more)

-- the first of two equal lists, and what stands behind it
head_is : (a b : ℕ) (xs ys : List ℕ) → a ∷ xs ≡ b ∷ ys → a ≡ b
head_is a b xs ys same = cc

tail_is : (a b : ℕ) (xs ys : List ℕ) → a ∷ xs ≡ b ∷ ys → xs ≡ ys
tail_is a b xs ys same = cc

-- the numbers of seats are those of who has them
numbers_of : (owns : List ProxyPass) → map number_of_seat (map seat_of owns) ≡ map number_of owns
numbers_of [] = refl
numbers_of (own ∷ owns) = ap (λ l. number_of own ∷ l) (numbers_of owns)

-- seats that have the numbers from one on, in order
pub numbered : (from : ℕ) (owns : List ProxyPass) (checker port : OwnSeat) (more : List ProxyPass)
    → map number_of_seat (map seat_of owns ++ checker ∷ port ∷ map seat_of more) ≡ span from (length owns + 2 + length more)
    → Numbered from owns checker port more
numbered from [] checker port more same =
    let count : ℕ = length more in
    let two : length {A = ProxyPass} [] + 2 + count ≡ suc (suc count) = omega arith in
    let all = same ∙ ap (span from) two in
    let rest = tail_is _ _ _ _ all in
    let first : number_of_seat checker ≡ from = head_is _ _ _ _ all in
    let second : number_of_seat port ≡ from + 1 = head_is _ _ _ _ rest in
    let next : from + 1 + 1 ≡ from + length {A = ProxyPass} [] + 2 = omega arith in
    record {
      prefix = refl;
      checker = omega (arith, first);
      port = omega (arith, second);
      behind = sym (numbers_of more) ∙ tail_is _ _ _ _ rest ∙ ap (λ n. span n count) next;
    }
numbered from (own ∷ owns) checker port more same =
    let count : ℕ = length owns in
    let others : ℕ = length more in
    let all_count : length (own ∷ owns) + 2 + others ≡ suc (count + 2 + others) = omega arith in
    let all = same ∙ ap (span from) all_count in
    let first : number_of own ≡ from = head_is _ _ _ _ all in
    let n = numbered (from + 1) owns checker port more (tail_is _ _ _ _ all) in
    let next : from + 1 + count + 2 ≡ from + length (own ∷ owns) + 2 = omega arith in
    record {
      prefix = λ i. first i ∷ n.prefix i;
      checker = omega (arith, n.checker);
      port = omega (arith, n.port);
      behind = n.behind ∙ ap (λ k. span k others) next;
    }

-- how many numbers a span has
pub span_length : (from n : ℕ) → length (span from n) ≡ n
span_length from zero = refl
span_length from (suc n) = ap suc (span_length (from + 1) n)

-- fresh passes and seats, paired
pub fresh_pairs : (cell : UpCell) (desk : ProxyDesk) (history : List ℕ) (owns : List ProxyPass) (passes : List UpPass) (seats : List OwnSeat)
    → AllByRecursion (λ p. IsReceiverOf cell p × (seen p ≡ history)) (map pass_of owns ++ passes) → AllByRecursion (IsNewSeatOf desk) (map seat_of owns ++ seats) → All (IsFreshOwn cell desk history) owns
fresh_pairs cell desk history [] passes seats fresh new = All-nil (IsFreshOwn cell desk history)
fresh_pairs cell desk history (own ∷ owns) passes seats fresh new =
    All-cons (IsFreshOwn cell desk history) own owns (record { pass = fresh.0.0.0; seen = fresh.0.1; seat = new.0.0; events = new.0.1 })
    (fresh_pairs cell desk history owns passes seats fresh.1 new.1)
