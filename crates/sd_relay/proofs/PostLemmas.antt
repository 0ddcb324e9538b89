-- Posts that were run: what their receivers did together.
use Rattle.std.proofs.Common.{◌≡◌, ℕ, zero, suc, ◌+◌, ◌<◌, List, [], ◌∷◌, ◌++◌, length, map, flat_map, take, drop, All, refl, sym, ap, subst, ◌∙◌, ◌*◌, arith, suc-mul, length-append}
use Rattle.std.specs.Prelude.{slice_index_or, ⊤}
use Rattle.std.specs.List.{AllByRecursion}
use Rattle.std.proofs.lemmas.List.Elements.{All-nil, All-cons, All-head, All-tail}
use Rattle.sd_model_outside.specs.Outside.{Object}
use Rattle.sd_model_settings.specs.Entries.{Node}
use Rattle.sd_model_proxy.specs.Relays.{IsRelay, Relay, relay_totals}
use Rattle.sd_model_live.specs.Port.{AreCounted, CountsEach, ProxyAct, ProxyEvent, done_by}
use Rattle.sd_live.specs.Looks.{Begins, HaveAnswered}
use Rattle.sd_relay.specs.Looked.{LookedIn}
use Rattle.sd_live.proofs.LookLemmas.{answered_on}
use Rattle.sd_turn.specs.Lists.{span}
use Rattle.sd_live.specs.Live.{IsPassOf, seen as history_in}
use Rattle.sd_live.specs.declared.pass.UpPass.{UpPass}
use Rattle.sd_live.specs.declared.up_cell.UpCell.{UpCell}
use Rattle.sd_proxy_desk.specs.Shared.{IsSeatOf, OwnSeat, events_of, number_of_seat}
use Rattle.sd_proxy_desk.specs.declared.desk.ProxyDesk.{ProxyDesk}
use Rattle.sd_proxy.specs.Views.{end_view}
use Rattle.sd_relay.specs.Owns.{IsFreshOwn, number_of, pass_of, seat_of}
use Rattle.sd_relay.specs.PostRooms.{IsFitted, NoLineWaits, own_in, source_in, wires_in}
use Rattle.sd_relay.specs.Posts.{HasRun, IsReady}
use Rattle.sd_relay.specs.Relaying.{ended_by, ended_in}
use Rattle.sd_relay.specs.Sums.{WasRun, totals_by, totals_in}
use Rattle.sd_relay.specs.declared.post.Post.{Post}
use Rattle.sd_model_live.proofs.Short.{first_history}
use Rattle.sd_model_proxy.proofs.Short.{AreRelays}

-- a run of wires, and what stands behind it
pub take_run : {L : Type 0} (see : L → Object) (n : ℕ) (first behind : List L) → length first ≡ n → take n (map see (first ++ behind))
    ≡ map see first
take_run see zero [] behind len = refl
take_run see zero (w ∷ first) behind len = absurd (omega (arith, len))
take_run see (suc n) [] behind len = absurd (omega (arith, len))
take_run see (suc n) (w ∷ first) behind len = ap (λ ws. see w ∷ ws) (take_run see n first behind (omega (arith, len)))

pub drop_run : {L : Type 0} (see : L → Object) (n : ℕ) (first behind : List L) → length first ≡ n → drop n (map see (first ++ behind))
    ≡ map see behind
drop_run see zero [] behind len = refl
drop_run see zero (w ∷ first) behind len = absurd (omega (arith, len))
drop_run see (suc n) [] behind len = absurd (omega (arith, len))
drop_run see (suc n) (w ∷ first) behind len = drop_run see n first behind (omega (arith, len))

-- what holds of each member, by recursion
pub by_recursion : {X : Type 0} (P : X → Type 0) (xs : List X) → All P xs → AllByRecursion P xs
by_recursion P [] all = tt
by_recursion P (x ∷ xs) all = (All-head P x xs all, by_recursion P xs (All-tail P x xs all))

module _ {D L : Type 0} (cell : UpCell) (desk : ProxyDesk) (history : List ℕ) where
  -- posts whose receivers have done nothing
  abbrev pub AreFresh : List (Post D L) → Type 0
  AreFresh posts = AllByRecursion (λ p. IsFreshOwn cell desk history p.own) posts

  pub fresh_posts : (xs : List (Post D L)) → AllByRecursion (IsFreshOwn cell desk history) (map own_in xs) → AreFresh xs
  fresh_posts [] all = tt
  fresh_posts (x ∷ xs) all = (all.0, fresh_posts xs all.1)

  pub ready_posts : (nodes : List Node) (xs : List (Post D L)) → AreFresh xs → AllByRecursion (IsFitted nodes) xs → All (IsReady cell desk) xs
  ready_posts nodes [] fresh fitted = All-nil (IsReady cell desk)
  ready_posts nodes (x ∷ xs) fresh fitted =
      All-cons (IsReady cell desk) x xs
      (record { pass = fresh.0.pass; seat = fresh.0.seat; wires = x.wires.ok.0 ∙ fitted.0.1 ∙ sym (ap length fitted.0.0); waiting = x.waiting.ok.0 ∙ fitted.0.3 ∙ sym (ap length fitted.0.0); room = let big = fitted.0.2 in omega (arith, big, x.buf.ok.0) })
      (ready_posts nodes xs fresh.1 fitted.1)

module _ {D L : Type 0} (seen : D → Object) (wire_seen : L → Object) (cell : UpCell) (desk : ProxyDesk) where
  -- a post was run
  abbrev pub Ran : Post D L → Post D L → Type 0
  Ran x y = HasRun seen wire_seen cell desk x y

  -- each was
  abbrev pub AllRan : List (Post D L) → List (Post D L) → Type 0
  AllRan [] [] = ⊤
  AllRan (x ∷ xs) (y ∷ ys) = Ran x y × AllRan xs ys
  AllRan xs ys = ⊥

  pub all_ran : (xs ys : List (Post D L)) → length ys ≡ length xs → ((i : ℕ) (d : Post D L) → i < length xs → Ran (slice_index_or xs i d) (slice_index_or ys i d)) → AllRan xs ys
  all_ran [] [] same each = tt
  all_ran [] (y ∷ ys) same each = absurd (omega (arith, same))
  all_ran (x ∷ xs) [] same each = absurd (omega (arith, same))
  all_ran (x ∷ xs) (y ∷ ys) same each = (each 0 x (omega arith), all_ran xs ys (omega (arith, same)) (λ i d below. each (suc i) d (omega (arith, below))))

  -- their passes are the cell's, before others of the cell
  pub ran_passes : (more : List UpPass) → All (IsPassOf cell) more → (xs ys : List (Post D L)) → AllRan xs ys → All (IsPassOf cell) (map pass_of (map own_in ys) ++ more)
  ran_passes more others [] [] all = others
  ran_passes more others [] (y ∷ ys) all = absurd all
  ran_passes more others (x ∷ xs) [] all = absurd all
  ran_passes more others (x ∷ xs) (y ∷ ys) all = All-cons (IsPassOf cell) y.own.pass (map pass_of (map own_in ys) ++ more) all.0.pass (ran_passes more others xs ys all.1)

  -- their seats are the desk's, before others of the desk
  pub ran_seats : (more : List OwnSeat) → All (IsSeatOf desk) more → (xs ys : List (Post D L)) → AllRan xs ys → All (IsSeatOf desk) (map seat_of (map own_in ys) ++ more)
  ran_seats more others [] [] all = others
  ran_seats more others [] (y ∷ ys) all = absurd all
  ran_seats more others (x ∷ xs) [] all = absurd all
  ran_seats more others (x ∷ xs) (y ∷ ys) all = All-cons (IsSeatOf desk) y.own.seat (map seat_of (map own_in ys) ++ more) all.0.seat (ran_seats more others xs ys all.1)

  pub ran_wires : (xs ys : List (Post D L)) → AllRan xs ys → length (flat_map wires_in ys) ≡ length (flat_map wires_in xs)
  ran_wires [] [] all = refl
  ran_wires [] (y ∷ ys) all = absurd all
  ran_wires (x ∷ xs) [] all = absurd all
  ran_wires (x ∷ xs) (y ∷ ys) all =
      let rest = ran_wires xs ys all.1 in
      let now = length-append y.wires.items (flat_map wires_in ys) in
      let old = length-append x.wires.items (flat_map wires_in xs) in
      omega (arith, rest, now, old, all.0.wires, x.wires.ok.0, y.wires.ok.0)

  pub all_were_run : (xs ys : List (Post D L)) → AllRan xs ys → All WasRun ys
  all_were_run [] [] all = All-nil WasRun
  all_were_run [] (y ∷ ys) all = absurd all
  all_were_run (x ∷ xs) [] all = absurd all
  all_were_run (x ∷ xs) (y ∷ ys) all = All-cons WasRun y ys (all.0.got, all.0.got_is) (all_were_run xs ys all.1)

  -- no line waits in posts
  abbrev pub AreClear : (most : ℕ) → List (Post D L) → Type 0
  AreClear most posts = AllByRecursion (NoLineWaits most) posts

  -- what each receiver did
  abbrev pub relays_of : (most : ℕ) (xs ys : List (Post D L)) → AllRan xs ys → AreClear most xs → List Relay
  relays_of most [] [] all clear = []
  relays_of most [] (y ∷ ys) all clear = []
  relays_of most (x ∷ xs) [] all clear = []
  relays_of most (x ∷ xs) (y ∷ ys) all clear = (all.0.proxies most clear.0).relay ∷ relays_of most xs ys all.1 clear.1

  pub relays_count : (most : ℕ) (xs ys : List (Post D L)) (all : AllRan xs ys) (clear : AreClear most xs) → length (relays_of most xs ys all clear) ≡ length ys
  relays_count most [] [] all clear = refl
  relays_count most [] (y ∷ ys) all clear = absurd all
  relays_count most (x ∷ xs) [] all clear = refl
  relays_count most (x ∷ xs) (y ∷ ys) all clear = ap suc (relays_count most xs ys all.1 clear.1)

  pub relays_ended : (most : ℕ) (xs ys : List (Post D L)) (all : AllRan xs ys) (clear : AreClear most xs) → map end_view (map ended_in ys) ≡ map (λ (r : Relay). r.ended) (relays_of most xs ys all clear)
  relays_ended most [] [] all clear = refl
  relays_ended most [] (y ∷ ys) all clear = absurd all
  relays_ended most (x ∷ xs) [] all clear = refl
  relays_ended most (x ∷ xs) (y ∷ ys) all clear = λ i.
      (ap (λ o. end_view (ended_by o)) all.0.got_is ∙ (all.0.proxies most clear.0).ended_so) i ∷ relays_ended most xs ys all.1 clear.1 i

  pub relays_counted : (most : ℕ) (nodes : List Node) (xs ys : List (Post D L)) (all : AllRan xs ys) (clear : AreClear most xs) → AllByRecursion (IsFitted nodes) xs → map totals_in ys ≡ map (relay_totals nodes) (relays_of most xs ys all clear)
  relays_counted most nodes [] [] all clear fitted = refl
  relays_counted most nodes [] (y ∷ ys) all clear fitted = absurd all
  relays_counted most nodes (x ∷ xs) [] all clear fitted = refl
  relays_counted most nodes (x ∷ xs) (y ∷ ys) all clear fitted = λ i.
      (ap totals_by all.0.got_is ∙ (all.0.proxies most clear.0).totals_are
      ∙ ap (λ ns. relay_totals ns (all.0.proxies most clear.0).relay) fitted.0.0) i ∷ relays_counted most nodes xs ys all.1 clear.1
      fitted.1 i

  -- what each saw is a beginning of the history of all sets
  pub relays_looked : (most : ℕ) (nodes : List Node) (history : List ℕ) (more : List UpPass) (xs ys : List (Post D L)) (all : AllRan xs ys) (clear : AreClear most xs) → AreFresh cell desk (first_history nodes) xs
      → AllByRecursion (λ p. Begins (history_in p) history) (map pass_of (map own_in ys) ++ more) → AllByRecursion (LookedIn nodes history) (relays_of most xs ys all clear)
  relays_looked most nodes history more [] [] all clear fresh begins = tt
  relays_looked most nodes history more [] (y ∷ ys) all clear fresh begins = absurd all
  relays_looked most nodes history more (x ∷ xs) [] all clear fresh begins = absurd all
  relays_looked most nodes history more (x ∷ xs) (y ∷ ys) all clear fresh begins =
      let ups = map (λ x. x.up) (all.0.proxies most clear.0).relay.reads in
      let looks = subst (λ h. HaveAnswered h (history_in y.own.pass) ups) fresh.0.seen (all.0.proxies most clear.0).looks in
      (answered_on (first_history nodes) (history_in y.own.pass) history ups begins.0 looks, relays_looked most nodes history more xs ys all.1 clear.1 fresh.1 begins.1)

  -- each receiver, numbered from this number on, counted each of its datagrams in the history of the desk
  pub relays_acted : (most : ℕ) (nodes : List Node) (seen_first : List ℕ) (log : List ProxyAct) (more : List OwnSeat) (from : ℕ) (xs ys : List (Post D L)) (all : AllRan xs ys) (clear : AreClear most xs)
      → AreFresh cell desk seen_first xs → AllByRecursion (IsFitted nodes) xs → map number_of (map own_in xs) ≡ span from (length xs)
      → AllByRecursion (λ s. events_of s ≡ done_by (number_of_seat s) log) (map seat_of (map own_in ys) ++ more)
      → AreCounted 1 most nodes from (relays_of most xs ys all clear) log
  relays_acted most nodes seen_first log more from [] [] all clear fresh fitted numbers own = tt
  relays_acted most nodes seen_first log more from [] (y ∷ ys) all clear fresh fitted numbers own = absurd all
  relays_acted most nodes seen_first log more from (x ∷ xs) [] all clear fresh fitted numbers own = absurd all
  relays_acted most nodes seen_first log more from (x ∷ xs) (y ∷ ys) all clear fresh fitted numbers own =
      let did = (all.0.proxies most clear.0).counts in
      let relay : Relay = (all.0.proxies most clear.0).relay in
      let events : List ProxyEvent = did.0 in
      let number : number_of_seat x.own.seat ≡ from = cc in
      let rest : map number_of (map own_in xs) ≡ span (from + 1) (length xs) = cc in
      let is : events ≡ done_by from log = sym (did.1 ∙ ap (λ (l : List ProxyEvent). l ++ events) fresh.0.events) ∙ own.0 ∙ ap (λ n. done_by n log) (all.0.number ∙ number) in (
        subst (λ l. CountsEach 1 most nodes relay l) is (subst (λ ns. CountsEach 1 most ns relay events) fitted.0.0 did.2),
        relays_acted most nodes seen_first log more (from + 1) xs ys all.1 clear.1 fresh.1 fitted.1 rest own.1,
      )

  one_relay : (most : ℕ) (nodes : List Node) (x y : Post D L) (ran : Ran x y) (clear : NoLineWaits most x) → x.ring ≡ nodes → IsRelay most nodes (ran.proxies most clear).relay (seen x.packets) (seen y.packets) (map wire_seen x.wires.items) (map wire_seen y.wires.items)
  one_relay most nodes x y ran clear ring = subst (λ ns. IsRelay most ns (ran.proxies most clear).relay (seen x.packets) (seen y.packets) (map wire_seen x.wires.items) (map wire_seen y.wires.items)) ring (ran.proxies most clear).relays

  -- each did what a receiver does, with its own source and its own run of wires
  pub all_relays : (most : ℕ) (nodes : List Node) (more : List D) (xs ys : List (Post D L)) (all : AllRan xs ys) (clear : AreClear most xs)
      → AllByRecursion (IsFitted nodes) xs
      → AreRelays most nodes (relays_of most xs ys all clear) (map seen (map source_in xs ++ more)) (map seen (map source_in ys ++ more))
      (map wire_seen (flat_map wires_in xs)) (map wire_seen (flat_map wires_in ys))
  all_relays most nodes more [] [] all clear fitted = (refl, refl)
  all_relays most nodes more [] (y ∷ ys) all clear fitted = absurd all
  all_relays most nodes more (x ∷ xs) [] all clear fitted = absurd all
  all_relays most nodes more (x ∷ xs) (y ∷ ys) all clear fitted =
      let run : ℕ = length nodes in
      let old_len : length x.wires.items ≡ run = fitted.0.1 in
      let now_len : length y.wires.items ≡ run = sym y.wires.ok.0 ∙ all.0.wires ∙ x.wires.ok.0 ∙ old_len in
      let relay : Relay = (all.0.proxies most clear.0).relay in
      let first : IsRelay most nodes relay (seen x.packets) (seen y.packets) (take run (map wire_seen (flat_map wires_in (x ∷ xs))))
      (take run (map wire_seen (flat_map wires_in (y ∷ ys)))) =
      subst (λ ws. IsRelay most nodes relay (seen x.packets) (seen y.packets) ws (take run (map wire_seen (flat_map wires_in (y ∷ ys)))))
      (sym (take_run wire_seen run x.wires.items (flat_map wires_in xs) old_len))
      (subst (λ ws. IsRelay most nodes relay (seen x.packets) (seen y.packets) (map wire_seen x.wires.items) ws)
      (sym (take_run wire_seen run y.wires.items (flat_map wires_in ys) now_len))
      (one_relay most nodes x y all.0 clear.0 fitted.0.0)) in
      let others = all_relays most nodes more xs ys all.1 clear.1 fitted.1 in
      let behind = subst (λ ws. AreRelays most nodes (relays_of most xs ys all.1 clear.1) (map seen (map source_in xs ++ more))
      (map seen (map source_in ys ++ more)) ws (drop run (map wire_seen (flat_map wires_in (y ∷ ys)))))
      (sym (drop_run wire_seen run x.wires.items (flat_map wires_in xs) old_len))
      (subst (λ ws. AreRelays most nodes (relays_of most xs ys all.1 clear.1) (map seen (map source_in xs ++ more))
      (map seen (map source_in ys ++ more)) (map wire_seen (flat_map wires_in xs)) ws)
      (sym (drop_run wire_seen run y.wires.items (flat_map wires_in ys) now_len))
      others) in
      (first, behind)

-- as many wires as there are nodes, for each post
pub runs_long : {D L : Type 0} (nodes : List Node) (xs : List (Post D L)) → AllByRecursion (IsFitted nodes) xs
    → length (flat_map wires_in xs) ≡ length xs * length nodes
runs_long nodes [] fitted = omega arith
runs_long nodes (x ∷ xs) fitted =
    let count : ℕ = length xs in
    let run : ℕ = length nodes in
    let rest = runs_long nodes xs fitted.1 in
    let both = length-append x.wires.items (flat_map wires_in xs) in
    let one : length x.wires.items ≡ run = fitted.0.1 in
    let more : suc count * run ≡ count * run + run = suc-mul count run in
    let step : length (flat_map wires_in (x ∷ xs)) ≡ suc count * run = omega (arith, rest, both, one, more) in
    step
