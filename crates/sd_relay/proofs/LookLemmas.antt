-- Receivers, one more that looks at the sets, and readers of lines, in one order of steps.
use Rattle.std.proofs.Common.{◌≡◌, ◌∙◌, ℕ, ◌+◌, List, [], ◌∷◌, ◌++◌, length, map, refl, sym, ap, subst, arith}
use Rattle.std.specs.List.{AllByRecursion}
use Rattle.sd_model_settings.specs.Entries.{Node}
use Rattle.sd_model_serve.specs.Receiving.{Spent}
use Rattle.sd_model_proxy.specs.Relays.{Relay}
use Rattle.sd_model_proxy.specs.Routes.{Read}
use Rattle.sd_model_live.specs.Proxy.{AreCurrent, AreReported, SetStep, all_of, published_in, reported_to}
use Rattle.sd_live.specs.Looks.{HaveAnswered}
use Rattle.sd_relay.specs.Looked.{LookedIn}
use Rattle.sd_relay.proofs.OrderLemmas.{one_order}
use Rattle.sd_model_live.proofs.Short.{first_history}

-- what holds of each of both lists holds of each of the second
pub all_behind : {X : Type 0} (P : X → Type 0) (xs ys : List X) → AllByRecursion P (xs ++ ys) → AllByRecursion P ys
all_behind P [] ys all = all
all_behind P (x ∷ xs) ys all = all_behind P xs ys all.1

-- what holds of each of two lists holds of each of both
all_joined : {X : Type 0} (P : X → Type 0) (xs ys : List X) → AllByRecursion P xs → AllByRecursion P ys → AllByRecursion P (xs ++ ys)
all_joined P [] ys first second = second
all_joined P (x ∷ xs) ys first second = (first.0, all_joined P xs ys first.1 second)

-- a read of no lines under a set
abbrev read_under : ℕ → Read
read_under up = record { lines = []; long = 0; up = up }

-- a receiver that looked so
abbrev looker : List ℕ → Relay
looker ups = record { datagrams = []; reads = map read_under ups; batched = λ place. []; ended = Spent }

-- the sets of such reads
sets_of : (ups : List ℕ) → map (λ (x : Read). x.up) (map read_under ups) ≡ ups
sets_of [] = refl
sets_of (up ∷ ups) = ap (λ l. up ∷ l) (sets_of ups)

-- what the first receivers were told, and what those behind them were
reported_prefix : (from : ℕ) (relays : List Relay) (more : List Relay) (steps : List SetStep) → AreReported from (relays ++ more) steps → AreReported from relays steps
reported_prefix from [] more steps reported = tt
reported_prefix from (r ∷ relays) more steps reported = (reported.0, reported_prefix (from + 1) relays more steps reported.1)

reported_behind : (from : ℕ) (relays : List Relay) (more : List Relay) (steps : List SetStep) → AreReported from (relays ++ more) steps
    → AreReported (from + length relays) more steps
reported_behind from [] more steps reported = let same : from ≡ from + 0 = omega arith in subst (λ n. AreReported n more steps) same reported
reported_behind from (r ∷ relays) more steps reported =
    let n : ℕ = length relays in
    let same : (from + 1) + n ≡ from + length (r ∷ relays) = omega arith in
    subst (λ k. AreReported k more steps) same (reported_behind (from + 1) relays more steps reported.1)

-- the publications; the looks of receivers, numbered from 0 on; those of one more, which has the number behind theirs; and those of
-- readers of lines, which have the next
pub record InOrderWith (first : ℕ) (pubs : List ℕ) (relays : List Relay) (ups : List ℕ) (line_relays : List Relay) : Type 0 where
  pub steps : List SetStep
  pub published : published_in steps ≡ pubs
  pub current : AreCurrent first steps
  pub reported : AreReported 0 relays steps
  pub other : reported_to (length relays) steps ≡ ups
  pub lines_reported : AreReported (length relays + 1) line_relays steps

-- receivers, one more and readers of lines that looked at one history, which these sets went on, did so in one order of steps
pub order_with : (nodes : List Node) (history pubs : List ℕ) (relays : List Relay) (ups : List ℕ) (line_relays : List Relay) → history
    ≡ all_of (length nodes) ∷ pubs
    → AllByRecursion (LookedIn nodes history) relays → HaveAnswered (first_history nodes) history ups
    → AllByRecursion (LookedIn nodes history) line_relays
    → InOrderWith (all_of (length nodes)) pubs relays ups line_relays
order_with nodes history pubs relays ups line_relays is looked more lines_looked =
    let one : LookedIn nodes history (looker ups) = subst (HaveAnswered (first_history nodes) history) (sym (sets_of ups)) more in
    let behind : List Relay = looker ups ∷ line_relays in
    let same : 0 + length relays ≡ length relays = omega arith in
    let o = one_order nodes history pubs (relays ++ behind) is
    (all_joined (LookedIn nodes history) relays behind looked (one, lines_looked)) in
    let reported = subst (λ n. AreReported n behind o.steps) same (reported_behind 0 relays behind o.steps o.reported) in
    record {
      steps = o.steps;
      published = o.published;
      current = o.current;
      reported = reported_prefix 0 relays behind o.steps o.reported;
      other = reported.0 ∙ sets_of ups;
      lines_reported = reported.1;
    }
