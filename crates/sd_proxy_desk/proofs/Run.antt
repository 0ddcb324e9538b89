-- The checks of a run, one tick after another.
use Rattle.std.proofs.Common.{◌≡◌, ℕ, ◌+◌, ◌^◌, ◌<◌, ◌≤◌, min, List, [], ◌∷◌, ◌++◌, length, map, All, Option, refl, sym, ap, ◌∙◌, subst, arith, length-append, append_assoc, append-nil}
use Rattle.std.specs.Option.{is_none}
use Rattle.std.specs.Prelude.{count_by}
use Rattle.std.proofs.lemmas.List.{map-append, length-map}
use Rattle.std.proofs.lemmas.List.Concat.{flat_map-append}
use Rattle.std.proofs.lemmas.List.Elements.{All-nil, All-push}
use Rattle.sd_model_settings.specs.Entries.{Node}
use Rattle.sd_model_outside.specs.Outside.{Object, Place, Content, Ticks, HasFailed, Rose, last_count}
use Rattle.sd_outside.specs.Turns.{raised, GivesTick}
use Rattle.sd_model_outside.specs.Uses.{IsSpent, with_ticks, AreAsked}
use Rattle.sd_model_outside.proofs.TurnLemmas.{with_ticks-append}
use Rattle.sd_model_serve.specs.Receiving.{EndsReceiver, IsShort, most_turns}
use Rattle.sd_model_live.specs.Proxy.{Check, IsCheck, answers_of}
use Rattle.sd_model_live.specs.Port.{CountsCheck, ProxyEvent}
use Rattle.sd_model_live.proofs.QuestionLemmas.{AreAsked-append, failed-append}
use Rattle.sd_proxy_desk.specs.Questions.{HasAskedAll}
use Rattle.sd_proxy_desk.specs.Checking.{CheckSeen, Checks, end_view}
use Rattle.sd_proxy_desk.specs.declared.checked.CheckEnd.{CheckEnd}
use Rattle.sd_proxy_desk.specs.declared.checked.Checked.{Checked}
use Rattle.sd_model_live.proofs.Short.{places_asked, admin_place, failed_of, failed_in}

-- a beat gave no tick
with_ticks-nil : (content : Content) → content ≡ with_ticks [] content
with_ticks-nil (Ticks left) = refl
with_ticks-nil content = refl

-- the seconds of checks
abbrev seconds : List Check → List ℕ
seconds checks = map (λ (c : Check). c.second) checks

-- the sets that checks published
abbrev sets : List Check → List ℕ
sets checks = map (λ (c : Check). c.up) checks

-- what is done at the desk for checks
abbrev counts : List Check → List ProxyEvent
counts checks = map (λ (c : Check). CountsCheck (failed_of c)) checks

-- so many checks were made, in which the beat didn't fail
pub record Ran (nodes : List Node) (old now : CheckSeen) (count faults : ℕ) : Type 0 where
  pub checks : List Check
  pub counted : count ≡ length checks
  pub are : All (IsCheck nodes) checks
  pub published : now.history ≡ old.history ++ map (λ c. c.up) checks
  pub events : now.events ≡ old.events ++ map (λ c. CountsCheck (failed_of c)) checks
  pub asked : AreAsked (places_asked nodes checks) (answers_of checks) old.probe now.probe
  pub failures : faults ≡ min (failed_in checks) (2 ^ 63)
  pub given : old.beat.content ≡ with_ticks (map (λ c. c.second) checks) now.beat.content
  pub turns : now.beat.turns ≡ min (old.beat.turns + count) last_count
  pub steady : now.beat.faults ≡ old.beat.faults
  pub same : now.beat ≡ record old.beat { content = now.beat.content; faults = now.beat.faults; turns = now.beat.turns }

pub ran_none : (nodes : List Node) (old : CheckSeen) → old.beat.turns ≤ last_count → Ran nodes old old 0 0
ran_none nodes old fits = record {
  checks = [];
  counted = refl;
  are = All-nil (IsCheck nodes);
  published = sym (append-nil old.history);
  events = sym (append-nil old.events);
  asked = refl;
  failures = omega arith;
  given = with_ticks-nil old.beat.content;
  turns = omega (arith, fits);
  steady = refl;
  same = refl;
}

-- the history has one set more for each check
pub ran_length : (nodes : List Node) (old now : CheckSeen) (count faults : ℕ) → Ran nodes old now count faults → length now.history ≡ length old.history + count
ran_length nodes old now count faults r =
    ap length r.published ∙ length-append old.history (sets r.checks) ∙ ap (λ n. length old.history + n) (length-map r.checks (λ (c : Check). c.up) ∙ sym r.counted)

module _ (nodes : List Node) (old now : CheckSeen) (count faults : ℕ) where
  -- nothing else of a beat changed
  abbrev Same : Object → Object → Type 0
  Same before after = after ≡ record before { content = after.content; faults = after.faults; turns = after.turns }

  same_next : (beat_now : Object) → Same old.beat now.beat → Same now.beat beat_now → Same old.beat beat_now
  same_next beat_now first second = second ∙ ap (λ (o : Object). record o { content = beat_now.content; faults = beat_now.faults; turns = beat_now.turns }) first

  -- a tick, its questions, its set, and its count
  pub ran_more : (then : CheckSeen) (second up failed faults_now : ℕ) → Ran nodes old now count faults → GivesTick second now.beat then.beat → HasAskedAll nodes now.probe then.probe up failed → then.history ≡ now.history ++ up ∷ []
      → then.events ≡ now.events ++ CountsCheck failed ∷ [] → faults_now ≡ min (faults + failed) (2 ^ 63) → Ran nodes old then (count + 1) faults_now
  ran_more then second up failed faults_now r gives a published did more =
      let c : Check = record { second = second; answers = a.answers; up = up } in
      let content : now.beat.content ≡ with_ticks (second ∷ []) then.beat.content = ap (λ (o : Object). o.content) gives in
      let turn : raised now.beat.turns ≡ then.beat.turns = ap (λ (o : Object). o.turns) gives in
      let places : places_asked nodes (r.checks ++ c ∷ []) ≡ places_asked nodes r.checks ++ map admin_place nodes = flat_map-append (λ (c : Check). map admin_place nodes) r.checks (c ∷ []) ∙ ap (λ l. places_asked nodes r.checks ++ l) (append-nil (map admin_place nodes)) in
      let answers : answers_of (r.checks ++ c ∷ []) ≡ answers_of r.checks ++ a.answers = flat_map-append (λ (c : Check). c.answers) r.checks (c ∷ []) ∙ ap (λ l. answers_of r.checks ++ l) (append-nil a.answers) in
      let all : failed_in (r.checks ++ c ∷ []) ≡ failed_in r.checks + failed = ap (count_by is_none) answers ∙ failed-append (answers_of r.checks) a.answers ∙ ap (λ n. failed_in r.checks + n) (sym a.failures) in
      let one : CountsCheck failed ≡ CountsCheck (failed_of c) = ap (λ n. CountsCheck n) a.failures in
      record {
        checks = r.checks ++ c ∷ [];
        counted = ap (λ n. n + 1) r.counted ∙ sym (length-append r.checks (c ∷ []));
        are = All-push (IsCheck nodes) r.checks c r.are (record { each = a.each; set = a.set });
        published = published ∙ ap (λ l. l ++ up ∷ []) r.published ∙ append_assoc old.history (sets r.checks) (up ∷ []) ∙ ap (λ l. old.history ++ l) (sym (map-append (λ (c : Check). c.up) r.checks (c ∷ [])));
        events = did ∙ (λ i. r.events i ++ one i ∷ []) ∙ append_assoc old.events (counts r.checks) (CountsCheck (failed_of c) ∷ [])
            ∙ ap (λ l. old.events ++ l) (sym (map-append (λ (c : Check). CountsCheck (failed_of c)) r.checks (c ∷ [])));
        asked = subst (λ (x : List Place × List (Option (List ℕ))). AreAsked x.0 x.1 old.probe then.probe) (λ i. (sym places i, sym answers i))
            (AreAsked-append (places_asked nodes r.checks) (map admin_place nodes) (answers_of r.checks) a.answers old.probe now.probe then.probe r.asked a.asked);
        failures = let f = r.failures in omega (arith, more, all, f);
        given = r.given ∙ ap (with_ticks (seconds r.checks)) content ∙ with_ticks-append then.beat.content (seconds r.checks) (second ∷ [])
            ∙ ap (λ ts. with_ticks ts then.beat.content) (sym (map-append (λ (c : Check). c.second) r.checks (c ∷ [])));
        turns = omega (arith, turn, r.turns);
        steady = ap (λ (o : Object). o.faults) (sym gives) ∙ r.steady;
        same = same_next then.beat r.same (ap (λ (o : Object). record o { content = then.beat.content; faults = then.beat.faults; turns = then.beat.turns }) (sym gives));
      }

  -- how it ended: at most the count of the beat's faults changed
  pub ran_out : (beat_now : Object) (ended : CheckEnd) (result : Checked) → result.ended ≡ ended → result.checks ≡ count → result.probe_faults ≡ faults → Ran nodes old now count faults → beat_now ≡ record now.beat { faults = beat_now.faults }
      → EndsReceiver 0 (end_view ended) old.beat beat_now 0 count → Checks nodes old (record now { beat = beat_now }) result
  ran_out beat_now ended result so counted faulty r last ends = record {
    made = r.checks;
    checked = record {
      are = r.are;
      published = r.published;
      asked = r.asked;
      given = r.given ∙ ap (λ (o : Object). with_ticks (seconds r.checks) o.content) (sym last);
      turns = ap (λ (o : Object). o.turns) last ∙ r.turns ∙ ap (λ n. min (old.beat.turns + n) last_count) r.counted;
      ends = subst (λ (x : CheckEnd × ℕ). EndsReceiver 0 (end_view x.0) old.beat beat_now 0 x.1) (λ i. (sym so i, r.counted i)) ends;
      same = same_next beat_now r.same (last ∙ ap (λ (o : Object). record now.beat { content = o.content; faults = beat_now.faults; turns = o.turns }) (sym last));
    };
    events = r.events;
    count = counted ∙ r.counted;
    faults = faulty ∙ r.failures;
  }

  -- the beat had no tick left
  pub ends_spent : (beat_now : Object) → Ran nodes old now count faults → beat_now ≡ now.beat → IsSpent now.beat.content → count < most_turns → IsSpent beat_now.content × (beat_now.faults ≡ old.beat.faults) × IsShort 0 0 × (count < most_turns)
  ends_spent beat_now r last spent few = (subst (λ (o : Object). IsSpent o.content) (sym last) spent, ap (λ (o : Object). o.faults) last ∙ r.steady, λ some. some, few)

  -- the beat failed
  pub ends_failed : (beat_now : Object) → Ran nodes old now count faults → HasFailed now.beat beat_now → count < most_turns → Rose old.beat.faults beat_now.faults × IsShort 0 0 × (count < most_turns)
  ends_failed beat_now r failed few = (subst (λ n. Rose n beat_now.faults) r.steady failed.rose, λ some. some, few)

-- a beat that is as it was
pub same_faults : (old new : Object) → new ≡ old → new ≡ record old { faults = new.faults }
same_faults old new last = last ∙ ap (λ (o : Object). record old { faults = o.faults }) (sym last)
