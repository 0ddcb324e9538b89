-- One record more of a replay.
use Rattle.std.proofs.Common.{◌≡◌, List, [], ◌∷◌, ◌++◌, map, refl, ap, ◌∙◌, append-nil}
use Rattle.std.specs.Prelude.{filter_map, flat_map, Option}
use Rattle.std.specs.List.{AllByRecursion, cons_option}
use Rattle.std.proofs.lemmas.Grind.{flat_map-append}
use Rattle.std.proofs.lemmas.List.{map-append}
use Rattle.std.proofs.lemmas.List.Elements.{filter_map-append}
use Rattle.std.proofs.lemmas.List.Sums.{fold_push}
use Rattle.sd_model_serve.specs.Rounds.{Round, round_text}
use Rattle.sd_model_outside.specs.Uses.{Delivery}
use Rattle.sd_model_outside.specs.Backend.{Backend, at_backend}
use Rattle.sd_model_replay.specs.Replay.{Bounds, bounds_of, Played, Run, first_run, play, run_of, Moment, moments, form_of, round_by, rounds, deliveries, sending_by}
use Rattle.sd_model_replay.specs.Script.{ScriptCommand, spelled, script_text}
use Rattle.sd_model_replay.specs.AccountingTheorem.{output_in, output_of}
use Rattle.sd_model_settings.specs.Settings.{Settings}
use Rattle.sd_model_replay.proofs.Short.{sendings}

-- The state before a record that comes after others, whose first one, or else itself, tells the start.
abbrev pub run_before : Bounds → List Played → Played → Run
run_before bounds played p = run_of bounds (first_run (played ++ p ∷ [])) played

pub run_of-push : (bounds : Bounds) (played : List Played) (p : Played) → run_of bounds (first_run (played ++ p ∷ [])) (played ++ p ∷ []) ≡ play bounds (run_before bounds played p) p
run_of-push bounds played p = fold_push (play bounds) (first_run (played ++ p ∷ [])) played p

moments-push : (bounds : Bounds) (run : Run) (played : List Played) (p : Played) → moments bounds run (played ++ p ∷ []) ≡ moments bounds run played ++ record { before = run_of bounds run played; played = p } ∷ []
moments-push bounds run [] p = refl
moments-push bounds run (q ∷ played) p = ap (λ (ms : List Moment). record { before = run; played = q } ∷ ms) (moments-push bounds (play bounds run q) played p)

-- where records are before it, it doesn't tell the start
same_moments : (bounds : Bounds) (played : List Played) (p : Played) → moments bounds (first_run (played ++ p ∷ [])) played ≡ moments bounds (first_run played) played
same_moments bounds [] p = refl
same_moments bounds (q ∷ played) p = refl

-- a record more has a moment more
pub moments-more : (bounds : Bounds) (played : List Played) (p : Played)
    → moments bounds (first_run (played ++ p ∷ [])) (played ++ p ∷ []) ≡ moments bounds (first_run played) played ++ record { before = run_before bounds played p; played = p } ∷ []
moments-more bounds played p =
    moments-push bounds (first_run (played ++ p ∷ [])) played p
    ∙ ap (λ (ms : List Moment). ms ++ record { before = run_before bounds played p; played = p } ∷ []) (same_moments bounds played p)

-- the round that a record is in this state, if it is a flush
abbrev pub round_at : Run → Played → Option Round
round_at run p = round_by run p.command p.outcome

rounds-push : (bounds : Bounds) (played : List Played) (p : Played)
    → rounds bounds (played ++ p ∷ []) ≡ rounds bounds played ++ cons_option (round_at (run_before bounds played p) p) []
rounds-push bounds played p =
    ap (filter_map (λ (m : Moment). round_by m.before m.played.command m.played.outcome)) (moments-more bounds played p)
    ∙ filter_map-append (λ (m : Moment). round_by m.before m.played.command m.played.outcome) (moments bounds (first_run played) played) (record { before = run_before bounds played p; played = p } ∷ [])

-- what a round has for a backend
abbrev pub delivery_of : Settings → Backend → Round → Delivery
delivery_of settings back r = record { text = round_text (form_of settings) back r; mark = at_backend r.marks back }

pub deliveries-push : (settings : Settings) (back : Backend) (played : List Played) (p : Played)
    → deliveries settings back (played ++ p ∷ []) ≡ deliveries settings back played ++ map (delivery_of settings back) (cons_option (round_at (run_before (bounds_of settings) played p) p) [])
deliveries-push settings back played p =
    ap (map (delivery_of settings back)) (rounds-push (bounds_of settings) played p)
    ∙ map-append (delivery_of settings back) (rounds (bounds_of settings) played) (cons_option (round_at (run_before (bounds_of settings) played p) p) [])

-- what a record writes is after what those before it write
pub output_of-push : (settings : Settings) (played : List Played) (p : Played) → output_of settings (played ++ p ∷ []) ≡ output_of settings played ++ output_in settings (run_before (bounds_of settings) played p) p.command
output_of-push settings played p =
    ap (flat_map (λ (m : Moment). output_in settings m.before m.played.command)) (moments-more (bounds_of settings) played p)
    ∙ flat_map-append (λ (m : Moment). output_in settings m.before m.played.command) (moments (bounds_of settings) (first_run played) played) (record { before = run_before (bounds_of settings) played p; played = p } ∷ [])
    ∙ ap (λ text. output_of settings played ++ text) (append-nil (output_in settings (run_before (bounds_of settings) played p) p.command))

pub sendings-push : (played : List Played) (p : Played) → sendings (played ++ p ∷ []) ≡ sendings played ++ cons_option (sending_by p.command p.outcome) []
sendings-push played p = filter_map-append (λ (q : Played). sending_by q.command q.outcome) played (p ∷ [])

pub script_text-end : (commands : List ScriptCommand) (c : ScriptCommand) → script_text (commands ++ c ∷ []) ≡ script_text commands ++ spelled c
script_text-end commands c = flat_map-append spelled commands (c ∷ []) ∙ ap (λ text. script_text commands ++ text) (append-nil (spelled c))

pub AllByRecursion-push : {A : Type 0} (P : A → Type 0) (xs : List A) (x : A) → AllByRecursion P xs → P x → AllByRecursion P (xs ++ x ∷ [])
AllByRecursion-push P [] x all one = (one, tt)
AllByRecursion-push P (y ∷ xs) x all one = (all.0, AllByRecursion-push P xs x all.1 one)
