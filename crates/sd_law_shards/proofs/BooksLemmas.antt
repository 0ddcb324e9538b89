-- The numbers of the shards, together: each shard has its part of what came to all.
use Rattle.std.proofs.Common.{◌≡◌, ℕ, zero, suc, subst, ◌+◌, ◌<◌, ◌≤◌, Bool, true, false, cond, eqb, List, [], ◌∷◌, ◌++◌, length, map, refl, sym, ap, ◌∙◌, append-nil, arith}
use Rattle.std.specs.Prelude.{not, fold, filter, sum_by, Result, Ok, Err, Option, Some, None}
use Rattle.std.specs.List.{range_with_len}
use Rattle.std.specs.FinMap.{empty}
use Rattle.std.proofs.lemmas.List.{map-append, length-map, length-append}
use Rattle.std.proofs.lemmas.List.Elements.{filter-append}
use Rattle.std.proofs.lemmas.List.Sums.{sum_by-cons}
use Rattle.std.proofs.Math.Nat.{mod-lt}
use Rattle.sd_model_text.specs.Names.{Kind, fnv1a}
use Rattle.sd_model_text.specs.Lines.{Sample, samples_of}
use Rattle.sd_model_shard.specs.Rows.{Rows, Entry, row_of, is_hit, rows_left}
use Rattle.sd_model_shard.specs.Shard.{State, Cause, Limits, Policy, Event, Submit, Swap, Delete, Dump, Look, step, admitted, refusal, kept_rows, after_swap, after_delete}
use Rattle.sd_model_shard.specs.History.{Asked, answered, part_of}
use Rattle.sd_model_shard.proofs.KeptRowLemmas.{Stands, Stands-empty, Stands-sample, Stands-swap, Stands-delete, deleted_reported}
use Rattle.sd_model_shard.proofs.OrderLemmas.{weighed_once}
use Rattle.sd_model_record.specs.Admin as admin
use Rattle.sd_model_record.specs.Admin.{AdminFault}
use Rattle.sd_model_replay.specs.Replay.{Bounds, Played, Run, first_run, home_of, events_of_record, play, run_of}
use Rattle.sd_model_replay.specs.Script.{ScriptCommand, Packet, Flush, Admin}
use Rattle.sd_model_record.specs.Replies.{admin_events}
use Rattle.sd_model_replay.specs.AccountingTheorem.{summed}
use Rattle.sd_law_shards.specs.Shards.{NoneDropped}
use Rattle.sd_law_shards.proofs.ViewLemmas.{after_asked}
use Rattle.sd_law_shards.proofs.EventsLemmas.{submits, asks, events_of}
use Rattle.sd_law_shards.proofs.ShownLemmas.{NoneFrom, none_first, none_behind, none_summed}
use Rattle.sd_model_shard.proofs.Short.{act_of, entries_taken_out, entries_left, causes}

-- the samples that came, and where they are
pub record Books : Type 0 where
  pub came : List Sample
  pub flushed : List Sample
  pub deleted : List Sample
  pub held : List Sample

abbrev is_hit_by : Kind → List ℕ → Sample → Bool
is_hit_by kind pattern s = is_hit kind pattern (row_of s)

abbrev is_left_by : Kind → List ℕ → Sample → Bool
is_left_by kind pattern s = not (is_hit kind pattern (row_of s))

abbrev pub books_event : Books → Event → Books
books_event b (Submit s) = record { came = b.came ++ s ∷ []; flushed = b.flushed; deleted = b.deleted; held = b.held ++ s ∷ [] }
books_event b Swap = record { came = b.came; flushed = b.flushed ++ b.held; deleted = b.deleted; held = [] }
books_event b (Delete kind pattern) = record { came = b.came; flushed = b.flushed; deleted = b.deleted ++ filter (is_hit_by kind pattern) b.held; held = filter (is_left_by kind pattern) b.held }
books_event b (Dump kind) = b
books_event b Look = b

abbrev pub books_step : Books → Asked → Books
books_step b q = books_event b q.event

-- A state has the numbers of such books: its rows are those of entries, whose samples are the ones held.
record Tells (state : State) (b : Books) : Type 0 where
  taken : state.taken ≡ length b.came
  dropped : state.dropped ≡ 0
  flushed : state.flushed ≡ length b.flushed
  deleted : state.deleted ≡ length b.deleted
  kept_before : Rows
  journal : List Entry
  stands : Stands kept_before state journal
  held : map (λ e. e.sample) journal ≡ b.held

abbrev sample_in : Entry → Sample
sample_in e = e.sample

filter-samples : (p : Sample → Bool) (held : List Entry) → map sample_in (filter (λ e. p e.sample) held) ≡ filter p (map sample_in held)
filter-samples p [] = refl
filter-samples p (e ∷ held) = by_test (p e.sample) (filter-samples p held) where
  by_test : (t : Bool) → map sample_in (filter (λ e. p e.sample) held) ≡ filter p (map sample_in held) → map sample_in (cond t (e ∷ filter (λ e. p e.sample) held) (filter (λ e. p e.sample) held)) ≡ cond t (e.sample ∷ filter p (map sample_in held)) (filter p (map sample_in held))
  by_test true h = ap (λ rest. e.sample ∷ rest) h
  by_test false h = h

sample_tells : (state : State) (b : Books) (who : ℕ) (s : Sample) → Tells state b → Tells (admitted state s None).state (books_event b (Submit s))
sample_tells state b who s h =
    let e : Entry = record { who = who; number = state.taken; sample = s } in
    record {
      taken = omega (arith, h.taken, length-append b.came (s ∷ []));
      dropped = h.dropped;
      flushed = h.flushed;
      deleted = h.deleted;
      kept_before = h.kept_before;
      journal = h.journal ++ e ∷ [];
      stands = Stands-sample h.kept_before state h.journal who s h.stands;
      held = map-append sample_in h.journal (e ∷ []) ∙ ap (λ (held : List Sample). held ++ s ∷ []) h.held;
    }

swap_tells : (policy : Policy) (state : State) (b : Books) → Tells state b → Tells (after_swap policy state) (books_event b Swap)
swap_tells policy state b h = record {
  taken = h.taken;
  dropped = h.dropped;
  flushed = omega (arith, h.flushed, h.stands.held, length-append b.flushed b.held, ap length h.held, length-map h.journal sample_in);
  deleted = h.deleted;
  kept_before = kept_rows policy state.live;
  journal = [];
  stands = Stands-swap policy state;
  held = refl;
}

delete_tells : (kind : Kind) (pattern : List ℕ) (state : State) (b : Books) → Tells state b → Tells (after_delete kind pattern state) (books_event b (Delete kind pattern))
delete_tells kind pattern state b h =
    let gone = filter-samples (is_hit_by kind pattern) h.journal ∙ ap (filter (is_hit_by kind pattern)) h.held in
    record {
      taken = h.taken;
      dropped = h.dropped;
      flushed = h.flushed;
      deleted = omega (
        arith,
        h.deleted,
        deleted_reported kind pattern h.kept_before state h.journal h.stands,
        length-append b.deleted (filter (is_hit_by kind pattern) b.held),
        ap length gone,
        length-map (entries_taken_out kind pattern h.journal) sample_in,
      );
      kept_before = rows_left kind pattern h.kept_before;
      journal = entries_left kind pattern h.journal;
      stands = Stands-delete kind pattern h.kept_before state h.journal h.stands;
      held = filter-samples (is_left_by kind pattern) h.journal ∙ ap (filter (is_left_by kind pattern)) h.held;
    }

sample_taken : (limits : Limits) (policy : Policy) (state : State) (who : ℕ) (s : Sample) (answer : Option Cause) (asked : List Asked) (b : Books) → Tells state b
    → causes (record { who = who; event = Submit s; reply = (admitted state s answer).reply } ∷ answered limits policy (admitted state s answer).state asked) ≡ []
    → (causes (answered limits policy (admitted state s answer).state asked) ≡ []) × Tells (admitted state s answer).state (books_event b (Submit s))
sample_taken limits policy state who s None asked b h none = (none, sample_tells state b who s h)
sample_taken limits policy state who s (Some cause) asked b h none = absurd (cc)

tells_asked : (limits : Limits) (policy : Policy) (state : State) (b : Books) (asked : List Asked) → Tells state b → causes (answered limits policy state asked) ≡ [] → Tells (after_asked limits policy state asked) (fold books_step b asked)
tells_asked limits policy state b [] h none = h
tells_asked limits policy state b (q ∷ asked) h none =
    let parts = by_event q.who q.event none in
    tells_asked limits policy (step limits policy state q.event).state (books_step b q) asked parts.1 parts.0 where
      by_event : (who : ℕ) (event : Event)
          → causes (act_of limits policy state who event ∷ answered limits policy (step limits policy state event).state asked) ≡ []
          → (causes (answered limits policy (step limits policy state event).state asked) ≡ []) × Tells (step limits policy state event).state (books_event b event)
      by_event who (Submit s) none = sample_taken limits policy state who s (refusal limits state s) asked b h none
      by_event who Swap none = (none, swap_tells policy state b h)
      by_event who (Delete kind pattern) none = (none, delete_tells kind pattern state b h)
      by_event who (Dump kind) none = (none, h)
      by_event who Look none = (none, h)

same_books : {b c : Books} → b.came ≡ c.came → b.flushed ≡ c.flushed → b.deleted ≡ c.deleted → b.held ≡ c.held → b ≡ c
same_books x y z w = λ k. record { came = x k; flushed = y k; deleted = z k; held = w k }

filter-swap : {X : Type 0} (p q : X → Bool) (xs : List X) → filter p (filter q xs) ≡ filter q (filter p xs)
filter-swap p q [] = refl
filter-swap {X} p q (x ∷ xs) = by_tests (p x) (q x) refl refl (filter-swap p q xs) where
  by_tests : (s t : Bool) → p x ≡ s → q x ≡ t → filter p (filter q xs) ≡ filter q (filter p xs)
      → filter p (cond t (x ∷ filter q xs) (filter q xs)) ≡ filter q (cond s (x ∷ filter p xs) (filter p xs))
  by_tests true true is it h = ap (λ b. cond b (x ∷ filter p (filter q xs)) (filter p (filter q xs))) is ∙ ap (λ rest. x ∷ rest) h ∙ sym (ap (λ b. cond b (x ∷ filter q (filter p xs)) (filter q (filter p xs))) it)
  by_tests true false is it h = h ∙ sym (ap (λ b. cond b (x ∷ filter q (filter p xs)) (filter q (filter p xs))) it)
  by_tests false true is it h = ap (λ b. cond b (x ∷ filter p (filter q xs)) (filter p (filter q xs))) is ∙ h
  by_tests false false is it h = h

-- Each shard's books are its part of the books of all.
abbrev part : Bounds → ℕ → Books → Books
part bounds i b =
    record { came = part_of (home_of bounds.shards) i b.came; flushed = part_of (home_of bounds.shards) i b.flushed; deleted = part_of (home_of bounds.shards) i b.deleted; held = part_of (home_of bounds.shards) i b.held }

module _ (bounds : Bounds) (i : ℕ) where
  abbrev here : Sample → Bool
  here s = eqb i (home_of bounds.shards s)

  part-push : (xs : List Sample) (s : Sample) (b : Bool) → here s ≡ b → part_of (home_of bounds.shards) i (xs ++ s ∷ []) ≡ cond b (part_of (home_of bounds.shards) i xs ++ s ∷ []) (part_of (home_of bounds.shards) i xs)
  part-push xs s b is = filter-append here xs (s ∷ []) ∙ ap (λ t. part_of (home_of bounds.shards) i xs ++ cond t (s ∷ []) []) is ∙ by_test b where
    by_test : (b : Bool) → part_of (home_of bounds.shards) i xs ++ cond b (s ∷ []) [] ≡ cond b (part_of (home_of bounds.shards) i xs ++ s ∷ []) (part_of (home_of bounds.shards) i xs)
    by_test true = refl
    by_test false = append-nil (part_of (home_of bounds.shards) i xs)

  part-sample : (b : Books) (s : Sample) (t : Bool) → here s ≡ t → part bounds i (books_event b (Submit s)) ≡ cond t (books_event (part bounds i b) (Submit s)) (part bounds i b)
  part-sample b s true is = same_books (part-push b.came s true is) refl refl (part-push b.held s true is)
  part-sample b s false is = same_books (part-push b.came s false is) refl refl (part-push b.held s false is)

  part-packet : (b : Books) (who : ℕ) (samples : List Sample) → fold books_step (part bounds i b) (submits who (part_of (home_of bounds.shards) i samples)) ≡ part bounds i (fold books_step b (submits who samples))
  part-packet b who [] = refl
  part-packet b who (s ∷ samples) = by_test (here s) refl (part-packet (books_event b (Submit s)) who samples) where
    by_test : (t : Bool) → here s ≡ t
        → fold books_step (part bounds i (books_event b (Submit s))) (submits who (part_of (home_of bounds.shards) i samples)) ≡ part bounds i (fold books_step (books_event b (Submit s)) (submits who samples))
        → fold books_step (part bounds i b) (submits who (cond t (s ∷ part_of (home_of bounds.shards) i samples) (part_of (home_of bounds.shards) i samples))) ≡ part bounds i (fold books_step (books_event b (Submit s)) (submits who samples))
    by_test true is rest = ap (λ (c : Books). fold books_step c (submits who (part_of (home_of bounds.shards) i samples))) (sym (part-sample b s true is)) ∙ rest
    by_test false is rest = ap (λ (c : Books). fold books_step c (submits who (part_of (home_of bounds.shards) i samples))) (sym (part-sample b s false is)) ∙ rest

  part-delete : (b : Books) (kind : Kind) (pattern : List ℕ) → books_event (part bounds i b) (Delete kind pattern) ≡ part bounds i (books_event b (Delete kind pattern))
  part-delete b kind pattern =
      same_books refl refl
      (ap (λ (back : List Sample). part_of (home_of bounds.shards) i b.deleted ++ back) (filter-swap (is_hit_by kind pattern) here b.held) ∙ sym (filter-append here b.deleted (filter (is_hit_by kind pattern) b.held)))
      (filter-swap (is_left_by kind pattern) here b.held)

  part-names : (b : Books) (kind : Kind) (names : List (List ℕ)) → fold books_step (part bounds i b) (asks (map (Delete kind) names)) ≡ part bounds i (fold books_step b (asks (map (Delete kind) names)))
  part-names b kind [] = refl
  part-names b kind (name ∷ names) = ap (λ (c : Books). fold books_step c (asks (map (Delete kind) names))) (part-delete b kind name) ∙ part-names (books_event b (Delete kind name)) kind names

  part-line : (b : Books) (answer : Result admin.Command AdminFault) → fold books_step (part bounds i b) (asks (admin_events answer)) ≡ part bounds i (fold books_step b (asks (admin_events answer)))
  part-line b (Ok admin.Stats) = refl
  part-line b (Ok admin.Config) = refl
  part-line b (Ok admin.Quit) = refl
  part-line b (Ok (admin.Show kind)) = refl
  part-line b (Ok admin.Totals) = refl
  part-line b (Ok (admin.Delete kind names)) = part-names b kind names
  part-line b (Ok (admin.Health word)) = refl
  part-line b (Err fault) = refl

  part-command : (b : Books) (c : ScriptCommand) → fold books_step (part bounds i b) (events_of_record bounds.shards i c) ≡ part bounds i (fold books_step b (events_of c))
  part-command b (Packet who moment datagram) = part-packet b who (samples_of datagram)
  part-command b (Flush ts) = same_books refl (sym (filter-append here b.flushed b.held)) refl refl
  part-command b (Admin moment line) = part-line b (admin.command line)

abbrev Shares : Bounds → Run → Books → Type 0
Shares bounds run b = (i : ℕ) → i < bounds.shards → Tells (run.shards i) (part bounds i b)

-- the books of all after records
abbrev pub books_of : Books → List Played → Books
books_of b played = fold (λ now p. fold books_step now (events_of p.command)) b played

shares_after : (bounds : Bounds) (run : Run) (b : Books) (played : List Played) → Shares bounds run b → NoneFrom bounds run played → Shares bounds (run_of bounds run played) (books_of b played)
shares_after bounds run b [] h none = h
shares_after bounds run b (p ∷ played) h none =
    shares_after bounds (play bounds run p) (fold books_step b (events_of p.command)) played
    (λ i below. subst (Tells (after_asked bounds.limits bounds.policy (run.shards i) (events_of_record bounds.shards i p.command))) (part-command bounds i b p.command)
    (tells_asked bounds.limits bounds.policy (run.shards i) (part bounds i b) (events_of_record bounds.shards i p.command) (h i below) (none_first bounds run p played none i below)))
    (none_behind bounds run p played none)

-- sums over all shards
sum_alike : (f g : ℕ → ℕ) (shards start count : ℕ) → start + count ≤ shards → ((i : ℕ) → i < shards → f i ≡ g i) → sum_by f (range_with_len start count) ≡ sum_by g (range_with_len start count)
sum_alike f g shards start zero within h = refl
sum_alike f g shards start (suc count) within h =
    omega (arith, sum_alike f g shards (start + 1) count (omega arith) h, h start (omega arith), sum_by-cons f start (range_with_len (start + 1) count), sum_by-cons g start (range_with_len (start + 1) count))

one_more : (home : Sample → ℕ) (s : Sample) (xs : List Sample) (is : List ℕ)
    → sum_by (λ i. length (part_of home i (s ∷ xs))) is ≡ sum_by (λ i. cond (eqb i (home s)) 1 0) is + sum_by (λ i. length (part_of home i xs)) is
one_more home s xs [] = refl
one_more home s xs (i ∷ is) =
    omega (
      arith,
      one_more home s xs is,
      here (eqb i (home s)),
      sum_by-cons (λ j. length (part_of home j (s ∷ xs))) i is,
      sum_by-cons (λ j. cond (eqb j (home s)) 1 0) i is,
      sum_by-cons (λ j. length (part_of home j xs)) i is,
    ) where
      here : (b : Bool) → length (cond b (s ∷ part_of home i xs) (part_of home i xs)) ≡ cond b 1 0 + length (part_of home i xs)
      here true = omega arith
      here false = omega arith

-- the parts of a list together have all of it
parts_summed : (bounds : Bounds) → 1 ≤ bounds.shards → (xs : List Sample) → sum_by (λ i. length (part_of (home_of bounds.shards) i xs)) (range_with_len 0 bounds.shards) ≡ length xs
parts_summed bounds some [] = none_summed (λ i. 0) bounds.shards 0 bounds.shards (omega arith) (λ i below. refl)
parts_summed bounds some (s ∷ xs) =
    let within : home_of bounds.shards s < bounds.shards = mod-lt (fnv1a s.key) (omega arith) in
    omega (arith, one_more (home_of bounds.shards) s xs (range_with_len 0 bounds.shards), weighed_once (home_of bounds.shards s) 1 0 bounds.shards (omega arith) (omega arith), parts_summed bounds some xs)

sum_of_parts : (bounds : Bounds) → 1 ≤ bounds.shards → (f : ℕ → ℕ) (xs : List Sample) → ((i : ℕ) → i < bounds.shards → f i ≡ length (part_of (home_of bounds.shards) i xs)) → sum_by f (range_with_len 0 bounds.shards) ≡ length xs
sum_of_parts bounds some f xs h = sum_alike f (λ i. length (part_of (home_of bounds.shards) i xs)) bounds.shards 0 bounds.shards (omega arith) h ∙ parts_summed bounds some xs

abbrev no_books : Books
no_books = record { came = []; flushed = []; deleted = []; held = [] }

-- the numbers of all shards after a script, by its books
pub record AreSummed (bounds : Bounds) (run : Run) (b : Books) : Type 0 where
  pub taken : summed bounds.shards run.shards (λ state. state.taken) ≡ length b.came
  pub dropped : summed bounds.shards run.shards (λ state. state.dropped) ≡ 0
  pub flushed : summed bounds.shards run.shards (λ state. state.flushed) ≡ length b.flushed
  pub held : summed bounds.shards run.shards (λ state. state.held) ≡ length b.held
  pub deleted : summed bounds.shards run.shards (λ state. state.deleted) ≡ length b.deleted

pub books_summed : (bounds : Bounds) → 1 ≤ bounds.shards → (played : List Played) → NoneDropped bounds played → AreSummed bounds (run_of bounds (first_run played) played) (books_of no_books played)
books_summed bounds some played none =
    let b = books_of no_books played in
    let last = (run_of bounds (first_run played) played).shards in
    let h = shares_after bounds (first_run played) no_books played (λ i below. record { taken = refl; dropped = refl; flushed = refl; deleted = refl; kept_before = empty; journal = []; stands = Stands-empty; held = refl }) none in
    record {
      taken = sum_of_parts bounds some (λ i. (last i).taken) b.came (λ i below. (h i below).taken);
      dropped = none_summed (λ i. (last i).dropped) bounds.shards 0 bounds.shards (omega arith) (λ i below. (h i below).dropped);
      flushed = sum_of_parts bounds some (λ i. (last i).flushed) b.flushed (λ i below. (h i below).flushed);
      held = sum_of_parts bounds some (λ i. (last i).held) b.held (λ i below. (h i below).stands.held ∙ sym (length-map (h i below).journal sample_in) ∙ ap length (h i below).held);
      deleted = sum_of_parts bounds some (λ i. (last i).deleted) b.deleted (λ i below. (h i below).deleted);
    }
