-- The end of a server.
use Rattle.std.proofs.Common.{◌≡◌, ℕ, ◌+◌, ◌<◌, Bool, List, [], ◌∷◌, ◌++◌, length, map, get_or, refl, sym, ap, subst, ◌∙◌, arith}
use Rattle.std.specs.Prelude.{◌||◌, codes, if◌then◌else◌, Option, Some, None}
use Rattle.std.proofs.Math.Bool.{or_assoc}
use Rattle.std.proofs.lemmas.List.{length-map, get_or-map}
use Rattle.std.proofs.lemmas.List.FromFn.{fill_by_all}
use Rattle.std.specs.List.{list_any, range_with_len}
use Rattle.sd_model_outside.specs.Outside.{File, Object}
use Rattle.sd_model_settings.specs.Settings as file
use Rattle.sd_model_shard.specs.Shard.{State, Numbers, numbers_of}
use Rattle.sd_model_shard.proofs.OrderLemmas.{sum_by-map}
use Rattle.sd_model_shard.specs.History.{state_after}
use Rattle.sd_model_outside.specs.Backend.{backend_name, backends, at_backend, each_of}
use Rattle.sd_model_record.specs.Desk.{Desk}
use Rattle.sd_model_replay.specs.Replay.{is_used, limits_of, policy_of}
use Rattle.sd_model_record.specs.Totals.{Total, totals_of, totals_text}
use Rattle.sd_model_replay.specs.AccountingTheorem.{summed}
use Rattle.sd_model_serve.specs.Receiving.{LoopEnd}
use Rattle.sd_model_run.specs.Run.{ServerTrace, ServerTheorem}
use Rattle.sd_model_call.specs.Call.{Answer, WritesTotals}
use Rattle.sd_model_call.specs.Opening.{IsAccepted, World, settled}
use Rattle.sd_model_call.specs.Server.{HasServed, ends_answer, reached_limit, objects_in, run_totals, run_settings_of}
use Rattle.sd_outside.specs.declared.datagrams.Ended.{Ended}
use Rattle.sd_pool.specs.Books.{IsBookOf, no_book}
use Rattle.sd_serve.specs.Serving.{HasServed as Ran, end_of}
use Rattle.sd_serve.specs.Through.{AreCounted, has_counts}
use Rattle.sd_serve.specs.declared.serving.Served.{Served}
use Rattle.sd_outside.specs.declared.backends.PerBackend.{PerBackend}
use Rattle.sd_serve.specs.declared.outlets.OutCount.{OutCount}
use Rattle.sd_shard.specs.Shard.{numbers_in}
use Rattle.sd_shard.specs.declared.shard.ShardBook.{ShardBook}
use Rattle.sd_top.specs.Serving.{ends_of, lines_in, skips_in, totals_in}
use Rattle.sd_model_call.proofs.Short.{server_begun, has_outlets, run_answer}
use Rattle.sd_model_record.proofs.Short.{added}

-- whether a loop took the most turns: a receiver's, or another
pub limit_among : (received : List Ended) (others : List LoopEnd) → list_any reached_limit (map end_of received ++ others) ≡ (list_any (λ e. reached_limit (end_of e)) received || list_any reached_limit others)
limit_among [] others = refl
limit_among (e ∷ received) others = ap (λ b. reached_limit (end_of e) || b) (limit_among received others) ∙ sym (or_assoc (reached_limit (end_of e)) (list_any (λ e. reached_limit (end_of e)) received) (list_any reached_limit others))

-- how many texts outlets skipped, where there are outlets
abbrev skips_where : Bool → ServerTrace → List Total
skips_where are c = if are then map (λ b. (backend_name b ++ codes "_skipped", (c.outlet_traces b).skipped)) backends else []

-- the numbers of books, where each is that of a shard by its number
numbers_of_books : (states : ℕ → State) (books : List ShardBook) (n : ℕ) → length books ≡ n → ((i : ℕ) → i < n → IsBookOf (get_or books i no_book) (states i))
    → map numbers_in books ≡ map (λ i. numbers_of (states i)) (range_with_len 0 n)
numbers_of_books states books n count are =
    fill_by_all (λ i. numbers_of (states i)) (map numbers_in books) n (numbers_in no_book) (length-map books numbers_in ∙ count)
    (λ k h. get_or-map numbers_in books k no_book (numbers_in no_book) (omega (arith, h, count)) ∙ same (get_or books k no_book) (states k) (are k h)) where
      same : (book : ShardBook) (state : State) → IsBookOf book state → numbers_in book ≡ numbers_of state
      same book state is =
          λ i. record { rows = is.rows i; held = is.held i; taken = is.taken i; flushed = is.flushed i; deleted = is.deleted i; dropped = is.dropped i }

-- the texts that outlets skipped are those of the run
skips_are : (s : file.Settings) (c : ServerTrace) (outs : Option (PerBackend OutCount)) → has_counts outs ≡ has_outlets s → AreCounted outs c.outlet_traces → skips_in outs ≡ skips_where (has_outlets s) c
skips_are s c None has counts = ap (λ (b : Bool). skips_where b c) has
skips_are s c (Some outs) has counts =
    (λ i. map (λ b. (backend_name b ++ codes "_skipped", counts.skips b i)) backends) ∙ ap (λ (b : Bool). skips_where b c) has

-- the totals of books and a desk are those of the run that left them
pub totals_are : (s : file.Settings) (c : ServerTrace) (books : List ShardBook) (desk : Desk) (outs : Option (PerBackend OutCount)) → desk ≡ c.desk → has_counts outs ≡ has_outlets s → AreCounted outs c.outlet_traces → length books ≡ s.sizes.shards
    → ((i : ℕ) → i < s.sizes.shards → IsBookOf (get_or books i no_book) (state_after (limits_of s) (policy_of s) (c.histories i)))
    → totals_in books desk outs ++ skips_in outs ≡ run_totals s c
totals_are s c books desk outs left has counts count are =
    let state : ℕ → State = λ i. state_after (limits_of s) (policy_of s) (c.histories i) in
    let numbers = numbers_of_books state books s.sizes.shards count are in
    let skips = skips_are s c outs has counts in
    let sums : (number : Numbers → ℕ) → added (map numbers_in books) number ≡ summed s.sizes.shards state number =
    λ number. ap (λ ns. added ns number) numbers ∙ sum_by-map number (λ i. numbers_of (state i)) (range_with_len 0 s.sizes.shards) in
    λ i. totals_of (λ number. sums number i) (record (left i).facts {
      faults = each_of (λ b. at_backend (left i).facts.faults b + counts.faults b i);
    })
    ++ skips i

-- a run whose totals were written, or a prefix of them
pub has_served : (name : List ℕ) (says : ℕ → Type 0) (answer : Answer) (old mid new : World) (values : file.Settings) (settings : Object) (served : Served)
    → IsAccepted values (File name) old.settings settings → mid ≡ settled values settings old
    → Ran (run_settings_of values) says (objects_in (server_begun values mid)) (objects_in new) served
    → WritesTotals (lines_in served.books.items served.desk served.outs) (ends_of served.received.items served.ends) answer old.seen.output new.seen.output
    → new.seen.script ≡ old.seen.script → new.probe ≡ old.probe → new.uses ≡ is_used values → new.settings ≡ settings
    → HasServed name says answer old new
has_served name says answer old mid new values settings served accepted is ran written script probe same_use kept =
    record {
      values = values;
      settings = settings;
      taken = accepted;
      trace = ran.trace;
      theorem = subst (λ w. ServerTheorem (run_settings_of values) says ran.trace (objects_in (server_begun values w)) (objects_in new)) is ran.theorem;
      written = subst (λ text. WritesTotals text (run_answer ran.trace) answer old.seen.output new.seen.output)
          (ap totals_text (totals_are values ran.trace served.books.items served.desk served.outs ran.desk ran.outlets ran.outs ran.shards ran.books))
          (subst (λ whole. WritesTotals (lines_in served.books.items served.desk served.outs) whole answer old.seen.output new.seen.output) (λ i. ends_answer (ran.received i) (ran.flusher i) (ran.keeper i ∷ ran.line_reader i)) written);
      script = script;
      probe = probe;
      uses = same_use;
      kept = kept;
    }
