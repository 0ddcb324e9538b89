-- What the names of a deletion do and get replied, one after another, and what a whole line does.
use Rattle.std.proofs.Common.{◌≡◌, ℕ, ◌+◌, ◌-◌, ◌<◌, ◌≤◌, zero, suc, take, length, Bool, true, false, cond, List, [], ◌∷◌, ◌++◌, map, refl, ap, ◌∙◌, arith, append-nil, sym}
use Rattle.std.specs.Prelude.{filter, Option, flat_map, slice_get, Some, None, Result, Ok, Err, OnOk, OnErr, not, nat_le, ⊤}
use Rattle.std.specs.FinMap.{empty, get, get-empty, same_map}
use Rattle.std.proofs.lemmas.List.{get_or_past}
use Rattle.std.specs.List.{range_with_len, onto_first, slice_split}
use Rattle.std.proofs.Math.Seq.{take-nil}
use Rattle.std.proofs.lemmas.List.Folds.{flat_map-map}
use Rattle.std.proofs.lemmas.List.Sums.{fold_push}
use Rattle.std.proofs.lemmas.Grind.{flat_map-append, common_steps}
use Rattle.std.proofs.lemmas.Bool.Decides.{nat_tests}
use Rattle.sd_model_text.specs.Lists.{is_white_space}
use Rattle.sd_model_text.specs.Names.{Kind}
use Rattle.sd_model_text.specs.Lines.{is_empty}
use Rattle.sd_model_outside.specs.Outside.{Object, HasFailedBehind, given}
use Rattle.sd_model_outside.proofs.WriteLemmas.{given-given, behind-later}
use Rattle.sd_model_shard.specs.Shard as shard
use Rattle.sd_model_shard.specs.Shard.{State, empty_state, Event, Delete, Dump, Look, Numbers, after_delete, deletion_of, numbers_of}
use Rattle.sd_model_shard.specs.Rows.{RowId, Kept, row_cmp, is_hit, rows_left, rows_taken_out, samples_in, samples_where}
use Rattle.sd_model_shard.proofs.SumLemmas.{samples-parts, samples-none}
use Rattle.sd_model_shard.proofs.SummaryLemmas.{Tell-empty}
use Rattle.sd_model_shard.proofs.RowLemmas.{rows_total, rows_exact}
use Rattle.sd_model_shard.proofs.DeletionLemmas.{get-rows_left}
use Rattle.sd_model_shard.specs.History.{Asked, answered, after_all}
use Rattle.sd_model_record.specs.Admin as admin
use Rattle.sd_model_record.specs.Admin.{AdminFault, TooLong, words, command_named, command_of_words, longest_line}
use Rattle.sd_model_record.specs.Replies.{AdminReply, Stats, Totals, Rows, Gone, Finish, reply_text, admin_events, names_replied, numbers_looked, replies_by, replies_text}
use Rattle.sd_model_replay.specs.Replay.{Bounds, bounds_of, states_after}
use Rattle.sd_model_replay.specs.Script.{Admin}
use Rattle.sd_model_serve.specs.Receiving.{administrator, Broadcast, replies_at}
use Rattle.sd_model_record.specs.Desk.{Desk, Facts}
use Rattle.sd_model_replay.specs.AccountingTheorem.{broadcasts, output_in}
use Rattle.sd_shards.specs.Shards.{Group, AreAlike, numbers as shards_of, state_at}
use Rattle.sd_command.specs.Commanded.{IsWritten, deleted}
use Rattle.sd_model_settings.specs.Settings.{Settings}
use Rattle.sd_model_record.proofs.Short.{numbers_reported, keys_reported, rows_reported}
use Rattle.sd_model_shard.proofs.Short.{listed_in}

-- events as an administrator asks for them
abbrev as_asked : List Event → List Asked
as_asked events = map (λ event. record { who = administrator; event = event }) events

-- what is replied to a name more
pub replied-more : (answers : ℕ → List shard.Reply) (names : List (List ℕ)) (name : List ℕ) → names_replied answers (names ++ name ∷ []) ≡ names_replied answers names ++ Gone name (keys_reported (answers (length names))) ∷ []
replied-more answers [] name = refl
replied-more answers (n ∷ names) name =
    let next : length names + 1 ≡ suc (length names) = omega arith in
    ap (λ (replies : List AdminReply). Gone n (keys_reported (answers 0)) ∷ replies)
    (replied-more (λ k. answers (k + 1)) names name ∙ ap (λ m. names_replied (λ k. answers (k + 1)) names ++ Gone name (keys_reported (answers m)) ∷ []) next)

-- what all shards answer to a name of a deletion
pub reported_at : (bounds : Bounds) (kind : Kind) (states : ℕ → State) (names : List (List ℕ)) (n : ℕ) (name : List ℕ) → slice_get names n ≡ Some name
    → replies_at bounds.shards (broadcasts bounds states (map (Delete kind) names)) n ≡ map (λ i. deletion_of kind name (deleted kind (states i) (take n names))) (range_with_len 0 bounds.shards)
reported_at bounds kind states [] n name found = absurd (cc)
reported_at bounds kind states (m ∷ names) zero name found = let same : m ≡ name = cc found in ap (λ x. map (λ i. deletion_of kind x (states i)) (range_with_len 0 bounds.shards)) same
reported_at bounds kind states (m ∷ names) (suc n) name found = reported_at bounds kind (λ i. after_delete kind m (states i)) names n name found

-- which doesn't depend on their bounds
reported_alike : (one other : Bounds) (kind : Kind) (states : ℕ → State) (names : List (List ℕ)) → broadcasts one states (map (Delete kind) names) ≡ broadcasts other states (map (Delete kind) names)
reported_alike one other kind states [] = refl
reported_alike one other kind states (name ∷ names) =
    ap (λ (bs : List Broadcast). record { event = Delete kind name; replies = λ i. deletion_of kind name (states i) } ∷ bs) (reported_alike one other kind (λ i. after_delete kind name (states i)) names)

-- a name more
pub deleted-more : (kind : Kind) (state : State) (names : List (List ℕ)) (name : List ℕ) → deleted kind state (names ++ name ∷ []) ≡ after_delete kind name (deleted kind state names)
deleted-more kind state names name = fold_push (λ st x. after_delete kind x st) state names name

-- the text of a reply more
pub text-more : (replies : List AdminReply) (reply : AdminReply) → flat_map reply_text (replies ++ reply ∷ []) ≡ flat_map reply_text replies ++ reply_text reply
text-more replies reply = flat_map-append reply_text replies (reply ∷ []) ∙ ap (λ text. flat_map reply_text replies ++ text) (append-nil (reply_text reply))

-- a deletion leaves an empty shard as it is
none_left : (b : Bool) (found : Option Kept) → found ≡ None → cond b found None ≡ found
none_left true found none = refl
none_left false found none = sym none

none_out : (test : RowId → Bool) (kind : Kind) (name : List ℕ) → samples_where test (rows_taken_out kind name empty) ≡ 0
none_out test kind name = omega (arith, samples-parts test empty (is_hit kind name), samples-none test empty Tell-empty)

pub idle_delete : (kind : Kind) (name : List ℕ) → after_delete kind name empty_state ≡ empty_state
idle_delete kind name =
    let live : rows_left kind name empty ≡ empty =
    same_map rows_total rows_exact (rows_left kind name empty) empty (λ q. get-rows_left kind name empty q ∙ none_left (not (is_hit kind name q)) (get empty q) (get-empty row_cmp q)) in
    let out = rows_taken_out kind name empty in
    let held : 0 - samples_in out ≡ 0 = omega arith in
    let listed : 0 - listed_in out ≡ 0 = omega arith in
    let deleted : 0 + samples_in out ≡ 0 = omega (arith, none_out (λ id. true) kind name) in
    λ i. record { live = live i; held = held i; listed = listed i; taken = 0; flushed = 0; deleted = deleted i; dropped = 0 }

-- what a line does to a shard
module _ (bounds : Bounds) where
  -- a shard's state after what a line asks of it
  abbrev asked_of : Result admin.Command AdminFault → State → State
  asked_of answer state = after_all bounds.limits bounds.policy state (answered bounds.limits bounds.policy state (as_asked (admin_events answer)))

  names_asked : (kind : Kind) (state : State) (names : List (List ℕ)) → asked_of (Ok (admin.Delete kind names)) state ≡ deleted kind state names
  names_asked kind state [] = refl
  names_asked kind state (name ∷ names) = names_asked kind (after_delete kind name state) names

  pub names_executed : (states : ℕ → State) (moment : ℕ) (line : List ℕ) (kind : Kind) (names : List (List ℕ)) (i : ℕ) → admin.command line ≡ Ok (admin.Delete kind names) → states_after bounds states (Admin moment line) i ≡ deleted kind (states i) names
  names_executed states moment line kind names i read = ap (λ answer. asked_of answer (states i)) read ∙ names_asked kind (states i) names

  -- it leaves an empty one as it is
  idle_names : (kind : Kind) (names : List (List ℕ)) → asked_of (Ok (admin.Delete kind names)) empty_state ≡ empty_state
  idle_names kind [] = refl
  idle_names kind (name ∷ names) = ap (asked_of (Ok (admin.Delete kind names))) (idle_delete kind name) ∙ idle_names kind names

  pub idle_line : (answer : Result admin.Command AdminFault) → asked_of answer empty_state ≡ empty_state
  idle_line (Ok admin.Stats) = refl
  idle_line (Ok admin.Totals) = refl
  idle_line (Ok admin.Config) = refl
  idle_line (Ok admin.Quit) = refl
  idle_line (Ok (admin.Show kind)) = refl
  idle_line (Ok (admin.Delete kind names)) = idle_names kind names
  idle_line (Ok (admin.Health word)) = refl
  idle_line (Err fault) = refl

-- each alone
flat_map-alone : {X A : Type 0} (f : X → A) (xs : List X) → flat_map (λ x. f x ∷ []) xs ≡ map f xs
flat_map-alone f [] = refl
flat_map-alone f (x ∷ xs) = ap (λ ys. f x ∷ ys) (flat_map-alone f xs)

-- the text of what is replied to a line, as it is written
module _ (settings : Settings) (states : ℕ → State) (desk : Desk) (moment : ℕ) (line : List ℕ) where
  abbrev text_by : Result admin.Command AdminFault → List ℕ
  text_by answer = replies_text (replies_by false (replies_at settings.sizes.shards (broadcasts (bounds_of settings) states (admin_events answer))) desk.facts settings moment answer)

  abbrev reported : List ℕ
  reported = output_in settings (record { shards = states; desk = desk }) (Admin moment line)

  pub stats_reported : (facts : Facts) → facts ≡ desk.facts → admin.command line ≡ Ok admin.Stats → reply_text (Stats facts moment) ≡ reported
  stats_reported facts same read =
      ap (λ f. reply_text (Stats f moment)) same ∙ sym (append-nil (reply_text (Stats desk.facts moment))) ∙ sym (ap text_by read)

  pub totals_reported : (group : Group) (facts : Facts) (numbers : List Numbers) → length group.states ≡ settings.sizes.shards → states ≡ state_at group → facts ≡ desk.facts
      → numbers ≡ map (λ i. numbers_of (state_at group i)) (shards_of group) → admin.command line ≡ Ok admin.Totals → reply_text (Totals false facts numbers) ≡ reported
  totals_reported group facts numbers count are same tell read =
      let answers : (ℕ → State) → ℕ → List shard.Reply = λ at n. replies_at n (broadcasts (bounds_of settings) at (Look ∷ [])) 0 in
      let all : numbers ≡ numbers_reported (answers states settings.sizes.shards) =
      tell ∙ sym (flat_map-alone (λ i. numbers_of (state_at group i)) (shards_of group))
      ∙ sym (flat_map-map numbers_looked (λ i. shard.Looked (numbers_of (state_at group i))) (shards_of group))
      ∙ ap (λ n. numbers_reported (answers (state_at group) n)) count ∙ ap (λ at. numbers_reported (answers at settings.sizes.shards)) (sym are) in
      (λ i. reply_text (Totals false (same i) (all i)))
      ∙ sym (append-nil (reply_text (Totals false desk.facts (numbers_reported (answers states settings.sizes.shards))))) ∙ sym (ap text_by read)

  pub rows_shown : (bounds : Bounds) (kind : Kind) → bounds.shards ≡ settings.sizes.shards → admin.command line ≡ Ok (admin.Show kind)
      → reply_text (Rows kind (rows_reported (replies_at bounds.shards (broadcasts bounds states (Dump kind ∷ [])) 0))) ≡ reported
  rows_shown bounds kind count read =
      let answers : ℕ → List shard.Reply = λ n. replies_at n (broadcasts bounds states (Dump kind ∷ [])) 0 in
      ap (λ n. reply_text (Rows kind (rows_reported (answers n)))) count ∙ sym (append-nil (reply_text (Rows kind (rows_reported (answers settings.sizes.shards))))) ∙ sym (ap text_by read)

  pub names_reported : (bounds : Bounds) (kind : Kind) (names : List (List ℕ)) → bounds.shards ≡ settings.sizes.shards → admin.command line ≡ Ok (admin.Delete kind names)
      → replies_text (names_replied (replies_at bounds.shards (broadcasts bounds states (map (Delete kind) names))) names ++ Finish ∷ []) ≡ reported
  names_reported bounds kind names count read =
      let text : ℕ → List Broadcast → List ℕ = λ n bs. replies_text (names_replied (replies_at n bs) names ++ Finish ∷ []) in
      ap (λ n. text n (broadcasts bounds states (map (Delete kind) names))) count ∙ ap (text settings.sizes.shards) (reported_alike bounds (bounds_of settings) kind states names) ∙ sym (ap text_by read)

-- what was written whole, and then this
pub written-more : {E : Type 0} (text more : List ℕ) (result : Result ⊤ E) (old mid new : Object) → mid ≡ given text old → IsWritten more result mid new → IsWritten (text ++ more) result old new
written-more text more (Ok whole) old mid new prefix written = written ∙ ap (given more) prefix ∙ given-given text more old
written-more text more (Err fault) old mid new prefix failed = behind-later text more old mid new prefix failed

-- the two clauses of a write are one
pub as_written : {E : Type 0} (text : List ℕ) (result : Result ⊤ E) (old new : Object) → OnOk result (new ≡ given text old) → OnErr result (HasFailedBehind text old new) → IsWritten text result old new
as_written text (Ok whole) old new ok failed = ok
as_written text (Err fault) old new ok failed = failed

-- and each of them follows
pub ok_written : {E : Type 0} (text : List ℕ) (result : Result ⊤ E) (old new : Object) → IsWritten text result old new → OnOk result (new ≡ given text old)
ok_written text (Ok whole) old new written = written
ok_written text (Err fault) old new failed = tt

pub err_written : {E : Type 0} (text : List ℕ) (result : Result ⊤ E) (old new : Object) → IsWritten text result old new → OnErr result (HasFailedBehind text old new)
err_written text (Ok whole) old new written = tt
err_written text (Err fault) old new failed = failed

-- beyond the last shard there is none
pub state_past : (group : Group) (i : ℕ) → length group.states ≤ i → state_at group i ≡ empty_state
state_past group i past = get_or_past group.states i empty_state past

-- shards that are alike, and alike again
pub both_alike : (one two three : Group) → AreAlike one two → AreAlike two three → AreAlike one three
both_alike one two three a b = record { limits = b.limits ∙ a.limits; policy = b.policy ∙ a.policy; count = b.count ∙ a.count }

-- a name that is found is one of them
pub found_below : (names : List (List ℕ)) (i : ℕ) (name : List ℕ) → slice_get names i ≡ Some name → i < length names
found_below [] i name found = absurd (cc)
found_below (n ∷ names) zero name found = omega arith
found_below (n ∷ names) (suc i) name found = let behind = found_below names i name found in omega (arith, behind)

-- where none is found, all were taken
pub none_found : (names : List (List ℕ)) (i : ℕ) → slice_get names i ≡ None → take i names ≡ names
none_found [] i none = take-nil i
none_found (n ∷ names) zero none = absurd (cc)
none_found (n ∷ names) (suc i) none = ap (λ ns. n ∷ ns) (none_found names i none)

-- the parts that aren't empty
abbrev filled : List (List ℕ) → List (List ℕ)
filled parts = filter (λ part. not (is_empty part)) parts

one_more : (x : ℕ) (parts : List (List ℕ)) → length (filled (onto_first x parts)) ≤ length (filled parts) + 1
one_more x [] = omega arith
one_more x ([] ∷ parts) = omega arith
one_more x ((b ∷ bs) ∷ parts) = omega arith

by_byte : (b : Bool) (x n : ℕ) (parts : List (List ℕ)) → length (filled parts) ≤ n → length (filled (cond b ([] ∷ parts) (onto_first x parts))) ≤ n + 1
by_byte true x n parts few = omega (arith, few)
by_byte false x n parts few = omega (arith, one_more x parts, few)

-- a line has no more words than bytes
pub few_words : (line : List ℕ) → length (words line) ≤ length line
few_words [] = omega arith
few_words (x ∷ xs) = let few = by_byte (is_white_space x) x (length xs) (slice_split is_white_space xs) (few_words xs) in omega (arith, few)

-- a deletion that was read has no more names than its line may have bytes
behind_first : (word : List ℕ) (rest : List (List ℕ)) (kind : Kind) (names : List (List ℕ)) → command_named word rest ≡ Ok (admin.Delete kind names) → rest ≡ names
behind_first word [] kind names h = absurd (grind (arith, common_steps))
behind_first word (name ∷ rest) kind names h = grind (arith, common_steps)

pub few_names : (line : List ℕ) (kind : Kind) (names : List (List ℕ)) → admin.command line ≡ Ok (admin.Delete kind names) → length names ≤ longest_line
few_names line kind names read = by_test (nat_le (length line) longest_line) refl read where
  among : (parts : List (List ℕ)) → command_of_words parts ≡ Ok (admin.Delete kind names) → length names ≤ length parts
  among [] h = absurd (cc)
  among (word ∷ rest) h = let same = ap length (behind_first word rest kind names h) in omega (arith, same)

  by_test : (b : Bool) → nat_le (length line) longest_line ≡ b → cond b (command_of_words (words line)) (Err TooLong) ≡ Ok (admin.Delete kind names) → length names ≤ longest_line
  by_test true is h = let short : length line ≤ longest_line = grind (arith, nat_tests) in omega (arith, short, few_words line, among (words line) h)
  by_test false is h = absurd (cc)
