-- The names of a deletion, one after another, over all shards, and a whole line.
use Rattle.std.proofs.Common.{◌≡◌, ℕ, suc, ◌+◌, ◌≤◌, take, drop, length, List, [], ◌∷◌, ◌++◌, map, get_or, refl, ap, subst, ◌∙◌, arith, append-nil, append_assoc, sym}
use Rattle.std.specs.Prelude.{nat_lt, slice_get, Some, None, Result, Ok, Err, OnOk, OnErr, ⊤}
use Rattle.std.proofs.Math.Seq.{split_at}
use Rattle.std.proofs.lemmas.List.{take_at, take-map, length-map, length-take-le, map-append}
use Rattle.std.proofs.lemmas.Option.{get_or_from_slice_get, slice_get_within}
use Rattle.sd_model_text.specs.Names.{Kind}
use Rattle.sd_model_outside.specs.Outside.{Object, Content, HasFailedBehind, given, telling}
use Rattle.sd_outside.specs.Turns.{FitsLastCount}
use Rattle.sd_outside.proofs.NothingWritten.{appended-nil}
use Rattle.sd_model_outside.proofs.WriteLemmas.{given-given}
use Rattle.sd_model_settings.specs.Settings as file
use Rattle.sd_model_shard.specs.Shard as shard
use Rattle.sd_model_shard.specs.Shard.{Event, Delete, Dump}
use Rattle.sd_model_shard.specs.History.{History}
use Rattle.sd_model_record.specs.Admin.{AdminFault, Command, command}
use Rattle.sd_model_record.specs.Desk.{Facts}
use Rattle.sd_model_record.specs.Replies.{AdminReply, Gone, Finish, reply_text, admin_events, names_replied, replies_by, replies_text}
use Rattle.sd_model_serve.specs.Sessions.{IsCut}
use Rattle.sd_session.specs.Executed.{Broadcasts, AreReplied}
use Rattle.sd_pool.proofs.ActsLemmas.{Adds-none, Adds-next}
use Rattle.sd_admin.proofs.TakeLemmas.{take-more}
use Rattle.sd_command.proofs.CommandLemmas.{none_found, text-more}
use Rattle.sd_session.specs.Asking.{Executes, DeletesNames}
use Rattle.sd_model_serve.proofs.Short.{all_replies}
use Rattle.sd_model_record.proofs.Short.{keys_reported}
use Rattle.sd_model_serve.specs.Receiving.{Broadcast, events_in, acts_in, replies_at}

pub Broadcasts-none : (shards : ℕ) (own : ℕ → History) → Broadcasts shards [] own own
Broadcasts-none shards own = Adds-none shards own

pub Broadcasts-next : (shards : ℕ) (xs ys : List Broadcast) (own mid own_now : ℕ → History) → Broadcasts shards xs own mid → Broadcasts shards ys mid own_now → Broadcasts shards (xs ++ ys) own own_now
Broadcasts-next shards xs ys own mid own_now first second i below =
    Adds-next shards (acts_in xs) (acts_in ys) own mid own_now first second i below ∙ ap (λ (h : History). own i ++ h) (sym (map-append _ xs ys))

pub given-nil : (o : Object) → FitsLastCount o.content → o ≡ given [] o
given-nil o fits = ap (λ (t : Content). telling t o) (sym (appended-nil o.content fits))

-- replies, list by list
abbrev at : List (List shard.Reply) → ℕ → List shard.Reply
at lists n = get_or lists n []

later : (a : List shard.Reply) (lists : List (List shard.Reply)) → (λ (n : ℕ). at (a ∷ lists) (n + 1)) ≡ at lists
later a lists i n = (let next : n + 1 ≡ suc n = omega arith in ap (at (a ∷ lists)) next) i

-- the names so far, and those behind them
names_split : (lists bs : List (List shard.Reply)) (names more : List (List ℕ)) → length lists ≡ length names → names_replied (at (lists ++ bs)) (names ++ more) ≡ names_replied (at lists) names ++ names_replied (at bs) more
names_split [] bs [] more same = refl
names_split [] bs (name ∷ names) more same = absurd (omega (arith, same))
names_split (a ∷ lists) bs [] more same = absurd (omega (arith, same))
names_split (a ∷ lists) bs (name ∷ names) more same =
    let first = Gone name (keys_reported a) in
    ap (λ (f : ℕ → List shard.Reply). first ∷ names_replied f (names ++ more)) (later a (lists ++ bs))
    ∙ ap (λ (rs : List AdminReply). first ∷ rs) (names_split lists bs names more (omega (arith, same)))
    ∙ sym (ap (λ (f : ℕ → List shard.Reply). first ∷ (names_replied f names ++ names_replied (at bs) more)) (later a lists))

length_replied : (f : ℕ → List shard.Reply) (names : List (List ℕ)) → length (names_replied f names) ≡ length names
length_replied f [] = refl
length_replied f (name ∷ names) = ap suc (length_replied (λ n. f (n + 1)) names)

slice_at : (xs : List AdminReply) (r : AdminReply) (ys : List AdminReply) → slice_get (xs ++ r ∷ ys) (length xs) ≡ Some r
slice_at [] r ys = refl
slice_at (x ∷ xs) r ys = slice_at xs r ys

-- a list at one of its places
found_split : (names : List (List ℕ)) (i : ℕ) (name : List ℕ) → slice_get names i ≡ Some name → names ≡ take i names ++ name ∷ drop (suc i) names
found_split names i name found =
    split_at names i [] (slice_get_within names i name found) ∙ ap (λ (n : List ℕ). take i names ++ n ∷ drop (suc i) names) (get_or_from_slice_get names i name [] found)

-- the names so far were deleted, and replied to
pub record SoFar (shards : ℕ) (kind : Kind) (names : List (List ℕ)) (i : ℕ) (own own_now : ℕ → History) (sink sink_now : Object) : Type 0 where
  pub broadcasts : List Broadcast
  pub asked : Broadcasts shards broadcasts own own_now
  pub few : i ≤ length names
  pub events : events_in broadcasts ≡ map (Delete kind) (take i names)
  pub written : sink_now ≡ given (replies_text (names_replied (replies_at shards broadcasts) (take i names))) sink

pub no_names : (shards : ℕ) (kind : Kind) (names : List (List ℕ)) (own : ℕ → History) (sink : Object) → FitsLastCount sink.content → SoFar shards kind names 0 own own sink sink
no_names shards kind names own sink fits = record {
  broadcasts = [];
  asked = Broadcasts-none shards own;
  few = omega arith;
  events = refl;
  written = given-nil sink fits;
}

-- a reply was cut behind others
pub cut_behind : (before : List AdminReply) (r : AdminReply) (behind all : List AdminReply) (events asked : List Event) (n : ℕ) (sink mid sink_now : Object) → length before ≡ n → all ≡ before ++ r ∷ behind → asked ≡ take (n + 1) events
    → mid ≡ given (replies_text before) sink → HasFailedBehind (reply_text r) mid sink_now → IsCut all events asked sink sink_now
cut_behind before r behind all events asked n sink mid sink_now count are prefix so_far failed = record {
  whole = n;
  cut = r;
  part = ap (λ (rs : List AdminReply). slice_get rs n) are ∙ ap (slice_get (before ++ r ∷ behind)) (sym count) ∙ slice_at before r behind;
  prefix = prefix;
  written =
      let taken : take n all ≡ before = ap (take n) are ∙ take_at before (r ∷ behind) n count in
      subst (λ (o : Object). HasFailedBehind (reply_text r) o sink_now) (so_far ∙ ap (λ (rs : List AdminReply). given (replies_text rs) sink) (sym taken)) failed;
}

-- one more of them
module _ (shards : ℕ) (kind : Kind) (names : List (List ℕ)) (i : ℕ) (few : i ≤ length names) (asked : List Broadcast) (events : events_in asked ≡ map (Delete kind) (take i names)) where
  so_many : length asked ≡ i
  so_many = omega (arith, ap length events, length-map asked (λ (b : Broadcast). b.event), length-map (take i names) (Delete kind), length-take-le i names few)

  as_many : length (map (all_replies shards) asked) ≡ length (take i names)
  as_many = omega (arith, so_many, length-map asked (all_replies shards), length-take-le i names few)

  module _ (b : Broadcast) (name : List ℕ) (found : slice_get names i ≡ Some name) (is : b.event ≡ Delete kind name) where
    events_more : events_in (asked ++ b ∷ []) ≡ map (Delete kind) (take (i + 1) names)
    events_more =
        map-append (λ (c : Broadcast). c.event) asked (b ∷ []) ∙ ap (λ (e : Event). events_in asked ++ e ∷ []) is ∙ ap (λ (es : List Event). es ++ Delete kind name ∷ []) events
        ∙ sym (map-append (Delete kind) (take i names) (name ∷ [])) ∙ ap (map (Delete kind)) (sym (take-more names i name found))

    replied_more : names_replied (replies_at shards (asked ++ b ∷ [])) (take (i + 1) names) ≡ names_replied (replies_at shards asked) (take i names) ++ Gone name (keys_reported (all_replies shards b)) ∷ []
    replied_more =
        ap (names_replied (replies_at shards (asked ++ b ∷ []))) (take-more names i name found)
        ∙ ap (λ (lists : List (List shard.Reply)). names_replied (at lists) (take i names ++ name ∷ [])) (map-append (all_replies shards) asked (b ∷ []))
        ∙ names_split (map (all_replies shards) asked) (all_replies shards b ∷ []) (take i names) (name ∷ []) as_many

    -- what would be replied to the names behind it, of which no shard was asked
    behind : List AdminReply
    behind = names_replied (λ n. at (all_replies shards b ∷ []) (n + 1)) (drop (suc i) names)

    replied_all : names_replied (replies_at shards (asked ++ b ∷ [])) names ++ Finish ∷ [] ≡ names_replied (replies_at shards asked) (take i names) ++ Gone name (keys_reported (all_replies shards b)) ∷ (behind ++ Finish ∷ [])
    unfolding behind
    replied_all =
        let first = names_replied (replies_at shards asked) (take i names) in
        ap (λ (rs : List AdminReply). rs ++ Finish ∷ []) (
        ap (names_replied (replies_at shards (asked ++ b ∷ []))) (found_split names i name found)
        ∙ ap (λ (lists : List (List shard.Reply)). names_replied (at lists) (take i names ++ name ∷ drop (suc i) names)) (map-append (all_replies shards) asked (b ∷ []))
        ∙ names_split (map (all_replies shards) asked) (all_replies shards b ∷ []) (take i names) (name ∷ drop (suc i) names) as_many)
        ∙ append_assoc first (Gone name (keys_reported (all_replies shards b)) ∷ behind) (Finish ∷ [])

module _ (shards : ℕ) (kind : Kind) (names : List (List ℕ)) (i : ℕ) (own mid own_now : ℕ → History) (sink sink_mid sink_now : Object) (name : List ℕ) (b : Broadcast) (keys : List (List ℕ)) (h : SoFar shards kind names i own mid sink sink_mid)
    (found : slice_get names i ≡ Some name) (is : b.event ≡ Delete kind name) (asked : Broadcasts shards (b ∷ []) mid own_now) (reported : keys ≡ keys_reported (all_replies shards b)) where
  -- the name at a place was deleted, and replied to
  pub SoFar-next : sink_now ≡ given (reply_text (Gone name keys)) sink_mid → SoFar shards kind names (i + 1) own own_now sink sink_now
  SoFar-next written =
      let first = names_replied (replies_at shards h.broadcasts) (take i names) in
      record {
        broadcasts = h.broadcasts ++ b ∷ [];
        asked = Broadcasts-next shards h.broadcasts (b ∷ []) own mid own_now h.asked asked;
        few = omega (arith, slice_get_within names i name found);
        events = events_more shards kind names i h.few h.broadcasts h.events b name found is;
        written =
            written ∙ ap (λ (ks : List (List ℕ)). given (reply_text (Gone name ks)) sink_mid) reported ∙ ap (given (reply_text (Gone name (keys_reported (all_replies shards b))))) h.written
            ∙ given-given (replies_text first) (reply_text (Gone name (keys_reported (all_replies shards b)))) sink
            ∙ ap (λ (text : List ℕ). given text sink) (sym (text-more first (Gone name (keys_reported (all_replies shards b)))))
            ∙ ap (λ (rs : List AdminReply). given (replies_text rs) sink) (sym (replied_more shards kind names i h.few h.broadcasts h.events b name found is));
      }

  -- the reply to it was cut
  pub cut_at : {E : Type 0} (fault : E) → HasFailedBehind (reply_text (Gone name keys)) sink_mid sink_now → DeletesNames shards kind names (Err fault) own own_now sink sink_now
  cut_at fault failed = record {
    broadcasts = h.broadcasts ++ b ∷ [];
    asked = Broadcasts-next shards h.broadcasts (b ∷ []) own mid own_now h.asked asked;
    replied = cut_behind before (Gone name (keys_reported (all_replies shards b))) (behind shards kind names i h.few h.broadcasts h.events b name found is ++ Finish ∷ []) _ (map (Delete kind) names) (events_in (h.broadcasts ++ b ∷ [])) i sink sink_mid sink_now
        (length_replied (replies_at shards h.broadcasts) (take i names) ∙ length-take-le i names h.few) (replied_all shards kind names i h.few h.broadcasts h.events b name found is)
        (events_more shards kind names i h.few h.broadcasts h.events b name found is ∙ sym (take-map (Delete kind) (i + 1) names))
        h.written (subst (λ (ks : List (List ℕ)). HasFailedBehind (reply_text (Gone name ks)) sink_mid sink_now) reported failed);
  } where
    before : List AdminReply
    before = names_replied (replies_at shards h.broadcasts) (take i names)

-- all that there is, and room for one more
all_taken : (xs : List Event) → xs ≡ take (length xs + 1) xs
all_taken xs = let next : length xs + 1 ≡ suc (length xs) = omega arith in sym (ap (λ n. take n xs) next ∙ more xs) where
  more : (ys : List Event) → take (suc (length ys)) ys ≡ ys
  more [] = refl
  more (y ∷ ys) = ap (λ es. y ∷ es) (more ys)

-- all names were deleted, and the end was replied, or cut
pub finished : {E : Type 0} (result : Result ⊤ E) (shards : ℕ) (kind : Kind) (names : List (List ℕ)) (i : ℕ) (own own_now : ℕ → History) (sink sink_mid sink_now : Object) → SoFar shards kind names i own own_now sink sink_mid → slice_get names i ≡ None
    → OnOk result (sink_now ≡ given (reply_text Finish) sink_mid) → OnErr result (HasFailedBehind (reply_text Finish) sink_mid sink_now) → DeletesNames shards kind names result own own_now sink sink_now
finished {E} result shards kind names i own own_now sink sink_mid sink_now h none ok failed = record { broadcasts = h.broadcasts; asked = h.asked; replied = by_result result ok failed } where
  all : take i names ≡ names
  all = none_found names i none

  replies : List AdminReply
  replies = names_replied (replies_at shards h.broadcasts) names

  events : events_in h.broadcasts ≡ map (Delete kind) names
  events = h.events ∙ ap (map (Delete kind)) all

  so_far : sink_mid ≡ given (replies_text replies) sink
  so_far = h.written ∙ ap (λ (ns : List (List ℕ)). given (replies_text (names_replied (replies_at shards h.broadcasts) ns)) sink) all

  count : length replies ≡ length (map (Delete kind) names)
  count = length_replied (replies_at shards h.broadcasts) names ∙ sym (length-map names (Delete kind))

  by_result : (r : Result ⊤ E) → OnOk r (sink_now ≡ given (reply_text Finish) sink_mid) → OnErr r (HasFailedBehind (reply_text Finish) sink_mid sink_now) → AreReplied (names_replied (replies_at shards h.broadcasts) names ++ Finish ∷ []) (map (Delete kind) names) (events_in h.broadcasts) r sink sink_now
  by_result (Ok whole) ok failed = record {
    all = events;
    written = ok ∙ ap (given (reply_text Finish)) so_far ∙ given-given (replies_text replies) (reply_text Finish) sink ∙ ap (λ (text : List ℕ). given text sink) (sym (text-more replies Finish));
  }
  by_result (Err fault) ok failed =
      cut_behind replies Finish [] (replies ++ Finish ∷ []) (map (Delete kind) names) (events_in h.broadcasts) (length (map (Delete kind) names)) sink sink_mid sink_now count refl
      (events ∙ all_taken (map (Delete kind) names)) so_far failed

-- a single reply, to a line that asks for one event or for none
pub one_reply : {E : Type 0} (r : AdminReply) (events : List Event) (result : Result ⊤ E) (sink sink_now : Object) → length events ≤ 1 → OnOk result (sink_now ≡ given (reply_text r) sink) → OnErr result (HasFailedBehind (reply_text r) sink sink_now) → FitsLastCount sink.content
    → AreReplied (r ∷ []) events events result sink sink_now
one_reply r events (Ok whole) sink sink_now few ok failed fits = record { all = refl; written = ok ∙ ap (λ (text : List ℕ). given text sink) (sym (append-nil (reply_text r))) }
one_reply r events (Err fault) sink sink_now few ok failed fits = cut_behind [] r [] (r ∷ []) events events 0 sink sink sink_now refl refl (prefix events few) (given-nil sink fits) failed where
  prefix : (es : List Event) → length es ≤ 1 → es ≡ take 1 es
  prefix [] few = refl
  prefix (e ∷ []) few = refl
  prefix (e ∷ d ∷ es) few = absurd (omega (arith, few))

-- one event of all shards, and the reply that tells what they answered
pub replied_once : {E : Type 0} (event : Event) (b : Broadcast) (r reported : AdminReply) (result : Result ⊤ E) (sink sink_now : Object) → b.event ≡ event → r ≡ reported
    → OnOk result (sink_now ≡ given (reply_text r) sink) → OnErr result (HasFailedBehind (reply_text r) sink sink_now) → FitsLastCount sink.content
    → AreReplied (reported ∷ []) (event ∷ []) (events_in (b ∷ [])) result sink sink_now
replied_once event b r reported result sink sink_now is same ok failed fits =
    subst (λ (e : Event). AreReplied (reported ∷ []) (event ∷ []) (e ∷ []) result sink sink_now) (sym is)
    (subst (λ (t : AdminReply). AreReplied (t ∷ []) (event ∷ []) (event ∷ []) result sink sink_now) same
    (one_reply r (event ∷ []) result sink sink_now (omega arith) ok failed fits))

-- what a line was read as was executed
pub executes : {E : Type 0} (shards : ℕ) (settings : file.Settings) (facts : Facts) (now : ℕ) (line : List ℕ) (result : Result ⊤ E) (own own_now : ℕ → History) (sink sink_now : Object) (answer : Result Command AdminFault) (broadcasts : List Broadcast) → command line ≡ answer
    → Broadcasts shards broadcasts own own_now → AreReplied (replies_by (nat_lt 0 settings.transport.outlets) (replies_at shards broadcasts) facts settings now answer) (admin_events answer) (events_in broadcasts) result sink sink_now
    → Executes shards settings facts now line result own own_now sink sink_now
executes shards settings facts now line result own own_now sink sink_now answer broadcasts read asked replied = record {
  broadcasts = broadcasts;
  asked = asked;
  executed = subst (λ a. AreReplied (replies_by (nat_lt 0 settings.transport.outlets) (replies_at shards broadcasts) facts settings now a) (admin_events a) (events_in broadcasts) result sink sink_now) (sym read) replied;
}
