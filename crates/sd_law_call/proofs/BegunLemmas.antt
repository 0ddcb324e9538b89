-- What is told of settings that were read, what their reading and the opening of parts keep, and what is told of an opening that
-- failed.
use Rattle.std.proofs.Common.{◌≡◌, ◌⊎◌, ℕ, ◌+◌, ◌<◌, List, [], ◌∷◌, ◌++◌, length, map, get_or, refl, sym, ap, subst, ◌∙◌, Ok, Err, inl, inr, nat_lt, codes, arith, length-append, append-nil}
use Rattle.std.specs.Prelude.{IfSome}
use Rattle.std.specs.List.{AllByRecursion}
use Rattle.std.proofs.lemmas.Bool.{cond-true}
use Rattle.std.proofs.lemmas.Bool.Decides.{nat_tests}
use Rattle.std.proofs.Math.ListN.{get_or-map}
use Rattle.std.proofs.Math.Seq.{map-set_same}
use Rattle.sd_model_outside.specs.Backend.{Backend}
use Rattle.sd_model_outside.proofs.BackendLemmas.{each_with_one}
use Rattle.sd_model_outside.specs.Outside.{File, HasRead, Interval, IsAtEnd, Left, Object, Place, Rose, Content, Unknown, fresh, left_in, opened, put_back, telling}
use Rattle.sd_model_settings.specs.Settings.{Settings, OutOfRange, SettingsFlaw, settings, settings_by}
use Rattle.sd_model_call.specs.Opening.{World, Opening, Part, OfSettings, OfScript, OfSource, OfBeat, OfWire, OfBackend, OfDoor, OfStreams, AreRead, IsAccepted, IsFlawed, IsNotOpenedAt, longest_file, numbered, opened_all, part_in, settled, with_part}
use Rattle.sd_model_call.specs.Call.{Answer, Done, NoMemory, NoForm, Misset, BadScript, NotOpened, NotRead, NotWritten, Worn, IsNotTaken, NotBegun, NotTaken, StopsAmong, cut_answer}
use Rattle.sd_model_call.specs.Server.{begun_with}
use Rattle.sd_law_call.specs.ServerCompleteness.{HasFaultOf, IsReadToRun, RunsFreely}
use Rattle.sd_law_call.proofs.Openings.{all_behind}
use Rattle.sd_law_call.proofs.ReplayEnds.{LeftBehind, left_behind}
use Rattle.sd_model_call.proofs.Short.{opened_part}
use Rattle.sd_model_outside.proofs.Short.{with_interval}

-- a file that is too long has that flaw
too_long : (bytes : List ℕ) → longest_file < length bytes → settings bytes ≡ Err (OutOfRange (codes "file"))
unfolding settings settings_by
too_long bytes long = cond-true (nat_lt 65536 (length bytes)) _ _ (grind (arith, nat_tests))

-- what was read of settings that tell their bytes says what these say
says_so : (place : Place) (bytes read : List ℕ) (old new : Object) → old.content ≡ Left bytes → AreRead place read old new → settings read ≡ settings bytes
says_so place bytes read old new content h = by_decided h.decided where
  rest : LeftBehind read bytes new.content
  rest = left_behind read bytes new.content (sym content ∙ ap (λ (o : Object). o.content) h.read)

  at_end : IsAtEnd new.content → rest.bytes ≡ []
  at_end ended = subst (λ (t : Content). IfSome (left_in t) (λ bs. bs ≡ [])) rest.is ended

  by_decided : IsAtEnd new.content ⊎ (longest_file < length read) → settings read ≡ settings bytes
  by_decided (inl ended) = ap settings (sym (rest.stands ∙ ap (λ more. read ++ more) (at_end ended) ∙ append-nil read))
  by_decided (inr long) = too_long read long ∙ sym (too_long bytes (omega (arith, long, ap length rest.stands, length-append read rest.bytes)))

-- what is seen of each object that is the same in two worlds, and all that is seen of the output
pub record Same {X : Type 0} (f : Object → X) (a b : World) : Type 0 where
  pub settings : f a.settings ≡ f b.settings
  pub script : f a.seen.script ≡ f b.seen.script
  pub sources : map f a.served.sources ≡ map f b.served.sources
  pub beat : f a.served.beat ≡ f b.served.beat
  pub wires : map f a.seen.wires ≡ map f b.seen.wires
  pub backs : (back : Backend) → f (a.seen.backs back) ≡ f (b.seen.backs back)
  pub door : f a.served.door ≡ f b.served.door
  pub streams : f a.served.streams ≡ f b.served.streams
  pub output : a.seen.output ≡ b.seen.output

module _ {X : Type 0} (f : Object → X) where
  pub at_same : (i : ℕ) (xs ys : List Object) → map f xs ≡ map f ys → f (get_or xs i (fresh Unknown)) ≡ f (get_or ys i (fresh Unknown))
  at_same i xs ys same =
      sym (get_or-map f xs i (fresh Unknown)) ∙ ap (λ ns. get_or ns i (f (fresh Unknown))) same ∙ get_or-map f ys i (fresh Unknown)

  pub same_part : (a b : World) → Same f a b → (part : Part) → f (part_in a part) ≡ f (part_in b part)
  same_part a b h OfSettings = h.settings
  same_part a b h OfScript = h.script
  same_part a b h (OfSource i) = at_same i a.served.sources b.served.sources h.sources
  same_part a b h OfBeat = h.beat
  same_part a b h (OfWire i) = at_same i a.seen.wires b.seen.wires h.wires
  same_part a b h (OfBackend back) = h.backs back
  same_part a b h OfDoor = h.door
  same_part a b h OfStreams = h.streams

  pub same_next : (a b c : World) → Same f a b → Same f b c → Same f a c
  same_next a b c g h = record {
    settings = g.settings ∙ h.settings;
    script = g.script ∙ h.script;
    sources = g.sources ∙ h.sources;
    beat = g.beat ∙ h.beat;
    wires = g.wires ∙ h.wires;
    backs = λ back. g.backs back ∙ h.backs back;
    door = g.door ∙ h.door;
    streams = g.streams ∙ h.streams;
    output = g.output ∙ h.output;
  }

  same_self : (a : World) → Same f a a
  same_self a = record { settings = refl; script = refl; sources = refl; beat = refl; wires = refl; backs = λ b. refl; door = refl; streams = refl; output = refl }

  module _ (keeps : (place : Place) (o : Object) → f (opened place o) ≡ f o) where
    same_opened : (w : World) (place : Place) (part : Part) → Same f (with_part part (opened place (part_in w part)) w) w
    same_opened w place OfSettings = record { settings = keeps place w.settings; script = refl; sources = refl; beat = refl; wires = refl; backs = λ b. refl; door = refl; streams = refl; output = refl }
    same_opened w place OfScript = record { settings = refl; script = keeps place w.seen.script; sources = refl; beat = refl; wires = refl; backs = λ b. refl; door = refl; streams = refl; output = refl }
    same_opened w place (OfSource i) = record { settings = refl; script = refl; sources = map-set_same f w.served.sources i _ (fresh Unknown) (keeps place _); beat = refl; wires = refl; backs = λ b. refl; door = refl; streams = refl; output = refl }
    same_opened w place OfBeat = record { settings = refl; script = refl; sources = refl; beat = keeps place w.served.beat; wires = refl; backs = λ b. refl; door = refl; streams = refl; output = refl }
    same_opened w place (OfWire i) = record { settings = refl; script = refl; sources = refl; beat = refl; wires = map-set_same f w.seen.wires i _ (fresh Unknown) (keeps place _); backs = λ b. refl; door = refl; streams = refl; output = refl }
    same_opened w place (OfBackend back) =
        record {
          settings = refl;
          script = refl;
          sources = refl;
          beat = refl;
          wires = refl;
          backs = each_with_one (λ c o. f o ≡ f (w.seen.backs c)) back (opened place (w.seen.backs back)) w.seen.backs (keeps place (w.seen.backs back)) (λ c. refl);
          door = refl;
          streams = refl;
          output = refl;
        }
    same_opened w place OfDoor = record { settings = refl; script = refl; sources = refl; beat = refl; wires = refl; backs = λ b. refl; door = keeps place w.served.door; streams = refl; output = refl }
    same_opened w place OfStreams = record { settings = refl; script = refl; sources = refl; beat = refl; wires = refl; backs = λ b. refl; door = refl; streams = keeps place w.served.streams; output = refl }

    pub same_all : (os : List Opening) (w : World) → Same f (opened_all w os) w
    same_all [] w = same_self w
    same_all (o ∷ os) w = same_next _ _ w (same_all os (opened_part w o)) (same_opened w o.place o.part)

-- opening counts no fault and no turn
pub same_faults : (os : List Opening) (w : World) → Same (λ o. o.faults) (opened_all w os) w
same_faults os w = same_all (λ o. o.faults) (λ place o. refl) os w

pub same_turns : (os : List Opening) (w : World) → Same (λ o. o.turns) (opened_all w os) w
same_turns os w = same_all (λ o. o.turns) (λ place o. refl) os w

-- what holds of each part of a kind holds of those with numbers
pub all_numbered : (P : Part → Type 0) (part : ℕ → Part) → ((i : ℕ) → P (part i)) → (i : ℕ) (places : List Place) → AllByRecursion (λ o. P o.part) (numbered part i places)
all_numbered P part are i [] = tt
all_numbered P part are i (p ∷ places) = (are i, all_numbered P part are (i + 1) places)

-- reading settings keeps a count that opening keeps, and that what is told doesn't touch
module _ {X : Type 0} (f : Object → X) (opens : (place : Place) (o : Object) → f (opened place o) ≡ f o) (tells : (content : Content) (o : Object) → f (telling content o) ≡ f o) where
  read_same : (bytes : List ℕ) (place : Place) (o n : Object) → HasRead bytes (opened place o) n → f n ≡ f o
  read_same bytes place o n read = sym (tells (put_back bytes n.content) n) ∙ sym (ap f read) ∙ opens place o

  pub same_settled : (values : Settings) (settings : Object) (name : List ℕ) (w : World) → IsAccepted values (File name) w.settings settings → Same f (settled values settings w) w
  same_settled values settings name w taken = record {
    settings = read_same taken.bytes (File name) w.settings settings taken.read.read;
    script = refl;
    sources = refl;
    beat = refl;
    wires = refl;
    backs = λ b. refl;
    door = refl;
    streams = refl;
    output = refl;
  }

-- so does what comes before workers begin, where starting the beat keeps it too
module _ {X : Type 0} (f : Object → X) (opens : (place : Place) (o : Object) → f (opened place o) ≡ f o) (tells : (content : Content) (o : Object) → f (telling content o) ≡ f o) (starts : (interval : Interval) (o : Object) → f (with_interval interval o) ≡ f o) where
  same_begun : (parts : List Opening) (interval : Interval) (w : World) → Same f (begun_with parts interval w) w
  same_begun parts interval w =
      let all = same_all f opens parts w in
      record {
        settings = all.settings;
        script = all.script;
        sources = all.sources;
        beat = starts interval _ ∙ all.beat;
        wires = all.wires;
        backs = all.backs;
        door = all.door;
        streams = all.streams;
        output = all.output;
      }

  pub same_start : (parts : List Opening) (interval : Interval) (values : Settings) (settings : Object) (name : List ℕ) (w : World) → IsAccepted values (File name) w.settings settings → Same f (begun_with parts interval (settled values settings w)) w
  same_start parts interval values settings name w taken = same_next f _ _ w (same_begun parts interval (settled values settings w)) (same_settled f opens tells values settings name w taken)

module _ (name : List ℕ) (old new : World) (values : Settings) (settings : Object) (taken : IsAccepted values (File name) old.settings settings) where
  -- the count of faults of a part is that before settings were read
  settled_part : (part : Part) (os : List Opening) → (part_in (opened_all (settled values settings old) os) part).faults ≡ (part_in old part).faults
  settled_part part os =
      same_part (λ o. o.faults) _ old
      (same_next (λ o. o.faults) _ _ old (same_all (λ o. o.faults) (λ place o. refl) os (settled values settings old)) (same_settled (λ o. o.faults) (λ place o. refl) (λ content o. refl) values settings name old taken)) part

  -- a part whose opening failed is of the kind of all, and a fault of it was counted
  not_opened : (P : Part → Type 0) (parts : List Opening) → AllByRecursion (λ o. P o.part) parts → (part : Part) → IsNotOpenedAt parts part (settled values settings old) new → P part × HasFaultOf part old new
  not_opened P parts all part not = (
    (all_behind (λ o. P o.part) not.before (record { part = part; place = not.place } ∷ not.behind) (subst (AllByRecursion (λ o. P o.part)) not.order all)).0,
    subst (λ (n : ℕ). Rose n (part_in new part).faults) (settled_part part not.before) not.failed.rose,
  )

-- what was read of settings that tell these bytes is what these say
module _ (name : List ℕ) (bytes : List ℕ) (old : World) (content : old.settings.content ≡ Left bytes) where
  pub has_flaw : (flaw : SettingsFlaw) (now : Object) → IsFlawed flaw (File name) old.settings now → settings bytes ≡ Err flaw
  has_flaw flaw now has = sym (says_so (File name) bytes has.bytes old.settings now content has.read) ∙ has.refused

  pub accepted_so : (values : Settings) (now : Object) → IsAccepted values (File name) old.settings now → settings bytes ≡ Ok values
  accepted_so values now taken = sym (says_so (File name) bytes taken.bytes old.settings now content taken.read) ∙ taken.accepted

-- What holds of an answer where a call didn't begin what it was asked for, by its cause.
module _ (name : List ℕ) (old new : World) (Says : Answer → Type 0) (lacks : Says NoMemory) where
  pub not_taken : (answer : Answer) → NotTaken name answer old new → (Rose old.settings.faults new.settings.faults → Says (NotOpened OfSettings)) → (Rose old.settings.faults new.settings.faults → Says (NotRead OfSettings))
      → ((flaw : SettingsFlaw) → IsFlawed flaw (File name) old.settings new.settings → Says (Misset flaw)) → Says answer
  not_taken answer h closed failed flawed = by_why h.why where
    by_why : IsNotTaken answer (File name) old.settings new.settings → Says answer
    by_why (inl (is, left)) = subst Says (sym is) lacks
    by_why (inr (inl (is, fails))) = subst Says (sym is) (closed fails.rose)
    by_why (inr (inr (inl (is, fails)))) =
        let before = ap (λ (o : Object). o.faults) fails.read in
        subst Says (sym is) (failed (subst (λ (n : ℕ). Rose n new.settings.faults) (sym before) fails.failed.rose))
    by_why (inr (inr (inr (flaw, is, has)))) = subst Says (sym is) (flawed flaw has)

  pub not_begun : (parts : Settings → List Opening) (IsOpened : Part → Type 0) (answer : Answer) (h : NotBegun parts name answer old new) → AllByRecursion (λ o. IsOpened o.part) (parts h.values)
      → ((part : Part) → IsOpened part × HasFaultOf part old new → Says (NotOpened part)) → Says answer
  not_begun parts IsOpened answer h all closed = by_stop h.stops where
    by_stop : StopsAmong (parts h.values) answer (settled h.values h.settings old) new → Says answer
    by_stop (inl (is, some)) = subst Says (sym is) lacks
    by_stop (inr (part, is, not)) = subst Says (sym is) (closed part (not_opened name old new h.values h.settings h.taken IsOpened (parts h.values) all part not))

-- a run whose totals couldn't be written is answered as it would be, or by that
pub uncut : (whole answer : Answer) → answer ≡ cut_answer whole → (answer ≡ NotWritten) ⊎ (whole ≡ answer)
uncut Done answer is = inl is
uncut NoMemory answer is = inr (sym is)
uncut NoForm answer is = inr (sym is)
uncut (Misset flaw) answer is = inr (sym is)
uncut (BadScript at flaw) answer is = inr (sym is)
uncut (NotOpened part) answer is = inr (sym is)
uncut (NotRead part) answer is = inr (sym is)
uncut NotWritten answer is = inl is
uncut (Worn turns) answer is = inr (sym is)

-- where nothing hinders the loops, no read or tick that ends a run failed
pub none_failed : (old new : World) → RunsFreely old new → (part : Part) → IsReadToRun part → HasFaultOf part old new → ⊥
none_failed old new runs OfSettings read rose = runs.settings rose
none_failed old new runs OfScript read rose = absurd read
none_failed old new runs (OfSource i) read rose = runs.sources i rose
none_failed old new runs OfBeat read rose = runs.beat rose
none_failed old new runs (OfWire i) read rose = absurd read
none_failed old new runs (OfBackend back) read rose = absurd read
none_failed old new runs OfDoor read rose = absurd read
none_failed old new runs OfStreams read rose = absurd read
