-- Parts that are opened in their order, of which one stops it.
use Rattle.std.proofs.Common.{◌≡◌, ℕ, zero, suc, ◌+◌, ◌-◌, ◌*◌, ◌<◌, ◌≤◌, Bool, true, false, List, [], ◌∷◌, ◌++◌, length, get_or, set, flat_map, inl, inr, refl, sym, ap, subst, ◌∙◌, arith, append-nil, append_assoc, length-append}
use Rattle.std.specs.Prelude.{if◌then◌else◌}
use Rattle.std.proofs.Math.Nat.{suc-mul, zero-mul}
use Rattle.sd_model_outside.specs.Outside.{Object, Place, File, HasFailed, Unknown, fresh, opened}
use Rattle.std.proofs.Math.Path.{fun_ext}
use Rattle.sd_model_outside.specs.Backend.{Backend, Graphite, backends, with_one}
use Rattle.sd_model_outside.proofs.BackendLemmas.{each_with_one, map_with_one, with_one_at, with_one_same}
use Rattle.sd_model_settings.specs.Settings.{Settings}
use Rattle.sd_model_replay.specs.Replay.{is_used}
use Rattle.sd_outside.specs.Backends.{Done, StopsAt}
use Rattle.sd_outside.specs.declared.backend.Back.{Back}
use Rattle.sd_model_call.specs.Call.{Answer, StopsAmong}
use Rattle.sd_model_call.specs.Opening.{OfBackend, Opening, backend_openings, Part, World, numbered, opened_all, opening_where, part_in, repeated, with_part}
use Rattle.sd_opening.specs.Causes.{AreOpened, BackStops, back_places, EachStops, FailsBack, OpensBack, OpensWhere, IsNotOpened, WhereStops, opened_each, opened_where}
use Rattle.sd_model_call.proofs.Short.{opened_part}

-- parts that were opened one list after the other
opened_more : (w : World) (xs ys : List Opening) → opened_all w (xs ++ ys) ≡ opened_all (opened_all w xs) ys
opened_more w [] ys = refl
opened_more w (x ∷ xs) ys = opened_more (opened_part w x) xs ys

-- what stopped among the first parts stopped among all
pub stops_before : (prefix behind : List Opening) (answer : Answer) (old new : World) → StopsAmong prefix answer old new → StopsAmong (prefix ++ behind) answer old new
stops_before prefix behind answer old new (inl (is, h)) = inl (is, record { before = h.before; behind = h.behind ++ behind; order = ap (λ os. os ++ behind) h.order ∙ append_assoc h.before h.behind behind; opened = h.opened })
stops_before prefix behind answer old new (inr (part, is, h)) = inr (
  part,
  is,
  record {
    before = h.before;
    place = h.place;
    behind = h.behind ++ behind;
    order = ap (λ os. os ++ behind) h.order ∙ append_assoc h.before (record { part = part; place = h.place } ∷ h.behind) behind;
    failed = h.failed;
    others = h.others;
  },
)

-- what stopped behind parts that were opened
pub stops_behind : (prefix behind : List Opening) (answer : Answer) (old mid new : World) → mid ≡ opened_all old prefix → StopsAmong behind answer mid new → StopsAmong (prefix ++ behind) answer old new
stops_behind prefix behind answer old mid new is (inl (lacks, h)) = inl (
  lacks,
  record {
    before = prefix ++ h.before;
    behind = h.behind;
    order = ap (λ os. prefix ++ os) h.order ∙ sym (append_assoc prefix h.before h.behind);
    opened = h.opened ∙ ap (λ w. opened_all w h.before) is ∙ sym (opened_more old prefix h.before);
  },
)
stops_behind prefix behind answer old mid new is (inr (part, lacks, h)) =
    let same : opened_all mid h.before ≡ opened_all old (prefix ++ h.before) = ap (λ w. opened_all w h.before) is ∙ sym (opened_more old prefix h.before) in
    inr (
      part,
      lacks,
      record {
        before = prefix ++ h.before;
        place = h.place;
        behind = h.behind;
        order = ap (λ os. prefix ++ os) h.order ∙ sym (append_assoc prefix h.before (record { part = part; place = h.place } ∷ h.behind));
        failed = subst (λ w. HasFailed (part_in w part) (part_in new part)) same h.failed;
        others = h.others ∙ ap (with_part part (part_in new part)) same;
      },
    )

-- parts that were opened behind others
pub opened_behind : (prefix behind : List Opening) (old mid new : World) → mid ≡ opened_all old prefix → new ≡ opened_all mid behind → new ≡ opened_all old (prefix ++ behind)
opened_behind prefix behind old mid new is next = next ∙ ap (λ w. opened_all w behind) is ∙ sym (opened_more old prefix behind)

-- an object behind others, and another in its place
at_end : {X : Type 0} (prefix : List X) (x : X) (behind : List X) (d : X) → get_or (prefix ++ x ∷ behind) (length prefix) d ≡ x
at_end [] x behind d = refl
at_end (y ∷ prefix) x behind d = at_end prefix x behind d

put_at_end : {X : Type 0} (prefix : List X) (x y : X) (behind : List X) → set (prefix ++ x ∷ behind) (length prefix) y ≡ prefix ++ y ∷ behind
put_at_end [] x y behind = refl
put_at_end (z ∷ prefix) x y behind = ap (λ l. z ∷ l) (put_at_end prefix x y behind)

push_prefix : {X : Type 0} (prefix : List X) (x : X) (behind : List X) → (prefix ++ x ∷ []) ++ behind ≡ prefix ++ x ∷ behind
push_prefix prefix x behind = append_assoc prefix (x ∷ []) behind

length_one_more : {X : Type 0} (prefix : List X) (x : X) → length (prefix ++ x ∷ []) ≡ length prefix + 1
length_one_more [] x = refl
length_one_more (y ∷ prefix) x = let more = length_one_more prefix x in omega (arith, more)

-- A list of objects of a world, each a part by its number.
module _ (part : ℕ → Part) (put : List Object → World) (sees : (l : List Object) (i : ℕ) → part_in (put l) (part i) ≡ get_or l i (fresh Unknown))
    (puts : (l : List Object) (i : ℕ) (o : Object) → with_part (part i) o (put l) ≡ put (set l i o)) where
  -- one was opened
  step : (prefix : List Object) (o : Object) (behind : List Object) (p : Place) → opened_part (put (prefix ++ o ∷ behind)) (record { part = part (length prefix); place = p }) ≡ put (prefix ++ opened p o ∷ behind)
  step prefix o behind p =
      ap (λ x. with_part (part (length prefix)) (opened p x) (put (prefix ++ o ∷ behind))) (sees (prefix ++ o ∷ behind) (length prefix) ∙ at_end prefix o behind (fresh Unknown))
      ∙ puts (prefix ++ o ∷ behind) (length prefix) (opened p o) ∙ ap put (put_at_end prefix o (opened p o) behind)

  pub all_opened : (prefix olds : List Object) (places : List Place) → length places ≤ length olds → opened_all (put (prefix ++ olds)) (numbered part (length prefix) places) ≡ put (prefix ++ opened_each places olds)
  all_opened prefix olds [] few = refl
  all_opened prefix [] (p ∷ places) few = absurd (omega (arith, few))
  all_opened prefix (o ∷ olds) (p ∷ places) few =
      ap (λ w. opened_all w (numbered part (length prefix + 1) places)) (step prefix o olds p ∙ ap put (sym (push_prefix prefix (opened p o) olds)))
      ∙ ap (λ n. opened_all (put ((prefix ++ opened p o ∷ []) ++ olds)) (numbered part n places)) (sym (length_one_more prefix (opened p o)))
      ∙ all_opened (prefix ++ opened p o ∷ []) olds places (omega (arith, few))
      ∙ ap put (push_prefix prefix (opened p o) (opened_each places olds))

  -- one of them wasn't
  one_stops : (prefix : List Object) (o n : Object) (behind : List Object) (p : Place) (places : List Place) (answer : Answer) → IsNotOpened (part (length prefix)) answer o n → StopsAmong (numbered part (length prefix) (p ∷ places)) answer (put (prefix ++ o ∷ behind)) (put (prefix ++ n ∷ behind))
  one_stops prefix o n behind p places answer (inl (is, same)) = inl (
    is,
    record {
      before = [];
      behind = numbered part (length prefix) (p ∷ places);
      order = refl;
      opened = ap (λ x. put (prefix ++ x ∷ behind)) same;
    },
  )
  one_stops prefix o n behind p places answer (inr (is, failed)) =
      let old = sees (prefix ++ o ∷ behind) (length prefix) ∙ at_end prefix o behind (fresh Unknown) in
      let new = sees (prefix ++ n ∷ behind) (length prefix) ∙ at_end prefix n behind (fresh Unknown) in
      inr (
        part (length prefix),
        is,
        record {
          before = [];
          place = p;
          behind = numbered part (length prefix + 1) places;
          order = refl;
          failed = subst (λ x. HasFailed x (part_in (put (prefix ++ n ∷ behind)) (part (length prefix)))) (sym old) (subst (HasFailed o) (sym new) failed);
          others = ap put (sym (put_at_end prefix o n behind)) ∙ sym (puts (prefix ++ o ∷ behind) (length prefix) n) ∙ ap (λ x. with_part (part (length prefix)) x (put (prefix ++ o ∷ behind))) (sym new);
        },
      )

  pub each_stops : (prefix olds news : List Object) (places : List Place) (answer : Answer) → EachStops part (length prefix) places answer olds news → StopsAmong (numbered part (length prefix) places) answer (put (prefix ++ olds)) (put (prefix ++ news))
  each_stops prefix olds news [] answer h = absurd h
  each_stops prefix [] news (p ∷ places) answer h = absurd h
  each_stops prefix (o ∷ olds) [] (p ∷ places) answer h = absurd h
  each_stops prefix (o ∷ olds) (n ∷ news) (p ∷ places) answer (inl h) =
      subst (λ l. StopsAmong (numbered part (length prefix) (p ∷ places)) answer (put (prefix ++ o ∷ olds)) (put (prefix ++ n ∷ l))) (sym h.1) (one_stops prefix o n olds p places answer h.0)
  each_stops prefix (o ∷ olds) (n ∷ news) (p ∷ places) answer (inr h) =
      let first = step prefix o olds p ∙ ap put (sym (push_prefix prefix (opened p o) olds)) in
      let rest = each_stops (prefix ++ opened p o ∷ []) olds news places answer (subst (λ k. EachStops part k places answer olds news) (sym (length_one_more prefix (opened p o))) h.1) in
      let now = subst (λ k. StopsAmong (numbered part k places) answer (put ((prefix ++ opened p o ∷ []) ++ olds)) (put ((prefix ++ opened p o ∷ []) ++ news))) (length_one_more prefix (opened p o)) rest in
      let moved = subst (λ x. StopsAmong (numbered part (length prefix + 1) places) answer (put ((prefix ++ opened p o ∷ []) ++ olds)) (put x)) (push_prefix prefix (opened p o) news ∙ ap (λ x. prefix ++ x ∷ news) (sym h.0)) now in
      stops_behind (record { part = part (length prefix); place = p } ∷ []) (numbered part (length prefix + 1) places) answer (put (prefix ++ o ∷ olds)) (put ((prefix ++ opened p o ∷ []) ++ olds)) (put (prefix ++ n ∷ news)) (sym first) moved

-- objects with places, one list after the other
pub opened_both : (ps qs : List Place) (xs ys : List Object) → length xs ≡ length ps → opened_each (ps ++ qs) (xs ++ ys) ≡ opened_each ps xs ++ opened_each qs ys
opened_both [] qs [] ys same = refl
opened_both [] qs (x ∷ xs) ys same = absurd (omega (arith, same))
opened_both (p ∷ ps) qs [] ys same = absurd (omega (arith, same))
opened_both (p ∷ ps) qs (x ∷ xs) ys same = ap (λ l. opened p x ∷ l) (opened_both ps qs xs ys (omega (arith, same)))

module _ (part : ℕ → Part) (answer : Answer) where
  pub first_stops : (i : ℕ) (ps qs : List Place) (xs xs_now ys : List Object) → EachStops part i ps answer xs xs_now → EachStops part i (ps ++ qs) answer (xs ++ ys) (xs_now ++ ys)
  first_stops i [] qs xs xs_now ys h = absurd h
  first_stops i (p ∷ ps) qs [] xs_now ys h = absurd h
  first_stops i (p ∷ ps) qs (x ∷ xs) [] ys h = absurd h
  first_stops i (p ∷ ps) qs (x ∷ xs) (n ∷ xs_now) ys (inl h) = inl (h.0, ap (λ l. l ++ ys) h.1)
  first_stops i (p ∷ ps) qs (x ∷ xs) (n ∷ xs_now) ys (inr h) = inr (h.0, first_stops (i + 1) ps qs xs xs_now ys h.1)

  pub second_stops : (i : ℕ) (ps qs : List Place) (xs xs_now ys ys_now : List Object) → length xs ≡ length ps → xs_now ≡ opened_each ps xs → EachStops part (i + length ps) qs answer ys ys_now → EachStops part i (ps ++ qs) answer (xs ++ ys) (xs_now ++ ys_now)
  second_stops i [] qs [] xs_now ys ys_now same is h = subst (λ l. EachStops part i qs answer ys (l ++ ys_now)) (sym is) (let here : i + 0 ≡ i = omega arith in subst (λ k. EachStops part k qs answer ys ys_now) here h)
  second_stops i [] qs (x ∷ xs) xs_now ys ys_now same is h = absurd (omega (arith, same))
  second_stops i (p ∷ ps) qs [] xs_now ys ys_now same is h = absurd (omega (arith, same))
  second_stops i (p ∷ ps) qs (x ∷ xs) xs_now ys ys_now same is h =
      let there : i + suc (length ps) ≡ (i + 1) + length ps = omega arith in
      subst (λ l. EachStops part i (p ∷ (ps ++ qs)) answer (x ∷ (xs ++ ys)) (l ++ ys_now)) (sym is)
      (inr (refl, second_stops (i + 1) ps qs xs (opened_each ps xs) ys ys_now (omega (arith, same)) refl (subst (λ k. EachStops part k qs answer ys ys_now) there h)))

-- one time more
pub repeated_more : (n : ℕ) (ps : List Place) → 0 < n → repeated n ps ≡ ps ++ repeated (n - 1) ps
repeated_more zero ps some = absurd (omega (arith, some))
repeated_more (suc n) ps some = let less : n ≡ suc n - 1 = omega arith in ap (λ k. ps ++ repeated k ps) less

pub repeated_count : (n : ℕ) (ps : List Place) → length (repeated n ps) ≡ n * length ps
repeated_count zero ps = sym (zero-mul (length ps))
repeated_count (suc n) ps = let both = length-append ps (repeated n ps) in let rest = repeated_count n ps in let more = suc-mul n (length ps) in omega (arith, both, rest, more)

-- a part alone that wasn't opened, before others
pub part_stops : (o : Opening) (behind : List Opening) (answer : Answer) (w : World) (n : Object) → IsNotOpened o.part answer (part_in w o.part) n → part_in (with_part o.part n w) o.part ≡ n → with_part o.part (part_in w o.part) w ≡ w
    → StopsAmong (o ∷ behind) answer w (with_part o.part n w)
part_stops o behind answer w n (inl (is, same)) sees stays = inl (is, record { before = []; behind = o ∷ behind; order = refl; opened = ap (λ x. with_part o.part x w) same ∙ stays })
part_stops o behind answer w n (inr (is, failed)) sees stays = inr (
  o.part,
  is,
  record {
    before = [];
    place = o.place;
    behind = behind;
    order = refl;
    failed = subst (HasFailed (part_in w o.part)) (sym sees) failed;
    others = ap (λ x. with_part o.part x w) (sym sees);
  },
)

-- the same of one that is opened where it is used
pub where_stops : (used : Bool) (o : Opening) (behind : List Opening) (answer : Answer) (w : World) (n : Object) → WhereStops used o.part answer (part_in w o.part) n → part_in (with_part o.part n w) o.part ≡ n → with_part o.part (part_in w o.part) w ≡ w
    → StopsAmong (opening_where used o ++ behind) answer w (with_part o.part n w)
where_stops true o behind answer w n stops sees stays = part_stops o behind answer w n stops.1 sees stays
where_stops false o behind answer w n stops sees stays = let on = stops.0 in absurd (cc)

pub where_opened : (used : Bool) (o : Opening) (w : World) (n : Object) → n ≡ opened_where used o.place (part_in w o.part) → with_part o.part (part_in w o.part) w ≡ w → with_part o.part n w ≡ opened_all w (opening_where used o)
where_opened true o w n is stays = ap (λ x. with_part o.part x w) is
where_opened false o w n is stays = ap (λ x. with_part o.part x w) is ∙ stays

-- with Graphite at the empty name all are
pub empty_places : back_places (File []) ≡ (λ b. File [])
empty_places = fun_ext same where
  same : (b : Backend) → back_places (File []) b ≡ File []
  same Graphite = refl
  same b = refl

-- a world with these backends, of which these are used
abbrev pub with_backs : World → (Backend → Bool) → (Backend → Object) → World
with_backs w used backs = record w { seen = record w.seen { backs = backs }; uses = used }

-- The backends of a world, each at its place.
module _ (places : Backend → Place) where
  abbrev at_place : Backend → Opening
  at_place b = record { part = OfBackend b; place = places b }

  -- what is opened of these, where they are used
  abbrev openings_of : (Backend → Bool) → List Backend → List Opening
  openings_of used bs = flat_map (λ b. opening_where (used b) (at_place b)) bs

  unchanged : (w : World) (b : Backend) → with_part (OfBackend b) (part_in w (OfBackend b)) w ≡ w
  unchanged w b = ap (λ backs. with_backs w w.uses backs) (with_one_same b w.seen.backs)

  -- they are opened
  backs_opened : (bs : List Backend) (w : World) (new : Backend → Object) → Done (OpensWhere w.uses places) bs w.seen.backs new → with_backs w w.uses new ≡ opened_all w (openings_of w.uses bs)
  backs_opened [] w new h = ap (λ backs. with_backs w w.uses backs) h
  backs_opened (b ∷ bs) w new (x, is, rest) =
      let mid = with_part (OfBackend b) x w in
      opened_behind (opening_where (w.uses b) (at_place b)) (openings_of w.uses bs) w mid (with_backs w w.uses new)
      (where_opened (w.uses b) (at_place b) w x is (unchanged w b)) (backs_opened bs mid new rest)

  -- one of them isn't
  backs_stop : (bs : List Backend) (answer : Answer) (w : World) (new : Backend → Object) → StopsAt (OpensWhere w.uses places) (λ b o n. WhereStops (w.uses b) (OfBackend b) answer o n) bs w.seen.backs new
      → StopsAmong (openings_of w.uses bs) answer w (with_backs w w.uses new)
  backs_stop [] answer w new h = absurd h
  backs_stop (b ∷ bs) answer w new (inl (x, stops, is)) =
      subst (λ backs. StopsAmong (openings_of w.uses (b ∷ bs)) answer w (with_backs w w.uses backs)) (sym is)
      (where_stops (w.uses b) (at_place b) (openings_of w.uses bs) answer w x stops (with_one_at b x w.seen.backs) (unchanged w b))
  backs_stop (b ∷ bs) answer w new (inr (x, is, rest)) =
      let mid = with_part (OfBackend b) x w in
      stops_behind (opening_where (w.uses b) (at_place b)) (openings_of w.uses bs) answer w mid (with_backs w w.uses new)
      (where_opened (w.uses b) (at_place b) w x is (unchanged w b)) (backs_stop bs answer mid new rest)

-- The same of places and of uses that are known to be these.
module _ (s : Settings) (places at : Backend → Place) (are : at ≡ places) (w : World) (by : w.uses ≡ is_used s) (used : Backend → Bool) (kept : used ≡ w.uses) (new : Backend → Object) where
  pub backs_opened_at : AreOpened w.uses at w.seen.backs new → with_backs w used new ≡ opened_all w (backend_openings s places)
  backs_opened_at h = ap (λ u. with_backs w u new) kept ∙ backs_opened at backends w new h ∙ ap (opened_all w) (λ i. openings_of (are i) (by i) backends)

  pub backs_stop_at : (answer : Answer) → BackStops w.uses at answer w.seen.backs new → StopsAmong (backend_openings s places) answer w (with_backs w used new)
  backs_stop_at answer h =
      subst (λ u. StopsAmong (backend_openings s places) answer w (with_backs w u new)) (sym kept)
      (subst (λ os. StopsAmong os answer w (with_backs w w.uses new)) (λ i. openings_of (are i) (by i) backends) (backs_stop at backends answer w new h))

-- What is seen of backends that were opened.
module _ {B : Type 0} (seen : B → Object) (places : Backend → Place) where
  abbrev pub objects_of : (Backend → Back B) → Backend → Object
  objects_of each b = seen (each b).object

  abbrev uses_of : (Backend → Back B) → Backend → Bool
  uses_of each b = (each b).is_used

  -- with one that was opened, the same are used
  still_used : (used : Backend → Bool) (b : Backend) (x : Back B) (old : Backend → Back B) → used ≡ (λ c. (old c).is_used) → x.is_used ≡ (old b).is_used → used ≡ (λ c. (with_one b x old c).is_used)
  still_used used b x old are same = are ∙ fun_ext (each_with_one (λ c y. (old c).is_used ≡ y.is_used) b x old (sym same) (λ c. refl))

  pub done_seen : (bs : List Backend) (used : Backend → Bool) (old new : Backend → Back B) → used ≡ (λ c. (old c).is_used) → Done (OpensBack seen places) bs old new
      → Done (OpensWhere used places) bs (objects_of old) (objects_of new) × (used ≡ (λ c. (new c).is_used))
  done_seen [] used old new are h = (ap objects_of h, are ∙ ap uses_of (sym h))
  done_seen (b ∷ bs) used old new are (x, (same, opened_so), rest) =
      let more = done_seen bs used (with_one b x old) new (still_used used b x old are same) rest in
      ((seen x.object, subst (λ u. seen x.object ≡ opened_where (u b) (places b) (seen (old b).object)) (sym are) opened_so, subst (λ objects. Done (OpensWhere used places) bs objects (objects_of new)) (map_with_one (λ y. seen y.object) b x old) more.0), more.1)

  pub stops_seen : (answer : Answer) (bs : List Backend) (used : Backend → Bool) (old new : Backend → Back B) → used ≡ (λ c. (old c).is_used) → StopsAt (OpensBack seen places) (FailsBack seen places answer) bs old new
      → StopsAt (OpensWhere used places) (λ b o n. WhereStops (used b) (OfBackend b) answer o n) bs (objects_of old) (objects_of new) × (used ≡ (λ c. (new c).is_used))
  stops_seen answer [] used old new are h = absurd h
  stops_seen answer (b ∷ bs) used old new are (inl (x, (same, stops), is)) = (
    inl (seen x.object, subst (λ u. WhereStops (u b) (OfBackend b) answer (seen (old b).object) (seen x.object)) (sym are) stops, ap objects_of is ∙ map_with_one (λ y. seen y.object) b x old),
    still_used used b x old are same ∙ ap uses_of (sym is),
  )
  stops_seen answer (b ∷ bs) used old new are (inr (x, (same, opened_so), rest)) =
      let more = stops_seen answer bs used (with_one b x old) new (still_used used b x old are same) rest in (
        inr (
          seen x.object,
          subst (λ u. seen x.object ≡ opened_where (u b) (places b) (seen (old b).object)) (sym are) opened_so,
          subst (λ objects. StopsAt (OpensWhere used places) (λ b o n. WhereStops (used b) (OfBackend b) answer o n) bs objects (objects_of new)) (map_with_one (λ y. seen y.object) b x old) more.0,
        ),
        more.1,
      )

-- an object that is opened where it is used has the turns of before, and is out where it was
pub where_kept : (used : Bool) (place : Place) (o n : Object) → n ≡ (if used then opened place o else o) → (n.is_out ≡ o.is_out) × (n.turns ≡ o.turns)
where_kept true place o n is = (ap (λ (x : Object). x.is_out) is, ap (λ (x : Object). x.turns) is)
where_kept false place o n is = (ap (λ (x : Object). x.is_out) is, ap (λ (x : Object). x.turns) is)
