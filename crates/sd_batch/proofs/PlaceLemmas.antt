-- Samples at places, as a batch grows.
use Rattle.std.proofs.Common.{◌≡◌, ◌≢◌, ℕ, ◌+◌, ◌<◌, ◌≤◌, ◌⊎◌, inl, inr, Bool, true, false, cond, eqb, List, [], ◌∷◌, ◌++◌, length, take, get_or, set, vec_capacity, refl, sym, ap, subst, ◌∙◌, append-nil, arith}
use Rattle.std.specs.declared.alloc.Global.{Global}
use Rattle.std.specs.declared.vec.Vec.{Vec}
use Rattle.std.proofs.lemmas.Bool.{cases_eq, eq-eqb, ne_eqb}
use Rattle.std.proofs.lemmas.List.{get_or-set_other, get_or-set_same, length-map, length-set, length-take-le, map-append, take-set, take_more_set}
use Rattle.std.proofs.lemmas.List.Elements.{filter-append}
use Rattle.sd_model_text.specs.Names.{shard}
use Rattle.sd_model_text.specs.Lines.{Sample}
use Rattle.sd_model_shard.specs.History.{part_of}
use Rattle.sd_batch.specs.Places.{at_places, no_sample, places_at, AreBelow, AreEmpty, HaveRoom}
use Rattle.sd_batch.specs.Batch.{Waiting}
use Rattle.sd_batch.specs.Inside.{IsBatch, IsOf, waiting_in}
use Rattle.sd_batch.specs.declared.batch.Batch.TheInside.{Inside}
use Rattle.sd_batch.proofs.ListLemmas.{All-at, All-push, All-put, places_at-here, places_at-is, places_at-other}

-- a sample is put at a place behind these
pub at_places-set : (samples : List Sample) (n : ℕ) (s : Sample) (places : List ℕ) → AreBelow n places → at_places (set samples n s) places ≡ at_places samples places
at_places-set samples n s [] below = refl
at_places-set samples n s (p ∷ places) below =
    let here : get_or (set samples n s) p no_sample ≡ get_or samples p no_sample = get_or-set_other samples n p s no_sample (λ is. omega (arith, is, below.0)) in
    let rest = at_places-set samples n s places below.1 in
    λ k. here k ∷ rest k

pub AreBelow-more : (n m : ℕ) (places : List ℕ) → n ≤ m → AreBelow n places → AreBelow m places
AreBelow-more n m [] up below = tt
AreBelow-more n m (p ∷ places) up below = (omega (arith, below.0, up), AreBelow-more n m places up below.1)

module _ (shards n : ℕ) (samples : List Sample) (s : Sample) (room : n < length samples) where
  pub IsOf-set : (home : ℕ) (places : List ℕ) → IsOf shards n samples home places → IsOf shards n (set samples n s) home places
  IsOf-set home places is = record {
    below = is.below;
    own = at_places-set samples n s places is.below ∙ is.own ∙ ap (part_of (λ (s : Sample). shard s.key shards) home) (sym (take-set samples n s));
  }

  -- what one more has of a shard
  more : (home : ℕ) → part_of (λ (s : Sample). shard s.key shards) home (take (n + 1) (set samples n s))
      ≡ part_of (λ (s : Sample). shard s.key shards) home (take n samples) ++ cond (eqb home (shard s.key shards)) (s ∷ []) []
  more home =
      ap (part_of (λ (s : Sample). shard s.key shards) home) (take_more_set samples n s room)
      ∙ filter-append (λ (s : Sample). eqb home (shard s.key shards)) (take n samples) (s ∷ [])
      ∙ refl

  pub IsOf-here : (home : ℕ) (places : List ℕ) → home ≡ shard s.key shards → IsOf shards n samples home places → IsOf shards (n + 1) (set samples n s) home (places ++ n ∷ [])
  IsOf-here home places at is = record {
    below = All-push (λ place. place < n + 1) places n (AreBelow-more n (n + 1) places (omega arith) is.below) (omega arith);
    own =
        map-append (λ place. get_or (set samples n s) place no_sample) places (n ∷ [])
        ∙ ap (λ (l : List Sample). l ++ get_or (set samples n s) n no_sample ∷ []) (at_places-set samples n s places is.below ∙ is.own)
        ∙ ap (λ (x : Sample). part_of (λ (s : Sample). shard s.key shards) home (take n samples) ++ x ∷ []) (get_or-set_same samples n s no_sample room)
        ∙ ap (λ (b : Bool). part_of (λ (s : Sample). shard s.key shards) home (take n samples) ++ cond b (s ∷ []) []) (sym (eq-eqb home (shard s.key shards) at))
        ∙ sym (more home);
  }

  pub IsOf-other : (home : ℕ) (places : List ℕ) → home ≢ shard s.key shards → IsOf shards n samples home places → IsOf shards (n + 1) (set samples n s) home places
  IsOf-other home places away is = record {
    below = AreBelow-more n (n + 1) places (omega arith) is.below;
    own =
        at_places-set samples n s places is.below ∙ is.own
        ∙ sym (append-nil (part_of (λ (s : Sample). shard s.key shards) home (take n samples)))
        ∙ ap (λ (b : Bool). part_of (λ (s : Sample). shard s.key shards) home (take n samples) ++ cond b (s ∷ []) []) (sym (ne_eqb home (shard s.key shards) away))
        ∙ sym (more home);
  }

-- a batch into whose first free place a sample was put
module _ (b t : Inside) (are : IsBatch b) (s : Sample) (room : b.waiting < length b.samples.items) (samples : t.samples.items ≡ set b.samples.items b.waiting s) (shards : t.shards ≡ b.shards) where
  as_long : length t.samples.items ≡ length b.samples.items
  as_long = ap length samples ∙ length-set b.samples.items b.waiting s

  -- it doesn't wait yet
  pub kept : t.waiting ≡ b.waiting → t.places.items ≡ b.places.items → IsBatch t
  kept waiting places = record {
    some = omega (arith, are.some, shards);
    waiting = omega (arith, are.waiting, waiting, as_long);
    few = omega (arith, are.few, as_long);
    lists = ap length places ∙ are.lists ∙ sym shards;
    rooms = subst (λ n. HaveRoom n t.places.items) (sym as_long) (subst (HaveRoom (length b.samples.items)) (sym places) are.rooms);
    each = λ home below.
        subst (λ lists. IsOf t.shards t.waiting t.samples.items home (places_at lists home)) (sym places)
        (subst (λ xs. IsOf t.shards t.waiting xs home (places_at b.places.items home)) (sym samples)
        (subst (λ n. IsOf t.shards n (set b.samples.items b.waiting s) home (places_at b.places.items home)) (sym waiting)
        (subst (λ n. IsOf n b.waiting (set b.samples.items b.waiting s) home (places_at b.places.items home)) (sym shards)
        (IsOf-set b.shards b.waiting b.samples.items s room home (places_at b.places.items home) (are.each home (omega (arith, below, shards)))))));
  }

  pub kept_view : t.waiting ≡ b.waiting → waiting_in t ≡ waiting_in b
  kept_view waiting =
      let items : take t.waiting t.samples.items ≡ take b.waiting b.samples.items =
      (λ k. take (waiting k) (samples k)) ∙ take-set b.samples.items b.waiting s in
      λ k. record { shards = shards k; room = as_long k; items = items k }

  -- it waits at its shard
  module _ (home : ℕ) (list list_now : Vec ℕ Global) (waiting : t.waiting ≡ b.waiting + 1) (at : home ≡ shard s.key b.shards) (below_home : home < b.shards)
      (was : places_at b.places.items home ≡ list.items) (is : t.places.items ≡ set b.places.items home list_now) (pushed : list_now.items ≡ list.items ++ b.waiting ∷ []) (capacity : length b.samples.items ≤ vec_capacity list_now) where
    here : places_at t.places.items home ≡ places_at b.places.items home ++ b.waiting ∷ []
    here =
        ap (λ lists. places_at lists home) is ∙ places_at-here b.places.items home list_now (omega (arith, below_home, are.lists))
        ∙ pushed ∙ ap (λ (l : List ℕ). l ++ b.waiting ∷ []) (sym was)

    abbrev Now : ℕ → List ℕ → Type 0
    Now i places = IsOf b.shards (b.waiting + 1) (set b.samples.items b.waiting s) i places

    of_each : (i : ℕ) → i < b.shards → (i ≡ home) ⊎ (i ≡ home → ⊥) → Now i (places_at t.places.items i)
    of_each i below (inl same) =
        subst (λ j. Now j (places_at t.places.items j)) (sym same)
        (subst (Now home) (sym here) (IsOf-here b.shards b.waiting b.samples.items s room home (places_at b.places.items home) at (are.each home below_home)))
    of_each i below (inr other) =
        subst (Now i) (sym (ap (λ lists. places_at lists i) is ∙ places_at-other b.places.items home i list_now other))
        (IsOf-other b.shards b.waiting b.samples.items s room i (places_at b.places.items i) (λ away. other (away ∙ sym at)) (are.each i below))

    pub joined : IsBatch t
    joined = record {
      some = omega (arith, are.some, shards);
      waiting = omega (arith, room, waiting, as_long);
      few = omega (arith, are.few, as_long);
      lists = ap length is ∙ length-set b.places.items home list_now ∙ are.lists ∙ sym shards;
      rooms = subst (λ n. HaveRoom n t.places.items) (sym as_long) (subst (HaveRoom (length b.samples.items)) (sym is)
          (All-put (λ (l : Vec ℕ Global). length b.samples.items ≤ vec_capacity l) b.places.items home list_now are.rooms capacity));
      each = λ i below.
          subst (λ n. IsOf n t.waiting t.samples.items i (places_at t.places.items i)) (sym shards)
          (subst (λ n. IsOf b.shards n t.samples.items i (places_at t.places.items i)) (sym waiting)
          (subst (λ xs. IsOf b.shards (b.waiting + 1) xs i (places_at t.places.items i)) (sym samples)
          (of_each i (omega (arith, below, shards)) (cases_eq i home))));
    }

    pub joined_view : waiting_in t ≡ record (waiting_in b) { items = (waiting_in b).items ++ s ∷ [] }
    joined_view =
        let items : take t.waiting t.samples.items ≡ take b.waiting b.samples.items ++ s ∷ [] =
        (λ k. take (waiting k) (samples k)) ∙ take_more_set b.samples.items b.waiting s room in
        λ k. record { shards = shards k; room = as_long k; items = items k }

pub length-part : (shards home : ℕ) (xs : List Sample) → length (part_of (λ (s : Sample). shard s.key shards) home xs) ≤ length xs
length-part shards home [] = omega arith
length-part shards home (s ∷ xs) = by_test (eqb home (shard s.key shards)) (length-part shards home xs) where
  by_test : (b : Bool) → length (part_of (λ (s : Sample). shard s.key shards) home xs) ≤ length xs
      → length (cond b (s ∷ part_of (λ (s : Sample). shard s.key shards) home xs) (part_of (λ (s : Sample). shard s.key shards) home xs)) ≤ length (s ∷ xs)
  by_test true rest = omega (arith, rest)
  by_test false rest = omega (arith, rest)

module _ (b : Inside) (are : IsBatch b) where
  pub waiting_long : length (take b.waiting b.samples.items) ≡ b.waiting
  waiting_long = length-take-le b.waiting b.samples.items are.waiting

  -- there is room for one more
  pub is_free : (w : Waiting) → waiting_in b ≡ w → length w.items < w.room → b.waiting < length b.samples.items
  is_free w is room =
      let free : length (waiting_in b).items < (waiting_in b).room = subst (λ (v : Waiting). length v.items < v.room) (sym is) room in
      omega (arith, free, waiting_long)

  -- the list of a shard
  module _ (home : ℕ) (below : home < b.shards) (list : Vec ℕ Global) (is : list ≡ get_or b.places.items home list) where
    there : home < length b.places.items
    there = omega (arith, below, are.lists)

    pub list_is : places_at b.places.items home ≡ list.items
    list_is = places_at-is b.places.items home list there is

    pub list_room : length b.samples.items ≤ vec_capacity list
    list_room = subst (λ (l : Vec ℕ Global). length b.samples.items ≤ vec_capacity l) (sym is) (All-at (λ (l : Vec ℕ Global). length b.samples.items ≤ vec_capacity l) b.places.items home list are.rooms there)

    list_of : IsOf b.shards b.waiting b.samples.items home list.items
    list_of = subst (IsOf b.shards b.waiting b.samples.items home) list_is (are.each home below)

    pub list_free : b.waiting < length b.samples.items → length list.items < vec_capacity list
    list_free room =
        let of = list_of in
        let long : length list.items ≡ length (part_of (λ (s : Sample). shard s.key b.shards) home (take b.waiting b.samples.items)) =
        sym (length-map list.items (λ place. get_or b.samples.items place no_sample)) ∙ ap length of.own in
        omega (arith, long, length-part b.shards home (take b.waiting b.samples.items), waiting_long, room, list_room)

    pub run_below : AreBelow (length b.samples.items) list.items
    run_below = AreBelow-more b.waiting (length b.samples.items) list.items are.waiting list_of.below

    pub run_is : at_places b.samples.items list.items ≡ part_of (λ (s : Sample). shard s.key b.shards) home (take b.waiting b.samples.items)
    run_is = list_of.own

-- none waits any more
pub cleared : (b t : Inside) → IsBatch b → t.shards ≡ b.shards → t.waiting ≡ 0 → t.samples ≡ b.samples → length t.places.items ≡ length b.places.items → AreEmpty t.places.items → HaveRoom (length b.samples.items) t.places.items → IsBatch t
cleared b t are shards waiting samples long empty rooms =
    let items = ap (λ (v : Vec Sample Global). v.items) samples in
    record {
      some = omega (arith, are.some, shards);
      waiting = omega (arith, waiting);
      few = omega (arith, are.few, ap length items);
      lists = long ∙ are.lists ∙ sym shards;
      rooms = subst (λ n. HaveRoom n t.places.items) (sym (ap length items)) rooms;
      each = λ home below.
          subst (λ places. IsOf t.shards t.waiting t.samples.items home places) (sym (empty home))
          (subst (λ n. IsOf t.shards n t.samples.items home []) (sym waiting) (record { below = tt; own = refl }));
    }
