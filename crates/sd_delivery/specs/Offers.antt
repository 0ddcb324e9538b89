-- Texts that are offered to an outlet, and what becomes of each.
use Rattle.std.specs.Prelude.{◌≡◌, ℕ, ◌<◌, ◌≤◌, ◌^◌, List, [], ◌∷◌, ◌++◌, length, map, flat_map, min, None, Some, IsSome, Result, Ok, Err, ⊤}
use Rattle.sd_model_outside.specs.Outside.{last_count}
use Rattle.sd_outside.specs.Turns.{raised}
use Rattle.sd_outlet.specs.declared.feed.Feed.{Feed}
use Rattle.sd_outlet.specs.declared.outlet.Outlet.{Outlet}
use Rattle.sd_outlet.specs.Feed.{buffers, bytes_of, refusals_of, sends_of, sent, stopped_at}
use Rattle.sd_delivery.specs.declared.outlets.Skip.{Skip}
use Rattle.sd_delivery.specs.declared.outlets.Skip.TheVariants.{Long, Full, Spent}

-- how many sends a feed may make
abbrev pub most_sends : ℕ
most_sends = 2 ^ 61

-- The text isn't longer than a buffer, and the feed may send. Then it was sent, as the next one.
pub record WasQueued (text : List ℕ) (o : Outlet) (old new : Feed) : Type 0 where
  pub fits : length text ≤ bytes_of o
  pub few : sends_of old < most_sends
  pub queued : sent new ≡ sent old ++ text ∷ []
  pub refusals : refusals_of new ≡ refusals_of old
  pub stopped : stopped_at new ≡ stopped_at old

-- The same, but the feed's refusals rose, and nothing was sent. As many texts or more were sent before as there are buffers.
pub record WasRefused (text : List ℕ) (o : Outlet) (old new : Feed) : Type 0 where
  pub fits : length text ≤ bytes_of o
  pub few : sends_of old < most_sends
  pub in_use : buffers o ≤ length (sent old)
  pub same : sent new ≡ sent old
  pub refusals : refusals_of new ≡ raised (refusals_of old)
  pub stopped : stopped_at new ≡ stopped_at old

-- The text is longer than a buffer, by its length up to the last count, and the feed is as it was.
pub record WasLong (len : ℕ) (text : List ℕ) (o : Outlet) (old new : Feed) : Type 0 where
  pub longer : bytes_of o < length text
  pub len_is : len ≡ min (length text) last_count
  pub same : new ≡ old

-- The text isn't longer than a buffer, the feed has made so many sends, which are all that it may, and it is as it was.
pub record WasSpent (sends : ℕ) (text : List ℕ) (o : Outlet) (old new : Feed) : Type 0 where
  pub fits : length text ≤ bytes_of o
  pub all : most_sends ≤ length (sent old)
  pub sends_are : sends ≡ sends_of old
  pub same : new ≡ old

-- what became of a text that was offered to an outlet
abbrev pub AfterOffer : Result ⊤ Skip → List ℕ → Outlet → Feed → Feed → Type 0
AfterOffer (Ok done) text o old new = WasQueued text o old new
AfterOffer (Err (Long len)) text o old new = WasLong len text o old new
AfterOffer (Err Full) text o old new = WasRefused text o old new
AfterOffer (Err (Spent sends)) text o old new = WasSpent sends text o old new

-- a text that was offered, and whether it was sent
pub record Offer : Type 0 where
  pub text : List ℕ
  pub offered : Result ⊤ Skip

-- what became of texts, one after another
abbrev pub AfterOffers : Outlet → List Offer → Feed → Feed → Type 0
AfterOffers o [] old new = new ≡ old
AfterOffers o (f ∷ offers) old new = (mid : Feed) × AfterOffer f.offered f.text o old mid × AfterOffers o offers mid new

-- the text, where it was sent
abbrev pub queued_by : Result ⊤ Skip → List ℕ → List (List ℕ)
queued_by (Ok done) text = text ∷ []
queued_by (Err skip) text = []

-- the texts that were sent, in order
abbrev pub texts_queued : List Offer → List (List ℕ)
texts_queued offers = flat_map (λ f. queued_by f.offered f.text) offers

-- Each of these texts was offered to the outlet, in order.
pub record HasOffered (texts : List (List ℕ)) (o : Outlet) (old new : Feed) : Type 0 where
  pub offers : List Offer
  pub of_texts : map (λ f. f.text) offers ≡ texts
  pub after : AfterOffers o offers old new

-- A feed was stopped, behind what it had sent; its outlet was told of the first stop alone.
pub record WasStopped (old new : Feed) : Type 0 where
  pub is_first : stopped_at old ≡ None → stopped_at new ≡ Some (sends_of new)
  pub is_again : IsSome (stopped_at old) → stopped_at new ≡ stopped_at old
  pub same : sent new ≡ sent old
  pub refusals : refusals_of new ≡ refusals_of old
