-- What the receivers and the reader of lines of posts counted, added up.
use Rattle.std.specs.Prelude.{◌≡◌, ◌+◌, ◌≤◌, ◌^◌, List, [], ◌∷◌, codes, map, Option, Some, None, option_to_list}
use Rattle.sd_model_record.specs.Totals.{Total}
use Rattle.sd_model_proxy.specs.Routes.{no_totals}
use Rattle.sd_proxy_desk.specs.Views.{totals_view}
use Rattle.sd_proxy.specs.declared.lined.Lined.{Lined}
use Rattle.sd_proxy.specs.declared.proxied.Proxied.{Proxied}
use Rattle.sd_proxy_desk.specs.declared.totals.ProxyTotals.{ProxyTotals}
use Rattle.sd_relay.specs.declared.line_post.LinePost.{LinePost}
use Rattle.sd_relay.specs.declared.post.Post.{Post}
use Rattle.sd_relay.specs.declared.sums.ProxySums.{ProxySums}

-- what a receiver counted, if there was one
abbrev pub totals_by : Option Proxied → List Total
totals_by None = no_totals
totals_by (Some got) = totals_view got.totals

module _ {D L : Type 0} where
  -- a post was run
  abbrev pub WasRun : Post D L → Type 0
  WasRun post = (got : Proxied) × (post.got ≡ Some got)

  -- what its receiver counted, where it was run
  abbrev pub totals_in : Post D L → List Total
  totals_in post = totals_by post.got

-- what a reader of lines counted, if it did
abbrev pub totals_by_lines : Option Lined → List Total
totals_by_lines None = no_totals
totals_by_lines (Some got) = totals_view got.totals

module _ {L : Type 0} where
  -- the post of the reader of lines was run
  abbrev pub LineWasRun : LinePost L → Type 0
  LineWasRun post = (got : Lined) × (post.got ≡ Some got)

  -- what the reader of lines counted, if there is one
  abbrev pub line_totals : Option (LinePost L) → List (List Total)
  line_totals post = map (λ p. totals_by_lines p.got) (option_to_list post)

-- sums, as the definitions have them
abbrev pub sums_view : ProxySums → List Total
sums_view s =
    (codes "packets", s.packets)
    ∷ (codes "lines", s.lines)
    ∷ (codes "bad", s.bad)
    ∷ (codes "sent", s.sent)
    ∷ (codes "unowned", s.unowned)
    ∷ (codes "send_faults", s.send_faults)
    ∷ []

-- Each sum has room for one count more.
pub record HasRoom (s : ProxySums) : Type 0 where
  pub packets : s.packets ≤ 2 ^ 127
  pub lines : s.lines ≤ 2 ^ 127
  pub bad : s.bad ≤ 2 ^ 127
  pub sent : s.sent ≤ 2 ^ 127
  pub unowned : s.unowned ≤ 2 ^ 127
  pub send_faults : s.send_faults ≤ 2 ^ 127

-- The totals of one receiver were added.
pub record AddsTotals (t : ProxyTotals) (old new : ProxySums) : Type 0 where
  pub packets : new.packets ≡ old.packets + t.packets
  pub lines : new.lines ≡ old.lines + t.lines
  pub bad : new.bad ≡ old.bad + t.bad
  pub sent : new.sent ≡ old.sent + t.sent
  pub unowned : new.unowned ≡ old.unowned + t.unowned
  pub send_faults : new.send_faults ≡ old.send_faults + t.send_faults

-- Each sum grew by no more than a count can have.
pub record GrowsLittle (old new : ProxySums) : Type 0 where
  pub packets : new.packets ≤ old.packets + 2 ^ 64
  pub lines : new.lines ≤ old.lines + 2 ^ 64
  pub bad : new.bad ≤ old.bad + 2 ^ 64
  pub sent : new.sent ≤ old.sent + 2 ^ 64
  pub unowned : new.unowned ≤ old.unowned + 2 ^ 64
  pub send_faults : new.send_faults ≤ old.send_faults + 2 ^ 64
