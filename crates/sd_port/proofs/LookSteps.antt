-- Looks of a thread, one behind another.
use Rattle.std.proofs.Common.{◌≡◌, ◌∙◌, ℕ, List, [], ◌∷◌, ◌++◌, append-nil, append_assoc, map, refl, sym, ap}
use Rattle.std.specs.Prelude.{None, Some, slice_get}
use Rattle.std.specs.List.{last_or}
use Rattle.std.proofs.lemmas.List.{map-append}
use Rattle.sd_live.specs.Looks.{Begins, last_place}
use Rattle.sd_live.proofs.LookLemmas.{answered_more, begun, last_at, none_answered, one_answered}
use Rattle.sd_port.specs.Doing.{LooksFor}

-- what looks were told stands where the history went on
reported_on : (mid now : List ℕ) → Begins mid now → (places ups : List ℕ) → map (λ p. slice_get mid p) places ≡ map (λ up. Some up) ups → map (λ p. slice_get now p) places ≡ map (λ up. Some up) ups
reported_on mid now goes_on [] [] reported = refl
reported_on mid now goes_on [] (up ∷ ups) reported = absurd (cc)
reported_on mid now goes_on (p ∷ places) [] reported = absurd (cc)
reported_on mid now goes_on (p ∷ places) (up ∷ ups) reported =
    let first : slice_get mid p ≡ Some up = cc in
    let rest : map (λ p. slice_get mid p) places ≡ map (λ up. Some up) ups = cc in
    λ i. begun mid now goes_on p up first i ∷ reported_on mid now goes_on places ups rest i

-- no look
pub looks-none : (history looks : List ℕ) → LooksFor history history looks looks []
looks-none history looks = record { places = []; made = sym (append-nil looks); reported = refl; answered = none_answered history }

-- one look
pub looks-one : (history now looks looks_now : List ℕ) (up : ℕ) → Begins history now → last_or None now ≡ Some up → looks_now ≡ looks ++ last_place now ∷ [] → LooksFor history now looks looks_now (up ∷ [])
looks-one history now looks looks_now up goes_on last one = record {
  places = last_place now ∷ [];
  made = one;
  reported = ap (λ o. o ∷ []) (last_at up now last);
  answered = one_answered history now up goes_on last;
}

-- looks behind looks
pub looks-more : (history mid now looks looks_mid looks_now ups more : List ℕ) → LooksFor history mid looks looks_mid ups → LooksFor mid now looks_mid looks_now more → LooksFor history now looks looks_now (ups ++ more)
looks-more history mid now looks looks_mid looks_now ups more h g = record {
  places = h.places ++ g.places;
  made = g.made ∙ ap (λ (l : List ℕ). l ++ g.places) h.made ∙ append_assoc looks h.places g.places;
  reported = map-append (λ p. slice_get now p) h.places g.places ∙ (λ i. reported_on mid now g.answered.goes_on h.places ups h.reported i ++ g.reported i) ∙ sym (map-append (λ (up : ℕ). Some up) ups more);
  answered = answered_more history mid now ups more h.answered g.answered;
}
