-- A chain of no entries, and one that gets an entry more.
use Rattle.std.proofs.Common.{◌≡◌, ◌≢◌, ℕ, ◌+◌, ◌<◌, ◌≤◌, inl, inr, List, [], ◌∷◌, ◌++◌, length, get_or, set, replicate, Option, Some, None, refl, sym, ap, subst, ◌∙◌, length-append, arith}
use Rattle.std.proofs.Math.ListN.{get_or-map, get_or-append}
use Rattle.std.proofs.Math.Seq.{get_or-append_seam}
use Rattle.std.proofs.lemmas.Bool.{cases_eq, cases_lt}
use Rattle.std.proofs.lemmas.List.{get_or-set_same, get_or-set_other}
use Rattle.sd_rows.proofs.IndexLemmas.{replicate_at}
use Rattle.sd_epoch.specs.Chain.{IsChain, IsLast, link_of, links_of}
use Rattle.sd_epoch.specs.declared.chain.Link.{Link}

-- the link to none
abbrev pub no_link : Link
no_link = record { 0 = 0 }

-- where each link is to none, no entry is chained
pub unchained : (n : ℕ) (links : List Link) → links ≡ replicate n no_link → IsChain [] (links_of links) []
unchained n links is = record {
  len = refl;
  linked = λ i lt. absurd (omega (arith, lt));
  ends = λ place. subst (IsLast [] 0 place) (sym (ap (λ (ls : List Link). get_or (links_of ls) place None) is ∙ get_or-map link_of (replicate n no_link) place no_link ∙ ap link_of (replicate_at n place no_link))) (λ k lt. absurd (omega (arith, lt)));
}

-- the last entry of a place stays it when an entry is put behind
stays_last : (places : List ℕ) (x n place : ℕ) (o : Option ℕ) → n ≤ length places → IsLast places n place o → IsLast (places ++ x ∷ []) n place o
stays_last places x n place None le h = λ k lt e. h k lt (sym (get_or-append places (x ∷ []) 0 k (omega (arith, lt, le))) ∙ e)
stays_last places x n place (Some i) le h =
    (h.0, get_or-append places (x ∷ []) 0 i (omega (arith, h.0, le)) ∙ h.1, λ k low high e. h.2 k low high (sym (get_or-append places (x ∷ []) 0 k (omega (arith, high, le))) ∙ e))

-- and the one that was put behind names its place alone
is_other : (places : List ℕ) (x k place : ℕ) → x ≢ place → (k < length places → get_or places k 0 ≢ place) → k < length places + 1 → get_or (places ++ x ∷ []) k 0 ≢ place
is_other places x k place ne not lt e = elim (cases_lt k (length places)) [
  | inl within ↦ not within (sym (get_or-append places (x ∷ []) 0 k within) ∙ e)
  | inr behind ↦
      let end : length places ≡ k = omega (arith, lt, behind) in
      ne (sym (get_or-append_seam places x [] 0) ∙ ap (λ n. get_or (places ++ x ∷ []) n 0) end ∙ e)
]

passes : (places : List ℕ) (x place : ℕ) (o : Option ℕ) → x ≢ place → IsLast places (length places) place o → IsLast (places ++ x ∷ []) (length places + 1) place o
passes places x place None ne h = λ k lt. is_other places x k place ne (λ within. h k within) lt
passes places x place (Some i) ne h =
    (omega (arith, h.0), get_or-append places (x ∷ []) 0 i h.0 ∙ h.1, λ k low high. is_other places x k place ne (λ within. h.2 k low within) high)

module _ (places : List ℕ) (last before : List (Option ℕ)) (place : ℕ) (w : IsChain places last before) where
  -- what stands before each entry, the new one among them
  linked_before : (i : ℕ) → i < length places + 1 → IsLast (places ++ place ∷ []) i (get_or (places ++ place ∷ []) i 0) (get_or (before ++ get_or last place None ∷ []) i None)
  linked_before i lt = elim (cases_lt i (length places)) [
    | inl within ↦
        subst (λ p. IsLast (places ++ place ∷ []) i p (get_or (before ++ get_or last place None ∷ []) i None)) (sym (get_or-append places (place ∷ []) 0 i within))
        (subst (IsLast (places ++ place ∷ []) i (get_or places i 0)) (sym (get_or-append before (get_or last place None ∷ []) None i (omega (arith, within, w.len))))
        (stays_last places place i (get_or places i 0) (get_or before i None) (omega (arith, within)) (w.linked i within)))
    | inr behind ↦
        let end : length places ≡ i = omega (arith, lt, behind) in
        let named : get_or (places ++ place ∷ []) i 0 ≡ place = ap (λ n. get_or (places ++ place ∷ []) n 0) (sym end) ∙ get_or-append_seam places place [] 0 in
        let read : get_or (before ++ get_or last place None ∷ []) i None ≡ get_or last place None =
        ap (λ n. get_or (before ++ get_or last place None ∷ []) n None) (sym end ∙ sym w.len) ∙ get_or-append_seam before (get_or last place None) [] None in
        subst (λ p. IsLast (places ++ place ∷ []) i p (get_or (before ++ get_or last place None ∷ []) i None)) (sym named)
        (subst (IsLast (places ++ place ∷ []) i place) (sym read)
        (stays_last places place i place (get_or last place None) (omega (arith, end)) (subst (λ n. IsLast places n place (get_or last place None)) end (w.ends place))))
  ]

  -- the last entry of each place, once the new one is there
  last_now : place < length last → (p : ℕ) → IsLast (places ++ place ∷ []) (length places + 1) p (get_or (set last place (Some (length places))) p None)
  last_now within p = elim (cases_eq p place) [
    | inl same ↦
        subst (λ q. IsLast (places ++ place ∷ []) (length places + 1) q (get_or (set last place (Some (length places))) q None)) (sym same)
        (subst (IsLast (places ++ place ∷ []) (length places + 1) place) (sym (get_or-set_same last place (Some (length places)) None within))
        (omega arith, get_or-append_seam places place [] 0, λ k low high. absurd (omega (arith, low, high))))
    | inr other ↦
        subst (IsLast (places ++ place ∷ []) (length places + 1) p) (sym (get_or-set_other last place p (Some (length places)) None other))
        (passes places place p (get_or last p None) (λ e. other (sym e)) (w.ends p))
  ]

  pub chained : place < length last → IsChain (places ++ place ∷ []) (set last place (Some (length places))) (before ++ get_or last place None ∷ [])
  chained within = record {
    len = omega (arith, length-append before (get_or last place None ∷ []), length-append places (place ∷ []), w.len);
    linked = λ i lt. linked_before i (omega (arith, lt, length-append places (place ∷ [])));
    ends = λ p. subst (λ n. IsLast (places ++ place ∷ []) n p (get_or (set last place (Some (length places))) p None)) (sym (length-append places (place ∷ []))) (last_now within p);
  }
