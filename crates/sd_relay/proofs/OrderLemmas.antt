-- Looks of several receivers at one history of sets stand in one order of steps.
use Rattle.std.proofs.Common.{◌≡◌, ◌≢◌, ℕ, zero, suc, ◌+◌, ◌<◌, ◌≤◌, ◌==◌, Bool, true, false, List, [], ◌∷◌, ◌++◌, length, map, Some, refl, sym, ap, subst, ◌∙◌, arith, append-nil, eq-eqb, ne_eqb}
use Rattle.std.specs.Prelude.{slice_get, if◌then◌else◌}
use Rattle.std.specs.List.{AllByRecursion}
use Rattle.sd_model_settings.specs.Entries.{Node}
use Rattle.sd_model_proxy.specs.Routes.{Read}
use Rattle.sd_model_proxy.specs.Relays.{Relay}
use Rattle.sd_model_live.specs.Proxy.{AreCurrent, AreReported, SetStep, Published, Looked, all_of, published_in, reported_to}
use Rattle.sd_relay.specs.Looked.{LookedIn}
use Rattle.sd_live.specs.Looks.{NeverFall}

-- all of these sets are this one
abbrev Same : ℕ → List ℕ → Type 0
Same last ups = AllByRecursion (λ up. up ≡ last) ups

-- looks between publications: the first of them were told the set that was last, and the others those behind it
abbrev Between : (last : ℕ) → (pubs ups : List ℕ) → Type 0
Between last [] ups = Same last ups
Between last (p ∷ pubs) ups = (now : List ℕ) × (later : List ℕ) × (ups ≡ now ++ later) × Same last now × Between p pubs later

-- the looks that were told the first set of a history, and those behind them
record Split (first : ℕ) (history ups : List ℕ) (to : ℕ) : Type 0 where
  now : List ℕ
  later : List ℕ
  both : ups ≡ now ++ later
  same : Same first now
  rest : NeverFall 0 history to later

-- places behind the first set, counted without it
shifted : (k to first : ℕ) (history ups : List ℕ) → NeverFall (suc k) (first ∷ history) to ups → NeverFall k history to ups
shifted k to first history [] n = omega (arith, n)
shifted k to first history (up ∷ ups) n = at n.0 n.1 n.2 n.3 (λ j m. shifted j to first history ups m) where
  at : (j : ℕ) → suc k ≤ j → slice_get (first ∷ history) j ≡ Some up → NeverFall j (first ∷ history) to ups → ((i : ℕ) → NeverFall (suc i) (first ∷ history) to ups → NeverFall i history to ups) → NeverFall k history to (up ∷ ups)
  at zero less here rest again = absurd (omega (arith, less))
  at (suc j) less here rest again = (j, omega (arith, less), here, again j rest)

split : (from to first : ℕ) (history ups : List ℕ) → NeverFall from (first ∷ history) to ups → Split first history ups to
split from to first history [] n = record { now = []; later = []; both = refl; same = tt; rest = omega arith }
split from to first history (up ∷ ups) n = at n.0 n.2 n.3 (split n.0 to first history ups n.3) where
  at : (j : ℕ) → slice_get (first ∷ history) j ≡ Some up → NeverFall j (first ∷ history) to ups → Split first history ups to → Split first history (up ∷ ups) to
  at zero here rest s = let is : up ≡ first = cc in record { now = up ∷ s.now; later = s.later; both = ap (λ l. up ∷ l) s.both; same = (is, s.same); rest = s.rest }
  at (suc j) here rest s = record { now = []; later = up ∷ ups; both = refl; same = tt; rest = (j, omega arith, here, shifted j to first history ups rest) }

-- looks at a history of one set
all_same : (first from to : ℕ) (ups : List ℕ) → NeverFall from (first ∷ []) to ups → Same first ups
all_same first from to [] n = tt
all_same first from to (up ∷ ups) n = (at n.0 n.2, all_same first n.0 to ups n.3) where
  at : (j : ℕ) → slice_get (first ∷ []) j ≡ Some up → up ≡ first
  at zero here = cc
  at (suc j) here = absurd (cc)

-- looks whose places never fall stand between the publications
between : (last : ℕ) (pubs : List ℕ) (from to : ℕ) (ups : List ℕ) → NeverFall from (last ∷ pubs) to ups → Between last pubs ups
between last [] from to ups n = all_same last from to ups n
between last (p ∷ pubs) from to ups n = let s = split from to last (p ∷ pubs) ups n in (s.now, s.later, s.both, s.same, between p pubs 0 to s.later s.rest)

-- a receiver's looks that were told these sets
abbrev looks : ℕ → List ℕ → List SetStep
looks who ups = map (λ up. Looked who up) ups

published_behind : (who : ℕ) (ups : List ℕ) (steps : List SetStep) → published_in (looks who ups ++ steps) ≡ published_in steps
published_behind who [] steps = refl
published_behind who (up ∷ ups) steps = published_behind who ups steps

current_behind : (who last : ℕ) (ups : List ℕ) (steps : List SetStep) → Same last ups → AreCurrent last steps → AreCurrent last (looks who ups ++ steps)
current_behind who last [] steps same rest = rest
current_behind who last (up ∷ ups) steps same rest = (same.0, current_behind who last ups steps same.1 rest)

reported_behind : (who : ℕ) (ups : List ℕ) (steps : List SetStep) → reported_to who (looks who ups ++ steps) ≡ ups ++ reported_to who steps
reported_behind who [] steps = refl
reported_behind who (up ∷ ups) steps =
    ap (λ b. if b then up ∷ reported_to who (looks who ups ++ steps) else reported_to who (looks who ups ++ steps)) (eq-eqb who who refl) ∙ ap (λ l. up ∷ l) (reported_behind who ups steps)

others_behind : (who other : ℕ) → who ≢ other → (ups : List ℕ) (steps : List SetStep) → reported_to other (looks who ups ++ steps) ≡ reported_to other steps
others_behind who other apart [] steps = refl
others_behind who other apart (up ∷ ups) steps =
    ap (λ b. if b then up ∷ reported_to other (looks who ups ++ steps) else reported_to other (looks who ups ++ steps)) (ne_eqb who other apart) ∙ others_behind who other apart ups steps

-- a look that adds nothing to what a receiver was told is another's
not_mine : (b : Bool) (up : ℕ) (reported : List ℕ) → (if b then up ∷ reported else reported) ≡ [] → (b ≡ false) × (reported ≡ [])
not_mine true up reported none = absurd (cc)
not_mine false up reported none = (refl, none)

-- steps with the looks of one receiver more
record Woven (who last : ℕ) (steps : List SetStep) (ups : List ℕ) : Type 0 where
  now : List SetStep
  published : published_in now ≡ published_in steps
  current : AreCurrent last now
  mine : reported_to who now ≡ ups
  others : (m : ℕ) → who ≢ m → reported_to m now ≡ reported_to m steps

woven : (who last : ℕ) (steps : List SetStep) (ups : List ℕ) → AreCurrent last steps → reported_to who steps ≡ [] → Between last (published_in steps) ups → Woven who last steps ups
woven who last [] ups current none b = record {
  now = looks who ups ++ [];
  published = published_behind who ups [];
  current = current_behind who last ups [] b tt;
  mine = reported_behind who ups [] ∙ append-nil ups;
  others = λ m apart. others_behind who m apart ups [];
}
woven who last (Published up ∷ steps) ups current none b =
    let w = woven who up steps b.1 current none b.4 in
    record {
      now = looks who b.0 ++ Published up ∷ w.now;
      published = published_behind who b.0 (Published up ∷ w.now) ∙ ap (λ l. up ∷ l) w.published;
      current = current_behind who last b.0 (Published up ∷ w.now) b.3 w.current;
      mine = reported_behind who b.0 (Published up ∷ w.now) ∙ ap (λ l. b.0 ++ l) w.mine ∙ sym b.2;
      others = λ m apart. others_behind who m apart b.0 (Published up ∷ w.now) ∙ w.others m apart;
    }
woven who last (Looked other up ∷ steps) ups current none b =
    let a = not_mine (other == who) up (reported_to who steps) none in
    let w = woven who last steps ups current.1 a.1 b in
    record {
      now = Looked other up ∷ w.now;
      published = w.published;
      current = (current.0, w.current);
      mine = ap (λ c. if c then up ∷ reported_to who w.now else reported_to who w.now) a.0 ∙ w.mine;
      others = λ m apart. ap (λ l. if other == m then up ∷ l else l) (w.others m apart);
    }

-- what receivers behind a number were told stays where their looks do
reported_on : (from : ℕ) (relays : List Relay) (steps now : List SetStep) → ((m : ℕ) → from ≤ m → reported_to m now ≡ reported_to m steps) → AreReported from relays steps → AreReported from relays now
reported_on from [] steps now same reported = tt
reported_on from (r ∷ relays) steps now same reported = (same from (omega arith) ∙ reported.0, reported_on (from + 1) relays steps now (λ m le. same m (omega (arith, le))) reported.1)

published_all : (pubs : List ℕ) → published_in (map (λ up. Published up) pubs) ≡ pubs
published_all [] = refl
published_all (up ∷ pubs) = ap (λ l. up ∷ l) (published_all pubs)

current_all : (last : ℕ) (pubs : List ℕ) → AreCurrent last (map (λ up. Published up) pubs)
current_all last [] = tt
current_all last (up ∷ pubs) = current_all up pubs

reported_none : (who : ℕ) (pubs : List ℕ) → reported_to who (map (λ up. Published up) pubs) ≡ []
reported_none who [] = refl
reported_none who (up ∷ pubs) = reported_none who pubs

-- the sets under which a receiver routed its datagrams
abbrev ups_of : Relay → List ℕ
ups_of r = map (λ (x : Read). x.up) r.reads

-- the publications and the looks of receivers, numbered from this number on, in one order
pub record InOneOrder (first : ℕ) (pubs : List ℕ) (from : ℕ) (relays : List Relay) : Type 0 where
  pub steps : List SetStep
  pub published : published_in steps ≡ pubs
  pub current : AreCurrent first steps
  pub reported : AreReported from relays steps
  pub none : (who : ℕ) → who < from → reported_to who steps ≡ []

in_order : (first : ℕ) (pubs : List ℕ) (from : ℕ) (relays : List Relay) → AllByRecursion (λ (r : Relay). Between first pubs (ups_of r)) relays → InOneOrder first pubs from relays
in_order first pubs from [] all = record { steps = map (λ up. Published up) pubs; published = published_all pubs; current = current_all first pubs; reported = tt; none = λ who below. reported_none who pubs }
in_order first pubs from (r ∷ relays) all =
    let o = in_order first pubs (from + 1) relays all.1 in
    let w = woven from first o.steps (ups_of r) o.current (o.none from (omega arith)) (subst (λ (l : List ℕ). Between first l (ups_of r)) (sym o.published) all.0) in
    record {
      steps = w.now;
      published = w.published ∙ o.published;
      current = w.current;
      reported = (w.mine, reported_on (from + 1) relays o.steps w.now (λ m le. w.others m (omega (arith, le))) o.reported);
      none = λ who below. w.others who (omega (arith, below)) ∙ o.none who (omega (arith, below));
    }

each_between : (nodes : List Node) (pubs : List ℕ) (relays : List Relay) → AllByRecursion (LookedIn nodes (all_of (length nodes) ∷ pubs)) relays → AllByRecursion (λ (r : Relay). Between (all_of (length nodes)) pubs (ups_of r)) relays
each_between nodes pubs [] looked = tt
each_between nodes pubs (r ∷ relays) looked = (between (all_of (length nodes)) pubs _ _ (ups_of r) looked.0.never_fall, each_between nodes pubs relays looked.1)

-- receivers that looked at one history, which these sets went on, did so in one order of steps
pub one_order : (nodes : List Node) (history pubs : List ℕ) (relays : List Relay) → history ≡ all_of (length nodes) ∷ pubs → AllByRecursion (LookedIn nodes history) relays → InOneOrder (all_of (length nodes)) pubs 0 relays
one_order nodes history pubs relays is looked =
    in_order (all_of (length nodes)) pubs 0 relays (each_between nodes pubs relays (subst (λ (h : List ℕ). AllByRecursion (LookedIn nodes h) relays) is looked))
