-- Sessions that are taken of a door and given back, and the faults that are counted meanwhile.
use Rattle.std.proofs.Common.{◌≡◌, ℕ, ◌+◌, ◌⊎◌, inl, inr, List, [], ◌∷◌, ◌++◌, refl, sym, ap, ◌∙◌, arith, append_assoc, append-nil}
use Rattle.std.specs.List.{AllByRecursion}
use Rattle.sd_model_record.specs.DeskHistory.{DeskCall, AdminFault as FailedSession, Done}
use Rattle.sd_model_record.specs.Totals.{Among, IsKeeperCall}
use Rattle.sd_shared_desk.specs.Counts.{HasCalled, IsLook, Part, HasCounted, nothing, of_sessions, plus}
use Rattle.sd_desk.specs.Sums.{Count, Amounts, TotalPackets, TotalLines, TotalBad, TotalDropped, TakenPackets, TakenLines, TakenBad, TakenDropped, RoundsMade, Faults, RepeaterFaults, AdminFaults}

-- whether it is the count of these faults
is_of_sessions : (c : Count) → ((n : ℕ) → of_sessions n c ≡ n) ⊎ ((n : ℕ) → of_sessions n c ≡ 0)
is_of_sessions TotalPackets = inr (λ n. refl)
is_of_sessions TotalLines = inr (λ n. refl)
is_of_sessions TotalBad = inr (λ n. refl)
is_of_sessions TotalDropped = inr (λ n. refl)
is_of_sessions TakenPackets = inr (λ n. refl)
is_of_sessions TakenLines = inr (λ n. refl)
is_of_sessions TakenBad = inr (λ n. refl)
is_of_sessions TakenDropped = inr (λ n. refl)
is_of_sessions RoundsMade = inr (λ n. refl)
is_of_sessions (Faults b) = inr (λ n. refl)
is_of_sessions RepeaterFaults = inr (λ n. refl)
is_of_sessions AdminFaults = inl (λ n. refl)

sums : (a b : ℕ) (c : Count) → of_sessions (a + b) c ≡ of_sessions a c + of_sessions b c
sums a b c = elim (is_of_sessions c) [
  | inl one ↦ omega (arith, one (a + b), one a, one b)
  | inr none ↦ omega (arith, none (a + b), none a, none b)
]

zero_of : (c : Count) → of_sessions 0 c ≡ 0
zero_of c = elim (is_of_sessions c) [
  | inl one ↦ one 0
  | inr none ↦ none 0
]

-- amounts and no more, in other words
pub plus-nothing : (a : Amounts) → a ≡ plus a nothing
plus-nothing a i c = same c i where
  same : (d : Count) → a d ≡ plus a nothing d
  same d = omega arith

pub plus-assoc : (a b c : Amounts) → plus (plus a b) c ≡ plus a (plus b c)
plus-assoc a b c i d = same d i where
  same : (e : Count) → plus (plus a b) c e ≡ plus a (plus b c) e
  same e = omega arith

pub nothing-plus : (a : Amounts) → a ≡ plus nothing a
nothing-plus a i c = same c i where
  same : (d : Count) → a d ≡ plus nothing a d
  same d = omega arith

-- nothing was counted, and then so much
pub counted_behind : (a : Amounts) (old mid new : Part) → HasCounted nothing old mid → HasCounted a mid new → HasCounted a old new
counted_behind a old mid new first second = record {
  rises = λ c. omega (arith, first.rises c, second.rises c);
  grows = λ c few. omega (arith, first.rises c, second.grows c few);
  adds = λ c. omega (arith, first.adds c, second.adds c);
}

-- so much was counted, and then nothing
pub counted_before : (a : Amounts) (old mid new : Part) → HasCounted a old mid → HasCounted nothing mid new → HasCounted a old new
counted_before a old mid new first second = record {
  rises = λ c. omega (arith, first.rises c, second.rises c);
  grows = λ c few. omega (arith, first.grows c (omega (arith, second.rises c, few)), second.rises c);
  adds = λ c. omega (arith, first.adds c, second.adds c);
}

-- amounts were counted without a fault
pub none_counted : (a : Amounts) (old new : Part) → HasCounted a old new → HasCounted (plus a (of_sessions 0)) old new
none_counted a old new h = record {
  rises = h.rises;
  grows = λ c few. omega (arith, zero_of c, h.grows c few);
  adds = λ c. omega (arith, zero_of c, h.adds c);
}

pub counted_more : (a b : Amounts) (m n : ℕ) (old mid new : Part) → HasCounted (plus a (of_sessions m)) old mid → HasCounted (plus b (of_sessions n)) mid new → HasCounted (plus (plus a b) (of_sessions (m + n))) old new
counted_more a b m n old mid new first second = record {
  rises = λ c. omega (arith, first.rises c, second.rises c);
  grows = λ c few. omega (arith, sums m n c, first.grows c (omega (arith, second.rises c, few)), second.grows c few);
  adds = λ c. omega (arith, sums m n c, first.adds c, second.adds c);
}

module _ (Other : DeskCall → Type 0) where
  pub Among-append : (ns cs ms ds : List DeskCall) → Among Other ns cs → Among Other ms ds → Among Other (ns ++ ms) (cs ++ ds)
  Among-append [] [] ms ds a b = b
  Among-append (n ∷ ns) [] ms ds a b = absurd a
  Among-append [] (c ∷ cs) [] ds a b = (a.0, Among-append [] cs [] ds a.1 b)
  Among-append [] (c ∷ cs) (m ∷ ms) ds a b = inr (a.0, Among-append [] cs (m ∷ ms) ds a.1 b)
  Among-append (n ∷ ns) (c ∷ cs) ms ds (inl a) b = inl (a.0, Among-append ns cs ms ds a.1 b)
  Among-append (n ∷ ns) (c ∷ cs) ms ds (inr a) b = inr (a.0, Among-append (n ∷ ns) cs ms ds a.1 b)

  -- calls stand among themselves
  pub Among-same : (cs : List DeskCall) → Among Other cs cs
  Among-same [] = tt
  Among-same (c ∷ cs) = inl (refl, Among-same cs)

-- looks alone
pub looks_among : (cs : List DeskCall) → AllByRecursion IsLook cs → Among IsKeeperCall [] cs
looks_among [] all = tt
looks_among (c ∷ cs) all = (inl all.0, looks_among cs all.1)

-- no call was made
pub called_not : (p : Part) → HasCalled (Among IsKeeperCall []) p p
called_not p = record { calls = []; made = sym (append-nil p.own); are_so = tt }

-- a failed session was counted
pub called_fault : (old new : Part) → new.own ≡ old.own ++ record { event = FailedSession; answer = Done } ∷ [] → HasCalled (Among IsKeeperCall []) old new
called_fault old new made = record { calls = record { event = FailedSession; answer = Done } ∷ []; made = made; are_so = (inr refl, tt) }

-- calls behind calls
pub called_behind : (ns ms : List DeskCall) (old mid new : Part) → HasCalled (Among IsKeeperCall ns) old mid → HasCalled (Among IsKeeperCall ms) mid new → HasCalled (Among IsKeeperCall (ns ++ ms)) old new
called_behind ns ms old mid new a b = record {
  calls = a.calls ++ b.calls;
  made = b.made ∙ ap (λ (l : List DeskCall). l ++ b.calls) a.made ∙ append_assoc old.own a.calls b.calls;
  are_so = Among-append IsKeeperCall ns a.calls ms b.calls a.are_so b.are_so;
}

-- the calls of a visit
pub called_so : (calls : List DeskCall) (old new : Part) → new.own ≡ old.own ++ calls → HasCalled (Among IsKeeperCall calls) old new
called_so calls old new made = record { calls = calls; made = made; are_so = Among-same IsKeeperCall calls }
