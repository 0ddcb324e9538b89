-- Each step on a stop flag keeps its rule.
use Rattle.std.proofs.Common.{◌≡◌, ℕ, ◌-◌, ◌≤◌, ◌<◌, true, false, true≢false, List, [], ◌∷◌, set, get_or, sym, refl, ap, ◌∙◌, subst, ⊎_elim, arith}
use Rattle.std.specs.Prelude.{Option, Some, None, IsSome, is_some, SomeIff}
use mathlib.Core.Option.{some, some-ne-none}
use lib.ListN.{get_elem?}
use Rattle.atomic_table.specs.Table.{Me, keeps, Step, opening, Allows, Splits, Joins}
use Rattle.atomic_table.proofs.Lists.{at_set, set_again}
use Rattle.sd_outlet.specs.declared.stop_view.StopView.{StopView}
use Rattle.sd_outlet.specs.StopRule.{stop_view, word_of, Knows, IsStopFlag, raised_flag, read_flag, compared_flag}
use Rattle.sd_outlet.proofs.ViewLists.{All, all_set, all_snoc, at_end}

-- nothing is found in none
none_is : (found : Option ℕ) → found ≡ None → ¬ IsSome found
none_is found e p = true≢false (sym p ∙ ap is_some e)

-- who neither raises the flag nor found it raised knows nothing of it
knows_nothing : (raiser : ℕ) (flag : Option ℕ) (id : ℕ) → Knows raiser flag id (stop_view false None None)
knows_nothing raiser flag id = ((λ p. absurd (true≢false (sym p))), λ p. absurd (true≢false (sym p)))

-- a word that is read stays
same_word : (n : ℕ) (ws : List ℕ) → ws ≡ n ∷ [] → set ws 0 (get_or ws 0 0) ≡ n ∷ []
same_word n ws e = ap (λ l. set l 0 (get_or l 0 0)) e

-- a word less one is how many texts were sent, where the flag is raised
pub is_flag : (flag found : Option ℕ) (n : ℕ) → n ≡ word_of flag → SomeIff found (1 ≤ n) (n - 1) → flag ≡ found
is_flag None None n e h = refl
is_flag None (Some x) n e h = absurd (omega (arith, e, h.0))
is_flag (Some sends) None n e h = absurd (h (omega (arith, e)))
is_flag (Some sends) (Some x) n e h = ap Some (omega (arith, e, h.1))

module _ {S : Type 0} where
  -- a flag that isn't raised, with its first seat
  pub begins : IsStopFlag {S = S} (opening (0 ∷ []) [] (stop_view true None None))
  begins = record {
    raiser = 0;
    flag = None;
    word = refl;
    knows = all_set (Knows 0 None) (stop_view true None None ∷ []) 0 (stop_view true None None) ((λ _. (refl, refl)), λ p. refl)
        (λ j u other e. absurd (other (at_end [] _ u j (λ x. some-ne-none u (sym x)) e)));
  }

  -- the flag is raised
  pub raises : (slots id n : ℕ) (st : Step S) (m : Me S StopView) → m.0.raises ≡ true → m.0.raised ≡ None → 0 < n → Allows IsStopFlag slots id m 0 (λ _. n) (λ _. raised_flag st m n)
  raises slots id n st m may fresh some_text s k _ at _ =
      let flag : Option ℕ = Some (n - 1) in
      let w : StopView = stop_view m.0.raises flag m.0.found in
      let mine = k.knows id m.0 at in
      let none : k.flag ≡ None = sym (mine.0 may).1 ∙ fresh in
      let is_word : n ≡ word_of flag = omega arith in (
        w,
        keeps,
        tt,
        record {
          raiser = k.raiser;
          flag = flag;
          word = ap (λ l. set l 0 n) k.word ∙ ap (λ x. x ∷ []) is_word;
          knows = all_set (Knows k.raiser flag) s.views id w ((λ p. ((mine.0 p).0, refl)), λ p. absurd (none_is _ (mine.1 p ∙ none) p))
              (λ j u other e. ((λ p. absurd (other (((k.knows j u e).0 p).0 ∙ sym (mine.0 may).0))), λ p. absurd (none_is _ ((k.knows j u e).1 p ∙ none) p)));
        },
        refl,
      )

  -- the flag is read
  pub reads : (slots id : ℕ) (st : Step S) (m : Me S StopView) → Allows IsStopFlag slots id m 0 (λ n. n) (read_flag st m)
  reads slots id st m s k _ at _ =
      let w : StopView = stop_view m.0.raises m.0.raised k.flag in (
        w,
        keeps,
        tt,
        record {
          raiser = k.raiser;
          flag = k.flag;
          word = same_word (word_of k.flag) s.words k.word;
          knows = all_set (Knows k.raiser k.flag) s.views id w ((k.knows id m.0 at).0, λ _. refl) (λ j u other e. k.knows j u e);
        },
        (k.flag, ap (λ l. get_or l 0 0) k.word, refl),
      )

  -- the flag is read by who raises it
  pub compares : (slots id : ℕ) (st : Step S) (m : Me S StopView) → m.0.raises ≡ true → Allows IsStopFlag slots id m 0 (λ n. n) (compared_flag st m)
  compares slots id st m may s k _ at _ =
      let mine = k.knows id m.0 at in (
        m.0,
        keeps,
        tt,
        record {
          raiser = k.raiser;
          flag = k.flag;
          word = same_word (word_of k.flag) s.words k.word;
          knows = subst (All (Knows k.raiser k.flag)) (sym (set_again s.views id m.0 at)) k.knows;
        },
        (refl, λ p. mine.1 p ∙ sym (mine.0 may).1),
      )

  -- a seat that reads is split off
  pub splits : (id : ℕ) (v : StopView) → Splits (IsStopFlag {S = S}) id v (stop_view v.raises v.raised None) (stop_view false None None)
  splits id v s k at =
      let mine = k.knows id v at in
      let l : StopView = stop_view v.raises v.raised None in
      record {
        raiser = k.raiser;
        flag = k.flag;
        word = k.word;
        knows = all_snoc (Knows k.raiser k.flag) (set s.views id l) (stop_view false None None) (knows_nothing k.raiser k.flag)
            (all_set (Knows k.raiser k.flag) s.views id l (mine.0, λ p. absurd (true≢false (sym p))) (λ j u other e. k.knows j u e));
      }

  -- a seat that read is joined in
  pub joins : (id : ℕ) (v : StopView) (other : ℕ) (u : StopView) → Joins (IsStopFlag {S = S}) id v other u (stop_view v.raises v.raised u.found) (stop_view false None None)
  joins id v other u s k at two at' =
      let both : StopView = stop_view v.raises v.raised u.found in
      let mine = k.knows id v at in
      let was : get_elem? s.views other ≡ some u = ⊎_elim (λ x. absurd (two x.0)) (λ x. x.1) (at_set s.views id other both u at') in
      let now : All (Knows k.raiser k.flag) (set s.views id both) = all_set (Knows k.raiser k.flag) s.views id both (mine.0, (k.knows other u was).1) (λ j y apart e. k.knows j y e) in
      record {
        raiser = k.raiser;
        flag = k.flag;
        word = k.word;
        knows = all_set (Knows k.raiser k.flag) (set s.views id both) other (stop_view false None None) (knows_nothing k.raiser k.flag other) (λ j y apart e. now j y e);
      }
