-- A history behind a turn goes on by a step.
use Rattle.std.proofs.Common.{◌≡◌, ◌+◌, ◌<◌, List, [], ◌∷◌, ◌++◌, sym, ap, subst, ◌∙◌}
use Rattle.std.specs.List.{AllByRecursion}
use Rattle.std.proofs.lemmas.List.{map_push}
use Rattle.std.proofs.lemmas.List.Sums.{fold_push}
use Rattle.sd_model_shard.specs.Shard.{State, empty_state, step}
use Rattle.sd_model_shard.specs.History.{Legal, after, state_after}
use Rattle.sd_model_shard.proofs.HistoryLemmas.{LegalFrom-push}
use Rattle.sd_shard.specs.Shard.{state_of}
use Rattle.sd_pool.specs.Setup.{Setup, IsOwn, who_of}
use Rattle.sd_pool.specs.Noted.{Noted, acts, IsBySeat, IsLegal}
use Rattle.sd_pool.specs.Behind.{Behind, setup_of, Stands, Steps}

pub All-push : {X : Type 0} (P : X → Type 0) (xs : List X) (x : X) → AllByRecursion P xs → P x → AllByRecursion P (xs ++ x ∷ [])
All-push P [] x all here = (here, tt)
All-push P (y ∷ xs) x all here = (all.0, All-push P xs x all.1 here)

pub acts-push : (log : List Noted) (n : Noted) → acts (log ++ n ∷ []) ≡ acts log ++ n.act ∷ []
acts-push log n = map_push (λ (m : Noted). m.act) log n

pub Stands-push : (old new : Behind) (log : List Noted) (n : Noted) → Stands old log → Steps old new n.act.event n.act.reply → IsOwn (setup_of old) n.act.event
    → n.number < old.receivers + 2 → n.act.who ≡ who_of old.receivers n.number → Stands new (log ++ n ∷ [])
Stands-push old new log n stands steps own below mine =
    let f = setup_of old in
    let before = state_after f.limits f.policy (acts log) in
    let a = n.act in
    let legal : Legal f.limits f.policy (acts log ++ a ∷ []) =
    LegalFrom-push f.limits f.policy empty_state (acts log) a stands.legal.legal (steps.reply ∙ ap (λ (s : State). (step f.limits f.policy s a.event).reply) stands.state) in
    let left : state_of new.shard ≡ state_after f.limits f.policy (acts log ++ a ∷ []) =
    steps.state ∙ ap (λ (s : State). (step f.limits f.policy s a.event).state) stands.state ∙ sym (fold_push (after f.limits f.policy) empty_state (acts log) a) in
    let all : IsLegal f (log ++ n ∷ []) = record {
      legal = subst (Legal f.limits f.policy) (sym (acts-push log n)) legal;
      own = All-push (λ m. IsOwn f m.act.event) log n stands.legal.own own;
      whose = All-push (IsBySeat f.receivers) log n stands.legal.whose (below, mine);
    } in
    record {
      legal = subst (λ (g : Setup). IsLegal g (log ++ n ∷ [])) (sym steps.setup) all;
      state = left ∙ ap (state_after f.limits f.policy) (sym (acts-push log n)) ∙ ap (λ (g : Setup). state_after g.limits g.policy (acts (log ++ n ∷ []))) (sym steps.setup);
    }
