-- What stands once some nodes were asked.
use Rattle.std.proofs.Common.{◌≡◌, ℕ, ◌+◌, ◌^◌, ◌<◌, ◌≤◌, cond, Bool, true, false, List, [], ◌∷◌, ◌++◌, length, map, Option, refl, sym, ap, ◌∙◌, subst, arith, length-append}
use Rattle.std.specs.Option.{is_none}
use Rattle.std.specs.Prelude.{count_by}
use Rattle.std.proofs.lemmas.List.{map-append}
use Rattle.sd_model_settings.specs.Entries.{Node}
use Rattle.sd_model_outside.specs.Outside.{Object}
use Rattle.sd_model_outside.specs.Uses.{HasAsked, AreAsked}
use Rattle.sd_model_live.specs.Proxy.{tells_up}
use Rattle.sd_model_live.proofs.QuestionLemmas.{AreAsked-append, AreAsked-one, failed-append}
use Rattle.sd_proxy_desk.specs.Questions.{AddsAnswer, HasAskedAll}
use Rattle.sd_proxy_desk.specs.declared.questions.Found.{Found}
use Rattle.sd_proxy_desk.proofs.Sets.{set_none, set_more}
use Rattle.sd_model_live.proofs.Short.{admin_place, IsSetOf}

-- how many failed, with one question more
failed-snoc : (xs : List (Option (List ℕ))) (answer : Option (List ℕ)) → count_by is_none (xs ++ answer ∷ []) ≡ count_by is_none xs + cond (is_none answer) 1 0
failed-snoc xs answer =
    let n : ℕ = cond (is_none answer) 1 0 in
    let one : 0 + n ≡ n = omega arith in
    failed-append xs (answer ∷ []) ∙ ap (λ m. count_by is_none xs + m) one

-- these nodes were asked, and this was found
pub record Stands (nodes : List Node) (old now : Object) (found : Found) : Type 0 where
  pub answers : List (Option (List ℕ))
  pub each : length answers ≡ length nodes
  pub asked : AreAsked (map admin_place nodes) answers old now
  pub small : found.up < 2 ^ length nodes
  pub set : IsSetOf found.up answers
  pub failures : found.failed ≡ count_by is_none answers
  pub few : found.failed ≤ length nodes

pub stands_first : (old : Object) (found : Found) → found.up ≡ 0 → found.failed ≡ 0 → Stands [] old old found
stands_first old found up failed = record {
  answers = [];
  each = refl;
  asked = refl;
  small = omega arith;
  set = subst (λ n. IsSetOf n []) (sym up) set_none;
  failures = failed;
  few = omega arith;
}

at_most_one : (b : Bool) → cond b 1 0 ≤ 1
at_most_one true = omega arith
at_most_one false = omega arith

pub stands_more : (nodes : List Node) (node : Node) (old now then : Object) (place : ℕ) (answer : Option (List ℕ)) (found next : Found) → place ≡ length nodes → Stands nodes old now found
    → HasAsked (admin_place node) answer now then → AddsAnswer place answer found next → Stands (nodes ++ node ∷ []) old then next
stands_more nodes node old now then place answer found next here s a adds =
    let len : length (nodes ++ node ∷ []) ≡ length nodes + 1 = length-append nodes (node ∷ []) in
    let at : 2 ^ place ≡ 2 ^ length nodes = ap (λ n. 2 ^ n) here in
    let more = set_more found.up (length nodes) s.answers answer s.each s.small s.set in
    let up : next.up ≡ cond (tells_up answer) (found.up + 2 ^ length nodes) found.up = adds.up ∙ ap (λ n. cond (tells_up answer) (found.up + n) found.up) at in
    let one : cond (is_none answer) 1 0 ≤ 1 = at_most_one (is_none answer) in
    record {
      answers = s.answers ++ answer ∷ [];
      each = length-append s.answers (answer ∷ []) ∙ ap (λ n. n + 1) s.each ∙ sym len;
      asked = subst (λ ps. AreAsked ps (s.answers ++ answer ∷ []) old then) (sym (map-append admin_place nodes (node ∷ [])))
          (AreAsked-append (map admin_place nodes) (admin_place node ∷ []) s.answers (answer ∷ []) old now then s.asked (AreAsked-one (admin_place node) answer now then a));
      small = subst (λ (n : ℕ × ℕ). n.0 < 2 ^ n.1) (λ i. (sym up i, sym len i)) more.1;
      set = subst (λ n. IsSetOf n (s.answers ++ answer ∷ [])) (sym up) more.0;
      failures = adds.failed ∙ ap (λ n. n + cond (is_none answer) 1 0) s.failures ∙ sym (failed-snoc s.answers answer);
      few = subst (λ n. next.failed ≤ n) (sym len) (let f = adds.failed in let g = s.few in omega arith);
    }

pub stands_whole : (nodes : List Node) (old now : Object) (found : Found) → Stands nodes old now found → HasAskedAll nodes old now found.up found.failed
stands_whole nodes old now found s = record { answers = s.answers; each = s.each; asked = s.asked; set = s.set; failures = s.failures }
