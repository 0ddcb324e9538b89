use Rattle.std.proofs.Common.{◌≡◌, ◌∙◌, ◌≤◌, ℕ, Bool, List, [], ◌∷◌, length, refl, sym, ap, ◌||◌, arith}
use Rattle.std.specs.List.{list_any}
use Rattle.std.specs.Str.{bytes_eq}
use Rattle.arrayvec.specs.ArrayVec.{ArrayVec}
use Rattle.sd_model_settings.specs.Entries.{TimerClass, class_name, sends}
use Rattle.sd_plan.specs.Values.{name_bytes}
use Rattle.sd_plan.specs.Calculated.{class_of}
use Rattle.sd_plan.proofs.calculated.Calculated.sends.Goals as goal

any_name : (p : List ℕ → Bool) (names : List (ArrayVec ℕ)) → list_any p (name_bytes names) ≡ list_any (λ n. p n.items) names
any_name p [] = refl
any_name p (n ∷ names) = ap (λ b. p n.items || b) (any_name p names)

-- what some names send
sent_by : (names : List (ArrayVec ℕ)) (c : TimerClass) → 1 ≤ length names → sends (name_bytes names) c ≡ list_any (λ n. bytes_eq (class_name c) n.items) names
sent_by [] c some = absurd (omega arith)
sent_by (n ∷ names) c some = any_name (bytes_eq (class_name c)) (n ∷ names)

pub returns-in_default : goal.returns-in_default
returns-in_default c =
    let names = c.as_slice.result.now in
    let seen : name_bytes names ≡ c.args.self.now = cc (ap name_bytes c.as_slice.ensures.value) in
    c.is_among.ensures ∙ ap (λ n. list_any (λ m. bytes_eq n m.items) names) c.name.ensures
    ∙ sym (sent_by names (class_of c.args.class) c.in_default.len_at_least) ∙ ap (λ xs. sends xs (class_of c.args.class)) seen
