use Rattle.std.proofs.Common.{◌≡◌, ◌∙◌, Bool, true, false, cond, Result, Ok, Err, ap, sym}
use Rattle.std.specs.Str.{bytes_eq}
use Rattle.sd_model_settings.specs.Values.{ValueFlaw, OutsideRange, ranged, are_distinct}
use Rattle.sd_plan.specs.Values.{name_bytes}
use Rattle.sd_config.proofs.NameLists.{are_distinct-names}
use Rattle.sd_config.proofs.lists.distinct_texts.Goals as goal

-- a value that was read, by its test
passes : {A : Type 0} (p : A → Bool) (x : A) (r : Result A ValueFlaw) → p x ≡ true → Ok x ≡ r → Ok x ≡ ranged p r
passes p x r test read = sym (ap (λ b. cond b (Ok x) (Err OutsideRange)) test) ∙ ap (ranged p) read

fails : {A : Type 0} (p : A → Bool) (x : A) (r : Result A ValueFlaw) → p x ≡ false → Ok x ≡ r → Err OutsideRange ≡ ranged p r
fails p x r test read = sym (ap (λ b. cond b (Ok x) (Err OutsideRange)) test) ∙ ap (ranged p) read

pub returns-then-are_distinct : goal.returns-then-are_distinct
returns-then-are_distinct g c =
    let names = c.in_ok-texts.texts.items in
    passes (are_distinct bytes_eq) (name_bytes names) _
    (are_distinct-names names ∙ ap (are_distinct (λ a b. bytes_eq a.items b.items)) (sym c.as_slice.ensures.value) ∙ sym c.are_distinct.ensures ∙ c.if-are_distinct.true)
    c.in_ok-texts.ensures

pub returns-else-are_distinct : goal.returns-else-are_distinct
returns-else-are_distinct g c =
    let names = c.in_ok-texts.texts.items in
    fails (are_distinct bytes_eq) (name_bytes names) _
    (are_distinct-names names ∙ ap (are_distinct (λ a b. bytes_eq a.items b.items)) (sym c.as_slice.ensures.value) ∙ sym c.are_distinct.ensures ∙ c.if-are_distinct.false)
    c.in_ok-texts.ensures
