-- A text that is written part by part, by its parts and the write that fails.
use Rattle.std.proofs.Common.{◌≡◌, ℕ, List, ◌++◌, refl, sym, ap, subst, ◌∙◌}
use Rattle.sd_model_outside.specs.Outside.{Object, HasFailedBehind, given}
use Rattle.sd_model_outside.proofs.WriteLemmas.{given-given, behind-later, behind-longer}

-- a part more
pub next_part : (o m v : Object) (xs ys zs : List ℕ) → m ≡ given xs o → zs ≡ xs ++ ys → v ≡ given ys m → v ≡ given zs o
next_part o m v xs ys zs before whole now = now ∙ ap (given ys) before ∙ given-given xs ys o ∙ ap (λ (text : List ℕ). given text o) (sym whole)

-- a prefix of a part more
pub next_prefix : (o m v : Object) (xs ys zs : List ℕ) → m ≡ given xs o → zs ≡ xs ++ ys → HasFailedBehind ys m v → HasFailedBehind zs o v
next_prefix o m v xs ys zs before whole now = subst (λ text. HasFailedBehind text o v) (sym whole) (behind-later xs ys o m v before now)

-- a prefix of what a text begins with
pub prefix_prefix : (o v : Object) (xs ys zs : List ℕ) → zs ≡ xs ++ ys → HasFailedBehind xs o v → HasFailedBehind zs o v
prefix_prefix o v xs ys zs whole now = subst (λ text. HasFailedBehind text o v) (sym whole) (behind-longer xs ys o v now)

-- a prefix of the same text
pub same_prefix : (o v : Object) (xs ys : List ℕ) → xs ≡ ys → HasFailedBehind xs o v → HasFailedBehind ys o v
same_prefix o v xs ys same now = subst (λ text. HasFailedBehind text o v) same now

-- the same text, written whole
pub same_part : (o v : Object) (xs ys : List ℕ) → xs ≡ ys → v ≡ given xs o → v ≡ given ys o
same_part o v xs ys same now = now ∙ ap (λ (text : List ℕ). given text o) same

-- a text of five parts, that was written as far as a part, of which a prefix was written
module _ (o : Object) (a b c d e text : List ℕ) (is : text ≡ a ++ b ++ c ++ d ++ e) where
  from_four : (v : Object) → HasFailedBehind (a ++ b ++ c ++ d) o v → HasFailedBehind text o v
  from_four v prefix = prefix_prefix o v (a ++ b ++ c ++ d) e text is prefix

  from_three : (v : Object) → HasFailedBehind (a ++ b ++ c) o v → HasFailedBehind text o v
  from_three v prefix = from_four v (behind-longer (a ++ b ++ c) d o v prefix)

  from_two : (v : Object) → HasFailedBehind (a ++ b) o v → HasFailedBehind text o v
  from_two v prefix = from_three v (behind-longer (a ++ b) c o v prefix)

  pub prefix_1 : (v : Object) → HasFailedBehind a o v → HasFailedBehind text o v
  prefix_1 v prefix = from_two v (behind-longer a b o v prefix)

  module _ (m₁ : Object) (first : m₁ ≡ given a o) where
    pub prefix_2 : (v : Object) → HasFailedBehind b m₁ v → HasFailedBehind text o v
    prefix_2 v prefix = from_two v (next_prefix o m₁ v a b (a ++ b) first refl prefix)

    module _ (m₂ : Object) (second : m₂ ≡ given b m₁) where
      to_two : m₂ ≡ given (a ++ b) o
      to_two = next_part o m₁ m₂ a b (a ++ b) first refl second

      pub prefix_3 : (v : Object) → HasFailedBehind c m₂ v → HasFailedBehind text o v
      prefix_3 v prefix = from_three v (next_prefix o m₂ v (a ++ b) c (a ++ b ++ c) to_two refl prefix)

      module _ (m₃ : Object) (third : m₃ ≡ given c m₂) where
        pub three_parts : m₃ ≡ given (a ++ b ++ c) o
        three_parts = next_part o m₂ m₃ (a ++ b) c (a ++ b ++ c) to_two refl third

        pub prefix_4 : (v : Object) → HasFailedBehind d m₃ v → HasFailedBehind text o v
        prefix_4 v prefix = from_four v (next_prefix o m₃ v (a ++ b ++ c) d (a ++ b ++ c ++ d) three_parts refl prefix)

        module _ (m₄ : Object) (fourth : m₄ ≡ given d m₃) where
          to_four : m₄ ≡ given (a ++ b ++ c ++ d) o
          to_four = next_part o m₃ m₄ (a ++ b ++ c) d (a ++ b ++ c ++ d) three_parts refl fourth

          pub prefix_5 : (v : Object) → HasFailedBehind e m₄ v → HasFailedBehind text o v
          prefix_5 v prefix = next_prefix o m₄ v (a ++ b ++ c ++ d) e text to_four is prefix

          pub five_parts : (v : Object) → v ≡ given e m₄ → v ≡ given text o
          five_parts v fifth = next_part o m₄ v (a ++ b ++ c ++ d) e text to_four is fifth
