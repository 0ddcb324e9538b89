-- What was read is in range.
use Rattle.std.proofs.Common.{◌≡◌, ℕ, zero, suc, ◌≤◌, Bool, true, ◌&&◌, nat_le, ℤ, pos, negsuc, List, ◌∷◌, length, Option, Some, None, Result, Ok, Err, IfOk, All, inl, inr, arith}
use Rattle.std.specs.Prelude.{⊤}
use Rattle.std.proofs.lemmas.Bool.{cases_Bool}
use Rattle.std.proofs.lemmas.Bool.Decides.{nat_tests}
use Rattle.toml.specs.Data.{Data, string, integer, array, table, Items, no_items, item, Members}
use Rattle.sd_model_settings.specs.Values.{ValueFlaw, OtherKind, OutsideRange, both, mapped, ranged, whole_read, text, each, are_at_most, listed, entry, required, optional}
use Rattle.sd_model_settings.specs.Settings.{SettingsFlaw, with_name, in_force, Section, found}
use Rattle.sd_model_text.specs.Lists.{◌>>=◌}
use Rattle.sd_law_settings.specs.Ranges.{IsWithin}

-- nothing is asked of a value
pub anything_in_range : {A B : Type 0} (r : Result A B) → IfOk r (λ x. ⊤)
anything_in_range (Ok x) = tt
anything_in_range (Err flaw) = tt

-- a step after a value that was read
pub bind_in_range : {A B : Type 0} (r : Result A SettingsFlaw) (f : A → Result B SettingsFlaw) (P : A → Type 0) (Q : B → Type 0)
    → IfOk r P → ((x : A) → P x → IfOk (f x) Q) → IfOk (r >>= f) Q
bind_in_range (Ok x) f P Q p h = h x p
bind_in_range (Err flaw) f P Q p h = tt

-- a value read with its name
named_in_range : {A : Type 0} (name : List ℕ) (r : Result A ValueFlaw) (P : A → Type 0) → IfOk r P → IfOk (with_name name r) P
named_in_range name (Ok x) P p = p
named_in_range name (Err OtherKind) P p = tt
named_in_range name (Err OutsideRange) P p = tt

in_force_in_range : {A : Type 0} (name : List ℕ) (read : Data → Result A ValueFlaw) (default : A) (given : Option Data) (P : A → Type 0)
    → P default → ((d : Data) → IfOk (read d) P) → IfOk (in_force name read default given) P
in_force_in_range name read default None P p h = p
in_force_in_range name read default (Some d) P p h = named_in_range name (read d) P (h d)

-- what has a name, where the default is in range
pub found_in_range : {A : Type 0} (s : Section) (name : List ℕ) (read : Data → Result A ValueFlaw) (default : A) (P : A → Type 0)
    → P default → ((d : Data) → IfOk (read d) P) → IfOk (found s name read default) P
found_in_range s name read default P p h = in_force_in_range _ read default _ P p h

-- a value that passes a test
pub ranged_in_range : {A : Type 0} (passes : A → Bool) (r : Result A ValueFlaw) (P Q : A → Type 0)
    → IfOk r P → ((x : A) → P x → passes x ≡ true → Q x) → IfOk (ranged passes r) Q
ranged_in_range passes (Ok x) P Q p h = elim (cases_Bool (passes x)) [
  | inl e ↦ rw e (h x p e)
  | inr e ↦ rw e tt
]
ranged_in_range passes (Err flaw) P Q p h = tt

pub mapped_in_range : {A B : Type 0} (f : A → B) (r : Result A ValueFlaw) (P : A → Type 0) (Q : B → Type 0)
    → IfOk r P → ((x : A) → P x → Q (f x)) → IfOk (mapped f r) Q
mapped_in_range f (Ok x) P Q p h = h x p
mapped_in_range f (Err flaw) P Q p h = tt

pub both_in_range : {A B : Type 0} (r : Result A ValueFlaw) (s : Result B ValueFlaw) (P : A → Type 0) (Q : B → Type 0)
    → IfOk r P → IfOk s Q → IfOk (both r s) (λ p. P p.0 × Q p.1)
both_in_range (Ok x) (Ok y) P Q p q = (p, q)
both_in_range (Ok x) (Err flaw) P Q p q = tt
both_in_range (Err OtherKind) s P Q p q = tt
both_in_range (Err OutsideRange) (Ok y) P Q p q = tt
both_in_range (Err OutsideRange) (Err flaw) P Q p q = tt

pub whole_in_range : (least most : ℕ) (d : Data) → IfOk (whole_read least most d) (IsWithin least most)
whole_in_range least most (integer (pos n)) = elim (cases_Bool (nat_le least n && nat_le n most)) [
  | inl e ↦ rw e (grind (arith, nat_tests))
  | inr e ↦ rw e tt
]
whole_in_range least most (integer (negsuc n)) = tt
whole_in_range least most _ = tt

pub text_in_range : (passes : List ℕ → Bool) (P : List ℕ → Type 0) → ((s : List ℕ) → passes s ≡ true → P s) → (d : Data) → IfOk (text passes d) P
text_in_range passes P h (string s) = elim (cases_Bool (passes s)) [
  | inl e ↦ rw e (h s e)
  | inr e ↦ rw e tt
]
text_in_range passes P h _ = tt

-- an element before others
pub all_more : {A : Type 0} (P : A → Type 0) (x : A) (xs : List A) → P x → All P xs → All P (x ∷ xs)
all_more P x xs p h zero d l = p
all_more P x xs p h (suc k) d l = h k d (omega arith)

pub each_in_range : {A : Type 0} (read : Data → Result A ValueFlaw) (P : A → Type 0) → ((d : Data) → IfOk (read d) P) → (ds : Items) → IfOk (each read ds) (All P)
each_in_range read P h no_items = λ k d l. absurd (omega arith)
each_in_range read P h (item d ds) =
    mapped_in_range _ _ (λ p. P p.0 × All P p.1) (All P) (both_in_range (read d) (each read ds) P (All P) (h d) (each_in_range read P h ds)) (λ p q. all_more P p.0 p.1 q.0 q.1)

-- at most so many elements
pub few : {A : Type 0} (n : ℕ) (xs : List A) → are_at_most n xs ≡ true → length xs ≤ n
few n xs e = grind (arith, nat_tests)

pub listed_in_range : {A : Type 0} (n : ℕ) (read : Data → Result A ValueFlaw) (P : A → Type 0) (Q : List A → Type 0) → ((d : Data) → IfOk (read d) P)
    → ((xs : List A) → All P xs → length xs ≤ n → Q xs) → (d : Data) → IfOk (listed n read d) Q
listed_in_range n read P Q h j (array ds) = ranged_in_range (are_at_most n) (each read ds) (All P) Q (each_in_range read P h ds) (λ xs all e. j xs all (few n xs e))
listed_in_range n read P Q h j _ = tt

pub entry_in_range : {A : Type 0} (read : Members → Result A ValueFlaw) (P : A → Type 0) → ((ms : Members) → IfOk (read ms) P) → (d : Data) → IfOk (entry read d) P
entry_in_range read P h (table ms) = h ms
entry_in_range read P h _ = tt

pub required_in_range : {A : Type 0} (read : Data → Result A ValueFlaw) (P : A → Type 0) → ((d : Data) → IfOk (read d) P) → (given : Option Data) → IfOk (required read given) P
required_in_range read P h None = tt
required_in_range read P h (Some d) = h d

pub optional_in_range : {A : Type 0} (read : Data → Result A ValueFlaw) (default : A) (P : A → Type 0) → P default → ((d : Data) → IfOk (read d) P)
    → (given : Option Data) → IfOk (optional read default given) P
optional_in_range read default P p h None = p
optional_in_range read default P p h (Some d) = h d
