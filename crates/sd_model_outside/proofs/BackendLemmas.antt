-- What each backend has, with one changed.
use Rattle.std.proofs.Math.Path.{fun_ext}
use Rattle.std.proofs.Common.{◌≡◌, Bool, true, false, ◌==◌, if◌then◌else◌, refl, subst, sym}
use Rattle.sd_model_outside.specs.Backend.{Backend, Graphite, Console, PerBackend, at_backend, backend_number, each_of, with_one}

-- backends of one number are the same
same_backend : (a b : Backend) → (backend_number a == backend_number b) ≡ true → a ≡ b
same_backend Graphite Graphite same = refl
same_backend Graphite Console same = absurd (cc)
same_backend Console Graphite same = absurd (cc)
same_backend Console Console same = refl

own_number : (b : Backend) → (backend_number b == backend_number b) ≡ true
own_number Graphite = refl
own_number Console = refl

module _ {X : Type 0} where
  -- what holds of the changed one, and of what each had, holds of what each has
  pub each_with_one : (P : Backend → X → Type 0) (b : Backend) (x : X) (each : Backend → X) → P b x → ((c : Backend) → P c (each c)) → (c : Backend) → P c (with_one b x each c)
  each_with_one P b x each changed others c = by (backend_number b == backend_number c) refl where
    by : (test : Bool) → (backend_number b == backend_number c) ≡ test → P c (if test then x else each c)
    by true same = subst (λ d. P d x) (same_backend b c same) changed
    by false other = others c

  -- the changed one has what it was given
  pub with_one_at : (b : Backend) (x : X) (each : Backend → X) → with_one b x each b ≡ x
  with_one_at b x each = subst (λ test. (if test then x else each b) ≡ x) (sym (own_number b)) refl

  -- one that is given what it had
  pub with_one_same : (b : Backend) (each : Backend → X) → with_one b (each b) each ≡ each
  with_one_same b each = fun_ext (each_with_one (λ c x. x ≡ each c) b (each b) each refl (λ c. refl))

-- what is made of each
pub map_with_one : {X Y : Type 0} (f : X → Y) (b : Backend) (x : X) (each : Backend → X) → (λ c. f (with_one b x each c)) ≡ with_one b (f x) (λ c. f (each c))
map_with_one f b x each = fun_ext (λ c. by (backend_number b == backend_number c) c) where
  by : (test : Bool) (c : Backend) → f (if test then x else each c) ≡ (if test then f x else f (each c))
  by true c = refl
  by false c = refl

-- what was made for a backend
pub at_each : {X : Type 0} (make : Backend → X) (b : Backend) → at_backend (each_of make) b ≡ make b
at_each make Graphite = refl
at_each make Console = refl

-- the same for each is the same
pub same_each : {X : Type 0} (x y : PerBackend X) → ((b : Backend) → at_backend x b ≡ at_backend y b) → x ≡ y
same_each x y same = λ i. record { graphite = same Graphite i; console = same Console i }
