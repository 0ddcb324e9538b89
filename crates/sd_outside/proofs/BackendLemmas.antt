-- What holds at each backend and its kind, and what was done with each.
use Rattle.std.proofs.Math.Path.{fun_ext}
use Rattle.std.proofs.Common.{◌≡◌, refl}
use Rattle.sd_model_outside.specs.Backend.{Backend, Graphite, Console, with_one}
use Rattle.sd_outside.specs.Backends.{at, kind_of, of_kind}
use Rattle.sd_outside.specs.declared.backends.PerBackend.{PerBackend}

pub at_both : (P : Backend → Type 0) → P Graphite → P Console → (b : Backend) → P b
at_both P graphite console Graphite = graphite
at_both P graphite console Console = console

pub same_kind : (b : Backend) → kind_of (of_kind b) ≡ b
same_kind Graphite = refl
same_kind Console = refl

module _ {X : Type 0} where
  -- both values were put in place of others, one after the other
  pub first_put : (g : X) (old : PerBackend X) → at (record old { graphite = g }) ≡ with_one Graphite g (at old)
  first_put g old = fun_ext (at_both (λ b. at (record old { graphite = g }) b ≡ with_one Graphite g (at old) b) refl refl)

  pub both_put : (g c : X) (old : PerBackend X) → at (record { graphite = g; console = c }) ≡ with_one Console c (with_one Graphite g (at old))
  both_put g c old = fun_ext (at_both (λ b. at (record { graphite = g; console = c }) b ≡ with_one Console c (with_one Graphite g (at old)) b) refl refl)
