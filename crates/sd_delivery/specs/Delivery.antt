-- The texts of a record that go to the backends themselves.
use Rattle.std.specs.Prelude.{◌≡◌, ℕ, true, List}
use Rattle.sd_model_outside.specs.Outside.{Object, Rose}
use Rattle.sd_model_outside.specs.Uses.{AfterMark, FitsUse, Written}
use Rattle.sd_model_outside.specs.Backend.{Backend, at_backend}
use Rattle.sd_model_record.specs.Desk.{Marks}
use Rattle.sd_outside.specs.declared.backend.Back.{Back}
use Rattle.sd_outside.specs.declared.backends.PerBackend.{PerBackend}
use Rattle.sd_outside.specs.Backends.{back_of, uses}

-- Each backend that is used was given its text, and its mark says whether that was written. One that is used and whose count of faults
-- didn't rise was given the whole text.
pub record GivesBackends {B : Type 0} (seen : B → Object) (texts : Backend → List ℕ) (marks : Marks) (old new : PerBackend (Back B)) : Type 0 where
  pub used : (b : Backend) → FitsUse (uses old b) (at_backend marks b)
  pub delivered : (b : Backend) → AfterMark (at_backend marks b) (texts b) (back_of seen old b) (back_of seen new b)
  pub whole : (b : Backend) → uses old b ≡ true → ¬ Rose (back_of seen old b).faults (back_of seen new b).faults → at_backend marks b ≡ Written
  pub same_use : (b : Backend) → uses new b ≡ uses old b
