use Rattle.std.proofs.Common.{◌≤◌, length}
use Rattle.sd_model_record.specs.Admin.{words}
use Rattle.sd_admin.proofs.WordPlaces.{IsLeft}
use Rattle.sd_admin.proofs.words.word_at.Given as goal

abbrev pub invariant-loop : goal.invariant-loop
invariant-loop l = IsLeft (words l.line) l.counter (words l.rest) × (length l.rest ≤ length l.line)
