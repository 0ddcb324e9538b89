use Rattle.std.proofs.Common.{◌≡◌, List, [], ◌∷◌, length, Option, Some, None, replicate, refl, ap, ◌∙◌, arith}
use Rattle.std.proofs.lemmas.List.{length-set}
use Rattle.sd_rows.specs.Index.{taken_count}
use Rattle.sd_rows.proofs.IndexLemmas.{taken_count-unset}
use Rattle.sd_rows.proofs.rows.Rows.clear.Goals as goal

-- where nothing is taken, all is empty
none_taken : {X : Type 0} (xs : List (Option X)) → taken_count xs ≡ 0 → xs ≡ replicate (length xs) None
none_taken [] e = refl
none_taken (None ∷ xs) e = ap (λ ys. None ∷ ys) (none_taken xs e)
none_taken (Some x ∷ xs) e = absurd (omega arith)

pub loop-i-preserved : goal.loop-i-preserved
loop-i-preserved c =
    let inv = c.loop-i.invariant in
    let gone = taken_count-unset c.loop-i.self.rows c.last_place.result c.last_place.ensures in record {
      left = omega (arith, inv.left, gone, ap taken_count c.remove.ensures.rows);
      len = ap length c.remove.ensures.rows ∙ length-set c.loop-i.self.rows c.last_place.result None ∙ inv.len;
      all = inv.all;
      tallies = c.remove.ensures.tallies ∙ inv.tallies;
      used = c.remove.ensures.used ∙ inv.used;
    }

pub returns-clause-rows : goal.returns-clause-rows
returns-clause-rows c =
    let inv = c.loop-i.invariant in
    none_taken c.loop-i.self.rows (omega (arith, inv.left, inv.all)) ∙ ap (λ n. replicate n None) inv.len
