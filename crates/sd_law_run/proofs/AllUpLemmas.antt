-- Where lines go while all nodes are up.
use Rattle.std.proofs.Common.{◌≡◌, ◌≢◌, ◌∙◌, ℕ, ◌-◌, ◌^◌, ◌<◌, ◌≤◌, false, true, List, length, get_or, refl, sym, ap, arith}
use Rattle.std.specs.List.{range_with_len}
use Rattle.std.proofs.lemmas.List.FromFn.{get_or-range_with_len, length-range_with_len}
use Rattle.std.proofs.lemmas.List.Sums.{AllPass-from_list_all}
use Rattle.sd_model_settings.specs.Entries.{Node}
use Rattle.sd_model_ring.specs.Ring.{is_up}
use Rattle.sd_model_proxy.specs.Routes.{Unowned, route}
use Rattle.sd_law_run.specs.AllUp.{AreAllUp}
use Rattle.sd_model_proxy.proofs.RouteLemmas.{goes-unowned}

pub none-unowned : (line : List ℕ) (nodes : List Node) (up : ℕ) → 0 < length nodes → AreAllUp nodes up → route line nodes up ≢ Unowned
none-unowned line nodes up some all goes = let h = (goes-unowned line nodes up).0 goes in let both : true ≡ false = sym (all 0 some) ∙ h.1 0 some in cc

-- where all bits are 1, each node is up
pub bits-all_up : (nodes : List Node) → length nodes ≤ 64 → AreAllUp nodes (2 ^ 64 - 1)
bits-all_up nodes few place within =
    let each = AllPass-from_list_all (is_up (2 ^ 64 - 1)) (range_with_len 0 64) refl in
    let at : get_or (range_with_len 0 64) place 0 ≡ place = get_or-range_with_len 0 64 place 0 (omega arith) ∙ omega arith in
    ap (is_up (2 ^ 64 - 1)) (sym at) ∙ each place 0 (omega (arith, length-range_with_len 0 64))
