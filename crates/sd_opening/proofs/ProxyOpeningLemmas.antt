-- Settings that are those of a proxy, or aren't.
use Rattle.std.proofs.Common.{◌≡◌, ℕ, zero, suc, ◌+◌, ◌*◌, ◌<◌, ◌≤◌, Bool, true, false, nat_lt, length, codes, Some, None, refl, sym, ◌∙◌, arith}
use Rattle.std.specs.Prelude.{◌==◌}
use Rattle.std.proofs.lemmas.Bool.{cond-true, cond-false}
use Rattle.std.proofs.lemmas.Bool.Decides.{nat_tests}
use Rattle.sd_model_settings.specs.Settings as file
use Rattle.sd_model_settings.specs.Settings.{OutOfRange}
use Rattle.sd_model_call.specs.Proxy.{line_readers, proxy_flaw}
use Rattle.sd_model_call.proofs.Short.{most_wires}

module _ (s : file.Settings) where
  abbrev wires : ℕ
  wires = (s.sizes.receivers + line_readers s) * length s.lists.nodes

  -- what keeps the proxy from settings
  pub no_nodes : length s.lists.nodes ≡ 0 → proxy_flaw s ≡ Some (OutOfRange (codes "nodes"))
  no_nodes none = cond-true (length s.lists.nodes == 0) _ _ (grind (arith, nat_tests, none))

  pub many_wires : 0 < length s.lists.nodes → most_wires < wires → proxy_flaw s ≡ Some (OutOfRange (codes "receivers"))
  many_wires some many = cond-false (length s.lists.nodes == 0) _ _ (grind (arith, nat_tests, some)) ∙ cond-true (nat_lt most_wires wires) _ _ (grind (arith, nat_tests, many))

  pub fits : 0 < length s.lists.nodes → wires ≤ most_wires → proxy_flaw s ≡ None
  fits some few = cond-false (length s.lists.nodes == 0) _ _ (grind (arith, nat_tests, some)) ∙ cond-false (nat_lt most_wires wires) _ _ (grind (arith, nat_tests, few))

  module _ (fit : proxy_flaw s ≡ None) where
    pub some_nodes : 0 < length s.lists.nodes
    some_nodes = by_count (length s.lists.nodes) refl where
      by_count : (n : ℕ) → length s.lists.nodes ≡ n → 0 < length s.lists.nodes
      by_count zero is = let same : Some (OutOfRange (codes "nodes")) ≡ None = sym (no_nodes is) ∙ fit in absurd (cc)
      by_count (suc n) is = omega (arith, is)

    pub few_wires : wires ≤ most_wires
    few_wires = by_test (nat_lt most_wires wires) refl where
      by_test : (b : Bool) → nat_lt most_wires wires ≡ b → wires ≤ most_wires
      by_test true is = let same : Some (OutOfRange (codes "receivers")) ≡ None = sym (many_wires some_nodes (grind (arith, nat_tests, is))) ∙ fit in absurd (cc)
      by_test false is = grind (arith, nat_tests, is)
