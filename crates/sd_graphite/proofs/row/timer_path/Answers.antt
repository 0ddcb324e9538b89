use Rattle.std.proofs.Common.{◌∙◌, ap, refl, codes, [], ◌∷◌}
use Rattle.sd_graphite.specs.Texts.{timer_prefix}
use Rattle.sd_graphite.proofs.TextLemmas.{path_text-parts}
use Rattle.sd_graphite.proofs.row.timer_path.Goals as goal

pub returns : goal.returns
unfolding timer_prefix
returns c = path_text-parts _ _ (codes "stats.timers.") _ _ (46 ∷ []) refl (c.as_slice.ensures.value ∙ ap (λ n. n.prefix_timer) c.namespace.ensures.value) c.as_slice-2.ensures.bytes refl
