use Rattle.sd_edge.proofs.KeptLemmas.{piece_kept}
use Rattle.sd_edge.proofs.kept.split_lines_keep_all_bytes.Goals as goal

pub returns : goal.returns
returns c = piece_kept
