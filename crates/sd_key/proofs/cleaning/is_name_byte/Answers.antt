use Rattle.std.proofs.Common.{refl, arith}
use Rattle.sd_model_text.specs.Names.{is_name_byte}
use Rattle.sd_key.specs.declared.cleaning.TheConstants.{NAME_BYTES}
use Rattle.sd_key.proofs.TableLemmas.{agree_below, from_table}
use Rattle.sd_key.proofs.cleaning.is_name_byte.Goals as goal

pub returns : goal.returns
unfolding agree_below
returns c = from_table NAME_BYTES is_name_byte c.args.b (omega arith) refl
