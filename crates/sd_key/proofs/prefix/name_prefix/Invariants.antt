-- The bytes so far are bytes of names, and the hash is theirs.
use Rattle.std.proofs.Common.{◌≡◌, ◌+◌, drop, take}
use Rattle.std.specs.List.{prefix_len}
use Rattle.sd_model_text.specs.Names.{fnv1a, is_name_byte}
use Rattle.sd_key.proofs.prefix.name_prefix.Given as goal

abbrev pub invariant-loop-i : goal.invariant-loop-i
invariant-loop-i l = record {
  len : l.i + prefix_len is_name_byte (drop l.i l.text) ≡ prefix_len is_name_byte l.text;
  hash : l.hash ≡ fnv1a (take l.i l.text);
}
