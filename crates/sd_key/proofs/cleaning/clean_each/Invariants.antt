-- The bytes so far are the first of those that the start of the name leaves, and `len` counts these.
use Rattle.std.proofs.Common.{◌≡◌, ◌≤◌, length, take}
use Rattle.sd_model_text.specs.Names.{cleaned}
use Rattle.sd_key.specs.Clean.{ends_blank}
use Rattle.sd_key.proofs.cleaning.clean_each.Given as goal

abbrev pub invariant-loop-b : goal.invariant-loop-b
invariant-loop-b l = record {
  first : l.bytes.items ≡ take 255 (cleaned (take l.b-index l.name));
  len : l.len ≡ length (cleaned (take l.b-index l.name));
  short : l.len ≤ l.b-index;
  blank : l.after_blank ≡ ends_blank (take l.b-index l.name);
}
