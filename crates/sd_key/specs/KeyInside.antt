-- What a key keeps of its fields.
use Rattle.std.specs.Prelude.{◌≡◌, ◌≤◌, length}
use Rattle.sd_model_text.specs.Names.{fnv1a}
use Rattle.sd_key.specs.declared.key.Key.TheInside.{Inside}

-- at most 255 bytes, and their hash
pub record IsKey (k : Inside) : Type 0 where
  pub short : length k.bytes.items ≤ 255
  pub hash : k.hash ≡ fnv1a k.bytes.items
