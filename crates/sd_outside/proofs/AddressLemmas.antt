-- A clone of an address is that address.
use Rattle.std.proofs.Common.{◌≡◌, ℕ, List, ap}
use Rattle.std.proofs.lemmas.List.Elements.{same_from_all_zip}
use Rattle.std.specs.List.{AllZip}
use Rattle.std.specs.contracts.prelude.U8Clone.TheImpl.{is_clone-value}
use Rattle.arrayvec.specs.ArrayVec.{ArrayVec}
use Rattle.sd_outside.specs.declared.address.Address.{Address}
use Rattle.sd_outside.specs.declared.address.Address.TheVariants.{File, Host, Datagrams}
use Rattle.sd_outside.specs.contracts.address.AddressClone.TheImpl.{by_variants}

same_name : (x y : ArrayVec ℕ) → y.items ≡ x.items → y ≡ x
same_name x y e = ap (λ items. record { items = items }) e

same_items : (xs ys : List ℕ) → AllZip (is_clone-value).it xs ys → ys ≡ xs
same_items xs ys h = same_from_all_zip (is_clone-value).it xs ys h (λ x y e. e)

pub same_address : (a b : Address) → by_variants a b → b ≡ a
same_address (File x) (File y) clone = ap File (same_name x y (same_items x.items y.items clone))
same_address (File x) (Host y q) clone = absurd clone
same_address (File x) (Datagrams y q b) clone = absurd clone
same_address (Host x p) (File y) clone = absurd clone
same_address (Host x p) (Host y q) clone = cc (same_name x y (same_items x.items y.items clone.0), clone.1)
same_address (Host x p) (Datagrams y q b) clone = absurd clone
same_address (Datagrams x p a) (File y) clone = absurd clone
same_address (Datagrams x p a) (Host y q) clone = absurd clone
same_address (Datagrams x p a) (Datagrams y q b) clone = cc (same_name x y (same_items x.items y.items clone.0), clone.1.0, clone.1.1)
