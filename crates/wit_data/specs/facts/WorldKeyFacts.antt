-- Facts on keys of worlds that are the same, for the proofs of this crate and of the crates above. They say
-- nothing about this crate's code.
use Rattle.std.proofs.Common.{◌≡◌, ℕ, List, false, bytes_eq, nat_eq, refl, ap, sym}
use Rattle.std.specs.Bool.{Decides}
use Rattle.std.specs.Cmp.{IsEquivalence}
use Rattle.std.proofs.lemmas.Bool.Decides.{Decides-like, Decides-eqb, same_from_decides}
use Rattle.std.proofs.lemmas.Slice.Eq.{bytes_eq-Decides}
pub use Rattle.wit_data.specs.Keys.{same_key}
use Rattle.wit_data.specs.declared.world.WorldKey.{WorldKey}
use Rattle.wit_data.specs.declared.world.WorldKey.TheVariants as key

pub same_labels : (m n : List ℕ) → same_key (key.Name m) (key.Name n) ≡ bytes_eq m n
same_labels m n = refl

pub same_interfaces : (i j : ℕ) → same_key (key.Interface i) (key.Interface j) ≡ nat_eq i j
same_interfaces i j = refl

pub label_is_no_interface : (m : List ℕ) (j : ℕ) → same_key (key.Name m) (key.Interface j) ≡ false
label_is_no_interface m j = refl

pub interface_is_no_label : (i : ℕ) (n : List ℕ) → same_key (key.Interface i) (key.Name n) ≡ false
interface_is_no_label i n = refl

-- the test is exact
pub key_is : (j k : WorldKey) → Decides (same_key j k) (j ≡ k)
key_is (key.Name m) (key.Name n) = Decides-like _ (λ h. ap key.Name h) (λ h. cc) (bytes_eq-Decides m n)
key_is (key.Name m) (key.Interface g) = (λ h. cc, λ h. cc)
key_is (key.Interface f) (key.Name n) = (λ h. cc, λ h. cc)
key_is (key.Interface f) (key.Interface g) = Decides-like _ (λ h. ap key.Interface h) (λ h. cc) (Decides-eqb f g)

pub key_laws : IsEquivalence same_key
key_laws = record {
  refl = λ j. (key_is j j).1 refl;
  symm = λ j k. same_from_decides (same_key j k) (same_key k j) (key_is j k) (Decides-like _ (λ h. sym h) (λ h. sym h) (key_is k j));
  congr = λ j k l equal. ap (λ (m : WorldKey). same_key m l) ((key_is j k).0 equal);
}
