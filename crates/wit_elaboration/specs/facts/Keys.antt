-- Keys of entries: what `==` of the code tells of them.
use Rattle.std.proofs.Common.{◌≡◌, Bool, false, List, Option, Some, None, refl, sym, ap, ◌∙◌}
use Rattle.std.specs.List.{list_any}
use Rattle.std.specs.Map.{keys_of, lookup}
use Rattle.std.specs.Option.{is_some}
use Rattle.std.proofs.lemmas.Map.Made.{is_some-lookup}
use Rattle.wit_data.specs.declared.world.WorldKey.{WorldKey}
use Rattle.wit_data.specs.declared.world.WorldKey.TheVariants.{Name, Interface}
use Rattle.wit_data.specs.contracts.world.WorldKeyPartialEq.TheImpl.{eq-value}
use Rattle.wit_elaboration.specs.Entries.{Entry, same_key}

key_eq : (a b : WorldKey) → eq-value.it a b ≡ same_key a b
key_eq (Name a) (Name b) = refl
key_eq (Interface i) (Interface j) = refl
key_eq (Name a) (Interface j) = refl
key_eq (Interface i) (Name b) = refl

pub key_eq-same : eq-value.it ≡ same_key
key_eq-same = λ i a b. key_eq a b i

-- what a look-up in the entries finds
pub is_some-lookup_key : (k : WorldKey) (es : List Entry) → is_some (lookup (eq-value.it k) es) ≡ list_any (same_key k) (keys_of es)
is_some-lookup_key k es = is_some-lookup (eq-value.it k) es ∙ ap (λ (eq : WorldKey → WorldKey → Bool). list_any (eq k) (keys_of es)) key_eq-same

none_from_is_some : {X : Type 0} (o : Option X) → is_some o ≡ false → o ≡ None
none_from_is_some None is = refl
none_from_is_some (Some x) is = cc

-- a key that no entry has is not found
pub lookup-absent : (k : WorldKey) (es : List Entry) → false ≡ list_any (same_key k) (keys_of es) → lookup (eq-value.it k) es ≡ None
lookup-absent k es absent = none_from_is_some (lookup (eq-value.it k) es) (is_some-lookup_key k es ∙ sym absent)
