-- What a look-up in a world's imports tells of the types that the world lists.
use Rattle.std.proofs.Common.{◌≡◌, ℕ, List, [], flat_map, Option, Some, None, refl, ap, sym, subst, inl, inr}
use Rattle.std.specs.Prelude.{Contains}
use Rattle.std.specs.List.{IsDistinct}
use Rattle.std.specs.Map.{lookup, keys_of}
use Rattle.std.proofs.lemmas.Map.Views.{Contains-from_lookup, lookup-from_Contains}
use Rattle.wit_digraph.specs.facts.MemberFacts.{Contains-nil, Contains-here, Contains-cons_cases, Contains-flat_map, Contains-flat_map_cases}
use Rattle.wit_data.specs.Ownership.{entry_type}
use Rattle.wit_data.specs.steps.Ownership.{IsTypeItem}
use Rattle.wit_data.specs.facts.WorldKeyFacts.{key_is, key_laws, same_key}
use Rattle.wit_data.specs.declared.world.WorldItem.{WorldItem}
use Rattle.wit_data.specs.declared.world.WorldKey.{WorldKey}
use Rattle.wit_data.specs.declared.world.WorldItem.TheVariants as item
use Rattle.wit_data.specs.declared.world.WorldKey.TheVariants as key

-- an entry that lists a type
listed_by : (k : WorldKey) (v : WorldItem) (name : List ℕ) (id : ℕ) → Contains (entry_type k v) (name, id)
    → (span : Option (ℕ × ℕ)) × ((k ≡ key.Name name) × (v ≡ item.Type_ id span))
listed_by (key.Name m) (item.Type_ j span) name id has =
    elim (Contains-cons_cases (m, j) (name, id) [] has) [
      | inl same ↦ (span, (ap (λ (e : List ℕ × ℕ). key.Name e.0) same, ap (λ (e : List ℕ × ℕ). item.Type_ e.1 span) same))
      | inr none ↦ absurd (Contains-nil none)
    ]
listed_by (key.Name m) (item.Interface j stability docs span external_id) name id has = absurd (Contains-nil has)
listed_by (key.Name m) (item.Function f) name id has = absurd (Contains-nil has)
listed_by (key.Interface f) v name id has = absurd (Contains-nil has)

abbrev types_in : List (WorldKey × WorldItem) → List (List ℕ × ℕ)
types_in imports = flat_map (λ (e : WorldKey × WorldItem). entry_type e.0 e.1) imports

-- a look-up that finds a type item finds what the world lists
pub listed_from_lookup : (imports : List (WorldKey × WorldItem)) (name : List ℕ) (id : ℕ) → IsTypeItem (lookup (same_key (key.Name name)) imports) id → Contains (types_in imports) (name, id)
listed_from_lookup imports name id = by (lookup (same_key (key.Name name)) imports) refl
  where
    by : (o : Option WorldItem) → lookup (same_key (key.Name name)) imports ≡ o → IsTypeItem o id → Contains (types_in imports) (name, id)
    by None found h = absurd h
    by (Some (item.Type_ j span)) found h =
        subst (λ (i : ℕ). Contains (types_in imports) (name, i)) h
        (Contains-flat_map (λ (e : WorldKey × WorldItem). entry_type e.0 e.1) imports (key.Name name, item.Type_ j span) (name, j)
        (Contains-from_lookup (λ x y equal. (key_is x y).0 equal) (key.Name name) (item.Type_ j span) imports found) (Contains-here (name, j) []))
    by (Some (item.Interface j stability docs span external_id)) found h = absurd h
    by (Some (item.Function f)) found h = absurd h

-- and what the world lists is found
pub lookup_from_listed : (imports : List (WorldKey × WorldItem)) (name : List ℕ) (id : ℕ) → IsDistinct same_key (keys_of imports) → Contains (types_in imports) (name, id)
    → IsTypeItem (lookup (same_key (key.Name name)) imports) id
lookup_from_listed imports name id apart has =
    let entry = Contains-flat_map_cases (λ (e : WorldKey × WorldItem). entry_type e.0 e.1) imports (name, id) has in
    let parts = listed_by entry.0.0 entry.0.1 name id entry.1.1 in
    let there : Contains imports (key.Name name, item.Type_ id parts.0) =
    subst (λ (k : WorldKey). Contains imports (k, item.Type_ id parts.0)) parts.1.0 (subst (λ (v : WorldItem). Contains imports (entry.0.0, v)) parts.1.1 entry.1.0) in
    let found : lookup (same_key (key.Name name)) imports ≡ Some (item.Type_ id parts.0) = lookup-from_Contains key_laws (key.Name name) (item.Type_ id parts.0) imports apart there in
    subst (λ (o : Option WorldItem). IsTypeItem o id) (sym found) refl
