-- Which interfaces are exported under their own keys.
use Rattle.std.proofs.Common.{◌≡◌, ℕ, true, inl, inr, List, [], sym, ap, subst, Contains}
use Rattle.wit_data.specs.declared.world.WorldKey.{WorldKey}
use Rattle.wit_data.specs.declared.world.WorldKey.TheVariants.{Name, Interface}
use Rattle.wit_digraph.specs.facts.MemberFacts.{Contains-nil, Contains-here, Contains-cons_cases, Contains-flat_map, Contains-flat_map_cases}
use Rattle.wit_digraph.specs.facts.FreshFacts.{any_from_contains, contains_from_any}
use Rattle.wit_elaboration.specs.Entries.{Entry, key_interface, keyed_interfaces}
use Rattle.wit_elaboration.specs.Imported.{is_exported}

pub key_here : (k : WorldKey) (j : ℕ) → Contains (key_interface k) j → k ≡ Interface j
key_here (Name label) j has = absurd (Contains-nil has)
key_here (Interface i) j has = elim (Contains-cons_cases i j [] has) [ inl same ↦ ap (λ x. Interface x) same | inr none ↦ absurd (Contains-nil none) ]

pub exported_entry : (exports : List Entry) (j : ℕ) → is_exported exports j ≡ true → (e : Entry) × (Contains exports e × (e.0 ≡ Interface j))
exported_entry exports j found =
    let part = Contains-flat_map_cases (λ (e : Entry). key_interface e.0) exports j (contains_from_any j (keyed_interfaces exports) found) in
    (part.0, (part.1.0, key_here part.0.0 j part.1.1))

pub entry_exported : (exports : List Entry) (e : Entry) (j : ℕ) → Contains exports e → e.0 ≡ Interface j → is_exported exports j ≡ true
entry_exported exports e j has is =
    any_from_contains j (keyed_interfaces exports) (Contains-flat_map (λ (e : Entry). key_interface e.0) exports e j has (subst (λ k. Contains (key_interface k) j) (sym is) (Contains-here j [])))

pub id_inj : {i j : ℕ} → Interface i ≡ Interface j → i ≡ j
id_inj same = cc
