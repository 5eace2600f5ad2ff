-- Interfaces that stand among entries under their own keys.
use Rattle.std.proofs.Common.{◌≡◌, ◌∙◌, ◌++◌, ◌+◌, ◌∷◌, [], ℕ, List, Some, Contains, slice_get, take, sym, ap, subst}
use Rattle.std.proofs.lemmas.List.{append-nil}
use Rattle.wit_values.specs.facts.Lists.{take-next_at}
use Rattle.wit_digraph.specs.facts.MemberFacts.{Contains-flat_map, Contains-here}
use Rattle.wit_data.specs.declared.world.WorldKey.{WorldKey}
use Rattle.wit_data.specs.declared.world.WorldKey.TheVariants as key
use Rattle.wit_elaboration.specs.facts.FreshEntries.{keyed_interfaces-append}
use Rattle.wit_elaboration.specs.Entries.{Entry, key_interface, keyed_interfaces}
use Rattle.wit_graph_theory.specs.facts.ListFacts.{contained_at}

-- those of the first entries and one more
pub keyed-next : (entries : List Entry) (i : ℕ) (e : Entry) → slice_get entries i ≡ Some e → keyed_interfaces (take (i + 1) entries) ≡ keyed_interfaces (take i entries) ++ key_interface e.0
keyed-next entries i e at =
    ap keyed_interfaces (take-next_at entries i e at) ∙ keyed_interfaces-append (take i entries) (e ∷ []) ∙ ap (λ (ids : List ℕ). keyed_interfaces (take i entries) ++ ids) (append-nil (key_interface e.0))

-- one of them, by its entry
pub keyed-at : (entries : List Entry) (i : ℕ) (e : Entry) (id : ℕ) → slice_get entries i ≡ Some e → e.0 ≡ key.Interface id → Contains (keyed_interfaces entries) id
keyed-at entries i e id at is =
    Contains-flat_map (λ (e : Entry). key_interface e.0) entries e id (contained_at entries i e at) (subst (λ (k : WorldKey). Contains (key_interface k) id) (sym is) (Contains-here id []))
