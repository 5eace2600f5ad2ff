-- The types that functions that move, and value positions of what moves, name are there.
use Rattle.std.proofs.Common.{◌≡◌, ◌∙◌, inl, inr, ℕ, ◌<◌, length, option_to_list, Some, slice_get, ap, arith, Contains}
use Rattle.std.specs.List.{flat_map}
use Rattle.std.proofs.lemmas.List.{length-map}
use Rattle.std.proofs.lemmas.List.Elements.{All-contains, Contains-append_cases, Contains-append_right}
use Rattle.wit_digraph.specs.facts.MemberFacts.{Contains-flat_map_cases}
use Rattle.wit_digraph.specs.Relation.{direct}
use Rattle.wit_data.specs.Function.{resource_of}
use Rattle.wit_data.specs.Kind.{function_references, referred, type_references, signature_types}
use Rattle.wit_data.specs.facts.ReferenceFacts.{in_referred}
use Rattle.wit_data.specs.declared.function.Function.{Function}
use Rattle.wit_data.specs.declared.types.TypeDef.{TypeDef}
use Rattle.wit_elaboration.specs.Valid.{IsValid}
use Rattle.wit_graph_data.specs.declared.graph.Graph.{Graph}
use Rattle.wit_graph_theory.specs.facts.ListFacts.{from_map, in_row, place_of}
use Rattle.wit_link_spec.specs.facts.RankFacts.{selected_with_index-from}
use Rattle.wit_remap_spec.specs.Selected.{selected_with_index}
use Rattle.wit_remap_spec.specs.Resources.{is_value}
use Rattle.wit_remap_spec.specs.ValueRemap.{positions}
use Rattle.wit_merge_spec.specs.Matches.{GraphMerge}
use Rattle.wit_merge_spec.specs.Merged.{moved_functions, value_remap}
use Rattle.wit_merge_laws.specs.facts.FunctionsThere.{moved_refers}
use Rattle.wit_remap_spec.specs.steps.Parts.{value_positions}
use Rattle.wit_merge_spec.specs.steps.Parts.{moved_types, moves_type}

-- a value position of a function is a reference of it
signature_referred : (f : Function) (t : ℕ) → Contains (signature_types f) t → Contains (function_references f) t
signature_referred f t has = Contains-append_right (option_to_list (resource_of f.kind)) (signature_types f) t has

-- what a type of a valid graph refers to is there
references_there : (g : Graph) → IsValid g → (i : ℕ) (def : TypeDef) → slice_get g.types i ≡ Some def → (t : ℕ) → Contains (referred def.kind) t → t < length g.types
references_there g valid i def at t has =
    let edge = in_row (λ (d : TypeDef). referred d.kind) g.types i def t at has in
    let within : t < length (type_references g.types) = All-contains (λ x. x < length (type_references g.types)) (direct (type_references g.types) i) t (valid.no_cycles.types.in_range i) edge in
    omega (arith, within, length-map g.types (λ (d : TypeDef). referred d.kind))

module _ (m : GraphMerge) (valid : IsValid m.other) where
  -- ---- positions

  type_there : (t : ℕ) → Contains (flat_map (λ (def : TypeDef). value_positions def.kind) (moved_types m)) t → t < length m.other.types
  type_there t has =
      let from = Contains-flat_map_cases (λ (def : TypeDef). value_positions def.kind) (moved_types m) t has in
      let place = place_of (moved_types m) from.0 from.1.0 in
      let taken_from = from_map (λ (e : ℕ × TypeDef). e.1) (selected_with_index (moves_type m) m.other.types) place.0 from.0 place.1 in
      let is = selected_with_index-from (moves_type m) m.other.types place.0 taken_from.0 taken_from.1 in
      let def : TypeDef = from.0 in
      let at : slice_get m.other.types taken_from.0.0 ≡ Some def = is.0 ∙ ap Some taken_from.2 in
      references_there m.other valid taken_from.0.0 def at t (in_referred is_value def.kind t from.1.1)

  function_there : (t : ℕ) → Contains (flat_map signature_types (moved_functions m)) t → t < length m.other.types
  function_there t has =
      let from = Contains-flat_map_cases signature_types (moved_functions m) t has in
      moved_refers m valid from.0 from.1.0 t (signature_referred from.0 t from.1.1)

  -- what stands at a value position is there
  pub position_there : (t : ℕ) → Contains (positions (value_remap m)) t → t < length m.other.types
  position_there t has =
      elim (Contains-append_cases (flat_map (λ (def : TypeDef). value_positions def.kind) (moved_types m)) (flat_map signature_types (moved_functions m)) t has) [
        | inl of_type ↦ type_there t of_type
        | inr of_function ↦ function_there t of_function
      ]
