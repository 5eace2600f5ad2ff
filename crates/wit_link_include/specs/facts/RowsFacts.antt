-- What the interfaces of a graph use stays what it was, where the graph grows: of a valid graph, and of one that is partially linked.
-- For the proofs of the crates above.
use Rattle.std.proofs.Common.{◌≡◌, ◌∙◌, ℕ, ◌<◌, List, ◌++◌, length, take, drop, Option, None, Some, option_and_then, slice_get, refl, sym, ap, Contains, arith}
use Rattle.std.proofs.lemmas.List.{length-map, take-append-drop}
use Rattle.std.proofs.lemmas.List.Elements.{All-contains}
use Rattle.wit_values.specs.facts.Lists.{slice_get-append}
use Rattle.wit_data.specs.Each.{EachAt}
use Rattle.wit_data.specs.Ownership.{ListsOwn}
use Rattle.wit_data.specs.Kind.{referred, type_references}
use Rattle.wit_data.specs.Uses.{alias_target, interface_uses, other_owner, type_interface_dep, uses_of}
use Rattle.wit_data.specs.declared.interface.Interface.{Interface}
use Rattle.wit_data.specs.declared.types.TypeDef.{TypeDef}
use Rattle.wit_data.specs.declared.types.TypeOwner.{TypeOwner}
use Rattle.wit_data.specs.declared.types.TypeOwner.TheVariants as owner
use Rattle.wit_digraph.specs.Relation.{direct, IsAcyclic}
use Rattle.wit_elaboration.specs.Elaboration.{graph_uses}
use Rattle.wit_elaboration.specs.Valid.{IsValid}
use Rattle.wit_graph_data.specs.declared.graph.Graph.{Graph}
use Rattle.wit_graph_theory.specs.facts.GoodTypes.{alias_referred}
use Rattle.wit_graph_theory.specs.facts.ListFacts.{found_at, get_at, in_row}
use Rattle.wit_remap.specs.Grown.{Grown}
use Rattle.wit_link_spec.specs.facts.CanonicalStays.{dep_of, filter_map_agrees, map_agrees, named_dep}
use Rattle.wit_link_spec.specs.laws.StageFacts.{IsPartiallyLinked}

module _ (g : Graph) (references : IsAcyclic (type_references g.types)) (own : EachAt (ListsOwn g.types) g.interfaces) (more : List TypeDef) where
  -- what an alias names is there
  target_there : (id : ℕ) (def : TypeDef) (t : ℕ) → slice_get g.types id ≡ Some def → alias_target def.kind ≡ Some t → t < length g.types
  target_there id def t at is =
      let has : Contains (direct (type_references g.types) id) t = in_row (λ (d : TypeDef). referred d.kind) g.types id def t at (alias_referred def.kind t is) in
      let within : t < length (type_references g.types) = All-contains (λ j. j < length (type_references g.types)) (direct (type_references g.types) id) t (references.in_range id) has in
      let long : length (type_references g.types) ≡ length g.types = length-map g.types (λ (d : TypeDef). referred d.kind) in
      omega (arith, within, long)

  dep_stays : (by : TypeOwner) (target : Option ℕ) → ((t : ℕ) → target ≡ Some t → t < length g.types) → option_and_then (named_dep (g.types ++ more) by) target ≡ option_and_then (named_dep g.types by) target
  dep_stays by None there = refl
  dep_stays by (Some t) there =
      let named = get_at g.types t (there t refl) in
      ap (λ (o : Option TypeDef). option_and_then (λ (n : TypeDef). other_owner by n.owner) o) (slice_get-append g.types more t named.0 named.1 ∙ sym named.1)

  type_stays : (id : ℕ) (def : TypeDef) → slice_get g.types id ≡ Some def → type_interface_dep (g.types ++ more) id ≡ type_interface_dep g.types id
  type_stays id def at =
      dep_of (g.types ++ more) id def (slice_get-append g.types more id def at) ∙ dep_stays def.owner (alias_target def.kind) (λ t is. target_there id def t at is) ∙ sym (dep_of g.types id def at)

  interface_stays : (i : ℕ) (interface : Interface) → slice_get g.interfaces i ≡ Some interface → interface_uses (g.types ++ more) interface ≡ interface_uses g.types interface
  interface_stays i interface at =
      filter_map_agrees (λ (e : List ℕ × ℕ). type_interface_dep (g.types ++ more) e.1) (λ (e : List ℕ × ℕ). type_interface_dep g.types e.1) interface.types
      (λ k e is.
      let def = found_at (λ (def : TypeDef). (def.name ≡ Some e.0) × (def.owner ≡ owner.Interface i)) g.types e.1 (own i interface at k e is) in
      type_stays e.1 def.0 def.1)

  rows_agree : uses_of (g.types ++ more) g.interfaces ≡ uses_of g.types g.interfaces
  rows_agree = map_agrees (interface_uses (g.types ++ more)) (interface_uses g.types) g.interfaces interface_stays

-- rows of a graph are those of its interfaces where it has grown
rows_stay : (rows : List (List ℕ)) (g g' : Graph) → IsAcyclic (type_references g.types) → EachAt (ListsOwn g.types) g.interfaces → Grown g g' → rows ≡ graph_uses g → rows ≡ uses_of g'.types (take (length rows) g'.interfaces)
rows_stay rows g g' references own grown is =
    let long : length rows ≡ length g.interfaces = ap length is ∙ length-map g.interfaces (interface_uses g.types) in
    let types : g.types ++ drop (length g.types) g'.types ≡ g'.types = ap (λ (l : List TypeDef). l ++ drop (length g.types) g'.types) (sym grown.types) ∙ take-append-drop (length g.types) g'.types in
    is ∙ sym (rows_agree g references own (drop (length g.types) g'.types)) ∙ ap (λ (l : List TypeDef). uses_of l g.interfaces) types
    ∙ ap (uses_of g'.types) (sym grown.interfaces) ∙ ap (λ (n : ℕ). uses_of g'.types (take n g'.interfaces)) (sym long)

pub rows_on_its_way : (rows : List (List ℕ)) (g g' : Graph) → IsPartiallyLinked g → Grown g g' → rows ≡ graph_uses g → rows ≡ uses_of g'.types (take (length rows) g'.interfaces)
rows_on_its_way rows g g' on = rows_stay rows g g' on.references (λ i interface at. (on.interfaces i interface at).own_types)

pub rows_of_valid : (rows : List (List ℕ)) (g g' : Graph) → IsValid g → Grown g g' → rows ≡ graph_uses g → rows ≡ uses_of g'.types (take (length rows) g'.interfaces)
rows_of_valid rows g g' valid = rows_stay rows g g' valid.no_cycles.types valid.well_formed.owners.own_types
