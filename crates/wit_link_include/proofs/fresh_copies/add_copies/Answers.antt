use Rattle.std.proofs.Common.{◌≡◌, ◌∙◌, ℕ, List, Some, Contains, is_some, length, nat_eq, ap, slice_get, subst, sym, ◌<◌}
use Rattle.std.specs.Map.{keys_of, lookup}
use Rattle.wit_data.specs.declared.world.IncludeName.{IncludeName}
use Rattle.wit_data.specs.declared.world.World.{World}
use Rattle.wit_graph_data.specs.declared.graph.Graph.{Graph}
use Rattle.wit_remap_spec.specs.Image.{Maps}
use Rattle.wit_labels.specs.Rename.{renamed_label}
use Rattle.wit_link_spec.specs.Include.{belongs_to, copy_maps, is_copied, type_copy}
use Rattle.wit_remap.specs.Grown.{Grown}
use Rattle.wit_remap.specs.facts.GrownFacts.{Grown-same}
use Rattle.wit_link_include.specs.steps.Included.{NamesBelonging, NamesThere, goes, numbered, places, with_images}
use Rattle.wit_link_include.proofs.RisingIds.{numbered-keys}
use Rattle.wit_graph_theory.specs.facts.ListFacts.{get_at}
use Rattle.wit_link_include.proofs.Standing.{copied_there, goes_there, keys_there}
use Rattle.wit_link_include.proofs.SelectedIndices.{goes_where, told_where}
use Rattle.wit_link_include.proofs.fresh_copies.add_copies.Goals as goal
use Rattle.wit_link_spec.specs.steps.Parts.{interface_copy}
use Rattle.wit_remap_spec.specs.steps.Parts.{include_maps}

-- ---- the tables, of one graph

abbrev TypesAt : Graph → ℕ → List (ℕ × ℕ) → Type 0
TypesAt g from table = (world : World) → slice_get g.worlds from ≡ Some world → table ≡ numbered (length g.types) (places (is_copied g from world) g.types)

module _ (g : Graph) (from : ℕ) (world : World) (types interfaces : List (ℕ × ℕ))
    (types_is : types ≡ numbered (length g.types) (places (is_copied g from world) g.types))
    (interfaces_is : interfaces ≡ numbered (length g.interfaces) (places (belongs_to g world) g.interfaces)) where
  types_go : goes types ≡ type_copy g from world
  types_go = λ j t. (ap (λ (table : List (ℕ × ℕ)). goes table t) types_is ∙ goes_where (is_copied g from world) g.types (copied_there g from world) (length g.types) t) j

  interfaces_go : goes interfaces ≡ interface_copy g world
  interfaces_go = λ j i. (ap (λ (table : List (ℕ × ℕ)). goes table i) interfaces_is ∙ goes_where (belongs_to g world) g.interfaces (goes_there g world) (length g.interfaces) i) j

  maps_go : (names : List IncludeName) (into home : ℕ) → include_maps (goes types) (goes interfaces) (renamed_label names) from into home ≡ copy_maps g from world names into home
  maps_go names into home = λ j. include_maps (types_go j) (interfaces_go j) (renamed_label names) from into home

  type_keys : keys_of types ≡ places (is_copied g from world) g.types
  type_keys = ap keys_of types_is ∙ numbered-keys (length g.types) (places (is_copied g from world) g.types)

  interface_keys : keys_of interfaces ≡ places (belongs_to g world) g.interfaces
  interface_keys = ap keys_of interfaces_is ∙ numbered-keys (length g.interfaces) (places (belongs_to g world) g.interfaces)

-- renamings that are those of the include
names_go : (types interfaces : List (ℕ × ℕ)) (made names : List IncludeName) (from into home : ℕ) → made ≡ names
    → include_maps (goes types) (goes interfaces) (renamed_label made) from into home ≡ include_maps (goes types) (goes interfaces) (renamed_label names) from into home
names_go types interfaces made names from into home is = ap (λ (n : List IncludeName). include_maps (goes types) (goes interfaces) (renamed_label n) from into home) is

pub returns-in_err-names-clause-grown : goal.returns-in_err-names-clause-grown
returns-in_err-names-clause-grown c = Grown-same c.args.graph.now

pub copied_types-requires-clause-belonging_interfaces : goal.copied_types-requires-clause-belonging_interfaces
copied_types-requires-clause-belonging_interfaces c =
    let g = c.args.graph.now in
    let table = c.in_ok-interfaces.interfaces in
    subst (λ (x : Graph). (world : World) → slice_get x.worlds c.args.from ≡ Some world → (i : ℕ) → is_some (lookup (nat_eq i) table) ≡ belongs_to x world i) (sym c.in_ok-interfaces.ensures.same)
    (λ world at i. ap (λ (es : List (ℕ × ℕ)). is_some (lookup (nat_eq i) es)) (c.in_ok-interfaces.ensures.table world at)
    ∙ told_where (belongs_to g world) g.interfaces (goes_there g world) (length g.interfaces) i)

pub copied_types-requires-clause-named : goal.copied_types-requires-clause-named
copied_types-requires-clause-named c =
    subst (λ (x : Graph). (world : World) → slice_get x.worlds c.args.from ≡ Some world → NamesThere x world) (sym c.in_ok-interfaces.ensures.same) c.requires.named

pub copied_types-requires-clause-belonging : goal.copied_types-requires-clause-belonging
copied_types-requires-clause-belonging c =
    subst (λ (x : Graph). (world : World) → slice_get x.worlds c.args.from ≡ Some world → NamesBelonging x c.args.from world) (sym c.in_ok-interfaces.ensures.same) c.requires.belonging

pub append_copies-requires-clause-types : goal.append_copies-requires-clause-types
append_copies-requires-clause-types c =
    let g = c.args.graph.now in
    let same : c.copied_types.new.graph ≡ g = c.in_ok-types.ensures.same ∙ c.in_ok-interfaces.ensures.same in
    let tables : TypesAt g c.args.from c.in_ok-types.types = subst (λ (x : Graph). TypesAt x c.args.from c.in_ok-types.types) c.in_ok-interfaces.ensures.same c.in_ok-types.ensures.table in
    let world = get_at g.worlds c.args.from c.requires.there in
    subst (λ (x : Graph). (t : ℕ) → Contains (keys_of c.in_ok-types.types) t → t < length x.types) (sym same)
    (keys_there (is_copied g c.args.from world.0) g.types (length g.types) c.in_ok-types.types (tables world.0 world.1))

pub append_copies-requires-clause-interfaces : goal.append_copies-requires-clause-interfaces
append_copies-requires-clause-interfaces c =
    let g = c.args.graph.now in
    let same : c.copied_types.new.graph ≡ g = c.in_ok-types.ensures.same ∙ c.in_ok-interfaces.ensures.same in
    let world = get_at g.worlds c.args.from c.requires.there in
    subst (λ (x : Graph). (i : ℕ) → Contains (keys_of c.in_ok-interfaces.interfaces) i → i < length x.interfaces) (sym same)
    (keys_there (belongs_to g world.0) g.interfaces (length g.interfaces) c.in_ok-interfaces.interfaces (c.in_ok-interfaces.ensures.table world.0 world.1))

pub returns-clause-maps : goal.returns-clause-maps
returns-clause-maps c = λ world at.
    let g = c.args.graph.now in
    let tables : TypesAt g c.args.from c.in_ok-types.types = subst (λ (x : Graph). TypesAt x c.args.from c.in_ok-types.types) c.in_ok-interfaces.ensures.same c.in_ok-types.ensures.table in
    names_go c.in_ok-types.types c.in_ok-interfaces.interfaces c.in_ok-names.names c.args.names.now c.args.from c.args.into c.args.home c.in_ok-names.ensures
    ∙ maps_go g c.args.from world c.in_ok-types.types c.in_ok-interfaces.interfaces (tables world at) (c.in_ok-interfaces.ensures.table world at) c.args.names.now c.args.into c.args.home

pub returns-clause-ok : goal.returns-clause-ok
returns-clause-ok c = λ world at.
    let g = c.args.graph.now in
    let from : ℕ = c.args.from in
    let same : c.copied_types.new.graph ≡ g = c.in_ok-types.ensures.same ∙ c.in_ok-interfaces.ensures.same in
    let tables : TypesAt g from c.in_ok-types.types = subst (λ (x : Graph). TypesAt x from c.in_ok-types.types) c.in_ok-interfaces.ensures.same c.in_ok-types.ensures.table in
    let types_is = tables world at in
    let interfaces_is = c.in_ok-interfaces.ensures.table world at in
    let copied = is_copied g from world in
    let belonging_interfaces = belongs_to g world in
    let m : Maps = include_maps (goes c.in_ok-types.types) (goes c.in_ok-interfaces.interfaces) (renamed_label c.in_ok-names.names) from c.args.into c.args.home in
    let m_is : m ≡ copy_maps g from world c.args.names.now c.args.into c.args.home =
    names_go c.in_ok-types.types c.in_ok-interfaces.interfaces c.in_ok-names.names c.args.names.now from c.args.into c.args.home c.in_ok-names.ensures ∙ maps_go g from world c.in_ok-types.types c.in_ok-interfaces.interfaces types_is interfaces_is c.args.names.now c.args.into c.args.home in
    c.in_ok-append_copies.ensures.ok copied belonging_interfaces
    (type_keys g from world c.in_ok-types.types c.in_ok-interfaces.interfaces types_is interfaces_is ∙ ap (λ (x : Graph). places copied x.types) (sym same))
    (interface_keys g from world c.in_ok-types.types c.in_ok-interfaces.interfaces types_is interfaces_is ∙ ap (λ (x : Graph). places belonging_interfaces x.interfaces) (sym same))
    ∙ (ap (λ (x : Graph). with_images x m copied belonging_interfaces) same ∙ ap (λ (n : Maps). with_images g n copied belonging_interfaces) m_is)

pub returns-in_err-interfaces-clause-grown : goal.returns-in_err-interfaces-clause-grown
returns-in_err-interfaces-clause-grown c = subst (Grown c.args.graph.now) (sym c.in_err-interfaces.ensures.same) (Grown-same c.args.graph.now)

pub returns-in_err-types-clause-grown : goal.returns-in_err-types-clause-grown
returns-in_err-types-clause-grown c =
    let same : c.copied_types.new.graph ≡ c.args.graph.now = c.in_err-types.ensures.same ∙ c.in_ok-interfaces.ensures.same in
    subst (Grown c.args.graph.now) (sym same) (Grown-same c.args.graph.now)

pub returns-in_err-append_copies-clause-grown : goal.returns-in_err-append_copies-clause-grown
returns-in_err-append_copies-clause-grown c =
    let same : c.copied_types.new.graph ≡ c.args.graph.now = c.in_ok-types.ensures.same ∙ c.in_ok-interfaces.ensures.same in
    subst (λ (g : Graph). Grown g c.append_copies.new.graph) same c.append_copies.ensures.grown

pub returns-clause-grown : goal.returns-clause-grown
returns-clause-grown c =
    let same : c.copied_types.new.graph ≡ c.args.graph.now = c.in_ok-types.ensures.same ∙ c.in_ok-interfaces.ensures.same in
    subst (λ (g : Graph). Grown g c.append_copies.new.graph) same c.append_copies.ensures.grown
