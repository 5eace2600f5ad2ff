-- A graph with what stands beside it reads back.
use Rattle.std.proofs.Common.{◌≡◌, ◌∙◌, ℕ, suc, Bool, true, false, ◌||◌, List, [], ◌∷◌, ◌++◌, length, map, Some, Ok, refl, sym, ap, subst, codes, slice_get, if◌then◌else◌, bytes_eq, append-nil, append_assoc, arith, fold, zero, cond, Option, None}
use Rattle.wit_data.specs.Each.{Each}
use Rattle.std.proofs.lemmas.Option.{slice_get_within}
use Rattle.std.proofs.lemmas.Slice.Eq.{bytes_eq-Decides}
use Rattle.std.specs.List.{list_any}
use Rattle.json.specs.Find.{get}
use Rattle.json.specs.Json.{Json}
use Rattle.json.specs.Json as json
use Rattle.wit_values.specs.Table.{HasDistinctKeys}
use Rattle.wit_values.specs.facts.Lists.{slice_get-behind, slice_get-append}
use Rattle.wit_data.specs.declared.interface.Interface.{Interface}
use Rattle.wit_data.specs.declared.types.TypeDef.{TypeDef}
use Rattle.wit_data.specs.declared.world.World.{World}
use Rattle.wit_names.specs.declared.package_name.PackageName.{PackageName}
use Rattle.wit_names.specs.declared.track.TrackRule.{TrackRule}
use Rattle.wit_names.specs.declared.track.TrackRule.TheVariants.{Published, WithPrereleases}
use Rattle.wit_sources.specs.SourceMap.{Sources}
use Rattle.wit_graph_data.specs.declared.features.Features.{Features}
use Rattle.wit_graph_data.specs.declared.graph.Graph.{Graph}
use Rattle.wit_graph_data.specs.declared.graph.Package.{Package}
use Rattle.wit_json.specs.Details.{graph_details, interface_details, type_details, world_details}
use Rattle.wit_json.specs.Graph.{json_of_graph, json_of_package}
use Rattle.wit_json.specs.Types.{json_of_type_def}
use Rattle.wit_json.specs.Values as written
use Rattle.wit_json.specs.Values.{json_of_text}
use Rattle.wit_json.specs.Whole.{json_of_features, json_of_rule, json_of_sources}
use Rattle.wit_json.specs.Worlds.{json_of_interface, json_of_world}
use Rattle.wit_json_graphs.specs.Details.{graph_with, interface_with, list_with, type_with_details, world_with}
use Rattle.wit_json_graphs.specs.Resolves.{read_resolve}
use Rattle.wit_json_graphs.specs.declared.resolves.ResolveParts.{ResolveParts}
use Rattle.wit_json_graphs.specs.Writable.{AreApart, AreWritableSources, IsWritableGraph}
use Rattle.wit_json_graphs.specs.laws.ReadBack.{ResolvesReadBack}
use Rattle.wit_json_reading.specs.Features.{read_features, read_names, read_rule, names_with}
use Rattle.wit_json_reading.specs.Graphs.{homes_from, read_graph, read_graph_package}
use Rattle.wit_json_reading.specs.Groups.{read_sources}
use Rattle.wit_json_reading.specs.Reading.{read_or, Reading, ◌>>=◌, read_list, only, read_optional, read_required, under, read_leaving_out}
use Rattle.wit_json_reading.specs.Types.{read_type_def}
use Rattle.wit_json_reading.specs.Values.{read_boolean, read_text}
use Rattle.wit_json_reading.specs.Worlds.{read_interface, read_world}
use Rattle.wit_json_reading.specs.declared.fault.Step.TheVariants as step
use Rattle.wit_json_graphs.proofs.Bare.{bare_type, reads_bare_type}
use Rattle.wit_json_graphs.proofs.DetailsRead.{interface_complete, list_complete, type_complete, world_complete}
use Rattle.wit_json_graphs.proofs.BareThings.{bare_interface, bare_world, reads_bare_interface, reads_bare_world, reads_home_package, reads_homes}
use Rattle.wit_json_graphs.proofs.Slots.{Slot, get_slot, only_slots, slots}
use Rattle.wit_json_graphs.proofs.Sources.{reads_sources}
use Rattle.wit_json_graphs.proofs.Steps.{all_3, all_4, reads_list, reads_list_as, reads_optional, reads_required, followed}

-- ---- the layout

-- a graph read_leaving_out what its details have
abbrev bare_graph : Graph → Graph
bare_graph g = record g { types = map bare_type g.types; interfaces = map bare_interface g.interfaces; worlds = map bare_world g.worlds }

names_there : (g : Graph) → IsWritableGraph g → homes_from [] g.packages ≡ Ok g.package_names
names_there g fits =
    reads_homes g.packages (subst (λ (names : List (PackageName × ℕ)). HasDistinctKeys names) fits.named fits.names_differ) ∙ ap Ok (sym fits.named)

abbrev graph_by : List World → List Interface → List TypeDef → List Package → List (PackageName × ℕ) → Graph
graph_by worlds interfaces types packages names = record { types = types; interfaces = interfaces; worlds = worlds; packages = packages; package_names = names }

-- what is read behind the packages, behind the types, and so on
abbrev behind_packages : List World → List Interface → List TypeDef → List Package → Reading Graph
behind_packages worlds interfaces types packages = under (step.Member (codes "packages")) (homes_from [] packages) >>= λ names. Ok (graph_by worlds interfaces types packages names)

abbrev behind_types : Json → List World → List Interface → List TypeDef → Reading Graph
behind_types j worlds interfaces types = read_required (read_list read_graph_package) (codes "packages") j >>= λ packages. behind_packages worlds interfaces types packages

abbrev behind_interfaces : Json → List World → List Interface → Reading Graph
behind_interfaces j worlds interfaces = read_required (read_list read_type_def) (codes "types") j >>= λ types. behind_types j worlds interfaces types

abbrev behind_worlds : Json → List World → Reading Graph
behind_worlds j worlds = read_required (read_list read_interface) (codes "interfaces") j >>= λ interfaces. behind_interfaces j worlds interfaces

abbrev behind_names : Json → Reading Graph
behind_names j = read_required (read_list (read_leaving_out (codes "includes") read_world)) (codes "worlds") j >>= λ worlds. behind_worlds j worlds

reads_bare_graph : (g : Graph) → IsWritableGraph g → read_graph (json_of_graph g) ≡ Ok (bare_graph g)
unfolding read_graph
reads_bare_graph g fits =
    let ss : List Slot =
    (codes "worlds", Some (written.list_of json_of_world g.worlds)) ∷ (codes "interfaces", Some (written.list_of json_of_interface g.interfaces))
    ∷ (codes "types", Some (written.list_of json_of_type_def g.types)) ∷ (codes "packages", Some (written.list_of json_of_package g.packages)) ∷ [] in
    let j = slots ss in
    let ws : List World = map bare_world g.worlds in
    let is : List Interface = map bare_interface g.interfaces in
    let ts : List TypeDef = map bare_type g.types in
    followed (only (codes "worlds" ∷ codes "interfaces" ∷ codes "types" ∷ codes "packages" ∷ []) j) (λ _. behind_names j) tt (Ok (bare_graph g))
    (only_slots (codes "worlds" ∷ codes "interfaces" ∷ codes "types" ∷ codes "packages" ∷ []) ss refl)
    (followed (read_required (read_list (read_leaving_out (codes "includes") read_world)) (codes "worlds") j) (behind_worlds j) ws (Ok (bare_graph g))
    (reads_required (read_list (read_leaving_out (codes "includes") read_world)) (codes "worlds") j (written.list_of json_of_world g.worlds) ws (get_slot (codes "worlds") ss)
    (reads_list_as (read_leaving_out (codes "includes") read_world) bare_world json_of_world g.worlds (λ i w at. reads_bare_world w (fits.worlds i w at) (fits.world_homes i w at))))
    (followed (read_required (read_list read_interface) (codes "interfaces") j) (behind_interfaces j ws) is (Ok (bare_graph g))
    (reads_required (read_list read_interface) (codes "interfaces") j (written.list_of json_of_interface g.interfaces) is (get_slot (codes "interfaces") ss)
    (reads_list_as read_interface bare_interface json_of_interface g.interfaces (λ n i at. reads_bare_interface i (fits.interfaces n i at) (fits.interface_homes n i at))))
    (followed (read_required (read_list read_type_def) (codes "types") j) (behind_types j ws is) ts (Ok (bare_graph g))
    (reads_required (read_list read_type_def) (codes "types") j (written.list_of json_of_type_def g.types) ts (get_slot (codes "types") ss)
    (reads_list_as read_type_def bare_type json_of_type_def g.types (λ i def at. reads_bare_type def (fits.types i def at))))
    (followed (read_required (read_list read_graph_package) (codes "packages") j) (behind_packages ws is ts) g.packages (Ok (bare_graph g))
    (reads_required (read_list read_graph_package) (codes "packages") j (written.list_of json_of_package g.packages) g.packages (get_slot (codes "packages") ss)
    (reads_list read_graph_package json_of_package g.packages (λ i p at. reads_home_package p (fits.packages i p at))))
    (followed (under (step.Member (codes "packages")) (homes_from [] g.packages)) (λ names. Ok (graph_by ws is ts g.packages names)) g.package_names (Ok (bare_graph g))
    (ap (under (step.Member (codes "packages"))) (names_there g fits)) refl)))))

graph_complete : (g : Graph) → IsWritableGraph g → graph_with (bare_graph g) (graph_details g) ≡ Ok g
unfolding graph_with
graph_complete g fits =
    let ss : List Slot =
    (codes "worlds", Some (written.list_of world_details g.worlds)) ∷ (codes "interfaces", Some (written.list_of interface_details g.interfaces))
    ∷ (codes "types", Some (written.list_of type_details g.types)) ∷ [] in
    let j = slots ss in
    all_4 (λ (_ : Unit {0}) (worlds : List World) (interfaces : List Interface) (types : List TypeDef).
    let it : Graph = record g { worlds = worlds; interfaces = interfaces; types = types } in it)
    (only_slots (codes "worlds" ∷ codes "interfaces" ∷ codes "types" ∷ []) ss refl)
    (reads_required (list_with world_with (map bare_world g.worlds)) (codes "worlds") j (written.list_of world_details g.worlds) g.worlds (get_slot (codes "worlds") ss)
    (list_complete world_with bare_world world_details g.worlds (λ i w at. world_complete w (fits.worlds i w at) (fits.no_includes i w at))))
    (reads_required (list_with interface_with (map bare_interface g.interfaces)) (codes "interfaces") j (written.list_of interface_details g.interfaces) g.interfaces (get_slot (codes "interfaces") ss)
    (list_complete interface_with bare_interface interface_details g.interfaces (λ n i at. interface_complete i (fits.interfaces n i at))))
    (reads_required (list_with type_with_details (map bare_type g.types)) (codes "types") j (written.list_of type_details g.types) g.types (get_slot (codes "types") ss)
    (list_complete type_with_details bare_type type_details g.types (λ i def at. type_complete def (fits.types i def at))))

-- ---- features

neither : (a b : Bool) → a ≡ false → b ≡ false → (a || b) ≡ false
neither a b first second = rw first second

none_same : (done : List (List ℕ)) (name : List ℕ) → ((i : ℕ) → slice_get done i ≡ Some name → ⊥) → list_any (bytes_eq name) done ≡ false
none_same [] name none = refl
none_same (d ∷ done) name none = neither (bytes_eq name d) (list_any (bytes_eq name) done) (other (bytes_eq name d) refl) (none_same done name (λ i at. none (suc i) at))
  where
    other : (b : Bool) → bytes_eq name d ≡ b → b ≡ false
    other true same = absurd (none 0 (ap Some (sym ((bytes_eq-Decides name d).0 same))))
    other false differs = refl

reads_names : (done names : List (List ℕ)) → AreApart (done ++ names) → fold names_with done names ≡ done ++ names
reads_names done [] apart = sym (append-nil done)
reads_names done (name ∷ names) apart =
    let new : list_any (bytes_eq name) done ≡ false =
    none_same done name (λ i at. let within = slice_get_within done i name at in
    let same = apart i (length done) name (slice_get-append done (name ∷ names) i name at) (slice_get-behind done names name) in omega (arith, within, same)) in
    let longer : (done ++ name ∷ []) ++ names ≡ done ++ name ∷ names = append_assoc done (name ∷ []) names in
    ap (λ (b : Bool). fold names_with (if b then done else done ++ name ∷ []) names) new
    ∙ reads_names (done ++ name ∷ []) names (subst (λ (all : List (List ℕ)). AreApart all) (sym longer) apart) ∙ longer

reads_name_set : (names : List (List ℕ)) → AreApart names → read_names (written.list_of json_of_text names) ≡ Ok names
unfolding read_names
reads_name_set names apart =
    followed (read_list read_text (written.list_of json_of_text names)) (λ texts. Ok (fold names_with [] texts)) names (Ok names) (reads_list read_text json_of_text names (λ i name at. refl))
    (ap Ok (reads_names [] names apart))

reads_features : (features : Features) → AreApart features.names → read_features (json_of_features features) ≡ Ok features
unfolding read_features
reads_features f apart =
    let ss : List Slot = (codes "all", Some (json.boolean f.all)) ∷ (codes "names", Some (written.list_of json_of_text f.names)) ∷ [] in
    let j = slots ss in
    all_3 (λ (_ : Unit {0}) (all : Bool) (names : List (List ℕ)). let it : Features = record { names = names; all = all } in it)
    (only_slots (codes "all" ∷ codes "names" ∷ []) ss refl)
    (reads_required read_boolean (codes "all") j (json.boolean f.all) f.all (get_slot (codes "all") ss) refl)
    (reads_required read_names (codes "names") j (written.list_of json_of_text f.names) f.names (get_slot (codes "names") ss) (reads_name_set f.names apart))

reads_rule : (rule : TrackRule) → read_rule (json_of_rule rule) ≡ Ok rule
unfolding read_rule
reads_rule Published = refl
reads_rule WithPrereleases = refl

-- ---- what stands beside a graph

details_there : (g : Graph) (j : Json) → IsWritableGraph g → get (codes "details") j ≡ Some (graph_details g)
    → read_or (graph_with (bare_graph g)) (bare_graph g) (codes "details") j ≡ Ok g
unfolding read_or
details_there g j fits there =
    followed (read_optional (graph_with (bare_graph g)) (codes "details") j) _ (Some g) (Ok g)
    (reads_optional (graph_with (bare_graph g)) graph_details (codes "details") j (Some g) there (graph_complete g fits)) refl

features_there : (features : Features) (j : Json) → AreApart features.names → get (codes "features") j ≡ Some (json_of_features features) → read_or read_features (record { names = []; all = false }) (codes "features") j ≡ Ok features
unfolding read_or
features_there features j apart there =
    followed (read_optional read_features (codes "features") j) _ (Some features) (Ok features)
    (reads_optional read_features json_of_features (codes "features") j (Some features) there (reads_features features apart)) refl

rule_there : (rule : TrackRule) (j : Json) → get (codes "track-rule") j ≡ Some (json_of_rule rule) → read_or read_rule Published (codes "track-rule") j ≡ Ok rule
unfolding read_or
rule_there rule j there =
    followed (read_optional read_rule (codes "track-rule") j) _ (Some rule) (Ok rule) (reads_optional read_rule json_of_rule (codes "track-rule") j (Some rule) there (reads_rule rule)) refl

sources_there : (sources : Sources) (j : Json) → AreWritableSources sources → get (codes "sources") j ≡ Some (json_of_sources sources) → read_or read_sources (record { files = []; end = 0 }) (codes "sources") j ≡ Ok sources
unfolding read_or
sources_there sources j fits there =
    followed (read_optional read_sources (codes "sources") j) _ (Some sources) (Ok sources)
    (reads_optional read_sources json_of_sources (codes "sources") j (Some sources) there (reads_sources sources fits)) refl

abbrev parts_by : Graph → Features → TrackRule → Sources → ResolveParts
parts_by graph features rule sources = record { graph = graph; features = features; source_map = sources; track_rule = rule }

-- what is read behind the graph, and behind the names
abbrev behind_graph : Json → Graph → Reading ResolveParts
behind_graph j graph =
    read_or (graph_with graph) graph (codes "details") j >>= λ whole. read_or read_features (record { names = []; all = false }) (codes "features") j
    >>= λ features. read_or read_rule Published (codes "track-rule") j >>= λ rule. read_or read_sources (record { files = []; end = 0 }) (codes "sources") j
    >>= λ sources. Ok (parts_by whole features rule sources)

abbrev behind_all : Json → Reading ResolveParts
behind_all j = read_required read_graph (codes "graph") j >>= λ graph. behind_graph j graph

pub resolves_read_back : ResolvesReadBack
unfolding read_resolve
resolves_read_back parts fits =
    let g = parts.graph in
    let ss : List Slot =
    (codes "graph", Some (json_of_graph g)) ∷ (codes "details", Some (graph_details g)) ∷ (codes "features", Some (json_of_features parts.features))
    ∷ (codes "track-rule", Some (json_of_rule parts.track_rule)) ∷ (codes "sources", Some (json_of_sources parts.source_map)) ∷ [] in
    let j = slots ss in
    followed (only (codes "graph" ∷ codes "details" ∷ codes "features" ∷ codes "track-rule" ∷ codes "sources" ∷ []) j) (λ _. behind_all j) tt (Ok parts)
    (only_slots (codes "graph" ∷ codes "details" ∷ codes "features" ∷ codes "track-rule" ∷ codes "sources" ∷ []) ss refl)
    (followed (read_required read_graph (codes "graph") j) (behind_graph j) (bare_graph g) (Ok parts)
    (reads_required read_graph (codes "graph") j (json_of_graph g) (bare_graph g) (get_slot (codes "graph") ss) (reads_bare_graph g fits.graph))
    (all_4 parts_by
    (details_there g j fits.graph (get_slot (codes "details") ss))
    (features_there parts.features j fits.features (get_slot (codes "features") ss))
    (rule_there parts.track_rule j (get_slot (codes "track-rule") ss))
    (sources_there parts.source_map j fits.sources (get_slot (codes "sources") ss))))
