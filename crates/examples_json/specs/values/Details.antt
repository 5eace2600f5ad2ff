-- What the layout leaves out, and the whole with it.
use Rattle.std.specs.Prelude.{◌≡◌, ◌≢◌, ℕ, [], ◌∷◌, ◌++◌, Option, Some, None, codes, false, true}
use Rattle.wit_sources.specs.SourceMap.{Sources}
use Rattle.wit_data.specs.New.{new_function, new_interface, new_interface_entry, new_type, new_world}
use Rattle.wit_data.specs.declared.function.Function.{Function}
use Rattle.wit_data.specs.declared.function.FunctionKind.TheVariants as function
use Rattle.wit_data.specs.declared.stability.Stability.TheVariants.{Unknown}
use Rattle.wit_data.specs.declared.types.Case.{Case}
use Rattle.wit_data.specs.declared.types.TypeDef.{TypeDef}
use Rattle.wit_data.specs.declared.types.TypeDefKind.TheVariants as kind
use Rattle.wit_data.specs.declared.types.TypeOwner.TheVariants as owner
use Rattle.wit_data.specs.declared.types.Type_.TheVariants as type
use Rattle.wit_data.specs.declared.world.World.{World}
use Rattle.wit_data.specs.declared.world.WorldItem.TheVariants as item
use Rattle.wit_data.specs.declared.world.WorldKey.TheVariants as key
use Rattle.wit_graph_data.specs.declared.features.Features.{Features}
use Rattle.wit_names.specs.declared.track.TrackRule.TheVariants.{Published, WithPrereleases}
use Rattle.wit_json.specs.Details.{function_details, graph_details, interface_details, item_details, type_details, world_details}
use Rattle.wit_json.specs.Graph.{compact}
use Rattle.wit_json.specs.Whole.{json_of_features, json_of_rule, json_of_sources, json_of_whole}
use Rattle.examples_json.specs.values.Gates.{docs_of}
use Rattle.examples_json.specs.values.Graphs.{no_graph, small_graph}

-- a resource at 3 to 9, called x outside
abbrev pub a_resource : TypeDef
a_resource =
    record (new_type (Some (codes "r")) kind.Resource owner.None)
    { span = Some (3, 9); external_id = Some (codes "x") }

-- a case at a span
abbrev pub a_case : Option (ℕ × ℕ) → Case
a_case span =
    record { name = codes "c"; ty = None; docs = docs_of (Some (codes "C.")); span = span }

abbrev pub a_variant : TypeDef
a_variant = new_type None (kind.Variant (a_case (Some (1, 2)) ∷ a_case None ∷ [])) owner.None

-- f at 10 to 20, with a parameter at 11 to 12
abbrev pub a_function : Function
a_function =
    record (new_function (codes "f") function.Freestanding
    (record { name = codes "a"; ty = type.U8; span = Some (11, 12) } ∷ []) None)
    { span = Some (10, 20) }

abbrev pub a_world : World
a_world =
    record (new_world (codes "w")) {
      imports = (key.Interface 3, new_interface_entry 3) ∷ [];
      exports = (key.Name (codes "f"), item.Function a_function) ∷ [];
      span = Some (0, 30);
    }

pub record ExamplesOfDetails : Type 0 where
  pub placed : compact (type_details a_resource) ≡ codes "{\"span\":[3,9],\"external-id\":\"x\"}"
  pub not_exchanged : compact (type_details a_resource)
      ≢ codes "{\"span\":[9,3],\"external-id\":\"x\"}"
  pub not_dropped : compact (type_details a_resource) ≢ codes "{\"span\":[3,9]}"
  -- a span that is unknown is left out; that of a part is null, so that each stands at its index
  pub nothing : compact (type_details (new_type None kind.Resource owner.None)) ≡ codes "{}"
  pub not_null : compact (type_details (new_type None kind.Resource owner.None))
      ≢ codes "{\"span\":null}"
  pub parts : compact (type_details a_variant) ≡ codes "{\"parts\":[[1,2],null]}"
  pub not_shorter : compact (type_details a_variant) ≢ codes "{\"parts\":[[1,2]]}"
  pub no_parts : compact (type_details (new_type None (kind.Tuple (type.U8 ∷ [])) owner.None))
      ≡ codes "{}"
  pub with_params : compact (function_details a_function)
      ≡ codes "{\"span\":[10,20],\"params\":[[11,12]]}"
  pub no_param_dropped : compact (function_details a_function)
      ≢ codes "{\"span\":[10,20],\"params\":[]}"
  pub functions : compact (interface_details
      (record (new_interface None) { functions = (codes "f", a_function) ∷ [] }))
      ≡ codes "{\"functions\":{\"f\":{\"span\":[10,20],\"params\":[[11,12]]}}}"
  -- the docs of an entry are told here
  pub entry : compact (item_details (item.Interface 3 Unknown (docs_of (Some (codes "E.")))
      (Some (4, 5)) (Some (codes "e"))))
      ≡ codes "{\"docs\":{\"contents\":\"E.\"},\"span\":[4,5],\"external-id\":\"e\"}"
  pub not_without_docs : compact (item_details (item.Interface 3 Unknown
      (docs_of (Some (codes "E."))) (Some (4, 5)) (Some (codes "e"))))
      ≢ codes "{\"span\":[4,5],\"external-id\":\"e\"}"
  pub held_type : compact (item_details (item.Type_ 7 (Some (4, 5)))) ≡ codes "{\"span\":[4,5]}"
  pub entries : compact (world_details a_world)
      ≡ codes "{\"span\":[0,30],\"imports\":{\"interface-3\":{}},"
      ++ codes "\"exports\":{\"f\":{\"span\":[10,20],\"params\":[[11,12]]}}}"
  pub no_exports_as_imports : compact (world_details a_world)
      ≢ codes "{\"span\":[0,30],\"imports\":{\"f\":{\"span\":[10,20],"
      ++ codes "\"params\":[[11,12]]}},\"exports\":{\"interface-3\":{}}}"
  pub lists : compact (graph_details small_graph)
      ≡ codes "{\"worlds\":[{\"imports\":{},\"exports\":{}}],"
      ++ codes "\"interfaces\":[{\"functions\":{}}],\"types\":[{}]}"

-- two features are on
abbrev pub two_features : Features
two_features = record { names = codes "fast" ∷ codes "new" ∷ []; all = false }

abbrev pub all_features : Features
all_features = record { names = []; all = true }

-- two files
abbrev pub two_files : Sources
two_files =
    record {
      files = record { path = codes "a.wit"; contents = codes "A"; start = 0 }
          ∷ record { path = codes "b.wit"; contents = []; start = 2 } ∷ [];
      end = 3;
    }

pub record ExamplesOfWholes : Type 0 where
  pub features : compact (json_of_features two_features)
      ≡ codes "{\"all\":false,\"names\":[\"fast\",\"new\"]}"
  pub not_all : compact (json_of_features two_features)
      ≢ codes "{\"all\":true,\"names\":[\"fast\",\"new\"]}"
  pub not_one : compact (json_of_features two_features)
      ≢ codes "{\"all\":false,\"names\":[\"fast\"]}"
  pub all : compact (json_of_features all_features) ≡ codes "{\"all\":true,\"names\":[]}"
  pub rule : compact (json_of_rule Published) ≡ codes "\"published\""
  pub other_rule : compact (json_of_rule WithPrereleases) ≡ codes "\"with-prereleases\""
  pub files : compact (json_of_sources two_files)
      ≡ codes "[{\"path\":\"a.wit\",\"text\":\"A\"},{\"path\":\"b.wit\",\"text\":\"\"}]"
  pub in_order : compact (json_of_sources two_files)
      ≢ codes "[{\"path\":\"b.wit\",\"text\":\"\"},{\"path\":\"a.wit\",\"text\":\"A\"}]"
  -- paths alone aren't all
  pub with_texts : compact (json_of_sources two_files) ≢ codes "[\"a.wit\",\"b.wit\"]"
  pub whole : compact (json_of_whole no_graph all_features Published two_files)
      ≡ codes "{\"graph\":{\"worlds\":[],\"interfaces\":[],\"types\":[],\"packages\":[]},"
      ++ codes "\"details\":{\"worlds\":[],\"interfaces\":[],\"types\":[]},"
      ++ codes "\"features\":{\"all\":true,\"names\":[]},\"track-rule\":\"published\","
      ++ codes
      "\"sources\":[{\"path\":\"a.wit\",\"text\":\"A\"},{\"path\":\"b.wit\",\"text\":\"\"}]}"
  -- the layout stands apart
  pub not_inside : compact (json_of_whole no_graph all_features Published two_files)
      ≢ codes "{\"worlds\":[],\"interfaces\":[],\"types\":[],\"packages\":[],"
      ++ codes "\"details\":{\"worlds\":[],\"interfaces\":[],\"types\":[]},"
      ++ codes "\"features\":{\"all\":true,\"names\":[]},\"track-rule\":\"published\","
      ++ codes "\"sources\":[{\"path\":\"a.wit\",\"text\":\"A\"},"
      ++ codes "{\"path\":\"b.wit\",\"text\":\"\"}]}"
