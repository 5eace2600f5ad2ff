-- Interfaces, entries of worlds, and worlds.
use Rattle.std.specs.Prelude.{◌≡◌, ◌≢◌, ℕ, List, [], ◌∷◌, ◌++◌, Some, None, codes}
use Rattle.wit_json.specs.Values.{object_by}
use Rattle.wit_data.specs.New.{new_function, new_interface, new_world}
use Rattle.wit_data.specs.declared.function.FunctionKind.TheVariants as function
use Rattle.wit_data.specs.declared.interface.Interface.{Interface}
use Rattle.wit_data.specs.declared.stability.Stability.TheVariants.{Stable, Unknown}
use Rattle.wit_data.specs.declared.world.WorldItem.{WorldItem}
use Rattle.wit_data.specs.declared.world.WorldItem.TheVariants as item
use Rattle.wit_data.specs.declared.world.WorldKey.{WorldKey}
use Rattle.wit_data.specs.declared.world.WorldKey.TheVariants as key
use Rattle.wit_json.specs.Graph.{compact}
use Rattle.wit_json.specs.Worlds.{json_of_interface, json_of_world, entry_name, json_of_item}
use Rattle.examples_json.specs.values.Gates.{docs_of, release}

-- interface i of package 0 with type t, which is type 7
abbrev pub an_interface : Interface
an_interface =
    record (new_interface (Some (codes "i"))) { types = (codes "t", 7) ∷ []; «package» = Some 0 }

pub record ExamplesOfInterfaces : Type 0 where
  pub whole : compact (json_of_interface an_interface)
      ≡ codes "{\"name\":\"i\",\"types\":{\"t\":7},\"functions\":{},\"package\":0}"
  pub no_type_dropped : compact (json_of_interface an_interface)
      ≢ codes "{\"name\":\"i\",\"types\":{},\"functions\":{},\"package\":0}"
  pub not_next : compact (json_of_interface an_interface)
      ≢ codes "{\"name\":\"i\",\"types\":{\"t\":8},\"functions\":{},\"package\":0}"
  -- one without a name and a package has null there; its docs stand before its package
  pub unnamed : compact (json_of_interface (new_interface None))
      ≡ codes "{\"name\":null,\"types\":{},\"functions\":{},\"package\":null}"
  pub docs : compact
      (json_of_interface (record (new_interface None) { docs = docs_of (Some (codes "I.")) }))
      ≡ codes "{\"name\":null,\"types\":{},\"functions\":{},"
      ++ codes "\"docs\":{\"contents\":\"I.\"},\"package\":null}"
  pub not_last : compact
      (json_of_interface (record (new_interface None) { docs = docs_of (Some (codes "I.")) }))
      ≢ codes "{\"name\":null,\"types\":{},\"functions\":{},"
      ++ codes "\"package\":null,\"docs\":{\"contents\":\"I.\"}}"
  -- a function stands under its name
  pub with_function : compact
      (json_of_interface (record (new_interface None) {
        functions =
            (codes "f", new_function (codes "f") function.Freestanding [] None) ∷ [];
      }))
      ≡ codes "{\"name\":null,\"types\":{},\"functions\":{\"f\":{\"name\":\"f\","
      ++ codes "\"kind\":\"freestanding\",\"params\":[]}},\"package\":null}"

-- what one entry makes of a table
abbrev pub entry_text : WorldKey → WorldItem → List ℕ
entry_text k i = compact (object_by entry_name json_of_item ((k, i) ∷ []))

-- interface i of a world, of which nothing else is said
abbrev pub an_entry : ℕ → WorldItem
an_entry i = item.Interface i Unknown (docs_of None) None None

pub record ExamplesOfWorlds : Type 0 where
  -- an interface under its own key; its docs and its external id aren't in the layout
  pub own_key : entry_text (key.Interface 3)
      (item.Interface 3 Unknown (docs_of (Some (codes "I."))) None (Some (codes "x")))
      ≡ codes "{\"interface-3\":{\"interface\":{\"id\":3}}}"
  pub no_docs_inside : entry_text (key.Interface 3)
      (item.Interface 3 Unknown (docs_of (Some (codes "I."))) None None)
      ≢ codes "{\"interface-3\":{\"interface\":{\"id\":3,\"docs\":{\"contents\":\"I.\"}}}}"
  pub not_next : entry_text (key.Interface 3) (item.Interface 3 Unknown (docs_of None) None None)
      ≢ codes "{\"interface-4\":{\"interface\":{\"id\":3}}}"
  pub gated : entry_text (key.Interface 3)
      (item.Interface 3 (Stable (release 0 2 0) None) (docs_of None) None None)
      ≡ codes "{\"interface-3\":{\"interface\":{\"id\":3,"
      ++ codes "\"stability\":{\"stable\":{\"since\":\"0.2.0\"}}}}}"
  pub no_gate_dropped : entry_text (key.Interface 3)
      (item.Interface 3 (Stable (release 0 2 0) None) (docs_of None) None None)
      ≢ codes "{\"interface-3\":{\"interface\":{\"id\":3}}}"
  -- a label stands as it is
  pub labelled : entry_text (key.Name (codes "l"))
      (item.Interface 3 Unknown (docs_of None) None None)
      ≡ codes "{\"l\":{\"interface\":{\"id\":3}}}"
  -- one that could be taken for a key has a mark, as has one with a mark
  pub marked : entry_text (key.Name (codes "interface-5")) (an_entry 3)
      ≡ codes "{\"%interface-5\":{\"interface\":{\"id\":3}}}"
  pub own_label : entry_text (key.Name (codes "interface-3")) (an_entry 3)
      ≢ codes "{\"interface-3\":{\"interface\":{\"id\":3}}}"
  pub with_zeros : entry_text (key.Name (codes "interface-03")) (an_entry 3)
      ≡ codes "{\"%interface-03\":{\"interface\":{\"id\":3}}}"
  pub no_number : entry_text (key.Name (codes "interface-3a")) (an_entry 3)
      ≡ codes "{\"interface-3a\":{\"interface\":{\"id\":3}}}"
  pub two_marks : entry_text (key.Name (codes "%a")) (an_entry 3)
      ≡ codes "{\"%%a\":{\"interface\":{\"id\":3}}}"
  pub held_type : entry_text (key.Name (codes "t")) (item.Type_ 7 None)
      ≡ codes "{\"t\":{\"type\":7}}"
  pub not_object : entry_text (key.Name (codes "t")) (item.Type_ 7 None)
      ≢ codes "{\"t\":{\"type\":{\"id\":7}}}"
  pub with_function : entry_text (key.Name (codes "f"))
      (item.Function (new_function (codes "f") function.Freestanding [] None))
      ≡ codes "{\"f\":{\"function\":{\"name\":\"f\",\"kind\":\"freestanding\",\"params\":[]}}}"
  -- a whole world
  pub whole : compact (json_of_world
      (record (new_world (codes "w")) {
        imports = (key.Name (codes "t"), item.Type_ 7 None)
            ∷ [];
        «package» = Some 1;
        docs = docs_of (Some (codes "W."));
      }))
      ≡ codes "{\"name\":\"w\",\"imports\":{\"t\":{\"type\":7}},"
      ++ codes "\"exports\":{},\"package\":1,\"docs\":{\"contents\":\"W.\"}}"
  pub not_exported : compact (json_of_world (record (new_world (codes "w"))
      { imports = (key.Name (codes "t"), item.Type_ 7 None) ∷ [] }))
      ≢ codes "{\"name\":\"w\",\"imports\":{},\"exports\":{\"t\":{\"type\":7}},\"package\":null}"
  pub empty : compact (json_of_world (new_world (codes "v")))
      ≡ codes "{\"name\":\"v\",\"imports\":{},\"exports\":{},\"package\":null}"
