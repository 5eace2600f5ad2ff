-- What the table of names says of one small graph, and what has no name there.
use Rattle.std.specs.Prelude.{◌≡◌, ◌≢◌, true, false, [], ◌∷◌, None, Some, codes}
use Rattle.std.specs.Borrow.{Bor}
use Rattle.wit_data.specs.declared.abi.LiftLowerAbi.TheVariants.{Sync, AsyncCallback, AsyncStackful}
use Rattle.wit_data.specs.declared.abi.ManglingAndAbi.TheVariants.{Standard32, Legacy}
use Rattle.wit_data.specs.declared.function.Function.{Function}
use Rattle.wit_data.specs.declared.world.WorldKey.{WorldKey}
use Rattle.wit_data.specs.declared.types.TypeDefKind.TheVariants as kind
use Rattle.wit_data.specs.declared.types.Type_.TheVariants as type
use Rattle.wit_data.specs.declared.world.WorldKey.TheVariants as key
use Rattle.wit_graph_data.specs.examples.Samples.{function_of, interface_of, no_docs, type_in, unnamed}
use Rattle.wit_elaboration.specs.examples.Examples.{foo_x}
use Rattle.wit_graph_data.specs.declared.graph.Graph.{Graph}
use Rattle.wit_core_names.specs.Names.{can_name_export, can_name_import, export_name, import_names}
use Rattle.wit_core_names.specs.declared.export.WasmExport.TheVariants as exports
use Rattle.wit_core_names.specs.declared.export.WasmExportKind.TheVariants.{Normal, PostReturn, Callback}
use Rattle.wit_core_names.specs.declared.import.FutureIntrinsic.TheVariants as future
use Rattle.wit_core_names.specs.declared.import.ResourceIntrinsic.TheVariants.{ImportedDrop, ExportedNew, ExportedRep}
use Rattle.wit_core_names.specs.declared.import.StreamIntrinsic.TheVariants as stream
use Rattle.wit_core_names.specs.declared.import.WasmImport.TheVariants as imports

-- package foo:x@0.2.1 of interface x, with resource r, a future and a future of it; interface 1 has no name
abbrev pub named_graph : Graph
named_graph = record {
  types =
      type_in 0 (codes "r") kind.Resource ∷ unnamed (kind.Future (Some type.U32))
      ∷ unnamed (kind.Future (Some (type.Id 1))) ∷ [];
  interfaces = interface_of (Some (codes "x")) ((codes "r", 0) ∷ []) ∷ interface_of None [] ∷ [];
  worlds = [];
  packages =
      record { name = foo_x; docs = no_docs; interfaces = (codes "x", 0) ∷ []; worlds = [] } ∷ [];
  package_names = (foo_x, 0) ∷ [];
}

-- function f of a future of a future
abbrev pub of_futures : Function
of_futures = function_of (codes "f") (type.Id 2 ∷ []) None

-- what imports are called: of the interface, without one, and what serves exports
pub record ExamplesOfImports (x : Bor WorldKey) (f : Bor Function) : Type 0 where
  pub standard : import_names named_graph Standard32 (imports.Func (Some x) f)
      ≡ (codes "cm32p2|foo:x/x@0.2", codes "f")
  pub legacy : import_names named_graph (Legacy Sync) (imports.Func (Some x) f)
      ≡ (codes "foo:x/x@0.2.1", codes "f")
  pub root : import_names named_graph (Legacy AsyncCallback) (imports.Func None f)
      ≡ (codes "$root", codes "[async-lower]f")
  pub standard_rep : import_names named_graph Standard32
      (imports.ResourceIntrinsic (Some x) 0 ExportedRep)
      ≡ (codes "cm32p2|_ex_foo:x/x@0.2", codes "r_rep")
  pub legacy_rep : import_names named_graph (Legacy AsyncCallback)
      (imports.ResourceIntrinsic (Some x) 0 ExportedRep)
      ≡ (codes "[export]foo:x/x@0.2.1", codes "[async-lower][resource-rep]r")
  pub own_drop : import_names named_graph (Legacy Sync)
      (imports.ResourceIntrinsic None 0 ImportedDrop)
      ≡ (codes "$root", codes "[resource-drop]r")
  pub second_read : import_names named_graph (Legacy AsyncStackful)
      (imports.FutureIntrinsic None f (Some 2) future.Read false true)
      ≡ (codes "$root", codes "[async-lower][future-read-1]f")
  pub unit_drop : import_names named_graph (Legacy AsyncStackful)
      (imports.StreamIntrinsic None f None stream.DropReadable true false)
      ≡ (codes "[export]$root", codes "[stream-drop-readable-unit]f")
  -- module and field aren't one another's
  pub not_transformed : import_names named_graph (Legacy Sync) (imports.Func None f)
      ≢ (codes "f", codes "$root")

-- what exports are called
pub record ExamplesOfExports (x : Bor WorldKey) (f : Bor Function) : Type 0 where
  pub standard_post : export_name named_graph Standard32 (exports.Func (Some x) f PostReturn)
      ≡ codes "cm32p2|foo:x/x@0.2|f_post"
  pub legacy_post : export_name named_graph (Legacy Sync) (exports.Func (Some x) f PostReturn)
      ≡ codes "cabi_post_foo:x/x@0.2.1#f"
  pub callback : export_name named_graph (Legacy AsyncCallback) (exports.Func (Some x) f Callback)
      ≡ codes "[callback][async-lift]foo:x/x@0.2.1#f"
  pub standard_root : export_name named_graph Standard32 (exports.Func None f Normal)
      ≡ codes "cm32p2||f"
  pub standard_dtor : export_name named_graph Standard32 (exports.ResourceDtor x 0)
      ≡ codes "cm32p2|foo:x/x@0.2|r_dtor"
  pub legacy_dtor : export_name named_graph (Legacy AsyncStackful) (exports.ResourceDtor x 0)
      ≡ codes "[async-lift-stackful]foo:x/x@0.2.1#[dtor]r"

-- what has a name, and near it what has none
pub record ExamplesOfConditions (x unnamed : Bor WorldKey) (f : Bor Function) : Type 0 where
  pub func : can_name_import named_graph Standard32 (imports.Func (Some x) f) ≡ true
  pub no_name : can_name_import named_graph Standard32 (imports.Func (Some unnamed) f) ≡ false
  pub exported : can_name_import named_graph Standard32
      (imports.ResourceIntrinsic (Some x) 0 ExportedNew) ≡ true
  pub exported_of_world : can_name_import named_graph Standard32
      (imports.ResourceIntrinsic None 0 ExportedNew) ≡ false
  pub not_named : can_name_import named_graph Standard32
      (imports.ResourceIntrinsic (Some x) 1 ImportedDrop) ≡ false
  pub legacy_future : can_name_import named_graph (Legacy Sync)
      (imports.FutureIntrinsic None f (Some 1) future.Read false true) ≡ true
  pub standard_future : can_name_import named_graph Standard32
      (imports.FutureIntrinsic None f (Some 1) future.Read false true) ≡ false
  pub async_new : can_name_import named_graph (Legacy Sync)
      (imports.FutureIntrinsic None f (Some 1) future.New false true) ≡ false
  pub other_type : can_name_import named_graph (Legacy Sync)
      (imports.FutureIntrinsic None f (Some 0) future.Read false true) ≡ false
  pub callback : can_name_export named_graph (Legacy AsyncCallback)
      (exports.Func (Some x) f Callback) ≡ true
  pub other_callback : can_name_export named_graph (Legacy AsyncStackful)
      (exports.Func (Some x) f Callback) ≡ false
  pub standard_callback : can_name_export named_graph Standard32 (exports.Func (Some x) f Callback)
      ≡ false

-- all of these, of the key of interface x, that of the interface without a name, and the function
abbrev pub ExamplesOfNames : Type 0
ExamplesOfNames =
    (x unnamed : Bor WorldKey) (f : Bor Function) → x.now ≡ key.Interface 0
    → unnamed.now ≡ key.Interface 1 → f.now ≡ of_futures
    → ExamplesOfImports x f × ExamplesOfExports x f × ExamplesOfConditions x unnamed f
