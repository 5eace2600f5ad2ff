-- The names under which core wasm imports and exports what a world says: one table of imports, each with
-- its module and its field, and one of exports, for both manglings and each ABI; and what has such a name.
-- Source: `wasm_import_name` and `wasm_export_name` of wit-parser 0.263.0; the component model's build
-- targets (the names that begin with `cm32p2`). Which prefix stands for which ABI is this project's table. Where
-- the two functions of wit-parser end the process, and where a key or a resource has no name, there is none.
use Rattle.std.specs.List.{list_any}
use Rattle.std.specs.Prelude.{ℕ, Bool, true, false, List, [], ◌++◌, Option, None, Some, codes, decimal, nat_eq, position, slice_get, unwrap_or, ◌&&◌, ◌||◌, not, is_some, option_copied}
use Rattle.std.specs.Option.{option_map_or}
use Rattle.wit_data.specs.declared.function.Function.{Function}
use Rattle.wit_data.specs.declared.interface.Interface.{Interface}
use Rattle.wit_data.specs.declared.abi.LiftLowerAbi.{LiftLowerAbi}
use Rattle.wit_data.specs.declared.abi.ManglingAndAbi.{ManglingAndAbi}
use Rattle.wit_data.specs.declared.types.TypeDef.{TypeDef}
use Rattle.wit_data.specs.declared.world.WorldKey.{WorldKey}
use Rattle.wit_data.specs.declared.abi.LiftLowerAbi.TheVariants.{AsyncCallback, AsyncStackful, Sync}
use Rattle.wit_data.specs.declared.abi.ManglingAndAbi.TheVariants.{Legacy, Standard32}
use Rattle.wit_data.specs.declared.world.WorldKey.TheVariants as key
use Rattle.wit_graph_data.specs.IdText.{key_text}
use Rattle.wit_graph_data.specs.Queries.{canonical_key_text, futures_and_streams, named_interface}
use Rattle.wit_graph_data.specs.declared.graph.Graph.{Graph}
use Rattle.wit_core_names.specs.declared.export.WasmExport.{WasmExport}
use Rattle.wit_core_names.specs.declared.export.WasmExport.TheVariants as exports
use Rattle.wit_core_names.specs.declared.export.WasmExportKind.{WasmExportKind}
use Rattle.wit_core_names.specs.declared.export.WasmExportKind.TheVariants.{Callback, Normal, PostReturn}
use Rattle.wit_core_names.specs.declared.import.FutureIntrinsic.{FutureIntrinsic}
use Rattle.wit_core_names.specs.declared.import.FutureIntrinsic.TheVariants as future
use Rattle.wit_core_names.specs.declared.import.ResourceIntrinsic.{ResourceIntrinsic}
use Rattle.wit_core_names.specs.declared.import.ResourceIntrinsic.TheVariants.{ExportedDrop, ExportedNew, ExportedRep, ImportedDrop}
use Rattle.wit_core_names.specs.declared.import.StreamIntrinsic.{StreamIntrinsic}
use Rattle.wit_core_names.specs.declared.import.StreamIntrinsic.TheVariants as stream
use Rattle.wit_core_names.specs.declared.import.WasmImport.{WasmImport}
use Rattle.wit_core_names.specs.declared.import.WasmImport.TheVariants as imports

-- ---- parts of names

-- what stands before the name of what is imported, by the ABI
abbrev pub import_prefix : LiftLowerAbi → List ℕ
import_prefix Sync = []
import_prefix _ = codes "[async-lower]"

-- what stands before the name of what is exported, by the ABI
abbrev pub export_prefix : LiftLowerAbi → List ℕ
export_prefix Sync = []
export_prefix AsyncCallback = codes "[async-lift]"
export_prefix AsyncStackful = codes "[async-lift-stackful]"

-- before the module of what serves an export
abbrev pub exported_prefix : Bool → List ℕ
exported_prefix true = codes "[export]"
exported_prefix false = []

-- before what is done without waiting for its end
abbrev pub async_prefix : Bool → List ℕ
async_prefix true = codes "[async-lower]"
async_prefix false = []

-- what is done with a future
abbrev pub future_word : FutureIntrinsic → List ℕ
future_word future.New = codes "new"
future_word future.Read = codes "read"
future_word future.Write = codes "write"
future_word future.Forward = codes "forward"
future_word future.CancelRead = codes "cancel-read"
future_word future.CancelWrite = codes "cancel-write"
future_word future.DropReadable = codes "drop-readable"
future_word future.DropWritable = codes "drop-writable"

-- what is done with a stream
abbrev pub stream_word : StreamIntrinsic → List ℕ
stream_word stream.New = codes "new"
stream_word stream.Read = codes "read"
stream_word stream.Write = codes "write"
stream_word stream.Forward = codes "forward"
stream_word stream.CancelRead = codes "cancel-read"
stream_word stream.CancelWrite = codes "cancel-write"
stream_word stream.DropReadable = codes "drop-readable"
stream_word stream.DropWritable = codes "drop-writable"

-- what is done with a resource, and whether it serves an export
abbrev pub resource_mark : ResourceIntrinsic → List ℕ
resource_mark ExportedNew = codes "[resource-new]"
resource_mark ExportedRep = codes "[resource-rep]"
resource_mark _ = codes "[resource-drop]"

abbrev pub is_export_intrinsic : ResourceIntrinsic → Bool
is_export_intrinsic ImportedDrop = false
is_export_intrinsic _ = true

-- the name of a resource
abbrev pub resource_name : List TypeDef → ℕ → List ℕ
resource_name types r =
    option_map_or (λ (def : TypeDef). unwrap_or def.name []) (slice_get types r) []

-- the first place of a type among the futures and streams of a function; `unit` without a type
abbrev pub future_index_text : List TypeDef → Function → Option ℕ → List ℕ
future_index_text types f None = codes "unit"
future_index_text types f (Some t) =
    option_map_or decimal (position (nat_eq t) (futures_and_streams types f)) []

-- ---- modules

-- the canonical name of an interface's key behind `cm32p2|`, and `cm32p2` without an interface
abbrev pub standard_module : Graph → Option WorldKey → List ℕ
standard_module g None = codes "cm32p2"
standard_module g (Some k) = codes "cm32p2|" ++ canonical_key_text g.packages g.interfaces k

-- the canonical name of an interface's key, empty without an interface
abbrev pub standard_key : Graph → Option WorldKey → List ℕ
standard_key g None = []
standard_key g (Some k) = canonical_key_text g.packages g.interfaces k

-- the name of an interface's key, and `$root` without an interface
abbrev pub legacy_module : Graph → Option WorldKey → List ℕ
legacy_module g None = codes "$root"
legacy_module g (Some k) = key_text g.packages g.interfaces k

-- the name of an interface's key before `#`, and nothing without an interface
abbrev pub legacy_key : Graph → Option WorldKey → List ℕ
legacy_key g None = []
legacy_key g (Some k) = key_text g.packages g.interfaces k ++ codes "#"

-- ---- imports

-- the module and the field of an import; nothing is said (two empty texts) of futures and streams under Standard32
abbrev pub import_names : Graph → ManglingAndAbi → WasmImport → List ℕ × List ℕ
import_names g Standard32 (imports.Func interface func) =
    (standard_module g (option_copied interface), func.now.name)
import_names g Standard32 (imports.ResourceIntrinsic interface r ImportedDrop) =
    (standard_module g (option_copied interface), resource_name g.types r ++ codes "_drop")
import_names g Standard32 (imports.ResourceIntrinsic interface r ExportedDrop) = (
  codes "cm32p2|_ex_" ++ standard_key g (option_copied interface),
  resource_name g.types r ++ codes "_drop",
)
import_names g Standard32 (imports.ResourceIntrinsic interface r ExportedNew) = (
  codes "cm32p2|_ex_" ++ standard_key g (option_copied interface),
  resource_name g.types r ++ codes "_new",
)
import_names g Standard32 (imports.ResourceIntrinsic interface r ExportedRep) = (
  codes "cm32p2|_ex_" ++ standard_key g (option_copied interface),
  resource_name g.types r ++ codes "_rep",
)
import_names g Standard32 _ = ([], [])
import_names g (Legacy abi) (imports.Func interface func) =
    (legacy_module g (option_copied interface), import_prefix abi ++ func.now.name)
import_names g (Legacy abi) (imports.ResourceIntrinsic interface r intrinsic) = (
  exported_prefix (is_export_intrinsic intrinsic) ++ legacy_module g (option_copied interface),
  import_prefix abi ++ (resource_mark intrinsic ++ resource_name g.types r),
)
import_names g (Legacy abi) (imports.FutureIntrinsic interface func ty intrinsic exported async) = (
  exported_prefix exported ++ legacy_module g (option_copied interface),
  async_prefix async
      ++ (codes "[future-"
      ++ (future_word intrinsic
      ++ (codes "-"
      ++ (future_index_text g.types func.now ty ++ (codes "]" ++ func.now.name))))),
)
import_names g (Legacy abi) (imports.StreamIntrinsic interface func ty intrinsic exported async) = (
  exported_prefix exported ++ legacy_module g (option_copied interface),
  async_prefix async
      ++ (codes "[stream-" ++ (stream_word intrinsic ++ (codes "-"
      ++ (future_index_text g.types func.now ty ++ (codes "]" ++ func.now.name))))),
)

-- ---- exports

-- the name of an export; nothing is said (the empty text) of callbacks under Standard32
abbrev pub export_name : Graph → ManglingAndAbi → WasmExport → List ℕ
export_name g Standard32 (exports.Func interface func Normal) =
    codes "cm32p2|" ++ (standard_key g (option_copied interface) ++ (codes "|" ++ func.now.name))
export_name g Standard32 (exports.Func interface func PostReturn) =
    codes "cm32p2|"
    ++ (standard_key g (option_copied interface) ++ (codes "|" ++ (func.now.name ++ codes "_post")))
export_name g Standard32 (exports.Func interface func Callback) = []
export_name g Standard32 (exports.ResourceDtor interface r) =
    codes "cm32p2|"
    ++ (standard_key g (Some interface.now)
    ++ (codes "|" ++ (resource_name g.types r ++ codes "_dtor")))
export_name g Standard32 exports.Memory = codes "cm32p2_memory"
export_name g Standard32 exports.Initialize = codes "cm32p2_initialize"
export_name g Standard32 exports.Realloc = codes "cm32p2_realloc"
export_name g (Legacy abi) (exports.Func interface func Normal) =
    export_prefix abi ++ (legacy_key g (option_copied interface) ++ func.now.name)
export_name g (Legacy abi) (exports.Func interface func PostReturn) =
    export_prefix abi
    ++ (codes "cabi_post_" ++ (legacy_key g (option_copied interface) ++ func.now.name))
export_name g (Legacy abi) (exports.Func interface func Callback) =
    codes "[callback]"
    ++ (export_prefix abi ++ (legacy_key g (option_copied interface) ++ func.now.name))
export_name g (Legacy abi) (exports.ResourceDtor interface r) =
    export_prefix abi
    ++ (key_text g.packages g.interfaces interface.now
    ++ (codes "#[dtor]" ++ resource_name g.types r))
export_name g (Legacy abi) exports.Memory = codes "memory"
export_name g (Legacy abi) exports.Initialize = codes "_initialize"
export_name g (Legacy abi) exports.Realloc = codes "cabi_realloc"

-- a label names itself, and an interface must have a name
abbrev pub key_has_name : List Interface → WorldKey → Bool
key_has_name interfaces (key.Name label) = true
key_has_name interfaces (key.Interface i) = is_some (named_interface interfaces i)

-- without an interface nothing is asked
abbrev pub interface_has_name : List Interface → Option WorldKey → Bool
interface_has_name interfaces None = true
interface_has_name interfaces (Some k) = key_has_name interfaces k

-- a type with a name
abbrev pub type_has_name : List TypeDef → ℕ → Bool
type_has_name types t =
    option_map_or (λ (def : TypeDef). is_some def.name) (slice_get types t) false

-- what serves exports is of an interface
abbrev pub is_within : Option WorldKey → ResourceIntrinsic → Bool
is_within interface ImportedDrop = true
is_within interface _ = is_some interface

-- a type that is given is among the futures and streams of the function
abbrev pub is_of_function : List TypeDef → Function → Option ℕ → Bool
is_of_function types f None = true
is_of_function types f (Some t) = list_any (nat_eq t) (futures_and_streams types f)

-- what may be asked `async` of a future: reading, writing, and cancelling either
abbrev pub future_can_be_async : FutureIntrinsic → Bool
future_can_be_async future.Read = true
future_can_be_async future.Write = true
future_can_be_async future.CancelRead = true
future_can_be_async future.CancelWrite = true
future_can_be_async _ = false

-- what may be asked `async` of a stream: reading, writing, and cancelling either
abbrev pub stream_can_be_async : StreamIntrinsic → Bool
stream_can_be_async stream.Read = true
stream_can_be_async stream.Write = true
stream_can_be_async stream.CancelRead = true
stream_can_be_async stream.CancelWrite = true
stream_can_be_async _ = false

-- what is done with a future or a stream has names under the older ones alone
abbrev pub can_name_value : Graph → ManglingAndAbi → Option WorldKey → Function → Option ℕ → Bool
    → Bool
can_name_value g Standard32 interface f ty goes_on = false
can_name_value g (Legacy abi) interface f ty goes_on =
    interface_has_name g.interfaces interface && (goes_on && is_of_function g.types f ty)

-- an import that has names
abbrev pub can_name_import : Graph → ManglingAndAbi → WasmImport → Bool
can_name_import g mangling (imports.Func interface func) =
    interface_has_name g.interfaces (option_copied interface)
can_name_import g mangling (imports.ResourceIntrinsic interface r intrinsic) =
    interface_has_name g.interfaces (option_copied interface)
    && (type_has_name g.types r && is_within (option_copied interface) intrinsic)
can_name_import g mangling (imports.FutureIntrinsic interface func ty intrinsic exported async) =
    can_name_value g mangling (option_copied interface) func.now ty
    (not async || future_can_be_async intrinsic)
can_name_import g mangling (imports.StreamIntrinsic interface func ty intrinsic exported async) =
    can_name_value g mangling (option_copied interface) func.now ty
    (not async || stream_can_be_async intrinsic)

-- a callback is exported under Legacy(AsyncCallback) alone
abbrev pub has_callback : ManglingAndAbi → WasmExportKind → Bool
has_callback mangling Normal = true
has_callback mangling PostReturn = true
has_callback (Legacy AsyncCallback) Callback = true
has_callback _ Callback = false

-- an export that has a name
abbrev pub can_name_export : Graph → ManglingAndAbi → WasmExport → Bool
can_name_export g mangling (exports.Func interface func kind) =
    has_callback mangling kind && interface_has_name g.interfaces (option_copied interface)
can_name_export g mangling (exports.ResourceDtor interface r) =
    key_has_name g.interfaces interface.now && type_has_name g.types r
can_name_export g mangling _ = true
