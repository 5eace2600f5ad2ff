-- Laws of transformed worlds.
use Rattle.std.specs.Prelude.{◌≡◌, ◌⊎◌, ◌↔◌, ℕ, Bool, true, List, [], Option, Some, length, slice_get, Contains}
use Rattle.std.specs.Map.{keys_of}
use Rattle.wit_data.specs.Each.{Each}
use Rattle.wit_data.specs.declared.world.World.{World}
use Rattle.wit_data.specs.declared.world.WorldKey.{WorldKey}
use Rattle.wit_data.specs.declared.world.WorldKey.TheVariants as key
use Rattle.wit_digraph.specs.Relation.{Reaches, direct}
use Rattle.wit_elaboration.specs.Elaboration.{graph_uses}
use Rattle.wit_elaboration.specs.Entries.{Entry}
use Rattle.wit_elaboration.specs.laws.KeptByElaboration.{IsListedWithoutSpan, is_label}
use Rattle.wit_elaboration.specs.Valid.{IsValid}
use Rattle.wit_graph_data.specs.Error.{NoCause}
use Rattle.wit_graph_data.specs.declared.graph.Graph.{Graph}
use Rattle.wit_transform.specs.Transformed.{IsExportizeCause, IsImportizeCause, imports_at, exportized, importized, transformed, type_entries}
use Rattle.wit_elaboration.specs.steps.Parts.{exported_interfaces}

-- a valid graph stays valid where a world's exports become its imports and no cause holds against it
abbrev pub ImportizedStayValid : Type 0
ImportizedStayValid =
    (g : Graph) (w : ℕ) (out : Option (List ℕ)) → IsValid g → NoCause (IsImportizeCause g w out)
    → IsValid (transformed g w (importized out))

-- and where its imports become exports, by one answer for each
abbrev pub ExportizedStayValid : Type 0
ExportizedStayValid =
    (g : Graph) (w : ℕ) (answers : List Bool) (out : Option (List ℕ)) → IsValid g
    → length answers ≡ length (imports_at g w)
    → NoCause (IsExportizeCause g w answers out)
    → IsValid (transformed g w (exportized answers out))

-- where its exports became its imports, a world exports nothing
abbrev pub ImportizedExportsNothing : Type 0
ImportizedExportsNothing =
    (g : Graph) (w : ℕ) (out : Option (List ℕ)) (new : World)
    → slice_get (transformed g w (importized out)).worlds w ≡ Some new → new.exports ≡ []

-- where all imports of a world of a valid graph became its exports, it imports nothing
abbrev pub ExportizedImportsNothing : Type 0
ExportizedImportsNothing =
    (g : Graph) (w : ℕ) (answers : List Bool) (out : Option (List ℕ)) (new : World) → IsValid g
    → length answers ≡ length (imports_at g w) → Each (λ answer. answer ≡ true) answers
    → NoCause (IsExportizeCause g w answers out)
    → slice_get (transformed g w (exportized answers out)).worlds w ≡ Some new → new.imports ≡ []

-- an exported interface uses another that reaches j
abbrev pub IsBehind : List (List ℕ) → List Entry → ℕ → Type 0
IsBehind uses exports j =
    (x : ℕ) × (d : ℕ) × Contains (exported_interfaces exports) x × Contains (direct uses x) d
    × Reaches uses d j

-- the exports of a world are under the keys of the former ones and, under its own key, each interface that is reached
-- from a direct use of one of them; what is under a label is what was, an interface without its span
pub record AreFormerExports (uses : List (List ℕ)) (former exports : List Entry) : Type 0 where
  pub keys : (k : WorldKey)
      → Contains (keys_of exports) k
      ↔ (Contains (keys_of former) k ⊎ ((j : ℕ) × (k ≡ key.Interface j) × IsBehind uses former j))
  pub labels : (e : Entry) → Contains exports e → is_label e.0 ≡ true → IsListedWithoutSpan former e

-- where the exports of a world without types became its imports, and then all of them its exports, these are the
-- former ones and what is behind them
abbrev pub ImportizedThenExportized : Type 0
ImportizedThenExportized =
    (g : Graph) (w : ℕ) (old new : World) (out again : Option (List ℕ)) (answers : List Bool)
    → IsValid g → slice_get g.worlds w ≡ Some old → type_entries old.imports ≡ []
    → NoCause (IsImportizeCause g w out)
    → length answers ≡ length (imports_at (transformed g w (importized out)) w)
    → Each (λ answer. answer ≡ true) answers
    → NoCause (IsExportizeCause (transformed g w (importized out)) w answers again)
    → slice_get (transformed (transformed g w (importized out)) w (exportized answers again)).worlds
    w ≡ Some new
    → AreFormerExports (graph_uses g) old.exports new.exports
