-- What a shape says, by thing: a shaped package whose tables have distinct keys is good before it is cut.
-- (That the keys of interfaces differ is a premise here; the shape says so.)
use Rattle.std.proofs.Common.{◌≡◌, ◌∙◌, ℕ, ◌<◌, List, Option, None, sym, arith, length}
use Rattle.std.proofs.lemmas.Option.{slice_get_within}
use Rattle.wit_data.specs.Each.{Each, SomeAt}
use Rattle.wit_data.specs.Entries.{IsExport, IsImport}
use Rattle.wit_data.specs.Shape.{IsShaped}
use Rattle.wit_data.specs.declared.interface.Interface.{Interface}
use Rattle.wit_data.specs.declared.unresolved.UnresolvedPackage.{UnresolvedPackage}
use Rattle.wit_data.specs.declared.world.WorldItem.{WorldItem}
use Rattle.wit_data.specs.declared.world.WorldKey.{WorldKey}
use Rattle.wit_data.specs.declared.world.WorldItem.TheVariants as item
use Rattle.wit_data.specs.declared.world.WorldKey.TheVariants as key
use Rattle.wit_values.specs.Table.{HasDistinctKeys}
use Rattle.wit_elaboration.specs.Valid.{IsOfPackage}
use Rattle.wit_graph_theory.specs.Cut.{IsGoodWhere}
use Rattle.wit_remap_spec.specs.Kept.{KeptIds}
use Rattle.wit_graph_theory.specs.facts.ListFacts.{found_at, get_at, some_at}

module _ (u : UnresolvedPackage) (shaped : IsShaped u) where
  -- an interface without a name is of no package, and neither is a world
  of_package : (interfaces : List Interface) → Each (λ (interface : Interface). interface.package ≡ None) interfaces → (home : Option ℕ) → home ≡ None → (f : ℕ) → f < length interfaces
      → SomeAt interfaces f (λ (interface : Interface). (interface.name ≡ None) → interface.package ≡ home)
  of_package interfaces unplaced home none f there =
      let found = get_at interfaces f there in
      some_at (λ (interface : Interface). (interface.name ≡ None) → interface.package ≡ home) interfaces f found.0 found.1 (λ nameless. unplaced f found.0 found.1 ∙ sym none)

  import_of_package : (w : ℕ) (home : Option ℕ) → home ≡ None → (k : WorldKey) (held : WorldItem) → IsImport u.interfaces u.types w k held → IsOfPackage u.interfaces home held
  import_of_package w home none (key.Interface f) (item.Interface i stability docs span external_id) is =
      let found = found_at (λ (interface : Interface). _) u.interfaces f is.1 in
      let place = is.0 in
      of_package u.interfaces shaped.unplaced.interfaces home none i (let within = slice_get_within u.interfaces f found.0 found.1 in omega arith)
  import_of_package w home none (key.Name name) (item.Interface i stability docs span external_id) is = of_package u.interfaces shaped.unplaced.interfaces home none i is
  import_of_package w home none k (item.Function fn) is = tt
  import_of_package w home none k (item.Type_ t span) is = tt

  export_is_import : (w : ℕ) (k : WorldKey) (held : WorldItem) → IsExport u.interfaces k held → IsImport u.interfaces u.types w k held
  export_is_import w (key.Name name) (item.Type_ t span) is = absurd is
  export_is_import w (key.Name name) (item.Interface i stability docs span external_id) is = is
  export_is_import w (key.Name name) (item.Function fn) is = is
  export_is_import w (key.Interface f) held is = is

  pub shape_is_good : (kept : KeptIds) → Each (λ (interface : Interface). HasDistinctKeys interface.types) u.interfaces → Each (λ (interface : Interface). HasDistinctKeys interface.functions) u.interfaces
      → IsGoodWhere kept u.types u.interfaces u.worlds
  shape_is_good kept types functions = record {
    types_are = λ t def at takes. record {
      listed = shaped.owners.listed t def at;
      alias = shaped.references.aliases t def at;
      unnamed = shaped.references.unnamed t def at;
      own = shaped.own.types t def at;
    };
    interfaces_are = λ f interface at takes. record {
      name = shaped.names.interfaces f interface at;
      own_types = shaped.owners.own_types f interface at;
      functions = shaped.owners.functions f interface at;
      own_functions = shaped.own.functions f interface at;
      distinct_types = types f interface at;
      distinct_functions = functions f interface at;
    };
    imports_are = λ w world at takes i e on.
        let is = shaped.worlds.imports w world at i e on in
        record { is = is; own = shaped.own.imports w world at i e on; home = import_of_package w world.package (shaped.unplaced.worlds w world at) e.0 e.1 is };
    exports_are = λ w world at takes i e on.
        let is = shaped.worlds.exports w world at i e on in
        record { is = is; own = shaped.own.exports w world at i e on; home = import_of_package w world.package (shaped.unplaced.worlds w world at) e.0 e.1 (export_is_import w e.0 e.1 is) };
  }
