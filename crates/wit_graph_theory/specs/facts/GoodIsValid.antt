-- A graph is valid exactly if each of its things is good and what is about the whole holds.
use Rattle.wit_elaboration.specs.Valid.{HasValidNames, HasOwners, HasReferences, HasTables, HasWorlds, IsValid, IsWellFormed}
use Rattle.wit_graph_data.specs.declared.graph.Graph.{Graph}
use Rattle.wit_graph_theory.specs.facts.Good.{HasGoodThings, IsGoodAsAWhole}

module _ (g : Graph) (things : HasGoodThings g) (whole : IsGoodAsAWhole g) where
  tables : HasTables g.packages g.interfaces g.worlds
  tables = record {
    interfaces_listed = things.interfaces_in_tables;
    worlds_listed = things.worlds_in_tables;
    interface_tables = λ p home at. (things.packages p home at).interfaces_are;
    world_tables = λ p home at. (things.packages p home at).worlds_are;
    distinct_interfaces = λ p home at. (things.packages p home at).distinct_interfaces;
    distinct_worlds = λ p home at. (things.packages p home at).distinct_worlds;
  }

  owners : HasOwners g.types g.interfaces g.worlds
  owners = record {
    listed = λ i def at. (things.types i def at).listed;
    own_types = λ f interface at. (things.interfaces f interface at).own_types;
    functions = λ f interface at. (things.interfaces f interface at).functions;
    distinct_types = λ f interface at. (things.interfaces f interface at).distinct_types;
    distinct_functions = λ f interface at. (things.interfaces f interface at).distinct_functions;
  }

  references : HasReferences g.types g.interfaces
  references = record {
    aliases = λ i def at. (things.types i def at).alias;
    unnamed = λ i def at. (things.types i def at).unnamed;
    own_types = λ i def at. (things.types i def at).own;
    own_functions = λ f interface at. (things.interfaces f interface at).own_functions;
  }

  worlds : HasWorlds g.types g.interfaces g.worlds
  worlds = record {
    imports = λ w world at i e on. ((things.worlds w world at).imports i e on).is;
    exports = λ w world at i e on. ((things.worlds w world at).exports i e on).is;
    imported_functions = λ w world at i e on. ((things.worlds w world at).imports i e on).own;
    exported_functions = λ w world at i e on. ((things.worlds w world at).exports i e on).own;
    once = whole.once;
    own_imports = λ w world at i e on. ((things.worlds w world at).imports i e on).home;
    own_exports = λ w world at i e on. ((things.worlds w world at).exports i e on).home;
    no_includes = λ w world at. (things.worlds w world at).no_includes;
    distinct_imports = λ w world at. (things.worlds w world at).distinct_imports;
    distinct_exports = λ w world at. (things.worlds w world at).distinct_exports;
  }

  names : HasValidNames g.packages g.interfaces
  names = record {
    namespaces = λ p home at. (things.packages p home at).namespace;
    package_names = λ p home at. (things.packages p home at).name;
    versions = λ p home at. (things.packages p home at).version;
    interface_names = λ f interface at. (things.interfaces f interface at).name;
  }

  well_formed : IsWellFormed g
  well_formed = record { package_names = whole.package_names; tables = tables; owners = owners; references = references; worlds = worlds }

  pub IsValid-from_good : IsValid g
  IsValid-from_good = record { well_formed = well_formed; names = names; known = things.known; no_cycles = whole.no_cycles; canonical = whole.canonical }

pub good_things : (g : Graph) → IsValid g → HasGoodThings g
good_things g valid =
    let formed = valid.well_formed in
    record {
      types = λ i def at. record {
        listed = formed.owners.listed i def at;
        alias = formed.references.aliases i def at;
        unnamed = formed.references.unnamed i def at;
        own = formed.references.own_types i def at;
      };
      known = valid.known;
      interfaces = λ f interface at. record {
        name = valid.names.interface_names f interface at;
        own_types = formed.owners.own_types f interface at;
        functions = formed.owners.functions f interface at;
        own_functions = formed.references.own_functions f interface at;
        distinct_types = formed.owners.distinct_types f interface at;
        distinct_functions = formed.owners.distinct_functions f interface at;
      };
      worlds = λ w world at. record {
        imports = λ i e on. record {
          is = formed.worlds.imports w world at i e on;
          own = formed.worlds.imported_functions w world at i e on;
          home = formed.worlds.own_imports w world at i e on;
        };
        exports = λ i e on. record {
          is = formed.worlds.exports w world at i e on;
          own = formed.worlds.exported_functions w world at i e on;
          home = formed.worlds.own_exports w world at i e on;
        };
        distinct_imports = formed.worlds.distinct_imports w world at;
        distinct_exports = formed.worlds.distinct_exports w world at;
        no_includes = formed.worlds.no_includes w world at;
      };
      packages = λ p home at. record {
        interfaces_are = formed.tables.interface_tables p home at;
        worlds_are = formed.tables.world_tables p home at;
        distinct_interfaces = formed.tables.distinct_interfaces p home at;
        distinct_worlds = formed.tables.distinct_worlds p home at;
        namespace = valid.names.namespaces p home at;
        name = valid.names.package_names p home at;
        version = valid.names.versions p home at;
      };
      interfaces_in_tables = formed.tables.interfaces_listed;
      worlds_in_tables = formed.tables.worlds_listed;
    }
