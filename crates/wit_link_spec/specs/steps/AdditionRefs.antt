-- What the steps of an addition hand on to each other, as values of the addition.
use Rattle.std.specs.Prelude.{map, length}
use Rattle.std.specs.List.{range_with_len}
use Rattle.wit_link_spec.specs.declared.addition.Activity.{Activity}
use Rattle.wit_link_spec.specs.declared.addition.AdditionRef.{AdditionRef}
use Rattle.wit_link_spec.specs.declared.addition.NewIds.{NewIds}
use Rattle.wit_link_spec.specs.declared.addition.Values.{Values}
use Rattle.wit_link_spec.specs.Addition.{Addition, remap_of_addition}
use Rattle.wit_link_spec.specs.Gates.{interface_is_active, type_is_active, world_is_active}
use Rattle.wit_remap_spec.specs.steps.Parts.{value_id, owns}
use Rattle.wit_link_spec.specs.steps.Parts.{active_type_id, active_interface_id, active_world_id}

-- the addition of a package that is being added
abbrev pub addition_of : AdditionRef → Addition
addition_of adding =
    record {
      features = adding.features.now;
      graph = adding.graph.now;
      unresolved = adding.unresolved.now;
      offset = adding.offset;
    }

-- what is active of the package
abbrev pub activity_of : Addition → Activity
activity_of a = record {
  types =
      map (type_is_active a.features a.unresolved.types)
      (range_with_len 0 (length a.unresolved.types));
  interfaces =
      map (interface_is_active a.features a.unresolved)
      (range_with_len 0 (length a.unresolved.interfaces));
  worlds =
      map (world_is_active a.features a.unresolved) (range_with_len 0 (length a.unresolved.worlds));
}

-- what its things are remapped to
abbrev pub new_ids_of : Addition → NewIds
new_ids_of a = record {
  types = map (active_type_id a) (range_with_len 0 (length a.unresolved.types));
  interfaces = map (active_interface_id a) (range_with_len 0 (length a.unresolved.interfaces));
  worlds = map (active_world_id a) (range_with_len 0 (length a.unresolved.worlds));
}

-- what its types are remapped to at value positions, and the `own`s that come for that
abbrev pub values_of : Addition → Values
values_of a = record {
  new_ids = map (value_id (remap_of_addition a)) (range_with_len 0 (length a.unresolved.types));
  owns = owns (remap_of_addition a);
}
