-- Where nothing is missing, all is found.
use Rattle.std.proofs.Common.{length}
use Rattle.std.proofs.lemmas.Option.{slice_get_within}
use Rattle.wit_data.specs.declared.unresolved.AstItem.TheVariants as item
use Rattle.wit_link_spec.specs.Addition.{Addition}
use Rattle.wit_link_spec.specs.Lookup.{named_items}
use Rattle.wit_link_spec.specs.steps.Passed.{IsAllFound}
use Rattle.wit_link_lookup.specs.steps.ForeignItems.{ArePackagesThere, AreThere, AreTypesThere}

pub all_found : (a : Addition) → AreThere a (named_items a.unresolved.foreign_deps) → ArePackagesThere a (length a.unresolved.foreign_deps) → AreTypesThere a (length a.unresolved.types) → IsAllFound a
all_found a there packages types = record {
  packages = λ span requested known lacks. packages span requested known lacks (slice_get_within a.unresolved.foreign_deps lacks.at (requested, lacks.items) lacks.names);
  worlds = λ span requested home lacks. there (lacks.at, home, (requested, (item.World lacks.w, lacks.notes))) lacks.names lacks.active lacks.absent;
  interfaces = λ span requested home lacks. there (lacks.at, home, (requested, (item.Interface lacks.i, lacks.notes))) lacks.names lacks.active lacks.absent;
  types = λ span message lacks. types span message lacks (slice_get_within a.unresolved.types lacks.t lacks.def lacks.is);
}
