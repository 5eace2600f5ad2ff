-- What of a package is active, as a source.
use Rattle.wit_remap_spec.specs.Kept.{KeptIds}
use Rattle.wit_link_spec.specs.Addition.{Addition, active, own_world}

-- what is active as a source: all that is active, but worlds of other packages, of which nothing is taken over
abbrev pub part : Addition → KeptIds
part a = record (active a) { worlds = own_world a }
