-- An addition of which the steps have seen what the words of `steps/Passed` say has an image.
use Rattle.wit_link_spec.specs.Addition.{Addition}
use Rattle.wit_link_spec.specs.Reasons.{IsResolved}
use Rattle.wit_link_spec.specs.steps.Passed.{GatesAreMet, IsAllFound, NeedsNothingExcluded}

-- such a package has an image
pub has_image : (a : Addition) → GatesAreMet a → NeedsNothingExcluded a → IsAllFound a → IsResolved a
has_image a met needs found = record {
  packages = found.packages;
  worlds = found.worlds;
  interfaces = found.interfaces;
  version = met.version;
  released = met.released;
  references = needs.references;
  owners = needs.owners;
  types = found.types;
}
