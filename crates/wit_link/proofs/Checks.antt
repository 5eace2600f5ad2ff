-- What is looked at before the graph is touched.
use Rattle.wit_link_spec.specs.Addition.{Addition}
use Rattle.wit_link_spec.specs.steps.Passed.{GatesAreMet, IsAllFound, NeedsNothingExcluded}
use Rattle.wit_link_spec.specs.facts.PassedFacts.{has_image}
use Rattle.wit_link_spec.specs.Reasons.{IsResolved}

-- a package that passed the first looks has an image
pub passed_image : (a : Addition) → GatesAreMet a → NeedsNothingExcluded a → IsAllFound a → IsResolved a
passed_image = has_image
