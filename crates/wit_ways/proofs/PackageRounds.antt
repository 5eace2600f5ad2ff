-- A way from a package back to it.
use Rattle.std.proofs.Common.{◌≡◌, List, refl}
use Rattle.wit_names.specs.PackageName.{package_name_text}
use Rattle.wit_names.specs.declared.package_name.PackageName.{PackageName}
use Rattle.wit_resolve_graph.specs.State.{State}
use Rattle.wit_ways.specs.Asked.{known_arrows}
use Rattle.wit_ways.specs.Told.{IsPackageRound}
use Rattle.wit_ways.specs.Ways.{IsRound}
use Rattle.wit_ways.specs.declared.arrow.Arrow.{Arrow}
use Rattle.wit_ways.specs.declared.asked.Asked.{Asked}
use Rattle.wit_ways.specs.declared.asked.Asked.TheVariants as asks
use Rattle.wit_ways.specs.declared.coming.Coming.{Coming}

-- where no packages come, among those of the graphs
pub nothing_pushed : (state : State) (asked : Asked) (owner : PackageName) (way : List Arrow) → ((coming : Coming) → asked ≡ asks.Push coming → ⊥)
    → IsRound (known_arrows state asked) (package_name_text owner) way → IsPackageRound state asked owner way
nothing_pushed state (asks.Push coming) owner way none is = absurd (none coming refl)
nothing_pushed state (asks.Merge coming) owner way none is = is
nothing_pushed state (asks.Exportize keys) owner way none is = is
nothing_pushed state (asks.Semver home world) owner way none is = is
nothing_pushed state asks.Other owner way none is = is
