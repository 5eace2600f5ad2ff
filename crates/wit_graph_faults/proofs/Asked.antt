-- What the clauses before one say, which the search for what breaks it asks.
use Rattle.std.proofs.Common.{◌≡◌, length, lit<, refl, subst}
use Rattle.wit_data.specs.Each.{Each}
use Rattle.wit_data.specs.Kind.{type_references}
use Rattle.wit_data.specs.Uses.{uses_of}
use Rattle.wit_data.specs.declared.world.World.{World}
use Rattle.wit_digraph.specs.Relation.{IsAcyclic, IsInRange}
use Rattle.wit_elaboration.specs.Elaboration.{graph_uses}
use Rattle.wit_elaboration.specs.Sound.{HasSoundEntries}
use Rattle.wit_elaboration.specs.facts.SoundFacts.{HasSoundEntries-of_world}
use Rattle.wit_graph_data.specs.Queries.{package_uses}
use Rattle.wit_graph_data.specs.declared.graph.Graph.{Graph}
use Rattle.wit_shape.specs.facts.UsesInRange.{uses_in_range}
use Rattle.wit_graph_faults.proofs.Ranges.{packages_in_range, references_in_range}
use Rattle.wit_graph_faults.specs.Faults.{IsValidBefore}
use Rattle.wit_graph_faults.specs.declared.clause.GraphClause.{GraphClause}
use Rattle.wit_graph_faults.specs.declared.clause.GraphClause.TheVariants as clause

module _ (g : Graph) (c : GraphClause) (before : IsValidBefore g c) where
  at : (d : GraphClause) → c ≡ d → IsValidBefore g d
  at d same = subst (IsValidBefore g) same before

  pub types_asked : c ≡ clause.Types → IsInRange (type_references g.types)
  types_asked same = references_in_range g.types (at clause.Types same clause.TypesThere (16, 17, (lit< tt, refl, refl)))

  pub uses_asked : c ≡ clause.Uses → IsInRange (uses_of g.types g.interfaces)
  uses_asked same = uses_in_range g.types g.interfaces (at clause.Uses same clause.ReferencesAliases (14, 18, (lit< tt, refl, refl)))

  pub packages_asked : c ≡ clause.Packages → IsInRange (package_uses g.types g.interfaces g.worlds g.packages)
  packages_asked same = packages_in_range g.packages g.interfaces (at clause.Packages same clause.TablesInterfacesListed (2, 29, (lit< tt, refl, refl))) g.types g.worlds

  pub own_types_asked : c ≡ clause.ReferencesOwnTypes → IsAcyclic (type_references g.types)
  own_types_asked same = at clause.ReferencesOwnTypes same clause.Types (17, 19, (lit< tt, refl, refl))

  pub own_functions_asked : c ≡ clause.ReferencesOwnFunctions → IsAcyclic (type_references g.types)
  own_functions_asked same = at clause.ReferencesOwnFunctions same clause.Types (17, 20, (lit< tt, refl, refl))

  pub imported_asked : c ≡ clause.WorldsImportedFunctions → IsAcyclic (type_references g.types)
  imported_asked same = at clause.WorldsImportedFunctions same clause.Types (17, 23, (lit< tt, refl, refl))

  pub exported_asked : c ≡ clause.WorldsExportedFunctions → IsAcyclic (type_references g.types)
  exported_asked same = at clause.WorldsExportedFunctions same clause.Types (17, 24, (lit< tt, refl, refl))

  pub acyclic_asked : c ≡ clause.Canonical → IsAcyclic (graph_uses g)
  acyclic_asked same = at clause.Canonical same clause.Uses (18, 30, (lit< tt, refl, refl))

  pub sound_asked : c ≡ clause.Canonical → Each (λ (world : World). HasSoundEntries g.types (length g.interfaces) world.imports world.exports) g.worlds
  sound_asked same w world there =
      HasSoundEntries-of_world g.types g.interfaces (at clause.Canonical same clause.ReferencesAliases (14, 30, (lit< tt, refl, refl))) w world
      (at clause.Canonical same clause.WorldsImports (21, 30, (lit< tt, refl, refl)) w world there) (at clause.Canonical same clause.WorldsExports (22, 30, (lit< tt, refl, refl)) w world there)
