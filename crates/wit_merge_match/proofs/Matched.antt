-- What is found in steps is what is matched.
use Rattle.std.proofs.Common.{◌≡◌, ◌∙◌, ℕ, true, false, List, Option, None, Some, get_or, is_some, length, map, nat_eq, not, option_and_then, slice_get, refl, ap, if◌then◌else◌}
use Rattle.std.specs.Map.{lookup}
use Rattle.std.specs.Option.{option_map_or}
use Rattle.std.specs.Str.{bytes_eq}
use Rattle.wit_data.specs.Entries.{is_unnamed}
use Rattle.wit_data.specs.Ownership.{world_types}
use Rattle.wit_names.specs.PackageName.{same_package}
use Rattle.wit_data.specs.declared.interface.Interface.{Interface}
use Rattle.wit_data.specs.declared.types.TypeDef.{TypeDef}
use Rattle.wit_data.specs.declared.types.TypeOwner.{TypeOwner}
use Rattle.wit_data.specs.declared.world.World.{World}
use Rattle.wit_data.specs.declared.types.TypeOwner.TheVariants as owner
use Rattle.wit_graph_data.specs.declared.graph.Graph.{Graph}
use Rattle.wit_graph_data.specs.declared.graph.Package.{Package}
use Rattle.wit_graph_data.specs.Named.{interface_type}
use Rattle.wit_merge_spec.specs.Matches.{GraphMerge, counterpart_at_label, counterpart_interface, counterpart_interface_by, counterpart_package, counterpart_type, counterpart_type_by, counterpart_world, named_in_counterpart, world_labels}
use Rattle.wit_merge_match.specs.steps.Matched.{AreFound, AreLabelled, interface_under, merge_of_graphs, owned_under, type_under, under, world_under}
use Rattle.wit_merge_match.proofs.Mapped.{found_mapped, get_or-map, same_of}

module _ (g other : Graph) where
  abbrev m : GraphMerge
  m = merge_of_graphs g other

  pub packages_found : (packages : List (Option ℕ)) → packages ≡ map (λ (home : Package). lookup (same_package home.name) g.package_names) other.packages → AreFound (counterpart_package m) (length other.packages) packages
  packages_found packages is = found_mapped (λ (home : Package). lookup (same_package home.name) g.package_names) (counterpart_package m) other.packages packages is (λ p. refl)

  module _ (packages : List (Option ℕ)) (known : AreFound (counterpart_package m) (length other.packages) packages) where
    -- what stands under a name in a table
    same_under : (table : Package → List (List ℕ × ℕ)) (home : Option ℕ) (name : List ℕ) → under table g packages home name ≡ named_in_counterpart table m home name
    same_under table home name =
        ap (option_and_then (λ p'. option_and_then (λ (there : Package). lookup (bytes_eq name) (table there)) (slice_get g.packages p'))) (same_of (λ p. get_or packages p None) (counterpart_package m) home known.each)

    pub worlds_found : (worlds : List (Option ℕ)) → worlds ≡ map (world_under g packages) other.worlds → AreFound (counterpart_world m) (length other.worlds) worlds
    worlds_found worlds is =
        found_mapped (world_under g packages) (counterpart_world m) other.worlds worlds is
        (λ w. same_of (world_under g packages) (λ (world : World). named_in_counterpart (λ (there : Package). there.worlds) m world.package world.name) (slice_get other.worlds w)
        (λ world. same_under (λ (there : Package). there.worlds) world.package world.name))

    -- interfaces by name
    module _ (named : List (Option ℕ)) (is : named ≡ map (interface_under g packages) other.interfaces) where
      named_at : (i : ℕ) → get_or named i None ≡ option_and_then (interface_under g packages) (slice_get other.interfaces i)
      named_at i = ap (λ (l : List (Option ℕ)). get_or l i None) is ∙ get_or-map (interface_under g packages) other.interfaces i

      pub unnamed_none : (i : ℕ) → is_unnamed other.interfaces i ≡ true → get_or named i None ≡ None
      unnamed_none i unnamed = named_at i ∙ by (slice_get other.interfaces i) unnamed
        where
          none : (home : Option ℕ) (name : Option (List ℕ)) → not (is_some name) ≡ true → option_and_then (under (λ (there : Package). there.interfaces) g packages home) name ≡ None
          none home None off = refl
          none home (Some name) off = cc

          by : (o : Option Interface) → option_map_or (λ (interface : Interface). not (is_some interface.name)) o false ≡ true → option_and_then (interface_under g packages) o ≡ None
          by None off = refl
          by (Some interface) off = none interface.package interface.name off

      pub interfaces_found : (found : List (Option ℕ)) → AreLabelled g other named (world_labels other.worlds) found → AreFound (counterpart_interface m) (length other.interfaces) found
      interfaces_found found spotted = record { long = spotted.long; each = each }
        where
          by_name : (i : ℕ) (home : Option ℕ) (name : Option (List ℕ))
              → (if not (is_some name) then option_and_then (counterpart_at_label m) (lookup (nat_eq i) (world_labels other.worlds)) else option_and_then (under (λ (there : Package). there.interfaces) g packages home) name) ≡ counterpart_interface_by m i home name
          by_name i home None = refl
          by_name i home (Some name) = same_under (λ (there : Package). there.interfaces) home name

          by : (i : ℕ) (o : Option Interface)
              → (if option_map_or (λ (interface : Interface). not (is_some interface.name)) o false then option_and_then (counterpart_at_label m) (lookup (nat_eq i) (world_labels other.worlds)) else option_and_then (interface_under g packages) o)
              ≡ option_and_then (λ (interface : Interface). counterpart_interface_by m i interface.package interface.name) o
          by i None = refl
          by i (Some interface) = by_name i interface.package interface.name

          each : (i : ℕ) → get_or found i None ≡ counterpart_interface m i
          each i =
              spotted.each i
              ∙ ap (λ (n : Option ℕ). if is_unnamed other.interfaces i then option_and_then (counterpart_at_label m) (lookup (nat_eq i) (world_labels other.worlds)) else n) (named_at i)
              ∙ by i (slice_get other.interfaces i)

  -- types by name and owner
  pub types_found : (worlds interfaces types : List (Option ℕ)) → AreFound (counterpart_world m) (length other.worlds) worlds → AreFound (counterpart_interface m) (length other.interfaces) interfaces
      → types ≡ map (type_under g worlds interfaces) other.types → AreFound (counterpart_type m) (length other.types) types
  types_found worlds interfaces types known_worlds known_interfaces is =
      found_mapped (type_under g worlds interfaces) (counterpart_type m) other.types types is
      (λ t. same_of (type_under g worlds interfaces) (λ (def : TypeDef). counterpart_type_by m def.name def.owner) (slice_get other.types t) (λ def. by def.name def.owner))
    where
      by : (name : Option (List ℕ)) (owned : TypeOwner) → option_and_then (λ n. owned_under g worlds interfaces n owned) name ≡ counterpart_type_by m name owned
      by None owned = refl
      by (Some n) (owner.Interface i) = ap (option_and_then (interface_type g n)) (known_interfaces.each i)
      by (Some n) (owner.World w) = ap (λ (o : Option ℕ). option_and_then (λ (there : World). lookup (bytes_eq n) (world_types there)) (option_and_then (slice_get g.worlds) o)) (known_worlds.each w)
      by (Some n) owner.None = refl
