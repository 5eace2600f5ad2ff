-- What a merge keeps of the graph: everything stands at its id.
use Rattle.std.proofs.Common.{◌≡◌, ◌∙◌, ℕ, ◌+◌, List, [], ◌++◌, map, Option, None, Some, slice_get, refl, sym, ap, arith}
use Rattle.std.proofs.lemmas.List.{append-nil}
use Rattle.std.specs.List.{enumerate_from}
use Rattle.std.specs.Option.{option_map_or}
use Rattle.wit_values.specs.facts.Lists.{slice_get-append}
use Rattle.wit_data.specs.Each.{EachAt, SomeAt}
use Rattle.wit_data.specs.declared.interface.Interface.{Interface}
use Rattle.wit_names.specs.declared.package_name.PackageName.{PackageName}
use Rattle.wit_data.specs.declared.types.TypeDef.{TypeDef}
use Rattle.wit_data.specs.declared.world.World.{World}
use Rattle.wit_graph_data.specs.declared.graph.Package.{Package}
use Rattle.wit_elaboration.specs.AllElaborated.{elaborated_world}
use Rattle.wit_graph_theory.specs.facts.ListFacts.{at_map, some_at}
use Rattle.wit_graph_theory.specs.facts.PackagesAcyclic.{numbered_into}
use Rattle.wit_merge_spec.specs.Merged.{joined_graph, merged, with_interface, with_package, with_world}
use Rattle.wit_merge_spec.specs.Matches.{GraphMerge, counterpart_interface, counterpart_of, counterpart_package, counterpart_type, counterpart_world}
use Rattle.wit_merge_spec.specs.facts.Unchanged.{SameHome, SameInterface, SamePackage, SameType}
use Rattle.wit_merge_spec.specs.steps.Parts.{with_type, joined_type, joined_interface, joined_world, joined_package}

-- what stands in front of a numbered list that is changed
front_at : {X : Type 0} (f : ℕ × X → X) (xs ys : List X) (i : ℕ) (x : X) → slice_get xs i ≡ Some x → slice_get (map f (enumerate_from 0 xs) ++ ys) i ≡ Some (f (i, x))
front_at f xs ys i x at =
    let place : 0 + i ≡ i = omega arith in
    slice_get-append (map f (enumerate_from 0 xs)) ys i (f (i, x)) (at_map f (enumerate_from 0 xs) i (i, x) (numbered_into 0 xs i x at ∙ ap (λ (n : ℕ). Some (n, x)) place))

module _ (m : GraphMerge) where
  -- a type is what it was, but for its stability
  pub types_stay : EachAt (λ t (def : TypeDef). SomeAt (merged m).types t (SameType def)) m.graph.types
  types_stay t def at = some_at (SameType def) (merged m).types t (joined_type m (t, def)) (front_at (joined_type m) m.graph.types _ t def at) (by (counterpart_of (counterpart_type m) m.other.types t))
    where
      by : (o : Option (ℕ × TypeDef)) → SameType def (option_map_or (λ (p : ℕ × TypeDef). with_type p.1 def) o def)
      by None = refl
      by (Some p) = refl

  -- an interface has its name and its package, and in front what it had
  pub interfaces_stay : EachAt (λ i (interface : Interface). SomeAt (merged m).interfaces i (SameInterface interface)) m.graph.interfaces
  interfaces_stay i interface at =
      some_at (SameInterface interface) (merged m).interfaces i (joined_interface m (i, interface)) (front_at (joined_interface m) m.graph.interfaces _ i interface at) (by (counterpart_of (counterpart_interface m) m.other.interfaces i))
    where
      by : (o : Option (ℕ × Interface)) → SameInterface interface (option_map_or (λ (p : ℕ × Interface). with_interface m p.1 interface) o interface)
      by None = record { name = refl; home = refl; types = ([], sym (append-nil interface.types)); functions = ([], sym (append-nil interface.functions)) }
      by (Some p) = record { name = refl; home = refl; types = (_, refl); functions = (_, refl) }

  -- a world has its package
  pub worlds_stay : EachAt (λ w (world : World). SomeAt (merged m).worlds w (SameHome world)) m.graph.worlds
  worlds_stay w world at =
      some_at (SameHome world) (merged m).worlds w (elaborated_world (joined_graph m) (joined_world m (w, world)))
      (at_map (elaborated_world (joined_graph m)) (joined_graph m).worlds w (joined_world m (w, world)) (front_at (joined_world m) m.graph.worlds _ w world at)) (by (counterpart_of (counterpart_world m) m.other.worlds w))
    where
      by : (o : Option (ℕ × World)) → SameHome world (option_map_or (λ (p : ℕ × World). with_world m p world) o world)
      by None = refl
      by (Some p) = refl

  -- a package has its name, and in front the interfaces that it had
  pub packages_stay : EachAt (λ p (home : Package). SomeAt (merged m).packages p (SamePackage home)) m.graph.packages
  packages_stay p home at = some_at (SamePackage home) (merged m).packages p (joined_package m (p, home)) (front_at (joined_package m) m.graph.packages _ p home at) (by (counterpart_of (counterpart_package m) m.other.packages p))
    where
      by : (o : Option (ℕ × Package)) → SamePackage home (option_map_or (λ (x : ℕ × Package). with_package m x.1 home) o home)
      by None = (refl, ([], sym (append-nil home.interfaces)))
      by (Some x) = (refl, (_, refl))

  pub names_stay : (more : List (PackageName × ℕ)) × ((merged m).package_names ≡ m.graph.package_names ++ more)
  names_stay = (_, refl)
