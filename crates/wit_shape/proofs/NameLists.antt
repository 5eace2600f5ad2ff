-- The names of interfaces and of worlds after the foreign ones, of the first ones and one more.
use Rattle.std.proofs.Common.{◌≡◌, ◌∙◌, ℕ, ◌≤◌, ◌+◌, List, [], ◌∷◌, ◌++◌, map, flat_map, take, Option, None, Some, slice_get, refl, ap, sym, subst}
use Rattle.std.specs.Prelude.{Contains, IfSome, bytes_eq, option_to_list}
use Rattle.std.specs.List.{IsDistinct}
use Rattle.std.proofs.lemmas.Grind.{flat_map-append}
use Rattle.std.proofs.lemmas.List.{append-nil, map-append}
use Rattle.std.proofs.lemmas.Slice.Eq.{bytes_eq-Decides}
use Rattle.wit_digraph.specs.facts.MemberFacts.{Contains-nil}
use Rattle.wit_shape.specs.facts.DistinctFacts.{apart_push}
use Rattle.wit_data.specs.Each.{EachAt}
use Rattle.wit_data.specs.Shape.{interface_names, world_names}
use Rattle.wit_data.specs.declared.interface.Interface.{Interface}
use Rattle.wit_data.specs.declared.world.World.{World}
use Rattle.wit_shape.proofs.Differ.{none_yet, one_more, stands_again}

abbrev of_interfaces : List Interface → List (List ℕ)
of_interfaces interfaces = flat_map (λ (interface : Interface). option_to_list interface.name) interfaces

abbrev of_worlds : List World → List (List ℕ)
of_worlds worlds = map (λ (world : World). world.name) worlds

interface_parts : (a b : List Interface) → of_interfaces (a ++ b) ≡ of_interfaces a ++ of_interfaces b
interface_parts a b = flat_map-append (λ (interface : Interface). option_to_list interface.name) a b

world_parts : (a b : List World) → of_worlds (a ++ b) ≡ of_worlds a ++ of_worlds b
world_parts a b = map-append (λ (world : World). world.name) a b

pub no_interfaces : (foreign : ℕ) (interfaces : List Interface) (i : ℕ) → i ≤ foreign → interface_names foreign (take i interfaces) ≡ []
no_interfaces foreign interfaces i first = none_yet of_interfaces refl interface_parts foreign interfaces i first

pub one_interface : (foreign : ℕ) (interfaces : List Interface) (i : ℕ) (interface : Interface) → foreign ≤ i → slice_get interfaces i ≡ Some interface
    → interface_names foreign (take (i + 1) interfaces) ≡ interface_names foreign (take i interfaces) ++ option_to_list interface.name
one_interface foreign interfaces i interface past at = one_more of_interfaces refl interface_parts foreign interfaces i interface past at ∙ ap (λ (l : List (List ℕ)). interface_names foreign (take i interfaces) ++ l) (append-nil (option_to_list interface.name))

pub no_worlds : (foreign : ℕ) (worlds : List World) (w : ℕ) → w ≤ foreign → world_names foreign (take w worlds) ≡ []
no_worlds foreign worlds w first = none_yet of_worlds refl world_parts foreign worlds w first

pub one_world : (foreign : ℕ) (worlds : List World) (w : ℕ) (world : World) → foreign ≤ w → slice_get worlds w ≡ Some world
    → world_names foreign (take (w + 1) worlds) ≡ world_names foreign (take w worlds) ++ world.name ∷ []
one_world foreign worlds w world past at = one_more of_worlds refl world_parts foreign worlds w world past at

-- of interfaces whose names differ none has one that stands before it
pub interfaces_differ : (foreign : ℕ) (interfaces : List Interface) → IsDistinct bytes_eq (interface_names foreign interfaces)
    → EachAt (λ i (interface : Interface). IfSome interface.name (λ name. Contains (interface_names foreign (take i interfaces)) name → ⊥)) interfaces
interfaces_differ foreign interfaces apart i interface at = by interface.name refl
  where
    by : (o : Option (List ℕ)) → interface.name ≡ o → IfSome o (λ name. Contains (interface_names foreign (take i interfaces)) name → ⊥)
    by None is = tt
    by (Some name) is = λ has.
        stands_again of_interfaces refl interface_parts foreign interfaces i interface name at (λ rest. ap (λ (o : Option (List ℕ)). option_to_list o ++ of_interfaces rest) is) apart has

-- nor of worlds
pub worlds_differ : (foreign : ℕ) (worlds : List World) → IsDistinct bytes_eq (world_names foreign worlds) → EachAt (λ w (world : World). Contains (world_names foreign (take w worlds)) world.name → ⊥) worlds
worlds_differ foreign worlds apart w world at has = stands_again of_worlds refl world_parts foreign worlds w world world.name at (λ rest. refl) apart has

-- one more name that isn't there
pub differ_more : (met : List (List ℕ)) (o : Option (List ℕ)) → IsDistinct bytes_eq met → IfSome o (λ name. Contains met name → ⊥) → IsDistinct bytes_eq (met ++ option_to_list o)
differ_more met None apart new = subst (λ (l : List (List ℕ)). IsDistinct bytes_eq l) (sym (append-nil met)) apart
differ_more met (Some name) apart new = apart_push bytes_eq-Decides met name apart new

-- no name is there yet
pub not_there : (met : List (List ℕ)) → met ≡ [] → (name : List ℕ) → Contains met name → ⊥
not_there met none name has = Contains-nil (subst (λ (l : List (List ℕ)). Contains l name) none has)

pub none_there : (met : List (List ℕ)) → met ≡ [] → (o : Option (List ℕ)) → IfSome o (λ name. Contains met name → ⊥)
none_there met none None = tt
none_there met none (Some name) = not_there met none name
