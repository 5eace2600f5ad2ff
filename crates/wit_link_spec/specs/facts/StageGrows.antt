-- What includes add to a graph: types, and interfaces without names that are of the new package; all else stays.
use Rattle.std.proofs.Common.{◌≡◌, ◌∙◌, ℕ, List, [], ◌∷◌, ◌++◌, false, fold, inl, inr, is_some, map, not, true, length, Option, None, Some, slice_get, refl, sym, ap, subst}
use Rattle.std.proofs.lemmas.List.{append-nil, append_assoc}
use Rattle.std.specs.Option.{option_map_or}
use Rattle.wit_data.specs.Each.{Each}
use Rattle.wit_data.specs.Entries.{is_unnamed}
use Rattle.wit_data.specs.declared.interface.Interface.{Interface}
use Rattle.wit_data.specs.declared.types.TypeDef.{TypeDef}
use Rattle.wit_data.specs.declared.world.World.{World}
use Rattle.wit_data.specs.declared.world.WorldInclude.{WorldInclude}
use Rattle.wit_graph_data.specs.declared.graph.Graph.{Graph}
use Rattle.wit_remap_spec.specs.Image.{interface_image, type_image}
use Rattle.wit_graph_theory.specs.facts.ListFacts.{from_map, old_or_new}
use Rattle.wit_graph_theory.specs.facts.OptionFacts.{none_there}
use Rattle.wit_remap_spec.specs.Selected.{selected, selected_with_index}
use Rattle.wit_link_spec.specs.Include.{PartiallyLinked, belongs_to, copy_maps, is_copied, with_several, with_world_included}
use Rattle.wit_link_spec.specs.facts.RankFacts.{selected_with_index-from}
use Rattle.wit_link_spec.specs.facts.CopiedPart.{goes_parts}
use Rattle.wit_link_spec.specs.steps.Parts.{before_includes, with_one}

-- a copied interface: it has no name, and is of this package
abbrev pub IsCopy : ℕ → Interface → Type 0
IsCopy home interface = (interface.name ≡ None) × (interface.package ≡ Some home)

-- behind the types and interfaces of a graph come others, and all else is as it was
pub record HasMore (home : ℕ) (g new : Graph) : Type 0 where
  pub types : List TypeDef
  pub types_are : new.types ≡ g.types ++ types
  pub interfaces : List Interface
  pub interfaces_are : new.interfaces ≡ g.interfaces ++ interfaces
  pub copies : Each (IsCopy home) interfaces
  pub worlds_are : new.worlds ≡ g.worlds
  pub packages_are : new.packages ≡ g.packages
  pub names_are : new.package_names ≡ g.package_names

pub each_joined : {X : Type 0} (P : X → Type 0) (xs ys : List X) → Each P xs → Each P ys → Each P (xs ++ ys)
each_joined P xs ys first second i x at = elim (old_or_new xs ys i x at) [ inl old ↦ first i x old | inr new ↦ second new.0 x new.2 ]

pub has_itself : (home : ℕ) (g : Graph) → HasMore home g g
has_itself home g = record {
  types = [];
  types_are = sym (append-nil g.types);
  interfaces = [];
  interfaces_are = sym (append-nil g.interfaces);
  copies = λ i x at. none i x at;
  worlds_are = refl;
  packages_are = refl;
  names_are = refl;
}
  where
    none : (i : ℕ) (x : Interface) → slice_get [] i ≡ Some x → IsCopy home x
    none i x at = cc

pub has_more_still : (home : ℕ) (g b c : Graph) → HasMore home g b → HasMore home b c → HasMore home g c
has_more_still home g b c first second = record {
  types = first.types ++ second.types;
  types_are = second.types_are ∙ ap (λ (l : List TypeDef). l ++ second.types) first.types_are ∙ append_assoc g.types first.types second.types;
  interfaces = first.interfaces ++ second.interfaces;
  interfaces_are = second.interfaces_are ∙ ap (λ (l : List Interface). l ++ second.interfaces) first.interfaces_are ∙ append_assoc g.interfaces first.interfaces second.interfaces;
  copies = each_joined (IsCopy home) first.interfaces second.interfaces first.copies second.copies;
  worlds_are = second.worlds_are ∙ first.worlds_are;
  packages_are = second.packages_are ∙ first.packages_are;
  names_are = second.names_are ∙ first.names_are;
}

-- an include of a world that is there
included_more : (home into : ℕ) (include : WorldInclude) (from : ℕ) (world : World) (b : PartiallyLinked) → HasMore home b.graph (with_world_included home into include.names from world b).graph
included_more home into include from world b = record {
  types = map (type_image (copy_maps b.graph from world include.names into home)) (selected (is_copied b.graph from world) b.graph.types);
  types_are = refl;
  interfaces = map (interface_image (copy_maps b.graph from world include.names into home)) (selected (belongs_to b.graph world) b.graph.interfaces);
  interfaces_are = refl;
  copies = copies;
  worlds_are = refl;
  packages_are = refl;
  names_are = refl;
}
  where
    copies : Each (IsCopy home) (map (interface_image (copy_maps b.graph from world include.names into home)) (selected (belongs_to b.graph world) b.graph.interfaces))
    copies i x at =
        let made = from_map (interface_image (copy_maps b.graph from world include.names into home)) (selected (belongs_to b.graph world) b.graph.interfaces) i x at in
        let spot = from_map (λ (e : ℕ × Interface). e.1) (selected_with_index (belongs_to b.graph world) b.graph.interfaces) i made.0 made.1 in
        let is = selected_with_index-from (belongs_to b.graph world) b.graph.interfaces i spot.0 spot.1 in
        let nameless = unnamed (b.graph.interfaces) spot.0.0 spot.0.1 is.0 (goes_parts b.graph world spot.0.0 is.1).0 in
        subst (IsCopy home) made.2 (ap (λ (y : Interface). y.name) (sym spot.2) ∙ nameless, refl)
      where
        unnamed : (xs : List Interface) (f : ℕ) (y : Interface) → slice_get xs f ≡ Some y → is_unnamed xs f ≡ true → y.name ≡ None
        unnamed xs f y at is = none_there y.name (sym (ap (λ (o : Option Interface). option_map_or (λ (interface : Interface). not (is_some interface.name)) o false) at) ∙ is)

-- an include, whatever it names
pub include_more : (home : ℕ) (b : PartiallyLinked) (include : WorldInclude) → HasMore home b.graph (with_one home b include).graph
include_more home b include = by (slice_get b.graph.worlds include.id)
  where
    by : (o : Option World) → HasMore home b.graph (option_map_or (λ (world : World). with_world_included home (length b.graph.worlds) include.names include.id world b) o b).graph
    by None = has_itself home b.graph
    by (Some world) = included_more home (length b.graph.worlds) include include.id world b

all_more : (home : ℕ) (includes : List WorldInclude) (b : PartiallyLinked) → HasMore home b.graph (fold (with_one home) b includes).graph
all_more home [] b = has_itself home b.graph
all_more home (x ∷ includes) b =
    has_more_still home b.graph (with_one home b x).graph (fold (with_one home) (with_one home b x) includes).graph (include_more home b x) (all_more home includes (with_one home b x))

-- what is begun with includes
pub begun_more : (home : ℕ) (g : Graph) (world : World) (includes : List WorldInclude) → HasMore home g (with_several home g world includes).graph
begun_more home g world includes = all_more home includes (before_includes g world)
