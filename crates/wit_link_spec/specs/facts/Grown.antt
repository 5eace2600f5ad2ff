-- What stands behind a graph to which a package is added: its types and interfaces, the copies of includes, the package,
-- and its worlds, each under its name.
use Rattle.std.proofs.Common.{◌≡◌, ◌∙◌, inl, inr, ℕ, zero, suc, ◌<◌, ◌≤◌, List, [], ◌∷◌, ◌++◌, map, length, Some, slice_get, refl, sym, ap, subst, arith}
use Rattle.std.proofs.lemmas.Bool.{cases_lt}
use Rattle.std.proofs.lemmas.List.{append-nil, append_assoc, length-append}
use Rattle.wit_values.specs.facts.Lists.{slice_get-append, slice_get-push}
use Rattle.wit_data.specs.Each.{Each, SomeAt}
use Rattle.wit_data.specs.declared.interface.Interface.{Interface}
use Rattle.wit_data.specs.declared.types.TypeDef.{TypeDef}
use Rattle.wit_data.specs.declared.world.World.{World}
use Rattle.wit_graph_data.specs.declared.graph.Graph.{Graph}
use Rattle.wit_remap_spec.specs.Image.{interface_image, type_image}
use Rattle.wit_graph_theory.specs.facts.ListFacts.{SomeAt-old, get_at, same_at, some_at}
use Rattle.wit_link_spec.specs.Addition.{Addition, addition_maps, own_interfaces, own_worlds, remap_of_addition, updated_includes}
use Rattle.wit_link_spec.specs.Added.{new_package, with_parts, with_world, with_worlds}
use Rattle.wit_link_spec.specs.Include.{with_several}
use Rattle.wit_link_spec.specs.facts.Linked.{linked_world}
use Rattle.wit_link_spec.specs.facts.StageGrows.{IsCopy, each_joined}
use Rattle.wit_link_spec.specs.facts.Stages.{whole_more, with_worlds_next}
use Rattle.wit_remap_spec.specs.steps.Parts.{owns}
use Rattle.wit_link_spec.specs.steps.Parts.{image_at, own_types}

-- a world has its name, and is of the new package
abbrev pub IsCalled : Addition → ℕ × World → World → Type 0
IsCalled a e world = (world.name ≡ e.1.name) × (world.package ≡ Some (length a.graph.packages))

-- the graph with the first `count` of the package's worlds
pub record IsGrown (a : Addition) (count : ℕ) (new : Graph) : Type 0 where
  pub types : List TypeDef
  pub types_are : new.types ≡ (with_parts a).types ++ types
  pub interfaces : List Interface
  pub interfaces_are : new.interfaces ≡ (with_parts a).interfaces ++ interfaces
  pub copies : Each (IsCopy (length a.graph.packages)) interfaces
  pub packages_are : new.packages ≡ a.graph.packages ++ new_package a ∷ []
  pub names_are : new.package_names
      ≡ a.graph.package_names ++ (a.unresolved.name, length a.graph.packages) ∷ []
  pub done : List World
  pub worlds_are : new.worlds ≡ a.graph.worlds ++ done
  pub many : length done ≡ count
  pub called : (i : ℕ) (e : ℕ × World) → i < count → slice_get (own_worlds a) i ≡ Some e
      → SomeAt done i (IsCalled a e)

module _ (a : Addition) where
  grown_next : (k : ℕ) (e : ℕ × World) → slice_get (own_worlds a) k ≡ Some e → IsGrown a k (with_worlds a k) → IsGrown a (suc k) (with_world a (with_worlds a k) e)
  grown_next k e at are =
      let more = whole_more a k e at in
      let done = linked_world a e.0 e.1 (with_several (length a.graph.packages) (with_worlds a k) (image_at a e.0 e.1) (updated_includes a e.1)) in
      record {
        types = are.types ++ more.types;
        types_are = more.types_are ∙ ap (λ (l : List TypeDef). l ++ more.types) are.types_are ∙ append_assoc (with_parts a).types are.types more.types;
        interfaces = are.interfaces ++ more.interfaces;
        interfaces_are = more.interfaces_are ∙ ap (λ (l : List Interface). l ++ more.interfaces) are.interfaces_are ∙ append_assoc (with_parts a).interfaces are.interfaces more.interfaces;
        copies = each_joined (IsCopy (length a.graph.packages)) are.interfaces more.interfaces are.copies more.copies;
        packages_are = more.packages_are ∙ are.packages_are;
        names_are = more.names_are ∙ are.names_are;
        done = are.done ++ done ∷ [];
        worlds_are = ap (λ (l : List World). l ++ done ∷ []) (more.worlds_are ∙ are.worlds_are) ∙ append_assoc a.graph.worlds are.done (done ∷ []);
        many = let long = are.many in omega (arith, long, length-append are.done (done ∷ []));
        called = λ i d below there. elim (cases_lt i k) [
          | inl early ↦ SomeAt-old (IsCalled a d) (IsCalled a d) are.done (done ∷ []) i (λ world is. is) (are.called i d early there)
          | inr past ↦
              let same : i ≡ k = omega arith in
              let one : d ≡ e = same_at (own_worlds a) i k d e same there at in
              let long = are.many in
              let place : length are.done ≡ i = omega arith in
              subst (λ (n : ℕ). SomeAt (are.done ++ done ∷ []) n (IsCalled a d)) place
              (some_at (IsCalled a d) (are.done ++ done ∷ []) (length are.done) done (slice_get-push are.done done) (ap (λ (x : ℕ × World). x.1.name) (sym one), refl))
        ];
      }

  -- so many worlds in front
  pub grown : (k : ℕ) → k ≤ length (own_worlds a) → IsGrown a k (with_worlds a k)
  grown zero within = record {
    types = [];
    types_are = sym (append-nil (with_parts a).types);
    interfaces = [];
    interfaces_are = sym (append-nil (with_parts a).interfaces);
    copies = λ i x at. none i x at;
    packages_are = refl;
    names_are = refl;
    done = [];
    worlds_are = sym (append-nil a.graph.worlds);
    many = refl;
    called = λ i e below there. absurd (omega arith);
  }
    where
      none : (i : ℕ) (x : Interface) → slice_get [] i ≡ Some x → IsCopy (length a.graph.packages) x
      none i x at = cc
  grown (suc k) within =
      let e = get_at (own_worlds a) k (omega arith) in
      subst (IsGrown a (suc k)) (sym (with_worlds_next a k e.0 e.1)) (grown_next k e.0 e.1 (grown k (omega arith)))

  module _ (count : ℕ) (new : Graph) (are : IsGrown a count new) where
    abbrev pub more_types : List TypeDef
    more_types =
        (map (type_image (addition_maps a)) (own_types a) ++ owns (remap_of_addition a))
        ++ are.types

    abbrev pub more_interfaces : List Interface
    more_interfaces = map (interface_image (addition_maps a)) (own_interfaces a) ++ are.interfaces

    -- behind the graph
    pub types_behind : new.types ≡ a.graph.types ++ more_types
    types_behind = are.types_are ∙ append_assoc a.graph.types (map (type_image (addition_maps a)) (own_types a) ++ owns (remap_of_addition a)) are.types

    pub interfaces_behind : new.interfaces ≡ a.graph.interfaces ++ more_interfaces
    interfaces_behind = are.interfaces_are ∙ append_assoc a.graph.interfaces (map (interface_image (addition_maps a)) (own_interfaces a)) are.interfaces

    -- an interface of the graph with the package's parts stays
    pub part_at : (f : ℕ) (interface : Interface) → slice_get (with_parts a).interfaces f ≡ Some interface → slice_get new.interfaces f ≡ Some interface
    part_at f interface at = subst (λ (l : List Interface). slice_get l f ≡ Some interface) (sym are.interfaces_are) (slice_get-append (with_parts a).interfaces are.interfaces f interface at)
