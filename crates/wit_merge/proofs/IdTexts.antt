-- An interface with a name, which stands in the table of its package, has an id text.
use Rattle.std.proofs.Common.{◌≡◌, ◌∙◌, ℕ, List, Option, None, Some, IsSome, option_and_then, option_map, slice_get, refl, ap}
use Rattle.std.specs.Option.{IsSomeAnd}
use Rattle.wit_data.specs.Each.{EachAt}
use Rattle.wit_data.specs.Ownership.{IsNamed}
use Rattle.wit_data.specs.declared.interface.Interface.{Interface}
use Rattle.wit_graph_data.specs.IdText.{id_text, interface_id_at}
use Rattle.wit_elaboration.specs.Valid.{IsInTable}
use Rattle.wit_graph_data.specs.declared.graph.Package.{Package}
use Rattle.wit_graph_theory.specs.facts.ListFacts.{found_at}
use Rattle.wit_graph_theory.specs.facts.OptionFacts.{some_there}
use Rattle.wit_graph_data.specs.steps.Parts.{interface_id_text}

module _ (packages : List Package) (interfaces : List Interface) (tables : EachAt (IsInTable packages) interfaces) where
  has_home : (P : ℕ → Type 0) (o : Option ℕ) → IsSomeAnd o P → (p : ℕ) × (o ≡ Some p)
  has_home P None h = absurd h
  has_home P (Some p) h = (p, refl)

  pub id_of_named : (i : ℕ) → IsNamed interfaces i → (id : List ℕ) × (interface_id_at packages interfaces i ≡ Some id)
  id_of_named i named =
      let found = found_at (λ (interface : Interface). IsSome interface.name) interfaces i named in
      let name = some_there found.0.name found.2 in
      let home = has_home _ found.0.package (tables i found.0 found.1) in
      (id_text packages home.0 name.0, whole (slice_get interfaces i) found.0 found.1 name.0 home.0 name.1 home.1)
    where
      whole : (o : Option Interface) (interface : Interface) → o ≡ Some interface → (name : List ℕ) (p : ℕ) → interface.name ≡ Some name → interface.package ≡ Some p
          → option_and_then (interface_id_text packages) o ≡ Some (id_text packages p name)
      whole o interface at name p called of =
          ap (option_and_then (interface_id_text packages)) at ∙ ap (option_and_then (λ (n : List ℕ). option_map (λ (q : ℕ). id_text packages q n) interface.package)) called
          ∙ ap (option_map (λ (q : ℕ). id_text packages q name)) of
