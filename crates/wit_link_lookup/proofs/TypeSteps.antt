-- A type of another package, found or missing.
use Rattle.std.proofs.Common.{◌≡◌, ◌∙◌, ◌<◌, ℕ, true, List, length, Option, None, Some, slice_get, sym, ap, subst, arith}
use Rattle.std.specs.Prelude.{option_and_then}
use Rattle.wit_data.specs.Foreign.{IsForeignType, foreign_interfaces}
use Rattle.wit_data.specs.Shape.{IsShaped}
use Rattle.wit_data.specs.declared.types.TypeDef.{TypeDef}
use Rattle.wit_data.specs.declared.types.TypeOwner.{TypeOwner}
use Rattle.wit_data.specs.declared.types.TypeOwner.TheVariants as owner
use Rattle.wit_link_spec.specs.Addition.{Addition}
use Rattle.wit_link_spec.specs.Gates.{interface_is_active}
use Rattle.wit_link_spec.specs.Lookup.{foreign_interface_id, foreign_type_id, owning_interface}
use Rattle.wit_graph_data.specs.Named.{interface_type}
use Rattle.wit_link_lookup.specs.steps.ForeignItems.{IsTypeThere}

module _ (a : Addition) (t : ℕ) (def : TypeDef) (at : slice_get a.unresolved.types t ≡ Some def) (i : ℕ) (owned : def.owner ≡ owner.Interface i) where
  -- the interface of a type of another package is there
  pub owner-inside : IsShaped a.unresolved → t < length a.unresolved.unknown_type_spans → i < length a.unresolved.interfaces
  owner-inside shaped below =
      let under = subst (λ (o : TypeOwner). IsForeignType (length (foreign_interfaces a.unresolved.foreign_deps)) (record def { owner = o })) owned (shaped.unknown.foreign t def at below) in
      let first = under.1 in
      let there = shaped.foreign.interfaces.there in
      omega arith

  module _ (name : List ℕ) (called : def.name ≡ Some name) where
    -- it is where its interface has it
    pub foreign_type_id-is : (home : Option ℕ) → foreign_interface_id a.graph a.unresolved i ≡ home → foreign_type_id a.graph a.unresolved t ≡ option_and_then (interface_type a.graph name) home
    foreign_type_id-is home found =
        let of_owner = λ (n : List ℕ) (o : TypeOwner). option_and_then (λ (i : ℕ). option_and_then (interface_type a.graph n) (foreign_interface_id a.graph a.unresolved i)) (owning_interface o) in
        ap (option_and_then (λ (d : TypeDef). option_and_then (λ (n : List ℕ). of_owner n d.owner) d.name)) at ∙ ap (option_and_then (λ (n : List ℕ). of_owner n def.owner)) called ∙ ap (of_owner name) owned
        ∙ ap (option_and_then (interface_type a.graph name)) found

    -- it isn't missing, if its interface has it wherever that is
    pub type-there : ((i' : ℕ) → interface_is_active a.features a.unresolved i ≡ true → foreign_interface_id a.graph a.unresolved i ≡ Some i' → interface_type a.graph name i' ≡ None → ⊥) → IsTypeThere a t
    type-there has span message lacks same =
        let def_same = one_def lacks.def def (sym lacks.is ∙ ap (slice_get a.unresolved.types) same ∙ at) in
        let i_same = one_owner lacks.i i (sym lacks.owner ∙ ap (λ (d : TypeDef). d.owner) def_same ∙ owned) in
        let name_same = one_name lacks.name name (sym lacks.called ∙ ap (λ (d : TypeDef). d.name) def_same ∙ called) in
        has lacks.i' (ap (interface_is_active a.features a.unresolved) (sym i_same) ∙ lacks.owner_active) (ap (foreign_interface_id a.graph a.unresolved) (sym i_same) ∙ lacks.found)
        (ap (λ (n : List ℕ). interface_type a.graph n lacks.i') (sym name_same) ∙ lacks.absent)
      where
        one_def : (d e : TypeDef) → Some d ≡ Some e → d ≡ e
        one_def d e same = cc

        one_owner : (j k : ℕ) → owner.Interface j ≡ owner.Interface k → j ≡ k
        one_owner j k same = cc

        one_name : (n m : List ℕ) → Some n ≡ Some m → n ≡ m
        one_name n m same = cc
