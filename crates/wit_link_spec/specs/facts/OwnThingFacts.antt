-- What stands in the lists of the package's own things that are active: which of its things it is, and that it goes
-- to the next id.
use Rattle.std.proofs.Common.{◌≡◌, ◌∙◌, ℕ, ◌+◌, ◌&&◌, Bool, true, false, not, length, Some, slice_get, refl, sym, ap, subst}
use Rattle.wit_data.specs.declared.interface.Interface.{Interface}
use Rattle.wit_data.specs.declared.types.TypeDef.{TypeDef}
use Rattle.wit_data.specs.declared.world.World.{World}
use Rattle.wit_remap_spec.specs.Kept.{cut_interface, cut_world}
use Rattle.wit_graph_theory.specs.facts.ListFacts.{from_map}
use Rattle.wit_link_spec.specs.Addition.{Addition, own_interface, own_interfaces, own_type, own_world, own_worlds, remapped_interface, remapped_type, remapped_world}
use Rattle.wit_remap_spec.specs.Selected.{rank, selected, selected_with_index}
use Rattle.wit_link_spec.specs.facts.ActivePart.{part}
use Rattle.wit_link_spec.specs.Gates.{interface_is_active, is_foreign_interface, is_foreign_world, type_is_active, world_is_active}
use Rattle.wit_link_spec.specs.Lookup.{is_foreign_type}
use Rattle.wit_link_spec.specs.facts.RankFacts.{selected_with_index-from}
use Rattle.wit_link_spec.specs.facts.Standing.{own_interface_remapped, own_type_remapped, own_world_remapped}
use Rattle.wit_link_spec.specs.steps.Parts.{own_types}

pub own_part : (foreign active : Bool) → not foreign && active ≡ true → (foreign ≡ false) × (active ≡ true)
own_part true active h = cc
own_part false active h = (refl, h)

pub own_of_both : (foreign active : Bool) → foreign ≡ false → active ≡ true → not foreign && active ≡ true
own_of_both true active h k = cc
own_of_both false active h k = k

-- what stands among the types that are added first
pub record OwnType (a : Addition) (i : ℕ) (def : TypeDef) : Type 0 where
  pub t : ℕ
  pub there : slice_get a.unresolved.types t ≡ Some def
  pub own : own_type a t ≡ true
  pub foreign : is_foreign_type a.unresolved t ≡ false
  pub active : type_is_active a.features a.unresolved.types t ≡ true
  pub place : remapped_type a t ≡ length a.graph.types + i

-- among the interfaces that are added
pub record OwnInterface (a : Addition) (i : ℕ) (cut : Interface) : Type 0 where
  pub f : ℕ
  pub interface : Interface
  pub there : slice_get a.unresolved.interfaces f ≡ Some interface
  pub own : own_interface a f ≡ true
  pub foreign : is_foreign_interface a.unresolved f ≡ false
  pub active : interface_is_active a.features a.unresolved f ≡ true
  pub place : remapped_interface a f ≡ length a.graph.interfaces + i
  pub is : cut_interface (part a) interface ≡ cut

-- and among the worlds
pub record OwnWorld (a : Addition) (i : ℕ) (e : ℕ × World) : Type 0 where
  pub world : World
  pub there : slice_get a.unresolved.worlds e.0 ≡ Some world
  pub own : own_world a e.0 ≡ true
  pub foreign : is_foreign_world a.unresolved e.0 ≡ false
  pub active : world_is_active a.features a.unresolved e.0 ≡ true
  pub place : remapped_world a e.0 ≡ length a.graph.worlds + i
  pub is : cut_world (part a) world ≡ e.1

module _ (a : Addition) where
  pub own_type_from : (i : ℕ) (def : TypeDef) → slice_get (own_types a) i ≡ Some def → OwnType a i def
  own_type_from i def at =
      let from = from_map (λ (e : ℕ × TypeDef). e.1) (selected_with_index (own_type a) a.unresolved.types) i def at in
      let is = selected_with_index-from (own_type a) a.unresolved.types i from.0 from.1 in
      let both = own_part (is_foreign_type a.unresolved from.0.0) (type_is_active a.features a.unresolved.types from.0.0) is.1 in
      record {
        t = from.0.0;
        there = is.0 ∙ ap (λ (d : TypeDef). Some d) from.2;
        own = is.1;
        foreign = both.0;
        active = both.1;
        place = own_type_remapped a from.0.0 is.1 ∙ ap (λ (k : ℕ). length a.graph.types + k) (sym is.2);
      }

  pub own_interface_from : (i : ℕ) (cut : Interface) → slice_get (own_interfaces a) i ≡ Some cut → OwnInterface a i cut
  own_interface_from i cut at =
      let outer = from_map (cut_interface (part a)) (selected (own_interface a) a.unresolved.interfaces) i cut at in
      let from = from_map (λ (e : ℕ × Interface). e.1) (selected_with_index (own_interface a) a.unresolved.interfaces) i outer.0 outer.1 in
      let is = selected_with_index-from (own_interface a) a.unresolved.interfaces i from.0 from.1 in
      let both = own_part (is_foreign_interface a.unresolved from.0.0) (interface_is_active a.features a.unresolved from.0.0) is.1 in
      record {
        f = from.0.0;
        interface = from.0.1;
        there = is.0;
        own = is.1;
        foreign = both.0;
        active = both.1;
        place = own_interface_remapped a from.0.0 is.1 ∙ ap (λ (k : ℕ). length a.graph.interfaces + k) (sym is.2);
        is = ap (cut_interface (part a)) from.2 ∙ outer.2;
      }

  pub own_world_from : (i : ℕ) (e : ℕ × World) → slice_get (own_worlds a) i ≡ Some e → OwnWorld a i e
  own_world_from i e at =
      let from = from_map (λ (e : ℕ × World). let r : ℕ × World = (e.0, cut_world (part a) e.1) in r) (selected_with_index (own_world a) a.unresolved.worlds) i e at in
      let is = selected_with_index-from (own_world a) a.unresolved.worlds i from.0 from.1 in
      let same : from.0.0 ≡ e.0 = ap (λ (p : ℕ × World). p.0) from.2 in
      let own : own_world a e.0 ≡ true = subst (λ (w : ℕ). own_world a w ≡ true) same is.1 in
      let both = own_part (is_foreign_world a.unresolved e.0) (world_is_active a.features a.unresolved e.0) own in
      record {
        world = from.0.1;
        there = subst (λ (w : ℕ). slice_get a.unresolved.worlds w ≡ Some from.0.1) same is.0;
        own = own;
        foreign = both.0;
        active = both.1;
        place = own_world_remapped a e.0 own ∙ ap (λ (k : ℕ). length a.graph.worlds + k) (sym (is.2 ∙ ap (rank (own_world a)) same));
        is = ap (λ (p : ℕ × World). p.1) from.2;
      }
