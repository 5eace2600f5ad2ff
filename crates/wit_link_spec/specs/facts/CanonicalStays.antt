-- What the types and interfaces of a partially linked graph use stays what it was, where more types and interfaces stand
-- behind them; so a world that is canonical stays canonical.
use Rattle.std.proofs.Common.{◌≡◌, ◌∙◌, ℕ, List, [], ◌∷◌, ◌++◌, map, filter_map, IfSome, Option, None, Some, option_and_then, slice_get, suc, refl, sym, ap, subst}
use Rattle.std.proofs.lemmas.List.{map-append}
use Rattle.std.specs.Option.{option_map_or}
use Rattle.wit_values.specs.facts.Lists.{slice_get-append}
use Rattle.wit_digraph.specs.Relation.{IsAcyclic}
use Rattle.wit_data.specs.Each.{Each, SomeAt}
use Rattle.wit_data.specs.Entries.{ExportsAreAllowed, ImportsAreAllowed, IsImport}
use Rattle.wit_data.specs.Ownership.{AliasesNamed}
use Rattle.wit_data.specs.Uses.{alias_target, interface_uses, other_owner, type_interface_dep, uses_of}
use Rattle.wit_data.specs.declared.interface.Interface.{Interface}
use Rattle.wit_data.specs.declared.types.TypeDef.{TypeDef}
use Rattle.wit_data.specs.declared.types.TypeOwner.{TypeOwner}
use Rattle.wit_data.specs.declared.world.World.{World}
use Rattle.wit_data.specs.declared.world.WorldItem.{WorldItem}
use Rattle.wit_data.specs.declared.world.WorldKey.{WorldKey}
use Rattle.wit_data.specs.declared.stability.Stability.TheVariants as stability
use Rattle.wit_data.specs.declared.types.TypeOwner.TheVariants as owner
use Rattle.wit_data.specs.declared.world.WorldItem.TheVariants as item
use Rattle.wit_data.specs.declared.world.WorldKey.TheVariants as key
use Rattle.wit_elaboration.specs.Elaborated.{Elaborated, inherited_by_import}
use Rattle.wit_elaboration.specs.Entries.{role_of}
use Rattle.wit_elaboration.specs.laws.KeptByElaboration.{ElaborationIsLocal}
use Rattle.wit_elaboration.specs.facts.SoundFacts.{lists_in_order}
use Rattle.wit_graph_data.specs.declared.graph.Graph.{Graph}
use Rattle.wit_graph_theory.specs.facts.Good.{HasGoodItems}
use Rattle.wit_graph_theory.specs.facts.ListFacts.{found_at, place_of}
use Rattle.wit_elaboration.specs.steps.Parts.{type_role}

-- the interface that what an alias names belongs to, where that isn't its own owner
abbrev pub named_dep : List TypeDef → TypeOwner → ℕ → Option ℕ
named_dep types by target =
    option_and_then (λ (named : TypeDef). other_owner by named.owner) (slice_get types target)

pub dep_of : (types : List TypeDef) (id : ℕ) (def : TypeDef) → slice_get types id ≡ Some def → type_interface_dep types id ≡ option_and_then (named_dep types def.owner) (alias_target def.kind)
dep_of types id def at = ap (λ (o : Option TypeDef). option_and_then (λ (d : TypeDef). option_and_then (named_dep types d.owner) (alias_target d.kind)) o) at

-- an alias needs the same in a longer list, where what it names is in the shorter one
dep_stays : (types more : List TypeDef) (by : TypeOwner) (target : Option ℕ) (P : TypeDef → Type 0) → IfSome target (λ t. SomeAt types t P)
    → option_and_then (named_dep (types ++ more) by) target ≡ option_and_then (named_dep types by) target
dep_stays types more by None P there = refl
dep_stays types more by (Some t) P there =
    let named = found_at P types t there in
    ap (λ (o : Option TypeDef). option_and_then (λ (n : TypeDef). other_owner by n.owner) o) (slice_get-append types more t named.0 named.1 ∙ sym named.1)

-- functions that agree on the elements give the same
pub filter_map_agrees : {X Y : Type 0} (f g : X → Option Y) (xs : List X) → ((i : ℕ) (x : X) → slice_get xs i ≡ Some x → f x ≡ g x) → filter_map f xs ≡ filter_map g xs
filter_map_agrees f g [] same = refl
filter_map_agrees f g (x ∷ xs) same = rw (same 0 x refl, filter_map_agrees f g xs (λ i. same (suc i))) refl

pub map_agrees : {X Y : Type 0} (f g : X → Y) (xs : List X) → ((i : ℕ) (x : X) → slice_get xs i ≡ Some x → f x ≡ g x) → map f xs ≡ map g xs
map_agrees f g [] same = refl
map_agrees f g (x ∷ xs) same = rw (same 0 x refl, map_agrees f g xs (λ i. same (suc i))) refl

module _ (g : Graph) (items : HasGoodItems g) (more : List TypeDef) where
  -- a type needs the interface that it needed
  pub type_stays : (id : ℕ) (def : TypeDef) → slice_get g.types id ≡ Some def → type_interface_dep (g.types ++ more) id ≡ type_interface_dep g.types id
  type_stays id def at =
      dep_of (g.types ++ more) id def (slice_get-append g.types more id def at) ∙ dep_stays g.types more def.owner (alias_target def.kind) _ ((items.types id def at).alias)
      ∙ sym (dep_of g.types id def at)

  -- an interface uses what it used
  pub interface_stays : (i : ℕ) (interface : Interface) → slice_get g.interfaces i ≡ Some interface → interface_uses (g.types ++ more) interface ≡ interface_uses g.types interface
  interface_stays i interface at =
      filter_map_agrees (λ (e : List ℕ × ℕ). type_interface_dep (g.types ++ more) e.1) (λ (e : List ℕ × ℕ). type_interface_dep g.types e.1) interface.types
      (λ k e on.
      let def = found_at (λ (def : TypeDef). (def.name ≡ Some e.0) × (def.owner ≡ owner.Interface i)) g.types e.1 ((items.interfaces i interface at).own_types k e on) in
      type_stays e.1 def.0 def.1)

  -- so do all that were there
  pub old_uses : (others : List Interface) → uses_of (g.types ++ more) (g.interfaces ++ others) ≡ uses_of g.types g.interfaces ++ map (interface_uses (g.types ++ more)) others
  old_uses others =
      map-append (interface_uses (g.types ++ more)) g.interfaces others
      ∙ ap (λ (rows : List (List ℕ)). rows ++ map (interface_uses (g.types ++ more)) others) (map_agrees (interface_uses (g.types ++ more)) (interface_uses g.types) g.interfaces interface_stays)

  -- an import is what it was, and its dependencies carry what they did
  same_role : (w : ℕ) (k : WorldKey) (held : WorldItem) → IsImport g.interfaces g.types w k held → role_of g.types held ≡ role_of (g.types ++ more) held
  same_role w k (item.Interface i stability docs span external_id) is = refl
  same_role w k (item.Function f) is = refl
  same_role w (key.Interface f) (item.Type_ t span) is = absurd is
  same_role w (key.Name name) (item.Type_ t span) is =
      let def = found_at (λ (def : TypeDef). (def.name ≡ Some name) × (def.owner ≡ owner.World w)) g.types t is in
      ap type_role (sym (type_stays t def.0 def.1))

  same_inherited_data : (w : ℕ) (k : WorldKey) (held : WorldItem) → IsImport g.interfaces g.types w k held → inherited_by_import g.types held ≡ inherited_by_import (g.types ++ more) held
  same_inherited_data w k (item.Interface i stability docs span external_id) is = refl
  same_inherited_data w k (item.Function f) is = refl
  same_inherited_data w (key.Interface f) (item.Type_ t span) is = absurd is
  same_inherited_data w (key.Name name) (item.Type_ t span) is =
      let def = found_at (λ (def : TypeDef). (def.name ≡ Some name) × (def.owner ≡ owner.World w)) g.types t is in
      ap (λ (o : Option TypeDef). record { stability = option_map_or (λ (type : TypeDef). type.stability) o stability.Unknown; external_id = None })
      (def.1 ∙ sym (slice_get-append g.types more t def.0 def.1))

  imports_are : (w : ℕ) (world : World) → slice_get g.worlds w ≡ Some world → ImportsAreAllowed g.interfaces g.types w world
  imports_are w world at i e on = ((items.worlds w world at).imports i e on).is

  exports_are : (w : ℕ) (world : World) → slice_get g.worlds w ≡ Some world → ExportsAreAllowed g.interfaces world
  exports_are w world at i e on = ((items.worlds w world at).exports i e on).is

  aliases_are : Each (AliasesNamed g.types g.interfaces) g.types
  aliases_are i def at = (items.types i def at).alias

  -- a world that is canonical is so over more types and interfaces
  pub canonical_longer : (others : List Interface) → ElaborationIsLocal → IsAcyclic (uses_of g.types g.interfaces) → IsAcyclic (uses_of (g.types ++ more) (g.interfaces ++ others))
      → (w : ℕ) (world : World) → slice_get g.worlds w ≡ Some world → Elaborated g.types (uses_of g.types g.interfaces) world world → Elaborated (g.types ++ more) (uses_of (g.types ++ more) (g.interfaces ++ others)) world world
  canonical_longer others local was acyclic w world at canonical =
      let rows = map (interface_uses (g.types ++ more)) others in
      let imports = imports_are w world at in
      subst (λ (uses : List (List ℕ)). Elaborated (g.types ++ more) uses world world) (sym (old_uses others))
      (local g.types (g.types ++ more) (uses_of g.types g.interfaces) rows world world was (subst IsAcyclic (old_uses others) acyclic)
      (lists_in_order g.types g.interfaces aliases_are w world imports (exports_are w world at))
      (λ e has. let place = place_of world.imports e has in same_role w e.0 e.1 (imports place.0 e place.1))
      (λ e has. let place = place_of world.imports e has in same_inherited_data w e.0 e.1 (imports place.0 e place.1)) canonical)
