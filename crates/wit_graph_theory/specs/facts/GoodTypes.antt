-- A type that is carried from a good one is good; so is an unnamed `own`.
use Rattle.std.proofs.Common.{◌≡◌, ◌∙◌, ◌⊎◌, inl, inr, ℕ, true, List, [], Option, None, Some, option_map, slice_get, refl, sym, ap, subst, Contains, IsSome, IfSome}
use Rattle.wit_digraph.specs.facts.MemberFacts.{Contains-here}
use Rattle.wit_data.specs.Each.{SomeAt}
use Rattle.wit_data.specs.Ownership.{IsListed, IsNamed, IsNamedInterface, IsOwn, IsPlain, is_no_target, world_types}
use Rattle.wit_data.specs.Kind.{referred}
use Rattle.wit_data.specs.facts.ReferenceFacts.{in_referred}
use Rattle.wit_data.specs.Uses.{alias_target}
use Rattle.wit_data.specs.declared.interface.Interface.{Interface}
use Rattle.wit_data.specs.declared.types.TypeDef.{TypeDef}
use Rattle.wit_data.specs.declared.types.TypeDefKind.{TypeDefKind}
use Rattle.wit_data.specs.declared.types.TypeOwner.{TypeOwner}
use Rattle.wit_data.specs.declared.world.World.{World}
use Rattle.wit_data.specs.declared.types.Handle.TheVariants.{Own}
use Rattle.wit_data.specs.declared.types.TypeDefKind.TheVariants as kind
use Rattle.wit_data.specs.declared.types.TypeOwner.TheVariants as owner
use Rattle.wit_data.specs.declared.types.Type_.TheVariants as type
use Rattle.wit_graph_data.specs.declared.graph.Graph.{Graph}
use Rattle.wit_graph_theory.specs.facts.Good.{IsGoodType}
use Rattle.wit_remap_spec.specs.Image.{name_image, owner_image}
use Rattle.wit_graph_theory.specs.steps.Sources.{Carries, InterfaceStands, IsCarriedType, IsClosed, OwnerIsActive, Source, Stands, WorldStands}
use Rattle.wit_graph_theory.specs.facts.ListFacts.{contained_at, found_at, place_of, some_at}
use Rattle.wit_graph_theory.specs.facts.OptionFacts.{none_or_some}
use Rattle.wit_graph_theory.specs.facts.OwnedFacts.{none_from, owns_refer, some_from}
use Rattle.wit_data.specs.steps.Parts.{parts}

-- what an alias names it refers to
pub alias_referred : (k : TypeDefKind) (t : ℕ) → alias_target k ≡ Some t → Contains (referred k) t
alias_referred (kind.Type_ (type.Id x)) t is = let same : x ≡ t = cc in subst (λ (y : ℕ). Contains (referred (kind.Type_ (type.Id y))) t) (sym same) (Contains-here t [])
alias_referred (kind.Type_ other) t is = cc
alias_referred other t is = cc

-- what it names otherwise it refers to
parts_among : (k : TypeDefKind) (t : ℕ) → Contains (parts k) t → Contains (referred k) t
parts_among k t has = in_referred is_no_target k t has

pub if_some : {X : Type 0} (P : X → Type 0) (o : Option X) → ((x : X) → o ≡ Some x → P x) → IfSome o P
if_some P None each = tt
if_some P (Some x) each = each x refl

pub from_if : {X : Type 0} (P : X → Type 0) (o : Option X) (x : X) → IfSome o P → o ≡ Some x → P x
from_if P None x h is = cc
from_if P (Some y) x h is = let same : y ≡ x = cc in subst P same h

-- what an alias of this owner may name
abbrev pub IsAliased : List TypeDef → List Interface → TypeOwner → ℕ → Type 0
IsAliased types interfaces by target =
    SomeAt types target (λ (named : TypeDef).
    IsSome named.name × ((named.owner ≡ by) ⊎ IsNamedInterface interfaces named.owner))

module _ (s : Source) (g : Graph) (closed : IsClosed s) (carries : Carries s g) where
  -- a named interface that is selected has a name in the target
  pub named_stands : (f : ℕ) → s.interfaces f ≡ true → IsNamed s.graph.interfaces f → IsNamed g.interfaces (s.maps.interfaces f)
  named_stands f takes named =
      let old = found_at (λ (interface : Interface). IsSome interface.name) s.graph.interfaces f named in
      let new = found_at (InterfaceStands s old.0) g.interfaces (s.maps.interfaces f) (carries.interfaces f old.0 old.1 takes) in
      some_at (λ (interface : Interface). IsSome interface.name) g.interfaces (s.maps.interfaces f) new.0 new.1 (subst IsSome (sym new.2.name) old.2)

  named_owner : (by : TypeOwner) → OwnerIsActive s by → IsNamedInterface s.graph.interfaces by → IsNamedInterface g.interfaces (owner_image s.maps by)
  named_owner (owner.Interface f) takes named = named_stands f takes named
  named_owner (owner.World w) takes named = named
  named_owner owner.None takes named = named

  listed : (t : ℕ) (name : Option (List ℕ)) (by : TypeOwner) → s.types t ≡ true → OwnerIsActive s by → IsListed s.graph.interfaces s.graph.worlds t name by
      → IsListed g.interfaces g.worlds (s.maps.types t) (option_map (name_image s.maps by) name) (owner_image s.maps by)
  listed t None owner.None takes there h = refl
  listed t (Some name) owner.None takes there h = cc
  listed t None (owner.Interface f) takes there h = h
  listed t None (owner.World w) takes there h = h
  listed t (Some name) (owner.Interface f) takes there h =
      let old = found_at (λ (interface : Interface). Contains interface.types (name, t)) s.graph.interfaces f h in
      let new = found_at (InterfaceStands s old.0) g.interfaces (s.maps.interfaces f) (carries.interfaces f old.0 old.1 there) in
      some_at (λ (interface : Interface). Contains interface.types (name, s.maps.types t)) g.interfaces (s.maps.interfaces f) new.0 new.1 (new.2.types name t old.2 takes)
  listed t (Some name) (owner.World w) takes there h =
      let old = found_at (λ (world : World). Contains (world_types world) (name, t)) s.graph.worlds w h in
      let new = found_at (WorldStands s w old.0) g.worlds (s.maps.worlds w) (carries.worlds w old.0 old.1 there) in
      some_at (λ (world : World). Contains (world_types world) (s.maps.labels w name, s.maps.types t)) g.worlds (s.maps.worlds w) new.0 new.1 (new.2.types name t old.2 takes)

  -- what an alias named is named by its image
  aliased : (by : TypeOwner) (t : ℕ) → s.types t ≡ true → IsAliased s.graph.types s.graph.interfaces by t → IsAliased g.types g.interfaces (owner_image s.maps by) (s.maps.types t)
  aliased by t takes target =
      let old = found_at (λ (named : TypeDef). IsSome named.name × ((named.owner ≡ by) ⊎ IsNamedInterface s.graph.interfaces named.owner)) s.graph.types t target in
      let new = found_at (Stands s.maps old.0) g.types (s.maps.types t) (carries.types t old.0 old.1 takes) in
      some_at (λ (named : TypeDef). IsSome named.name × ((named.owner ≡ owner_image s.maps by) ⊎ IsNamedInterface g.interfaces named.owner)) g.types (s.maps.types t) new.0 new.1 (
        some_into (name_image s.maps old.0.owner) old.0.name new.0.name new.2.name old.2.0,
        elim old.2.1 [
          | inl own ↦ inl (new.2.owner ∙ ap (owner_image s.maps) own)
          | inr other ↦ inr (subst (IsNamedInterface g.interfaces) (sym new.2.owner) (named_owner old.0.owner (closed.owners t old.0 old.1 takes) other))
        ],
      )
    where
      some_into : (f : List ℕ → List ℕ) (old new : Option (List ℕ)) → new ≡ option_map f old → IsSome old → IsSome new
      some_into f None new is some = cc
      some_into f (Some name) new is some = subst IsSome (sym is) refl

  -- a type that comes of a good one is good
  pub good_type : (t : ℕ) (def new : TypeDef) → slice_get s.graph.types t ≡ Some def → s.types t ≡ true → IsGoodType s.graph.types s.graph.interfaces s.graph.worlds t def → IsCarriedType s g def new
      → IsGoodType g.types g.interfaces g.worlds (s.maps.types t) new
  good_type t def new at takes good carried = record {
    listed =
        subst (λ (by : TypeOwner). IsListed g.interfaces g.worlds (s.maps.types t) new.name by) (sym carried.owner)
        (subst (λ (name : Option (List ℕ)). IsListed g.interfaces g.worlds (s.maps.types t) name (owner_image s.maps def.owner)) (sym carried.name)
        (listed t def.name def.owner takes (closed.owners t def at takes) good.listed));
    alias =
        if_some (IsAliased g.types g.interfaces new.owner) (alias_target new.kind) (λ t' is.
        subst (λ (by : TypeOwner). IsAliased g.types g.interfaces by t') (sym carried.owner)
        (elim (carried.alias t' is) [
          | inl same ↦
              let target = from_if (IsAliased s.graph.types s.graph.interfaces def.owner) (alias_target def.kind) same.0 good.alias same.1 in
              subst (IsAliased g.types g.interfaces (owner_image s.maps def.owner)) (sym same.2)
              (aliased def.owner same.0 (closed.references t def at takes same.0 (alias_referred def.kind same.0 same.1)) target)
          | inr other ↦
              let named = found_at (λ (named : TypeDef). IsSome named.name × IsNamedInterface g.interfaces named.owner) g.types t' other in
              some_at (λ (named : TypeDef). IsSome named.name × ((named.owner ≡ owner_image s.maps def.owner) ⊎ IsNamedInterface g.interfaces named.owner)) g.types t' named.0 named.1 (named.2.0, inr named.2.1)
        ]));
    unnamed = λ none. carried.plain (good.unnamed (none_from (name_image s.maps def.owner) def.name new.name carried.name none));
    own = λ named i t' there.
        subst (λ (by : TypeOwner). IsOwn g.types by t') (sym carried.owner)
        (owns_refer s g closed carries def.owner (parts def.kind) (parts new.kind)
        (λ r has. closed.references t def at takes r (parts_among def.kind r has))
        (λ r has. let place = place_of (parts def.kind) r has in good.own (some_from (name_image s.maps def.owner) def.name new.name carried.name named) place.0 r place.1)
        carried.parts t' (contained_at (parts new.kind) i t' there));
  }

-- an unnamed `own` is good, whatever it is of
pub good_own : (g : Graph) (h t : ℕ) (def : TypeDef) → def.name ≡ None → def.owner ≡ owner.None → def.kind ≡ kind.Handle (Own t) → IsGoodType g.types g.interfaces g.worlds h def
good_own g h t def name by is = record {
  listed = subst (λ (o : TypeOwner). IsListed g.interfaces g.worlds h def.name o) (sym by) name;
  alias = subst (λ (k : TypeDefKind). IfSome (alias_target k) (IsAliased g.types g.interfaces def.owner)) (sym is) tt;
  unnamed = λ none. subst IsPlain (sym is) tt;
  own = λ named. absurd (none_or_some def.name name named);
}
