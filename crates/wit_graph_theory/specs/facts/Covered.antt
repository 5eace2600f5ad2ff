-- What a target is made of: every thing of it comes from a source, or is an `own` that a value needs, or is
-- an entry that elaboration adds. Things may come from several sources: of a merged interface each type and
-- each function comes from one of the two.
use Rattle.std.specs.Prelude.{◌≡◌, ◌⊎◌, ℕ, true, List, [], ◌∷◌, ◌++◌, Some, None, Contains, slice_get}
use Rattle.wit_data.specs.Each.{Each, EachAt}
use Rattle.wit_data.specs.Entries.{Entry, item_interface}
use Rattle.wit_data.specs.Ownership.{IsNamed}
use Rattle.wit_data.specs.declared.function.Function.{Function}
use Rattle.wit_data.specs.declared.interface.Interface.{Interface}
use Rattle.wit_data.specs.declared.types.TypeDef.{TypeDef}
use Rattle.wit_data.specs.declared.world.World.{World}
use Rattle.wit_data.specs.declared.world.WorldItem.{WorldItem}
use Rattle.wit_data.specs.declared.types.Handle.TheVariants.{Own}
use Rattle.wit_data.specs.declared.types.TypeDefKind.TheVariants as kind
use Rattle.wit_data.specs.declared.types.TypeOwner.TheVariants as owner
use Rattle.wit_data.specs.declared.world.WorldItem.TheVariants as item
use Rattle.wit_data.specs.declared.world.WorldKey.TheVariants as key
use Rattle.wit_values.specs.Table.{HasDistinctKeys}
use Rattle.wit_graph_data.specs.declared.graph.Graph.{Graph}
use Rattle.wit_remap_spec.specs.Image.{key_image}
use Rattle.wit_remap_spec.specs.Kept.{KeptIds}
use Rattle.wit_graph_theory.specs.steps.Sources.{IsCarriedFunction, IsCarriedType, Source}

-- ---- types

-- type t' comes of a type of a source
pub record TypeComes {K : Type 0} (at : K → Source) (g : Graph) (t' : ℕ) (new : TypeDef) : Type 0
  where
    pub source : K
    pub t : ℕ
    pub old : TypeDef
    pub there : slice_get (at source).graph.types t ≡ Some old
    pub takes : (at source).types t ≡ true
    pub place : t' ≡ (at source).maps.types t
    pub carried : IsCarriedType (at source) g old new

-- or is an unnamed `own` of the image of one
pub record IsOwnMade {K : Type 0} (at : K → Source) (new : TypeDef) : Type 0 where
  pub source : K
  pub t : ℕ
  pub takes : (at source).types t ≡ true
  pub name : new.name ≡ None
  pub owner : new.owner ≡ owner.None
  pub kind : new.kind ≡ kind.Handle (Own ((at source).maps.types t))

-- ---- interfaces

-- an interface of a source that goes to f'
pub record InterfaceAt (s : Source) (f' : ℕ) : Type 0 where
  pub f : ℕ
  pub old : Interface
  pub there : slice_get s.graph.interfaces f ≡ Some old
  pub takes : s.interfaces f ≡ true
  pub place : f' ≡ s.maps.interfaces f

pub record ListedComes {K : Type 0} (at : K → Source) (f' : ℕ) (e : List ℕ × ℕ) : Type 0 where
  pub source : K
  pub from : InterfaceAt (at source) f'
  pub t : ℕ
  pub listed : Contains from.old.types (e.0, t)
  pub takes : (at source).types t ≡ true
  pub place : e.1 ≡ (at source).maps.types t

pub record FunctionComes {K : Type 0} (at : K → Source) (f' : ℕ) (e : List ℕ × Function) : Type 0
  where
    pub source : K
    pub from : InterfaceAt (at source) f'
    pub old : Function
    pub listed : Contains from.old.functions (e.0, old)
    pub name : e.1.name ≡ old.name
    pub carried : IsCarriedFunction (at source) old e.1

-- interface f' comes of interfaces of sources
pub record InterfaceComes {K : Type 0} (at : K → Source) (f' : ℕ) (new : Interface) : Type 0 where
  pub source : K
  pub from : InterfaceAt (at source) f'
  pub name : new.name ≡ from.old.name
  pub types : Each (ListedComes at f') new.types
  pub functions : Each (FunctionComes at f') new.functions
  pub distinct_types : HasDistinctKeys new.types
  pub distinct_functions : HasDistinctKeys new.functions

-- ---- worlds

-- a world of a source that goes to w'
pub record WorldAt (s : Source) (w' : ℕ) : Type 0 where
  pub w : ℕ
  pub old : World
  pub there : slice_get s.graph.worlds w ≡ Some old
  pub takes : s.worlds w ≡ true
  pub place : w' ≡ s.maps.worlds w

-- an item comes of another: the same interface at its place with whatever data, a function under its label,
-- the same type at its place
abbrev pub ItemComes : Source → ℕ → WorldItem → WorldItem → Type 0
ItemComes s w (item.Interface i stability docs span external_id) new =
    item_interface new ≡ s.maps.interfaces i ∷ []
ItemComes s w (item.Function f) new =
    (f' : Function) × (new ≡ item.Function f') × (f'.name ≡ s.maps.labels w f.name)
    × IsCarriedFunction s f f'
ItemComes s w (item.Type_ t span) new = (span' : _) × (new ≡ item.Type_ (s.maps.types t) span')

-- an entry comes of an import or an export of a world that goes to w'
pub record EntryComes {K : Type 0} (at : K → Source) (w' : ℕ) (e : Entry) : Type 0 where
  pub source : K
  pub from : WorldAt (at source) w'
  pub old : Entry
  pub listed : Contains (from.old.imports ++ from.old.exports) old
  pub key : e.0 ≡ key_image (at source).maps from.w old.0
  pub held : ItemComes (at source) from.w old.1 e.1

-- an entry that elaboration adds: a named interface under its key
pub record IsDependency (interfaces : List Interface) (e : Entry) : Type 0 where
  pub f : ℕ
  pub key : e.0 ≡ key.Interface f
  pub held : item_interface e.1 ≡ f ∷ []
  pub named : IsNamed interfaces f

-- not a type
abbrev pub IsNoType : WorldItem → Type 0
IsNoType (item.Interface i stability docs span external_id) = Unit {0}
IsNoType (item.Function f) = Unit {0}
IsNoType (item.Type_ t span) = ⊥

-- world w' comes of worlds of sources; what was exported may be imported and, but for types, the other way
pub record WorldComes {K : Type 0} (at : K → Source) (g : Graph) (w' : ℕ) (new : World) : Type 0
  where
    pub imports : Each (λ (e : Entry). EntryComes at w' e ⊎ IsDependency g.interfaces e) new.imports
    pub exports : Each
        (λ (e : Entry). (EntryComes at w' e × IsNoType e.1) ⊎ IsDependency g.interfaces e)
        new.exports
    pub distinct_imports : HasDistinctKeys new.imports
    pub distinct_exports : HasDistinctKeys new.exports
    pub no_includes : new.includes ≡ []

-- ---- the graph

-- every thing of g that is selected comes from a source. Of a finished graph that is everything; while worlds
-- are finished one by one, it is what belongs to no world that is still to come
pub record IsCovered {K : Type 0} (kept : KeptIds) (at : K → Source) (g : Graph) : Type 0 where
  pub types : EachAt
      (λ t' (new : TypeDef). kept.types t' ≡ true → TypeComes at g t' new ⊎ IsOwnMade at new)
      g.types
  pub interfaces : EachAt
      (λ f' (new : Interface). kept.interfaces f' ≡ true → InterfaceComes at f' new) g.interfaces
  pub worlds : EachAt (λ w' (new : World). kept.worlds w' ≡ true → WorldComes at g w' new) g.worlds
