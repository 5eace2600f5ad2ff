-- An interface whose types and functions come from good interfaces is good.
use Rattle.std.proofs.Common.{◌≡◌, ◌∙◌, ℕ, true, List, Option, Some, option_map, sym, ap, subst, IfSome}
use Rattle.wit_data.specs.Each.{Each}
use Rattle.wit_data.specs.Ownership.{IsOwn, IsTypeOf}
use Rattle.wit_data.specs.Kind.{function_references}
use Rattle.wit_names.specs.UsePath.{IsKebabName}
use Rattle.wit_data.specs.declared.function.Function.{Function}
use Rattle.wit_data.specs.declared.interface.Interface.{Interface}
use Rattle.wit_data.specs.declared.types.TypeDef.{TypeDef}
use Rattle.wit_data.specs.declared.types.TypeOwner.{TypeOwner}
use Rattle.wit_data.specs.declared.types.TypeOwner.TheVariants as owner
use Rattle.wit_graph_data.specs.declared.graph.Graph.{Graph}
use Rattle.wit_graph_theory.specs.facts.Covered.{InterfaceComes}
use Rattle.wit_graph_theory.specs.facts.Good.{IsGoodInterface}
use Rattle.wit_remap_spec.specs.Image.{name_image, owner_image}
use Rattle.wit_graph_theory.specs.steps.Sources.{Carries, IsCarriedFunction, IsClosed, IsGoodSource, Source, Stands, TakePart}
use Rattle.wit_graph_theory.specs.facts.ListFacts.{contained_at, found_at, place_of, some_at}
use Rattle.wit_graph_theory.specs.facts.OwnedFacts.{owns_refer}

-- a type of an owner stands as a type of the owner's image, under its name
pub type_stands : (s : Source) (g : Graph) → Carries s g → (by : TypeOwner) (name : List ℕ) (t : ℕ) → s.types t ≡ true → IsTypeOf s.graph.types by name t
    → IsTypeOf g.types (owner_image s.maps by) (name_image s.maps by name) (s.maps.types t)
type_stands s g carries by name t takes is =
    let old = found_at (λ (def : TypeDef). (def.name ≡ Some name) × (def.owner ≡ by)) s.graph.types t is in
    let new = found_at (Stands s.maps old.0) g.types (s.maps.types t) (carries.types t old.0 old.1 takes) in
    some_at (λ (def : TypeDef). (def.name ≡ Some (name_image s.maps by name)) × (def.owner ≡ owner_image s.maps by)) g.types (s.maps.types t) new.0 new.1
    (new.2.name ∙ (λ i. option_map (name_image s.maps (old.2.1 i)) (old.2.0 i)), new.2.owner ∙ ap (owner_image s.maps) old.2.1)

-- what a carried function refers to is the new owner's
pub function_stands : (s : Source) (g : Graph) → IsClosed s → Carries s g → (by : TypeOwner) (old new : Function) → TakePart s (function_references old)
    → Each (IsOwn s.graph.types by) (function_references old) → IsCarriedFunction s old new → Each (IsOwn g.types (owner_image s.maps by)) (function_references new)
function_stands s g closed carries by old new takes own carried i t' at =
    owns_refer s g closed carries by (function_references old) (function_references new) takes
    (λ t has. let place = place_of (function_references old) t has in own place.0 t place.1)
    carried t' (contained_at (function_references new) i t' at)

module _ {K : Type 0} (at : K → Source) (g : Graph) (good : (k : K) → IsGoodSource (at k)) (carries : (k : K) → Carries (at k) g) where
  pub good_interface : (f' : ℕ) (new : Interface) → InterfaceComes at f' new → IsGoodInterface g.types f' new
  good_interface f' new comes = record {
    name =
        subst (λ (name : Option (List ℕ)). IfSome name IsKebabName) (sym comes.name)
        ((good comes.source).interfaces comes.from.f comes.from.old comes.from.there comes.from.takes).name;
    own_types = λ i e on.
        let listed = comes.types i e on in
        let from = listed.from in
        let s = at listed.source in
        let place = place_of from.old.types (e.0, listed.t) listed.listed in
        let old = ((good listed.source).interfaces from.f from.old from.there from.takes).own_types place.0 (e.0, listed.t) place.1 in
        let image = type_stands s g (carries listed.source) (owner.Interface from.f) e.0 listed.t listed.takes old in
        subst (λ (f : ℕ). IsTypeOf g.types (owner.Interface f) e.0 e.1) (sym from.place)
        (subst (λ (t : ℕ). IsTypeOf g.types (owner.Interface (s.maps.interfaces from.f)) e.0 t) (sym listed.place) image);
    functions = λ i e on.
        let listed = comes.functions i e on in
        let from = listed.from in
        let place = place_of from.old.functions (e.0, listed.old) listed.listed in
        listed.name ∙ ((good listed.source).interfaces from.f from.old from.there from.takes).functions place.0 (e.0, listed.old) place.1;
    own_functions = λ i e on.
        let listed = comes.functions i e on in
        let from = listed.from in
        let place = place_of from.old.functions (e.0, listed.old) listed.listed in
        let old = ((good listed.source).interfaces from.f from.old from.there from.takes).own_functions place.0 (e.0, listed.old) place.1 in
        let closed = (good listed.source).closed in
        subst (λ (f : ℕ). Each (IsOwn g.types (owner.Interface f)) (function_references e.1)) (sym from.place)
        (function_stands (at listed.source) g closed (carries listed.source) (owner.Interface from.f) listed.old e.1
        (closed.functions from.f from.old (e.0, listed.old) from.there from.takes listed.listed) old listed.carried);
    distinct_types = comes.distinct_types;
    distinct_functions = comes.distinct_functions;
  }
