-- Images come from what they are images of: how a body that makes images meets the coverage.
use Rattle.std.proofs.Common.{◌≡◌, ◌∙◌, ℕ, true, List, ◌++◌, map, Some, slice_get, refl, sym, ap, subst, Contains}
use Rattle.wit_data.specs.Each.{Each}
use Rattle.wit_data.specs.Entries.{Entry}
use Rattle.wit_data.specs.declared.function.Function.{Function}
use Rattle.wit_data.specs.declared.interface.Interface.{Interface}
use Rattle.wit_data.specs.declared.world.World.{World}
use Rattle.wit_data.specs.declared.world.WorldItem.{WorldItem}
use Rattle.wit_data.specs.declared.world.WorldItem.TheVariants as item
use Rattle.wit_values.specs.Table.{HasDistinctKeys}
use Rattle.wit_graph_theory.specs.facts.Covered.{EntryComes, InterfaceAt, InterfaceComes, ItemComes}
use Rattle.wit_graph_theory.specs.facts.Good.{IsGoodInterface}
use Rattle.wit_remap_spec.specs.Image.{entry_image, function_image, interface_image, item_image}
use Rattle.wit_graph_theory.specs.steps.Sources.{InterfaceStands, IsCarriedFunction, Source}
use Rattle.wit_graph_theory.specs.facts.ListFacts.{Contains-map, contained_at, from_map}
use Rattle.wit_graph_theory.specs.facts.ReferredFacts.{function_refers}

-- keys that differ, differ under other values
pub distinct_map : {K V W : Type 0} (h : V → W) (es : List (K × V)) → HasDistinctKeys es → HasDistinctKeys (map (λ (e : K × V). let f : K × W = (e.0, h e.1) in f) es)
distinct_map {K} {V} {W} h es distinct i j e f first second same =
    let a = from_map (λ (e : K × V). let f : K × W = (e.0, h e.1) in f) es i e first in
    let b = from_map (λ (e : K × V). let f : K × W = (e.0, h e.1) in f) es j f second in
    distinct i j a.0 b.0 a.1 b.1 (ap (λ (p : K × W). p.0) a.2 ∙ same ∙ ap (λ (p : K × W). p.0) (sym b.2))

-- the image of a good interface whose types are all selected comes from it
pub interface_image_comes : {K : Type 0} (at : K → Source) (k : K) (f : ℕ) (interface : Interface) → slice_get (at k).graph.interfaces f ≡ Some interface → (at k).interfaces f ≡ true
    → Each (λ (e : List ℕ × ℕ). (at k).types e.1 ≡ true) interface.types → IsGoodInterface (at k).graph.types f interface
    → InterfaceComes at ((at k).maps.interfaces f) (interface_image (at k).maps interface)
interface_image_comes at k f interface there takes all good =
    let s = at k in
    let from : InterfaceAt s (s.maps.interfaces f) = record { f = f; old = interface; there = there; takes = takes; place = refl } in
    record {
      source = k;
      from = from;
      name = refl;
      types = λ i e on.
          let old = from_map (λ (e : List ℕ × ℕ). let r : List ℕ × ℕ = (e.0, s.maps.types e.1) in r) interface.types i e on in
          record {
            source = k;
            from = from;
            t = old.0.1;
            listed = subst (λ (name : List ℕ). Contains interface.types (name, old.0.1)) (ap (λ (p : List ℕ × ℕ). p.0) old.2) (contained_at interface.types i old.0 old.1);
            takes = all i old.0 old.1;
            place = sym (ap (λ (p : List ℕ × ℕ). p.1) old.2);
          };
      functions = λ i e on.
          let old = from_map (λ (e : List ℕ × Function). let r : List ℕ × Function = (e.0, function_image s.maps e.1) in r) interface.functions i e on in
          record {
            source = k;
            from = from;
            old = old.0.1;
            listed = subst (λ (name : List ℕ). Contains interface.functions (name, old.0.1)) (ap (λ (p : List ℕ × Function). p.0) old.2) (contained_at interface.functions i old.0 old.1);
            name = ap (λ (p : List ℕ × Function). p.1.name) (sym old.2);
            carried = subst (λ (new : Function). IsCarriedFunction s old.0.1 new) (ap (λ (p : List ℕ × Function). p.1) old.2) (function_refers s.maps old.0.1);
          };
      distinct_types = distinct_map s.maps.types interface.types good.distinct_types;
      distinct_functions = distinct_map (function_image s.maps) interface.functions good.distinct_functions;
    }

-- an interface stands as its image
pub interface_image_stands : (s : Source) (interface : Interface) → InterfaceStands s interface (interface_image s.maps interface)
interface_image_stands s interface = record {
  name = refl;
  types = λ name t has taken. Contains-map (λ (e : List ℕ × ℕ). let r : List ℕ × ℕ = (e.0, s.maps.types e.1) in r) interface.types (name, t) has;
  home = λ none. refl;
}

-- the image of an item comes from it
item_image_comes : (s : Source) (w : ℕ) (held : WorldItem) → ItemComes s w held (item_image s.maps w held)
item_image_comes s w (item.Interface i stability docs span external_id) = refl
item_image_comes s w (item.Function f) = (record (function_image s.maps f) { name = s.maps.labels w f.name }, refl, refl, function_refers s.maps f)
item_image_comes s w (item.Type_ t span) = (_, refl)

-- and the image of an entry of a world that is selected
pub entry_image_comes : {K : Type 0} (at : K → Source) (k : K) (w : ℕ) (world : World) (e : Entry) → slice_get (at k).graph.worlds w ≡ Some world → (at k).worlds w ≡ true
    → Contains (world.imports ++ world.exports) e → EntryComes at ((at k).maps.worlds w) (entry_image (at k).maps w e)
entry_image_comes at k w world e there takes listed = record {
  source = k;
  from = record { w = w; old = world; there = there; takes = takes; place = refl };
  old = e;
  listed = listed;
  key = refl;
  held = item_image_comes (at k) w e.1;
}
