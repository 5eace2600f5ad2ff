-- What a mover of a merge makes of what a valid graph names is what the maps of the merge make of it.
use Rattle.std.proofs.Common.{◌≡◌, ◌∙◌, ℕ, ◌<◌, List, Option, Some, length, map, slice_get, unwrap_or, refl, sym, ap, option_map, Contains}
use Rattle.std.specs.List.{range_with_len}
use Rattle.wit_data.specs.Entries.{Entry}
use Rattle.wit_data.specs.declared.function.Function.{Function}
use Rattle.wit_data.specs.declared.interface.Interface.{Interface}
use Rattle.wit_data.specs.declared.types.TypeDef.{TypeDef}
use Rattle.wit_data.specs.declared.world.WorldItem.{WorldItem}
use Rattle.wit_data.specs.declared.world.WorldKey.{WorldKey}
use Rattle.wit_data.specs.declared.world.WorldItem.TheVariants as item
use Rattle.wit_data.specs.declared.world.WorldKey.TheVariants as key
use Rattle.wit_remap_spec.specs.Image.{entry_image, function_image, interface_image, item_image, key_image, type_image}
use Rattle.wit_link_spec.specs.facts.RangeFacts.{range-at}
use Rattle.wit_remap.specs.steps.Movers.{goes, id_or, maps_of}
use Rattle.wit_remap.specs.declared.mover.Mover.{Mover}
use Rattle.wit_merge_spec.specs.Matches.{GraphMerge}
use Rattle.wit_merge_spec.specs.Merged.{merge_maps, merged_interface, merged_package, merged_type, merged_world, value_remap}
use Rattle.wit_merge.specs.steps.MergeSteps.{EntryWithin, FunctionMoves, InterfaceMoves, TypeMoves, CanMerge, merging_of}
use Rattle.wit_merge.specs.declared.merge_plan.MergePlan.{MergePlan}
use Rattle.wit_merge.proofs.NamesStay.{name_stays}
use Rattle.wit_merge.proofs.SameImages.{Agree, each_same, entries_same, function_same, interface_same, type_same}
use Rattle.wit_remap_spec.specs.steps.Parts.{value_id}

-- where an id that is there goes by a list of places
goes_there : (new_ids : List (Option ℕ)) (f : ℕ → ℕ) (n x : ℕ) → new_ids ≡ map (λ (t : ℕ). Some (f t)) (range_with_len 0 n) → x < n → goes new_ids x ≡ f x
goes_there new_ids f n x are below = ap (λ (l : List (Option ℕ)). id_or x (slice_get l x)) are ∙ ap (id_or x) (range-at (λ (t : ℕ). Some (f t)) n x below)

module _ (u : MergePlan) (ready : CanMerge u) where
  abbrev m : GraphMerge
  m = merging_of u

  pub types_go : (x : ℕ) → x < length u.other.now.types → goes u.merge_ids.now.new_ids.types x ≡ merged_type m x
  types_go x below = goes_there u.merge_ids.now.new_ids.types (merged_type m) (length u.other.now.types) x (λ j. (ready.merge_ids j).new_ids.types) below

  pub interfaces_go : (x : ℕ) → x < length u.other.now.interfaces → goes u.merge_ids.now.new_ids.interfaces x ≡ merged_interface m x
  interfaces_go x below = goes_there u.merge_ids.now.new_ids.interfaces (merged_interface m) (length u.other.now.interfaces) x (λ j. (ready.merge_ids j).new_ids.interfaces) below

  pub worlds_go : (x : ℕ) → x < length u.other.now.worlds → goes u.merge_ids.now.new_ids.worlds x ≡ merged_world m x
  worlds_go x below = goes_there u.merge_ids.now.new_ids.worlds (merged_world m) (length u.other.now.worlds) x (λ j. (ready.merge_ids j).new_ids.worlds) below

  values_go : (x : ℕ) → x < length u.other.now.types → unwrap_or (slice_get u.values.now x) x ≡ value_id (value_remap m) x
  values_go x below = ap (λ (l : List ℕ). unwrap_or (slice_get l x) x) ready.values ∙ ap (λ (o : Option ℕ). unwrap_or o x) (range-at (value_id (value_remap m)) (length u.other.now.types) x below)

  module _ (mv : Mover) (new_ids : mv.new_ids.now ≡ u.merge_ids.now.new_ids) (values : mv.values.now ≡ u.values.now) (offset : mv.offset ≡ u.offset) where
    agrees : Agree (maps_of mv) (merge_maps m) (length u.other.now.types) (length u.other.now.interfaces) (length u.other.now.worlds)
    agrees = record {
      of_types = λ x below. ap (λ p. goes p x) (λ j. (new_ids j).types) ∙ types_go x below;
      of_values = λ x below. ap (λ (l : List ℕ). unwrap_or (slice_get l x) x) values ∙ values_go x below;
      of_interfaces = λ x below. ap (λ p. goes p x) (λ j. (new_ids j).interfaces) ∙ interfaces_go x below;
      of_worlds = λ x below. ap (λ p. goes p x) (λ j. (new_ids j).worlds) ∙ worlds_go x below;
      of_labels = refl;
      of_offset = offset;
    }

    pub type_is : (def : TypeDef) → TypeMoves m def → record (type_image (maps_of mv) def) { name = def.name } ≡ type_image (merge_maps m) def
    type_is def can = name_stays mv def ∙ type_same (maps_of mv) (merge_maps m) (length u.other.now.types) (length u.other.now.interfaces) (length u.other.now.worlds) agrees def can.parts can.owned

    pub function_is : (f : Function) → FunctionMoves m f → function_image (maps_of mv) f ≡ function_image (merge_maps m) f
    function_is f can = function_same (maps_of mv) (merge_maps m) (length u.other.now.types) (length u.other.now.interfaces) (length u.other.now.worlds) agrees f can.parts

    pub interface_is : (interface : Interface) (can : InterfaceMoves m interface) → mv.«package» ≡ merged_package m can.home → interface_image (maps_of mv) interface ≡ interface_image (merge_maps m) interface
    interface_is interface can home =
        interface_same (maps_of mv) (merge_maps m) (length u.other.now.types) (length u.other.now.interfaces) (length u.other.now.worlds) agrees interface
        (ap (λ (p : ℕ). Some p) home ∙ ap (option_map (merged_package m)) (sym can.home_is)) can.types (λ e has. (can.functions e has).parts)

    -- entries at their places, whichever world they are of
    pub entries_are : (w : ℕ) (entries : List Entry) → ((e : Entry) → Contains entries e → EntryWithin (length u.other.now.types) (length u.other.now.interfaces) e)
        → map (entry_image (maps_of mv) w) entries ≡ map (entry_image (merge_maps m) w) entries
    entries_are w entries within = entries_same (maps_of mv) (merge_maps m) (length u.other.now.types) (length u.other.now.interfaces) (length u.other.now.worlds) agrees w entries within

  -- whose entries they are changes nothing, since labels stay
  key_of_any : (v w : ℕ) (k : WorldKey) → key_image (merge_maps m) v k ≡ key_image (merge_maps m) w k
  key_of_any v w (key.Name label) = refl
  key_of_any v w (key.Interface i) = refl

  item_of_any : (v w : ℕ) (held : WorldItem) → item_image (merge_maps m) v held ≡ item_image (merge_maps m) w held
  item_of_any v w (item.Interface i stability docs span external_id) = refl
  item_of_any v w (item.Function f) = refl
  item_of_any v w (item.Type_ t span) = refl

  pub of_any : (v w : ℕ) (entries : List Entry) → map (entry_image (merge_maps m) v) entries ≡ map (entry_image (merge_maps m) w) entries
  of_any v w entries = each_same (entry_image (merge_maps m) v) (entry_image (merge_maps m) w) entries (λ e has j. (key_of_any v w e.0 j, item_of_any v w e.1 j))
