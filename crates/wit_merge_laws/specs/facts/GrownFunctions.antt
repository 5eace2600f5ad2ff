-- A merge that leaves what the graph has as it is: the functions that move are those of the interfaces and worlds that come,
-- since an interface that is matched brings none; and the worlds that come can be elaborated.
use Rattle.std.proofs.Common.{◌≡◌, ◌∙◌, inl, inr, ℕ, Bool, true, false, cond, List, [], ◌∷◌, ◌++◌, map, filter, length, Option, Some, option_and_then, slice_get, suc, refl, sym, ap, subst, arith, Contains}
use Rattle.std.specs.List.{enumerate_from, flat_map}
use Rattle.std.specs.Option.{option_map_or}
use Rattle.std.proofs.lemmas.Bool.{cases_Bool}
use Rattle.std.proofs.lemmas.List.{length-append, length-map, map-append}
use Rattle.std.proofs.lemmas.List.Elements.{Contains-append_right}
use Rattle.wit_values.specs.facts.Lists.{slice_get-append}
use Rattle.wit_data.specs.Entries.{Entry}
use Rattle.wit_data.specs.Kind.{named_option}
use Rattle.wit_data.specs.Uses.{interface_uses}
use Rattle.wit_data.specs.declared.function.Function.{Function}
use Rattle.wit_data.specs.declared.interface.Interface.{Interface}
use Rattle.wit_data.specs.declared.world.World.{World}
use Rattle.wit_data.specs.declared.world.WorldItem.{WorldItem}
use Rattle.wit_data.specs.declared.world.WorldItem.TheVariants as item
use Rattle.wit_elaboration.specs.Sound.{HasSoundEntries}
use Rattle.wit_elaboration.specs.Valid.{IsValid}
use Rattle.wit_graph_theory.specs.facts.ListFacts.{Contains-map, Contains-map_cases, flat_map-placed, place_of}
use Rattle.wit_graph_theory.specs.facts.OptionFacts.{none_there, some_same}
use Rattle.wit_graph_theory.specs.facts.PackagesAcyclic.{numbered_from}
use Rattle.wit_remap_spec.specs.Image.{entry_image, function_image, interface_image, item_image, world_image}
use Rattle.wit_remap_spec.specs.Borrows.{borrow_text}
use Rattle.wit_remap_spec.specs.ValueRemap.{item_function, world_functions}
use Rattle.wit_merge_spec.specs.Cause.{MergeReturnsBorrow}
use Rattle.wit_merge_spec.specs.Matches.{GraphMerge, counterpart_interface, matched_interface}
use Rattle.wit_merge_spec.specs.Merged.{brought_functions, joined_graph, merge_maps, moved_functions, moved_worlds, with_interface}
use Rattle.wit_merge_spec.specs.steps.Leaving.{LeavesGraph, new_functions, new_worlds}
use Rattle.wit_merge_laws.specs.facts.GrownUses.{interfaces_are, more_interfaces}
use Rattle.wit_merge_laws.specs.facts.InterfacesStand.{old_interface_at, with_counterpart}
use Rattle.wit_merge_laws.specs.facts.JoinedGood.{in_order}
use Rattle.wit_merge_laws.specs.facts.MatchFacts.{interface_is}
use Rattle.wit_merge_laws.specs.facts.TypesStand.{matched_some}
use Rattle.wit_merge_laws.specs.laws.GrowingLaws.{BorrowsCome, FunctionsCome, NewWorldsAreSound, ReturnsNewBorrow}
use Rattle.wit_merge_spec.specs.steps.Parts.{interface_functions, joined_interface, joined_world, moves_interface}

-- ---- lists

-- what is joined and changes nothing is nothing
none_behind : {X Y : Type 0} (f : Y → X) (xs : List X) (ys : List Y) → xs ++ map f ys ≡ xs → ys ≡ []
none_behind f xs [] same = refl
none_behind f xs (y ∷ ys) same = let long = ap length same in absurd (omega (arith, long, length-append xs (map f (y ∷ ys))))

-- what is given of numbered things, where those that a test leaves out give nothing, is given of the others
module _ {X Z A B : Type 0} (f : ℕ × X → List A) (F : A → B) (test : ℕ × X → Bool) (image : X → Z) (g : Z → List B) where
  gathered : (xs : List (ℕ × X)) → ((i : ℕ) (x : ℕ × X) → slice_get xs i ≡ Some x → map F (f x) ≡ cond (test x) (g (image x.1)) [])
      → map F (flat_map f xs) ≡ flat_map g (map image (map (λ (x : ℕ × X). x.1) (filter test xs)))
  gathered [] same = refl
  gathered (x ∷ xs) same =
      map-append F (f x) (flat_map f xs)
      ∙ ((λ k. same 0 x refl k ++ gathered xs (λ i. same (suc i)) k)
      ∙ by (test x))
    where
      by : (b : Bool) → cond b (g (image x.1)) [] ++ flat_map g (map image (map (λ (x : ℕ × X). x.1) (filter test xs))) ≡ flat_map g (map image (map (λ (x : ℕ × X). x.1) (cond b (x ∷ filter test xs) (filter test xs))))
      by true = refl
      by false = refl

-- ---- functions

-- the functions of an image are the images of its functions
imaged_functions : (m : GraphMerge) (es : List (List ℕ × Function))
    → map (function_image (merge_maps m)) (map (λ (e : List ℕ × Function). e.1) es) ≡ map (λ (e : List ℕ × Function). e.1) (map (λ (e : List ℕ × Function). let r : List ℕ × Function = (e.0, function_image (merge_maps m) e.1) in r) es)
imaged_functions m [] = refl
imaged_functions m (e ∷ es) = ap (λ l. function_image (merge_maps m) e.1 ∷ l) (imaged_functions m es)

imaged_item : (m : GraphMerge) (w : ℕ) (held : WorldItem) → item_function (item_image (merge_maps m) w held) ≡ map (function_image (merge_maps m)) (item_function held)
imaged_item m w (item.Interface i stability docs span external_id) = refl
imaged_item m w (item.Function f) = refl
imaged_item m w (item.Type_ t span) = refl

imaged_world : (m : GraphMerge) (e : ℕ × World) → world_functions (world_image (merge_maps m) e.0 e.1) ≡ map (function_image (merge_maps m)) (world_functions e.1)
imaged_world m (w, world) =
    ap (flat_map (λ (e : Entry). item_function e.1)) (sym (map-append (entry_image (merge_maps m) w) world.imports world.exports))
    ∙ flat_map-placed (entry_image (merge_maps m) w) (λ (e : Entry). item_function e.1) (λ (e : Entry). item_function e.1) (function_image (merge_maps m)) (λ e. imaged_item m w e.1) (world.imports ++ world.exports)

module _ (m : GraphMerge) (valid : IsValid m.graph) (valid_other : IsValid m.other) (leaves : LeavesGraph m) where
  abbrev to_image : Function → Function
  to_image = function_image (merge_maps m)

  abbrev functions_of : Interface → List Function
  functions_of x = map (λ (e : List ℕ × Function). e.1) x.functions

  -- a matched interface brings no function
  none_brought : (i i' : ℕ) (from into : Interface) → slice_get m.other.interfaces i ≡ Some from → counterpart_interface m i ≡ Some i' → slice_get m.graph.interfaces i' ≡ Some into → brought_functions from into ≡ []
  none_brought i i' from into at found into_at =
      let here : slice_get (joined_graph m).interfaces i' ≡ Some into = ap (λ (l : List Interface). slice_get l i') (interfaces_are m leaves) ∙ slice_get-append m.graph.interfaces (more_interfaces m) i' into into_at in
      let same : joined_interface m (i', into) ≡ into = some_same (joined_interface m (i', into)) into (sym (old_interface_at m i' into into_at) ∙ here) in
      let is : with_interface m from into ≡ into = sym (with_counterpart m valid valid_other i i' from into at found) ∙ same in
      none_behind (λ (e : List ℕ × Function). let r : List ℕ × Function = (e.0, to_image e.1) in r) into.functions (brought_functions from into) (ap (λ (x : Interface). x.functions) is)

  brings : (i : ℕ) (from : Interface) → slice_get m.other.interfaces i ≡ Some from → map to_image (interface_functions m i from) ≡ cond (moves_interface m i) (functions_of (interface_image (merge_maps m) from)) []
  brings i from at = elim (cases_Bool (moves_interface m i)) [
    | inl moves ↦
        ap (λ (o : Option ℕ). map to_image (map (λ (e : List ℕ × Function). e.1) (option_map_or (brought_functions from) (option_and_then (slice_get m.graph.interfaces) o) from.functions))) (none_there (counterpart_interface m i) moves)
        ∙ (imaged_functions m from.functions ∙ ap (λ (b : Bool). cond b (functions_of (interface_image (merge_maps m) from)) []) (sym moves))
    | inr stays ↦
        let found = matched_some (counterpart_interface m i) stays in
        let is = interface_is m valid valid_other i found.0 found.1 in
        let matched : matched_interface m i ≡ Some is.into = ap (option_and_then (slice_get m.graph.interfaces)) found.1 ∙ is.into_is in
        ap (λ (o : Option Interface). map to_image (map (λ (e : List ℕ × Function). e.1) (option_map_or (brought_functions from) o from.functions))) matched
        ∙ (ap (λ (l : List (List ℕ × Function)). map to_image (map (λ (e : List ℕ × Function). e.1) l)) (none_brought i found.0 from is.into at found.1 is.into_is)
        ∙ ap (λ (b : Bool). cond b (functions_of (interface_image (merge_maps m) from)) []) (sym stays))
  ]

  of_interfaces : map to_image (flat_map (λ (e : ℕ × Interface). interface_functions m e.0 e.1) (enumerate_from 0 m.other.interfaces)) ≡ flat_map functions_of (more_interfaces m)
  of_interfaces =
      gathered (λ (e : ℕ × Interface). interface_functions m e.0 e.1) to_image (λ (e : ℕ × Interface). moves_interface m e.0) (interface_image (merge_maps m)) functions_of (enumerate_from 0 m.other.interfaces) (λ i e on.
      let numbered = numbered_from 0 m.other.interfaces i e on in
      let n = numbered.0 in
      brings e.0 e.1 (subst (λ (k : ℕ). slice_get m.other.interfaces k ≡ Some e.1) (omega (arith, n)) numbered.1))

  functions_are : map to_image (moved_functions m) ≡ new_functions m
  functions_are =
      map-append to_image (flat_map (λ (e : ℕ × Interface). interface_functions m e.0 e.1) (enumerate_from 0 m.other.interfaces)) (flat_map (λ (e : ℕ × World). world_functions e.1) (moved_worlds m))
      ∙ (λ k. of_interfaces k
      ++ sym (flat_map-placed (λ (e : ℕ × World). world_image (merge_maps m) e.0 e.1) world_functions (λ (e : ℕ × World). world_functions e.1) to_image (imaged_world m) (moved_worlds m)) k)

  borrow_comes : (message : List ℕ) → MergeReturnsBorrow m message → ReturnsNewBorrow m message
  borrow_comes message is = record {
    f = to_image is.f;
    t = is.t';
    comes = subst (λ (l : List Function). Contains l (to_image is.f)) functions_are (Contains-map to_image (moved_functions m) is.f is.moved);
    result_is = is.result_is;
    holds = is.holds;
    message_is = is.message_is;
  }

  borrow_goes : (message : List ℕ) → ReturnsNewBorrow m message → MergeReturnsBorrow m message
  borrow_goes message is =
      let from = Contains-map_cases to_image (moved_functions m) is.f (subst (λ (l : List Function). Contains l is.f) (sym functions_are) is.comes) in
      record {
        f = from.0;
        t' = is.t;
        moved = from.1;
        result_is = subst (λ (f : Function). Contains (named_option f.result_) is.t) (sym from.2) is.result_is;
        holds = is.holds;
        message_is = subst (λ (f : Function). message ≡ borrow_text f.name) (sym from.2) is.message_is;
      }

pub functions_come : FunctionsCome
functions_come m valid valid_other leaves = functions_are m valid valid_other leaves

pub borrows_come : BorrowsCome
borrows_come m message valid valid_other leaves = (borrow_comes m valid valid_other leaves message, borrow_goes m valid valid_other leaves message)

-- ---- worlds

pub new_worlds_are_sound : NewWorldsAreSound
new_worlds_are_sound m world valid valid_other one has =
    let place = place_of (joined_graph m).worlds world (Contains-append_right (map (joined_world m) (enumerate_from 0 m.graph.worlds)) (new_worlds m) world has) in
    subst (λ (n : ℕ). HasSoundEntries (joined_graph m).types n world.imports world.exports) (length-map (joined_graph m).interfaces (interface_uses (joined_graph m).types)) (in_order m valid valid_other one place.0 world place.1)
