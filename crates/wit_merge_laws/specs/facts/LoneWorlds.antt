-- A world that one of two graphs alone has imports the same in both orders of their merge: it stays in the one merged graph and
-- moves in the other, its imports begin at what corresponds, and what corresponds uses what corresponds.
use Rattle.std.specs.Prelude.{◌↔◌, bytes_eq}
use Rattle.std.proofs.Common.{◌≡◌, ◌∙◌, inl, inr, ℕ, ◌<◌, true, List, [], ◌∷◌, map, length, not, is_some, Option, None, Some, option_and_then, slice_get, refl, sym, ap, subst, Contains}
use Rattle.std.specs.Map.{lookup}
use Rattle.std.specs.Option.{option_map_or}
use Rattle.wit_digraph.specs.facts.MemberFacts.{Contains-flat_map, Contains-flat_map_cases, Contains-here, Contains-nil}
use Rattle.wit_data.specs.Entries.{Entry, IsExport, IsImport, item_interface}
use Rattle.wit_data.specs.Function.{resource_of}
use Rattle.wit_data.specs.Ownership.{world_types}
use Rattle.wit_data.specs.Uses.{type_interface_dep}
use Rattle.wit_data.specs.declared.interface.Interface.{Interface}
use Rattle.wit_data.specs.declared.types.TypeDef.{TypeDef}
use Rattle.wit_data.specs.declared.world.World.{World}
use Rattle.wit_data.specs.declared.world.WorldItem.{WorldItem}
use Rattle.wit_data.specs.declared.world.WorldKey.{WorldKey}
use Rattle.wit_data.specs.declared.types.TypeOwner.TheVariants as owner
use Rattle.wit_data.specs.declared.world.WorldItem.TheVariants as item
use Rattle.wit_data.specs.declared.world.WorldKey.TheVariants as key
use Rattle.wit_elaboration.specs.Elaboration.{graph_uses}
use Rattle.wit_elaboration.specs.Entries.{key_interface, keyed_interfaces, role_of}
use Rattle.wit_elaboration.specs.laws.Imports.{IsImported, Needed, roots_of}
use Rattle.wit_elaboration.specs.facts.SoundFacts.{dep_is_named, named_within}
use Rattle.wit_graph_data.specs.declared.graph.Graph.{Graph}
use Rattle.wit_elaboration.specs.AllElaborated.{elaborated_world}
use Rattle.wit_graph_theory.specs.facts.DependencyFacts.{needs_from, needs_into}
use Rattle.wit_graph_theory.specs.facts.EntryFacts.{no_function_root, one_of, type_root}
use Rattle.wit_remap_spec.specs.Image.{Maps, entry_image, item_image, key_image, world_image}
use Rattle.wit_graph_theory.specs.facts.LawsOfElaboration.{LawsOfElaboration}
use Rattle.wit_graph_theory.specs.facts.ListFacts.{Contains-map, Contains-map_cases, found_at, place_of}
use Rattle.wit_graph_theory.specs.facts.OptionFacts.{none_there, some_by}
use Rattle.wit_merge_spec.specs.Merged.{joined_graph, with_world, merge_maps, merged_interface, merged_type, merged_world}
use Rattle.wit_merge_spec.specs.Matches.{GraphMerge, counterpart_of, counterpart_type, counterpart_type_by, counterpart_world, matched_world}
use Rattle.wit_merge_laws.specs.facts.BothOrders.{Corresponds, InBothOrders, flip, of_graph, one_like, one_like_back, other_way, reaches_like, uses_like}
use Rattle.wit_merge_laws.specs.facts.InterfacesStand.{counterpart_from}
use Rattle.wit_merge_laws.specs.facts.JoinedGood.{MergeCanElaborate, in_order}
use Rattle.wit_merge_laws.specs.facts.ListedStand.{new_world_at, old_world_at}
use Rattle.wit_merge_laws.specs.laws.MergingLaws.{merge_of_graphs}
use Rattle.wit_merge_laws.specs.facts.MergedWorlds.{is_elaborated, named_key}
use Rattle.wit_merge_laws.specs.facts.UsesFrom.{old_needs}
use Rattle.wit_merge_laws.specs.facts.UsesInto.{needs_back, needs_goes, needs_stay}
use Rattle.wit_merge_laws.specs.facts.WorldsStand.{entry}
use Rattle.wit_elaboration.specs.steps.Parts.{type_role, exported_keys, exported_interfaces}
use Rattle.wit_remap_spec.specs.steps.Parts.{function_kind_image}
use Rattle.wit_merge_spec.specs.steps.Parts.{joined_world, moves_type, moves_world}

-- ---- images of entries

module _ (m : Maps) (w : ℕ) where
  image_holds : (held : WorldItem) (x : ℕ) → Contains (item_interface held) x → Contains (item_interface (item_image m w held)) (m.interfaces x)
  image_holds (item.Interface id stability docs span external_id) x has = subst (λ (y : ℕ). Contains (m.interfaces id ∷ []) (m.interfaces y)) (one_of id x has) (Contains-here (m.interfaces id) [])
  image_holds (item.Function f) x has = absurd (Contains-nil has)
  image_holds (item.Type_ t span) x has = absurd (Contains-nil has)

  holds_image : (held : WorldItem) (y : ℕ) → Contains (item_interface (item_image m w held)) y → (x : ℕ) × Contains (item_interface held) x × (y ≡ m.interfaces x)
  holds_image (item.Interface id stability docs span external_id) y has = (id, Contains-here id [], sym (one_of (m.interfaces id) y has))
  holds_image (item.Function f) y has = absurd (Contains-nil has)
  holds_image (item.Type_ t span) y has = absurd (Contains-nil has)

  image_key : (k : WorldKey) (x : ℕ) → Contains (key_interface k) x → Contains (key_interface (key_image m w k)) (m.interfaces x)
  image_key (key.Name label) x has = absurd (Contains-nil has)
  image_key (key.Interface f) x has = subst (λ (y : ℕ). Contains (m.interfaces f ∷ []) (m.interfaces y)) (one_of f x has) (Contains-here (m.interfaces f) [])

  key_imaged : (k : WorldKey) (y : ℕ) → Contains (key_interface (key_image m w k)) y → (x : ℕ) × Contains (key_interface k) x × (y ≡ m.interfaces x)
  key_imaged (key.Name label) y has = absurd (Contains-nil has)
  key_imaged (key.Interface f) y has = (f, Contains-here f [], sym (one_of (m.interfaces f) y has))

  abbrev images : List Entry → List Entry
  images es = map (entry_image m w) es

  pub held_goes : (es : List Entry) (x : ℕ) → Contains (exported_interfaces es) x → Contains (exported_interfaces (images es)) (m.interfaces x)
  held_goes es x has =
      let e = Contains-flat_map_cases (λ (e : Entry). item_interface e.1) es x has in
      Contains-flat_map (λ (e : Entry). item_interface e.1) (images es) (entry_image m w e.0) (m.interfaces x) (Contains-map (entry_image m w) es e.0 e.1.0) (image_holds e.0.1 x e.1.1)

  pub held_from : (es : List Entry) (y : ℕ) → Contains (exported_interfaces (images es)) y → (x : ℕ) × Contains (exported_interfaces es) x × (y ≡ m.interfaces x)
  held_from es y has =
      let e = Contains-flat_map_cases (λ (e : Entry). item_interface e.1) (images es) y has in
      let d = Contains-map_cases (entry_image m w) es e.0 e.1.0 in
      let x = holds_image d.0.1 y (subst (λ (z : Entry). Contains (item_interface z.1) y) (sym d.2) e.1.1) in
      (x.0, Contains-flat_map (λ (e : Entry). item_interface e.1) es d.0 x.0 d.1 x.1, x.2)

  pub key_remapped : (es : List Entry) (x : ℕ) → Contains (keyed_interfaces es) x → Contains (keyed_interfaces (images es)) (m.interfaces x)
  key_remapped es x has =
      let e = Contains-flat_map_cases (λ (e : Entry). key_interface e.0) es x has in
      Contains-flat_map (λ (e : Entry). key_interface e.0) (images es) (entry_image m w e.0) (m.interfaces x) (Contains-map (entry_image m w) es e.0 e.1.0) (image_key e.0.0 x e.1.1)

  pub key_from : (es : List Entry) (y : ℕ) → Contains (keyed_interfaces (images es)) y → (x : ℕ) × Contains (keyed_interfaces es) x × (y ≡ m.interfaces x)
  key_from es y has =
      let e = Contains-flat_map_cases (λ (e : Entry). key_interface e.0) (images es) y has in
      let d = Contains-map_cases (entry_image m w) es e.0 e.1.0 in
      let x = key_imaged d.0.0 y (subst (λ (z : Entry). Contains (key_interface z.0) y) (sym d.2) e.1.1) in
      (x.0, Contains-flat_map (λ (e : Entry). key_interface e.0) es d.0 x.0 d.1 x.1, x.2)

-- where the use of a type begins
use_root : (uses : List (List ℕ)) (k : WorldKey) (o : Option ℕ) (r : ℕ) → o ≡ Some r → Contains (roots_of uses k (type_role o)) r
use_root uses k None r is = cc
use_root uses (key.Name label) (Some x) r is = let same : x ≡ r = cc in subst (λ (y : ℕ). Contains (y ∷ []) r) (sym same) (Contains-here r [])
use_root uses (key.Interface f) (Some x) r is = let same : x ≡ r = cc in subst (λ (y : ℕ). Contains (y ∷ []) r) (sym same) (Contains-here r [])

-- an item of a world is there
pub held_within : (interfaces : List Interface) (k : WorldKey) (held : WorldItem) (i : ℕ) → IsExport interfaces k held → Contains (item_interface held) i → i < length interfaces
held_within interfaces (key.Name label) (item.Interface id stability docs span external_id) i is has = subst (λ (x : ℕ). x < length interfaces) (one_of id i has) is
held_within interfaces (key.Interface f) (item.Interface id stability docs span external_id) i is has = subst (λ (x : ℕ). x < length interfaces) (sym is.0 ∙ one_of id i has) (named_within interfaces f is.1)
held_within interfaces k (item.Function fn) i is has = absurd (Contains-nil has)
held_within interfaces k (item.Type_ t span) i is has = absurd (Contains-nil has)

-- nothing is matched where nothing is there
pub unmatched_moves : (o : Option ℕ) (x : ℕ) → not (is_some o) ≡ true → o ≡ Some x → ⊥
unmatched_moves None x moves is = cc
unmatched_moves (Some y) x moves is = cc

module _ (laws : LawsOfElaboration) (g h : Graph) (offset back : ℕ) (both : InBothOrders g h offset back) (elaborates : MergeCanElaborate (merge_of_graphs g h offset)) (elaborates_back : MergeCanElaborate (merge_of_graphs h g back))
    (w : ℕ) (old : World) (at : slice_get g.worlds w ≡ Some old) (moves : moves_world (merge_of_graphs h g back) w ≡ true) where
  abbrev m : GraphMerge
  m = merge_of_graphs g h offset

  abbrev n : GraphMerge
  n = merge_of_graphs h g back

  abbrev there : Graph
  there = joined_graph m

  abbrev here : Graph
  here = joined_graph n

  abbrev maps : Maps
  maps = merge_maps n

  abbrev image : World
  image = world_image maps w old

  abbrev done_there : World
  done_there = elaborated_world there old

  abbrev done_here : World
  done_here = elaborated_world here image

  abbrev like : ℕ → ℕ → Type 0
  like i j = Corresponds g h offset back i j

  alone : counterpart_world n w ≡ None
  alone = none_there (counterpart_world n w) moves

  -- nothing is joined to it
  pub stays_so : joined_world m (w, old) ≡ old
  stays_so = by (counterpart_of (counterpart_world m) h.worlds w) refl
    where
      by : (o : Option (ℕ × World)) → counterpart_of (counterpart_world m) h.worlds w ≡ o → option_map_or (λ (p : ℕ × World). with_world m p old) o old ≡ old
      by None is = refl
      by (Some p) is = absurd (unmatched_moves (counterpart_world n w) p.0 moves (both.world_back p.0 w (counterpart_from (counterpart_world m) h.worlds w p is).1))

  pub listed_there : slice_get there.worlds w ≡ Some old
  listed_there = old_world_at m w old at ∙ ap (λ (x : World). Some x) stays_so

  pub listed_here : slice_get here.worlds (merged_world n w) ≡ Some image
  listed_here = new_world_at n w old at moves

  exact_there : (j : ℕ) → Contains (keyed_interfaces done_there.imports) j ↔ IsImported there.types (graph_uses there) old.imports old.exports j
  exact_there j =
      laws.exact there.types (graph_uses there) old done_there j elaborates.acyclic (in_order m both.valid both.valid_other both.one w old listed_there) (is_elaborated laws m both.valid both.valid_other both.one elaborates w old listed_there)

  exact_here : (j : ℕ) → Contains (keyed_interfaces done_here.imports) j ↔ IsImported here.types (graph_uses here) image.imports image.exports j
  exact_here j =
      laws.exact here.types (graph_uses here) image done_here j elaborates_back.acyclic (in_order n both.valid_other both.valid both.one_back (merged_world n w) image listed_here)
      (is_elaborated laws n both.valid_other both.valid both.one_back elaborates_back (merged_world n w) image listed_here)

  -- ---- what it holds is there

  export_is : (e : Entry) → Contains old.exports e → IsExport g.interfaces e.0 e.1
  export_is e has = let place = place_of old.exports e has in both.valid.well_formed.worlds.exports w old at place.0 e place.1

  import_is : (e : Entry) → Contains old.imports e → IsImport g.interfaces g.types w e.0 e.1
  import_is e has = let place = place_of old.imports e has in both.valid.well_formed.worlds.imports w old at place.0 e place.1

  exported_like : (x : ℕ) → Contains (exported_interfaces old.exports) x → like x (merged_interface n x)
  exported_like x has = let e = Contains-flat_map_cases (λ (e : Entry). item_interface e.1) old.exports x has in of_graph (held_within g.interfaces e.0.0 e.0.1 x (export_is e.0 e.1.0) e.1.1) refl

  key_like : (x : ℕ) → Contains (exported_keys old.exports) x → like x (merged_interface n x)
  key_like x has =
      let e = Contains-flat_map_cases (λ (e : Entry). key_interface e.0) old.exports x has in
      of_graph (named_within g.interfaces x (named_key g.interfaces e.0.0 e.0.1 x e.1.1 (export_is e.0 e.1.0))) refl

  -- ---- what its exports need

  record Like (P : ℕ → Type 0) (x : ℕ) : Type 0 where
    y : ℕ
    is : like x y
    has : P y

  needed_like : (j : ℕ) → Needed (graph_uses there) old.exports j → Like (Needed (graph_uses here) image.exports) j
  needed_like j (x, d, has, edge, apart, leads) =
      let step = uses_like g h offset back both x (merged_interface n x) d (exported_like x has) edge in
      let rest = reaches_like g h offset back both d step.y leads.0 j step.like leads.1 in
      record { y = rest.y; is = rest.like; has = (merged_interface n x, step.y, held_goes maps w old.exports x has, step.used, unexported step.y step.like, rest.reached) }
    where
      unexported : (y : ℕ) → like d y → Contains (exported_keys image.exports) y → ⊥
      unexported y is among =
          let from = key_from maps w old.exports y among in
          let same : d ≡ from.0 = one_like_back g h offset back both d from.0 y is (subst (like from.0) (sym from.2) (key_like from.0 from.1)) in
          apart (subst (Contains (exported_keys old.exports)) (sym same) from.1)

  record LikeBack (P : ℕ → Type 0) (y : ℕ) : Type 0 where
    x : ℕ
    is : like x y
    has : P x

  abbrev both_back : InBothOrders h g back offset
  both_back = other_way g h offset back both

  abbrev flip_at : (x y : ℕ) → like x y → Corresponds h g back offset y x
  flip_at x y is = flip g h offset back x y is

  needed_back : (j : ℕ) → Needed (graph_uses here) image.exports j → LikeBack (Needed (graph_uses there) old.exports) j
  needed_back j (x', d', has, edge, apart, leads) =
      let from = held_from maps w old.exports x' has in
      let x = from.0 in
      let step = uses_like h g back offset both_back x' x d' (flip_at x x' (subst (like x) (sym from.2) (exported_like x from.1))) edge in
      let rest = reaches_like h g back offset both_back d' step.y leads.0 j step.like leads.1 in
      record {
        x = rest.y;
        is = flip h g back offset j rest.y rest.like;
        has = (x, step.y, from.1, step.used, unexported step.y (flip h g back offset d' step.y step.like), rest.reached);
      }
    where
      unexported : (d : ℕ) → like d d' → Contains (exported_keys old.exports) d → ⊥
      unexported d is among =
          let same : merged_interface n d ≡ d' = one_like g h offset back both d (merged_interface n d) d' (key_like d among) is in
          apart (subst (Contains (exported_keys image.exports)) same (key_remapped maps w old.exports d among))

  -- ---- where its imports begin

  import_like : (k : WorldKey) (id : ℕ) (stability : _) (docs : _) (span : _) (external_id : _) → IsImport g.interfaces g.types w k (item.Interface id stability docs span external_id) → like id (merged_interface n id)
  import_like (key.Name label) id stability docs span external_id is = of_graph (held_within g.interfaces (key.Name label) (item.Interface id stability docs span external_id) id is (Contains-here id [])) refl
  import_like (key.Interface f) id stability docs span external_id is = of_graph (held_within g.interfaces (key.Interface f) (item.Interface id stability docs span external_id) id is (Contains-here id [])) refl

  record OwnType (t : ℕ) : Type 0 where
    def : TypeDef
    is : slice_get g.types t ≡ Some def
    moves_so : moves_type n t ≡ true

  own_type : (k : WorldKey) (t : ℕ) (span : _) → IsImport g.interfaces g.types w k (item.Type_ t span) → OwnType t
  own_type (key.Interface f) t span is = absurd is
  own_type (key.Name label) t span is =
      let found = found_at (λ (def : TypeDef). (def.name ≡ Some label) × (def.owner ≡ owner.World w)) g.types t is in
      let beside : matched_world n w ≡ None = ap (option_and_then (slice_get h.worlds)) alone in
      let unmatched : counterpart_type n t ≡ None =
      some_by (λ (def : TypeDef). counterpart_type_by n def.name def.owner) (slice_get g.types t) found.0 found.1
      ∙ ((λ k. counterpart_type_by n (found.2.0 k) (found.2.1 k)) ∙ ap (option_and_then (λ (there : World). lookup (bytes_eq label) (world_types there))) beside) in
      record { def = found.0; is = found.1; moves_so = ap (λ (o : Option ℕ). not (is_some o)) unmatched }

  type_like : (t r : ℕ) → type_interface_dep g.types t ≡ Some r → like r (merged_interface n r)
  type_like t r dep = of_graph (named_within g.interfaces r (dep_is_named g.types g.interfaces t r both.valid.well_formed.references.aliases dep)) refl

  root_like : (k : WorldKey) (held : WorldItem) (r : ℕ) → Contains old.imports (entry k held) → Contains (roots_of (graph_uses there) k (role_of there.types held)) r
      → Like (Contains (roots_of (graph_uses here) (key_image maps w k) (role_of here.types (item_image maps w held)))) r
  root_like (key.Interface f) (item.Interface id stability docs span external_id) r listed has = record {
    y = merged_interface n id;
    is = subst (λ (x : ℕ). like x (merged_interface n id)) (one_of id r has) (import_like (key.Interface f) id stability docs span external_id (import_is (entry (key.Interface f) (item.Interface id stability docs span external_id)) listed));
    has = Contains-here (merged_interface n id) [];
  }
  root_like (key.Name label) (item.Interface id stability docs span external_id) r listed has =
      let step = uses_like g h offset back both id (merged_interface n id) r (import_like (key.Name label) id stability docs span external_id (import_is (entry (key.Name label) (item.Interface id stability docs span external_id)) listed)) has in
      record { y = step.y; is = step.like; has = step.used }
  root_like k (item.Function fn) r listed has = absurd (no_function_root (graph_uses there) (resource_of fn.kind) k r has)
  root_like k (item.Type_ t span) r listed has =
      let own = own_type k t span (import_is (entry k (item.Type_ t span)) listed) in
      let needs = old_needs m both.valid both.valid_other both.one t r own.def own.is (needs_from there.types t r (type_root (graph_uses there) (type_interface_dep there.types t) k r has)) in
      let goes = needs_goes n both.valid_other both.valid both.aliases_back t r needs in
      record {
        y = merged_interface n r;
        is = type_like t r (needs_into g.types t r needs);
        has = use_root (graph_uses here) (key_image maps w k) (type_interface_dep here.types (merged_type n t)) (merged_interface n r) (needs_into here.types (merged_type n t) (merged_interface n r) goes);
      }

  root_back : (k : WorldKey) (held : WorldItem) (y : ℕ) → Contains old.imports (entry k held) → Contains (roots_of (graph_uses here) (key_image maps w k) (role_of here.types (item_image maps w held))) y
      → LikeBack (Contains (roots_of (graph_uses there) k (role_of there.types held))) y
  root_back (key.Interface f) (item.Interface id stability docs span external_id) y listed has = record {
    x = id;
    is = subst (like id) (one_of (merged_interface n id) y has) (import_like (key.Interface f) id stability docs span external_id (import_is (entry (key.Interface f) (item.Interface id stability docs span external_id)) listed));
    has = Contains-here id [];
  }
  root_back (key.Name label) (item.Interface id stability docs span external_id) y listed has =
      let is = import_like (key.Name label) id stability docs span external_id (import_is (entry (key.Name label) (item.Interface id stability docs span external_id)) listed) in
      let step = uses_like h g back offset both_back (merged_interface n id) id y (flip_at id (merged_interface n id) is) has in
      record { x = step.y; is = flip h g back offset y step.y step.like; has = step.used }
  root_back k (item.Function fn) y listed has = absurd (no_function_root (graph_uses here) (resource_of (function_kind_image maps fn.kind)) (key_image maps w k) y has)
  root_back k (item.Type_ t span) y listed has =
      let own = own_type k t span (import_is (entry k (item.Type_ t span)) listed) in
      let from = needs_back n both.valid_other both.valid t y own.def own.is own.moves_so (needs_from here.types (merged_type n t) y (type_root (graph_uses here) (type_interface_dep here.types (merged_type n t)) (key_image maps w k) y has)) in
      record {
        x = from.0;
        is = subst (like from.0) (sym from.1) (type_like t from.0 (needs_into g.types t from.0 from.2));
        has = use_root (graph_uses there) k (type_interface_dep there.types t) from.0 (needs_into there.types t from.0 (needs_stay m t from.0 from.2));
      }

  -- ---- what it imports

  pub imports_like : (j : ℕ) → Contains (keyed_interfaces done_there.imports) j → (y : ℕ) × like j y × Contains (keyed_interfaces done_here.imports) y
  imports_like j has = elim ((exact_there j).0 has) [
    | inl need ↦ let same = needed_like j need in (same.y, same.is, (exact_here same.y).1 (inl same.has))
    | inr begins ↦
        let e = Contains-flat_map_cases (λ (e : Entry). roots_of (graph_uses there) e.0 (role_of there.types e.1)) old.imports begins.0 begins.1 in
        let first = root_like e.0.0 e.0.1 begins.0 e.1.0 e.1.1 in
        let rest = reaches_like g h offset back both begins.0 first.y begins.2.0 j first.is begins.2.1 in
        (rest.y, rest.like, (exact_here rest.y).1 (inr (first.y, Contains-flat_map (λ (e : Entry). roots_of (graph_uses here) e.0 (role_of here.types e.1)) image.imports (entry_image maps w e.0) first.y (Contains-map (entry_image maps w) old.imports e.0 e.1.0) first.has, rest.reached)))
  ]

  pub imports_back : (j : ℕ) → Contains (keyed_interfaces done_here.imports) j → (x : ℕ) × like x j × Contains (keyed_interfaces done_there.imports) x
  imports_back j has = elim ((exact_here j).0 has) [
    | inl need ↦ let same = needed_back j need in (same.x, same.is, (exact_there same.x).1 (inl same.has))
    | inr begins ↦
        let e = Contains-flat_map_cases (λ (e : Entry). roots_of (graph_uses here) e.0 (role_of here.types e.1)) image.imports begins.0 begins.1 in
        let d = Contains-map_cases (entry_image maps w) old.imports e.0 e.1.0 in
        let first = root_back d.0.0 d.0.1 begins.0 d.1 (subst (λ (z : Entry). Contains (roots_of (graph_uses here) z.0 (role_of here.types z.1)) begins.0) (sym d.2) e.1.1) in
        let rest = reaches_like h g back offset both_back begins.0 first.x begins.2.0 j (flip_at first.x begins.0 first.is) begins.2.1 in (
          rest.y,
          flip h g back offset j rest.y rest.like,
          (exact_there rest.y).1 (inr (first.x, Contains-flat_map (λ (e : Entry). roots_of (graph_uses there) e.0 (role_of there.types e.1)) old.imports d.0 first.x d.1 first.has, rest.reached)),
        )
  ]
