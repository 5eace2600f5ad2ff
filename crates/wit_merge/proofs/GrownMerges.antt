-- What comes of another graph can be put behind a graph that it leaves as it is; what is then told is what the definitions of
-- a merge say.
use Rattle.std.proofs.Common.{◌≡◌, ◌∙◌, ◌<◌, inl, inr, List, ◌++◌, length, map, take, sym, ap, subst, Contains}
use Rattle.wit_values.specs.Table.{HasDistinctKeys}
use Rattle.wit_digraph.specs.Relation.{IsAcyclic}
use Rattle.wit_data.specs.Kind.{named_option, type_references}
use Rattle.wit_data.specs.Uses.{uses_of}
use Rattle.wit_data.specs.declared.function.Function.{Function}
use Rattle.wit_data.specs.declared.world.World.{World}
use Rattle.wit_elaboration.specs.Elaboration.{elaborated_world, graph_uses}
use Rattle.wit_elaboration.specs.steps.Elaboration.{IsRefusedWorld}
use Rattle.wit_elaboration.specs.Imported.{HasTransitiveConflict}
use Rattle.wit_elaboration.specs.Sound.{HasSoundEntries}
use Rattle.wit_elaboration.specs.Valid.{IsValid}
use Rattle.wit_graph_data.specs.declared.graph.Graph.{Graph}
use Rattle.wit_graph_data.specs.declared.error_kind.ResolveErrorKind.{ResolveErrorKind}
use Rattle.wit_graph_theory.specs.facts.ListFacts.{Contains-map, Contains-map_cases}
use Rattle.wit_remap_spec.specs.Image.{function_image}
use Rattle.wit_remap_spec.specs.Borrows.{borrow_text, HoldsBorrow}
use Rattle.wit_merge_spec.specs.Cause.{HasNoMismatch, IsMergeCause, MergeIsAccepted, MergeReturnsBorrow, borrow_in_result_15}
use Rattle.wit_merge_spec.specs.Matches.{GraphMerge}
use Rattle.wit_merge_spec.specs.Merged.{joined_graph, merge_maps, moved_functions, merged}
use Rattle.wit_merge_spec.specs.steps.Leaving.{LeavesGraph, grown_graph, new_worlds}
use Rattle.wit_merge_laws.specs.facts.PackagesStand.{good_names}
use Rattle.wit_merge_laws.specs.laws.GrowingLaws.{FunctionsCome, GrowsAlone, GrowthIsAccepted, JoinedIsGrown, NewWorldsAreSound, NothingNewIsCyclic, MergesGrow, UsesGrow}
use Rattle.wit_merge.specs.declared.coming.Coming.{Coming}
use Rattle.wit_merge.specs.steps.Behind.{AreReturned, CanAppend, IsAppendCause, IsComing, IsFine, functions_of, with_coming, with_elaborated}
use Rattle.wit_merge.specs.steps.MergeSteps.{DoAgree}
use Rattle.wit_merge.proofs.Returning.{image_returned_there}

module _ (m : GraphMerge) (valid : IsValid m.graph) (valid_other : IsValid m.other) (one : HasNoMismatch m) (leaves : LeavesGraph m) (coming : Coming) (is : IsComing m coming) where
  behind : with_coming m.graph coming ≡ grown_graph m
  behind = λ j. record {
    types = m.graph.types ++ is.types j;
    interfaces = m.graph.interfaces ++ is.interfaces j;
    worlds = m.graph.worlds ++ is.worlds j;
    packages = m.graph.packages ++ is.packages j;
    package_names = m.graph.package_names ++ is.package_names j;
  }

  module _ (grown : JoinedIsGrown) (functions_come : FunctionsCome) where
    -- what was there with what comes behind it is the two as one
    pub is_joined : with_coming m.graph coming ≡ joined_graph m
    is_joined = behind ∙ sym (grown m leaves)

    -- the functions of what comes are the images of those that move
    images : map (function_image (merge_maps m)) (moved_functions m) ≡ functions_of coming.interfaces coming.worlds
    images = functions_come m valid valid_other leaves ∙ sym (λ j. functions_of (is.interfaces j) (is.worlds j))

    moved_of : (g : Function) → Contains (functions_of coming.interfaces coming.worlds) g → (f : Function) × Contains (moved_functions m) f × (function_image (merge_maps m) f ≡ g)
    moved_of g has = Contains-map_cases (function_image (merge_maps m)) (moved_functions m) g (subst (λ (fs : List Function). Contains fs g) (sym images) has)

    -- ---- what is asked

    returned : AreReturned (with_coming m.graph coming).types (functions_of coming.interfaces coming.worlds)
    returned g t has names =
        let f = moved_of g has in
        let below : t < length (joined_graph m).types = image_returned_there m valid valid_other f.0 f.1 t (subst (λ (x : Function). Contains (named_option x.result_) t) (sym f.2) names) in
        subst (λ (x : Graph). t < length x.types) (sym is_joined) below

    pub can_append : UsesGrow → NothingNewIsCyclic → NewWorldsAreSound → CanAppend m.graph coming
    can_append uses_grow nothing_new sound =
        let none = nothing_new m valid valid_other one leaves in
        record {
          names = subst (λ (x : Graph). HasDistinctKeys x.package_names) (sym is_joined) (good_names m valid valid_other).distinct;
          types = subst (λ (x : Graph). IsAcyclic (type_references x.types)) (sym is_joined) none.types;
          rows = subst (λ (x : Graph). graph_uses m.graph ≡ uses_of x.types (take (length (graph_uses m.graph)) x.interfaces)) (sym is_joined) (uses_grow m valid leaves).are;
          uses = subst (λ (x : Graph). IsAcyclic (graph_uses x)) (sym is_joined) none.uses;
          returned = returned;
          listed = λ world has.
              let there : Contains (new_worlds m) world = subst (λ (l : List World). Contains l world) is.worlds has in
              subst (λ (x : Graph). HasSoundEntries x.types (length x.interfaces) world.imports world.exports) (sym is_joined) (sound m world valid valid_other one there);
        }

    -- ---- what is told

    module _ (grows : MergesGrow) where
      abbrev alone : GrowsAlone m
      alone = grows m valid valid_other one leaves

      pub is_merged_behind : with_elaborated m.graph coming ≡ merged m
      is_merged_behind = (λ j. record (behind j) { worlds = m.graph.worlds ++ map (elaborated_world (is_joined j)) (is.worlds j) }) ∙ sym alone.merged_is

      pub is_told : (kind : ResolveErrorKind) → IsAppendCause m.graph coming kind → IsMergeCause m kind
      is_told kind (inl borrow) =
          let f = moved_of borrow.f borrow.there in
          let returns : MergeReturnsBorrow m (borrow_text borrow.f.name) = record {
            f = f.0;
            t' = borrow.t;
            moved = f.1;
            result_is = subst (λ (x : Function). Contains (named_option x.result_) borrow.t) (sym f.2) borrow.result_is;
            holds = subst (λ (x : Graph). HoldsBorrow x.types borrow.t) is_joined borrow.holds;
            message_is = ap (λ (x : Function). borrow_text x.name) (sym f.2);
          } in
          subst (IsMergeCause m) (sym borrow.is) (borrow_in_result_15 (borrow_text borrow.f.name) one returns)
      is_told kind (inr refused) = alone.refused kind (subst (λ (x : Graph). IsRefusedWorld x kind) (λ j. record (is_joined j) { worlds = is.worlds j }) refused)

    pub is_accepted : GrowthIsAccepted → DoAgree m → IsFine m.graph coming → MergeIsAccepted m
    is_accepted growth agree fine = growth m valid valid_other one leaves (record {
      stabilities = agree.stabilities;
      spans = agree.spans;
      results = λ message told.
          let comes = subst (λ (fs : List Function). Contains fs (function_image (merge_maps m) told.f)) images (Contains-map (function_image (merge_maps m)) (moved_functions m) told.f told.moved) in
          fine.borrows (function_image (merge_maps m) told.f) told.t' comes told.result_is (subst (λ (x : Graph). HoldsBorrow x.types told.t') (sym is_joined) told.holds);
      worlds = λ world has conflict.
          let there : Contains coming.worlds world = subst (λ (l : List World). Contains l world) (sym is.worlds) has in
          fine.worlds world there (subst (λ (x : Graph). HasTransitiveConflict (graph_uses x) world.exports) (sym is_joined) conflict);
    })
