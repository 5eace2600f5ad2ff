-- The examples of what differs.
use Rattle.std.proofs.Common.{◌≡◌, ℕ, true, false, List, [], ◌∷◌, ◌++◌, None, Some, refl, ap, subst, lit<, arith, Contains}
use Rattle.std.proofs.lemmas.Bool.{false≢true}
use Rattle.std.specs.Prelude.{codes}
use Rattle.wit_values.specs.facts.Lists.{differ}
use Rattle.wit_digraph.specs.facts.MemberFacts.{Contains-nil}
use Rattle.wit_digraph.specs.PostOrder.{post_order, post_order_within}
use Rattle.wit_data.specs.Entries.{Entry}
use Rattle.wit_data.specs.declared.function.Function.{Function}
use Rattle.wit_data.specs.declared.interface.Interface.{Interface}
use Rattle.wit_data.specs.declared.function.FunctionKind.TheVariants as function
use Rattle.wit_data.specs.declared.types.Type_.TheVariants as type
use Rattle.wit_data.specs.declared.world.WorldItem.TheVariants as item
use Rattle.wit_data.specs.declared.world.WorldKey.TheVariants as key
use Rattle.wit_graph_data.specs.examples.Samples.{entry_of, foo_bar, function_of, instance}
use Rattle.wit_graph_data.specs.declared.cause.Cause.TheVariants as cause
use Rattle.wit_graph_data.specs.declared.error_kind.ResolveErrorKind.TheVariants.{Semantic}
use Rattle.wit_remap_spec.specs.FunctionMismatch.{FunctionMismatch, HaveFunctionMismatch, kinds_differ, parameter_counts_differ, parameter_names_differ, parameter_types_differ, result_counts_differ, results_differ}
use Rattle.wit_graph_theory.specs.examples.TestFacts.{none_some}
use Rattle.wit_merge_spec.specs.Cause.{EntriesDiffer, IsMergeCause}
use Rattle.wit_merge_spec.specs.Cause as reason
use Rattle.wit_merge_spec.specs.Matches.{GraphMerge, TypePair, type_pairs}
use Rattle.wit_merge_spec.specs.MismatchText.{linked, part_links, side_word}
use Rattle.wit_merge_spec.specs.facts.DifferenceFacts.{first_here}
use Rattle.wit_merge_spec.specs.Structure.{Feature, here, named, names, structure, structure_within, variant}
use Rattle.wit_data.specs.declared.kind.Variant.TheVariants as variants
use Rattle.examples_resolve.proofs.OfMerges.Passing.{differs_in_nothing}
use Rattle.examples_resolve.specs.merge.Graphs.{merge_of_graphs, record_x, resource_t, taking}
use Rattle.examples_resolve.specs.merge.Refusals.{ExamplesOfMismatches, holding, importing, naming, returning, taking_x}
use Rattle.wit_remap_spec.specs.steps.Parts.{function_mismatch_text}
use Rattle.wit_merge_spec.specs.steps.Parts.{StructuresDiffer, type_link}

-- a function of one name in which two interfaces disagree
pub disagreeing : (from into : Interface) (f g : Function) (text : List ℕ) → f.name ≡ g.name → Contains from.functions (g.name, g) → Contains into.functions (f.name, f) → FunctionMismatch g f text
    → HaveFunctionMismatch from into (function_mismatch_text g.name text)
disagreeing from into f g text same has there apart =
    record { name = g.name; function = g; other = f; has = has; other_has = subst (λ (n : List ℕ). Contains into.functions (n, f)) same there; ending = text; mismatch = apart; text_is = refl }

-- a difference of the function of i is told of i
of_function : (f g : Function) (text : List ℕ) → f.name ≡ g.name → FunctionMismatch g f text
    → IsMergeCause (merge_of_graphs (holding f) (holding g)) (Semantic None (linked (part_links foo_bar (codes "interface") (codes "i")) (function_mismatch_text g.name text)) cause.MergeMismatch)
of_function f g text same apart =
    reason.merge_mismatch_24 _
    (reason.interfaces (record { x = 0; from = _; x' = 0; into = _; from_is = refl; matched = refl; into_is = refl }) 0 _ (codes "i") _ refl refl refl
    (disagreeing _ _ f g text same (0, lit< tt, refl) (0, lit< tt, refl) apart))

-- a difference of the imports of w is told of w
of_imports : (into from : List Entry) (text : List ℕ) → EntriesDiffer (merge_of_graphs (importing into) (importing from)) (side_word false) from into text
    → IsMergeCause (merge_of_graphs (importing into) (importing from)) (Semantic None (linked (part_links foo_bar (codes "world") (codes "w")) text) cause.MergeMismatch)
of_imports into from text differs =
    reason.merge_mismatch_24 _ (reason.worlds (record { x = 0; from = _; x' = 0; into = _; from_is = refl; matched = refl; into_is = refl }) 0 _ false _ refl refl differs)

-- a difference of matched types is told of the first of them
of_types : (m : GraphMerge) (pair : TypePair) (after : List TypePair) (ending : List ℕ) → type_pairs m ≡ pair ∷ after → StructuresDiffer m pair.from pair.into ending → IsMergeCause m (Semantic None (linked pair.links ending) cause.MergeMismatch)
of_types m pair after ending is differs =
    reason.merge_mismatch_24 _
    (reason.types _ (record { pair = pair; first = record { before = []; after = after; are = is; earlier = λ p among d. Contains-nil among; is = (ending, differs) }; message_is = refl }))

pub mismatches : ExamplesOfMismatches
unfolding post_order post_order_within structure structure_within
mismatches = record {
  param_names = of_function (taking_x type.U32) (taking (codes "f") (codes "y") type.U32) _ refl (parameter_names_differ 0 _ _ refl refl (differ (codes "y") (codes "x") refl) refl);
  same = differs_in_nothing _ refl refl refl;
  other_function = differs_in_nothing _ refl refl refl;
  kinds = of_function (returning None) (record (returning None) { kind = function.Getter }) _ refl (kinds_differ (λ same. cc) refl);
  methods = differs_in_nothing _ refl refl refl;
  counts = of_function (returning None) (taking_x type.U32) _ refl (parameter_counts_differ (λ same. absurd (omega (arith, same))) refl);
  param_types = of_function (taking_x type.U32) (taking_x type.U8) _ refl (parameter_types_differ 0 _ _ refl refl (λ same. cc) refl);
  number_and_id = of_function (taking_x type.U32) (taking_x (type.Id 0)) _ refl (parameter_types_differ 0 _ _ refl refl (λ same. cc) refl);
  ids = differs_in_nothing _ refl refl refl;
  result_types = of_function (returning (Some type.U32)) (returning (Some type.U8)) _ refl (results_differ type.U8 type.U32 refl refl (λ same. cc) refl);
  result_counts = of_function (returning (Some type.U32)) (returning None) _ refl (result_counts_differ (λ same. false≢true same) refl);
  resource_and_number =
      of_types (merge_of_graphs resource_t record_x) (record { from = 0; into = 0; links = part_links foo_bar (codes "interface") (codes "i") ++ (type_link (codes "t") ∷ []) }) [] (codes "different kinds of types") refl (record {
        x = here (variant variants.Alias);
        y = here (variant variants.Resource);
        first = first_here _ _ _ _ (λ same. let contents : variant variants.Alias ≡ variant variants.Resource = ap (λ (f : Feature). f.content) same in cc);
        text_is = refl;
      });
  other_target =
      of_types (merge_of_graphs (naming (codes "u")) (naming (codes "v"))) (record { from = 1; into = 1; links = part_links foo_bar (codes "interface") (codes "i") ++ (type_link (codes "s") ∷ []) }) [] (codes "at alias: different types") refl (record {
        x = record { path = codes "alias" ∷ []; content = named None };
        y = record { path = codes "alias" ∷ []; content = named (Some 0) };
        first = record {
          before = here (variant variants.Alias) ∷ here (names (codes "alias" ∷ [])) ∷ [];
          after = [];
          after' = [];
          xs_are = refl;
          ys_are = refl;
          apart = λ same. let contents : named None ≡ named (Some 0) = ap (λ (f : Feature). f.content) same in cc;
        };
        text_is = refl;
      });
  same_target = differs_in_nothing _ refl refl refl;
  other_type = differs_in_nothing _ refl refl refl;
  import_counts = of_imports (entry_of 0 ∷ []) [] _ (reason.count (λ same. absurd (omega (arith, same))));
  export_counts =
      reason.merge_mismatch_24 _ (reason.worlds (record { x = 0; from = _; x' = 0; into = _; from_is = refl; matched = refl; into_is = refl }) 0 _ true _ refl refl (reason.count (λ same. absurd (omega (arith, same)))));
  same_imports = differs_in_nothing _ refl refl refl;
  absent = of_imports (entry_of 0 ∷ []) (entry_of 1 ∷ []) _ (reason.absent (entry_of 1) (0, lit< tt, refl) refl);
  reordered = differs_in_nothing _ refl refl refl;
  sorts = of_imports ((key.Name (codes "x"), instance 0) ∷ []) ((key.Name (codes "x"), item.Function (function_of (codes "x") [] None)) ∷ []) _
      (reason.apart _ _ _ (0, lit< tt, refl) refl (reason.sorts refl));
  other_interfaces = of_imports ((key.Name (codes "x"), instance 0) ∷ []) ((key.Name (codes "x"), instance 1) ∷ []) _
      (reason.apart _ _ _ (0, lit< tt, refl) refl (reason.interfaces 1 0 refl refl (λ same. absurd (omega (arith, some_number same)))));
  named_there =
      reason.merge_mismatch_24 _
      (reason.worlds (record { x = 0; from = _; x' = 0; into = _; from_is = refl; matched = refl; into_is = refl }) 0 _ false _ refl refl
      (reason.apart _ _ _ (0, lit< tt, refl) refl (reason.interfaces 0 0 refl refl (λ same. none_some 0 same))));
  named_comes =
      reason.merge_mismatch_24 _
      (reason.worlds (record { x = 0; from = _; x' = 0; into = _; from_is = refl; matched = refl; into_is = refl }) 0 _ false _ refl refl
      (reason.apart _ _ _ (0, lit< tt, refl) refl (reason.interfaces 0 0 refl refl (λ same. none_some 0 same))));
  world_functions = differs_in_nothing _ refl refl refl;
  unnamed_functions =
      reason.merge_mismatch_24 _
      (reason.worlds (record { x = 0; from = _; x' = 0; into = _; from_is = refl; matched = refl; into_is = refl }) 0 _ false _ refl refl
      (reason.apart _ _ _ (0, lit< tt, refl) refl
      (reason.unnamed _ (record { x = 0; from = _; x' = 0; into = _; from_is = refl; matched = refl; into_is = refl }) refl refl refl
      (disagreeing _ _ (returning None) (taking_x type.U32) _ refl (0, lit< tt, refl) (0, lit< tt, refl) (parameter_counts_differ (λ same. absurd (omega (arith, same))) refl)))));
  unnamed_agree = differs_in_nothing _ refl refl refl;
}
  where
    some_number : {a b : ℕ} → Some a ≡ Some b → a ≡ b
    some_number same = cc
