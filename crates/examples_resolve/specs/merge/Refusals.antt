-- Merges that are refused, each with what is told, and merges that just lack the reason, whatever is told.
use Rattle.std.specs.Prelude.{ℕ, List, [], ◌∷◌, ◌++◌, Option, Some, None, codes}
use Rattle.wit_data.specs.Entries.{Entry}
use Rattle.wit_data.specs.declared.function.Function.{Function}
use Rattle.wit_data.specs.declared.types.Handle.{Handle}
use Rattle.wit_names.specs.declared.package_name.PackageName.{PackageName}
use Rattle.wit_data.specs.declared.stability.Stability.{Stability}
use Rattle.wit_data.specs.declared.types.Type_.{Type_}
use Rattle.wit_data.specs.declared.function.FunctionKind.TheVariants as function
use Rattle.wit_data.specs.declared.types.Handle.TheVariants as handle
use Rattle.wit_data.specs.declared.types.TypeDefKind.TheVariants as kind
use Rattle.wit_data.specs.declared.types.Type_.TheVariants as type
use Rattle.wit_data.specs.declared.world.WorldItem.TheVariants as item
use Rattle.wit_data.specs.declared.world.WorldKey.TheVariants as key
use Rattle.wit_elaboration.specs.examples.Examples.{empty_graph}
use Rattle.wit_graph_data.specs.examples.Samples.{entry_of, foo_bar_of, function_of, instance, interface_of, type_in, world_of}
use Rattle.wit_graph_data.specs.declared.cause.Cause.TheVariants as cause
use Rattle.wit_graph_data.specs.declared.error_kind.ResolveErrorKind.TheVariants.{InvalidTransitiveDependency, OffsetOverflow, OutOfMemory, PackageCycle, Semantic, StabilityMismatch}
use Rattle.wit_graph_data.specs.declared.graph.Graph.{Graph}
use Rattle.wit_link_spec.specs.Gates.{OptionalSpan}
use Rattle.wit_merge_spec.specs.Cause.{IsMergeCause, MergeIsAccepted}
use Rattle.wit_merge_spec.specs.Matches.{GraphMerge}
use Rattle.examples_resolve.specs.merge.Graphs.{a_beside_b, a_uses_b, alias_in, b_uses_a, field_a, foo_bar_alone, foo_named, gate_f, gate_g, i_uses_j, inner, merge_of_graphs, more, number_in, one_number, only_c, record_x, resource_record, resource_t, taking, three, two_numbers, with_functions, world_of_i}
use Rattle.examples_resolve.specs.merge.MergedGraphs.{gated, named_x, v_alone, world_function}

-- ---- graphs

-- interface i with a function
abbrev pub holding : Function → Graph
holding f =
    foo_bar_alone [] (with_functions (f ∷ []) (interface_of (Some (codes "i")) []) ∷ []) []
    ((codes "i", 0) ∷ []) []

-- a function f with a parameter x of this type, or with this result
abbrev pub taking_x : Type_ → Function
taking_x ty = taking (codes "f") (codes "x") ty

abbrev pub returning : Option Type_ → Function
returning ty = function_of (codes "f") [] ty

-- world w with these imports, beside interfaces a and b
abbrev pub importing : List Entry → Graph
importing imports =
    foo_bar_alone [] (interface_of (Some (codes "a")) [] ∷ interface_of (Some (codes "b")) [] ∷ [])
    (world_of (codes "w") imports [] ∷ []) ((codes "a", 0) ∷ (codes "b", 1) ∷ [])
    ((codes "w", 0) ∷ [])

-- interface i with a number of this name, and s as another name of it
abbrev pub naming : List ℕ → Graph
naming name =
    foo_bar_alone (number_in 0 name ∷ alias_in 0 (codes "s") 0 ∷ [])
    (interface_of (Some (codes "i")) ((name, 0) ∷ (codes "s", 1) ∷ []) ∷ []) []
    ((codes "i", 0) ∷ []) []

-- interface i with a number u
abbrev pub one_number_u : Graph
one_number_u =
    foo_bar_alone (number_in 0 (codes "u") ∷ [])
    (interface_of (Some (codes "i")) ((codes "u", 0) ∷ []) ∷ []) [] ((codes "i", 0) ∷ []) []

-- interface i with a handle t of its resource r
abbrev pub handle_t : Handle → Graph
handle_t h =
    foo_bar_alone (type_in 0 (codes "r") kind.Resource ∷ type_in 0 (codes "t") (kind.Handle h) ∷ [])
    (interface_of (Some (codes "i")) ((codes "r", 0) ∷ (codes "t", 1) ∷ []) ∷ []) []
    ((codes "i", 0) ∷ []) []

-- i with the same two and a function f that returns t; no commands make it of a borrow
abbrev pub returns_t : Handle → Graph
returns_t h =
    record (handle_t h) {
      interfaces = with_functions (returning (Some (type.Id 1)) ∷ [])
          (interface_of (Some (codes "i")) ((codes "r", 0) ∷ (codes "t", 1) ∷ [])) ∷ [];
    }

-- and with a function f that returns nothing
abbrev pub returns_handle : Handle → Graph
returns_handle h =
    record (handle_t h) {
      interfaces = with_functions (returning None ∷ [])
          (interface_of (Some (codes "i")) ((codes "r", 0) ∷ (codes "t", 1) ∷ [])) ∷ [];
    }

-- y has a number u, and x another name of it
abbrev pub x_uses_y : Graph
x_uses_y =
    foo_bar_alone (number_in 0 (codes "u") ∷ alias_in 1 (codes "u") 0 ∷ [])
    (interface_of (Some (codes "y")) ((codes "u", 0) ∷ [])
    ∷ interface_of (Some (codes "x")) ((codes "u", 1) ∷ []) ∷ []) []
    ((codes "y", 0) ∷ (codes "x", 1) ∷ []) []

-- x has a number v, and y another name of it, or a number v of its own
abbrev pub y_uses_x : Graph
y_uses_x =
    foo_bar_alone (number_in 0 (codes "v") ∷ alias_in 1 (codes "v") 0 ∷ [])
    (interface_of (Some (codes "x")) ((codes "v", 0) ∷ [])
    ∷ interface_of (Some (codes "y")) ((codes "v", 1) ∷ []) ∷ []) []
    ((codes "x", 0) ∷ (codes "y", 1) ∷ []) []

abbrev pub y_alone : Graph
y_alone = record y_uses_x { types = number_in 0 (codes "v") ∷ number_in 1 (codes "v") ∷ [] }

-- a has a number t, b and c have nothing, and world w at 30 to 31 exports a and c
abbrev pub exports_two : Graph
exports_two =
    foo_bar_alone (number_in 0 (codes "t") ∷ [])
    (interface_of (Some (codes "a")) ((codes "t", 0) ∷ []) ∷ interface_of (Some (codes "b")) []
    ∷ interface_of (Some (codes "c")) [] ∷ [])
    (record (world_of (codes "w") [] (entry_of 0 ∷ entry_of 2 ∷ [])) { span = Some (30, 31) } ∷ [])
    ((codes "a", 0) ∷ (codes "b", 1) ∷ (codes "c", 2) ∷ []) ((codes "w", 0) ∷ [])

-- b has another name of that of a, and c one of that of b
abbrev pub c_uses_b : Graph
c_uses_b = record three {
  worlds = [];
  packages = foo_bar_of ((codes "a", 0) ∷ (codes "b", 1) ∷ (codes "c", 2) ∷ []) [] ∷ [];
  types = number_in 0 (codes "t") ∷ alias_in 1 (codes "t") 0 ∷ alias_in 2 (codes "t2") 1 ∷ [];
  interfaces =
      interface_of (Some (codes "a")) ((codes "t", 0) ∷ [])
      ∷ interface_of (Some (codes "b")) ((codes "t", 1) ∷ [])
      ∷ interface_of (Some (codes "c")) ((codes "t2", 2) ∷ []) ∷ [];
}

-- b alone has another name of that of a
abbrev pub b_alone : Graph
b_alone =
    record c_uses_b {
      types = number_in 0 (codes "t") ∷ alias_in 1 (codes "t") 0 ∷ [];
      interfaces = interface_of (Some (codes "a")) ((codes "t", 0) ∷ [])
          ∷ interface_of (Some (codes "b")) ((codes "t", 1) ∷ []) ∷ [];
      packages = foo_bar_of ((codes "a", 0) ∷ (codes "b", 1) ∷ []) [] ∷ [];
    }

-- i stands at this place, handed in to be moved by an offset
abbrev pub placed_at : ℕ → ℕ → ℕ → GraphMerge
placed_at from to offset =
    record {
      graph = one_number;
      other = record one_number {
        interfaces = record (interface_of (Some (codes "i")) ((codes "t", 0) ∷ []))
            { span = Some (from, to) } ∷ [];
      };
      offset = offset;
    }

-- so the field of record x, which moves
abbrev pub field_at : ℕ → ℕ → ℕ → GraphMerge
field_at from to offset = record {
  graph = one_number;
  other =
      record record_x {
        types = number_in 0 (codes "t")
            ∷ type_in 0 (codes "x")
            (kind.Record (record (field_a (type.Id 0)) { span = Some (from, to) } ∷ [])) ∷ [];
      };
  offset = offset;
}

-- ---- 24: what differs

-- two graphs differ, and this is told of i, or of w
abbrev pub DifferIn : Graph → Graph → List ℕ → Type 0
DifferIn g other text =
    IsMergeCause (merge_of_graphs g other)
    (Semantic None (codes "failed to merge package `foo:bar` into existing copy: " ++ text)
    cause.MergeMismatch)

-- nothing of that is told
abbrev pub DifferInNothing : Graph → Graph → Type 0
DifferInNothing g other =
    (span : OptionalSpan) (message : List ℕ)
    → IsMergeCause (merge_of_graphs g other) (Semantic span message cause.MergeMismatch) → ⊥

-- 24
pub record ExamplesOfMismatches : Type 0 where
  pub param_names : DifferIn (holding (taking_x type.U32))
      (holding (taking (codes "f") (codes "y") type.U32))
      (codes "failed to merge interface `i`: mismatch in function `f`: "
      ++ codes "different function parameter names: y != x")
  pub same : DifferInNothing (holding (taking_x type.U32)) (holding (taking_x type.U32))
  -- another function is no mismatch
  pub other_function : DifferInNothing (holding (taking_x type.U32))
      (holding (taking (codes "g") (codes "y") type.U32))
  pub kinds : DifferIn (holding (returning None))
      (holding (record (returning None) { kind = function.Getter }))
      (codes
      "failed to merge interface `i`: mismatch in function `f`: different function kind types")
  -- whichever resource a method is of
  pub methods : DifferInNothing (holding (record (returning None) { kind = function.Method 0 }))
      (holding (record (returning None) { kind = function.Method 1 }))
  pub counts : DifferIn (holding (returning None)) (holding (taking_x type.U32))
      (codes "failed to merge interface `i`: mismatch in function `f`: "
      ++ codes "different number of function parameters")
  pub param_types : DifferIn (holding (taking_x type.U32)) (holding (taking_x type.U8))
      (codes "failed to merge interface `i`: mismatch in function `f`: "
      ++ codes "different function parameter types for `x`: different kinds of types")
  pub number_and_id : DifferIn (holding (taking_x type.U32)) (holding (taking_x (type.Id 0)))
      (codes "failed to merge interface `i`: mismatch in function `f`: "
      ++ codes "different function parameter types for `x`: different kinds of types")
  -- whichever type of the list it is
  pub ids : DifferInNothing (holding (taking_x (type.Id 0))) (holding (taking_x (type.Id 1)))
  pub result_types : DifferIn (holding (returning (Some type.U32)))
      (holding (returning (Some type.U8)))
      (codes "failed to merge interface `i`: mismatch in function `f`: "
      ++ codes "different function result types: different kinds of types")
  pub result_counts : DifferIn (holding (returning (Some type.U32))) (holding (returning None))
      (codes "failed to merge interface `i`: mismatch in function `f`: "
      ++ codes "different number of function results")
  -- matched types by their structure, of which the laws of wit_merge_spec have more examples
  pub resource_and_number : DifferIn resource_t record_x
      (codes "failed to merge interface `i`: mismatch in type `t`: different kinds of types")
  pub other_target : DifferIn (naming (codes "u")) (naming (codes "v"))
      (codes "failed to merge interface `i`: mismatch in type `s`: at alias: different types")
  pub same_target : DifferInNothing (naming (codes "u")) (naming (codes "u"))
  -- types under two names are not matched, whatever they are
  pub other_type : DifferInNothing resource_t one_number_u
  -- worlds
  pub import_counts : DifferIn (importing (entry_of 0 ∷ [])) (importing [])
      (codes
      "failed to merge world `w`: world contains different number of imports than expected")
  pub export_counts : DifferIn (importing [])
      (record (importing []) { worlds = world_of (codes "w") [] (entry_of 0 ∷ []) ∷ [] })
      (codes
      "failed to merge world `w`: world contains different number of exports than expected")
  pub same_imports : DifferInNothing (importing (entry_of 0 ∷ [])) (importing (entry_of 0 ∷ []))
  pub absent : DifferIn (importing (entry_of 0 ∷ [])) (importing (entry_of 1 ∷ []))
      (codes "failed to merge world `w`: import `foo:bar/b` not found in target world")
  -- in another order they agree
  pub reordered : DifferInNothing (importing (entry_of 0 ∷ entry_of 1 ∷ []))
      (importing (entry_of 1 ∷ entry_of 0 ∷ []))
  pub sorts : DifferIn (importing ((key.Name (codes "x"), instance 0) ∷ []))
      (importing ((key.Name (codes "x"), item.Function (function_of (codes "x") [] None)) ∷ []))
      (codes "failed to merge world `w`: import `x` didn't match target world: "
      ++ codes "world items do not have the same type")
  pub other_interfaces : DifferIn (importing ((key.Name (codes "x"), instance 0) ∷ []))
      (importing ((key.Name (codes "x"), instance 1) ∷ []))
      (codes "failed to merge world `w`: import `x` didn't match target world: "
      ++ codes "interfaces are not the same")
  -- one without a name and one with a name
  pub named_there : DifferIn named_x (inner [] [] [])
      (codes "failed to merge world `w`: import `x` didn't match target world: "
      ++ codes "interfaces are not the same")
  pub named_comes : DifferIn (inner [] [] []) named_x
      (codes "failed to merge world `w`: import `x` didn't match target world: "
      ++ codes "interfaces are not the same")
  -- functions in worlds agree, whatever they are
  pub world_functions : DifferInNothing
      (importing ((key.Name (codes "f"), item.Function (returning None)) ∷ []))
      (importing ((key.Name (codes "f"), item.Function (taking_x type.U32)) ∷ []))
  pub unnamed_functions : DifferIn (inner [] [] (returning None ∷ []))
      (inner [] [] (taking_x type.U32 ∷ []))
      (codes "failed to merge world `w`: import `x` didn't match target world: "
      ++ codes "mismatch in function `f`: different number of function parameters")
  pub unnamed_agree : DifferInNothing (inner [] [] (returning None ∷ []))
      (inner [] [] (returning None ∷ []))

-- ---- the other reasons

-- 4, 6, 8, 15, 22, 27
pub record ExamplesOfRefusals : Type 0 where
  -- 4: c would need b from outside, which needs a, which is exported; where c uses nothing there is no such need
  pub conflict : IsMergeCause (merge_of_graphs exports_two c_uses_b)
      (InvalidTransitiveDependency (Some (30, 31)) (codes "foo:bar/c"))
  pub no_conflict : (span : OptionalSpan) (name : List ℕ)
      → IsMergeCause (merge_of_graphs exports_two b_alone) (InvalidTransitiveDependency span name)
      → ⊥
  -- 6: either package of the cycle
  pub cycle_a : IsMergeCause (merge_of_graphs b_uses_a a_uses_b)
      (PackageCycle None (foo_named (codes "a")))
  pub cycle_b : IsMergeCause (merge_of_graphs b_uses_a a_uses_b)
      (PackageCycle None (foo_named (codes "b")))
  pub no_cycle : (span : OptionalSpan) (home : PackageName)
      → IsMergeCause (merge_of_graphs b_uses_a only_c) (PackageCycle span home) → ⊥
  -- 8: of what comes in, to what is there
  pub gates : IsMergeCause (merge_of_graphs (gated gate_f) (gated gate_g))
      (StabilityMismatch None gate_g gate_f)
  pub no_gate : (span : OptionalSpan) (from into : Stability)
      → IsMergeCause (merge_of_graphs (gated gate_f) one_number) (StabilityMismatch span from into)
      → ⊥
  -- 15: a function that comes returns a borrow; where t is an `own`, or where i has its function, there is no such reason
  pub borrow : IsMergeCause
      (merge_of_graphs (handle_t (handle.Borrow 0)) (returns_t (handle.Borrow 0)))
      (Semantic None
      (codes "function `f` returns a type which contains a `borrow<T>` which is not supported")
      cause.BorrowInResult)
  pub own : (span : OptionalSpan) (message : List ℕ)
      → IsMergeCause (merge_of_graphs (handle_t (handle.Own 0)) (returns_t (handle.Own 0)))
      (Semantic span message cause.BorrowInResult) → ⊥
  pub stays : (span : OptionalSpan) (message : List ℕ)
      → IsMergeCause
      (merge_of_graphs (returns_handle (handle.Borrow 0)) (returns_t (handle.Borrow 0)))
      (Semantic span message cause.BorrowInResult) → ⊥
  -- 22: either interface of the cycle
  pub circle_x : IsMergeCause (merge_of_graphs x_uses_y y_uses_x)
      (Semantic None (codes "interface `foo:bar/x` would depend on itself") cause.InterfaceCycle)
  pub circle_y : IsMergeCause (merge_of_graphs x_uses_y y_uses_x)
      (Semantic None (codes "interface `foo:bar/y` would depend on itself") cause.InterfaceCycle)
  pub no_circle : (span : OptionalSpan) (message : List ℕ)
      → IsMergeCause (merge_of_graphs x_uses_y y_alone) (Semantic span message cause.InterfaceCycle)
      → ⊥
  -- 27: a place that would end past the last position, and one that just fits
  pub too_far : IsMergeCause (placed_at 5 10 4294967286) OffsetOverflow
  pub just_fits : IsMergeCause (placed_at 5 10 4294967285) OffsetOverflow → ⊥
  -- the same of a field of a type that moves; a place that isn't known is no reason
  pub field_too_far : IsMergeCause (field_at 5 10 4294967286) OffsetOverflow
  pub field_fits : IsMergeCause (field_at 5 10 4294967285) OffsetOverflow → ⊥
  pub unknown_fits : IsMergeCause
      (record { graph = one_number; other = record_x; offset = 4294967295 }) OffsetOverflow → ⊥
  -- want of memory is no reason
  pub no_memory : (m : GraphMerge) → IsMergeCause m OutOfMemory → ⊥

-- no cause holds against these
pub record ExamplesOfAccepted : Type 0 where
  pub nothing_comes : MergeIsAccepted (merge_of_graphs three empty_graph)
  pub itself : MergeIsAccepted (merge_of_graphs three three)
  pub grown : MergeIsAccepted (merge_of_graphs one_number more)
  pub resource : MergeIsAccepted (merge_of_graphs resource_t resource_record)
  pub first_order : MergeIsAccepted
      (merge_of_graphs (two_numbers (codes "u")) (two_numbers (codes "v")))
  pub second_order : MergeIsAccepted
      (merge_of_graphs (two_numbers (codes "v")) (two_numbers (codes "u")))
  pub elaborated : MergeIsAccepted (merge_of_graphs world_of_i i_uses_j)
  -- and the other merges of which the whole graph, or a list of it, is told
  pub into_nothing : MergeIsAccepted (merge_of_graphs empty_graph three)
  pub less : MergeIsAccepted (merge_of_graphs more one_number)
  pub no_own : MergeIsAccepted (merge_of_graphs one_number record_x)
  pub not_owned : MergeIsAccepted (merge_of_graphs resource_record resource_t)
  pub inner_joined : MergeIsAccepted
      (merge_of_graphs (inner ((codes "t", 0) ∷ []) (number_in 0 (codes "t") ∷ []) [])
      (inner ((codes "u", 0) ∷ []) (number_in 0 (codes "u") ∷ [])
      (function_of (codes "f") (type.Id 0 ∷ []) None ∷ [])))
  pub function_once : MergeIsAccepted (merge_of_graphs world_function world_function)
  pub world_comes : MergeIsAccepted (merge_of_graphs world_of_i v_alone)
  pub types_once : MergeIsAccepted (merge_of_graphs v_alone v_alone)
  pub packages : MergeIsAccepted (merge_of_graphs b_uses_a a_beside_b)
  pub package_comes : MergeIsAccepted (merge_of_graphs b_uses_a only_c)
  pub gate_comes : MergeIsAccepted (merge_of_graphs one_number (gated gate_f))
  pub gate_stays : MergeIsAccepted (merge_of_graphs (gated gate_f) one_number)
  pub moved : MergeIsAccepted (record {
    graph = empty_graph;
    other = record one_number {
      interfaces = record (interface_of (Some (codes "i")) ((codes "t", 0) ∷ []))
          { span = Some (20, 25) } ∷ [];
    };
    offset = 16;
  })
