-- Two reasons at once: which of them are told beside one another, and which one spoils the other.
use Rattle.std.specs.Prelude.{ℕ, List, [], ◌∷◌, ◌++◌, Some, None, codes}
use Rattle.wit_data.specs.declared.function.Function.{Function}
use Rattle.wit_names.specs.declared.package_name.PackageName.{PackageName}
use Rattle.wit_data.specs.declared.stability.Stability.{Stability}
use Rattle.wit_data.specs.declared.types.Handle.TheVariants as handle
use Rattle.wit_data.specs.declared.types.Type_.TheVariants as type
use Rattle.wit_elaboration.specs.Elaboration.{graph_uses}
use Rattle.wit_elaboration.specs.Imported.{HasTransitiveConflict}
use Rattle.wit_graph_data.specs.examples.Samples.{entry_of, foo_bar_of, interface_of, world_of}
use Rattle.wit_graph_data.specs.declared.cause.Cause.TheVariants as cause
use Rattle.wit_graph_data.specs.declared.error_kind.ResolveErrorKind.TheVariants.{InvalidTransitiveDependency, OffsetOverflow, PackageCycle, Semantic, StabilityMismatch}
use Rattle.wit_graph_data.specs.declared.graph.Graph.{Graph}
use Rattle.wit_elaboration.specs.AllElaborated.{DependsOnItself, UsesItself}
use Rattle.wit_link_spec.specs.Gates.{OptionalSpan}
use Rattle.wit_merge_spec.specs.Cause.{IsMergeCause, MergeReturnsBorrow}
use Rattle.wit_merge_spec.specs.Matches.{GraphMerge}
use Rattle.wit_merge_spec.specs.Merged.{joined_graph}
use Rattle.examples_resolve.specs.merge.Graphs.{alias_in, foo_named, gate_f, gate_g, interface_in, merge_of_graphs, number_in, package_named, taking, with_functions}
use Rattle.examples_resolve.specs.merge.Refusals.{handle_t, holding, returning, x_uses_y, y_uses_x}

-- ---- graphs

-- a function g of a number, under this name
abbrev pub g_of : List ℕ → Function
g_of name = taking (codes "g") name type.U32

-- package foo:a with i, which has a number t, and l, which has a function, and foo:b with j, which has another name of
-- that t; world w of foo:a exports i and l
abbrev pub exporting_l : Function → Graph
exporting_l f = record {
  types = number_in 0 (codes "t") ∷ alias_in 1 (codes "t") 0 ∷ [];
  interfaces =
      interface_in 0 (codes "i") ((codes "t", 0) ∷ [])
      ∷ interface_in 1 (codes "j") ((codes "t", 1) ∷ [])
      ∷ with_functions (f ∷ []) (interface_in 0 (codes "l") []) ∷ [];
  worlds = world_of (codes "w") [] (entry_of 0 ∷ entry_of 2 ∷ []) ∷ [];
  packages =
      record (package_named (codes "a") ((codes "i", 0) ∷ (codes "l", 2) ∷ []))
      { worlds = (codes "w", 0) ∷ [] } ∷ package_named (codes "b") ((codes "j", 1) ∷ []) ∷ [];
  package_names = (foo_named (codes "a"), 0) ∷ (foo_named (codes "b"), 1) ∷ [];
}

-- package foo:b with j, which has a number u, and foo:a with l, which has another name of it, and a function
abbrev pub l_uses_j : Function → Graph
l_uses_j f = record {
  types = number_in 0 (codes "u") ∷ alias_in 1 (codes "u") 0 ∷ [];
  interfaces =
      interface_in 0 (codes "j") ((codes "u", 0) ∷ [])
      ∷ with_functions (f ∷ []) (interface_in 1 (codes "l") ((codes "u", 1) ∷ [])) ∷ [];
  worlds = [];
  packages =
      package_named (codes "b") ((codes "j", 0) ∷ [])
      ∷ package_named (codes "a") ((codes "l", 1) ∷ []) ∷ [];
  package_names = (foo_named (codes "b"), 0) ∷ (foo_named (codes "a"), 1) ∷ [];
}

-- made one, l uses j, j uses i, and i and l are exported; where the two functions agree, and where they don't
abbrev pub l_agrees : GraphMerge
l_agrees = merge_of_graphs (exporting_l (g_of (codes "p"))) (l_uses_j (g_of (codes "p")))

abbrev pub l_differs : GraphMerge
l_differs = merge_of_graphs (exporting_l (g_of (codes "p"))) (l_uses_j (g_of (codes "q")))

-- x, which uses y, has a function, and world w exports it
abbrev pub exporting_x : Function → Graph
exporting_x f = record x_uses_y {
  interfaces =
      interface_of (Some (codes "y")) ((codes "u", 0) ∷ [])
      ∷ with_functions (f ∷ []) (interface_of (Some (codes "x")) ((codes "u", 1) ∷ [])) ∷ [];
  worlds = world_of (codes "w") (entry_of 0 ∷ []) (entry_of 1 ∷ []) ∷ [];
  packages = foo_bar_of ((codes "y", 0) ∷ (codes "x", 1) ∷ []) ((codes "w", 0) ∷ []) ∷ [];
}

-- y uses x, which has a function
abbrev pub y_uses_such : Function → Graph
y_uses_such f =
    record y_uses_x {
      interfaces = with_functions (f ∷ []) (interface_of (Some (codes "x")) ((codes "v", 0) ∷ []))
          ∷ interface_of (Some (codes "y")) ((codes "v", 1) ∷ []) ∷ [];
    }

abbrev pub x_agrees : GraphMerge
x_agrees = merge_of_graphs (exporting_x (g_of (codes "p"))) (y_uses_such (g_of (codes "p")))

abbrev pub x_differs : GraphMerge
x_differs = merge_of_graphs (exporting_x (g_of (codes "p"))) (y_uses_such (g_of (codes "q")))

-- interface i with a borrow t and a function g, and with a function f that returns it beside that
abbrev pub borrow_and : Function → Graph
borrow_and f =
    record (handle_t (handle.Borrow 0)) {
      interfaces = with_functions (f ∷ [])
          (interface_of (Some (codes "i")) ((codes "r", 0) ∷ (codes "t", 1) ∷ [])) ∷ [];
    }

abbrev pub returns_and : Function → Graph
returns_and f =
    record (handle_t (handle.Borrow 0)) {
      interfaces = with_functions (returning (Some (type.Id 1)) ∷ f ∷ [])
          (interface_of (Some (codes "i")) ((codes "r", 0) ∷ (codes "t", 1) ∷ [])) ∷ [];
    }

abbrev pub t_agrees : GraphMerge
t_agrees = merge_of_graphs (borrow_and (g_of (codes "p"))) (returns_and (g_of (codes "p")))

abbrev pub t_differs : GraphMerge
t_differs = merge_of_graphs (borrow_and (g_of (codes "p"))) (returns_and (g_of (codes "q")))

-- interface i with a function, under this gate, at this place
abbrev pub gated_holding : Function → Stability → OptionalSpan → Graph
gated_holding f note span =
    record (holding f) {
      interfaces = record (with_functions (f ∷ []) (interface_of (Some (codes "i")) []))
          { stability = note; span = span } ∷ [];
    }

-- two gates, a place that goes past the end, and functions that differ
abbrev pub all_wrong : GraphMerge
all_wrong =
    record {
      graph = gated_holding (g_of (codes "p")) gate_f None;
      other = gated_holding (g_of (codes "q")) gate_g (Some (5, 10));
      offset = 4294967286;
    }

-- ---- examples

-- 24 is told, with this message
abbrev pub HasMismatchText : GraphMerge → List ℕ → Type 0
HasMismatchText m message = IsMergeCause m (Semantic None message cause.MergeMismatch)

abbrev pub borrow_told : List ℕ
borrow_told =
    codes "function `f` returns a type which contains a `borrow<T>` which is not supported"

pub record ExamplesOfTwoReasons : Type 0 where
  -- 4 and 6 beside one another: both are told
  pub conflict : IsMergeCause l_agrees (InvalidTransitiveDependency None (codes "foo:a/l"))
  pub cycle : IsMergeCause l_agrees (PackageCycle None (foo_named (codes "a")))
  -- but neither beside a mismatch, though both would be there
  pub l_told : HasMismatchText l_differs
      (codes "failed to merge package `foo:a` into existing copy: failed to merge interface `l`: "
      ++ codes "mismatch in function `g`: different function parameter names: q != p")
  pub would_conflict : HasTransitiveConflict (graph_uses (joined_graph l_differs))
      (entry_of 0 ∷ entry_of 2 ∷ [])
  pub would_cycle : DependsOnItself (joined_graph l_differs) (foo_named (codes "a"))
  pub no_conflict : (span : OptionalSpan) (name : List ℕ)
      → IsMergeCause l_differs (InvalidTransitiveDependency span name) → ⊥
  pub no_cycle : (span : OptionalSpan) (home : PackageName)
      → IsMergeCause l_differs (PackageCycle span home) → ⊥
  -- 22 spoils 4, which would be there
  pub circle : IsMergeCause x_agrees
      (Semantic None (codes "interface `foo:bar/x` would depend on itself") cause.InterfaceCycle)
  pub would_conflict_too : HasTransitiveConflict (graph_uses (joined_graph x_agrees))
      (entry_of 1 ∷ [])
  pub no_conflict_beside : (span : OptionalSpan) (name : List ℕ)
      → IsMergeCause x_agrees (InvalidTransitiveDependency span name) → ⊥
  -- and a mismatch spoils 22
  pub x_told : HasMismatchText x_differs (codes
      "failed to merge package `foo:bar` into existing copy: failed to merge interface `x`: "
      ++ codes "mismatch in function `g`: different function parameter names: q != p")
  pub would_circle : UsesItself (joined_graph x_differs)
      (codes "interface `foo:bar/x` would depend on itself")
  pub no_circle : (span : OptionalSpan) (message : List ℕ)
      → IsMergeCause x_differs (Semantic span message cause.InterfaceCycle) → ⊥
  -- and 15
  pub borrow : IsMergeCause t_agrees (Semantic None borrow_told cause.BorrowInResult)
  pub t_told : HasMismatchText t_differs (codes
      "failed to merge package `foo:bar` into existing copy: failed to merge interface `i`: "
      ++ codes "mismatch in function `g`: different function parameter names: q != p")
  pub would_return : MergeReturnsBorrow t_differs borrow_told
  pub no_borrow : (span : OptionalSpan) (message : List ℕ)
      → IsMergeCause t_differs (Semantic span message cause.BorrowInResult) → ⊥
  -- 8 and 27 are told beside it nevertheless
  pub i_told : HasMismatchText all_wrong (codes
      "failed to merge package `foo:bar` into existing copy: failed to merge interface `i`: "
      ++ codes "mismatch in function `g`: different function parameter names: q != p")
  pub gates_beside : IsMergeCause all_wrong (StabilityMismatch None gate_g gate_f)
  pub too_far_beside : IsMergeCause all_wrong OffsetOverflow
