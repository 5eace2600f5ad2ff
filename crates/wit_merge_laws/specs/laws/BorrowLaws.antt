-- A law of the borrows that results of functions hold, of two graphs that agree in all that a merge demands.
use Rattle.std.specs.Prelude.{ℕ, List, Contains}
use Rattle.wit_data.specs.Kind.{named_option}
use Rattle.wit_data.specs.declared.function.Function.{Function}
use Rattle.wit_elaboration.specs.Valid.{IsValid}
use Rattle.wit_remap_spec.specs.Borrows.{HoldsBorrow}
use Rattle.wit_merge_spec.specs.Matches.{GraphMerge}
use Rattle.wit_merge_spec.specs.Merged.{moved_functions}
use Rattle.wit_merge_spec.specs.Cause.{HasNoMismatch, MergeReturnsBorrow}

-- a function that moves returns a borrow in the incoming graph already
pub record ReturnsItsBorrow (m : GraphMerge) : Type 0 where
  pub f : Function
  pub t : ℕ
  pub moved : Contains (moved_functions m) f
  pub result_is : Contains (named_option f.result_) t
  pub holds : HoldsBorrow m.other.types t

-- a merge refuses a result that holds a borrow (15) only where the incoming graph has a function of such a result; adding
-- a package refuses those that are active
abbrev pub MergesMakeNoBorrow : Type 0
MergesMakeNoBorrow =
    (m : GraphMerge) (message : List ℕ) → IsValid m.graph → IsValid m.other → HasNoMismatch m
    → MergeReturnsBorrow m message → ReturnsItsBorrow m
