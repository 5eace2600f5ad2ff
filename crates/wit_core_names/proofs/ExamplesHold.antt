-- The examples of names.
use Rattle.std.proofs.Common.{◌≡◌, ℕ, List, length, ap, refl, arith}
use Rattle.std.specs.Borrow.{Bor}
use Rattle.std.specs.Fmt.{digits}
use Rattle.wit_data.specs.declared.function.Function.{Function}
use Rattle.wit_data.specs.declared.world.WorldKey.{WorldKey}
use Rattle.wit_data.specs.declared.world.WorldKey.TheVariants as key
use Rattle.wit_digraph.specs.PostOrder.{post_order, post_order_within}
use Rattle.wit_core_names.specs.examples.Examples.{ExamplesOfNames, ExamplesOfImports, ExamplesOfExports, ExamplesOfConditions, of_futures}

import_examples : (x : Bor WorldKey) (f : Bor Function) → x.now ≡ key.Interface 0 → f.now ≡ of_futures → ExamplesOfImports x f
unfolding post_order post_order_within digits
import_examples x f x_is f_is = record {
  standard = rw (x_is, f_is) refl;
  legacy = rw (x_is, f_is) refl;
  root = rw f_is refl;
  standard_rep = rw x_is refl;
  legacy_rep = rw x_is refl;
  own_drop = refl;
  second_read = rw f_is refl;
  unit_drop = rw f_is refl;
  not_transformed = λ transformed. let one : 5 ≡ 1 = ap (λ (p : List ℕ × List ℕ). length p.0) transformed in absurd (omega (arith, one));
}

export_examples : (x : Bor WorldKey) (f : Bor Function) → x.now ≡ key.Interface 0 → f.now ≡ of_futures → ExamplesOfExports x f
unfolding digits
export_examples x f x_is f_is = record {
  standard_post = rw (x_is, f_is) refl;
  legacy_post = rw (x_is, f_is) refl;
  callback = rw (x_is, f_is) refl;
  standard_root = rw f_is refl;
  standard_dtor = rw x_is refl;
  legacy_dtor = rw x_is refl;
}

condition_examples : (x unnamed : Bor WorldKey) (f : Bor Function) → x.now ≡ key.Interface 0 → unnamed.now ≡ key.Interface 1 → f.now ≡ of_futures → ExamplesOfConditions x unnamed f
unfolding post_order post_order_within
condition_examples x unnamed f x_is unnamed_is f_is = record {
  func = rw x_is refl;
  no_name = rw unnamed_is refl;
  exported = rw x_is refl;
  exported_of_world = refl;
  not_named = rw x_is refl;
  legacy_future = rw f_is refl;
  standard_future = refl;
  async_new = refl;
  other_type = rw f_is refl;
  callback = rw x_is refl;
  other_callback = refl;
  standard_callback = refl;
}

pub names : ExamplesOfNames
names x unnamed f x_is unnamed_is f_is = (import_examples x f x_is f_is, export_examples x f x_is f_is, condition_examples x unnamed f x_is unnamed_is f_is)
