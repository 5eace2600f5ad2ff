use Rattle.std.proofs.Common.{List, ℕ, IsPermutation, subst, sym}
use Rattle.std.specs.Map.{keys_of}
use Rattle.std.specs.Prelude.{IsSorted}
use Rattle.wit_names.specs.PackageName.{package_cmp}
use Rattle.wit_names.specs.declared.package_name.PackageName.{PackageName}
use Rattle.wit_link.proofs.NameOrders.{by_name}
use Rattle.wit_link.proofs.name_order.package_indices_by_name.Goals as goal

pub returns : goal.returns
returns c =
    let all = subst (λ (es : List (PackageName × ℕ)). IsPermutation es c.in_ok-from_map.field-0) c.in_ok-map.ensures
    (subst (λ (es : List (PackageName × ℕ)). IsPermutation c.in_ok-map.map.entries es) (sym c.in_ok-from_map.ensures) c.in_ok-sort_keys.ensures.reordered.0) in
    let sorted = subst (λ (es : List (PackageName × ℕ)). IsSorted package_cmp (keys_of es)) (sym c.in_ok-from_map.ensures) c.in_ok-sort_keys.ensures.sorted in
    by_name c.values_of.result c.in_ok-from_map.field-0 c.args.places all sorted c.values_of.ensures
