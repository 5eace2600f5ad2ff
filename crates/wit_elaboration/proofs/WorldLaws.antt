-- The laws of elaboration.
use Rattle.std.proofs.Common.{◌≡◌, ℕ, inl, inr, List, [], length, sym, ap, subst, Contains}
use Rattle.std.specs.List.{flat_map}
use Rattle.wit_data.specs.declared.types.TypeDef.{TypeDef}
use Rattle.wit_data.specs.declared.world.World.{World}
use Rattle.wit_digraph.specs.facts.MemberFacts.{Contains-flat_map, Contains-flat_map_cases}
use Rattle.wit_elaboration.specs.Entries.{Entry, role_of, item_interface, key_interface, keyed_interfaces}
use Rattle.wit_elaboration.specs.Elaborated.{Elaborated, elaborated_imports}
use Rattle.wit_elaboration.specs.laws.ElaborationLaws.{ElaboratesOnce, ImportsAreExact, ImportsKeepOrder, OrderIsFree, SameEntries, DependenciesFirst}
use Rattle.wit_elaboration.specs.Imported.{HasTransitiveConflict}
use Rattle.wit_elaboration.specs.laws.Imports.{Needed, IsImported, roots_of}
use Rattle.wit_elaboration.proofs.Exact.{exact_to, exact_from}
use Rattle.wit_elaboration.proofs.ExportsAgain.{exports_again}
use Rattle.wit_elaboration.proofs.ImportsAgain.{imports_again, imports_first, no_conflict_again}
use Rattle.wit_elaboration.proofs.Roles.{in_order}

lists_same : (w : World) {i i' x x' : List Entry} → i ≡ i' → x ≡ x' → (let v : World = record w { imports = i; exports = x } in v) ≡ record w { imports = i'; exports = x' }
lists_same w p q = cc

pub elaborates_once : ElaboratesOnce
elaborates_once types uses old new acyclic listed is =
    let order = in_order types (length uses) old.imports old.exports listed in
    subst (λ (w : World). Elaborated types uses w w) (sym is.world_is)
    (record {
      no_conflict = λ conflict. is.no_conflict (no_conflict_again types uses acyclic old.imports old.exports order conflict);
      world_is = lists_same old (sym (imports_again types uses acyclic old.imports old.exports order is.no_conflict)) (sym (exports_again types uses acyclic old.imports old.exports order));
    })

pub imports_are_exact : ImportsAreExact
imports_are_exact types uses old new j acyclic listed is =
    let order = in_order types (length uses) old.imports old.exports listed in
    let imports_are : new.imports ≡ elaborated_imports types uses old.imports old.exports = ap (λ (w : World). w.imports) is.world_is in (
      λ has. exact_to types uses acyclic old.imports old.exports order j (subst (λ i. Contains (keyed_interfaces i) j) imports_are has),
      λ need. subst (λ i. Contains (keyed_interfaces i) j) (sym imports_are) (exact_from types uses acyclic old.imports old.exports order is.no_conflict j need),
    )

pub imports_keep_order : ImportsKeepOrder
imports_keep_order types uses old new acyclic listed is =
    let order = in_order types (length uses) old.imports old.exports listed in
    let imports_are : new.imports ≡ elaborated_imports types uses old.imports old.exports = ap (λ (w : World). w.imports) is.world_is in
    subst (λ i. DependenciesFirst types uses [] i) (sym imports_are) (imports_first types uses acyclic old.imports old.exports order is.no_conflict)

-- ---- the order of the entries

same_flat : {A : Type 0} (f : Entry → List A) (xs ys : List Entry) → SameEntries xs ys → (y : A) → Contains (flat_map f xs) y → Contains (flat_map f ys) y
same_flat f xs ys same y has = let part = Contains-flat_map_cases f xs y has in Contains-flat_map f ys part.0 y ((same part.0).0 part.1.0) part.1.1

other_way : (xs ys : List Entry) → SameEntries xs ys → SameEntries ys xs
other_way xs ys same e = ((same e).1, (same e).0)

needed_either : (uses : List (List ℕ)) (xs ys : List Entry) → SameEntries xs ys → (j : ℕ) → Needed uses xs j → Needed uses ys j
needed_either uses xs ys same j need = (
  need.0,
  need.1,
  same_flat (λ (e : Entry). item_interface e.1) xs ys same need.0 need.2,
  need.3,
  λ has. need.4 (same_flat (λ (e : Entry). key_interface e.0) ys xs (other_way xs ys same) need.1 has),
  need.5,
)

conflict_either : (uses : List (List ℕ)) (xs ys : List Entry) → SameEntries xs ys → HasTransitiveConflict uses xs → HasTransitiveConflict uses ys
conflict_either uses xs ys same conflict =
    let between = conflict.4 in (
      conflict.0,
      conflict.1,
      same_flat (λ (e : Entry). item_interface e.1) xs ys same conflict.0 conflict.2,
      conflict.3,
      (
        λ has. between.0 (same_flat (λ (e : Entry). key_interface e.0) ys xs (other_way xs ys same) conflict.1 has),
        between.1,
        between.2,
        same_flat (λ (e : Entry). key_interface e.0) xs ys same between.1 between.3,
      ),
    )

imported_either : (types : List TypeDef) (uses : List (List ℕ)) (imports imports' exports exports' : List Entry) → SameEntries imports imports' → SameEntries exports exports' → (j : ℕ) →
    IsImported types uses imports exports j → IsImported types uses imports' exports' j
imported_either types uses imports imports' exports exports' same_imports same_exports j (inl need) = inl (needed_either uses exports exports' same_exports j need)
imported_either types uses imports imports' exports exports' same_imports same_exports j (inr root) =
    inr (root.0, same_flat (λ (e : Entry). roots_of uses e.0 (role_of types e.1)) imports imports' same_imports root.0 root.1, root.2)

pub order_is_free : OrderIsFree
order_is_free types uses imports imports' exports exports' same_imports same_exports = (
  (conflict_either uses exports exports' same_exports, conflict_either uses exports' exports (other_way exports exports' same_exports)),
  λ j. (
    imported_either types uses imports imports' exports exports' same_imports same_exports j,
    imported_either types uses imports' imports exports' exports (other_way imports imports' same_imports) (other_way exports exports' same_exports) j,
  ),
)
