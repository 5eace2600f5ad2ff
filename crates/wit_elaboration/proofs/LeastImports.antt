-- The imports are the least set that has where they begin and is closed under uses.
use Rattle.std.proofs.Common.{◌≡◌, ℕ, true, inl, inr, List, [], ◌∷◌, ◌++◌, length, refl, sym, ap, subst, Contains}
use Rattle.std.proofs.lemmas.List.Elements.{Contains-get_or}
use Rattle.wit_data.specs.declared.types.TypeDef.{TypeDef}
use Rattle.wit_data.specs.declared.world.World.{World}
use Rattle.wit_digraph.specs.Relation.{direct, IsPath}
use Rattle.wit_elaboration.specs.Entries.{Entry, keyed_interfaces}
use Rattle.wit_elaboration.specs.Elaborated.{elaborated_imports}
use Rattle.wit_elaboration.specs.laws.Imports.{IsImported}
use Rattle.wit_elaboration.specs.laws.KeptByElaboration.{ImportsAreLeast, HoldsImports}
use Rattle.wit_elaboration.proofs.Exact.{exact_to, exact_from}
use Rattle.wit_elaboration.proofs.Needs.{IsPath-push}
use Rattle.wit_elaboration.proofs.Roles.{in_order}

module _ (types : List TypeDef) (uses : List (List ℕ)) (imports exports : List Entry) where
  -- what an imported interface uses is imported
  imported_closed : (i j : ℕ) → IsImported types uses imports exports i → Contains (direct uses i) j → IsImported types uses imports exports j
  imported_closed i j (inl need) among = inl (need.0, need.1, need.2, need.3, need.4, (need.5.0 ++ j ∷ [], IsPath-push uses need.1 need.5.0 i j need.5.1 among))
  imported_closed i j (inr root) among = inr (root.0, root.1, (root.2.0 ++ j ∷ [], IsPath-push uses root.0 root.2.0 i j root.2.1 among))

  -- a set that has where the imports begin and is closed has what is reached
  module _ (Among : ℕ → Type 0) (holds : HoldsImports types uses imports exports Among) where
    along : (i : ℕ) (path : List ℕ) (j : ℕ) → Among i → IsPath uses i path j → Among j
    along i [] j has same = subst Among same has
    along i (k ∷ path) j has leads = along k path j (holds.closed i k has leads.0) leads.1

    has_imported : (j : ℕ) → IsImported types uses imports exports j → Among j
    has_imported j (inl need) = along need.1 need.5.0 j (holds.from_outside need.0 need.1 need.2 need.3 need.4) need.5.1
    has_imported j (inr root) = along root.0 root.2.0 j (holds.roots root.0 root.1) root.2.1

pub imports_are_least : ImportsAreLeast
imports_are_least types uses old new acyclic listed is =
    let order = in_order types (length uses) old.imports old.exports listed in
    let imports_are : new.imports ≡ elaborated_imports types uses old.imports old.exports = ap (λ (w : World). w.imports) is.world_is in
    let imported : (j : ℕ) → Contains (keyed_interfaces new.imports) j → IsImported types uses old.imports old.exports j =
    λ j has. exact_to types uses acyclic old.imports old.exports order j (subst (λ es. Contains (keyed_interfaces es) j) imports_are has) in
    let there : (j : ℕ) → IsImported types uses old.imports old.exports j → Contains (keyed_interfaces new.imports) j =
    λ j need. subst (λ es. Contains (keyed_interfaces es) j) (sym imports_are) (exact_from types uses acyclic old.imports old.exports order is.no_conflict j need) in (
      record {
        roots = λ r has. there r (inr (r, has, ([], refl)));
        from_outside = λ x d exported among apart. there d (inl (x, d, exported, among, apart, ([], refl)));
        closed = λ i j has among. there j (imported_closed types uses old.imports old.exports i j (imported i has) among);
      },
      λ test holds at d below. has_imported types uses old.imports old.exports (λ i. test i ≡ true) holds _ (imported _ (Contains-get_or (keyed_interfaces new.imports) at d below)),
    )
