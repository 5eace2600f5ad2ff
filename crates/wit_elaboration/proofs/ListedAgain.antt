-- The keys and ids of elaborated lists are in order.
use Rattle.std.proofs.Common.{◌≡◌, ℕ, inl, inr, List, [], ◌∷◌, ◌++◌, length, not, refl, sym, ap, subst, Contains}
use Rattle.std.specs.List.{AllByRecursion}
use Rattle.std.proofs.lemmas.List.Elements.{Contains-append_cases}
use Rattle.wit_data.specs.declared.types.TypeDef.{TypeDef}
use Rattle.wit_data.specs.declared.world.World.{World}
use Rattle.wit_data.specs.declared.world.WorldItem.{WorldItem}
use Rattle.wit_data.specs.declared.world.WorldKey.{WorldKey}
use Rattle.wit_data.specs.declared.world.WorldKey.TheVariants.{Name, Interface}
use Rattle.wit_digraph.specs.facts.MemberFacts.{Contains-here, Contains-there}
use Rattle.wit_digraph.specs.Relation.{IsAcyclic}
use Rattle.wit_elaboration.specs.Entries.{Entry, Instance, role_of, by_class}
use Rattle.wit_elaboration.specs.Elaborated.{elaborated_imports, elaborated_exports}
use Rattle.wit_elaboration.specs.laws.KeptByElaboration.{ListedStays}
use Rattle.wit_elaboration.specs.Sound.{AreSound, IsRoleInRange, IsUnderOwnKey}
use Rattle.wit_elaboration.specs.facts.Classes.{by_class_in}
use Rattle.wit_elaboration.proofs.ExportsAgain.{functions, kept, kept_own, kept_range}
use Rattle.wit_elaboration.specs.facts.Filters.{Contains-filter}
use Rattle.wit_elaboration.proofs.ImportsAgain.{all_imports, import_fine}
use Rattle.wit_elaboration.specs.facts.Order.{AreOwn}
use Rattle.wit_elaboration.proofs.Roles.{InOrder, in_order, instance_from_role}
use Rattle.wit_elaboration.specs.steps.Parts.{is_interface}

-- what is so of every member is so of each element
each_element : {X : Type 0} (P : X → Type 0) (xs : List X) → ((x : X) → Contains xs x → P x) → AllByRecursion P xs
each_element P [] all = tt
each_element P (x ∷ xs) all = (all x (Contains-here x xs), each_element P xs (λ y has. all y (Contains-there x y xs has)))

module _ (types : List TypeDef) where
  under_own : (k : WorldKey) (x : WorldItem) → ((i : ℕ) → k ≡ Interface i → role_of types x ≡ Instance i) → IsUnderOwnKey k x
  under_own (Name label) x own = tt
  under_own (Interface i) x own = instance_from_role types x i (own i refl)

  are_listed : (interfaces : ℕ) (es : List Entry) → AreOwn types es → ((e : Entry) → Contains es e → IsRoleInRange interfaces (role_of types e.1)) → AreSound types interfaces es
  are_listed interfaces es own inside = record {
    own_keys = each_element (λ (e : Entry). IsUnderOwnKey e.0 e.1) es (λ e has. under_own e.0 e.1 (λ i is. own e i has is));
    in_range = each_element (λ (e : Entry). IsRoleInRange interfaces (role_of types e.1)) es inside;
  }

  module _ (uses : List (List ℕ)) (acyclic : IsAcyclic uses) (imports exports : List Entry) (listed : InOrder types (length uses) imports exports) where
    imports_listed : AreSound types (length uses) (elaborated_imports types uses imports exports)
    imports_listed =
        let made : List Entry = all_imports types uses acyclic imports exports listed in
        are_listed (length uses) (by_class types made)
        (λ e i has is. (import_fine types uses acyclic imports exports listed e (by_class_in types made e has)).own i is)
        (λ e has. (import_fine types uses acyclic imports exports listed e (by_class_in types made e has)).inside)

    exports_listed : AreSound types (length uses) (elaborated_exports uses exports)
    exports_listed =
        let others : List Entry = functions types uses acyclic imports exports listed in
        let interfaces : List Entry = kept types uses acyclic imports exports listed in
        are_listed (length uses) (others ++ interfaces)
        (λ e i has is. elim (Contains-append_cases others interfaces e has) [
          | inl old ↦ listed.own_exports e i (Contains-filter (λ (f : Entry). not (is_interface f)) exports e old).0 is
          | inr new ↦ kept_own types uses acyclic imports exports listed e i new is
        ])
        (λ e has. elim (Contains-append_cases others interfaces e has) [
          | inl old ↦ listed.exports_in_range e (Contains-filter (λ (f : Entry). not (is_interface f)) exports e old).0
          | inr new ↦ kept_range types uses acyclic imports exports listed e new
        ])

pub listed_stays : ListedStays
listed_stays types uses old new acyclic listed is =
    let order = in_order types (length uses) old.imports old.exports listed in
    let imports_are : new.imports ≡ elaborated_imports types uses old.imports old.exports = ap (λ (w : World). w.imports) is.world_is in
    let exports_are : new.exports ≡ elaborated_exports uses old.exports = ap (λ (w : World). w.exports) is.world_is in
    record {
      of_imports = subst (λ es. AreSound types (length uses) es) (sym imports_are) (imports_listed types uses acyclic old.imports old.exports order);
      of_exports = subst (λ es. AreSound types (length uses) es) (sym exports_are) (exports_listed types uses acyclic old.imports old.exports order);
    }
