-- One more item of a package, found and noted.
use Rattle.std.proofs.Common.{◌≡◌, ◌∙◌, ◌+◌, ◌++◌, ◌∷◌, [], ℕ, true, List, length, Option, None, Some, slice_get, sym, ap, subst}
use Rattle.std.proofs.lemmas.List.{length_push}
use Rattle.wit_data.specs.Foreign.{ForeignItem}
use Rattle.wit_data.specs.Shape.{IsShaped}
use Rattle.wit_data.specs.declared.unresolved.AstItem.{AstItem}
use Rattle.wit_names.specs.declared.package_name.PackageName.{PackageName}
use Rattle.wit_data.specs.declared.stability.Stability.{Stability}
use Rattle.wit_link_spec.specs.Addition.{Addition}
use Rattle.wit_link_lookup.specs.steps.ForeignItems.{AreThere, HasEntryFor, IsHome, NamedItem, found_among, found_item, item_in, named_is_active, with_item}
use Rattle.wit_link_lookup.specs.declared.foreign.Found.{Found}
use Rattle.wit_link_lookup.proofs.Causes.{is_named}
use Rattle.wit_link_lookup.proofs.FoundLists.{found-inside, named-inside}
use Rattle.wit_link_lookup.proofs.NamedItems.{named_until, until-next, whole}
use Rattle.wit_link_lookup.proofs.Steps.{item-found, item-there}

module _ (a : Addition) (shaped : IsShaped a.unresolved) (place : ℕ) (name : PackageName) (items : List ForeignItem) (home : Option ℕ) (at_home : IsHome a place name items home)
    (index : ℕ) (requested : List ℕ) (what : AstItem × List Stability) (at : slice_get items index ≡ Some (requested, what)) where
  abbrev so_far : List NamedItem
  so_far = named_until a.unresolved.foreign_deps place name items index

  abbrev one : NamedItem
  one = (place, name, (requested, what))

  module _ (old : Found) (old_is : old ≡ found_among a so_far) where
    -- it has an entry in the lists
    pub entry-inside : HasEntryFor old what.0
    entry-inside = found-inside a so_far old old_is what.0 (named-inside a shaped name home requested what.0 (is_named a place name items home index requested what at_home at))

    -- and what is found with it, of which none is missing
    pub item_step : AreThere a so_far → (named_is_active a what.0 ≡ true → item_in a.graph home requested what.0 ≡ None → ⊥) → (new : Found) → new ≡ with_item old what.0 (item_in a.graph home requested what.0)
        → (new ≡ found_among a (named_until a.unresolved.foreign_deps place name items (index + 1))) × AreThere a (named_until a.unresolved.foreign_deps place name items (index + 1))
    item_step there active new is =
        let split = whole a.unresolved.foreign_deps place name items at_home.is index (requested, what) at in
        let next = until-next a.unresolved.foreign_deps place name items at_home.is index (requested, what) at in
        let here : item_in a.graph home requested what.0 ≡ found_item a one = ap (λ (h : Option ℕ). item_in a.graph h requested what.0) at_home.found in
        let inside = named-inside a shaped name home requested what.0 (is_named a place name items home index requested what at_home at) in (
          is ∙ ap (with_item old what.0) here ∙ ap (λ (f : Found). with_item f what.0 (found_item a one)) old_is ∙ item-found a shaped so_far split.0 one split.1 inside ∙ ap (found_among a) (sym next),
          subst (AreThere a) (sym next) (item-there a so_far one there (λ on none. active on (here ∙ none))),
        )

-- what holds of one more than have been yielded holds with the one that comes
pub yielded-more : {X : Type 0} (P : ℕ → Type 0) (xs : List X) (x : X) → P (length xs + 1) → P (length (xs ++ x ∷ []))
yielded-more P xs x holds = subst P (sym (length_push xs x)) holds
