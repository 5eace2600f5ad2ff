-- What goes with a world and what is copied is there, and so are the keys of the tables of it.
use Rattle.std.proofs.Common.{◌≡◌, ◌∙◌, ℕ, zero, suc, ◌<◌, ◌||◌, ◌&&◌, Bool, true, false, List, [], ◌∷◌, Option, None, Some, Contains, length, not, is_some, nat_eq, slice_get, refl, sym, ap, subst, arith}
use Rattle.std.specs.List.{list_any}
use Rattle.std.specs.Map.{keys_of}
use Rattle.std.specs.Option.{option_map_or}
use Rattle.std.proofs.lemmas.Bool.{false≢true}
use Rattle.std.proofs.lemmas.Option.{slice_get_within}
use Rattle.wit_data.specs.Entries.{interfaces_in_worlds, is_unnamed}
use Rattle.wit_data.specs.declared.interface.Interface.{Interface}
use Rattle.wit_data.specs.declared.types.TypeDef.{TypeDef}
use Rattle.wit_data.specs.declared.world.World.{World}
use Rattle.wit_graph_data.specs.declared.graph.Graph.{Graph}
use Rattle.wit_graph_theory.specs.facts.ListFacts.{place_of}
use Rattle.wit_link_spec.specs.Include.{belongs_to, is_copied, owner_belongs_to}
use Rattle.wit_link_include.specs.steps.Included.{numbered, places}
use Rattle.wit_link_include.proofs.Members.{and_both}
use Rattle.wit_link_include.proofs.RisingIds.{numbered-keys}
use Rattle.wit_link_include.proofs.SelectedIndices.{place_from}
use Rattle.wit_link_spec.specs.steps.Parts.{is_on_way}

-- what goes with a world is there
pub goes_there : (g : Graph) (world : World) (i : ℕ) → belongs_to g world i ≡ true → (interface : Interface) × (slice_get g.interfaces i ≡ Some interface)
goes_there g world i is = by (slice_get g.interfaces i) refl
  where
    parts : (is_unnamed g.interfaces i ≡ true) × (list_any (nat_eq i) (interfaces_in_worlds (world ∷ [])) ≡ true)
    parts = and_both (is_unnamed g.interfaces i) (list_any (nat_eq i) (interfaces_in_worlds (world ∷ []))) is

    by : (o : Option Interface) → slice_get g.interfaces i ≡ o → (interface : Interface) × (slice_get g.interfaces i ≡ Some interface)
    by (Some interface) at = (interface, at)
    by None at = absurd (false≢true (sym (ap (λ (o : Option Interface). option_map_or (λ (f : Interface). not (is_some f.name)) o false) at) ∙ parts.0))

-- what is copied is there
pub copied_there : (g : Graph) (w : ℕ) (world : World) (t : ℕ) → is_copied g w world t ≡ true → (def : TypeDef) × (slice_get g.types t ≡ Some def)
copied_there g w world t is = by (slice_get g.types t) refl
  where
    by : (o : Option TypeDef) → slice_get g.types t ≡ o → (def : TypeDef) × (slice_get g.types t ≡ Some def)
    by (Some def) at = (def, at)
    by None at = absurd (false≢true (sym (ap (λ (o : Option TypeDef). option_map_or (λ (d : TypeDef). owner_belongs_to g w world d.owner) o false
        || (option_map_or (λ (d : TypeDef). not (is_some d.name)) o false && is_on_way g w world t)) at) ∙ is))

-- the keys of a table of places are there
pub keys_there : {X : Type 0} (kept : ℕ → Bool) (xs : List X) (n : ℕ) (table : List (ℕ × ℕ)) → table ≡ numbered n (places kept xs) → (t : ℕ) → Contains (keys_of table) t → t < length xs
keys_there kept xs n table is t has =
    let at = place_of (places kept xs) t (subst (λ (ks : List ℕ). Contains ks t) (ap keys_of is ∙ numbered-keys n (places kept xs)) has) in
    let found = place_from kept xs at.0 t at.1 in
    slice_get_within xs t found.0 found.1
