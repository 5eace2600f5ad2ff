-- A finished world comes of sources where its listed one does. (The two laws of wit_elaboration on elaborated worlds
-- are premises, as a law's contract gives them.)
use Rattle.std.proofs.Common.{◌≡◌, ◌∙◌, ◌⊎◌, inl, inr, ℕ, [], length, refl, sym, ap, subst, Contains}
use Rattle.wit_digraph.specs.Relation.{IsAcyclic}
use Rattle.wit_data.specs.Entries.{Entry, item_interface}
use Rattle.wit_data.specs.Ownership.{IsNamed}
use Rattle.wit_data.specs.Uses.{uses_of}
use Rattle.wit_data.specs.declared.world.World.{World}
use Rattle.wit_data.specs.declared.world.WorldItem.{WorldItem}
use Rattle.wit_data.specs.declared.world.WorldItem.TheVariants as item
use Rattle.wit_elaboration.specs.Elaborated.{Elaborated, without_span}
use Rattle.wit_elaboration.specs.laws.KeptByElaboration.{ElaboratedEntries, ElaboratedOnce, IsUsed, listed_without_span}
use Rattle.wit_elaboration.specs.Sound.{HasSoundEntries}
use Rattle.wit_graph_data.specs.declared.graph.Graph.{Graph}
use Rattle.wit_graph_theory.specs.facts.Covered.{EntryComes, IsDependency, IsNoType, ItemComes, WorldComes}
use Rattle.wit_graph_theory.specs.steps.Sources.{Source}
use Rattle.wit_graph_theory.specs.facts.ListFacts.{contained_at, place_of}
use Rattle.wit_elaboration.specs.steps.Parts.{exported_keys}

-- an item with its stability settled is the same interface
pub interface_without_span : (held : WorldItem) → item_interface (without_span held) ≡ item_interface held
interface_without_span (item.Interface i stability docs span external_id) = refl
interface_without_span (item.Function f) = refl
interface_without_span (item.Type_ t span) = refl

without_span_comes : (s : Source) (w : ℕ) (old held : WorldItem) → ItemComes s w old held → ItemComes s w old (without_span held)
without_span_comes s w (item.Interface i stability docs span external_id) held comes = interface_without_span held ∙ comes
without_span_comes s w (item.Function f) held comes = (comes.0, ap without_span comes.1, comes.2, comes.3)
without_span_comes s w (item.Type_ t span) held comes = (comes.0, ap without_span comes.1)

module _ {K : Type 0} (at : K → Source) (g : Graph) (w : ℕ) (listed done : World) (entries : ElaboratedEntries) (once : ElaboratedOnce)
    (acyclic : IsAcyclic (uses_of g.types g.interfaces)) (in_order : HasSoundEntries g.types (length (uses_of g.types g.interfaces)) listed.imports listed.exports)
    (used_named : (j : ℕ) → IsUsed g.types (uses_of g.types g.interfaces) listed.imports j → IsNamed g.interfaces j)
    (exported_named : (j : ℕ) → Contains (exported_keys listed.exports) j → IsNamed g.interfaces j)
    (comes : WorldComes at g w listed) (elaborated : Elaborated g.types (uses_of g.types g.interfaces) listed done) where
  entry_without_span : (f : Entry) → EntryComes at w f ⊎ IsDependency g.interfaces f → EntryComes at w (listed_without_span f) ⊎ IsDependency g.interfaces (listed_without_span f)
  entry_without_span f (inl from) = inl (record { source = from.source; from = from.from; old = from.old; listed = from.listed; key = from.key; held = without_span_comes (at from.source) from.from.w from.old.1 f.1 from.held })
  entry_without_span f (inr added) = inr (record { f = added.f; key = added.key; held = interface_without_span f.1 ∙ added.held; named = added.named })

  import_comes : (e : Entry) → Contains done.imports e → EntryComes at w e ⊎ IsDependency g.interfaces e
  import_comes e has =
      elim ((entries g.types (uses_of g.types g.interfaces) listed done e acyclic in_order elaborated).0 has) [
        | inl stays ↦
            let place = place_of listed.imports stays.0 stays.1 in
            subst (λ (f : Entry). EntryComes at w f ⊎ IsDependency g.interfaces f) (sym stays.2) (entry_without_span stays.0 (comes.imports place.0 stays.0 place.1))
        | inr made ↦ inr (subst (IsDependency g.interfaces) (sym made.2) (record { f = made.1; key = refl; held = refl; named = used_named made.1 made.3 }))
      ]

  export_comes : (e : Entry) → Contains done.exports e → (EntryComes at w e × IsNoType e.1) ⊎ IsDependency g.interfaces e
  export_comes e has =
      elim ((entries g.types (uses_of g.types g.interfaces) listed done e acyclic in_order elaborated).1 has) [
        | inl stays ↦ let place = place_of listed.exports e stays in comes.exports place.0 e place.1
        | inr made ↦ inr (subst (IsDependency g.interfaces) (sym made.2) (record { f = made.1; key = refl; held = refl; named = exported_named made.1 made.3 }))
      ]

  pub elaborated_comes : done.includes ≡ [] → WorldComes at g w done
  elaborated_comes none =
      let distinct = once g.types (uses_of g.types g.interfaces) listed done acyclic in_order elaborated in
      record {
        imports = λ i e on. import_comes e (contained_at done.imports i e on);
        exports = λ i e on. export_comes e (contained_at done.exports i e on);
        distinct_imports = distinct.0;
        distinct_exports = distinct.1 comes.distinct_exports;
        no_includes = none;
      }
