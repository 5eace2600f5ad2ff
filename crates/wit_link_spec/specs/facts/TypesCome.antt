-- Each type behind which a package is put comes of the graph or of the package, or is an `own` that a value asks for.
use Rattle.std.proofs.Common.{◌≡◌, ◌∙◌, ◌⊎◌, inl, inr, ℕ, ◌+◌, false, List, length, Some, slice_get, refl, sym, subst}
use Rattle.std.proofs.lemmas.Bool.{false≢true, lt-ltb}
use Rattle.std.proofs.lemmas.Option.{slice_get_within}
use Rattle.wit_data.specs.Each.{EachAt}
use Rattle.wit_data.specs.Shape.{IsShaped}
use Rattle.wit_data.specs.declared.types.TypeDef.{TypeDef}
use Rattle.wit_data.specs.declared.types.TypeDefKind.TheVariants as kind
use Rattle.wit_elaboration.specs.Valid.{IsValid}
use Rattle.wit_graph_data.specs.declared.graph.Graph.{Graph}
use Rattle.wit_graph_theory.specs.facts.CarriedImages.{image_carried, itself_carried}
use Rattle.wit_graph_theory.specs.facts.Covered.{IsOwnMade, TypeComes}
use Rattle.wit_remap_spec.specs.Image.{type_image}
use Rattle.wit_link_spec.specs.Addition.{Addition, addition_maps, remap_of_addition}
use Rattle.wit_link_spec.specs.Lookup.{is_foreign_type}
use Rattle.wit_link_spec.specs.facts.OwnThingFacts.{own_type_from}
use Rattle.wit_link_spec.specs.facts.PositionFacts.{needs_active}
use Rattle.wit_link_spec.specs.Reasons.{IsResolved}
use Rattle.wit_link_spec.specs.facts.Parts.{HasParts}
use Rattle.wit_link_spec.specs.facts.SourcesGood.{sources}
use Rattle.wit_link_spec.specs.facts.ValueRemapFacts.{behind_from}
use Rattle.wit_link_spec.specs.steps.Parts.{own_types}

module _ (a : Addition) (valid : IsValid a.graph) (shaped : IsShaped a.unresolved) (image : IsResolved a) (g : Graph) (are : HasParts a g.types g.interfaces) where
  -- a type of the graph comes as itself
  old_comes : (t : ℕ) (def : TypeDef) → slice_get a.graph.types t ≡ Some def → TypeComes (sources a) g t def
  old_comes t def there = record {
    source = 0;
    t = t;
    old = def;
    there = there;
    takes = lt-ltb t (length a.graph.types) (slice_get_within a.graph.types t def there);
    place = refl;
    carried = itself_carried (sources a 0) g def refl (valid.known t def there);
  }

  -- a type of the package that isn't foreign is known
  known : (t : ℕ) (def : TypeDef) → slice_get a.unresolved.types t ≡ Some def → is_foreign_type a.unresolved t ≡ false → def.kind ≡ kind.Unknown → ⊥
  known t def there own unknown = false≢true (sym own ∙ lt-ltb t (length a.unresolved.unknown_type_spans) ((shaped.unknown.first.1 t def there).0 unknown))

  -- its image comes of it
  image_comes : (i : ℕ) (def : TypeDef) → slice_get (own_types a) i ≡ Some def → TypeComes (sources a) g (length a.graph.types + i) (type_image (addition_maps a) def)
  image_comes i def on =
      let own = own_type_from a i def on in
      record {
        source = 1;
        t = own.t;
        old = def;
        there = own.there;
        takes = own.active;
        place = sym own.place;
        carried = image_carried (sources a 1) g def (known own.t def own.there own.foreign);
      }

  pub types_come : EachAt (λ t' (new : TypeDef). TypeComes (sources a) g t' new ⊎ IsOwnMade (sources a) new) g.types
  types_come t' new on =
      elim (behind_from (remap_of_addition a) a.graph.types refl t' new (subst (λ (types : List TypeDef). slice_get types t' ≡ Some new) are.types_are on)) [
        | inl old ↦ inl (old_comes t' new old)
        | inr behind ↦ elim behind [
          | inl own ↦ inl (subst (λ (t : ℕ). TypeComes (sources a) g t new) (sym own.place) (subst (TypeComes (sources a) g (length a.graph.types + own.k)) own.is (image_comes own.k own.old own.there)))
          | inr made ↦
              -- an `own` is made for a type that is active
              inr (subst (IsOwnMade (sources a)) made.is (record { source = 1; t = made.t; takes = needs_active a shaped image made.t made.needs; name = refl; owner = refl; kind = refl }))
        ]
      ]
