-- The keys of what is active of a world still differ with their new ids.
use Rattle.std.proofs.Common.{◌≡◌, ℕ, suc, Bool, true, false, cond, List, [], ◌∷◌, map, filter, Some, slice_get, refl, subst, arith}
use Rattle.std.specs.List.{AllByRecursion, IsDistinct}
use Rattle.std.specs.Map.{keys_of}
use Rattle.std.proofs.lemmas.Bool.{false_from_ne_true}
use Rattle.std.proofs.lemmas.Map.Keys.{IsDistinct-cons}
use Rattle.wit_data.specs.Entries.{Entry, IsExport, IsImport}
use Rattle.wit_data.specs.Shape.{IsShaped}
use Rattle.wit_data.specs.facts.WorldKeyFacts.{key_is, same_key}
use Rattle.wit_data.specs.declared.world.World.{World}
use Rattle.wit_data.specs.declared.world.WorldItem.{WorldItem}
use Rattle.wit_data.specs.declared.world.WorldKey.{WorldKey}
use Rattle.wit_data.specs.declared.world.WorldItem.TheVariants as item
use Rattle.wit_data.specs.declared.world.WorldKey.TheVariants as key
use Rattle.wit_elaboration.specs.Valid.{IsValid}
use Rattle.wit_graph_theory.specs.Cut.{ItemIsKept}
use Rattle.wit_remap_spec.specs.Image.{entry_image}
use Rattle.wit_link_spec.specs.Addition.{Addition, active, addition_maps, own_world}
use Rattle.wit_link_spec.specs.facts.ActivePart.{part}
use Rattle.wit_link_spec.specs.facts.ApartFacts.{KeyIsActive, keys_apart}
use Rattle.wit_link_spec.specs.facts.ClosedCut.{closed_part}
use Rattle.wit_link_spec.specs.Reasons.{IsResolved}
use Rattle.wit_remap.specs.steps.Fits.{HasKeysApart}

module _ (f : Entry → Entry) (kept : Entry → Bool) where
  -- a key that no other has
  others_apart : (x : Entry) (es : List Entry) → ((j : ℕ) (e : Entry) → slice_get es j ≡ Some e → kept e ≡ true → (f x).0 ≡ (f e).0 → ⊥)
      → AllByRecursion (λ y. same_key (f x).0 y ≡ false) (keys_of (map f (filter kept es)))
  others_apart x [] apart = tt
  others_apart x (e ∷ es) apart = by (kept e) refl (others_apart x es (λ j. apart (suc j)))
    where
      by : (b : Bool) → kept e ≡ b → AllByRecursion (λ y. same_key (f x).0 y ≡ false) (keys_of (map f (filter kept es)))
          → AllByRecursion (λ y. same_key (f x).0 y ≡ false) (keys_of (map f (cond b (e ∷ filter kept es) (filter kept es))))
      by true is rest = (false_from_ne_true (same_key (f x).0 (f e).0) (λ same. apart 0 e refl is ((key_is (f x).0 (f e).0).0 same)), rest)
      by false is rest = rest

  -- where no two of what is kept go to one key, the keys differ
  pub all_apart : (es : List Entry) → ((i j : ℕ) (d e : Entry) → slice_get es i ≡ Some d → slice_get es j ≡ Some e → kept d ≡ true → kept e ≡ true → (f d).0 ≡ (f e).0 → i ≡ j)
      → IsDistinct same_key (keys_of (map f (filter kept es)))
  unfolding IsDistinct
  all_apart [] apart = tt
  all_apart (x ∷ es) apart = by (kept x) refl (all_apart es (λ i j d e first second on other same. let h : suc i ≡ suc j = apart (suc i) (suc j) d e first second on other same in omega arith))
    where
      by : (b : Bool) → kept x ≡ b → IsDistinct same_key (keys_of (map f (filter kept es))) → IsDistinct same_key (keys_of (map f (cond b (x ∷ filter kept es) (filter kept es))))
      by true is rest = IsDistinct-cons same_key (f x).0 (keys_of (map f (filter kept es))) (others_apart x es (λ j e at on same. let h : 0 ≡ suc j = apart 0 (suc j) x e refl at is on same in absurd (omega arith))) rest
      by false is rest = rest

module _ (a : Addition) (valid : IsValid a.graph) (shaped : IsShaped a.unresolved) (image : IsResolved a) where
  key_takes : (k : WorldKey) (held : WorldItem) → IsExport a.unresolved.interfaces k held → ItemIsKept (part a) held → KeyIsActive a valid shaped image k
  key_takes (key.Name label) held is on = tt
  key_takes (key.Interface f) (item.Interface i stability docs span external_id) is on = subst (λ (g : ℕ). (part a).interfaces g ≡ true) is.0 on
  key_takes (key.Interface f) (item.Function function) is on = absurd is
  key_takes (key.Interface f) (item.Type_ t span) is on = absurd is

  import_is_active : (w : ℕ) (k : WorldKey) (held : WorldItem) → IsImport a.unresolved.interfaces a.unresolved.types w k held → ItemIsKept (part a) held → KeyIsActive a valid shaped image k
  import_is_active w (key.Name label) held is on = tt
  import_is_active w (key.Interface f) (item.Interface i stability docs span external_id) is on = subst (λ (g : ℕ). (part a).interfaces g ≡ true) is.0 on
  import_is_active w (key.Interface f) (item.Function function) is on = absurd is
  import_is_active w (key.Interface f) (item.Type_ t span) is on = absurd is

  pub world_keys_apart : (w : ℕ) (world : World) → slice_get a.unresolved.worlds w ≡ Some world → own_world a w ≡ true → HasKeysApart (addition_maps a) (active a) world
  world_keys_apart w world at own = record {
    imports = all_apart (entry_image (addition_maps a) 0) (λ (e : Entry). (active a).items e.1) world.imports
        (λ i j d e first second on other same. shaped.keys.imports w world at i j d e first second
        (keys_apart a valid shaped image 0 d.0 e.0
        (import_is_active w d.0 d.1 (shaped.worlds.imports w world at i d first) ((closed_part a shaped image).imports w world at own i d first on))
        (import_is_active w e.0 e.1 (shaped.worlds.imports w world at j e second) ((closed_part a shaped image).imports w world at own j e second other)) same));
    exports = all_apart (entry_image (addition_maps a) 0) (λ (e : Entry). (active a).items e.1) world.exports
        (λ i j d e first second on other same. shaped.keys.exports w world at i j d e first second
        (keys_apart a valid shaped image 0 d.0 e.0
        (key_takes d.0 d.1 (shaped.worlds.exports w world at i d first) ((closed_part a shaped image).exports w world at own i d first on))
        (key_takes e.0 e.1 (shaped.worlds.exports w world at j e second) ((closed_part a shaped image).exports w world at own j e second other)) same));
  }
