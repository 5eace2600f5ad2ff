-- Entries of worlds that are updated one after another.
use Rattle.std.proofs.Common.{◌≡◌, ◌∙◌, ℕ, zero, suc, List, [], ◌∷◌, ◌++◌, map, slice_get, None, refl, ap, sym, subst, append_assoc}
use Rattle.std.proofs.lemmas.List.{append-nil}
use Rattle.std.specs.List.{IsDistinct}
use Rattle.std.specs.Map.{keys_of, lookup}
use Rattle.wit_values.specs.facts.Lists.{lookup-before}
use Rattle.wit_data.specs.Entries.{Entry}
use Rattle.wit_data.specs.facts.WorldKeyFacts.{key_laws, same_key}
use Rattle.wit_data.specs.declared.world.WorldItem.{WorldItem}
use Rattle.wit_data.specs.declared.world.WorldKey.{WorldKey}
use Rattle.wit_data.specs.declared.world.WorldItem.TheVariants as item
use Rattle.wit_data.specs.declared.world.WorldKey.TheVariants as key
use Rattle.wit_remap_spec.specs.Image.{entry_image, item_image, key_image}
use Rattle.wit_remap.specs.steps.Fits.{EntriesFit, Fits, ItemFits}
use Rattle.wit_remap.specs.steps.Movers.{maps_of}
use Rattle.wit_remap.specs.declared.mover.Mover.{Mover}

-- the spans of the first entry fit, and those of the others
pub first_fits : (offset : ℕ) (left rest : List Entry) (e : Entry) → EntriesFit (Fits offset) left → left ≡ e ∷ rest → ItemFits (Fits offset) e.1
first_fits offset left rest e fits first = fits zero e (ap (λ (l : List Entry). slice_get l zero) first)

pub others_fit : (offset : ℕ) (left rest : List Entry) (e : Entry) → EntriesFit (Fits offset) left → left ≡ e ∷ rest → EntriesFit (Fits offset) rest
others_fit offset left rest e fits first i x at = fits (suc i) x (ap (λ (l : List Entry). slice_get l (suc i)) first ∙ at)

module _ (f : Entry → Entry) where
  -- one entry more is updated
  pub updated-next : (done left rest whole : List Entry) (e : Entry) → done ++ map f left ≡ whole → left ≡ e ∷ rest → (done ++ f e ∷ []) ++ map f rest ≡ whole
  updated-next done left rest whole e all first = append_assoc done (f e ∷ []) (map f rest) ∙ (ap (λ (l : List Entry). done ++ map f l) (sym first) ∙ all)

  -- its key is new
  pub updated-new : (done left rest whole : List Entry) (e : Entry) → IsDistinct same_key (keys_of whole) → done ++ map f left ≡ whole → left ≡ e ∷ rest → lookup (same_key (f e).0) done ≡ None
  updated-new done left rest whole e distinct all first =
      let split : done ++ f e ∷ map f rest ≡ whole = ap (λ (l : List Entry). done ++ map f l) (sym first) ∙ all in
      lookup-before key_laws done (map f rest) (f e).0 (f e).1 (subst (λ (l : List Entry). IsDistinct same_key (keys_of l)) (sym split) distinct)

  -- and all are updated where none is left
  pub updated-all : (done left whole : List Entry) → done ++ map f left ≡ whole → left ≡ [] → done ≡ whole
  updated-all done left whole all none = sym (append-nil done) ∙ (ap (λ (l : List Entry). done ++ map f l) (sym none) ∙ all)

module _ (m : Mover) where
  key_same : (v w : ℕ) (k : WorldKey) → key_image (maps_of m) v k ≡ key_image (maps_of m) w k
  key_same v w (key.Name label) = refl
  key_same v w (key.Interface i) = refl

  item_same : (v w : ℕ) (i : WorldItem) → item_image (maps_of m) v i ≡ item_image (maps_of m) w i
  item_same v w (item.Interface i stability docs span external_id) = refl
  item_same v w (item.Function f) = refl
  item_same v w (item.Type_ t span) = refl

  -- whose entry it is changes nothing, since labels stay
  pub entry_same : (v w : ℕ) (e : Entry) → entry_image (maps_of m) v e ≡ entry_image (maps_of m) w e
  entry_same v w e = ap (λ (k : WorldKey). let r : Entry = (k, item_image (maps_of m) v e.1) in r) (key_same v w e.0) ∙ ap (λ (i : WorldItem). let r : Entry = (key_image (maps_of m) w e.0, i) in r) (item_same v w e.1)

  pub entries_same : (v w : ℕ) (es : List Entry) → map (entry_image (maps_of m) v) es ≡ map (entry_image (maps_of m) w) es
  entries_same v w es = ap (λ (f : Entry → Entry). map f es) (λ j e. entry_same v w e j)
