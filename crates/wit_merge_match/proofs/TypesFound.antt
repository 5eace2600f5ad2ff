-- A type that a world lists under a name is the one that its imports have under that label.
use Rattle.std.proofs.Common.{◌≡◌, ◌∙◌, ℕ, suc, zero, Bool, true, false, cond, List, [], ◌∷◌, Option, None, Some, option_and_then, slice_get, refl, sym, ap, subst}
use Rattle.std.proofs.lemmas.Slice.Eq.{bytes_eq-Decides}
use Rattle.std.specs.List.{flat_map}
use Rattle.std.specs.Map.{lookup}
use Rattle.std.specs.Str.{bytes_eq}
use Rattle.wit_values.specs.Table.{HasDistinctKeys}
use Rattle.wit_data.specs.Entries.{Entry, item_type}
use Rattle.wit_data.specs.Ownership.{entry_type, world_types}
use Rattle.wit_data.specs.declared.world.World.{World}
use Rattle.wit_data.specs.declared.world.WorldItem.{WorldItem}
use Rattle.wit_data.specs.declared.world.WorldKey.{WorldKey}
use Rattle.wit_data.specs.declared.world.WorldItem.TheVariants as item
use Rattle.wit_data.specs.declared.world.WorldKey.TheVariants as key
use Rattle.wit_data.specs.contracts.world.WorldKeyPartialEq.TheImpl.{eq-value}
use Rattle.wit_elaboration.specs.facts.Keys.{key_eq-same}
use Rattle.wit_elaboration.specs.Entries.{same_key}
use Rattle.wit_elaboration.specs.Valid.{IsValid}
use Rattle.wit_graph_data.specs.declared.graph.Graph.{Graph}
use Rattle.wit_transform.specs.facts.Distinct.{tail_distinct}

abbrev types_in : List Entry → List (List ℕ × ℕ)
types_in es = flat_map (λ (e : Entry). entry_type e.0 e.1) es

module _ (n : List ℕ) where
  -- where no entry has the label no type is listed under it
  absent : (es : List Entry) → ((i : ℕ) (e : Entry) → slice_get es i ≡ Some e → e.0 ≡ key.Name n → ⊥) → lookup (bytes_eq n) (types_in es) ≡ None
  absent [] none = refl
  absent ((key.Interface f, held) ∷ es) none = absent es (λ i e at. none (suc i) e at)
  absent ((key.Name m, item.Interface j stability docs span external_id) ∷ es) none = absent es (λ i e at. none (suc i) e at)
  absent ((key.Name m, item.Function f) ∷ es) none = absent es (λ i e at. none (suc i) e at)
  absent ((key.Name m, item.Type_ t span) ∷ es) none = by (bytes_eq n m) refl (absent es (λ i e at. none (suc i) e at))
    where
      by : (b : Bool) → bytes_eq n m ≡ b → lookup (bytes_eq n) (types_in es) ≡ None → cond b (Some t) (lookup (bytes_eq n) (types_in es)) ≡ None
      by true same rest = absurd (none zero (key.Name m, item.Type_ t span) refl (ap (λ (l : List ℕ). key.Name l) (sym ((bytes_eq-Decides n m).0 same))))
      by false apart rest = rest

  -- entries behind one of that label have another
  behind : (m : List ℕ) (held : WorldItem) (es : List Entry) → HasDistinctKeys ((key.Name m, held) ∷ es) → bytes_eq n m ≡ true → lookup (bytes_eq n) (types_in es) ≡ None
  behind m held es once same =
      absent es (λ i e at under. let zero_is : zero ≡ suc i = once zero (suc i) (key.Name m, held) e refl at (ap (λ (l : List ℕ). key.Name l) (sym ((bytes_eq-Decides n m).0 same)) ∙ sym under) in cc)

  pub type_listed : (es : List Entry) → HasDistinctKeys es → option_and_then item_type (lookup (same_key (key.Name n)) es) ≡ lookup (bytes_eq n) (types_in es)
  type_listed [] once = refl
  type_listed ((key.Interface f, held) ∷ es) once = type_listed es (tail_distinct (key.Interface f, held) es once)
  type_listed ((key.Name m, item.Type_ t span) ∷ es) once = by (bytes_eq n m) (type_listed es (tail_distinct (key.Name m, item.Type_ t span) es once))
    where
      by : (b : Bool) → option_and_then item_type (lookup (same_key (key.Name n)) es) ≡ lookup (bytes_eq n) (types_in es)
          → option_and_then item_type (cond b (Some (item.Type_ t span)) (lookup (same_key (key.Name n)) es)) ≡ cond b (Some t) (lookup (bytes_eq n) (types_in es))
      by true rest = refl
      by false rest = rest
  type_listed ((key.Name m, item.Function f) ∷ es) once = by (bytes_eq n m) refl (type_listed es (tail_distinct (key.Name m, item.Function f) es once))
    where
      by : (b : Bool) → bytes_eq n m ≡ b → option_and_then item_type (lookup (same_key (key.Name n)) es) ≡ lookup (bytes_eq n) (types_in es)
          → option_and_then item_type (cond b (Some (item.Function f)) (lookup (same_key (key.Name n)) es)) ≡ lookup (bytes_eq n) (types_in es)
      by true same rest = sym (behind m (item.Function f) es once same)
      by false apart rest = rest
  type_listed ((key.Name m, item.Interface j stability docs span external_id) ∷ es) once =
      by (bytes_eq n m) refl (type_listed es (tail_distinct (key.Name m, item.Interface j stability docs span external_id) es once))
    where
      by : (b : Bool) → bytes_eq n m ≡ b → option_and_then item_type (lookup (same_key (key.Name n)) es) ≡ lookup (bytes_eq n) (types_in es)
          → option_and_then item_type (cond b (Some (item.Interface j stability docs span external_id)) (lookup (same_key (key.Name n)) es)) ≡ lookup (bytes_eq n) (types_in es)
      by true same rest = sym (behind m (item.Interface j stability docs span external_id) es once same)
      by false apart rest = rest

-- so of a world of a valid graph
pub type_at : (g : Graph) → IsValid g → (n : List ℕ) (id : Option ℕ) (w i : ℕ) (world : World) (label : List ℕ) (o : Option WorldItem) → id ≡ Some w → i ≡ w → Some world ≡ slice_get g.worlds i → label ≡ n
    → o ≡ lookup (eq-value.it (key.Name label)) world.imports
    → option_and_then item_type o ≡ option_and_then (λ (there : World). lookup (bytes_eq n) (world_types there)) (option_and_then (slice_get g.worlds) id)
type_at g valid n id w i world label o is same at named found =
    let there : slice_get g.worlds w ≡ Some world = subst (λ (k : ℕ). slice_get g.worlds k ≡ Some world) same (sym at) in
    let by_key = found ∙ ap (λ (l : List ℕ). lookup (eq-value.it (key.Name l)) world.imports) named ∙ ap (λ (eq : WorldKey → WorldKey → Bool). lookup (eq (key.Name n)) world.imports) key_eq-same in
    ap (option_and_then item_type) by_key ∙ type_listed n world.imports (valid.well_formed.worlds.distinct_imports w world there)
    ∙ sym (ap (option_and_then (λ (there : World). lookup (bytes_eq n) (world_types there))) (ap (option_and_then (slice_get g.worlds)) is ∙ there))
