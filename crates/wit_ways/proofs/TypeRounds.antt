-- A way from a type of a name back to it.
use Rattle.std.proofs.Common.{◌≡◌, ◌<◌, ◌≤◌, ◌+◌, ◌∙◌, ℕ, List, [], ◌∷◌, None, Some, arith, false, inl, inr, length, refl, subst, sym, true, bytes_eq}
use Rattle.std.specs.Option.{option_map_or}
use Rattle.std.specs.Prelude.{slice_get}
use Rattle.std.proofs.lemmas.Bool.{cases_eq}
use Rattle.std.proofs.lemmas.Option.{slice_get_within}
use Rattle.wit_data.specs.declared.types.TypeDef.{TypeDef}
use Rattle.wit_graph_data.specs.declared.graph.Graph.{Graph}
use Rattle.wit_ways.specs.Told.{IsRoundAt, IsTypeRound}
use Rattle.wit_ways.specs.TypeArrows.{type_text}
use Rattle.wit_ways.specs.Ways.{IsRound}
use Rattle.wit_ways.specs.declared.arrow.Arrow.{Arrow}

module _ (g : Graph) (arrows : List Arrow) (name : List ℕ) where
  -- one more that doesn't lead back to itself
  pub one_more : (n : ℕ) (way : List Arrow) → way ≡ [] → IsRoundAt g arrows name n way → ((k : ℕ) → k < n → IsRoundAt g arrows name k []) → (k : ℕ) → k < n + 1 → IsRoundAt g arrows name k []
  one_more n way none at below k last = elim (cases_eq k n) [
    | inl same ↦ subst (λ (i : ℕ). IsRoundAt g arrows name i []) (sym same) (subst (IsRoundAt g arrows name n) none at)
    | inr apart ↦ below k (omega (arith, last, apart))
  ]

  pub some_round : (n : ℕ) (way : List Arrow) → (way ≡ [] → ⊥) → IsRoundAt g arrows name n way → IsTypeRound g arrows name way
  some_round n [] full at = absurd (full refl)
  some_round n (a ∷ way) full at = (n, at)

  pub none_at_all : (n : ℕ) → length g.types ≤ n → ((k : ℕ) → k < n → IsRoundAt g arrows name k []) → IsTypeRound g arrows name []
  none_at_all n all below = λ id def there. let within = slice_get_within g.types id def there in below id (omega (arith, all, within)) def there

  pub round_of : (id : ℕ) (def : TypeDef) (way : List Arrow) → slice_get g.types id ≡ Some def → option_map_or (bytes_eq name) def.name false ≡ true
      → IsRound arrows (type_text g id) way → IsRoundAt g arrows name id way
  round_of id def [] there called is = λ other other_there other_called. is
  round_of id def (a ∷ way) there called is = (def, there, called, is)

  pub no_type : (id : ℕ) → slice_get g.types id ≡ None → IsRoundAt g arrows name id []
  no_type id none = λ def there called. absurd (differ (sym none ∙ there))
    where
      differ : {x : TypeDef} → None ≡ Some x → ⊥
      differ same = cc

  pub other_name : (id : ℕ) (def : TypeDef) → slice_get g.types id ≡ Some def → option_map_or (bytes_eq name) def.name false ≡ false → IsRoundAt g arrows name id []
  other_name id def there apart = λ other other_there called. absurd (differ other (sym there ∙ other_there) called)
    where
      differ : (other : TypeDef) → Some def ≡ Some other → option_map_or (bytes_eq name) other.name false ≡ true → ⊥
      differ other same called = cc
