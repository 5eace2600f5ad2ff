-- What the structure of a type begins with: its variant; of an alias all of it. Two variants of which it is not so that
-- they differ are the same.
use Rattle.std.proofs.Common.{◌≡◌, ◌∙◌, inl, inr, ℕ, List, [], ◌∷◌, ◌++◌, map, nat_eq, codes, Option, None, Some, slice_get, slice_index_or, refl, sym, ap}
use Rattle.std.specs.List.{flat_map}
use Rattle.std.specs.Option.{option_map_or}
use Rattle.std.proofs.lemmas.Bool.{cases_Bool, eq-eqb, eqb-true, false≢true}
use Rattle.std.proofs.lemmas.Option.{slice_get_within}
use Rattle.wit_digraph.specs.Relation.{IsAcyclic}
use Rattle.wit_data.specs.Kind.{type_references, KindPart, fixed_length, kind_parts, variant_of}
use Rattle.wit_data.specs.Uses.{alias_target}
use Rattle.wit_data.specs.declared.types.Handle.TheVariants as handle
use Rattle.wit_data.specs.declared.types.TypeDef.{TypeDef}
use Rattle.wit_data.specs.declared.types.TypeDefKind.{TypeDefKind}
use Rattle.wit_data.specs.declared.types.Type_.{Type_}
use Rattle.wit_data.specs.declared.kind.Variant.{Variant}
use Rattle.wit_data.specs.declared.types.TypeDefKind.TheVariants as kind
use Rattle.wit_data.specs.declared.types.Type_.TheVariants as type
use Rattle.wit_data.specs.facts.KindFacts.{all_variants, variant_number, variant_numbered}
use Rattle.wit_merge_spec.specs.Structure.{Feature, fixed, held_features, here, kind_features, names, structure, variant, within}
use Rattle.wit_merge_spec.specs.facts.StructureFacts.{structure_at}
use Rattle.wit_data.specs.declared.kind.Variant.TheVariants as variants
use Rattle.wit_merge_spec.specs.steps.Parts.{part_features}

-- ---- variants

-- variants are told apart, or are the same
pub same_variant : (v w : Variant) → ((v ≡ w → ⊥) → ⊥) → v ≡ w
same_variant v w denied =
    elim (cases_Bool (nat_eq (variant_number v) (variant_number w))) [
      | inl same ↦ sym (variant_numbered v) ∙ (ap (λ (n : ℕ). slice_index_or all_variants n variants.Unknown) (eqb-true (variant_number v) (variant_number w) same) ∙ variant_numbered w)
      | inr other ↦ absurd (denied (λ is. false≢true (sym other ∙ eq-eqb (variant_number v) (variant_number w) (ap variant_number is))))
    ]

-- so are ids that may be missing
pub same_id : (o : Option ℕ) (x : ℕ) → ((o ≡ Some x → ⊥) → ⊥) → o ≡ Some x
same_id None x denied = absurd (denied (λ is. cc))
same_id (Some y) x denied =
    elim (cases_Bool (nat_eq y x)) [
      | inl same ↦ ap (λ (z : ℕ). Some z) (eqb-true y x same)
      | inr other ↦ absurd (denied (λ is. let one : y ≡ x = cc in false≢true (sym other ∙ eq-eqb y x one)))
    ]

-- ---- aliases

-- what names a type as an alias is one
pub alias_kind : (k : TypeDefKind) (u : ℕ) → alias_target k ≡ Some u → k ≡ kind.Type_ (type.Id u)
alias_kind (kind.Type_ (type.Id x)) u is = let same : x ≡ u = cc in ap (λ (y : ℕ). kind.Type_ (type.Id y)) same
alias_kind (kind.Type_ other) u is = cc
alias_kind other u is = cc

-- and so is what is of their variant
pub alias_variant : (k : TypeDefKind) → variant_of k ≡ variants.Alias → (ty : Type_) × (k ≡ kind.Type_ ty)
alias_variant (kind.Type_ ty) is = (ty, refl)
alias_variant (kind.Handle (handle.Own t)) is = cc
alias_variant (kind.Handle (handle.Borrow t)) is = cc
alias_variant other is = cc

-- so is a resource
pub resource_variant : (k : TypeDefKind) → variant_of k ≡ variants.Resource → k ≡ kind.Resource
resource_variant kind.Resource is = refl
resource_variant (kind.Handle (handle.Own t)) is = cc
resource_variant (kind.Handle (handle.Borrow t)) is = cc
resource_variant other is = cc

-- ---- structures

module _ (types : List TypeDef) (matched : ℕ → Option ℕ) (acyclic : IsAcyclic (type_references types)) (t : ℕ) (def : TypeDef) (at : slice_get types t ≡ Some def) where
  -- what comes after the variant
  abbrev behind : TypeDefKind → List Feature
  behind k =
      here (names (map (λ (p : KindPart). p.step) (kind_parts k)))
      ∷ option_map_or (λ len. here (fixed len) ∷ []) (fixed_length k) []
      ++ flat_map (part_features types matched (structure types matched)) (kind_parts k)

  pub structure_begins : (rest : List Feature) × (structure types matched t ≡ here (variant (variant_of def.kind)) ∷ rest)
  structure_begins = (behind def.kind, structure_at types matched acyclic t def (slice_get_within types t def at) at)

  -- an alias is of its variant, and has what it names behind it
  pub alias_structure : (ty : Type_) → def.kind ≡ kind.Type_ ty
      → structure types matched t ≡ here (variant variants.Alias) ∷ (here (names (codes "alias" ∷ [])) ∷ (map (within (codes "alias")) (held_features types matched (structure types matched) (Some ty)) ++ []))
  alias_structure ty is = structure_at types matched acyclic t def (slice_get_within types t def at) at ∙ ap (kind_features types matched (structure types matched)) is
