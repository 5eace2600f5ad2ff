-- How the structure of a type unfolds, for the proofs of this crate and of the crates above. They say nothing about this
-- crate's code.
use Rattle.std.proofs.Common.{◌≡◌, ◌∙◌, ℕ, zero, suc, ◌<◌, ◌+◌, List, [], ◌∷◌, ◌++◌, length, map, Option, None, Some, slice_get, refl, sym, ap, subst, arith, Contains, if◌then◌else◌}
use Rattle.std.specs.List.{flat_map}
use Rattle.std.specs.Option.{option_map_or}
use Rattle.wit_digraph.specs.facts.MemberFacts.{Contains-flat_map, Contains-here, flat_map-same}
use Rattle.wit_digraph.specs.Relation.{IsAcyclic, direct}
use Rattle.wit_digraph.specs.facts.PostOrderFacts.{HasShortPaths, IsAcyclic-short}
use Rattle.wit_data.specs.Kind.{named_option, referred, type_references, kind_parts, KindPart}
use Rattle.wit_data.specs.facts.ReferenceFacts.{length-references, references_at}
use Rattle.wit_data.specs.declared.types.TypeDef.{TypeDef}
use Rattle.wit_data.specs.declared.types.TypeDefKind.{TypeDefKind}
use Rattle.wit_data.specs.declared.types.Type_.{Type_}
use Rattle.wit_data.specs.declared.types.Type_.TheVariants as type
use Rattle.wit_merge_spec.specs.Structure.{Feature, head_features, held_features, here, is_named, kind_features, named, structure, structure_within, within}
use Rattle.wit_merge_spec.specs.steps.Parts.{part_features}

-- what a part of a kind names is what the kind refers to
pub part_refers : (k : TypeDefKind) (p : KindPart) (t : ℕ) → Contains (kind_parts k) p → Contains (named_option p.ty) t → Contains (referred k) t
part_refers k p t among has = Contains-flat_map (λ (q : KindPart). named_option q.ty) (kind_parts k) p t among has

-- ---- what features hang on

module _ (types : List TypeDef) (matched : ℕ → Option ℕ) (inner inner' : ℕ → List Feature) where
  held-same : (ty : Option Type_) → ((t : ℕ) → Contains (named_option ty) t → inner t ≡ inner' t) → held_features types matched inner ty ≡ held_features types matched inner' ty
  held-same None same = refl
  held-same (Some (type.Id t)) same = ap (λ (fs : List Feature). if is_named types t then here (named (matched t)) ∷ [] else fs) (same t (Contains-here t []))
  held-same (Some ty) same = refl

  -- the features of a kind hang on those of the types to which it refers
  kind-same : (k : TypeDefKind) → ((t : ℕ) → Contains (referred k) t → inner t ≡ inner' t) → kind_features types matched inner k ≡ kind_features types matched inner' k
  kind-same k same =
      ap (λ (fs : List Feature). head_features k ++ fs)
      (flat_map-same (part_features types matched inner) (part_features types matched inner') (kind_parts k)
      (λ p among. ap (λ (fs : List Feature). map (within p.step) fs) (held-same p.ty (λ t has. same t (part_refers k p t among has)))))

-- ---- how it unfolds

option-same : (o : Option TypeDef) (f g : TypeDef → List Feature) → ((def : TypeDef) → o ≡ Some def → f def ≡ g def) → option_map_or f o [] ≡ option_map_or g o []
option-same None f g same = refl
option-same (Some def) f g same = same def refl

module _ (types : List TypeDef) (matched : ℕ → Option ℕ) where
  structure_within-more : (members t : ℕ) → HasShortPaths (type_references types) members t → structure_within types matched (suc members) t ≡ structure_within types matched members t
  unfolding structure_within
  structure_within-more zero t short = absurd (omega (arith, short [] t refl))
  structure_within-more (suc members) t short =
      option-same (slice_get types t) (λ (def : TypeDef). kind_features types matched (structure_within types matched (suc members)) def.kind) (λ (def : TypeDef). kind_features types matched (structure_within types matched members) def.kind)
      (λ def at. kind-same types matched (structure_within types matched (suc members)) (structure_within types matched members) def.kind
      (λ k among.
      structure_within-more members k
      (λ path j leads. omega (arith, short (k ∷ path) j (subst (λ (ids : List ℕ). Contains ids k) (sym (references_at types t def at)) among, leads)))))

  -- where no type refers to itself, the structure of a type has those of the types without names in it
  pub structure_at : IsAcyclic (type_references types) → (t : ℕ) (def : TypeDef) → t < length types → slice_get types t ≡ Some def
      → structure types matched t ≡ kind_features types matched (structure types matched) def.kind
  unfolding structure_within structure
  structure_at acyclic t def below at =
      let short = IsAcyclic-short (type_references types) acyclic t (omega (arith, below, length-references types)) in
      let long = length-references types in
      sym (structure_within-more (length types) t (λ path j leads. omega (arith, short path j leads, long)))
      ∙ ap (λ (o : Option TypeDef). option_map_or (λ (d : TypeDef). kind_features types matched (structure_within types matched (length types)) d.kind) o []) at
