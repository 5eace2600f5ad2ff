-- Facts on rows of types of which each is among what its type refers to, as what its values hold, for the proofs of the
-- crates above.
use Rattle.std.proofs.Common.{◌≡◌, ◌∙◌, ℕ, zero, suc, true, List, [], ◌∷◌, map, length, Some, option_map, slice_get, refl, sym, ap, Contains}
use Rattle.std.proofs.lemmas.List.{length-map}
use Rattle.std.proofs.lemmas.Option.{get_or_from_slice_get, slice_get-map}
use Rattle.wit_digraph.specs.facts.AmongFacts.{IsAcyclic-among}
use Rattle.wit_digraph.specs.Relation.{IsAcyclic, direct}
use Rattle.wit_data.specs.Kind.{referred, type_references}
use Rattle.wit_data.specs.facts.ReferenceFacts.{in_referred}
use Rattle.wit_data.specs.declared.kind.PartRole.{PartRole}
use Rattle.wit_data.specs.declared.types.TypeDef.{TypeDef}
use Rattle.wit_data.specs.declared.types.TypeDefKind.{TypeDefKind}
use Rattle.wit_data.specs.declared.kind.PartRole.TheVariants.{Argument}
use Rattle.wit_graph_data.specs.Queries.{is_held, type_contents}
use Rattle.wit_graph_data.specs.steps.Parts.{content_types}

module _ (row : TypeDefKind → List ℕ) (among : (k : TypeDefKind) (t : ℕ) → Contains (row k) t → Contains (referred k) t) where
  row_among : (types : List TypeDef) (i j : ℕ) → Contains (direct (map (λ (def : TypeDef). row def.kind) types) i) j → Contains (direct (type_references types) i) j
  row_among [] i j has = has
  row_among (def ∷ types) zero j has = among def.kind j has
  row_among (def ∷ types) (suc i) j has = row_among types i j has

  long_as : (types : List TypeDef) → length (map (λ (def : TypeDef). row def.kind) types) ≡ length (type_references types)
  long_as types = length-map types (λ (def : TypeDef). row def.kind) ∙ sym (length-map types (λ (def : TypeDef). referred def.kind))

  -- where types don't refer to themselves, such rows are acyclic
  pub rows_acyclic : (types : List TypeDef) → IsAcyclic (type_references types) → IsAcyclic (map (λ (def : TypeDef). row def.kind) types)
  rows_acyclic types acyclic = IsAcyclic-among (map (λ (def : TypeDef). row def.kind) types) (type_references types) (long_as types) (row_among types) acyclic

-- parts in any role but a handle's are held
pub held_role : (role : PartRole) → (role ≡ Argument → ⊥) → is_held role ≡ true
held_role Argument other = absurd (other refl)
held_role role other = refl

-- what the values of a kind hold it refers to
pub held_among : (k : TypeDefKind) (t : ℕ) → Contains (content_types k) t → Contains (referred k) t
held_among k t has = in_referred is_held k t has

pub contents_acyclic : (types : List TypeDef) → IsAcyclic (type_references types) → IsAcyclic (type_contents types)
contents_acyclic types acyclic = rows_acyclic content_types held_among types acyclic

-- there are as many rows as types, and each is what its type's values hold
pub held_long : (types : List TypeDef) → length (type_contents types) ≡ length types
held_long types = length-map types (λ (def : TypeDef). content_types def.kind)

pub content_row : (types : List TypeDef) (t : ℕ) (def : TypeDef) → slice_get types t ≡ Some def → direct (type_contents types) t ≡ content_types def.kind
content_row types t def at =
    get_or_from_slice_get (type_contents types) t (content_types def.kind) [] (slice_get-map (λ (d : TypeDef). content_types d.kind) types t ∙ ap (option_map (λ (d : TypeDef). content_types d.kind)) at)
