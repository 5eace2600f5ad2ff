-- What is carried: an image, and what stays.
use Rattle.std.proofs.Common.{◌≡◌, ◌∙◌, inl, ℕ, List, Option, None, Some, option_map, refl, sym, ap, subst}
use Rattle.wit_data.specs.Kind.{function_references, referred}
use Rattle.wit_data.specs.Uses.{alias_target}
use Rattle.wit_data.specs.declared.function.Function.{Function}
use Rattle.wit_data.specs.declared.types.TypeDef.{TypeDef}
use Rattle.wit_data.specs.declared.types.TypeOwner.{TypeOwner}
use Rattle.wit_data.specs.declared.types.TypeDefKind.TheVariants as kind
use Rattle.wit_data.specs.declared.types.TypeOwner.TheVariants as owner
use Rattle.wit_graph_data.specs.declared.graph.Graph.{Graph}
use Rattle.wit_remap_spec.specs.Image.{Maps, function_image, name_image, owner_image, type_image}
use Rattle.wit_graph_theory.specs.facts.Referred.{RefersUnder}
use Rattle.wit_graph_theory.specs.steps.Sources.{IsCarriedFunction, IsCarriedType, Source, Stands}
use Rattle.wit_graph_theory.specs.facts.ReferredFacts.{alias_image, function_refers, kind_refers, known_image, parts_refer, plain_image}
use Rattle.wit_data.specs.steps.Parts.{parts}
use Rattle.wit_remap_spec.specs.steps.Parts.{identity}

pub from_mapped : (f : ℕ → ℕ) (o : Option ℕ) (t' : ℕ) → option_map f o ≡ Some t' → (t : ℕ) × (o ≡ Some t) × (t' ≡ f t)
from_mapped f None t' is = cc
from_mapped f (Some t) t' is = (t, refl, cc)

-- the image of a type of known kind is carried
pub image_carried : (s : Source) (g : Graph) (def : TypeDef) → (def.kind ≡ kind.Unknown → ⊥) → IsCarriedType s g def (type_image s.maps def)
image_carried s g def known = record {
  name = refl;
  owner = refl;
  parts = parts_refer s.maps def.kind;
  alias = λ t' is. inl (from_mapped s.maps.types (alias_target def.kind) t' (sym (alias_image s.maps def.kind) ∙ is));
  plain = plain_image s.maps def.kind;
  known = known_image s.maps def.kind known;
}

-- and stands
pub image_stands : (m : Maps) (def : TypeDef) → Stands m def (type_image m def)
image_stands m def = record { name = refl; owner = refl; through = λ none. kind_refers m def.kind }

pub function_image_carried : (s : Source) (f : Function) → IsCarriedFunction s f (function_image s.maps f)
function_image_carried s f = function_refers s.maps f

-- what stays, stays as it is: under the identity a thing is carried as itself, without a word on kinds
same_owner : (o : TypeOwner) → o ≡ owner_image identity o
same_owner (owner.World w) = refl
same_owner (owner.Interface f) = refl
same_owner owner.None = refl

same_name : (o : TypeOwner) (name : Option (List ℕ)) → name ≡ option_map (name_image identity o) name
same_name (owner.World w) None = refl
same_name (owner.World w) (Some n) = refl
same_name (owner.Interface f) None = refl
same_name (owner.Interface f) (Some n) = refl
same_name owner.None None = refl
same_name owner.None (Some n) = refl

refers_to_itself : (ids : List ℕ) → RefersUnder identity ids ids
refers_to_itself ids t has = (t, has, inl refl)

pub itself_stands : (def : TypeDef) → Stands identity def def
itself_stands def = record { name = same_name def.owner def.name; owner = same_owner def.owner; through = λ none. refers_to_itself (referred def.kind) }

pub itself_carried : (s : Source) (g : Graph) (def : TypeDef) → s.maps ≡ identity → (def.kind ≡ kind.Unknown → ⊥) → IsCarriedType s g def def
itself_carried s g def stays known = record {
  name = subst (λ (m : Maps). def.name ≡ option_map (name_image m def.owner) def.name) (sym stays) (same_name def.owner def.name);
  owner = subst (λ (m : Maps). def.owner ≡ owner_image m def.owner) (sym stays) (same_owner def.owner);
  parts = subst (λ (m : Maps). RefersUnder m (parts def.kind) (parts def.kind)) (sym stays) (refers_to_itself (parts def.kind));
  alias = λ t is. inl (t, is, ap (λ (m : Maps). m.types t) (sym stays));
  plain = λ plain. plain;
  known = known;
}

pub function_itself_carried : (s : Source) (f : Function) → s.maps ≡ identity → IsCarriedFunction s f f
function_itself_carried s f stays = subst (λ (m : Maps). RefersUnder m (function_references f) (function_references f)) (sym stays) (refers_to_itself (function_references f))
