-- The package of the example has the shape, part by part.
use Rattle.std.proofs.Common.{◌≡◌, ℕ, ◌<◌, ◌∷◌, [], inr, Some, slice_get, refl, lit<, lit≤, arith}
use Rattle.std.specs.List.{IsDistinct}
use Rattle.std.specs.Prelude.{List, codes}
use Rattle.wit_digraph.specs.Relation.{IsAcyclic}
use Rattle.wit_digraph.specs.facts.EarlierFacts.{IsAcyclic-earlier}
use Rattle.wit_data.specs.facts.EachFacts.{EachAt-nil, EachAt-one, EachAt-three, EachAt-two}
use Rattle.wit_data.specs.Ownership.{IsOwn}
use Rattle.wit_data.specs.Shape.{HasForeign, HasNames, HasUnknown, HasUnresolvedOwners, HasUnresolvedReferences, HasUnresolvedWorlds, IsShaped, IsUnplaced, KeepsToOwn, KeysDiffer}
use Rattle.wit_names.specs.UsePath.{is_kebab_name}
use Rattle.wit_data.specs.Uses.{uses_of}
use Rattle.wit_data.specs.declared.stability.Stability.TheVariants.{Unknown}
use Rattle.wit_data.specs.declared.types.TypeOwner.TheVariants as owner
use Rattle.wit_data.specs.declared.types.Type_.TheVariants as type
use Rattle.wit_data.specs.declared.unresolved.AstItem.TheVariants as ast
use Rattle.wit_shape.proofs.Telling.{tells_named}
use Rattle.wit_values.specs.facts.Lists.{HasDistinctKeys-nil, HasDistinctKeys-one, HasDistinctKeys-two, differ}
use Rattle.examples_resolve.specs.graph.Shape.{entry_of, function_of, named, shaped_package}

keys : KeysDiffer shaped_package
keys = record {
  types = EachAt-two _ _ _ (HasDistinctKeys-one (codes "t", 0)) (HasDistinctKeys-two (codes "t", 1) (codes "r", 2) (differ (codes "t") (codes "r") refl));
  functions = EachAt-two _ _ _ HasDistinctKeys-nil (HasDistinctKeys-one (codes "g", function_of (codes "g") (type.Id 2)));
  imports = EachAt-one _ _ (HasDistinctKeys-two (entry_of 0) (entry_of 1) (λ same. cc));
  exports = EachAt-one _ _ HasDistinctKeys-nil;
  packages = HasDistinctKeys-one (named (codes "a") (codes "b"), (codes "i", (ast.Interface 0, Unknown ∷ [])) ∷ []);
  items = EachAt-one _ _ (HasDistinctKeys-one (codes "i", (ast.Interface 0, Unknown ∷ [])));
}

unplaced : IsUnplaced shaped_package
unplaced = record { interfaces = EachAt-two _ _ _ refl refl; worlds = EachAt-one _ _ refl }

foreign : HasForeign shaped_package
unfolding IsDistinct
foreign = record {
  spans = refl;
  interfaces = record { once = (tt, tt); first = EachAt-one _ _ (lit< tt); there = lit≤ tt };
  worlds = record { once = tt; first = EachAt-nil _; there = lit≤ tt };
  bare = EachAt-one _ _ (EachAt-one _ _ ((refl, refl), λ none. cc));
}

unknown : HasUnknown shaped_package
unknown = record {
  first = (lit≤ tt, EachAt-three _ _ _ _ (λ _. lit< tt, λ _. refl) (λ same. cc, λ below. absurd (omega (arith, below))) (λ same. cc, λ below. absurd (omega (arith, below))));
  foreign = EachAt-three _ _ _ _ (λ _. (refl, lit< tt)) (λ below. absurd (omega (arith, below))) (λ below. absurd (omega (arith, below)));
  alone = EachAt-two _ _ _ (λ _. EachAt-one _ _ (lit< tt)) (λ below. absurd (omega (arith, below)));
  required = EachAt-nil _;
}

names : HasNames shaped_package
unfolding IsDistinct is_kebab_name
names = record {
  namespace = refl;
  own = refl;
  interfaces = EachAt-two _ _ _ refl refl;
  worlds = EachAt-one _ _ refl;
  version = tt;
  interfaces_differ = (tt, tt);
  worlds_differ = (tt, tt);
}

owners : HasUnresolvedOwners shaped_package
owners = record {
  listed = EachAt-three _ _ _ _ (0, lit< tt, refl) (0, lit< tt, refl) (1, lit< tt, refl);
  own_types = EachAt-two _ _ _ (EachAt-one _ _ (refl, refl)) (EachAt-two _ _ _ (refl, refl) (refl, refl));
  functions = EachAt-two _ _ _ (EachAt-nil _) (EachAt-one _ _ refl);
}

references : HasUnresolvedReferences shaped_package
references = record {
  earlier = EachAt-three _ _ _ _ (EachAt-nil _) (EachAt-one _ _ (lit< tt)) (EachAt-one _ _ (lit< tt));
  aliases = EachAt-three _ _ _ _ tt (refl, inr refl) tt;
  unnamed = EachAt-three _ _ _ _ (λ none. cc) (λ none. cc) (λ none. cc);
}

-- the types of x are its own
t_is_own : IsOwn shaped_package.types (owner.Interface 1) 1
t_is_own = record { there = lit< tt; only = λ other shows. (tells_named shaped_package.types 1 _ refl refl).1 other shows }

r_is_own : IsOwn shaped_package.types (owner.Interface 1) 2
r_is_own = record { there = lit< tt; only = λ other shows. (tells_named shaped_package.types 2 _ refl refl).1 other shows }

own : KeepsToOwn shaped_package
own = record {
  types = EachAt-three _ _ _ _ (λ _. EachAt-nil _) (λ _. EachAt-nil _) (λ _. EachAt-one _ _ t_is_own);
  functions = EachAt-two _ _ _ (EachAt-nil _) (EachAt-one _ _ (EachAt-one _ _ r_is_own));
  imports = EachAt-one _ _ (EachAt-two _ _ _ tt tt);
  exports = EachAt-one _ _ (EachAt-nil _);
}

worlds : HasUnresolvedWorlds shaped_package
unfolding IsDistinct
worlds = record {
  imports = EachAt-one _ _ (EachAt-two _ _ _ (refl, refl) (refl, refl));
  exports = EachAt-one _ _ (EachAt-nil _);
  once = tt;
  includes = EachAt-one _ _ (EachAt-nil _);
}

uses : IsAcyclic (uses_of shaped_package.types shaped_package.interfaces)
uses = IsAcyclic-earlier _ earlier
  where
    earlier : (i : ℕ) (row : List ℕ) → slice_get (uses_of shaped_package.types shaped_package.interfaces) i ≡ Some row → (k j : ℕ) → slice_get row k ≡ Some j → j < i
    earlier = EachAt-two (λ i (row : List ℕ). (k j : ℕ) → slice_get row k ≡ Some j → j < i) _ _ (λ k j at. cc) (EachAt-one (λ _ j. j < 1) _ (lit< tt))

pub is_shaped : IsShaped shaped_package
is_shaped = record {
  keys = keys;
  unplaced = unplaced;
  foreign = foreign;
  unknown = unknown;
  names = names;
  owners = owners;
  references = references;
  own = own;
  worlds = worlds;
  uses = uses;
}
