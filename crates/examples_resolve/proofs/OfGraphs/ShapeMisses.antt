-- The near misses lack what they are said to lack.
use Rattle.std.proofs.Common.{◌≡◌, ℕ, ◌<◌, ◌∷◌, [], refl, ap, lit<, inl, inr, arith}
use Rattle.std.proofs.lemmas.Bool.{false≢true}
use Rattle.std.specs.Prelude.{List, codes}
use Rattle.wit_digraph.specs.facts.MemberFacts.{Contains-cons_cases, Contains-nil}
use Rattle.wit_names.specs.UsePath.{is_kebab_name}
use Rattle.wit_data.specs.declared.types.TypeOwner.TheVariants as owner
use Rattle.wit_values.specs.facts.Lists.{differ}
use Rattle.examples_resolve.specs.graph.Shape.{NearMissesOfShape}

pub near_misses : NearMissesOfShape
unfolding is_kebab_name
near_misses = record {
  keys = λ has. let same : 0 ≡ 1 = has.types 1 _ refl 0 1 _ _ refl refl refl in cc;
  unplaced = λ has. let same = has.interfaces 0 _ refl in cc;
  foreign = λ has. (has.bare 0 _ refl 0 _ refl).1 refl;
  unknown = λ has. let below : 0 < 0 = (has.first.1 0 _ refl).0 refl in omega (arith, below);
  names = λ has. false≢true (has.worlds 0 _ refl);
  version = λ has. false≢true has.version.3;
  owners = λ has. elim (Contains-cons_cases (codes "t", 1) (codes "r", 2) [] (has.listed 2 _ refl)) [ inl same ↦ differ (codes "t") (codes "r") refl (ap (λ (e : List ℕ × ℕ). e.0) same) | inr none ↦ Contains-nil none ];
  references = λ has. let below : 2 < 1 = has.earlier 1 _ refl 0 2 refl in omega (arith, below);
  own = λ has. let same : owner.Interface 0 ≡ owner.Interface 1 = (has.types 2 _ refl refl 0 0 refl).only (owner.Interface 0) (0, ([], refl), (refl, refl)) in cc;
  worlds = λ has. let same : 1 ≡ 0 = (has.imports 0 _ refl 0 _ refl).0 in cc;
  uses = λ is. is.no_cycle 0 1 (0 ∷ []) ((0, lit< tt, refl), ((0, lit< tt, refl), refl));
}
