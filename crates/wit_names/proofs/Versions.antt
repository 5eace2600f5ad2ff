-- A version is one of SemVer 2.0.0 exactly if its text reads as it.
use Rattle.std.proofs.Common.{◌≡◌, ◌∙◌, ◌↔◌, List, ℕ, Bool, true, false, Result, Ok, Err, IsErr, IsTrue, refl, sym, subst}
use Rattle.semver.specs.Grammar.{IsValid}
use Rattle.semver.specs.Identifiers.{parts_text}
use Rattle.semver.specs.Parse.{version_parts}
use Rattle.semver.proofs.Grammar.{version_parts-complete, version_parts-sound}
use Rattle.wit_values.specs.Version.{Parts, version_eq}
use Rattle.wit_values.specs.facts.VersionFacts.{version_eq_equiv}
use Rattle.wit_names.specs.facts.PackageNameFacts.{same_parts}

-- its text reads as a version, which it is or isn't
pub read_again : (text : List ℕ) (p read : Parts) (same : Bool) → text ≡ parts_text p → version_parts text ≡ Ok read → same ≡ version_eq read p → IsTrue same ↔ IsValid p
read_again text p read same is reads told = (
  λ yes. subst IsValid (same_parts read p (sym told ∙ yes)) (version_parts-sound text read reads).1,
  λ valid.
      let whole : version_parts text ≡ Ok p = subst (λ (t : List ℕ). version_parts t ≡ Ok p) (sym is) (version_parts-complete p valid) in
      let one : read ≡ p = cc (sym reads ∙ whole) in
      told ∙ subst (λ (q : Parts). version_eq q p ≡ true) (sym one) (version_eq_equiv.refl p),
)

-- its text is no version's
pub read_never : (text : List ℕ) (p : Parts) → text ≡ parts_text p → IsErr (version_parts text) → IsTrue false ↔ IsValid p
read_never text p is fails = (
  λ yes. cc,
  λ valid.
      let whole : version_parts text ≡ Ok p = subst (λ (t : List ℕ). version_parts t ≡ Ok p) (sym is) (version_parts-complete p valid) in
      cc (subst IsErr whole fails),
)
