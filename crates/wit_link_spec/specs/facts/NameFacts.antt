-- The names of packages when a package is added that wasn't there: a new name for the new package.
use Rattle.std.proofs.Common.{◌≡◌, ◌∙◌, ◌⊎◌, inl, inr, ℕ, zero, suc, Bool, true, false, List, [], ◌∷◌, ◌++◌, length, Some, cond, is_some, slice_get, refl, sym, ap, subst, arith, Contains}
use Rattle.std.specs.Map.{lookup}
use Rattle.std.proofs.lemmas.Bool.{false≢true}
use Rattle.std.proofs.lemmas.List.Elements.{Contains-append_left, Contains-push}
use Rattle.wit_values.specs.facts.Lists.{slice_get-push}
use Rattle.wit_values.specs.Table.{HasDistinctKeys}
use Rattle.wit_digraph.specs.facts.MemberFacts.{Contains-cons_cases, Contains-nil}
use Rattle.wit_data.specs.Each.{SomeAt}
use Rattle.wit_names.specs.facts.PackageNameFacts.{own_name}
use Rattle.wit_names.specs.PackageName.{same_package}
use Rattle.wit_names.specs.declared.package_name.PackageName.{PackageName}
use Rattle.wit_elaboration.specs.Valid.{HasPackageNames, IsValid}
use Rattle.wit_graph_data.specs.declared.graph.Graph.{Graph}
use Rattle.wit_graph_data.specs.declared.graph.Package.{Package}
use Rattle.wit_graph_theory.specs.facts.ListFacts.{SomeAt-old, contained_at, old_or_new, some_at}
use Rattle.wit_link_spec.specs.Addition.{Addition}
use Rattle.wit_link_spec.specs.Added.{new_package}
use Rattle.wit_link_spec.specs.Reasons.{HasPackage}
use Rattle.wit_link_spec.specs.facts.Grown.{IsGrown}
use Rattle.wit_link_spec.specs.facts.TableFacts.{each_pushed}

-- a name that is listed is found
found_listed : {V : Type 0} (es : List (PackageName × V)) (name : PackageName) (v : V) → Contains es (name, v) → is_some (lookup (same_package name) es) ≡ true
found_listed [] name v has = absurd (Contains-nil has)
found_listed (e ∷ es) name v has = by (same_package name e.0) refl (Contains-cons_cases e (name, v) es has) (λ there. found_listed es name v there)
  where
    by : (b : Bool) → same_package name e.0 ≡ b → (e ≡ (name, v)) ⊎ Contains es (name, v) → (Contains es (name, v) → is_some (lookup (same_package name) es) ≡ true) → is_some (cond b (Some e.1) (lookup (same_package name) es)) ≡ true
    by true test where_ rest = refl
    by false test (inl same) rest = let here : e.0 ≡ name = ap (λ (p : PackageName × _). p.0) same in let own : same_package name e.0 ≡ true = ap (same_package name) here ∙ own_name name in absurd (false≢true (sym test ∙ own))
    by false test (inr there) rest = rest there

-- one more key, which isn't there
distinct_pushed : {K V : Type 0} (es : List (K × V)) (e : K × V) → HasDistinctKeys es → ((f : K × V) → Contains es f → f.0 ≡ e.0 → ⊥) → HasDistinctKeys (es ++ e ∷ [])
distinct_pushed {K} {V} es e distinct fresh i j c d first second same =
    elim (old_or_new es (e ∷ []) i c first) [
      | inl old ↦ elim (old_or_new es (e ∷ []) j d second) [
        | inl too ↦ distinct i j c d old too same
        | inr last ↦ let is = only last.0 d last.2 in absurd (fresh c (contained_at es i c old) (same ∙ ap (λ (p : K × V). p.0) is.1))
      ]
      | inr last ↦ elim (old_or_new es (e ∷ []) j d second) [
        | inl old ↦ let is = only last.0 c last.2 in absurd (fresh d (contained_at es j d old) (sym same ∙ ap (λ (p : K × V). p.0) is.1))
        | inr too ↦ let one = (only last.0 c last.2).0 in let two = (only too.0 d too.2).0 in let here = last.1 in let there = too.1 in omega arith
      ]
    ]
  where
    only : (k : ℕ) (f : K × V) → slice_get (e ∷ []) k ≡ Some f → (k ≡ 0) × (f ≡ e)
    only zero f at = let same : e ≡ f = cc in (refl, sym same)
    only (suc k) f at = cc

-- the names of the graph's packages, and the new one
pub added_names : (a : Addition) → IsValid a.graph → (HasPackage a.graph a.unresolved.name → ⊥) → (count : ℕ) (new : Graph) → IsGrown a count new → HasPackageNames new.packages new.package_names
added_names a valid absent count new are =
    subst (λ (packages : List Package). HasPackageNames packages new.package_names) (sym are.packages_are)
    (subst (λ (names : List (PackageName × ℕ)). HasPackageNames (a.graph.packages ++ new_package a ∷ []) names) (sym are.names_are) (record {
      own_name = each_pushed (λ i (e : PackageName × ℕ). SomeAt packages e.1 (λ (home : Package). home.name ≡ e.0)) a.graph.package_names (a.unresolved.name, length a.graph.packages)
          (λ i e on. SomeAt-old (λ (home : Package). home.name ≡ e.0) (λ (home : Package). home.name ≡ e.0) a.graph.packages (new_package a ∷ []) e.1 (λ home is. is) (valid.well_formed.package_names.own_name i e on))
          (some_at (λ (home : Package). home.name ≡ a.unresolved.name) packages (length a.graph.packages) (new_package a) (slice_get-push a.graph.packages (new_package a)) refl);
      listed = each_pushed (λ p (home : Package). Contains names (home.name, p)) a.graph.packages (new_package a)
          (λ p home on. Contains-append_left a.graph.package_names ((a.unresolved.name, length a.graph.packages) ∷ []) (home.name, p) (valid.well_formed.package_names.listed p home on))
          (Contains-push a.graph.package_names (a.unresolved.name, length a.graph.packages));
      distinct = distinct_pushed a.graph.package_names (a.unresolved.name, length a.graph.packages) valid.well_formed.package_names.distinct
          (λ f has same. absent (found_listed a.graph.package_names a.unresolved.name f.1 (subst (λ (name : PackageName). Contains a.graph.package_names (name, f.1)) same has)));
    }))
  where
    packages : List Package
    packages = a.graph.packages ++ new_package a ∷ []

    names : List (PackageName × ℕ)
    names = a.graph.package_names ++ (a.unresolved.name, length a.graph.packages) ∷ []
