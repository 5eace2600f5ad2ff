-- The packages of a reading are those that lines build, and their groups lack nothing of their shape but what lines may break.
use Rattle.std.proofs.Common.{◌≡◌, ◌↔◌, ℕ, zero, suc, Bool, true, false, cond, List, [], ◌∷◌, ◌++◌, length, Option, Some, None, is_some, IfSome, IsTrue, slice_get, refl, subst, option_and_then, option_map, option_to_list}
use Rattle.wit_values.specs.facts.Lists.{slice_get-behind}
use Rattle.wit_data.specs.Each.{Each}
use Rattle.wit_data.specs.Shape.{IsGroupShaped}
use Rattle.wit_names.specs.PackageName.{HasValidVersion}
use Rattle.wit_names.specs.declared.package_name.PackageName.{PackageName}
use Rattle.wit_data.specs.declared.stability.Stability.{Stability}
use Rattle.wit_data.specs.declared.unresolved.UnresolvedPackageGroup.{UnresolvedPackageGroup}
use Rattle.wit_script_lines.specs.PackageLine.{each_of}
use Rattle.wit_script_lines.specs.Statement.{statement_of}
use Rattle.wit_script_lines.specs.declared.package_line.PackageLine.{PackageLine}
use Rattle.wit_script_lines.specs.declared.request.Request.{Request}
use Rattle.wit_script_lines.specs.declared.statement.Statement.{Statement}
use Rattle.wit_script_lines.specs.declared.statement.Statement.TheVariants as says
use Rattle.wit_script_package.specs.steps.Built.{IsBuilt}
use Rattle.wit_script_package.specs.steps.Built.IsBuilt.{first_line, next_line}
use Rattle.wit_script_package.specs.Draft.{as_group, new_draft}
use Rattle.wit_script_package.specs.Lines.{with_line}
use Rattle.wit_script_package.specs.steps.Pushable.{IsPushable}
use Rattle.wit_script_package.specs.declared.draft.Draft.{Draft}
use Rattle.wit_script.specs.Script.{mentions_ahead, after_first, after_line, after_statement_in, new_reading, reading_before, with_groups, with_package, with_package_line, with_push, with_request}
use Rattle.wit_script.specs.steps.Parts.{with_asked, with_begun, with_current, with_statement}
use Rattle.wit_script.specs.Ready.{other_after}
use Rattle.wit_script.specs.declared.reader.Reading.{Reading}
use Rattle.wit_script.specs.steps.BuiltReading.{AreBuilt, AreShapedIfPushable}
use Rattle.wit_script_lines.specs.facts.NameFacts.{line-valid}
use Rattle.wit_script_lines.specs.facts.OptionFacts.{map-of, same-some, step-of}

-- ---- steps that were taken

Each-append : {X : Type 0} (P : X → Type 0) (xs ys : List X) → Each P xs → Each P ys → Each P (xs ++ ys)
Each-append P [] ys first second i x at = second i x at
Each-append P (x ∷ xs) ys first second zero z at = first 0 z at
Each-append P (x ∷ xs) ys first second (suc i) z at = Each-append P xs ys (λ j y there. first (suc j) y there) second i z at

Each-option : {X : Type 0} (P : X → Type 0) (o : Option X) → IfSome o P → Each P (option_to_list o)
Each-option P None holds i x at = cc
Each-option P (Some y) holds zero x at = let same : y ≡ x = cc in subst P same holds
Each-option P (Some y) holds (suc i) x at = cc

if_some_at : {X : Type 0} (P : X → Type 0) (o : Option X) (x : X) → o ≡ Some x → IfSome o P → P x
if_some_at P None x is holds = cc
if_some_at P (Some y) x is holds = let same : y ≡ x = cc in subst P same holds

-- ---- lines

module _ (r : Reading) (built : AreBuilt r) (q : Reading) where
  package_built : (name : PackageName) (line : List ℕ) (ahead : List (List ℕ)) → HasValidVersion name → with_package r name line ahead ≡ Some q → AreBuilt q
  package_built name line ahead valid is =
      let p = map-of (with_begun r) (new_draft name line (mentions_ahead _ ahead)) q is in
      subst AreBuilt p.2 (record {
        finished = Each-append IsBuilt r.finished (option_to_list r.current) built.finished (Each-option IsBuilt r.current built.current);
        current = first_line name line (mentions_ahead _ ahead) valid p.1;
      })

  line_built : (said : PackageLine) (gate : Stability) (line : List ℕ) → with_package_line r said gate line ≡ Some q → AreBuilt q
  line_built said gate line is =
      let p = step-of (λ (d : Draft). option_map (with_current r) (with_line d said gate line)) r.current q is in
      let next = map-of (with_current r) (with_line p.0 said gate line) q p.2 in
      subst AreBuilt next.2 (record { finished = built.finished; current = next_line p.0 said gate line (if_some_at IsBuilt r.current p.0 p.1 built.current) next.1 })

  groups_built : (groups : List UnresolvedPackageGroup) → with_groups r groups ≡ Some q → AreBuilt q
  groups_built [] is = cc
  groups_built (main ∷ deps) is = subst AreBuilt (same-some _ q is) (record { finished = λ i x at. cc; current = tt })

  push_built : with_push r ≡ Some q → AreBuilt q
  push_built is =
      let p = step-of (λ (d : Draft). option_and_then (with_groups r) (each_of as_group (r.finished ++ d ∷ []))) r.current q is in
      let groups = step-of (with_groups r) (each_of as_group (r.finished ++ p.0 ∷ [])) q p.2 in
      groups_built groups.0 groups.2

  request_built : (asked : Request) → with_request r asked ≡ Some q → AreBuilt q
  request_built asked is = by (is_some r.current) is where
    by : (b : Bool) → cond b None (option_map (with_asked r asked) (other_after asked r.other)) ≡ Some q → AreBuilt q
    by true is = cc
    by false is = let other = map-of (with_asked r asked) (other_after asked r.other) q is in subst AreBuilt other.2 (record { finished = built.finished; current = built.current })

  statement_built : (said : Statement) (line : List ℕ) (ahead : List (List ℕ)) → statement_of line ≡ Some (Some said) → with_statement r said line ahead ≡ Some q → AreBuilt q
  statement_built (says.Package name) line ahead of is = package_built name line ahead (line-valid name line of) is
  statement_built (says.Line said gate) line ahead of is = line_built said gate line is
  statement_built says.Push line ahead of is = push_built is
  statement_built (says.Request asked) line ahead of is = request_built asked is

  said_built : (o : Option (Option Statement)) (line : List ℕ) (ahead : List (List ℕ)) → statement_of line ≡ o → after_statement_in r line ahead o ≡ Some q → AreBuilt q
  said_built None line ahead of is = cc
  said_built (Some None) line ahead of is = let same : r ≡ q = cc in subst AreBuilt same built
  said_built (Some (Some said)) line ahead of is = statement_built said line ahead of is

first_built : (r : Reading) (k : ℕ) (lines : List (List ℕ)) (q : Reading) → AreBuilt r → after_first r k lines ≡ Some q → AreBuilt q
first_built r zero lines q built is = let same : r ≡ q = cc in subst AreBuilt same built
first_built r (suc k) [] q built is = let same : r ≡ q = cc in subst AreBuilt same built
first_built r (suc k) (line ∷ lines) q built is =
    let next = step-of (λ (s : Reading). after_first s k lines) (after_line r line lines) q is in
    first_built next.0 k lines q (said_built r built next.0 (statement_of line) line lines refl next.1) next.2

-- what lines before one make
pub before-built : (k : ℕ) (lines : List (List ℕ)) (r : Reading) → reading_before k lines ≡ Some r → AreBuilt r
before-built k lines r is = first_built new_reading k lines r (record { finished = λ i x at. cc; current = tt }) is

-- ---- groups

-- the packages of a reading at its `push`
pub pushed-built : (r : Reading) (last : Draft) → AreBuilt r → r.current ≡ Some last → Each IsBuilt (r.finished ++ last ∷ [])
pushed-built r last built current =
    Each-append IsBuilt r.finished (last ∷ []) built.finished (Each-option IsBuilt (Some last) (if_some_at IsBuilt r.current last current built.current))

-- one of them
pub built-here : (before after packages : List Draft) (p : Draft) → before ++ p ∷ after ≡ packages → Each IsBuilt packages → IsBuilt p
built-here before after packages p are built = built (length before) p (subst (λ (l : List Draft). slice_get l (length before) ≡ Some p) are (slice_get-behind before after p))

-- one group more
pub shaped-next : (groups : List UnresolvedPackageGroup) (g : UnresolvedPackageGroup) → AreShapedIfPushable groups → (IsPushable g.main → IsGroupShaped g) → AreShapedIfPushable (groups ++ g ∷ [])
shaped-next groups g fits here = Each-append (λ (h : UnresolvedPackageGroup). IsPushable h.main → IsGroupShaped h) groups (g ∷ []) fits (one g here)
  where
    one : (h : UnresolvedPackageGroup) → (IsPushable h.main → IsGroupShaped h) → AreShapedIfPushable (h ∷ [])
    one h fit zero x at = let same : h ≡ x = cc in subst (λ (y : UnresolvedPackageGroup). IsPushable y.main → IsGroupShaped y) same fit
    one h fit (suc i) x at = cc

pushable-of : (g : UnresolvedPackageGroup) → IsGroupShaped g → IsPushable g.main
pushable-of g shaped = record {
  namespace = shaped.main.names.namespace;
  own = shaped.main.names.own;
  interfaces = shaped.main.names.interfaces;
  worlds = shaped.main.names.worlds;
  includes = shaped.main.worlds.includes;
}

-- what is asked of each tells whether each has its shape
pub shaped-told : (groups : List UnresolvedPackageGroup) (b : Bool) → AreShapedIfPushable groups → IsTrue b ↔ Each (λ (g : UnresolvedPackageGroup). IsPushable g.main) groups → IsTrue b ↔ Each IsGroupShaped groups
shaped-told groups b fits told = (λ holds. λ i g at. fits i g at (told.0 holds i g at), λ each. told.1 (λ i g at. pushable-of g (each i g at)))
