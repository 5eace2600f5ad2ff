-- What a `push` makes, and commands that aren't ready.
use Rattle.std.proofs.Common.{◌≡◌, suc, List, [], ◌∷◌, ◌++◌, Bool, true, false, Option, None, Some, IsTrue, ◌↔◌, refl}
use Rattle.std.specs.Option.{option_and_then, option_map}
use Rattle.std.specs.List.{AllByRecursion}
use Rattle.wit_values.specs.facts.Lists.{AllByRecursion-at}
use Rattle.wit_data.specs.Each.{Each}
use Rattle.wit_data.specs.Shape.{IsGroupShaped}
use Rattle.wit_data.specs.declared.unresolved.UnresolvedPackageGroup.{UnresolvedPackageGroup}
use Rattle.wit_script_package.specs.Draft.{as_group}
use Rattle.wit_script_package.specs.declared.draft.Draft.{Draft}
use Rattle.wit_script_lines.specs.PackageLine.{each_of}
use Rattle.wit_script.specs.Ready.{AreReady, IsReady}
use Rattle.wit_script.specs.Script.{IsBad, with_groups}
use Rattle.wit_script.specs.declared.reader.Reading.{Reading}
use Rattle.wit_script_lines.specs.declared.request.Request.{Request}
use Rattle.wit_commands.specs.declared.change.Change.TheVariants.{PushGroups}
use Rattle.wit_script_lines.specs.declared.request.Request.TheVariants as request

-- ---- readiness

-- the last of what is ready is ready
pub last-ready : (commands : List Request) (command : Request) → AreReady (commands ++ command ∷ []) → IsReady command
last-ready [] command ready = ready.0
last-ready (first ∷ commands) command ready = last-ready commands command ready.1

-- groups each of which has its shape
pub each-shaped : (groups : List UnresolvedPackageGroup) → Each IsGroupShaped groups → AllByRecursion IsGroupShaped groups
each-shaped [] all = tt
each-shaped (group ∷ groups) all = (all 0 group refl, each-shaped groups (λ i x at. all (suc i) x at))

shaped-each : (groups : List UnresolvedPackageGroup) → AllByRecursion IsGroupShaped groups → Each IsGroupShaped groups
shaped-each groups all = λ i group at. AllByRecursion-at IsGroupShaped groups i group all at

-- ---- packages as groups

nothing : {A B : Type 0} (o : Option A) → option_and_then (λ (y : A). let none : Option B = None in none) o ≡ None
nothing None = refl
nothing (Some y) = refl

-- one that isn't read
pub each-fails : (packages : List Draft) (p : Draft) (after : List Draft) → as_group p ≡ None → each_of as_group (packages ++ p ∷ after) ≡ None
each-fails [] p after fails = rw fails refl
each-fails (q ∷ packages) p after fails = rw (each-fails packages p after fails) (nothing (as_group q))

-- one more
one-more : (o : Option UnresolvedPackageGroup) (rest : Option (List UnresolvedPackageGroup)) (longer : Option (List UnresolvedPackageGroup)) (groups : List UnresolvedPackageGroup) (group : UnresolvedPackageGroup)
    → option_and_then (λ y. option_map (λ (ys : List UnresolvedPackageGroup). y ∷ ys) rest) o ≡ Some groups
    → ((others : List UnresolvedPackageGroup) → rest ≡ Some others → longer ≡ Some (others ++ group ∷ []))
    → option_and_then (λ y. option_map (λ (ys : List UnresolvedPackageGroup). y ∷ ys) longer) o ≡ Some (groups ++ group ∷ [])
one-more None rest longer groups group had next = cc
one-more (Some y) None longer groups group had next = cc
one-more (Some y) (Some others) longer groups group had next =
    let same : groups ≡ y ∷ others = cc in
    rw (next others refl, same) refl

pub each-next : (packages : List Draft) (p : Draft) (groups : List UnresolvedPackageGroup) (group : UnresolvedPackageGroup) → each_of as_group packages ≡ Some groups → as_group p ≡ Some group
    → each_of as_group (packages ++ p ∷ []) ≡ Some (groups ++ group ∷ [])
each-next [] p groups group had next = let none : groups ≡ [] = cc in rw (next, none) refl
each-next (q ∷ packages) p groups group had next =
    one-more (as_group q) (each_of as_group packages) (each_of as_group (packages ++ p ∷ [])) groups group had (λ others is. each-next packages p others group is next)

-- ---- a push

-- groups of which one has another shape
pub bad-groups : (r : Reading) (groups : List UnresolvedPackageGroup) → ¬ Each IsGroupShaped groups → IsBad (with_groups r groups)
bad-groups r [] fails = tt
bad-groups r (main ∷ deps) fails = λ ready. fails (shaped-each (main ∷ deps) (last-ready r.commands (request.Change (PushGroups main deps)) ready))

-- ---- tests

-- what a test denies
clash : (b : Bool) → b ≡ true → b ≡ false → ⊥
clash true holds fails = cc
clash false holds fails = cc

pub denied : {P : Type 0} (b : Bool) → IsTrue b ↔ P → b ≡ false → ¬ P
denied b told fails = λ p. clash b (told.1 p) fails
