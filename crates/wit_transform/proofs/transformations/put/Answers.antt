use Rattle.std.proofs.Common.{◌≡◌, ◌∙◌, ◌<◌, ℕ, List, Some, Contains, IsSome, length, slice_get, slice_set, sym, ap, subst}
use Rattle.std.proofs.lemmas.Option.{slice_get_within}
use Rattle.wit_data.specs.Each.{Each}
use Rattle.wit_data.specs.declared.world.World.{World}
use Rattle.wit_graph_data.specs.declared.graph.Package.{Package}
use Rattle.wit_transform.proofs.TableSteps.{free_at_home, has_package, holds_at, home_is_there, listed_under_name, named_once, on_err, set_same}
use Rattle.wit_transform.proofs.transformations.put.Goals as goal
use Rattle.wit_transform.specs.steps.Parts.{NameIsTakenIn}

pub home_of-requires : goal.home_of-requires
home_of-requires c =
    let there : slice_get c.args.graph.now.worlds c.args.world ≡ Some c.at-current.result.now = subst (λ (i : ℕ). slice_get c.args.graph.now.worlds i ≡ Some c.at-current.result.now) c.index.ensures c.at-current.ensures in
    let same : c.at-current.result.now.package ≡ c.args.new.package = holds_at (λ (current : World). current.package ≡ c.args.new.package) c.args.graph.now.worlds c.args.world c.at-current.result.now c.requires.home there in
    subst IsSome same (has_package c.args.graph.now c.requires.tables c.args.world c.at-current.result.now there)

pub at_mut-home-requires : goal.at_mut-home-requires
at_mut-home-requires c =
    let there : slice_get c.args.graph.now.worlds c.args.world ≡ Some c.at-current.result.now = subst (λ (i : ℕ). slice_get c.args.graph.now.worlds i ≡ Some c.at-current.result.now) c.index.ensures c.at-current.ensures in
    let same : c.at-current.result.now.package ≡ c.args.new.package = holds_at (λ (current : World). current.package ≡ c.args.new.package) c.args.graph.now.worlds c.args.world c.at-current.result.now c.requires.home there in
    subst (λ (i : ℕ). i < length c.args.graph.now.packages) (sym c.index-2.ensures) (home_is_there c.args.graph.now c.requires.tables c.args.world c.at-current.result.now there c.home_of.result (same ∙ c.home_of.ensures))

pub rename_last-requires-clause-listed : goal.rename_last-requires-clause-listed
rename_last-requires-clause-listed c =
    let there : slice_get c.args.graph.now.worlds c.args.world ≡ Some c.at-current.result.now = subst (λ (i : ℕ). slice_get c.args.graph.now.worlds i ≡ Some c.at-current.result.now) c.index.ensures c.at-current.ensures in
    let same : c.at-current.result.now.package ≡ c.args.new.package = holds_at (λ (current : World). current.package ≡ c.args.new.package) c.args.graph.now.worlds c.args.world c.at-current.result.now c.requires.home there in
    let at : slice_get c.args.graph.now.packages c.home_of.result ≡ Some c.at_mut-home.result.now = subst (λ (i : ℕ). slice_get c.args.graph.now.packages i ≡ Some c.at_mut-home.result.now) c.index-2.ensures c.at_mut-home.ensures.value in
    subst (λ (name : List ℕ). Contains c.at_mut-home.result.now.worlds (name, c.args.world)) (sym c.as_str.ensures) (listed_under_name c.args.graph.now c.requires.tables c.args.world c.at-current.result.now there c.home_of.result (same ∙ c.home_of.ensures) c.at_mut-home.result.now at)

pub rename_last-requires-clause-once : goal.rename_last-requires-clause-once
rename_last-requires-clause-once c =
    let there : slice_get c.args.graph.now.worlds c.args.world ≡ Some c.at-current.result.now = subst (λ (i : ℕ). slice_get c.args.graph.now.worlds i ≡ Some c.at-current.result.now) c.index.ensures c.at-current.ensures in
    let same : c.at-current.result.now.package ≡ c.args.new.package = holds_at (λ (current : World). current.package ≡ c.args.new.package) c.args.graph.now.worlds c.args.world c.at-current.result.now c.requires.home there in
    let at : slice_get c.args.graph.now.packages c.home_of.result ≡ Some c.at_mut-home.result.now = subst (λ (i : ℕ). slice_get c.args.graph.now.packages i ≡ Some c.at_mut-home.result.now) c.index-2.ensures c.at_mut-home.ensures.value in
    subst (λ (name : List ℕ). Each (λ (e : List ℕ × ℕ). e.1 ≡ c.args.world → e.0 ≡ name) c.at_mut-home.result.now.worlds) (sym c.as_str.ensures) (named_once c.args.graph.now c.requires.tables c.args.world c.at-current.result.now there c.home_of.result (same ∙ c.home_of.ensures) c.at_mut-home.result.now at)

pub rename_last-requires-clause-free : goal.rename_last-requires-clause-free
rename_last-requires-clause-free c =
    let there : slice_get c.args.graph.now.worlds c.args.world ≡ Some c.at-current.result.now = subst (λ (i : ℕ). slice_get c.args.graph.now.worlds i ≡ Some c.at-current.result.now) c.index.ensures c.at-current.ensures in
    let same : c.at-current.result.now.package ≡ c.args.new.package = holds_at (λ (current : World). current.package ≡ c.args.new.package) c.args.graph.now.worlds c.args.world c.at-current.result.now c.requires.home there in
    let at : slice_get c.args.graph.now.packages c.home_of.result ≡ Some c.at_mut-home.result.now = subst (λ (i : ℕ). slice_get c.args.graph.now.packages i ≡ Some c.at_mut-home.result.now) c.index-2.ensures c.at_mut-home.ensures.value in
    subst (λ (name : List ℕ). NameIsTakenIn c.at_mut-home.result.now c.args.world name → ⊥) (sym c.as_str-2.ensures) (free_at_home c.args.graph.now c.requires.tables c.args.world c.at-current.result.now there c.home_of.result (same ∙ c.home_of.ensures) c.at_mut-home.result.now at c.args.new.name c.requires.free)

pub returns-in_err-rename_last-clause-unchanged : goal.returns-in_err-rename_last-clause-unchanged
returns-in_err-rename_last-clause-unchanged c =
    on_err c.from_residual.result (ap (λ (packages : List Package). record c.args.graph.now { packages = packages })
    (ap (slice_set c.args.graph.now.packages c.index-2.result) c.in_err-rename_last.ensures.unchanged ∙ set_same c.args.graph.now.packages c.index-2.result c.at_mut-home.result.now c.at_mut-home.ensures.value))

pub set-requires : goal.set-requires
set-requires c =
    let there : slice_get c.args.graph.now.worlds c.args.world ≡ Some c.at-current.result.now = subst (λ (i : ℕ). slice_get c.args.graph.now.worlds i ≡ Some c.at-current.result.now) c.index.ensures c.at-current.ensures in
    subst (λ (i : ℕ). i < length c.args.graph.now.worlds) (sym c.index-3.ensures) (slice_get_within c.args.graph.now.worlds c.args.world c.at-current.result.now there)
