use Rattle.std.proofs.Common.{rules, ◌≡◌, ◌∙◌, ◌&&◌, ℕ, true, false, is_none, drop}
use Rattle.wit_names.specs.declared.package_name.PackageName.{PackageName}
use Rattle.wit_queries.specs.Selection.{is_version_of}
use Rattle.wit_queries.proofs.Selected.{filter-met, filter-none, filter-passed}
use Rattle.wit_queries.proofs.selection.version_from.Goals as goal

pub returns-then-is_some-clause-first : goal.returns-then-is_some-clause-first
returns-then-is_some-clause-first c =
    filter-none (λ (e : PackageName × ℕ). is_none c.args.name.now.version && is_version_of c.args.name.now e.0) (λ e. search rules) (drop c.args.from c.args.names.now)

pub returns-then-is_version_of-clause-first : goal.returns-then-is_version_of-clause-first
returns-then-is_version_of-clause-first c =
    let both : (is_none c.args.name.now.version && is_version_of c.args.name.now c.entry_at.result.0.now) ≡ true = search rules in
    rw c.entry_at.ensures (c.loop-index.invariant ∙ filter-met (λ (e : PackageName × ℕ). is_none c.args.name.now.version && is_version_of c.args.name.now e.0) c.args.names.now c.loop-index.index _ c.entry_at.ensures both)

pub loop-index-preserved : goal.loop-index-preserved
loop-index-preserved c =
    let fails : (is_none c.args.name.now.version && is_version_of c.args.name.now c.entry_at.result.0.now) ≡ false = search rules in
    c.loop-index.invariant ∙ filter-passed (λ (e : PackageName × ℕ). is_none c.args.name.now.version && is_version_of c.args.name.now e.0) c.args.names.now c.loop-index.index _ c.entry_at.ensures fails
