use Rattle.std.proofs.Common.{◌≡◌, ◌∙◌, ◌++◌, Bool, false, [], ℕ, List, map, slice_get, Some, sym, ap, if◌then◌else◌}
use Rattle.std.specs.Option.{option_copied}
use Rattle.std.proofs.lemmas.List.{append-nil}
use Rattle.wit_data.specs.Kind.{referred}
use Rattle.wit_link_include.specs.declared.leading.Step.{Step}
use Rattle.wit_link_include.specs.declared.leading.Step.TheVariants as step
use Rattle.wit_link_include.specs.steps.Included.{is_open_in, open_rows}
use Rattle.wit_digraph.specs.Relation.{direct}
use Rattle.wit_link_include.proofs.OpenRows.{open_row_at, open_row_past}
use Rattle.wit_link_include.proofs.leading.push_references.Goals as goal

-- nothing is added for a row that has nothing
nothing_added : (stack : List Step) (row : List ℕ) → row ≡ [] → stack ≡ stack ++ map step.Enter row
nothing_added stack row none = sym (ap (λ (us : List ℕ). stack ++ map step.Enter us) none ∙ append-nil stack)

pub returns-else-is_open : goal.returns-else-is_open
returns-else-is_open c =
    let o = c.args.origin.now in
    let at : slice_get o.graph.now.types c.args.id ≡ Some c.in-Some.def.now = ap (slice_get o.graph.now.types) (sym c.index.ensures) ∙ (sym c.get.ensures ∙ ap option_copied c.in-Some.is) in
    let closed : is_open_in o c.in-Some.def.now ≡ false = sym c.is_open.ensures ∙ c.if-is_open.false in
    nothing_added c.args.stack.now (direct (open_rows o) c.args.id)
    (open_row_at o c.args.id c.in-Some.def.now at ∙ ap (λ (b : Bool). if b then referred c.in-Some.def.now.kind else []) closed)

pub returns-in-None : goal.returns-in-None
returns-in-None c = nothing_added c.args.stack.now (direct (open_rows c.args.origin.now) c.args.id)
    (open_row_past c.args.origin.now c.args.id (ap (slice_get c.args.origin.now.graph.now.types) (sym c.index.ensures) ∙ (sym c.get.ensures ∙ ap option_copied c.in-None.is)))
