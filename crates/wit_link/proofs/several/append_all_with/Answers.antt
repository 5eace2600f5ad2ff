use Rattle.std.proofs.Common.{ℕ, subst, sym, IfOk, List, OnErr, OnOk, Result, Ok, Err}
use Rattle.wit_elaboration.specs.Valid.{IsValid}
use Rattle.wit_graph_data.specs.declared.graph.Graph.{Graph}
use Rattle.wit_link.specs.Caches.{AreCachesOf}
use Rattle.wit_link.specs.facts.CachesFacts.{grown_as}
use Rattle.wit_remap.specs.Grown.{Grown}
use Rattle.wit_remap.specs.facts.GrownFacts.{Grown-same}
use Rattle.wit_link.specs.Appending.{AreAdded}
use Rattle.wit_link.proofs.OneAfterAnother.{never_refused}
use Rattle.wit_link.proofs.several.append_all_with.Goals as goal

on_ok : {E : Type 0} (P : List ℕ → Type 0) (r : Result (List ℕ) E) → IfOk r P → ((ids : List ℕ) → P ids → ⊥) → OnOk r ⊥
on_ok P (Ok ids) is never = never ids is
on_ok P (Err e) is never = tt

pub returns-else-is_err-clause-refuses : goal.returns-else-is_err-clause-refuses
returns-else-is_err-clause-refuses c =
    λ kind is.
    on_ok (AreAdded c.args.features.now c.args.graph.now c.args.packages c.append_each-added.new.graph) c.append_each-added.result c.append_each-added.ensures.ok
    (λ ids pushed. never_refused c.args.features.now c.args.graph.now c.args.packages c.append_each-added.new.graph ids pushed kind is)

-- after a refusal the graph is cut back to what it was, and so are its caches
pub returns-then-is_err-clause-valid : goal.returns-then-is_err-clause-valid
returns-then-is_err-clause-valid c =
    let back = c.cut.ensures.back c.args.graph.now c.of-mark.ensures c.append_each-added.ensures.grown in
    subst IsValid (sym back) c.requires.valid

pub returns-then-is_err-clause-grown : goal.returns-then-is_err-clause-grown
returns-then-is_err-clause-grown c =
    let back = c.cut.ensures.back c.args.graph.now c.of-mark.ensures c.append_each-added.ensures.grown in
    subst (Grown c.args.graph.now) (sym back) (Grown-same c.args.graph.now)

pub returns-then-is_err-clause-caches : goal.returns-then-is_err-clause-caches
returns-then-is_err-clause-caches c =
    let back = c.cut.ensures.back c.args.graph.now c.of-mark.ensures c.append_each-added.ensures.grown in
    let same = c.cut-then-is_err.ensures.back c.args.caches.now c.of-known.ensures c.append_each-added.ensures.known in
    subst (λ (g : Graph). AreCachesOf g c.cut-then-is_err.new.caches) (sym back) (subst (AreCachesOf c.args.graph.now) (sym same) c.requires.caches)

pub returns-then-is_err-clause-known : goal.returns-then-is_err-clause-known
returns-then-is_err-clause-known c =
    let same = c.cut-then-is_err.ensures.back c.args.caches.now c.of-known.ensures c.append_each-added.ensures.known in
    grown_as c.args.caches.now c.cut-then-is_err.new.caches same

on_err : {T E P : Type 0} (r : Result T E) → P → OnErr r P
on_err (Ok x) p = tt
on_err (Err e) p = p

pub returns-then-is_err-clause-unchanged : goal.returns-then-is_err-clause-unchanged
returns-then-is_err-clause-unchanged c = on_err c.append_each-added.result (c.cut.ensures.back c.args.graph.now c.of-mark.ensures c.append_each-added.ensures.grown)
