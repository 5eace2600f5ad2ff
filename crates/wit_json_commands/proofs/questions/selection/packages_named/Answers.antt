use Rattle.std.proofs.Common.{◌≡◌, ◌<◌, ◌+◌, ◌∙◌, ℕ, suc, List, [], ◌∷◌, ◌++◌, Some, length, get_or, drop, ap, sym, arith, rules}
use Rattle.wit_graph_data.specs.Named.{package_named}
use Rattle.wit_json_commands.specs.Tells.{packages_named}
use Rattle.wit_json_commands.proofs.Named.{ids_before, next_id}
use Rattle.wit_json_commands.proofs.questions.selection.packages_named.Goals as goal

pub loop-name-preserved : goal.loop-name-preserved
loop-name-preserved c =
    let g = c.args.graph.now in
    let names = c.args.names.now in
    let i = c.loop-name.name-index in
    let name = c.name-item.result in
    let id = c.in-Some.id.now in
    let small : i < length names = search rules in
    let is : name ≡ get_or names i name = search rules in
    let there : package_named g name ≡ Some id = search rules in
    let longer : c.push.new.self.items ≡ c.loop-name.ids.items ++ id ∷ [] = search rules in
    let next : suc i ≡ i + 1 = omega arith in
    next_id g names i name c.loop-name.ids.items id small is there c.loop-name.invariant
    ∙ ap (λ (n : ℕ). ids_before (c.loop-name.ids.items ++ id ∷ []) (packages_named g (drop n names))) next
    ∙ ap (λ (ids : List ℕ). ids_before ids (packages_named g (drop (i + 1) names))) (sym longer)
