use Rattle.std.proofs.Common.{◌≡◌, ◌≤◌, ◌++◌, ◌∷◌, [], sym, subst, rules, arith}
use Rattle.wit_sources.specs.SourceMap.{AreLaidOut, end_after}
use Rattle.wit_sources.proofs.SourceMapLemmas.{AreLaidOut-append}
use Rattle.wit_sources.proofs.source_map.SourceMap.push_str.Goals as goal

pub invariant_of-self-2 : goal.invariant_of-self-2
invariant_of-self-2 c =
    let path = c.in_ok-path.path in
    let contents = c.in_ok-contents.contents in
    let files : c.push.new.self.items ≡ c.self.inside.files.items ++ record { path = path; contents = contents; start = c.self.inside.end } ∷ [] = search rules in
    let end : end_after c.self.inside.end contents ≤ c.in-Some.end = search rules in
    subst (λ xs. AreLaidOut 0 xs c.in-Some.end) (sym files)
    (AreLaidOut-append 0 c.self.inside.end c.self.inside.files.items _ c.in-Some.end c.self.invariant (omega arith, end))
