use Rattle.std.proofs.Common.{◌≡◌, ◌++◌, ◌∷◌, List, ℕ, map}
use Rattle.json.specs.Token.{begin_object}
use Rattle.json.specs.Tree.{members_tokens}
use Rattle.wit_json.specs.Values.{members_of}
use Rattle.wit_json.proofs.unresolved.NamesWriteWhole.write_whole.Given as goal

-- what is written, and the members that are left
abbrev pub invariant-loop-name : goal.invariant-loop-name
invariant-loop-name g l =
    l.out ++ members_tokens (members_of (map (λ e. (e.0, g.T.WriteWhole.whole e.1)) l.name-iterator)) ≡ l.fn.out ++ begin_object ∷ members_tokens (members_of (map (λ e. (e.0, g.T.WriteWhole.whole e.1)) l.self))
