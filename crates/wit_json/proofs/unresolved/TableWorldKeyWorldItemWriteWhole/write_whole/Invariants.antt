use Rattle.std.proofs.Common.{◌≡◌, ◌++◌, ◌∷◌, map}
use Rattle.json.specs.Token.{begin_object}
use Rattle.json.specs.Tree.{members_tokens}
use Rattle.wit_json.specs.Unresolved.{whole_item}
use Rattle.wit_json.specs.Values.{members_of}
use Rattle.wit_json.specs.Worlds.{entry_name}
use Rattle.wit_json.proofs.unresolved.TableWorldKeyWorldItemWriteWhole.write_whole.Given as goal

-- what is written, and the entries that are left
abbrev pub invariant-loop-key : goal.invariant-loop-key
invariant-loop-key l =
    l.out ++ members_tokens (members_of (map (λ e. (entry_name e.0, whole_item e.1)) l.key-iterator)) ≡ l.fn.out ++ begin_object ∷ members_tokens (members_of (map (λ e. (entry_name e.0, whole_item e.1)) l.self))
