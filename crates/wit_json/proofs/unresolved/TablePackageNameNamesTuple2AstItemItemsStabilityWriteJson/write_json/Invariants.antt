use Rattle.std.proofs.Common.{◌≡◌, ◌++◌, ◌∷◌, map}
use Rattle.json.specs.Token.{begin_object}
use Rattle.json.specs.Tree.{members_tokens}
use Rattle.wit_names.specs.PackageName.{package_name_text}
use Rattle.wit_json.specs.Unresolved.{json_of_foreign_item}
use Rattle.wit_json.specs.Values.{members_of, object_under_names}
use Rattle.wit_json.proofs.unresolved.TablePackageNameNamesTuple2AstItemItemsStabilityWriteJson.write_json.Given as goal

-- what is written, and the packages that are left
abbrev pub invariant-loop-name : goal.invariant-loop-name
invariant-loop-name l =
    l.out ++ members_tokens (members_of (map (λ e. (package_name_text e.0, object_under_names json_of_foreign_item e.1)) l.name-iterator))
    ≡ l.fn.out ++ begin_object ∷ members_tokens (members_of (map (λ e. (package_name_text e.0, object_under_names json_of_foreign_item e.1)) l.self))
