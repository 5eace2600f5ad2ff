use Rattle.std.proofs.Common.{◌≡◌, ◌∙◌, ◌++◌, List, ℕ, Option, ap, sym, append_assoc, rules}
use Rattle.std.proofs.lemmas.List.{append-nil}
use Rattle.std.proofs.lemmas.Map.Iter.{rest_more, rest_all}
use Rattle.std.specs.List.{filter_map}
use Rattle.std.specs.Map.{lookup}
use Rattle.std.specs.Map.Iter.{deref_pair}
use Rattle.std.specs.Option.{option_to_list}
use Rattle.wit_data.specs.Foreign.{ForeignItem}
use Rattle.wit_names.specs.PackageName.{same_package}
use Rattle.wit_names.specs.declared.package_name.PackageName.{PackageName}
use Rattle.wit_link.proofs.Orders.{found-first}
use Rattle.wit_link.proofs.depends.deps_of.Goals as goal

pub loop-name-preserved : goal.loop-name-preserved
loop-name-preserved c =
    let f = λ (e : PackageName × List ForeignItem). lookup (same_package e.0) c.args.places.now in
    let found : c.copied.result ≡ lookup (same_package c.in-Some.name.now) c.args.places.now = search rules in
    let more = rest_more deref_pair _ _ _ _ c.in-Some.is c.next.ensures.steps in
    let left : List (PackageName × List ForeignItem) = c.next.new.self in
    ap (λ (l : List ℕ). l ++ filter_map f left) (c.in_ok-push_found.ensures ∙ ap (λ (o : Option ℕ). c.loop-name.deps ++ option_to_list o) found)
    ∙ (append_assoc c.loop-name.deps (option_to_list (lookup (same_package c.in-Some.name.now) c.args.places.now)) (filter_map f left)
    ∙ (ap (λ (l : List ℕ). c.loop-name.deps ++ l) (sym (found-first f _ _ left more)) ∙ c.loop-name.invariant))

pub returns : goal.returns
returns c =
    let f = λ (e : PackageName × List ForeignItem). lookup (same_package e.0) c.args.places.now in
    let none = rest_all deref_pair _ _ _ c.in-None.is c.next.ensures.steps in
    sym (append-nil c.loop-name.deps) ∙ ap (λ l. c.loop-name.deps ++ filter_map f l) (sym none) ∙ c.loop-name.invariant
