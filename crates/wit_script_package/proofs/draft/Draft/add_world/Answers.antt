use Rattle.std.proofs.Common.{◌≡◌, ◌++◌, ◌∷◌, ◌∙◌, [], false, length, is_some, bytes_eq, Some, List, ℕ, refl, rules, string_bytes}
use Rattle.std.specs.Map.{lookup}
use Rattle.wit_script_package.specs.Adding.{empty_world, with_world}
use Rattle.wit_script_package.specs.declared.draft.Draft.{Draft}
use Rattle.wit_script_package.specs.declared.draft.LineContext.{LineContext}
use Rattle.wit_script_package.specs.declared.draft.Scope.TheVariants as scope
use Rattle.wit_script_package.proofs.draft.Draft.add_world.Goals as goal

-- a world of a name that isn't there
new-world : (p : Draft) (name : List ℕ) (here : LineContext) → is_some (lookup (bytes_eq name) p.world_ids) ≡ false
    → with_world p name here ≡ Some (record p { worlds = p.worlds ++ empty_world name here ∷ []; world_ids = p.world_ids ++ (name, length p.worlds) ∷ []; scope = scope.World })
new-world p name here none = rw none refl

pub returns : goal.returns
returns c =
    let none : is_some (lookup (bytes_eq c.args.name) c.args.self.now.world_ids) ≡ false = search rules in
    let worlds : c.push.new.self ≡ c.args.self.now.worlds ++ empty_world c.args.name c.args.here.now ∷ [] = rw (c.in_ok-push.ensures.ok, c.close.ensures) (search rules) in
    let key : string_bytes c.in_ok-key.key ≡ c.args.name = c.in_ok-key.ensures.ok ∙ c.as_str-2.ensures in
    let id : c.from_index-id.result ≡ length c.args.self.now.worlds = c.from_index-id.ensures ∙ c.len.ensures in
    let ids : c.push-2.new.self ≡ c.args.self.now.world_ids ++ (c.args.name, length c.args.self.now.worlds) ∷ [] = rw (c.in_ok-push-2.ensures.ok, c.close.ensures, key, id) refl in
    rw (worlds, ids, c.close.ensures) (new-world c.args.self.now c.args.name c.args.here.now none)
