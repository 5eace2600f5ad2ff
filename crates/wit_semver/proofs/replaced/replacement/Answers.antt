use Rattle.std.proofs.Common.{◌≡◌, ◌∙◌, ℕ, List, Bool, true, false, Contains, Option, None, Some, sym, ap}
use Rattle.std.specs.Map.{lookup}
use Rattle.std.specs.Option.{option_map_or}
use Rattle.wit_names.specs.declared.track.TrackRule.{TrackRule}
use Rattle.wit_data.specs.declared.world.World.{World}
use Rattle.wit_elaboration.specs.Entries.{keyed_interfaces}
use Rattle.wit_elaboration.specs.Valid.{IsValid}
use Rattle.wit_graph_data.specs.declared.graph.Graph.{Graph}
use Rattle.wit_semver.specs.SemverMerged.{Versioned, versioned, semver_merge}
use Rattle.wit_semver.specs.steps.Replacing.{IsNewestTable, key_of, replacement, same_track, told}
use Rattle.wit_semver.specs.declared.tracks.TrackKey.{TrackKey}
use Rattle.wit_semver.proofs.NewestTold.{greater_replaces, is_known, level_stays, n_at, unversioned_stays}
use Rattle.wit_semver.proofs.replaced.replacement.Goals as goal
use Rattle.wit_semver.specs.steps.Parts.{is_below}

-- what is known on the track of an interface, by the key that was looked up
known : (rule : TrackRule) (table : List (TrackKey × ℕ)) (v : Versioned) (k : TrackKey) (o : Option ℕ) → k ≡ key_of rule v → o ≡ lookup (same_track k) table → lookup (same_track (key_of rule v)) table ≡ o
known rule table v k o is found = sym (found ∙ ap (λ (q : TrackKey). lookup (same_track q) table) is)

module _ (rule : TrackRule) (g : Graph) (valid : IsValid g) (table : List (TrackKey × ℕ)) (id n : ℕ) (v : Versioned) (is_v : versioned g id ≡ Some v) (found : lookup (same_track (key_of rule v)) table ≡ Some n)
    (world : World) (tells : IsNewestTable rule g (keyed_interfaces world.imports) table) (has : Contains (keyed_interfaces world.imports) id) where
  below_is : (b : Bool) → b ≡ option_map_or (is_below v) (versioned g n) false → is_below v (n_at (semver_merge rule g world) valid table tells id has v is_v n found).0 ≡ b
  below_is b is = sym (is ∙ ap (λ (o : Option Versioned). option_map_or (is_below v) o false) (n_at (semver_merge rule g world) valid table tells id has v is_v n found).1)

  greater : (b : Bool) → b ≡ option_map_or (is_below v) (versioned g n) false → b ≡ true → Some n ≡ replacement (semver_merge rule g world) id
  greater b is on = greater_replaces (semver_merge rule g world) valid table tells id has v is_v n found (below_is b is ∙ on)

  level : (b : Bool) → b ≡ option_map_or (is_below v) (versioned g n) false → b ≡ false → None ≡ replacement (semver_merge rule g world) id
  level b is off = level_stays (semver_merge rule g world) valid table tells id has v is_v n found (below_is b is ∙ off)

pub returns-in_default : goal.returns-in_default
returns-in_default c world tells has =
    unversioned_stays (semver_merge c.args.rule c.args.graph.now world) c.requires.valid c.args.newest.now.entries tells c.args.id has (sym c.in_default.ensures)

pub returns-in_default-get : goal.returns-in_default-get
returns-in_default-get c world tells has =
    let v = told c.in-Some.interface in
    absurd (is_known (semver_merge c.args.rule c.args.graph.now world) c.requires.valid c.args.newest.now.entries tells c.args.id has v (sym c.in-Some.ensures)
    (known c.args.rule c.args.newest.now.entries v c.in_ok-key.key None c.in_ok-key.ensures c.in_default-get.ensures.value))

pub returns-then-is_greater : goal.returns-then-is_greater
returns-then-is_greater c world tells has =
    let v = told c.in-Some.interface in
    greater c.args.rule c.args.graph.now c.requires.valid c.args.newest.now.entries c.args.id c.in-Some-get.other.now v (sym c.in-Some.ensures)
    (known c.args.rule c.args.newest.now.entries v c.in_ok-key.key (Some c.in-Some-get.other.now) c.in_ok-key.ensures c.in-Some-get.ensures.value) world tells has
    c.is_greater.result c.is_greater.ensures c.if-is_greater.true

pub returns : goal.returns
returns c world tells has =
    let v = told c.in-Some.interface in
    level c.args.rule c.args.graph.now c.requires.valid c.args.newest.now.entries c.args.id c.in-Some-get.other.now v (sym c.in-Some.ensures)
    (known c.args.rule c.args.newest.now.entries v c.in_ok-key.key (Some c.in-Some-get.other.now) c.in_ok-key.ensures c.in-Some-get.ensures.value) world tells has
    c.is_greater.result c.is_greater.ensures c.if-is_greater.false
