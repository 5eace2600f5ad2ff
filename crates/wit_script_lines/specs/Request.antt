-- What a command of a script that brings no package says by its tokens alone.
use Rattle.std.specs.Prelude.{ℕ, ◌||◌, Bool, true, List, [], ◌∷◌, Option, Some, None, option_and_then, codes, if◌then◌else◌, option_map, bytes_eq}
use Rattle.wit_names.specs.declared.package_name.PackageName.{PackageName}
use Rattle.wit_names.specs.declared.track.TrackRule.{TrackRule}
use Rattle.wit_script_lines.specs.Token.{package_name_of, part_of, alone_of, only_of}
use Rattle.wit_commands.specs.declared.change.Change.TheVariants as change
use Rattle.wit_script_lines.specs.declared.request.Request.{Request}
use Rattle.wit_script_lines.specs.declared.request.Request.TheVariants as request
use Rattle.wit_names.specs.declared.track.TrackRule.TheVariants as tracks

-- a first token that begins such a command
abbrev pub is_request : List ℕ → Bool
is_request word =
    bytes_eq word (codes "feature") || (bytes_eq word (codes "all-features")
    || (bytes_eq word (codes "tracks") || (bytes_eq word (codes "other")
    || (bytes_eq word (codes "merge") || (bytes_eq word (codes "importize")
    || (bytes_eq word (codes "exportize") || (bytes_eq word (codes "semver")
    || (bytes_eq word (codes "print") || bytes_eq word (codes "select")))))))))

-- `published` or `with-prereleases`
abbrev pub track_rule_of : List ℕ → Option TrackRule
track_rule_of token =
    if bytes_eq token (codes "published") then Some tracks.Published
    else if bytes_eq token (codes "with-prereleases") then Some tracks.WithPrereleases
    else None

-- a world of a package
abbrev pub world_in : List ℕ → List ℕ → Option (PackageName × List ℕ)
world_in name world =
    option_and_then (λ owner. option_map (λ own. (owner, own)) (part_of world))
    (package_name_of name)

-- `PKG WORLD`
abbrev pub world_of : List (List ℕ) → Option (PackageName × List ℕ)
world_of (name ∷ world ∷ []) = world_in name world
world_of _ = None

-- the transformation of a world, which then has this name
abbrev pub importize_to : List ℕ → List ℕ → Option (List ℕ) → Option Request
importize_to name world out =
    option_map (λ (named : PackageName × List ℕ).
    request.Change (change.Importize named.0 named.1 out))
    (world_in name world)

-- `PKG WORLD` or `PKG WORLD NAME`
abbrev pub importize_of : List (List ℕ) → Option Request
importize_of (name ∷ world ∷ []) = importize_to name world None
importize_of (name ∷ world ∷ out ∷ []) =
    option_and_then (λ new. importize_to name world (Some new)) (part_of out)
importize_of _ = None

-- the keys of `exportize`; without any, all imports become exports
abbrev pub keys_of : List (List ℕ) → Option (List (List ℕ))
keys_of [] = None
keys_of (key ∷ keys) = Some (key ∷ keys)

-- `PKG WORLD NAME KEY ..`, where `-` stands for no new name
abbrev pub exportize_of : List (List ℕ) → Option Request
exportize_of (name ∷ world ∷ out ∷ keys) =
    option_map (λ (named : PackageName × List ℕ).
    let new = if bytes_eq out (codes "-") then None else Some out in
    request.Change (change.Exportize named.0 named.1 new (keys_of keys)))
    (world_in name world)
exportize_of _ = None

-- the choice of a world for a package
abbrev pub select_with : List ℕ → Option (List ℕ) → Option Request
select_with name said = option_map (λ owner. request.Select owner said) (package_name_of name)

-- `PKG` or `PKG TEXT`
abbrev pub select_of : List (List ℕ) → Option Request
select_of (name ∷ []) = select_with name None
select_of (name ∷ text ∷ []) =
    option_and_then (λ said. select_with name (Some said)) (part_of text)
select_of _ = None

-- such a command by its first token and its arguments
abbrev pub request_by : List ℕ → List (List ℕ) → Option Request
request_by word arguments =
    if bytes_eq word (codes "feature") then
    option_map (λ n. request.Change (change.AddFeature n)) (only_of part_of arguments)
    else if bytes_eq word (codes "all-features") then
    alone_of (request.Change (change.SetAllFeatures true)) arguments
    else if bytes_eq word (codes "tracks") then
    option_map (λ r. request.Change (change.SetTrackRule r)) (only_of track_rule_of arguments)
    else if bytes_eq word (codes "other") then alone_of request.Other arguments
    else if bytes_eq word (codes "merge") then alone_of request.Merge arguments
    else if bytes_eq word (codes "importize") then importize_of arguments
    else if bytes_eq word (codes "exportize") then exportize_of arguments
    else if bytes_eq word (codes "semver") then
    option_map (λ (named : PackageName × List ℕ). request.Change (change.Semver named.0 named.1))
    (world_of arguments)
    else if bytes_eq word (codes "print") then
    option_map (λ (named : PackageName × List ℕ). request.Print named.0 named.1)
    (world_of arguments)
    else if bytes_eq word (codes "select") then select_of arguments
    else None
