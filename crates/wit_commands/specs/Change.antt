-- Changes in words, as a refusal tells what was asked, and which of them set something.
use Rattle.std.specs.Prelude.{ℕ, Bool, true, false, List, ◌++◌, codes}
use Rattle.wit_names.specs.PackageName.{package_name_text}
use Rattle.wit_names.specs.declared.package_name.PackageName.{PackageName}
use Rattle.wit_commands.specs.declared.change.Change.{Change}
use Rattle.wit_commands.specs.declared.change.Change.TheVariants as change

-- a word, and a world by the name of its package and its own
abbrev pub of_world : List ℕ → PackageName → List ℕ → List ℕ
of_world word home world = word ++ (codes " " ++ (package_name_text home ++ (codes " " ++ world)))

-- the word of a change, and what it is about; of a push the main group's main package
abbrev pub change_text : Change → List ℕ
change_text (change.AddFeature name) = codes "add-feature " ++ name
change_text (change.SetAllFeatures all) = codes "set-all-features"
change_text (change.SetTrackRule rule) = codes "set-track-rule"
change_text (change.PushGroups main deps) =
    codes "push-groups " ++ package_name_text main.main.name
change_text (change.Importize home world out) = of_world (codes "importize") home world
change_text (change.Exportize home world out keys) = of_world (codes "exportize") home world
change_text (change.Semver home world) = of_world (codes "semver") home world

-- whether it sets what later commands go by, and leaves all else as it is
abbrev pub is_setting : Change → Bool
is_setting (change.AddFeature name) = true
is_setting (change.SetAllFeatures all) = true
is_setting (change.SetTrackRule rule) = true
is_setting _ = false
