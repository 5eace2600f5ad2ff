-- How an `include` renames labels. A label may begin with groups in brackets, as `[method]r.f`; what follows
-- them is a name, or a resource and a name with a dot between them.
-- Source: `rename` of wit-parser 0.263.0; the component names of the component model.
use Rattle.std.specs.Prelude.{ℕ, ◌==◌, ◌++◌, List, length, drop, slice_get, Option, None, Some, unwrap_or, if◌then◌else◌, filter_map, bytes_eq}
use Rattle.std.specs.List.{concat, before_first}
use Rattle.wit_data.specs.declared.world.IncludeName.{IncludeName}
use Rattle.wit_labels.specs.Groups.{begins_group, groups_of, rest_of}

-- the label as this renaming makes it, None where it is of another label: what stands behind the groups up to the first
-- dot, 46, is renamed, or all where there is no dot; where a bracket stands there that isn't closed nothing is
abbrev pub renamed_label_by : IncludeName → List ℕ → Option (List ℕ)
renamed_label_by name label =
    let word = before_first (λ b. b == 46) (rest_of label) in
    if begins_group (rest_of label) then None
    else (if bytes_eq word name.name
    then Some (concat (groups_of label) ++ (name.as_ ++ drop (length word) (rest_of label)))
    else None)

-- the label as the first renaming that is of it makes it, itself where none is
abbrev pub renamed_label : List IncludeName → List ℕ → List ℕ
renamed_label names label =
    unwrap_or (slice_get (filter_map (λ (name : IncludeName). renamed_label_by name label) names) 0)
    label
