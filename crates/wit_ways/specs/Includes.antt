-- Labels that worlds have by worlds that they include.
use Rattle.std.specs.Prelude.{ℕ, List, ◌∷◌, map, flat_map}
use Rattle.wit_data.specs.declared.world.IncludeName.{IncludeName}
use Rattle.wit_labels.specs.Rename.{renamed_label}
use Rattle.wit_ways.specs.Worlds.{label_text}
use Rattle.wit_ways.specs.declared.arrow.Arrow.{Arrow}
use Rattle.wit_ways.specs.declared.include.Include.{Include}

-- a label, and all in whose place others stand by includes: of what a label may have come
abbrev pub former_labels : List Include → List ℕ → List (List ℕ)
former_labels includes label =
    label ∷ flat_map (λ (i : Include). map (λ (name : IncludeName). name.name) i.names) includes

-- the labels that a world has by an include, of these of the included world, and these
abbrev pub included_by : List (List ℕ) → Include → List Arrow
included_by labels i =
    map (λ label.
    record {
      from = label_text i.world (renamed_label i.names label);
      to = label_text i.included label;
      span = i.span;
    }) labels

-- which label of a world is by an include which label of another one, of all that one of this name may be
abbrev pub included_labels : List Include → List ℕ → List Arrow
included_labels includes label = flat_map (included_by (former_labels includes label)) includes
