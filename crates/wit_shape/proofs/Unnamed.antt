-- Interfaces without names are there.
use Rattle.std.proofs.Common.{◌≡◌, ℕ, ◌<◌, true, false, List, Option, Some, None, length, filter, get_or, slice_get, refl, subst}
use Rattle.std.specs.Prelude.{not, is_some}
use Rattle.std.specs.Option.{option_map_or}
use Rattle.std.proofs.lemmas.List.Elements.{filter_passes}
use Rattle.std.proofs.lemmas.Option.{get_or_from_slice_get, slice_get_within}
use Rattle.wit_data.specs.Each.{Each}
use Rattle.wit_data.specs.Entries.{is_unnamed}
use Rattle.wit_data.specs.declared.interface.Interface.{Interface}

unnamed_there : (interfaces : List Interface) (id : ℕ) → is_unnamed interfaces id ≡ true → id < length interfaces
unnamed_there interfaces id = by (slice_get interfaces id) refl
  where
    by : (o : Option Interface) → slice_get interfaces id ≡ o → option_map_or (λ (interface : Interface). not (is_some interface.name)) o false ≡ true → id < length interfaces
    by None at test = cc
    by (Some interface) at test = slice_get_within interfaces id interface at

pub unnamed_below : (interfaces : List Interface) (ids : List ℕ) → Each (λ id. id < length interfaces) (filter (is_unnamed interfaces) ids)
unnamed_below interfaces ids i id at =
    let kept = filter (is_unnamed interfaces) ids in
    let here : get_or kept i id ≡ id = get_or_from_slice_get kept i id id at in
    unnamed_there interfaces id (subst (λ (j : ℕ). is_unnamed interfaces j ≡ true) here (filter_passes (is_unnamed interfaces) ids i id (slice_get_within kept i id at)))
