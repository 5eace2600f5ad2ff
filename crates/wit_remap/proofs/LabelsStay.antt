-- In an addition labels stay, and so do the names of types.
use Rattle.std.proofs.Common.{◌≡◌, ◌∙◌, ℕ, List, [], ◌∷◌, map, Option, None, Some, option_map, refl, sym, ap}
use Rattle.wit_data.specs.declared.types.TypeDef.{TypeDef}
use Rattle.wit_data.specs.declared.types.TypeOwner.{TypeOwner}
use Rattle.wit_data.specs.declared.types.TypeOwner.TheVariants as owner
use Rattle.wit_remap_spec.specs.Image.{name_image, type_image}
use Rattle.wit_remap.specs.steps.Movers.{maps_of}
use Rattle.wit_remap.specs.declared.mover.Mover.{Mover}

same_name : (m : Mover) (o : TypeOwner) (name : Option (List ℕ)) → option_map (name_image (maps_of m) o) name ≡ name
same_name m o None = refl
same_name m (owner.World w) (Some name) = refl
same_name m (owner.Interface i) (Some name) = refl
same_name m owner.None (Some name) = refl

pub name_stays : (m : Mover) (def : TypeDef) → record (type_image (maps_of m) def) { name = def.name } ≡ type_image (maps_of m) def
name_stays m def = ap (λ (n : Option (List ℕ)). let new : TypeDef = record (type_image (maps_of m) def) { name = n } in new) (sym (same_name m def.owner def.name))

pub names_stay : (m : Mover) (defs : List TypeDef) → map (λ (def : TypeDef). let new : TypeDef = record (type_image (maps_of m) def) { name = def.name } in new) defs ≡ map (type_image (maps_of m)) defs
names_stay m [] = refl
names_stay m (def ∷ defs) = ap (λ (d : TypeDef). d ∷ map (λ (def : TypeDef). let new : TypeDef = record (type_image (maps_of m) def) { name = def.name } in new) defs) (name_stays m def) ∙ ap (λ l. type_image (maps_of m) def ∷ l) (names_stay m defs)
