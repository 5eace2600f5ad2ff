-- What a checker's flags say.
use Rattle.std.proofs.Common.{◌≡◌, ◌∙◌, ◌≤◌, ℕ, Bool, false, if◌then◌else◌, List, [], ◌∷◌, length, Option, slice_get, ap, arith}
use Rattle.std.specs.Prelude.{nat_lt, unwrap_or}
use Rattle.std.proofs.lemmas.Bool.{le-ltb}
use Rattle.std.proofs.lemmas.Option.{slice_get_past}
use Rattle.std.specs.Option.{option_map_or}
use Rattle.wit_data.specs.Foreign.{foreign_interfaces, foreign_worlds, interface_id, world_id}
use Rattle.wit_data.specs.declared.interface.Interface.{Interface}
use Rattle.wit_data.specs.declared.stability.Stability.{Stability}
use Rattle.wit_data.specs.declared.types.TypeDef.{TypeDef}
use Rattle.wit_data.specs.declared.world.World.{World}
use Rattle.wit_graph_data.specs.declared.features.Features.{Features}
use Rattle.wit_link_spec.specs.Gates.{foreign_gates, interface_is_active, is_active, type_is_active, world_is_active}
use Rattle.wit_link_spec.specs.declared.addition.Activity.{Activity}
use Rattle.wit_link_lookup.specs.steps.FeatureSteps.{IsCheckerReady}
use Rattle.wit_link_lookup.specs.declared.checker.Checker.{Checker}
use Rattle.wit_link_lookup.proofs.Flags.{flag_is}
use Rattle.wit_link_spec.specs.steps.Parts.{some_active}

-- nothing is active past the last thing
past-last : {X : Type 0} (stability : X → Stability) (features : Features) (things : List X) (foreign : List Stability) (i n : ℕ) → n ≤ length things → length things ≤ i
    → some_active features (if nat_lt i n then foreign else option_map_or (λ (x : X). stability x ∷ []) (slice_get things i) []) ≡ false
past-last {X} stability features things foreign i n there past =
    ap (λ (b : Bool). some_active features (if b then foreign else option_map_or (λ (x : X). stability x ∷ []) (slice_get things i) [])) (le-ltb i n (omega arith))
    ∙ ap (λ (o : Option X). some_active features (option_map_or (λ (x : X). stability x ∷ []) o [])) (slice_get_past things i past)

pub type-flag : (checker : Checker) → IsCheckerReady checker → (t : ℕ)
    → unwrap_or (slice_get checker.activity.now.types t) false ≡ type_is_active checker.addition.features.now checker.addition.unresolved.now.types t
type-flag checker ready t =
    let features = checker.addition.features.now in
    let types = checker.addition.unresolved.now.types in
    ap (λ (a : Activity). unwrap_or (slice_get a.types t) false) ready.activity
    ∙ flag_is (type_is_active features types) (length types) t
    (λ past. ap (λ (o : Option TypeDef). option_map_or (λ (def : TypeDef). is_active features def.stability) o false) (slice_get_past types t past))

pub interface-flag : (checker : Checker) → IsCheckerReady checker → (i : ℕ)
    → unwrap_or (slice_get checker.activity.now.interfaces i) false ≡ interface_is_active checker.addition.features.now checker.addition.unresolved.now i
interface-flag checker ready i =
    let features = checker.addition.features.now in
    let u = checker.addition.unresolved.now in
    ap (λ (a : Activity). unwrap_or (slice_get a.interfaces i) false) ready.activity
    ∙ flag_is (interface_is_active features u) (length u.interfaces) i
    (λ past. past-last (λ (x : Interface). x.stability) features u.interfaces (foreign_gates interface_id u.foreign_deps i) i (length (foreign_interfaces u.foreign_deps))
    ready.shaped.foreign.interfaces.there past)

pub world-flag : (checker : Checker) → IsCheckerReady checker → (w : ℕ)
    → unwrap_or (slice_get checker.activity.now.worlds w) false ≡ world_is_active checker.addition.features.now checker.addition.unresolved.now w
world-flag checker ready w =
    let features = checker.addition.features.now in
    let u = checker.addition.unresolved.now in
    ap (λ (a : Activity). unwrap_or (slice_get a.worlds w) false) ready.activity
    ∙ flag_is (world_is_active features u) (length u.worlds) w
    (λ past. past-last (λ (x : World). x.stability) features u.worlds (foreign_gates world_id u.foreign_deps w) w (length (foreign_worlds u.foreign_deps))
    ready.shaped.foreign.worlds.there past)
