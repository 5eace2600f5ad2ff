-- Entries whose stabilities are joined come of what they came of.
use Rattle.std.proofs.Common.{◌≡◌, ◌∙◌, ℕ, Bool, true, false, Option, refl, ap}
use Rattle.wit_data.specs.Entries.{item_interface}
use Rattle.wit_data.specs.declared.function.Function.{Function}
use Rattle.wit_data.specs.declared.world.WorldItem.{WorldItem}
use Rattle.wit_data.specs.declared.world.WorldKey.{WorldKey}
use Rattle.wit_data.specs.declared.stability.Stability.TheVariants.{Stable, Unknown, Unstable}
use Rattle.wit_data.specs.declared.world.WorldItem.TheVariants as item
use Rattle.wit_data.specs.declared.world.WorldKey.TheVariants as key
use Rattle.wit_graph_theory.specs.facts.Covered.{IsNoType, ItemComes}
use Rattle.wit_graph_theory.specs.steps.Sources.{Source}
use Rattle.wit_link_spec.specs.Include.{new_item}
use Rattle.wit_remap_spec.specs.Joined.{joined_item}

pub new_interface : (other : Bool) (k : WorldKey) (held : WorldItem) → item_interface (new_item other k held) ≡ item_interface held
new_interface true (key.Interface f) (item.Interface i (Stable since deprecated) docs span external_id) = refl
new_interface true (key.Interface f) (item.Interface i Unknown docs span external_id) = refl
new_interface true (key.Interface f) (item.Interface i (Unstable feature deprecated) docs span external_id) = refl
new_interface true (key.Interface f) (item.Function fn) = refl
new_interface true (key.Interface f) (item.Type_ t span) = refl
new_interface true (key.Name n) (item.Interface i stability docs span external_id) = refl
new_interface true (key.Name n) (item.Function fn) = refl
new_interface true (key.Name n) (item.Type_ t span) = refl
new_interface false k held = refl

new_function : (other : Bool) (k : WorldKey) (f : Function) → new_item other k (item.Function f) ≡ item.Function f
new_function true (key.Interface i) f = refl
new_function true (key.Name n) f = refl
new_function false k f = refl

new_type : (other : Bool) (k : WorldKey) (t : ℕ) (span : Option (ℕ × ℕ)) → new_item other k (item.Type_ t span) ≡ item.Type_ t span
new_type true (key.Interface i) t span = refl
new_type true (key.Name n) t span = refl
new_type false k t span = refl

-- what comes anew comes of what it came of
pub new_comes : (s : Source) (w : ℕ) (old held : WorldItem) (other : Bool) (k : WorldKey) → ItemComes s w old held → ItemComes s w old (new_item other k held)
new_comes s w (item.Interface i stability docs span external_id) held other k comes = new_interface other k held ∙ comes
new_comes s w (item.Function f) held other k comes = (comes.0, ap (new_item other k) comes.1 ∙ new_function other k comes.0, comes.2, comes.3)
new_comes s w (item.Type_ t span) held other k comes = (comes.0, ap (new_item other k) comes.1 ∙ new_type other k (s.maps.types t) comes.0)

pub joined_one : (other : Bool) (from held : WorldItem) → item_interface (joined_item other from held) ≡ item_interface held
joined_one other (item.Interface i stability docs span external_id) (item.Interface j stability' docs' span' external_id') = refl
joined_one other (item.Interface i stability docs span external_id) (item.Function f) = refl
joined_one other (item.Interface i stability docs span external_id) (item.Type_ t span') = refl
joined_one other (item.Function f) held = refl
joined_one other (item.Type_ t span) held = refl

joined_function : (other : Bool) (from : WorldItem) (f : Function) → joined_item other from (item.Function f) ≡ item.Function f
joined_function other (item.Interface i stability docs span external_id) f = refl
joined_function other (item.Function e) f = refl
joined_function other (item.Type_ t span) f = refl

joined_type : (other : Bool) (from : WorldItem) (t : ℕ) (span : Option (ℕ × ℕ)) → joined_item other from (item.Type_ t span) ≡ item.Type_ t span
joined_type other (item.Interface i stability docs span' external_id) t span = refl
joined_type other (item.Function e) t span = refl
joined_type other (item.Type_ u span') t span = refl

-- so does what was there
pub joined_comes : (s : Source) (w : ℕ) (old held : WorldItem) (other : Bool) (from : WorldItem) → ItemComes s w old held → ItemComes s w old (joined_item other from held)
joined_comes s w (item.Interface i stability docs span external_id) held other from comes = joined_one other from held ∙ comes
joined_comes s w (item.Function f) held other from comes = (comes.0, ap (joined_item other from) comes.1 ∙ joined_function other from comes.0, comes.2, comes.3)
joined_comes s w (item.Type_ t span) held other from comes = (comes.0, ap (joined_item other from) comes.1 ∙ joined_type other from (s.maps.types t) comes.0)

pub no_type_joined : (other : Bool) (from held : WorldItem) → IsNoType held → IsNoType (joined_item other from held)
no_type_joined other (item.Interface i stability docs span external_id) (item.Interface j stability' docs' span' external_id') is = tt
no_type_joined other (item.Interface i stability docs span external_id) (item.Function f) is = tt
no_type_joined other (item.Interface i stability docs span external_id) (item.Type_ t span') is = is
no_type_joined other (item.Function f) held is = is
no_type_joined other (item.Type_ t span) held is = is

pub no_type_new : (other : Bool) (k : WorldKey) (held : WorldItem) → IsNoType held → IsNoType (new_item other k held)
no_type_new true (key.Interface f) (item.Interface i (Stable since deprecated) docs span external_id) is = tt
no_type_new true (key.Interface f) (item.Interface i Unknown docs span external_id) is = tt
no_type_new true (key.Interface f) (item.Interface i (Unstable feature deprecated) docs span external_id) is = tt
no_type_new true (key.Interface f) (item.Function fn) is = is
no_type_new true (key.Interface f) (item.Type_ t span) is = is
no_type_new true (key.Name n) (item.Interface i stability docs span external_id) is = is
no_type_new true (key.Name n) (item.Function fn) is = is
no_type_new true (key.Name n) (item.Type_ t span) is = is
no_type_new false k held is = is
