-- Under the key of an interface stands that interface, also where an include is joined to the lists.
use Rattle.std.proofs.Common.{◌≡◌, ◌∙◌, ℕ, suc, Bool, true, false, cond, not, List, [], ◌∷◌, ◌++◌, map, filter, length, Option, Some, None, slice_get, refl, sym, ap, subst}
use Rattle.std.specs.List.{AllByRecursion}
use Rattle.std.specs.Map.{lookup}
use Rattle.std.specs.Option.{option_map_or}
use Rattle.wit_data.specs.Entries.{Entry, IsExport}
use Rattle.wit_data.specs.declared.interface.Interface.{Interface}
use Rattle.wit_data.specs.declared.world.World.{World}
use Rattle.wit_data.specs.declared.world.WorldInclude.{WorldInclude}
use Rattle.wit_data.specs.declared.world.WorldItem.{WorldItem}
use Rattle.wit_data.specs.declared.world.WorldKey.{WorldKey}
use Rattle.wit_data.specs.declared.stability.Stability.TheVariants.{Unknown, Stable, Unstable}
use Rattle.wit_data.specs.declared.world.WorldItem.TheVariants as item
use Rattle.wit_data.specs.declared.world.WorldKey.TheVariants as key
use Rattle.wit_elaboration.specs.Entries as graph
use Rattle.wit_elaboration.specs.Entries.{item_interface}
use Rattle.wit_elaboration.specs.Sound.{IsUnderOwnKey}
use Rattle.wit_remap_spec.specs.Image.{Maps, entry_image}
use Rattle.wit_link_spec.specs.Include.{PartiallyLinked, copy_maps, is_other_package, joined_entries, new_item}
use Rattle.wit_remap_spec.specs.Joined.{joined_entry, joined_item}
use Rattle.wit_link_include.specs.steps.Included.{CanBeIncluded, HaveOwnKeys}
use Rattle.wit_link_spec.specs.steps.Parts.{with_one}
use Rattle.wit_link_include.specs.facts.SeveralFacts.{none_is, some_is}
use Rattle.wit_link_include.proofs.IncludeSteps.{IsKeyed, exports_keyed, imports_keyed}
use Rattle.wit_link_spec.specs.steps.Parts.{has_key}

-- each entry is under its own key
abbrev pub AreOwn : List Entry → Type 0
AreOwn entries = AllByRecursion (λ (e : Entry). IsUnderOwnKey e.0 e.1) entries

own_as : (k : WorldKey) (v w : WorldItem) → item_interface w ≡ item_interface v → IsUnderOwnKey k v → IsUnderOwnKey k w
own_as (key.Name label) v w same own = tt
own_as (key.Interface i) v w same own = same ∙ own

joined_instance : (other : Bool) (from into : WorldItem) → item_interface (joined_item other from into) ≡ item_interface into
joined_instance other (item.Interface i stability docs span external_id) (item.Interface i' stability' docs' span' external_id') = refl
joined_instance other (item.Interface i stability docs span external_id) (item.Function f) = refl
joined_instance other (item.Interface i stability docs span external_id) (item.Type_ t span') = refl
joined_instance other (item.Function f) into = refl
joined_instance other (item.Type_ t span) into = refl

new_instance : (other : Bool) (k : WorldKey) (held : WorldItem) → item_interface (new_item other k held) ≡ item_interface held
new_instance false k held = refl
new_instance true (key.Name label) held = refl
new_instance true (key.Interface f) (item.Interface i Unknown docs span external_id) = refl
new_instance true (key.Interface f) (item.Interface i (Stable since deprecated) docs span external_id) = refl
new_instance true (key.Interface f) (item.Interface i (Unstable feature deprecated) docs span external_id) = refl
new_instance true (key.Interface f) (item.Function g) = refl
new_instance true (key.Interface f) (item.Type_ t span) = refl

kept_own : (other : Bool) (brought entries : List Entry) → AreOwn entries → AreOwn (map (joined_entry other brought) entries)
kept_own other brought [] own = tt
kept_own other brought (e ∷ es) own = (here (lookup (graph.same_key e.0) brought), kept_own other brought es own.1)
  where
    here : (o : Option WorldItem) → IsUnderOwnKey e.0 (option_map_or (λ (from : WorldItem). joined_item other from e.1) o e.1)
    here None = own.0
    here (Some from) = own_as e.0 e.1 (joined_item other from e.1) (joined_instance other from e.1) own.0

new_own : (other : Bool) (current brought : List Entry) → AreOwn brought → AreOwn (map (λ (e : Entry). (e.0, new_item other e.0 e.1)) (filter (λ (e : Entry). not (has_key current e.0)) brought))
new_own other current [] own = tt
new_own other current (e ∷ es) own = here (has_key current e.0) (new_own other current es own.1)
  where
    here : (b : Bool) → AreOwn (map (λ (d : Entry). (d.0, new_item other d.0 d.1)) (filter (λ (d : Entry). not (has_key current d.0)) es))
        → AreOwn (map (λ (d : Entry). (d.0, new_item other d.0 d.1)) (cond (not b) (e ∷ filter (λ (d : Entry). not (has_key current d.0)) es) (filter (λ (d : Entry). not (has_key current d.0)) es)))
    here true rest = rest
    here false rest = (own_as e.0 e.1 (new_item other e.0 e.1) (new_instance other e.0 e.1) own.0, rest)

own_both : (xs ys : List Entry) → AreOwn xs → AreOwn ys → AreOwn (xs ++ ys)
own_both [] ys first second = second
own_both (x ∷ xs) ys first second = (first.0, own_both xs ys first.1 second)

joined_own : (other : Bool) (current brought : List Entry) → AreOwn current → AreOwn brought → AreOwn (joined_entries other current brought)
joined_own other current brought first second =
    own_both (map (joined_entry other brought) current) (map (λ (e : Entry). (e.0, new_item other e.0 e.1)) (filter (λ (e : Entry). not (has_key current e.0)) brought)) (kept_own other brought current first) (new_own other current brought second)

-- what is brought of a list of a good world is
brought_own : (interfaces : List Interface) (m : Maps) (w : ℕ) (entries : List Entry) → IsKeyed interfaces entries → AreOwn (map (entry_image m w) entries)
brought_own interfaces m w entries keyed = go entries (λ i f held at. keyed.exports i f held at)
  where
    one : (k : WorldKey) (held : WorldItem) → ((f : ℕ) → k ≡ key.Interface f → IsExport interfaces (key.Interface f) held) → IsUnderOwnKey (entry_image m w (k, held)).0 (entry_image m w (k, held)).1
    one (key.Name label) held is = tt
    one (key.Interface f) (item.Interface id stability docs span external_id) is = ap (λ (x : ℕ). m.interfaces x ∷ []) (is f refl).0
    one (key.Interface f) (item.Function g) is = absurd (is f refl)
    one (key.Interface f) (item.Type_ t span) is = absurd (is f refl)

    go : (es : List Entry) → ((i f : ℕ) (held : WorldItem) → slice_get es i ≡ Some (key.Interface f, held) → IsExport interfaces (key.Interface f) held) → AreOwn (map (entry_image m w) es)
    go [] each = tt
    go (e ∷ es) each = (one e.0 e.1 (λ f called. each 0 f e.1 (ap (λ (x : WorldKey). Some (x, e.1)) called)), go es (λ i. each (suc i)))

-- so it is with an include more
pub one_own : (home : ℕ) (b : PartiallyLinked) (include : WorldInclude) → CanBeIncluded b include → HaveOwnKeys b.lists → HaveOwnKeys (with_one home b include).lists
one_own home b include can own = by (slice_get b.graph.worlds include.id) refl
  where
    by : (o : Option World) → slice_get b.graph.worlds include.id ≡ o → HaveOwnKeys (with_one home b include).lists
    by None at = subst (λ (x : PartiallyLinked). HaveOwnKeys x.lists) (sym (none_is home b include at)) own
    by (Some old) at =
        let good = (can old at).world in
        subst (λ (x : PartiallyLinked). HaveOwnKeys x.lists) (sym (some_is home b include old at)) (record {
          imports = joined_own (is_other_package old.package home) b.lists.imports (map (entry_image (copy_maps b.graph include.id old include.names (length b.graph.worlds) home) include.id) old.imports) own.imports
              (brought_own b.graph.interfaces (copy_maps b.graph include.id old include.names (length b.graph.worlds) home) include.id old.imports (imports_keyed b.graph include.id old good));
          exports = joined_own (is_other_package old.package home) b.lists.exports (map (entry_image (copy_maps b.graph include.id old include.names (length b.graph.worlds) home) include.id) old.exports) own.exports
              (brought_own b.graph.interfaces (copy_maps b.graph include.id old include.names (length b.graph.worlds) home) include.id old.exports (exports_keyed b.graph include.id old good));
        })
