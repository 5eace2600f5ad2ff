-- What mentions make, one after another.
use Rattle.std.proofs.Common.{◌≡◌, ℕ, Bool, true, false, cond, not, List, [], ◌∷◌, ◌++◌, length, map, filter, find, slice_get, slice_set, Option, None, Some, is_some, refl, sym, ap, ◌∙◌, bytes_eq, fold, option_and_then, append_assoc, append-nil, unwrap_or}
use Rattle.std.proofs.lemmas.List.{length-map, map-append}
use Rattle.std.proofs.lemmas.List.Elements.{filter-append}
use Rattle.std.proofs.lemmas.List.Folds.{find-append}
use Rattle.std.specs.List.{AllByRecursion, position_or_len}
use Rattle.std.specs.Map.{lookup}
use Rattle.std.specs.Option.{option_map, option_map_or, option_or}
use Rattle.wit_data.specs.Foreign.{ForeignItem, ForeignItems}
use Rattle.wit_names.specs.PackageName.{same_package}
use Rattle.wit_data.specs.declared.unresolved.AstItem.{AstItem}
use Rattle.wit_data.specs.declared.interface.Interface.{Interface}
use Rattle.wit_names.specs.declared.package_name.PackageName.{PackageName}
use Rattle.wit_data.specs.declared.stability.Stability.{Stability}
use Rattle.wit_data.specs.declared.types.TypeDef.{TypeDef}
use Rattle.wit_data.specs.declared.types.TypeDefKind.TheVariants as kind
use Rattle.wit_data.specs.declared.types.TypeOwner.TheVariants as owner
use Rattle.wit_data.specs.declared.unresolved.AstItem.TheVariants as item
use Rattle.wit_script_package.specs.Adding.{empty_interface, empty_world, type_with, with_interface_type, with_type}
use Rattle.wit_script_package.specs.Draft.{new_draft_at}
use Rattle.wit_script_package.specs.Mention.{first_interfaces, first_role, known_mentions, first_packages, first_types, first_worlds, firsts, foreign_type, interface_id_of, is_world, mentioned_at, same_item, same_name, same_parent, same_type, type_id_of, used_type_name}
use Rattle.wit_script_package.proofs.Parts.{agrees_on_role, uses_type, with_type_name_in}
use Rattle.wit_script_package.specs.steps.Mentioning.{fits, is_world_item, with_counted, with_dep_span, with_foreign, with_foreign_as, with_foreign_gate, with_foreign_type, with_gate, with_item_gate, with_mention, with_mention_of, with_package_gate, with_type_span, with_use_as}
use Rattle.wit_script_package.specs.Naming.{OptionalSpan, foreign_named}
use Rattle.wit_script_package.specs.declared.draft.Draft.{Draft}
use Rattle.wit_script_package.specs.declared.draft.Scope.TheVariants as scope
use Rattle.wit_script_package.specs.declared.draft.LineContext.{LineContext}
use Rattle.wit_script_package.specs.declared.mention.Mention.{Mention}
use Rattle.wit_script_package.specs.declared.mention.MentionKind.{MentionKind}
use Rattle.wit_script_package.specs.declared.mention.MentionKind.TheVariants as taken
use Rattle.wit_script_package.proofs.Firsts.{each, each-first, each-kept, filter-none, find-filter, find-firsts, find-kept, found-passes, none-first, find-last, find-same, firsts-apart, firsts-new, firsts-old, map-each, none-filter, place-new, place-old, position-same}
use Rattle.wit_script_package.proofs.Same.{item-parent, item-through, item-turn, own-item, own-text, parent-through, parent-turn, type-through, type-turn}
use Rattle.wit_script_package.proofs.Tables.{Tells, Transforms, item-at, item-changed, lookup-rows, rows-same, value-changed, value-last}
use Rattle.wit_script_package.specs.steps.Parts.{with_newline, world_id_of, foreign_world}

-- one more, kept or not
filter-in : (q : Mention → Bool) (ks : List Mention) (m : Mention) → q m ≡ true → filter q (ks ++ m ∷ []) ≡ filter q ks ++ m ∷ []
filter-in q ks m kept = filter-append q ks (m ∷ []) ∙ rw kept refl

filter-out : (q : Mention → Bool) (ks : List Mention) (m : Mention) → q m ≡ false → filter q (ks ++ m ∷ []) ≡ filter q ks
filter-out q ks m kept = filter-append q ks (m ∷ []) ∙ rw kept (append-nil (filter q ks))

-- a mention of an interface, of a world
abbrev of_interface : Mention → Bool
of_interface m = not (is_world m.kind)

abbrev of_world : Mention → Bool
of_world m = is_world m.kind

-- what an earlier mention of the item takes it for, this one does too
abbrev role_fits : Mention → Option Mention → Bool
role_fits m None = true
role_fits m (Some n) = cond (is_world m.kind) (is_world n.kind) (not (is_world n.kind))

module _ (all : List Mention) where
  -- what a mention names
  abbrev pub item_of : Mention → AstItem
  item_of m = cond (is_world m.kind) (item.World (world_id_of all m)) (item.Interface (interface_id_of all m))

  -- the name of a type of an interface
  abbrev named_type : Mention → List ℕ × ℕ
  named_type t = (unwrap_or (used_type_name t.kind) [], type_id_of all t)

  -- an interface with those of these types that are of it
  abbrev interface_by : List Mention → Mention → Interface
  interface_by us i = record (empty_interface i.name (mentioned_at i)) { types = map named_type (filter (same_item i) us) }

  -- the gates of an item
  abbrev gates_by : List Mention → Mention → AstItem × List Stability
  gates_by ks i = (item_of i, map (λ (n : Mention). n.gate) (filter (same_item i) ks))

  abbrev items_by : List Mention → Mention → List ForeignItem
  items_by ks p = map (λ (i : Mention). (i.name, gates_by ks i)) (firsts same_item (filter (same_parent p) ks))

  abbrev deps_by : List Mention → ForeignItems
  deps_by ks = map (λ (p : Mention). (p.parent, items_by ks p)) (first_packages ks)

  module _ (name : PackageName) (line : List ℕ) (span : OptionalSpan) where
    -- the package by these types, the interfaces and worlds of these mentions, and the gates of these
    abbrev made_by : List Mention → List Mention → List Mention → Draft
    made_by ts is ns = record {
      name = name;
      name_span = span;
      contents = with_newline line;
      interfaces = map (interface_by ts) (first_interfaces is);
      worlds = map foreign_world (first_worlds is);
      types = map (foreign_type all) ts;
      roots = map (type_id_of all) ts;
      required = [];
      interface_ids = [];
      world_ids = [];
      scope = scope.Package;
      foreign = record {
        deps = deps_by ns;
        dep_spans = map (λ (m : Mention). m.span) (first_packages ns);
        type_spans = map (λ (m : Mention). m.span) ts;
      };
    }

    -- the package by so many of the mentions
    abbrev pub so_far : List Mention → Draft
    so_far ks = made_by (first_types ks) ks ks

    module _ (ks : List Mention) (m : Mention) where
      -- with the next mention
      abbrev more : List Mention
      more = ks ++ m ∷ []

      -- ---- what is named

      -- the tests of the keys
      parents-told : AllByRecursion (Tells same_parent parent-through (same_package m.parent) m (λ (p : Mention). p.parent) (items_by ks)) (first_packages ks)
      parents-told = each (Tells same_parent parent-through (same_package m.parent) m (λ (p : Mention). p.parent) (items_by ks)) (λ p. refl) (first_packages ks)

      item-told : (p i : Mention) → same_parent m p ≡ true → same_parent p i ≡ true → bytes_eq m.name i.name ≡ same_item m i
      item-told p i same there = rw (parent-through m p i same, there) refl

      items-told : (p : Mention) → same_parent m p ≡ true
          → AllByRecursion (Tells same_item item-through (bytes_eq m.name) m (λ (i : Mention). i.name) (gates_by ks)) (firsts same_item (filter (same_parent p) ks))
      items-told p same =
          each-first (λ i. bytes_eq m.name i.name ≡ same_item m i) same_item (filter (same_parent p) ks)
          (each-kept (λ i. bytes_eq m.name i.name ≡ same_item m i) (same_parent p) (λ i there. item-told p i same there) ks)

      -- the item among those of its package
      in-package : (p : Mention) → same_parent m p ≡ true → find (same_item m) (filter (same_parent p) ks) ≡ find (same_item m) ks
      in-package p same = find-filter (same_item m) (same_parent p) (λ z there. sym (parent-through m p z same) ∙ item-parent m z there) ks

      no-item : find (same_parent m) ks ≡ None → find (same_item m) ks ≡ None
      no-item none = sym (find-filter (same_item m) (same_parent m) (λ z there. item-parent m z there) ks) ∙ ap (find (same_item m)) (filter-none (same_parent m) ks none)

      package-found : lookup (same_package m.parent) (deps_by ks) ≡ option_map (items_by ks) (find (same_parent m) ks)
      package-found =
          lookup-rows same_parent parent-through (same_package m.parent) m (λ (p : Mention). p.parent) (items_by ks) (first_packages ks) parents-told
          ∙ ap (option_map (items_by ks)) (find-firsts same_parent parent-turn parent-through m ks)

      item-found : (p : Mention) → same_parent m p ≡ true → lookup (bytes_eq m.name) (items_by ks p) ≡ option_map (gates_by ks) (find (same_item m) ks)
      item-found p same =
          lookup-rows same_item item-through (bytes_eq m.name) m (λ (i : Mention). i.name) (gates_by ks) (firsts same_item (filter (same_parent p) ks)) (items-told p same)
          ∙ ap (option_map (gates_by ks)) (find-firsts same_item item-turn item-through m (filter (same_parent p) ks) ∙ in-package p same)

      only_item : (o : Option Mention) → option_map (λ (noted : AstItem × List Stability). noted.0) (option_map (gates_by ks) o) ≡ option_map item_of o
      only_item None = refl
      only_item (Some n) = refl

      pub named : foreign_named (so_far ks) m.parent m.name ≡ option_map item_of (find (same_item m) ks)
      named = ap (option_and_then (λ (items : List ForeignItem). option_map (λ (noted : AstItem × List Stability). noted.0) (lookup (bytes_eq m.name) items))) package-found ∙ by (find (same_parent m) ks) refl where
        by : (o : Option Mention) → find (same_parent m) ks ≡ o
            → option_and_then (λ (items : List ForeignItem). option_map (λ (noted : AstItem × List Stability). noted.0) (lookup (bytes_eq m.name) items)) (option_map (items_by ks) o)
            ≡ option_map item_of (find (same_item m) ks)
        by None none = rw (no-item none) refl
        by (Some p) found =
            ap (option_map (λ (noted : AstItem × List Stability). noted.0)) (item-found p (found-passes (same_parent m) ks p found)) ∙ only_item (find (same_item m) ks)

      -- ---- notes

      gates-other : (i : Mention) → same_item m i ≡ false → gates_by more i ≡ gates_by ks i
      gates-other i other = ap (λ (l : List Mention). (item_of i, map (λ (n : Mention). n.gate) l)) (filter-out (same_item i) ks m (item-turn i m ∙ other))

      gates-same : (i : Mention) → same_item m i ≡ true → gates_by more i ≡ with_gate m.gate (gates_by ks i)
      gates-same i same =
          ap (λ (l : List Mention). (item_of i, map (λ (n : Mention). n.gate) l)) (filter-in (same_item i) ks m (item-turn i m ∙ same))
          ∙ ap (λ (l : List Stability). (item_of i, l)) (map-append (λ (n : Mention). n.gate) (filter (same_item i) ks) (m ∷ []))

      gates-first : find (same_item m) ks ≡ None → gates_by more m ≡ with_gate m.gate (item_of m, [])
      gates-first none =
          gates-same m (own-item m) ∙ ap (λ (l : List Mention). with_gate m.gate (item_of m, map (λ (n : Mention). n.gate) l)) (filter-none (same_item m) ks none)

      abbrev ItemChanges : Mention → Type 0
      ItemChanges = Transforms same_item item-through (bytes_eq m.name) m (λ (i : Mention). i.name) (gates_by ks) (gates_by more) m.name (item_of m, []) (with_gate m.gate)

      items-change : (p : Mention) → same_parent m p ≡ true → AllByRecursion ItemChanges (firsts same_item (filter (same_parent p) ks))
      items-change p same =
          each-first ItemChanges same_item (filter (same_parent p) ks)
          (each-kept ItemChanges (same_parent p) (λ i there. record { told = item-told p i same there; other = gates-other i; changed = gates-same i }) ks)

      -- the items of the package of the mention
      items-more : (p : Mention) → same_parent m p ≡ true → with_item_gate m.name (item_of m) m.gate (items_by ks p) ≡ items_by more p
      items-more p same = by (find (same_item m) ks) refl where
        among : List Mention
        among = filter (same_parent p) ks

        grown : filter (same_parent p) more ≡ filter (same_parent p) ks ++ m ∷ []
        grown = filter-in (same_parent p) ks m (parent-turn p m ∙ same)

        by : (o : Option Mention) → find (same_item m) ks ≡ o → with_item_gate m.name (item_of m) m.gate (items_by ks p) ≡ items_by more p
        by None none =
            let absent : find (same_item m) (filter (same_parent p) ks) ≡ None = in-package p same ∙ none in
            let absent_first : find (same_item m) (firsts same_item (filter (same_parent p) ks)) ≡ None = find-firsts same_item item-turn item-through m (filter (same_parent p) ks) ∙ absent in
            value-last same_item item-through (bytes_eq m.name) m (λ (i : Mention). i.name) (gates_by ks) m.name (item_of m, []) (with_gate m.gate) (firsts same_item (filter (same_parent p) ks)) (items-told p same) absent_first
            ∙ ap (λ (l : List ForeignItem). l ++ (m.name, with_gate m.gate (item_of m, [])) ∷ [])
            (sym (rows-same same_item item-through (bytes_eq m.name) m (λ (i : Mention). i.name) (gates_by ks) (gates_by more) m.name (item_of m, []) (with_gate m.gate) (firsts same_item (filter (same_parent p) ks)) (items-change p same) absent_first))
            ∙ ap (λ (g : AstItem × List Stability). map (λ (i : Mention). (i.name, gates_by more i)) (firsts same_item (filter (same_parent p) ks)) ++ (m.name, g) ∷ []) (sym (gates-first none))
            ∙ sym (map-append (λ (i : Mention). (i.name, gates_by more i)) (firsts same_item (filter (same_parent p) ks)) (m ∷ []))
            ∙ ap (map (λ (i : Mention). (i.name, gates_by more i))) (sym (ap (firsts same_item) grown ∙ firsts-new same_item item-turn item-through (filter (same_parent p) ks) m absent))
        by (Some n) found =
            let there : find (same_item m) (filter (same_parent p) ks) ≡ Some n = in-package p same ∙ found in
            value-changed same_item item-through (bytes_eq m.name) m (λ (i : Mention). i.name) (gates_by ks) (gates_by more) m.name (item_of m, []) (with_gate m.gate) (firsts same_item (filter (same_parent p) ks)) n
            (items-change p same) (firsts-apart same_item (filter (same_parent p) ks)) (find-firsts same_item item-turn item-through m (filter (same_parent p) ks) ∙ there)
            ∙ ap (map (λ (i : Mention). (i.name, gates_by more i))) (sym (ap (firsts same_item) grown ∙ firsts-old same_item item-turn item-through (filter (same_parent p) ks) m n there))

      -- the items of another package
      apart : (p i : Mention) → same_parent m p ≡ false → same_parent p i ≡ true → same_item m i ≡ false
      apart p i other there = by (same_item m i) refl where
        by : (b : Bool) → same_item m i ≡ b → b ≡ false
        by true same = sym (item-parent m i same) ∙ (parent-turn m i ∙ sym (parent-through p i m there) ∙ parent-turn p m ∙ other)
        by false same = refl

      items-other : (p : Mention) → same_parent m p ≡ false → items_by more p ≡ items_by ks p
      items-other p other =
          ap (λ (l : List Mention). map (λ (i : Mention). (i.name, gates_by more i)) (firsts same_item l)) (filter-out (same_parent p) ks m (parent-turn p m ∙ other))
          ∙ map-each (λ (i : Mention). (i.name, gates_by more i)) (λ (i : Mention). (i.name, gates_by ks i)) (firsts same_item (filter (same_parent p) ks))
          (each-first _ same_item (filter (same_parent p) ks) (each-kept (λ (i : Mention). (i.name, gates_by more i) ≡ (i.name, gates_by ks i)) (same_parent p)
          (λ i there. ap (λ (g : AstItem × List Stability). (i.name, g)) (gates-other i (apart p i other there))) ks))

      abbrev PackageChanges : Mention → Type 0
      PackageChanges =
          Transforms same_parent parent-through (same_package m.parent) m (λ (p : Mention). p.parent) (items_by ks) (items_by more) m.parent [] (with_item_gate m.name (item_of m) m.gate)

      packages-change : AllByRecursion PackageChanges (first_packages ks)
      packages-change = each PackageChanges (λ p. record { told = refl; other = items-other p; changed = λ same. sym (items-more p same) }) (first_packages ks)

      own-parent : same_parent m m ≡ true
      own-parent = item-parent m m (own-item m)

      -- what is named of other packages
      deps-more : with_package_gate m.parent m.name (item_of m) m.gate (deps_by ks) ≡ deps_by more
      deps-more = by (find (same_parent m) ks) refl where
        by : (o : Option Mention) → find (same_parent m) ks ≡ o → with_package_gate m.parent m.name (item_of m) m.gate (deps_by ks) ≡ deps_by more
        by None none =
            let absent : find (same_parent m) (first_packages ks) ≡ None = find-firsts same_parent parent-turn parent-through m ks ∙ none in
            let first : with_item_gate m.name (item_of m) m.gate [] ≡ items_by more m =
            ap (λ (l : List Mention). with_item_gate m.name (item_of m) m.gate (map (λ (i : Mention). (i.name, gates_by ks i)) (firsts same_item l))) (sym (filter-none (same_parent m) ks none))
            ∙ items-more m own-parent in
            value-last same_parent parent-through (same_package m.parent) m (λ (p : Mention). p.parent) (items_by ks) m.parent [] (with_item_gate m.name (item_of m) m.gate) (first_packages ks) parents-told absent
            ∙ ap (λ (l : ForeignItems). l ++ (m.parent, with_item_gate m.name (item_of m) m.gate []) ∷ [])
            (sym (rows-same same_parent parent-through (same_package m.parent) m (λ (p : Mention). p.parent) (items_by ks) (items_by more) m.parent [] (with_item_gate m.name (item_of m) m.gate) (first_packages ks) packages-change absent))
            ∙ ap (λ (l : List ForeignItem). map (λ (p : Mention). (p.parent, items_by more p)) (first_packages ks) ++ (m.parent, l) ∷ []) first
            ∙ sym (map-append (λ (p : Mention). (p.parent, items_by more p)) (first_packages ks) (m ∷ []))
            ∙ ap (map (λ (p : Mention). (p.parent, items_by more p))) (sym (firsts-new same_parent parent-turn parent-through ks m none))
        by (Some n) found =
            value-changed same_parent parent-through (same_package m.parent) m (λ (p : Mention). p.parent) (items_by ks) (items_by more) m.parent [] (with_item_gate m.name (item_of m) m.gate) (first_packages ks) n
            packages-change (firsts-apart same_parent ks) (find-firsts same_parent parent-turn parent-through m ks ∙ found)
            ∙ ap (map (λ (p : Mention). (p.parent, items_by more p))) (sym (firsts-old same_parent parent-turn parent-through ks m n found))

      spans-more : with_dep_span (deps_by ks) m.parent m.span (map (λ (n : Mention). n.span) (first_packages ks)) ≡ map (λ (n : Mention). n.span) (first_packages more)
      spans-more = rw package-found (by (find (same_parent m) ks) refl) where
        by : (o : Option Mention) → find (same_parent m) ks ≡ o
            → cond (is_some (option_map (items_by ks) o)) (map (λ (n : Mention). n.span) (first_packages ks)) (map (λ (n : Mention). n.span) (first_packages ks) ++ m.span ∷ [])
            ≡ map (λ (n : Mention). n.span) (first_packages more)
        by None none =
            sym (map-append (λ (n : Mention). n.span) (first_packages ks) (m ∷ []))
            ∙ ap (map (λ (n : Mention). n.span)) (sym (firsts-new same_parent parent-turn parent-through ks m none))
        by (Some n) found = ap (map (λ (n : Mention). n.span)) (sym (firsts-old same_parent parent-turn parent-through ks m n found))

      noted : (ts is : List Mention) → with_foreign_gate (made_by ts is ks) m (item_of m) ≡ made_by ts is more
      noted ts is = λ i. record (made_by ts is ks) {
        foreign = record { deps = deps-more i; dep_spans = spans-more i; type_spans = map (λ (n : Mention). n.span) ts };
      }

      -- ---- what a mention takes an item for

      world-told : (n : Mention) → is_world_item (item_of n) ≡ is_world n.kind
      world-told n = by (is_world n.kind) where
        by : (b : Bool) → is_world_item (cond b (item.World (world_id_of all n)) (item.Interface (interface_id_of all n))) ≡ b
        by true = refl
        by false = refl

      fits-told : (n : Mention) → fits m.kind (item_of n) ≡ cond (is_world m.kind) (is_world n.kind) (not (is_world n.kind))
      fits-told n = ap (λ (b : Bool). cond (is_world m.kind) b (not b)) (world-told n)

      -- a mention that doesn't count
      pub passed : role_fits m (find (same_item m) ks) ≡ false → with_mention (so_far ks) m ≡ so_far ks
      passed unlike = ap (with_mention_of (so_far ks) m) named ∙ by (find (same_item m) ks) unlike where
        by : (o : Option Mention) → role_fits m o ≡ false → with_mention_of (so_far ks) m (option_map item_of o) ≡ so_far ks
        by None unlike = cc
        by (Some n) unlike = rw (fits-told n ∙ unlike) refl

      module _ (rest : List Mention) (is_all : all ≡ ks ++ m ∷ rest) where
        ahead : all ≡ more ++ rest
        ahead = is_all ∙ sym (append_assoc ks (m ∷ []) rest)

        -- ---- interfaces and worlds

        same-id : (n : Mention) → same_item m n ≡ true → (xs : List Mention) → position_or_len (same_item n) xs ≡ position_or_len (same_item m) xs
        same-id n same xs = position-same (same_item n) (same_item m) (λ z. sym (item-through m n z same)) xs

        interface-place : find (same_item m) ks ≡ None → is_world m.kind ≡ false → interface_id_of all m ≡ length (first_interfaces ks)
        interface-place none not_world =
            ap (λ (l : List Mention). position_or_len (same_item m) (firsts same_item (filter of_interface l))) is_all
            ∙ ap (λ (l : List Mention). position_or_len (same_item m) (firsts same_item l)) (filter-append of_interface ks (m ∷ rest) ∙ rw not_world refl)
            ∙ place-new same_item item-turn item-through (filter of_interface ks) (filter of_interface rest) m (none-filter (same_item m) of_interface ks none) (own-item m)

        world-place : find (same_item m) ks ≡ None → is_world m.kind ≡ true → world_id_of all m ≡ length (first_worlds ks)
        world-place none is_one =
            ap (λ (l : List Mention). position_or_len (same_item m) (firsts same_item (filter of_world l))) is_all
            ∙ ap (λ (l : List Mention). position_or_len (same_item m) (firsts same_item l)) (filter-append of_world ks (m ∷ rest) ∙ rw is_one refl)
            ∙ place-new same_item item-turn item-through (filter of_world ks) (filter of_world rest) m (none-filter (same_item m) of_world ks none) (own-item m)

        interfaces-new : find (same_item m) ks ≡ None → is_world m.kind ≡ false → first_interfaces more ≡ first_interfaces ks ++ m ∷ []
        interfaces-new none not_world =
            ap (firsts same_item) (filter-in of_interface ks m (ap not not_world)) ∙ firsts-new same_item item-turn item-through (filter of_interface ks) m (none-filter (same_item m) of_interface ks none)

        interfaces-other : is_world m.kind ≡ true → first_interfaces more ≡ first_interfaces ks
        interfaces-other is_one = ap (firsts same_item) (filter-out of_interface ks m (ap not is_one))

        worlds-new : find (same_item m) ks ≡ None → is_world m.kind ≡ true → first_worlds more ≡ first_worlds ks ++ m ∷ []
        worlds-new none is_one =
            ap (firsts same_item) (filter-in of_world ks m is_one) ∙ firsts-new same_item item-turn item-through (filter of_world ks) m (none-filter (same_item m) of_world ks none)

        worlds-other : is_world m.kind ≡ false → first_worlds more ≡ first_worlds ks
        worlds-other not_world = ap (firsts same_item) (filter-out of_world ks m not_world)

        -- no type of a new interface is used
        bare : find (same_item m) ks ≡ None → interface_by (first_types ks) m ≡ empty_interface m.name (mentioned_at m)
        bare none =
            ap (λ (l : List Mention). let made : Interface = record (empty_interface m.name (mentioned_at m)) { types = map named_type l } in made)
            (filter-none (same_item m) (first_types ks) (none-first (same_item m) same_type (filter uses_type ks) (none-filter (same_item m) uses_type ks none)))

        interface-begun : find (same_item m) ks ≡ None → is_world m.kind ≡ false
            → ◌≡◌ {A = AstItem × Draft} (item.Interface (length (so_far ks).interfaces), record (so_far ks) { interfaces = (so_far ks).interfaces ++ empty_interface m.name (mentioned_at m) ∷ [] })
            (item_of m, made_by (first_types ks) more ks)
        interface-begun none not_world =
            let id : item.Interface (length (so_far ks).interfaces) ≡ item_of m =
            ap item.Interface (length-map (first_interfaces ks) (interface_by (first_types ks)) ∙ sym (interface-place none not_world)) ∙ rw not_world refl in
            let interfaces : (so_far ks).interfaces ++ empty_interface m.name (mentioned_at m) ∷ [] ≡ map (interface_by (first_types ks)) (first_interfaces more) =
            ap (λ (i : Interface). (so_far ks).interfaces ++ i ∷ []) (sym (bare none))
            ∙ sym (map-append (interface_by (first_types ks)) (first_interfaces ks) (m ∷ [])) ∙ ap (map (interface_by (first_types ks))) (sym (interfaces-new none not_world)) in
            let worlds : map foreign_world (first_worlds ks) ≡ map foreign_world (first_worlds more) = ap (map foreign_world) (sym (worlds-other not_world)) in
            λ i. (id i, record (so_far ks) { interfaces = interfaces i; worlds = worlds i })

        world-begun : find (same_item m) ks ≡ None → is_world m.kind ≡ true
            → ◌≡◌ {A = AstItem × Draft} (item.World (length (so_far ks).worlds), record (so_far ks) { worlds = (so_far ks).worlds ++ empty_world m.name (mentioned_at m) ∷ [] })
            (item_of m, made_by (first_types ks) more ks)
        world-begun none is_one =
            let id : item.World (length (so_far ks).worlds) ≡ item_of m = ap item.World (length-map (first_worlds ks) foreign_world ∙ sym (world-place none is_one)) ∙ rw is_one refl in
            let worlds : (so_far ks).worlds ++ empty_world m.name (mentioned_at m) ∷ [] ≡ map foreign_world (first_worlds more) =
            sym (map-append foreign_world (first_worlds ks) (m ∷ [])) ∙ ap (map foreign_world) (sym (worlds-new none is_one)) in
            let interfaces : map (interface_by (first_types ks)) (first_interfaces ks) ≡ map (interface_by (first_types ks)) (first_interfaces more) =
            ap (map (interface_by (first_types ks))) (sym (interfaces-other is_one)) in
            λ i. (id i, record (so_far ks) { interfaces = interfaces i; worlds = worlds i })

        -- the first mention of an item
        begins : find (same_item m) ks ≡ None → with_foreign (so_far ks) m ≡ (item_of m, made_by (first_types ks) more ks)
        begins none = by m.kind refl where
          by : (k : MentionKind) → m.kind ≡ k → with_foreign_as (so_far ks) m k ≡ (item_of m, made_by (first_types ks) more ks)
          by taken.Interface is = interface-begun none (ap is_world is)
          by (taken.Type_ n) is = interface-begun none (ap is_world is)
          by taken.World is = world-begun none (ap is_world is)

        -- another mention of an item
        pub record IsSame (n : Mention) : Type 0 where
          pub draft : so_far ks ≡ made_by (first_types ks) more ks
          pub id : item_of n ≡ item_of m

        again : (n : Mention) → find (same_item m) ks ≡ Some n → fits m.kind (item_of n) ≡ true → IsSame n
        again n found fitting = by (is_world m.kind) (is_world n.kind) refl refl (sym (fits-told n) ∙ fitting) where
          same : same_item m n ≡ true
          same = found-passes (same_item m) ks n found

          at_world : is_world m.kind ≡ true → is_world n.kind ≡ true → IsSame n
          at_world mine its =
              let worlds : first_worlds ks ≡ first_worlds more =
              sym (ap (firsts same_item) (filter-in of_world ks m mine) ∙ firsts-old same_item item-turn item-through (filter of_world ks) m n (find-kept (same_item m) of_world ks n found its)) in
              record {
                draft = λ i. record (so_far ks) { interfaces = map (interface_by (first_types ks)) (sym (interfaces-other mine) i); worlds = map foreign_world (worlds i) };
                id = rw (mine, its) (ap item.World (same-id n (found-passes (same_item m) ks n found) (first_worlds all)));
              }

          at_interface : is_world m.kind ≡ false → is_world n.kind ≡ false → IsSame n
          at_interface mine its =
              let interfaces : first_interfaces ks ≡ first_interfaces more =
              sym (ap (firsts same_item) (filter-in of_interface ks m (ap not mine))
              ∙ firsts-old same_item item-turn item-through (filter of_interface ks) m n (find-kept (same_item m) of_interface ks n found (ap not its))) in
              record {
                draft = λ i. record (so_far ks) { interfaces = map (interface_by (first_types ks)) (interfaces i); worlds = map foreign_world (sym (worlds-other mine) i) };
                id = rw (mine, its) (ap item.Interface (same-id n (found-passes (same_item m) ks n found) (first_interfaces all)));
              }

          by : (b c : Bool) → is_world m.kind ≡ b → is_world n.kind ≡ c → cond b c (not c) ≡ true → IsSame n
          by true true mine its fitting = at_world mine its
          by true false mine its fitting = cc
          by false true mine its fitting = cc
          by false false mine its fitting = at_interface mine its

        -- ---- types

        -- a mention that uses no type
        no-type : (uses_type m ≡ false) → made_by (first_types ks) more more ≡ so_far more
        no-type none = ap (λ (l : List Mention). made_by (firsts same_type l) more more) (sym (filter-out uses_type ks m none))

        module _ (n : List ℕ) (is : m.kind ≡ taken.Type_ n) where
          uses : uses_type m ≡ true
          uses = ap (λ (k : MentionKind). is_some (used_type_name k)) is

          of-itself : same_name (used_type_name m.kind) (used_type_name m.kind) ≡ true
          of-itself = rw is (own-text n)

          not_world : is_world m.kind ≡ false
          not_world = ap is_world is

          -- the name of a type in the interface of the mention
          type-told : (t : Mention) → uses_type t ≡ true → same_item m t ≡ true → bytes_eq n (unwrap_or (used_type_name t.kind) []) ≡ same_type m t
          type-told t has there = rw (there, is) (by t.kind has) where
            by : (k : MentionKind) → is_some (used_type_name k) ≡ true → bytes_eq n (unwrap_or (used_type_name k) []) ≡ same_name (Some n) (used_type_name k)
            by taken.Interface has = cc
            by (taken.Type_ other) has = refl
            by taken.World has = cc

          type-apart : (t : Mention) → same_item m t ≡ false → same_type m t ≡ false
          type-apart t other = rw other refl

          -- what is found among the types of an interface
          types-found : (y : Mention) → same_item m y ≡ true → (ts : List Mention) → AllByRecursion (λ (t : Mention). uses_type t ≡ true) ts
              → lookup (bytes_eq n) (map named_type (filter (same_item y) ts)) ≡ option_map (type_id_of all) (find (same_type m) ts)
          types-found y same [] using = refl
          types-found y same (t ∷ ts) using = by (same_item y t) refl (types-found y same ts using.1) where
            by : (b : Bool) → same_item y t ≡ b → lookup (bytes_eq n) (map named_type (filter (same_item y) ts)) ≡ option_map (type_id_of all) (find (same_type m) ts)
                → lookup (bytes_eq n) (map named_type (cond b (t ∷ filter (same_item y) ts) (filter (same_item y) ts))) ≡ option_map (type_id_of all) (find (same_type m) (t ∷ ts))
            by true there rest = rw (type-told t using.0 (item-through m y t same ∙ there), rest) (at (same_type m t)) where
              at : (c : Bool) → cond c (Some (type_id_of all t)) (option_map (type_id_of all) (find (same_type m) ts)) ≡ option_map (type_id_of all) (cond c (Some t) (find (same_type m) ts))
              at true = refl
              at false = refl
            by false there rest = rw (type-apart t (item-through m y t same ∙ there)) rest

          all-use : AllByRecursion (λ (t : Mention). uses_type t ≡ true) (first_types ks)
          all-use = each-first (λ (t : Mention). uses_type t ≡ true) same_type (filter uses_type ks) (each-kept (λ (t : Mention). uses_type t ≡ true) uses_type (λ t kept. kept) ks)

          -- the interface of the mention
          interface-there : (y : Mention) × (find (same_item m) (filter of_interface more) ≡ Some y)
          interface-there = let last = find-last (same_item m) (filter of_interface ks) m (own-item m) in (last.0, ap (find (same_item m)) (filter-in of_interface ks m (ap not not_world)) ∙ last.1)

          the_one : Mention
          the_one = interface-there.0

          the-one-same : same_item m the_one ≡ true
          unfolding the_one
          the-one-same = found-passes (same_item m) (filter of_interface more) interface-there.0 interface-there.1

          found-first : find (same_item m) (first_interfaces more) ≡ Some the_one
          unfolding the_one
          found-first = find-firsts same_item item-turn item-through m (filter of_interface more) ∙ interface-there.1

          place : interface_id_of all m ≡ position_or_len (same_item m) (first_interfaces more)
          place =
              ap (λ (l : List Mention). position_or_len (same_item m) (firsts same_item (filter of_interface l))) ahead
              ∙ ap (λ (l : List Mention). position_or_len (same_item m) (firsts same_item l)) (filter-append of_interface more rest)
              ∙ place-old same_item item-turn item-through (filter of_interface more) (filter of_interface rest) m interface-there.0 interface-there.1

          abbrev ts : List Mention
          ts = first_types ks

          -- the package before its types are looked at
          abbrev half : Draft
          half = made_by ts more more

          there : slice_get half.interfaces (interface_id_of all m) ≡ Some (interface_by ts the_one)
          there = rw place (item-at (same_item m) (interface_by ts) (first_interfaces more) ∙ ap (option_map (interface_by ts)) found-first)

          looked : lookup (bytes_eq n) (interface_by ts the_one).types ≡ option_map (type_id_of all) (find (same_type m) ts)
          looked = types-found the_one the-one-same ts all-use

          abbrev here : LineContext
          here = record { gate = m.gate; span = m.span }

          -- with the name of the type
          abbrev with_name : Draft
          with_name = record half {
            interfaces = slice_set half.interfaces (interface_id_of all m) (record (interface_by ts the_one) { types = (interface_by ts the_one).types ++ (n, length half.types) ∷ [] });
          }

          abbrev grown : Draft → Draft
          grown q = with_type q (type_with (Some n) kind.Unknown (owner.Interface (interface_id_of all m)) here)

          made : with_interface_type half n kind.Unknown here (interface_id_of all m) ≡ option_map grown (cond (is_some (option_map (type_id_of all) (find (same_type m) ts))) None (Some with_name))
          made =
              ap (λ (o : Option Interface). option_map grown (option_and_then (with_type_name_in half n (interface_id_of all m)) o)) there
              ∙ ap (λ (o : Option ℕ). option_map grown (cond (is_some o) None (Some with_name))) looked

          types-last : filter uses_type more ≡ filter uses_type ks ++ m ∷ []
          types-last = filter-in uses_type ks m uses

          type-place : find (same_type m) (filter uses_type ks) ≡ None → type_id_of all m ≡ length ts
          type-place none =
              ap (λ (l : List Mention). position_or_len (same_type m) (firsts same_type (filter uses_type l))) is_all
              ∙ ap (λ (l : List Mention). position_or_len (same_type m) (firsts same_type l)) (filter-append uses_type ks (m ∷ rest) ∙ rw uses refl)
              ∙ place-new same_type type-turn type-through (filter uses_type ks) (filter uses_type rest) m none (rw (own-item m) of-itself)

          -- the interface with its type
          with-type : find (same_type m) (filter uses_type ks) ≡ None
              → interface_by (ts ++ m ∷ []) the_one ≡ record (interface_by ts the_one) { types = (interface_by ts the_one).types ++ (n, length half.types) ∷ [] }
          with-type none =
              let entry : named_type m ≡ (n, length half.types) =
              ap (λ (k : MentionKind). (unwrap_or (used_type_name k) [], type_id_of all m)) is ∙ ap (λ (k : ℕ). (n, k)) (type-place none ∙ sym (length-map ts (foreign_type all))) in
              let listed : map named_type (filter (same_item the_one) (ts ++ m ∷ [])) ≡ map named_type (filter (same_item the_one) ts) ++ (n, length half.types) ∷ [] =
              ap (map named_type) (filter-in (same_item the_one) ts m (item-turn the_one m ∙ the-one-same)) ∙ map-append named_type (filter (same_item the_one) ts) (m ∷ [])
              ∙ ap (λ (e : List ℕ × ℕ). map named_type (filter (same_item the_one) ts) ++ e ∷ []) entry in
              λ i. record (interface_by ts the_one) { types = listed i }

          interfaces-typed : find (same_type m) (filter uses_type ks) ≡ None → with_name.interfaces ≡ map (interface_by (ts ++ m ∷ [])) (first_interfaces more)
          interfaces-typed none =
              ap (λ (j : Interface). slice_set half.interfaces (interface_id_of all m) j) (sym (with-type none))
              ∙ ap (λ (k : ℕ). slice_set half.interfaces k (interface_by (ts ++ m ∷ []) the_one)) place
              ∙ sym (item-changed same_item item-through m (interface_by ts) (interface_by (ts ++ m ∷ []))
              (λ p other. ap (λ (l : List Mention). let made : Interface = record (empty_interface p.name (mentioned_at p)) { types = map named_type l } in made) (filter-out (same_item p) ts m (item-turn p m ∙ other)))
              (first_interfaces more) the_one (firsts-apart same_item (filter of_interface more)) found-first)

          foreign-is : foreign_type all m ≡ type_with (Some n) kind.Unknown (owner.Interface (interface_id_of all m)) here
          foreign-is = ap (λ (k : MentionKind). type_with (used_type_name k) kind.Unknown (owner.Interface (interface_id_of all m)) here) is

          type-new : find (same_type m) (filter uses_type ks) ≡ None → with_type_span m.span (grown with_name) ≡ so_far more
          type-new none =
              let interfaces = interfaces-typed none in
              let types : map (foreign_type all) ts ++ type_with (Some n) kind.Unknown (owner.Interface (interface_id_of all m)) here ∷ [] ≡ map (foreign_type all) (ts ++ m ∷ []) =
              ap (λ (d : TypeDef). map (foreign_type all) ts ++ d ∷ []) (sym foreign-is) ∙ sym (map-append (foreign_type all) ts (m ∷ [])) in
              let roots : map (type_id_of all) ts ++ length half.types ∷ [] ≡ map (type_id_of all) (ts ++ m ∷ []) =
              ap (λ (k : ℕ). map (type_id_of all) ts ++ k ∷ []) (length-map ts (foreign_type all) ∙ sym (type-place none)) ∙ sym (map-append (type_id_of all) ts (m ∷ [])) in
              let spans : map (λ (k : Mention). k.span) ts ++ m.span ∷ [] ≡ map (λ (k : Mention). k.span) (ts ++ m ∷ []) = sym (map-append (λ (k : Mention). k.span) ts (m ∷ [])) in
              let whole : with_type_span m.span (grown with_name) ≡ made_by (ts ++ m ∷ []) more more =
              λ i. record half { interfaces = interfaces i; types = types i; roots = roots i; foreign = record half.foreign { type_spans = spans i } } in
              whole ∙ ap (λ (l : List Mention). made_by l more more) (sym (ap (firsts same_type) types-last ∙ firsts-new same_type type-turn type-through (filter uses_type ks) m none))

          type-old : (t : Mention) → find (same_type m) (filter uses_type ks) ≡ Some t → half ≡ so_far more
          type-old t found = ap (λ (l : List Mention). made_by l more more) (sym (ap (firsts same_type) types-last ∙ firsts-old same_type type-turn type-through (filter uses_type ks) m t found))

          type-used : with_foreign_type half n here (interface_id_of all m) ≡ so_far more
          type-used = ap (λ (o : Option Draft). option_map_or (with_type_span m.span) o half) made ∙ by (find (same_type m) (filter uses_type ks)) refl where
            by : (o : Option Mention) → find (same_type m) (filter uses_type ks) ≡ o
                → option_map_or (with_type_span m.span) (option_map grown (cond (is_some (option_map (type_id_of all) (find (same_type m) ts))) None (Some with_name))) half ≡ so_far more
            by None none = rw (find-firsts same_type type-turn type-through m (filter uses_type ks) ∙ none) (type-new none)
            by (Some t) found = rw (find-firsts same_type type-turn type-through m (filter uses_type ks) ∙ found) (type-old t found)

        -- what a mention uses
        used : with_use_as (made_by (first_types ks) more more) m (item_of m) m.kind ≡ so_far more
        used = by m.kind refl where
          by : (k : MentionKind) → m.kind ≡ k → with_use_as (made_by (first_types ks) more more) m (item_of m) k ≡ so_far more
          by taken.Interface is = no-type (ap (λ (k : MentionKind). is_some (used_type_name k)) is)
          by (taken.Type_ n) is = rw (ap is_world is) (type-used n is)
          by taken.World is = no-type (ap (λ (k : MentionKind). is_some (used_type_name k)) is)

        counted : with_counted (made_by (first_types ks) more ks) m (item_of m) ≡ so_far more
        counted = ap (λ (p : Draft). with_use_as p m (item_of m) m.kind) (noted (first_types ks) more) ∙ used

        -- ---- one more mention

        pub counts : role_fits m (find (same_item m) ks) ≡ true → with_mention (so_far ks) m ≡ so_far more
        counts fitting = ap (with_mention_of (so_far ks) m) named ∙ by (find (same_item m) ks) refl fitting where
          by : (o : Option Mention) → find (same_item m) ks ≡ o → role_fits m o ≡ true → with_mention_of (so_far ks) m (option_map item_of o) ≡ so_far more
          by None none fitting = ap (λ (b : AstItem × Draft). with_counted b.1 m b.0) (begins none) ∙ counted
          by (Some n) found fitting =
              let told : fits m.kind (item_of n) ≡ true = fits-told n ∙ fitting in
              let same = again n found told in
              rw told (ap (λ (p : Draft). with_counted p m (item_of n)) same.draft ∙ ap (with_counted (made_by (first_types ks) more ks) m) same.id ∙ counted)

-- ---- the mentions that count

-- what an earlier mention takes an item for, or else this one
abbrev role_by : Mention → Option Mention → Bool
role_by m None = is_world m.kind
role_by m (Some n) = is_world n.kind

role-told : (m : Mention) (xs : List Mention) → first_role m xs ≡ role_by m (find (same_item m) xs)
role-told m [] = refl
role-told m (x ∷ xs) = by (same_item m x) (role-told m xs) where
  by : (b : Bool) → first_role m xs ≡ role_by m (find (same_item m) xs) → cond b (is_world x.kind) (first_role m xs) ≡ role_by m (cond b (Some x) (find (same_item m) xs))
  by true rest = refl
  by false rest = rest

module _ (ms before after : List Mention) (m : Mention) (split : ms ≡ before ++ m ∷ after) where
  -- the first mention of the item
  role-before : first_role m ms ≡ role_by m (find (same_item m) before)
  role-before =
      ap (first_role m) split ∙ role-told m (before ++ m ∷ after) ∙ ap (role_by m) (find-append (same_item m) before (m ∷ after))
      ∙ rw (own-item m) (by (find (same_item m) before)) where
        by : (o : Option Mention) → role_by m (option_or o (Some m)) ≡ role_by m o
        by None = refl
        by (Some n) = refl

  -- it is the same for each mention of the item
  role-same : (n : Mention) → find (same_item m) before ≡ Some n → first_role n ms ≡ is_world n.kind
  role-same n found =
      role-told n ms ∙ ap (role_by n) (find-same (same_item n) (same_item m) (λ z. sym (item-through m n z (found-passes (same_item m) before n found))) ms
      ∙ ap (find (same_item m)) split ∙ find-append (same_item m) before (m ∷ after) ∙ ap (λ (o : Option Mention). option_or o (find (same_item m) (m ∷ after))) found)

  kept-itself : (b r : Bool) → r ≡ b → cond b r (not r) ≡ true
  kept-itself true true same = refl
  kept-itself true false same = cc
  kept-itself false true same = cc
  kept-itself false false same = refl

  -- it counts
  found-known_mentions : find (same_item m) (filter (agrees_on_role ms) before) ≡ find (same_item m) before
  found-known_mentions = by (find (same_item m) before) refl where
    by : (o : Option Mention) → find (same_item m) before ≡ o → find (same_item m) (filter (agrees_on_role ms) before) ≡ o
    by None none = none-filter (same_item m) (agrees_on_role ms) before none
    by (Some n) found = find-kept (same_item m) (agrees_on_role ms) before n found (kept-itself (is_world n.kind) (first_role n ms) (role-same n found))

  pub role-fits : role_fits m (find (same_item m) (filter (agrees_on_role ms) before)) ≡ agrees_on_role ms m
  role-fits = ap (role_fits m) found-known_mentions ∙ by (find (same_item m) before) role-before where
    by : (o : Option Mention) → first_role m ms ≡ role_by m o → role_fits m o ≡ agrees_on_role ms m
    by None is = sym (kept-itself (is_world m.kind) (first_role m ms) is)
    by (Some n) is = rw is refl

  -- the mentions that count, with this one or without
  known_mentions-split : agrees_on_role ms m ≡ true → known_mentions ms ≡ filter (agrees_on_role ms) before ++ m ∷ filter (agrees_on_role ms) after
  known_mentions-split kept = ap (filter (agrees_on_role ms)) split ∙ filter-append (agrees_on_role ms) before (m ∷ after) ∙ rw kept refl

  module _ (name : PackageName) (line : List ℕ) (span : OptionalSpan) where
    -- the package of the mentions before it, with it
    pub next : with_mention (so_far (known_mentions ms) name line span (filter (agrees_on_role ms) before)) m ≡ so_far (known_mentions ms) name line span (filter (agrees_on_role ms) (before ++ m ∷ []))
    next = by (agrees_on_role ms m) refl where
      by : (b : Bool) → agrees_on_role ms m ≡ b
          → with_mention (so_far (known_mentions ms) name line span (filter (agrees_on_role ms) before)) m ≡ so_far (known_mentions ms) name line span (filter (agrees_on_role ms) (before ++ m ∷ []))
      by true kept =
          counts (known_mentions ms) name line span (filter (agrees_on_role ms) before) m (filter (agrees_on_role ms) after) (known_mentions-split kept) (role-fits ∙ kept)
          ∙ ap (so_far (known_mentions ms) name line span) (sym (filter-in (agrees_on_role ms) before m kept))
      by false kept =
          passed (known_mentions ms) name line span (filter (agrees_on_role ms) before) m (role-fits ∙ kept)
          ∙ ap (so_far (known_mentions ms) name line span) (sym (filter-out (agrees_on_role ms) before m kept))

-- all mentions, one after another
module _ (ms : List Mention) (name : PackageName) (line : List ℕ) (span : OptionalSpan) where
  from : (before after : List Mention) → ms ≡ before ++ after → fold with_mention (so_far (known_mentions ms) name line span (filter (agrees_on_role ms) before)) after ≡ so_far (known_mentions ms) name line span (known_mentions ms)
  from before [] split = ap (λ (l : List Mention). so_far (known_mentions ms) name line span (filter (agrees_on_role ms) l)) (sym (split ∙ append-nil before))
  from before (m ∷ after) split =
      ap (λ (p : Draft). fold with_mention p after) (next ms before after m split name line span) ∙ from (before ++ m ∷ []) after (split ∙ sym (append_assoc before (m ∷ []) after))

  -- what is foreign, made of the mentions one after another
  pub all-mentions : fold with_mention (new_draft_at name line [] span) ms ≡ new_draft_at name line (known_mentions ms) span
  all-mentions = from [] ms refl
