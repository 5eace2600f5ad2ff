-- A package that lines built has its shape where it may be pushed.
use Rattle.std.proofs.Common.{◌≡◌, ◌∙◌, ℕ, zero, suc, Bool, false, not, List, [], ◌∷◌, filter, filter_map, Option, Some, None, is_some, IsSome, slice_get, refl, sym, subst, bytes_eq, option_map}
use Rattle.std.proofs.lemmas.Option.{slice_get-map}
use Rattle.std.specs.List.{IsDistinct}
use Rattle.std.specs.Option.{option_map_or}
use Rattle.wit_digraph.specs.Relation.{IsAcyclic}
use Rattle.wit_digraph.specs.facts.EarlierFacts.{IsAcyclic-earlier}
use Rattle.wit_sources.specs.SourceMap.{Sources}
use Rattle.wit_data.specs.Entries.{StandOnce, interfaces_in_worlds, is_unnamed}
use Rattle.wit_data.specs.facts.EachFacts.{SomeAt-is}
use Rattle.wit_names.specs.PackageName.{package_name_text}
use Rattle.wit_data.specs.Shape.{IsGroupShaped, IsShaped}
use Rattle.wit_data.specs.Uses.{interface_uses, type_interface_dep, uses_of}
use Rattle.wit_data.specs.declared.interface.Interface.{Interface}
use Rattle.wit_data.specs.declared.types.TypeDef.{TypeDef}
use Rattle.wit_data.specs.declared.unresolved.UnresolvedPackageGroup.{UnresolvedPackageGroup}
use Rattle.wit_data.specs.declared.types.TypeOwner.TheVariants as owner
use Rattle.wit_script_package.specs.steps.Built.{IsBuilt}
use Rattle.wit_script_package.specs.steps.Built.IsBuilt.{first_line, next_line}
use Rattle.wit_script_package.specs.Draft.{as_group}
use Rattle.wit_script_package.specs.steps.Pushable.{IsPushable}
use Rattle.wit_script_package.specs.declared.draft.Draft.{Draft}
use Rattle.wit_script_package.proofs.Begun.{begin-sound}
use Rattle.wit_script_package.proofs.LineByLine.{line-sound}
use Rattle.wit_script_package.proofs.Sound.{IsSound}
use Rattle.wit_script_lines.specs.facts.OptionFacts.{map-of, same-some}
use Rattle.wit_script_package.specs.steps.Parts.{one_file, group_with}

-- what lines built is sound
pub built-sound : (p : Draft) → IsBuilt p → IsSound p
built-sound p (first_line name line ms valid is) = begin-sound name line ms p valid is
built-sound q (next_line p said gate line built is) = line-sound p q said gate line (built-sound p built) is

-- ---- lists of which nothing is kept, and lists that some give

filter_never : {X : Type 0} (test : X → Bool) (xs : List X) → ((x : X) → test x ≡ false) → filter test xs ≡ []
filter_never test [] never = refl
filter_never test (x ∷ xs) never = rw (never x) (filter_never test xs never)

given_at : {X Y : Type 0} (f : X → Option Y) (xs : List X) (k : ℕ) (y : Y) → slice_get (filter_map f xs) k ≡ Some y → (i : ℕ) × (x : X) × (slice_get xs i ≡ Some x) × (f x ≡ Some y)
given_at f [] k y at = cc
given_at {X} {Y} f (x ∷ xs) k y at = by (f x) refl k at (λ j there. given_at f xs j y there) where
  by : (o : Option Y) → f x ≡ o → (j : ℕ) → slice_get (filter_map f (x ∷ xs)) j ≡ Some y → ((l : ℕ) → slice_get (filter_map f xs) l ≡ Some y → (i : ℕ) × (z : X) × (slice_get xs i ≡ Some z) × (f z ≡ Some y))
      → (i : ℕ) × (z : X) × (slice_get (x ∷ xs) i ≡ Some z) × (f z ≡ Some y)
  by None none j there rest = let r = rest j (rw none at there) in (suc r.0, r.1, r.2, r.3)
  by (Some z) some zero there rest = let first : Some z ≡ Some y = (rw some at there) in (0, x, refl, some ∙ first)
  by (Some z) some (suc j) there rest = let r = rest j (rw some at there) in (suc r.0, r.1, r.2, r.3)

module _ (p : Draft) (sound : IsSound p) where
  -- each interface has a name
  has_name : (f : ℕ) → is_unnamed p.interfaces f ≡ false
  has_name f = by (slice_get p.interfaces f) refl where
    named : (o : Option (List ℕ)) → IsSome o → not (is_some o) ≡ false
    named None some = cc
    named (Some name) some = refl

    by : (o : Option Interface) → slice_get p.interfaces f ≡ o → option_map_or (λ (interface : Interface). not (is_some interface.name)) o false ≡ false
    by None at = refl
    by (Some interface) at = named interface.name (sound.good.interfaces f interface at).named

  stand_once : StandOnce p.interfaces p.worlds
  unfolding IsDistinct
  stand_once = rw (filter_never (is_unnamed p.interfaces) (interfaces_in_worlds p.worlds) has_name) tt

  -- an interface uses earlier ones
  row_of : (o : Option Interface) (row : List ℕ) → option_map (interface_uses p.types) o ≡ Some row → (interface : Interface) × (o ≡ Some interface) × (interface_uses p.types interface ≡ row)
  row_of None row is = cc
  row_of (Some interface) row is = (interface, refl, same-some (interface_uses p.types interface) row is)

  acyclic : IsAcyclic (uses_of p.types p.interfaces)
  acyclic = IsAcyclic-earlier (uses_of p.types p.interfaces) (λ f row at k j on.
      let interface = row_of (slice_get p.interfaces f) row (sym (slice_get-map (interface_uses p.types) p.interfaces f) ∙ at) in
      let there : slice_get (interface_uses p.types interface.0) k ≡ Some j = subst (λ (l : List ℕ). slice_get l k ≡ Some j) (sym interface.2) on in
      let e = given_at (λ (x : List ℕ × ℕ). type_interface_dep p.types x.1) interface.0.types k j there in
      let good = sound.good.interfaces f interface.0 interface.1 in
      let def = SomeAt-is (λ (d : TypeDef). (d.name ≡ Some e.1.0) × (d.owner ≡ owner.Interface f)) p.types e.1.1 (good.own_types e.0 e.1 e.2) in
      (sound.good.types e.1.1 def.0 def.1).uses f j def.2.1 e.3)

  -- what may be pushed has its shape
  main-shaped : (sources : Sources) → IsPushable (group_with p sources).main → IsShaped (group_with p sources).main
  main-shaped sources may = record {
    keys = record {
      types = λ i x at. (sound.good.interfaces i x at).types_differ;
      functions = λ i x at. (sound.good.interfaces i x at).functions_differ;
      imports = λ i x at. (sound.good.worlds i x at).imports_differ;
      exports = λ i x at. (sound.good.worlds i x at).exports_differ;
      packages = sound.known.packages;
      items = sound.known.items;
    };
    unplaced = record {
      interfaces = λ i x at. (sound.good.interfaces i x at).unplaced;
      worlds = λ i x at. (sound.good.worlds i x at).unplaced;
    };
    foreign = record {
      spans = sound.known.spans;
      interfaces = record { once = sound.known.interfaces_once; first = sound.known.interfaces_first; there = sound.good.first_interfaces };
      worlds = record { once = sound.known.worlds_once; first = sound.known.worlds_first; there = sound.good.first_worlds };
      bare = sound.known.bare;
    };
    unknown = record {
      first = (sound.good.first_types, λ i x at. (sound.good.types i x at).unknown_first);
      foreign = λ i x at. (sound.good.types i x at).of_foreign;
      alone = λ i x at. (sound.good.interfaces i x at).alone;
      required = sound.required;
    };
    names = record {
      namespace = may.namespace;
      own = may.own;
      interfaces = may.interfaces;
      worlds = may.worlds;
      version = sound.version;
      interfaces_differ = subst (IsDistinct bytes_eq) (sym sound.interfaces_named) sound.interfaces_differ;
      worlds_differ = subst (IsDistinct bytes_eq) (sym sound.worlds_named) sound.worlds_differ;
    };
    owners = record {
      listed = λ i x at. (sound.good.types i x at).listed;
      own_types = λ i x at. (sound.good.interfaces i x at).own_types;
      functions = λ i x at. (sound.good.interfaces i x at).functions;
    };
    references = record {
      earlier = λ i x at. (sound.good.types i x at).earlier;
      aliases = λ i x at. (sound.good.types i x at).aliases;
      unnamed = λ i x at. (sound.good.types i x at).unnamed;
    };
    own = record {
      types = λ i x at. (sound.good.types i x at).own;
      functions = λ i x at. (sound.good.interfaces i x at).own;
      imports = λ i x at. (sound.good.worlds i x at).imports_own;
      exports = λ i x at. (sound.good.worlds i x at).exports_own;
    };
    worlds = record {
      imports = λ i x at. (sound.good.worlds i x at).imports;
      exports = λ i x at. (sound.good.worlds i x at).exports;
      once = stand_once;
      includes = may.includes;
    };
    uses = acyclic;
  }

  group-shaped : (sources : Sources) → IsPushable (group_with p sources).main → IsGroupShaped (group_with p sources)
  group-shaped sources may = record { main = main-shaped sources may; nested = λ i x at. cc }

-- and as a group
pub built-shaped : (p : Draft) (g : UnresolvedPackageGroup) → IsBuilt p → as_group p ≡ Some g → IsPushable g.main → IsGroupShaped g
built-shaped p g built is may =
    let sources = map-of (group_with p) (one_file (package_name_text p.name) p.contents) g is in
    subst (λ (h : UnresolvedPackageGroup). IsPushable h.main → IsGroupShaped h) sources.2 (group-shaped p (built-sound p built) sources.0) may
