-- Where no span of a package passes the end, those of its parts fit.
use Rattle.std.proofs.Common.{ℕ, ◌+◌, ◌<◌, ◌^◌, List, [], ◌++◌, map, None, Some, inl, inr, arith, Contains}
use Rattle.std.specs.List.{flat_map}
use Rattle.std.proofs.lemmas.Bool.{cases_lt}
use Rattle.std.proofs.lemmas.List.Elements.{Contains-append_left, Contains-append_right}
use Rattle.wit_digraph.specs.facts.MemberFacts.{Contains-flat_map, Contains-here, Contains-there}
use Rattle.wit_data.specs.Each.{Each}
use Rattle.wit_data.specs.Entries.{Entry}
use Rattle.wit_data.specs.declared.function.Function.{Function}
use Rattle.wit_data.specs.declared.interface.Interface.{Interface}
use Rattle.wit_data.specs.declared.function.Param.{Param}
use Rattle.wit_data.specs.declared.types.TypeDef.{TypeDef}
use Rattle.wit_data.specs.declared.types.TypeDefKind.{TypeDefKind}
use Rattle.wit_data.specs.declared.unresolved.UnresolvedPackage.{UnresolvedPackage}
use Rattle.wit_data.specs.declared.world.World.{World}
use Rattle.wit_data.specs.declared.world.WorldInclude.{WorldInclude}
use Rattle.wit_data.specs.declared.world.WorldItem.{WorldItem}
use Rattle.wit_data.specs.declared.world.WorldItem.TheVariants as item
use Rattle.wit_graph_theory.specs.facts.ListFacts.{Contains-map, contained_at}
use Rattle.wit_link_spec.specs.Addition.{Addition}
use Rattle.wit_link_spec.specs.Gates.{OptionalSpan, package_spans}
use Rattle.wit_remap_spec.specs.Spans.{function_spans, interface_spans, item_spans, type_spans, world_spans}
use Rattle.wit_remap.specs.steps.Fits.{Fits, FunctionFits, InterfaceFits, ItemFits, KindFits, TypeFits, WorldFits}
use Rattle.wit_remap_spec.specs.steps.Parts.{kind_spans}
use Rattle.wit_link_spec.specs.steps.Parts.{AdditionOverflows}

-- all places of a list fit
abbrev pub AllFit : ℕ → List OptionalSpan → Type 0
AllFit offset spans = (s : OptionalSpan) → Contains spans s → Fits offset s

module _ (offset : ℕ) where
  of_map : {X : Type 0} (span : X → OptionalSpan) (xs : List X) → AllFit offset (map span xs) → Each (λ (x : X). Fits offset (span x)) xs
  of_map span xs fit i x at = fit (span x) (Contains-map span xs x (contained_at xs i x at))

  kind_fits : (k : TypeDefKind) → AllFit offset (kind_spans k) → KindFits (Fits offset) k
  kind_fits k fit i span at = fit span (contained_at (kind_spans k) i span at)

  type_fits : (def : TypeDef) → AllFit offset (type_spans def) → TypeFits (Fits offset) def
  type_fits def fit = record {
    own = fit def.span (Contains-here def.span (kind_spans def.kind));
    parts = kind_fits def.kind (λ s has. fit s (Contains-there def.span s (kind_spans def.kind) has));
  }

  function_fits : (f : Function) → AllFit offset (function_spans f) → FunctionFits (Fits offset) f
  function_fits f fit =
      let params = map (λ (p : Param). p.span) f.params in
      record {
        own = fit f.span (Contains-here f.span params);
        params = of_map (λ (p : Param). p.span) f.params (λ s has. fit s (Contains-there f.span s params has));
      }

  interface_fits : (interface : Interface) → AllFit offset (interface_spans interface) → InterfaceFits (Fits offset) interface
  interface_fits interface fit =
      let functions = flat_map (λ (e : List ℕ × Function). function_spans e.1) interface.functions in
      record {
        own = fit interface.span (Contains-here interface.span functions);
        functions = λ i e at. function_fits e.1 (λ s has. fit s (Contains-there interface.span s functions
            (Contains-flat_map (λ (e : List ℕ × Function). function_spans e.1) interface.functions e s (contained_at interface.functions i e at) has)));
      }

  item_fits : (held : WorldItem) → AllFit offset (item_spans held) → ItemFits (Fits offset) held
  item_fits (item.Interface id stability docs span external_id) fit = fit span (Contains-here span [])
  item_fits (item.Function f) fit = function_fits f fit
  item_fits (item.Type_ t span) fit = fit span (Contains-here span [])

  world_fits : (world : World) → AllFit offset (world_spans world) → WorldFits (Fits offset) world
  world_fits world fit =
      let spans = λ (e : Entry). item_spans e.1 in
      let imports = flat_map spans world.imports in
      let exports = flat_map spans world.exports in
      let includes = map (λ (i : WorldInclude). i.span) world.includes in
      record {
        own = fit world.span (Contains-here world.span (imports ++ (exports ++ includes)));
        imports = λ i e at. item_fits e.1 (λ s has. fit s (Contains-there world.span s (imports ++ (exports ++ includes)) (Contains-append_left imports (exports ++ includes) s (Contains-flat_map spans world.imports e s (contained_at world.imports i e at) has))));
        exports = λ i e at. item_fits e.1 (λ s has. fit s (Contains-there world.span s (imports ++ (exports ++ includes)) (Contains-append_right imports (exports ++ includes) s (Contains-append_left exports includes s (Contains-flat_map spans world.exports e s (contained_at world.exports i e at) has)))));
      }

module _ (a : Addition) (offset_fits : a.offset < 2 ^ 32) (fit : AdditionOverflows a → ⊥) where
  span_fits : (s : OptionalSpan) → Contains (package_spans a.unresolved) s → Fits a.offset s
  span_fits None has = omega arith
  span_fits (Some range) has = elim (cases_lt (range.1 + a.offset) (2 ^ 32)) [
    | inl below ↦ below
    | inr past ↦ absurd (fit (record { from = range.0; to = range.1; known = has; past = omega arith }))
  ]

  abbrev u : UnresolvedPackage
  u = a.unresolved

  -- the spans of the three lists, in those of the package
  in_lists : (s : OptionalSpan) → Contains (flat_map type_spans u.types ++ (flat_map interface_spans u.interfaces ++ flat_map world_spans u.worlds)) s → Fits a.offset s
  in_lists s has =
      span_fits s (Contains-there u.package_name_span s _ (Contains-append_right u.foreign_dep_spans _ s (Contains-append_right u.unknown_type_spans _ s (Contains-append_right (map (λ (r : ℕ × OptionalSpan). r.1) u.required_resource_types) _ s has))))

  pub types_fit : Each (TypeFits (Fits a.offset)) u.types
  types_fit i def at = type_fits a.offset def (λ s has. in_lists s (Contains-append_left (flat_map type_spans u.types) _ s (Contains-flat_map type_spans u.types def s (contained_at u.types i def at) has)))

  pub interfaces_fit : Each (InterfaceFits (Fits a.offset)) u.interfaces
  interfaces_fit i interface at =
      interface_fits a.offset interface (λ s has. in_lists s (Contains-append_right (flat_map type_spans u.types) _ s (Contains-append_left (flat_map interface_spans u.interfaces) _ s (Contains-flat_map interface_spans u.interfaces interface s (contained_at u.interfaces i interface at) has))))

  pub worlds_fit : Each (WorldFits (Fits a.offset)) u.worlds
  worlds_fit i world at =
      world_fits a.offset world (λ s has. in_lists s (Contains-append_right (flat_map type_spans u.types) _ s (Contains-append_right (flat_map interface_spans u.interfaces) _ s (Contains-flat_map world_spans u.worlds world s (contained_at u.worlds i world at) has))))
