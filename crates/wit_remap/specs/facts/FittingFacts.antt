-- Things fit exactly where all their spans do, and of spans that don't all fit one passes the end. They are facts for the
-- proofs of the crates above.
use Rattle.std.proofs.Common.{◌≡◌, ◌⊎◌, inl, inr, ℕ, zero, suc, ◌+◌, ◌<◌, ◌≤◌, ◌^◌, List, [], ◌∷◌, ◌++◌, map, None, Some, arith, refl, subst, Contains}
use Rattle.std.proofs.lemmas.Bool.{cases_lt}
use Rattle.std.proofs.lemmas.List.Elements.{Contains-append_right}
use Rattle.std.specs.List.{flat_map}
use Rattle.wit_data.specs.Each.{Each}
use Rattle.wit_data.specs.Entries.{Entry}
use Rattle.wit_data.specs.declared.function.Function.{Function}
use Rattle.wit_data.specs.declared.interface.Interface.{Interface}
use Rattle.wit_data.specs.declared.function.Param.{Param}
use Rattle.wit_data.specs.declared.types.TypeDef.{TypeDef}
use Rattle.wit_data.specs.declared.world.World.{World}
use Rattle.wit_data.specs.declared.world.WorldInclude.{WorldInclude}
use Rattle.wit_data.specs.declared.world.WorldItem.{WorldItem}
use Rattle.wit_data.specs.declared.world.WorldItem.TheVariants as item
use Rattle.wit_link_spec.specs.Gates.{OptionalSpan}
use Rattle.wit_remap_spec.specs.Spans.{function_spans, interface_spans, item_spans, type_spans, world_spans}
use Rattle.wit_values.specs.facts.Lists.{slice_get-append}
use Rattle.wit_graph_theory.specs.facts.ListFacts.{Each-map, at_map}
use Rattle.wit_remap.specs.steps.Fits.{EntriesFit, Fits, FunctionFits, InterfaceFits, ItemFits, PartsFit, TypeFits, WholeWorldFits}
use Rattle.wit_remap_spec.specs.steps.Parts.{kind_spans}

-- ---- what holds of each element

module _ {X : Type 0} (P : X → Type 0) where
  pub Each-head : (x : X) (xs : List X) → Each P (x ∷ xs) → P x
  Each-head x xs all = all zero x refl

  pub Each-tail : (x : X) (xs : List X) → Each P (x ∷ xs) → Each P xs
  Each-tail x xs all i y at = all (suc i) y at

  pub Each-left : (xs ys : List X) → Each P (xs ++ ys) → Each P xs
  Each-left xs ys all i x at = all i x (slice_get-append xs ys i x at)

  pub Each-right : (xs ys : List X) → Each P (xs ++ ys) → Each P ys
  Each-right [] ys all = all
  Each-right (x ∷ xs) ys all = Each-right xs ys (Each-tail x (xs ++ ys) all)

  pub Each-cons : (x : X) (xs : List X) → P x → Each P xs → Each P (x ∷ xs)
  Each-cons x xs here rest zero y at = let same : x ≡ y = cc in subst P same here
  Each-cons x xs here rest (suc i) y at = rest i y at

  pub Each-append : (xs ys : List X) → Each P xs → Each P ys → Each P (xs ++ ys)
  Each-append [] ys first second = second
  Each-append (x ∷ xs) ys first second = Each-cons x (xs ++ ys) (Each-head x xs first) (Each-append xs ys (Each-tail x xs first) second)

module _ {X Y : Type 0} (P : X → Type 0) (Q : Y → Type 0) where
  pub Each-unmapped : (f : Y → X) (ys : List Y) → ((y : Y) → P (f y) → Q y) → Each P (map f ys) → Each Q ys
  Each-unmapped f ys weaker all i y at = weaker y (all i (f y) (at_map f ys i y at))

  Each-flat : (f : Y → List X) → ((y : Y) → Q y → Each P (f y)) → (ys : List Y) → Each Q ys → Each P (flat_map f ys)
  Each-flat f gives [] all = λ i x at. cc
  Each-flat f gives (y ∷ ys) all = Each-append P (f y) (flat_map f ys) (gives y (Each-head Q y ys all)) (Each-flat f gives ys (Each-tail Q y ys all))

  Each-unflat : (f : Y → List X) → ((y : Y) → Each P (f y) → Q y) → (ys : List Y) → Each P (flat_map f ys) → Each Q ys
  Each-unflat f gives [] all = λ i y at. cc
  Each-unflat f gives (y ∷ ys) all =
      Each-cons Q y ys (gives y (Each-left P (f y) (flat_map f ys) all)) (Each-unflat f gives ys (Each-right P (f y) (flat_map f ys) all))

-- ---- what fits has spans that fit, and nothing else has

module _ (offset : ℕ) where
  abbrev pub AllFit : List OptionalSpan → Type 0
  AllFit spans = Each (Fits offset) spans

  all_type : (def : TypeDef) → TypeFits (Fits offset) def → AllFit (type_spans def)
  all_type def fits = Each-cons (Fits offset) def.span (kind_spans def.kind) fits.own fits.parts

  type_fits : (def : TypeDef) → AllFit (type_spans def) → TypeFits (Fits offset) def
  type_fits def all = record {
    own = Each-head (Fits offset) def.span (kind_spans def.kind) all;
    parts = Each-tail (Fits offset) def.span (kind_spans def.kind) all;
  }

  abbrev param_spans : Function → List OptionalSpan
  param_spans f = map (λ (p : Param). p.span) f.params

  all_function : (f : Function) → FunctionFits (Fits offset) f → AllFit (function_spans f)
  all_function f fits = Each-cons (Fits offset) f.span (param_spans f) fits.own (Each-map (λ (p : Param). p.span) (Fits offset) f.params fits.params)

  function_fits : (f : Function) → AllFit (function_spans f) → FunctionFits (Fits offset) f
  function_fits f all = record {
    own = Each-head (Fits offset) f.span (param_spans f) all;
    params = Each-unmapped (Fits offset) (λ (p : Param). Fits offset p.span) (λ (p : Param). p.span) f.params (λ p h. h) (Each-tail (Fits offset) f.span (param_spans f) all);
  }

  abbrev named_spans : List ℕ × Function → List OptionalSpan
  named_spans e = function_spans e.1

  abbrev NamedFits : List ℕ × Function → Type 0
  NamedFits e = FunctionFits (Fits offset) e.1

  all_interface : (interface : Interface) → InterfaceFits (Fits offset) interface → AllFit (interface_spans interface)
  all_interface interface fits =
      Each-cons (Fits offset) interface.span (flat_map named_spans interface.functions) fits.own
      (Each-flat (Fits offset) NamedFits named_spans (λ e h. all_function e.1 h) interface.functions fits.functions)

  interface_fits : (interface : Interface) → AllFit (interface_spans interface) → InterfaceFits (Fits offset) interface
  interface_fits interface all = record {
    own = Each-head (Fits offset) interface.span (flat_map named_spans interface.functions) all;
    functions =
        Each-unflat (Fits offset) NamedFits named_spans (λ e h. function_fits e.1 h) interface.functions
        (Each-tail (Fits offset) interface.span (flat_map named_spans interface.functions) all);
  }

  all_item : (held : WorldItem) → ItemFits (Fits offset) held → AllFit (item_spans held)
  all_item (item.Interface id stability docs span external_id) fits = Each-cons (Fits offset) span [] fits (λ i place at. cc)
  all_item (item.Function f) fits = all_function f fits
  all_item (item.Type_ id span) fits = Each-cons (Fits offset) span [] fits (λ i place at. cc)

  item_fits : (held : WorldItem) → AllFit (item_spans held) → ItemFits (Fits offset) held
  item_fits (item.Interface id stability docs span external_id) all = Each-head (Fits offset) span [] all
  item_fits (item.Function f) all = function_fits f all
  item_fits (item.Type_ id span) all = Each-head (Fits offset) span [] all

  abbrev entry_spans : Entry → List OptionalSpan
  entry_spans e = item_spans e.1

  abbrev EntryFits : Entry → Type 0
  EntryFits e = ItemFits (Fits offset) e.1

  abbrev include_spans : List WorldInclude → List OptionalSpan
  include_spans includes = map (λ (i : WorldInclude). i.span) includes

  abbrev IncludeFits : WorldInclude → Type 0
  IncludeFits i = Fits offset i.span

  all_entries : (entries : List Entry) → EntriesFit (Fits offset) entries → AllFit (flat_map entry_spans entries)
  all_entries entries fits = Each-flat (Fits offset) EntryFits entry_spans (λ e h. all_item e.1 h) entries fits

  entries_fit : (entries : List Entry) → AllFit (flat_map entry_spans entries) → EntriesFit (Fits offset) entries
  entries_fit entries all = Each-unflat (Fits offset) EntryFits entry_spans (λ e h. item_fits e.1 h) entries all

  abbrev world_rest : World → List OptionalSpan
  world_rest world =
      flat_map entry_spans world.imports
      ++ (flat_map entry_spans world.exports ++ include_spans world.includes)

  all_world : (world : World) → WholeWorldFits offset world → AllFit (world_spans world)
  all_world world fits =
      Each-cons (Fits offset) world.span (world_rest world) fits.entries.own
      (Each-append (Fits offset) (flat_map entry_spans world.imports) (flat_map entry_spans world.exports ++ include_spans world.includes) (all_entries world.imports fits.entries.imports)
      (Each-append (Fits offset) (flat_map entry_spans world.exports) (include_spans world.includes) (all_entries world.exports fits.entries.exports)
      (Each-map (λ (i : WorldInclude). i.span) (Fits offset) world.includes fits.includes)))

  world_fits : (world : World) → AllFit (world_spans world) → WholeWorldFits offset world
  world_fits world all =
      let rest : AllFit (world_rest world) = Each-tail (Fits offset) world.span (world_rest world) all in
      let imports = Each-left (Fits offset) (flat_map entry_spans world.imports) (flat_map entry_spans world.exports ++ include_spans world.includes) rest in
      let others = Each-right (Fits offset) (flat_map entry_spans world.imports) (flat_map entry_spans world.exports ++ include_spans world.includes) rest in
      let exports = Each-left (Fits offset) (flat_map entry_spans world.exports) (include_spans world.includes) others in
      let includes = Each-right (Fits offset) (flat_map entry_spans world.exports) (include_spans world.includes) others in
      record {
        entries = record {
          own = Each-head (Fits offset) world.span (world_rest world) all;
          imports = entries_fit world.imports imports;
          exports = entries_fit world.exports exports;
        };
        includes = Each-unmapped (Fits offset) IncludeFits (λ (i : WorldInclude). i.span) world.includes (λ i h. h) includes;
      }

  -- ---- types, interfaces and worlds together

  abbrev pub parts_spans : List TypeDef → List Interface → List World → List OptionalSpan
  parts_spans types interfaces worlds =
      flat_map type_spans types
      ++ (flat_map interface_spans interfaces ++ flat_map world_spans worlds)

  pub all_parts : (types : List TypeDef) (interfaces : List Interface) (worlds : List World) → PartsFit offset types interfaces worlds → AllFit (parts_spans types interfaces worlds)
  all_parts types interfaces worlds fits =
      Each-append (Fits offset) (flat_map type_spans types) (flat_map interface_spans interfaces ++ flat_map world_spans worlds) (Each-flat (Fits offset) (TypeFits (Fits offset)) type_spans all_type types fits.of_types)
      (Each-append (Fits offset) (flat_map interface_spans interfaces) (flat_map world_spans worlds) (Each-flat (Fits offset) (InterfaceFits (Fits offset)) interface_spans all_interface interfaces fits.of_interfaces)
      (Each-flat (Fits offset) (WholeWorldFits offset) world_spans all_world worlds fits.of_worlds))

  pub parts_fit : (types : List TypeDef) (interfaces : List Interface) (worlds : List World) → AllFit (parts_spans types interfaces worlds) → PartsFit offset types interfaces worlds
  parts_fit types interfaces worlds all =
      let others : AllFit (flat_map interface_spans interfaces ++ flat_map world_spans worlds) = Each-right (Fits offset) (flat_map type_spans types) (flat_map interface_spans interfaces ++ flat_map world_spans worlds) all in
      record {
        of_types = Each-unflat (Fits offset) (TypeFits (Fits offset)) type_spans type_fits types (Each-left (Fits offset) (flat_map type_spans types) (flat_map interface_spans interfaces ++ flat_map world_spans worlds) all);
        of_interfaces = Each-unflat (Fits offset) (InterfaceFits (Fits offset)) interface_spans interface_fits interfaces (Each-left (Fits offset) (flat_map interface_spans interfaces) (flat_map world_spans worlds) others);
        of_worlds = Each-unflat (Fits offset) (WholeWorldFits offset) world_spans world_fits worlds (Each-right (Fits offset) (flat_map interface_spans interfaces) (flat_map world_spans worlds) others);
      }

  -- ---- spans that fit and spans that pass the end

  -- some span of these passes the end
  abbrev pub SomePasses : List OptionalSpan → Type 0
  SomePasses spans =
      (from : ℕ) × (to : ℕ) × Contains spans (Some (from, to)) × (2 ^ 32 ≤ to + offset)

  passes_later : (span : OptionalSpan) (spans : List OptionalSpan) → SomePasses spans → SomePasses (span ∷ spans)
  passes_later span spans passes = (passes.0, passes.1, Contains-append_right (span ∷ []) spans (Some (passes.0, passes.1)) passes.2, passes.3)

  -- all fit, or some span passes
  pub fit_or_pass : offset < 2 ^ 32 → (spans : List OptionalSpan) → AllFit spans ⊎ SomePasses spans
  fit_or_pass small [] = inl (λ i place at. cc)
  fit_or_pass small (None ∷ spans) =
      elim (fit_or_pass small spans) [
        | inl rest ↦ inl (Each-cons (Fits offset) None spans (omega (arith, small)) rest)
        | inr passes ↦ inr (passes_later None spans passes)
      ]
  fit_or_pass small (Some range ∷ spans) =
      elim (cases_lt (range.1 + offset) (2 ^ 32)) [
        | inl below ↦ elim (fit_or_pass small spans) [
          | inl rest ↦ inl (Each-cons (Fits offset) (Some range) spans below rest)
          | inr passes ↦ inr (passes_later (Some range) spans passes)
        ]
        | inr above ↦ inr (range.0, range.1, (0, omega arith, refl), above)
      ]
