-- The first of some pairs that differ: of lists end to end, and behind links.
use Rattle.std.proofs.Common.{◌≡◌, ◌∙◌, ℕ, codes, ◌≤◌, ◌+◌, suc, zero, Bool, true, false, List, [], ◌∷◌, ◌++◌, inl, inr, is_some, length, map, not, take, Option, Some, None, slice_get, refl, sym, ap, subst, arith, append_assoc, if◌then◌else◌}
use Rattle.std.specs.List.{flat_map}
use Rattle.std.specs.Map.{lookup}
use Rattle.std.specs.Option.{option_map_or}
use Rattle.std.specs.Str.{bytes_eq}
use Rattle.std.proofs.lemmas.List.{append-nil, map-append, take_all}
use Rattle.std.proofs.lemmas.List.Concat.{flat_map-append}
use Rattle.std.proofs.lemmas.List.Elements.{Contains-append_cases}
use Rattle.wit_values.specs.facts.Lists.{take-next_at}
use Rattle.wit_data.specs.Entries.{Entry, is_unnamed}
use Rattle.wit_sources.specs.Span.{OptionalSpan}
use Rattle.wit_data.specs.declared.interface.Interface.{Interface}
use Rattle.wit_data.specs.declared.world.World.{World}
use Rattle.wit_data.specs.declared.world.WorldItem.{WorldItem}
use Rattle.wit_data.specs.declared.world.WorldKey.{WorldKey}
use Rattle.wit_data.specs.declared.world.WorldItem.TheVariants as item
use Rattle.wit_data.specs.declared.world.WorldKey.TheVariants as key
use Rattle.wit_graph_data.specs.Queries.{topological_packages}
use Rattle.wit_graph_data.specs.declared.graph.Package.{Package}
use Rattle.wit_digraph.specs.facts.MemberFacts.{Contains-cons_cases, Contains-nil}
use Rattle.wit_merge_spec.specs.Matches.{GraphMerge, TypePair, common_entries, common_types, counterpart_item, entry_pairs, in_package_order, interface_pairs, item_pairs, matched_interface, matched_world, paired, type_pairs, world_pairs}
use Rattle.wit_merge_spec.specs.MismatchText.{entry_link, linked}
use Rattle.wit_merge_match.specs.steps.Structures.{FirstMismatch, NoneDiffer, common_pair, interface_part, of_package, package_interface_pairs, package_world_pairs, side_pairs, unnamed_pairs, world_part}
use Rattle.wit_merge_spec.specs.steps.Parts.{StructuresDiffer, type_link}

module _ (m : GraphMerge) where
  -- ---- end to end

  pub none_of_none : NoneDiffer m []
  none_of_none p ending among differ = Contains-nil among

  pub none_append : (ps qs : List TypePair) → NoneDiffer m ps → NoneDiffer m qs → NoneDiffer m (ps ++ qs)
  none_append ps qs none none' p ending among differ = elim (Contains-append_cases ps qs p among) [ inl front ↦ none p ending front differ | inr back ↦ none' p ending back differ ]

  pub first_front : (ps qs : List TypePair) (text : List ℕ) → FirstMismatch m ps text → FirstMismatch m (ps ++ qs) text
  first_front ps qs text d = record {
    pair = d.pair;
    first = record {
      before = d.first.before;
      after = d.first.after ++ qs;
      are = ap (λ (l : List TypePair). l ++ qs) d.first.are ∙ append_assoc d.first.before (d.pair ∷ d.first.after) qs;
      earlier = d.first.earlier;
      is = d.first.is;
    };
    message_is = d.message_is;
  }

  pub first_back : (ps qs : List TypePair) (text : List ℕ) → NoneDiffer m ps → FirstMismatch m qs text → FirstMismatch m (ps ++ qs) text
  first_back ps qs text none d = record {
    pair = d.pair;
    first = record {
      before = ps ++ d.first.before;
      after = d.first.after;
      are = ap (λ (l : List TypePair). ps ++ l) d.first.are ∙ sym (append_assoc ps d.first.before (d.pair ∷ d.first.after));
      earlier = λ p among differ. none_append ps d.first.before none (λ q ending before differs. d.first.earlier q before (ending, differs)) p differ.0 among differ.1;
      is = d.first.is;
    };
    message_is = d.message_is;
  }

  -- ---- loops

  module _ {X : Type 0} (pairs : X → List TypePair) (xs : List X) (i : ℕ) (x : X) (at : slice_get xs i ≡ Some x) where
    taken : flat_map pairs (take (i + 1) xs) ≡ flat_map pairs (take i xs) ++ pairs x
    taken = ap (flat_map pairs) (take-next_at xs i x at) ∙ (flat_map-append pairs (take i xs) (x ∷ []) ∙ ap (λ (l : List TypePair). flat_map pairs (take i xs) ++ l) (append-nil (pairs x)))

    pub none_next : NoneDiffer m (flat_map pairs (take i xs)) → NoneDiffer m (pairs x) → NoneDiffer m (flat_map pairs (take (i + 1) xs))
    none_next none here = subst (NoneDiffer m) (sym taken) (none_append (flat_map pairs (take i xs)) (pairs x) none here)

    split : (ys : List X) (k : ℕ) → slice_get ys k ≡ Some x → (rest : List X) × (ys ≡ take k ys ++ (x ∷ rest))
    split [] k is = cc
    split (y ∷ ys) zero is = let same : y ≡ x = cc in (ys, ap (λ (z : X). z ∷ ys) same)
    split (y ∷ ys) (suc k) is = let more = split ys k is in (more.0, ap (λ (l : List X). y ∷ l) more.1)

    pub first_next : (text : List ℕ) → NoneDiffer m (flat_map pairs (take i xs)) → FirstMismatch m (pairs x) text → FirstMismatch m (flat_map pairs xs) text
    first_next text none d =
        let whole = split xs i at in
        let are : flat_map pairs xs ≡ flat_map pairs (take i xs) ++ (pairs x ++ flat_map pairs whole.0) = ap (flat_map pairs) whole.1 ∙ flat_map-append pairs (take i xs) (x ∷ whole.0) in
        subst (λ (l : List TypePair). FirstMismatch m l text) (sym are) (first_back (flat_map pairs (take i xs)) (pairs x ++ flat_map pairs whole.0) text none (first_front (pairs x) (flat_map pairs whole.0) text d))

  -- ---- behind links

  abbrev pub behind : List (List ℕ) → List TypePair → List TypePair
  behind links pairs = map (λ (p : TypePair). record p { links = links ++ p.links }) pairs

  linked_more : (links more : List (List ℕ)) (text : List ℕ) → linked (links ++ more) text ≡ linked links (linked more text)
  linked_more [] more text = refl
  linked_more (link ∷ links) more text = simp (linked_more links more text)

  pub none_behind : (links : List (List ℕ)) (ps : List TypePair) → NoneDiffer m ps → NoneDiffer m (behind links ps)
  none_behind links [] none p ending among differ = Contains-nil among
  none_behind links (q ∷ ps) none p ending among differ =
      elim (Contains-cons_cases (record q { links = links ++ q.links }) p (behind links ps) among) [
        | inl same ↦ none q ending (0, omega arith, refl) (subst (λ (r : TypePair). StructuresDiffer m r.from r.into ending) (sym same) differ)
        | inr there ↦ none_behind links ps (λ r e has. none r e (suc has.0, omega (arith, has.1), has.2)) p ending there differ
      ]

  pub first_behind : (links : List (List ℕ)) (ps : List TypePair) (text : List ℕ) → FirstMismatch m ps text → FirstMismatch m (behind links ps) (linked links text)
  first_behind links ps text d = record {
    pair = record d.pair { links = links ++ d.pair.links };
    first = record {
      before = behind links d.first.before;
      after = behind links d.first.after;
      are = ap (behind links) d.first.are ∙ map-append (λ (p : TypePair). record p { links = links ++ p.links }) d.first.before (d.pair ∷ d.first.after);
      earlier = λ p among differ. none_behind links d.first.before (λ q ending before differs. d.first.earlier q before (ending, differs)) p differ.0 among differ.1;
      is = d.first.is;
    };
    message_is = ap (linked links) d.message_is ∙ sym (linked_more links d.pair.links d.first.is.0);
  }

  common_behind : (links more : List (List ℕ)) (types types' : List (List ℕ × ℕ)) → flat_map (λ (e : List ℕ × ℕ). option_map_or (λ t'. paired (links ++ more) e.0 e.1 t' ∷ []) (lookup (bytes_eq e.0) types') []) types
      ≡ behind links (flat_map (λ (e : List ℕ × ℕ). option_map_or (λ t'. paired more e.0 e.1 t' ∷ []) (lookup (bytes_eq e.0) types') []) types)
  common_behind links more [] types' = refl
  common_behind links more (e ∷ types) types' = by (lookup (bytes_eq e.0) types') (common_behind links more types types')
    where
      by : (o : Option ℕ) → flat_map (λ (d : List ℕ × ℕ). option_map_or (λ t'. paired (links ++ more) d.0 d.1 t' ∷ []) (lookup (bytes_eq d.0) types') []) types
          ≡ behind links (flat_map (λ (d : List ℕ × ℕ). option_map_or (λ t'. paired more d.0 d.1 t' ∷ []) (lookup (bytes_eq d.0) types') []) types)
          → option_map_or (λ t'. paired (links ++ more) e.0 e.1 t' ∷ []) o [] ++ flat_map (λ (d : List ℕ × ℕ). option_map_or (λ t'. paired (links ++ more) d.0 d.1 t' ∷ []) (lookup (bytes_eq d.0) types') []) types
          ≡ behind links (option_map_or (λ t'. paired more e.0 e.1 t' ∷ []) o [] ++ flat_map (λ (d : List ℕ × ℕ). option_map_or (λ t'. paired more d.0 d.1 t' ∷ []) (lookup (bytes_eq d.0) types') []) types)
      by None rest = rest
      by (Some t') rest =
          ap (λ (l : List (List ℕ)). (let p : TypePair = record { from = e.1; into = t'; links = l } in p) ∷ flat_map (λ (d : List ℕ × ℕ). option_map_or (λ t'. paired (links ++ more) d.0 d.1 t' ∷ []) (lookup (bytes_eq d.0) types') []) types) (append_assoc links more (type_link e.0 ∷ []))
          ∙ ap (λ (l : List TypePair). (let p : TypePair = record { from = e.1; into = t'; links = links ++ (more ++ (type_link e.0 ∷ [])) } in p) ∷ l) rest

  pub interface_behind : (links more : List (List ℕ)) (i : ℕ) → interface_pairs m (links ++ more) i ≡ behind links (interface_pairs m more i)
  interface_behind links more i = by (slice_get m.other.interfaces i) (matched_interface m i)
    where
      by : (o o' : Option Interface) → option_map_or (λ (from : Interface). option_map_or (common_types (links ++ more) from) o' []) o [] ≡ behind links (option_map_or (λ (from : Interface). option_map_or (common_types more from) o' []) o [])
      by None o' = refl
      by (Some from) None = refl
      by (Some from) (Some into) = common_behind links more from.types into.types

  -- ---- behind links: of entries and worlds

  pub flat_behind : {X : Type 0} (links : List (List ℕ)) (pairs : X → List TypePair) (xs : List X) → flat_map (λ (x : X). behind links (pairs x)) xs ≡ behind links (flat_map pairs xs)
  flat_behind links pairs [] = refl
  flat_behind links pairs (x ∷ xs) =
      ap (λ (l : List TypePair). behind links (pairs x) ++ l) (flat_behind links pairs xs) ∙ sym (map-append (λ (p : TypePair). record p { links = links ++ p.links }) (pairs x) (flat_map pairs xs))

  pub item_behind : (links more : List (List ℕ)) (label : List ℕ) (from into : WorldItem) → item_pairs m (links ++ more) label from into ≡ behind links (item_pairs m more label from into)
  item_behind links more label (item.Type_ t span) (item.Type_ t' span') =
      ap (λ (l : List (List ℕ)). (let p : TypePair = record { from = t; into = t'; links = l } in p) ∷ []) (append_assoc links more (type_link label ∷ []))
  item_behind links more label (item.Type_ t span) (item.Interface i stability docs span' external_id) = refl
  item_behind links more label (item.Type_ t span) (item.Function f) = refl
  item_behind links more label (item.Function f) into = refl
  item_behind links more label (item.Interface i stability docs span external_id) into = by (is_unnamed m.other.interfaces i)
    where
      by : (b : Bool) → (if b then interface_pairs m (links ++ more) i else []) ≡ behind links (if b then interface_pairs m more i else [])
      by true = interface_behind links more i
      by false = refl

  pub entry_behind : (links more : List (List ℕ)) (word : List ℕ) (into : List Entry) (e : Entry) → entry_pairs m (links ++ more) word into e ≡ behind links (entry_pairs m more word into e)
  entry_behind links more word into (key.Interface i, held) = refl
  entry_behind links more word into (key.Name label, held) = by (counterpart_item m into (key.Name label))
    where
      by : (o : Option WorldItem) → option_map_or (item_pairs m ((links ++ more) ++ (entry_link word label ∷ [])) label held) o [] ≡ behind links (option_map_or (item_pairs m (more ++ (entry_link word label ∷ [])) label held) o [])
      by None = refl
      by (Some there) =
          ap (λ (l : List (List ℕ)). item_pairs m l label held there) (append_assoc links more (entry_link word label ∷ [])) ∙ item_behind links (more ++ (entry_link word label ∷ [])) label held there

  side_behind : (links : List (List ℕ)) (word : List ℕ) (into from : List Entry) → flat_map (entry_pairs m (links ++ []) word into) from ≡ behind links (flat_map (entry_pairs m [] word into) from)
  side_behind links word into [] = refl
  side_behind links word into (e ∷ from) =
      ap (λ (l : List TypePair). l ++ flat_map (entry_pairs m (links ++ []) word into) from) (entry_behind links [] word into e)
      ∙ (ap (λ (l : List TypePair). behind links (entry_pairs m [] word into e) ++ l) (side_behind links word into from)
      ∙ sym (map-append (λ (p : TypePair). record p { links = links ++ p.links }) (entry_pairs m [] word into e) (flat_map (entry_pairs m [] word into) from)))

  pub world_behind : (links : List (List ℕ)) (w : ℕ) → world_pairs m (links ++ []) w ≡ behind links (world_pairs m [] w)
  world_behind links w = by (slice_get m.other.worlds w) (matched_world m w)
    where
      by : (o o' : Option World) → option_map_or (λ (from : World). option_map_or (common_entries m (links ++ []) from) o' []) o [] ≡ behind links (option_map_or (λ (from : World). option_map_or (common_entries m [] from) o' []) o [])
      by None o' = refl
      by (Some from) None = refl
      by (Some from) (Some into) =
          ap (λ (l : List TypePair). l ++ flat_map (entry_pairs m (links ++ []) (codes "export") into.exports) from.exports) (side_behind links (codes "import") into.imports from.imports)
          ∙ (ap (λ (l : List TypePair). behind links (flat_map (entry_pairs m [] (codes "import") into.imports) from.imports) ++ l) (side_behind links (codes "export") into.exports from.exports)
          ∙ sym (map-append (λ (p : TypePair). record p { links = links ++ p.links }) (flat_map (entry_pairs m [] (codes "import") into.imports) from.imports) (flat_map (entry_pairs m [] (codes "export") into.exports) from.exports)))

  -- ---- packages

  in_order : (pairs : Package → List TypePair) (order : List ℕ) → flat_map pairs (flat_map (λ p. option_map_or (λ (home : Package). home ∷ []) (slice_get m.other.packages p) []) order) ≡ flat_map (of_package m pairs) order
  in_order pairs [] = refl
  in_order pairs (p ∷ order) = by (slice_get m.other.packages p) (in_order pairs order)
    where
      by : (o : Option Package) → flat_map pairs (flat_map (λ q. option_map_or (λ (home : Package). home ∷ []) (slice_get m.other.packages q) []) order) ≡ flat_map (of_package m pairs) order
          → flat_map pairs (option_map_or (λ (home : Package). home ∷ []) o [] ++ flat_map (λ q. option_map_or (λ (home : Package). home ∷ []) (slice_get m.other.packages q) []) order) ≡ option_map_or pairs o [] ++ flat_map (of_package m pairs) order
      by None rest = rest
      by (Some home) rest = ap (λ (l : List TypePair). pairs home ++ l) rest

  -- all pairs, package by package
  pub pairs_by_package : (order : List ℕ) → order ≡ topological_packages m.other.types m.other.interfaces m.other.worlds m.other.packages → flat_map (package_interface_pairs m) order ++ flat_map (package_world_pairs m) order ≡ type_pairs m
  pairs_by_package order is =
      ap (λ (l : List ℕ). flat_map (package_interface_pairs m) l ++ flat_map (package_world_pairs m) l) is
      ∙ sym (ap (λ (l : List TypePair). l ++ flat_map (λ (home : Package). flat_map (world_part m home.name) home.worlds) (in_package_order m.other)) (in_order (λ (home : Package). flat_map (interface_part m home.name) home.interfaces) (topological_packages m.other.types m.other.interfaces m.other.worlds m.other.packages))
      ∙ ap (λ (l : List TypePair). flat_map (package_interface_pairs m) (topological_packages m.other.types m.other.interfaces m.other.worlds m.other.packages) ++ l) (in_order (λ (home : Package). flat_map (world_part m home.name) home.worlds) (topological_packages m.other.types m.other.interfaces m.other.worlds m.other.packages)))

  -- ---- parts of packages

  -- of an interface or a world of a package, behind the links that lead there
  pub first_part : (links : List (List ℕ)) (pairs outer : List TypePair) → outer ≡ behind links pairs → (text message : List ℕ) → FirstMismatch m pairs text → message ≡ linked links text → FirstMismatch m outer message
  first_part links pairs outer is text message d message_is = subst (λ (l : List TypePair). FirstMismatch m l message) (sym is) (subst (FirstMismatch m (behind links pairs)) (sym message_is) (first_behind links pairs text d))

  pub none_part : (links : List (List ℕ)) (pairs outer : List TypePair) → outer ≡ behind links pairs → NoneDiffer m pairs → NoneDiffer m outer
  none_part links pairs outer is none = subst (NoneDiffer m) (sym is) (none_behind links pairs none)

  -- a package that is there, and one that isn't
  pub of_home : (pairs : Package → List TypePair) (p : ℕ) (home : Package) → Some home ≡ slice_get m.other.packages p → of_package m pairs p ≡ pairs home
  of_home pairs p home is = ap (λ (o : Option Package). option_map_or pairs o []) (sym is)

  pub of_none : (pairs : Package → List TypePair) (p : ℕ) → None ≡ slice_get m.other.packages p → of_package m pairs p ≡ []
  of_none pairs p is = ap (λ (o : Option Package). option_map_or pairs o []) (sym is)

  pub none_is : (pairs : List TypePair) → pairs ≡ [] → NoneDiffer m pairs
  none_is pairs is = subst (NoneDiffer m) (sym is) none_of_none

  -- of all of some things none differ
  pub none_all : {X : Type 0} (pairs : X → List TypePair) (xs : List X) (i : ℕ) → length xs ≤ i → NoneDiffer m (flat_map pairs (take i xs)) → NoneDiffer m (flat_map pairs xs)
  none_all {X} pairs xs i done none = subst (λ (l : List X). NoneDiffer m (flat_map pairs l)) (take_all i xs done) none

  -- what is told of the same pairs
  pub first_is : (pairs pairs' : List TypePair) → pairs ≡ pairs' → (text : List ℕ) → FirstMismatch m pairs' text → FirstMismatch m pairs text
  first_is pairs pairs' is text first = subst (λ (l : List TypePair). FirstMismatch m l text) (sym is) first

  pub none_same : (pairs pairs' : List TypePair) → pairs ≡ pairs' → NoneDiffer m pairs' → NoneDiffer m pairs
  none_same pairs pairs' is none = subst (NoneDiffer m) (sym is) none

  -- ---- what the pairs of a thing are, by what it is

  -- of interfaces
  pub interface_is : (i : ℕ) (from into : Interface) → Some from ≡ slice_get m.other.interfaces i → Some into ≡ matched_interface m i → interface_pairs m [] i ≡ flat_map (common_pair into.types) from.types
  interface_is i from into from_is into_is =
      ap (λ (o : Option Interface). option_map_or (λ (f : Interface). option_map_or (common_types [] f) (matched_interface m i) []) o []) (sym from_is) ∙ ap (λ (o : Option Interface). option_map_or (common_types [] from) o []) (sym into_is)

  pub interface_absent : (i : ℕ) → None ≡ slice_get m.other.interfaces i → interface_pairs m [] i ≡ []
  interface_absent i is = ap (λ (o : Option Interface). option_map_or (λ (f : Interface). option_map_or (common_types [] f) (matched_interface m i) []) o []) (sym is)

  pub interface_alone : (i : ℕ) (from : Interface) → Some from ≡ slice_get m.other.interfaces i → None ≡ matched_interface m i → interface_pairs m [] i ≡ []
  interface_alone i from from_is into_is =
      ap (λ (o : Option Interface). option_map_or (λ (f : Interface). option_map_or (common_types [] f) (matched_interface m i) []) o []) (sym from_is) ∙ ap (λ (o : Option Interface). option_map_or (common_types [] from) o []) (sym into_is)

  pub common_is : (others : List (List ℕ × ℕ)) (e : List ℕ × ℕ) (t' : ℕ) → Some t' ≡ lookup (bytes_eq e.0) others → common_pair others e ≡ paired [] e.0 e.1 t' ∷ []
  common_is others e t' is = ap (λ (o : Option ℕ). option_map_or (λ t'. paired [] e.0 e.1 t' ∷ []) o []) (sym is)

  pub common_absent : (others : List (List ℕ × ℕ)) (e : List ℕ × ℕ) → None ≡ lookup (bytes_eq e.0) others → common_pair others e ≡ []
  common_absent others e is = ap (λ (o : Option ℕ). option_map_or (λ t'. paired [] e.0 e.1 t' ∷ []) o []) (sym is)

  -- of interfaces without a name
  pub unnamed_is : (i : ℕ) (interface : Interface) → Some interface ≡ slice_get m.other.interfaces i → interface.name ≡ None → unnamed_pairs m i ≡ interface_pairs m [] i
  unnamed_is i interface is nameless =
      ap (λ (o : Option Interface). if option_map_or (λ (f : Interface). not (is_some f.name)) o false then interface_pairs m [] i else []) (sym is)
      ∙ ap (λ (name : Option (List ℕ)). if not (is_some name) then interface_pairs m [] i else []) nameless

  pub named_is : (i : ℕ) (interface : Interface) (name : List ℕ) → Some interface ≡ slice_get m.other.interfaces i → interface.name ≡ Some name → unnamed_pairs m i ≡ []
  named_is i interface name is named =
      ap (λ (o : Option Interface). if option_map_or (λ (f : Interface). not (is_some f.name)) o false then interface_pairs m [] i else []) (sym is)
      ∙ ap (λ (called : Option (List ℕ)). if not (is_some called) then interface_pairs m [] i else []) named

  pub unnamed_absent : (i : ℕ) → None ≡ slice_get m.other.interfaces i → unnamed_pairs m i ≡ []
  unnamed_absent i is = ap (λ (o : Option Interface). if option_map_or (λ (f : Interface). not (is_some f.name)) o false then interface_pairs m [] i else []) (sym is)

  -- of worlds
  pub world_is : (w : ℕ) (from into : World) → Some from ≡ slice_get m.other.worlds w → Some into ≡ matched_world m w
      → world_pairs m [] w ≡ side_pairs m (codes "import") from.imports into.imports ++ side_pairs m (codes "export") from.exports into.exports
  world_is w from into from_is into_is =
      ap (λ (o : Option World). option_map_or (λ (f : World). option_map_or (common_entries m [] f) (matched_world m w) []) o []) (sym from_is) ∙ ap (λ (o : Option World). option_map_or (common_entries m [] from) o []) (sym into_is)

  pub world_absent : (w : ℕ) → None ≡ slice_get m.other.worlds w → world_pairs m [] w ≡ []
  world_absent w is = ap (λ (o : Option World). option_map_or (λ (f : World). option_map_or (common_entries m [] f) (matched_world m w) []) o []) (sym is)

  pub world_alone : (w : ℕ) (from : World) → Some from ≡ slice_get m.other.worlds w → None ≡ matched_world m w → world_pairs m [] w ≡ []
  world_alone w from from_is into_is =
      ap (λ (o : Option World). option_map_or (λ (f : World). option_map_or (common_entries m [] f) (matched_world m w) []) o []) (sym from_is) ∙ ap (λ (o : Option World). option_map_or (common_entries m [] from) o []) (sym into_is)

  -- of entries
  pub entry_is : (word : List ℕ) (into : List Entry) (k : WorldKey) (label : List ℕ) (held there : WorldItem) → k ≡ key.Name label → Some there ≡ counterpart_item m into k
      → entry_pairs m [] word into (k, held) ≡ behind (entry_link word label ∷ []) (item_pairs m [] label held there)
  entry_is word into k label held there k_is is =
      ap (λ (l : WorldKey). entry_pairs m [] word into (l, held)) k_is
      ∙ (ap (λ (o : Option WorldItem). option_map_or (item_pairs m (entry_link word label ∷ []) label held) o []) (sym (is ∙ ap (counterpart_item m into) k_is)) ∙ item_behind (entry_link word label ∷ []) [] label held there)

  pub entry_absent : (word : List ℕ) (into : List Entry) (k : WorldKey) (label : List ℕ) (held : WorldItem) → k ≡ key.Name label → None ≡ counterpart_item m into k → entry_pairs m [] word into (k, held) ≡ []
  entry_absent word into k label held k_is is =
      ap (λ (l : WorldKey). entry_pairs m [] word into (l, held)) k_is ∙ ap (λ (o : Option WorldItem). option_map_or (item_pairs m (entry_link word label ∷ []) label held) o []) (sym (is ∙ ap (counterpart_item m into) k_is))

  pub entry_keyed : (word : List ℕ) (into : List Entry) (k : WorldKey) (i : ℕ) (held : WorldItem) → k ≡ key.Interface i → entry_pairs m [] word into (k, held) ≡ []
  entry_keyed word into k i held k_is = ap (λ (l : WorldKey). entry_pairs m [] word into (l, held)) k_is

  -- of items
  pub types_is : (label : List ℕ) (from into : WorldItem) (t t' : ℕ) (span span' : OptionalSpan) → from ≡ item.Type_ t span → into ≡ item.Type_ t' span' → item_pairs m [] label from into ≡ paired [] label t t' ∷ []
  types_is label from into t t' span span' from_is into_is = ap (λ (held : WorldItem). item_pairs m [] label held into) from_is ∙ ap (item_pairs m [] label (item.Type_ t span)) into_is

  pub type_alone : (label : List ℕ) (from into : WorldItem) (t : ℕ) (span : OptionalSpan) → from ≡ item.Type_ t span → ((t' : ℕ) (span' : OptionalSpan) → into ≡ item.Type_ t' span' → ⊥) → item_pairs m [] label from into ≡ []
  type_alone label from into t span from_is other = ap (λ (held : WorldItem). item_pairs m [] label held into) from_is ∙ by into other
    where
      by : (into : WorldItem) → ((t' : ℕ) (span' : OptionalSpan) → into ≡ item.Type_ t' span' → ⊥) → item_pairs m [] label (item.Type_ t span) into ≡ []
      by (item.Type_ t' span') other = absurd (other t' span' refl)
      by (item.Interface i stability docs span' external_id) other = refl
      by (item.Function f) other = refl
