-- Where nothing differs between two graphs one way, nothing differs the other way: what is matched one way is matched back
-- the other way, and each mismatch of two things is one of them the other way round, which another text may tell.
use Rattle.std.proofs.Common.{◌≡◌, ◌∙◌, ℕ, Bool, true, List, ◌∷◌, Option, None, Some, option_map, slice_get, refl, sym, ap, subst, Contains, IsSomeAnd}
use Rattle.std.proofs.lemmas.Bool.{false≢true}
use Rattle.std.proofs.lemmas.List.Elements.{Contains-append_right}
use Rattle.std.proofs.lemmas.Map.Views.{Contains-from_lookup}
use Rattle.std.specs.Map.{lookup}
use Rattle.std.specs.Prelude.{IfSome}
use Rattle.wit_digraph.specs.facts.MemberFacts.{Contains-here}
use Rattle.wit_data.specs.Each.{SomeAt}
use Rattle.wit_data.specs.Entries.{Entry, entries_of}
use Rattle.wit_data.specs.declared.interface.Interface.{Interface}
use Rattle.wit_data.specs.declared.world.WorldItem.{WorldItem}
use Rattle.wit_data.specs.declared.world.WorldKey.{WorldKey}
use Rattle.wit_data.specs.declared.world.WorldItem.TheVariants as item
use Rattle.wit_data.specs.declared.world.WorldKey.TheVariants as key
use Rattle.wit_elaboration.specs.facts.FreshEntries.{same_key-true}
use Rattle.wit_elaboration.specs.Entries.{same_key}
use Rattle.wit_elaboration.specs.Valid.{IsValid}
use Rattle.wit_graph_data.specs.declared.graph.Graph.{Graph}
use Rattle.wit_graph_data.specs.declared.graph.Package.{Package}
use Rattle.wit_remap_spec.specs.FunctionMismatch.{HaveFunctionMismatch}
use Rattle.wit_graph_theory.specs.facts.ListFacts.{found_at}
use Rattle.wit_graph_theory.specs.facts.OptionFacts.{some_same, some_whole}
use Rattle.wit_merge_spec.specs.Cause.{EntriesDiffer, GraphsDiffer, ItemsDiffer, same_sort, HasNoMismatch}
use Rattle.wit_merge_spec.specs.Cause as differ
use Rattle.wit_merge_spec.specs.Matches.{FirstDiffers, GraphMerge, Pair, TypePair, counterpart_interface, counterpart_item, counterpart_key, counterpart_type, counterpart_world, type_pairs}
use Rattle.wit_merge_spec.specs.MismatchText.{side_word}
use Rattle.wit_merge_laws.specs.facts.FoundBack.{lookup_finds_entry, interface_back, type_back, world_back}
use Rattle.wit_merge_laws.specs.facts.FunctionsBack.{functions_back}
use Rattle.wit_merge_laws.specs.facts.MatchFacts.{interface_is}
use Rattle.wit_merge_laws.specs.facts.MatchedEntries.{covered, same_count}
use Rattle.wit_merge_laws.specs.facts.MatchedOnce.{lists_distinct, one_under}
use Rattle.wit_merge_laws.specs.laws.MergingLaws.{merge_of_graphs}
use Rattle.wit_merge_laws.specs.laws.OrderLaws.{AgreementIsSymmetric}
use Rattle.wit_merge_laws.specs.facts.MatchedTypes.{no_difference}
use Rattle.wit_merge_laws.specs.facts.PairsMatched.{pair_matched}
use Rattle.wit_merge_laws.specs.facts.StructureBack.{differ_back}
use Rattle.wit_merge_laws.specs.facts.WorldsStand.{entry, entry_there}
use Rattle.wit_merge_spec.specs.steps.Parts.{StructuresDiffer}

sorts_back : (x y : WorldItem) → same_sort x y ≡ same_sort y x
sorts_back (item.Interface i stability docs span external_id) (item.Interface i' stability' docs' span' external_id') = refl
sorts_back (item.Interface i stability docs span external_id) (item.Function f') = refl
sorts_back (item.Interface i stability docs span external_id) (item.Type_ t' span') = refl
sorts_back (item.Function f) (item.Interface i' stability' docs' span' external_id') = refl
sorts_back (item.Function f) (item.Function f') = refl
sorts_back (item.Function f) (item.Type_ t' span') = refl
sorts_back (item.Type_ t span) (item.Interface i' stability' docs' span' external_id') = refl
sorts_back (item.Type_ t span) (item.Function f') = refl
sorts_back (item.Type_ t span) (item.Type_ t' span') = refl

some_number : (o : Option ℕ) (P : ℕ → Type 0) → IsSomeAnd o P → (p : ℕ) × (o ≡ Some p) × P p
some_number None P holds = absurd holds
some_number (Some p) P holds = (p, refl, holds)

-- the package of an interface of a valid graph
record HasHome (g : Graph) (of : Option ℕ) : Type 0 where
  home : ℕ
  there : Package
  home_is : of ≡ Some home
  at : slice_get g.packages home ≡ Some there

interface_home : (g : Graph) → IsValid g → (i : ℕ) (interface : Interface) → slice_get g.interfaces i ≡ Some interface → HasHome g interface.package
interface_home g valid i interface at =
    let one = some_number interface.package (λ p. SomeAt g.packages p (λ (home : Package). IfSome interface.name (λ name. Contains home.interfaces (name, i)))) (valid.well_formed.tables.interfaces_listed i interface at) in
    let home = found_at (λ (home : Package). IfSome interface.name (λ name. Contains home.interfaces (name, i))) g.packages one.0 one.2 in
    record { home = one.0; there = home.0; home_is = one.1; at = home.1 }

module _ (g h : Graph) (a b : ℕ) (valid : IsValid g) (valid_other : IsValid h) (one : HasNoMismatch (merge_of_graphs g h a)) where
  abbrev there : GraphMerge
  there = merge_of_graphs g h a

  abbrev back : GraphMerge
  back = merge_of_graphs h g b

  -- ---- interfaces

  -- two that are matched are so the other way round, and of one name
  abbrev pair_back : Pair (counterpart_interface back) g.interfaces h.interfaces
      → Pair (counterpart_interface there) h.interfaces g.interfaces
  pair_back p =
      record {
        x = p.x';
        from = p.into;
        x' = p.x;
        into = p.from;
        from_is = p.into_is;
        matched = interface_back h g b a valid_other valid p.x p.x' p.matched;
        into_is = p.from_is;
      }

  pair_name : (p : Pair (counterpart_interface back) g.interfaces h.interfaces) → p.into.name ≡ p.from.name
  pair_name p =
      let is = interface_is back valid_other valid p.x p.x' p.matched in
      ap (λ (x : Interface). x.name) (some_same p.into is.into (sym p.into_is ∙ is.into_is)) ∙ (is.called ∙ ap (λ (x : Interface). x.name) (some_same is.from p.from (sym is.from_is ∙ p.from_is)))

  interfaces_agree : (p : Pair (counterpart_interface back) g.interfaces h.interfaces) (name text : List ℕ) → p.from.name ≡ Some name → HaveFunctionMismatch p.from p.into text → ⊥
  interfaces_agree p name text called unlike =
      let home = interface_home h valid_other p.x' p.into p.into_is in
      let mismatch = functions_back p.from p.into text unlike in
      one _ (differ.interfaces (pair_back p) home.home home.there name mismatch.0 (pair_name p ∙ called) home.home_is home.at mismatch.1)

  -- ---- entries of worlds

  items_agree : (from into : WorldItem) (text : List ℕ) → ItemsDiffer back from into text → same_sort into from ≡ true → ((text : List ℕ) → ItemsDiffer there into from text → ⊥) → ⊥
  items_agree from into text (differ.sorts unlike) same agrees = false≢true (sym unlike ∙ (sorts_back from into ∙ same))
  items_agree from into text (differ.interfaces i i' from_is into_is unlike) same agrees = agrees _ (differ.interfaces i' i into_is from_is (λ matched. unlike (interface_back g h a b valid valid_other i' i matched)))
  items_agree from into text (differ.unnamed told p from_is into_is none unlike) same agrees =
      let mismatch = functions_back p.from p.into told unlike in
      agrees mismatch.0 (differ.unnamed mismatch.0 (pair_back p) into_is from_is (pair_name p ∙ none) mismatch.1)

  key_back : (k k' : WorldKey) → counterpart_key there k ≡ Some k' → counterpart_key back k' ≡ Some k
  key_back (key.Name label) k' is = ap (counterpart_key back) (sym (some_same (key.Name label) k' is))
  key_back (key.Interface i) k' is = by (counterpart_interface there i) refl is
    where
      by : (o : Option ℕ) → counterpart_interface there i ≡ o → option_map (λ i'. key.Interface i') o ≡ Some k' → counterpart_key back k' ≡ Some (key.Interface i)
      by None at is = cc
      by (Some i') at is = ap (counterpart_key back) (sym (some_same (key.Interface i') k' is)) ∙ ap (option_map (λ (x : ℕ). key.Interface x)) (interface_back g h a b valid valid_other i i' at)

  module _ (p : Pair (counterpart_world back) g.worlds h.worlds) where
    abbrev found : counterpart_world there p.x' ≡ Some p.x
    found = world_back h g b a valid_other valid p.x p.x' p.matched

    -- an entry is found there, and nothing differs of the two
    record EntryBack (exported : Bool) (e : Entry) : Type 0 where
      held : WorldItem
      found_item_is : counterpart_item back (entries_of exported p.into) e.0 ≡ Some held
      same : same_sort held e.1 ≡ true
      agrees : (text : List ℕ) → ItemsDiffer there held e.1 text → ⊥

    entry_back : (exported : Bool) (e : Entry) → Contains (entries_of exported p.from) e → EntryBack exported e
    entry_back exported e has =
        let from = covered there valid valid_other one p.x' p.x p.into p.from p.into_is found p.from_is exported e has in
        let at = entry_there there valid valid_other one p.x' p.x p.into p.from p.into_is found p.from_is exported from.0.0 from.0.1 from.1 in
        let key_is : at.k' ≡ e.0 = some_same at.k' e.0 (sym at.key_is ∙ from.2) in
        let under = subst (λ (k : WorldKey). Contains (entries_of exported p.from) (entry k at.here)) key_is (Contains-from_lookup same_key-true at.k' at.here (entries_of exported p.from) at.looked) in
        let here_is : at.here ≡ e.1 = one_under (entries_of exported p.from) (lists_distinct g valid p.x exported p.from p.from_is) e.0 at.here e.1 under has in
        record {
          held = from.0.1;
          found_item_is =
              some_whole (λ (k' : WorldKey). lookup (same_key k') (entries_of exported p.into)) (counterpart_key back e.0) from.0.0 from.0.1 (key_back from.0.0 e.0 from.2)
              (lookup_finds_entry (entries_of exported p.into) (lists_distinct h valid_other p.x' exported p.into p.into_is) from.0.0 from.0.1 from.1);
          same = subst (λ (x : WorldItem). same_sort from.0.1 x ≡ true) here_is at.same;
          agrees = subst (λ (x : WorldItem). (text : List ℕ) → ItemsDiffer there from.0.1 x text → ⊥) here_is at.agrees;
        }

    entries_agree : (exported : Bool) (text : List ℕ) → EntriesDiffer back (side_word exported) (entries_of exported p.from) (entries_of exported p.into) text → ⊥
    entries_agree exported text (differ.count unlike) = unlike (sym (same_count there valid valid_other one p.x' p.x p.into p.from p.into_is found p.from_is exported))
    entries_agree exported text (differ.absent e has none) = let at = entry_back exported e has in never at.held (sym none ∙ at.found_item_is)
      where
        never : (x : WorldItem) → None ≡ Some x → ⊥
        never x same = cc
    entries_agree exported text (differ.apart e held told has found unlike) =
        let at = entry_back exported e has in
        let held_is : held ≡ at.held = some_same held at.held (sym found ∙ at.found_item_is) in
        items_agree e.1 at.held told (subst (λ (x : WorldItem). ItemsDiffer back e.1 x told) held_is unlike) at.same at.agrees

  -- ---- types

  types_agree : (message : List ℕ) → FirstDiffers (StructuresDiffer back) (type_pairs back) message → ⊥
  types_agree message first =
      let pair = first.pair in
      let has : Contains (type_pairs back) pair = subst (λ (l : List TypePair). Contains l pair) (sym first.first.are) (Contains-append_right first.first.before (pair ∷ first.first.after) pair (Contains-here pair first.first.after)) in
      let matched = type_back h g b a valid_other valid pair.from pair.into (pair_matched back valid_other valid pair has) in
      let unlike = differ_back h.types g.types (counterpart_type there) (counterpart_type back) (type_back g h a b valid valid_other) (λ t t'. type_back h g b a valid_other valid t' t) pair.into pair.from first.first.is.0 first.first.is.1 in
      no_difference there valid valid_other one pair.into pair.from unlike.1.x unlike.1.y matched unlike.1.first

  -- ---- all

  pub agrees_back : HasNoMismatch back
  agrees_back message (differ.interfaces p home at name text called of there_is unlike) = interfaces_agree p name text called unlike
  agrees_back message (differ.worlds p home at exported text of there_is unlike) = entries_agree p exported text unlike
  agrees_back message (differ.types told first) = types_agree told first

pub agreement_is_symmetric : AgreementIsSymmetric
agreement_is_symmetric g h offset back valid valid_other one = agrees_back g h offset back valid valid_other one
