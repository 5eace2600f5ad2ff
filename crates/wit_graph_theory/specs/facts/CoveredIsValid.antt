-- A covered graph of good sources has good types, interfaces and worlds; with its tables and what is about
-- the whole it is valid.
use Rattle.std.proofs.Common.{◌≡◌, inl, inr, ℕ, refl, sym, subst}
use Rattle.wit_data.specs.Each.{Each}
use Rattle.wit_data.specs.declared.types.TypeDef.{TypeDef}
use Rattle.wit_data.specs.declared.types.TypeDefKind.TheVariants as kind
use Rattle.wit_elaboration.specs.Valid.{IsValid}
use Rattle.wit_graph_data.specs.declared.graph.Graph.{Graph}
use Rattle.wit_graph_theory.specs.facts.Covered.{IsCovered}
use Rattle.wit_graph_theory.specs.Cut.{IsGoodWhere}
use Rattle.wit_graph_theory.specs.facts.Good.{HasGoodItems, HasGoodThings, IsGoodAsAWhole, IsGoodType}
use Rattle.wit_remap_spec.specs.Kept.{KeptIds}
use Rattle.wit_remap_spec.specs.steps.Kept.{everything}
use Rattle.wit_graph_theory.specs.steps.Sources.{Carries, IsGoodSource, Source}
use Rattle.wit_graph_theory.specs.laws.Theory.{HasGoodTables}
use Rattle.wit_graph_theory.specs.facts.GoodInterfaces.{good_interface}
use Rattle.wit_graph_theory.specs.facts.GoodIsValid.{IsValid-from_good}
use Rattle.wit_graph_theory.specs.facts.GoodTypes.{good_own, good_type}
use Rattle.wit_graph_theory.specs.facts.GoodWorlds.{good_world}

module _ {K : Type 0} (at : K → Source) (g : Graph) (good : (k : K) → IsGoodSource (at k)) (carries : (k : K) → Carries (at k) g) where
  -- what is covered of a graph is good: the step of a loop that finishes one world after another
  pub IsGoodWhere-of_covered : (kept : KeptIds) → IsCovered kept at g → IsGoodWhere kept g.types g.interfaces g.worlds
  IsGoodWhere-of_covered kept covered = record {
    types_are = λ t' new there takes. elim (covered.types t' new there takes) [
      | inl comes ↦
          let source = good comes.source in
          subst (λ (t : ℕ). IsGoodType g.types g.interfaces g.worlds t new) (sym comes.place)
          (good_type (at comes.source) g source.closed (carries comes.source) comes.t comes.old new comes.there comes.takes (source.types comes.t comes.old comes.there comes.takes) comes.carried)
      | inr own ↦ good_own g t' ((at own.source).maps.types own.t) new own.name own.owner own.kind
    ];
    interfaces_are = λ f' new there takes. good_interface at g good carries f' new (covered.interfaces f' new there takes);
    imports_are = λ w' new there takes. (good_world at g good carries w' new there (covered.worlds w' new there takes)).imports;
    exports_are = λ w' new there takes. (good_world at g good carries w' new there (covered.worlds w' new there takes)).exports;
  }

  module _ (covered : IsCovered everything at g) where
    covered_known : Each (λ (def : TypeDef). def.kind ≡ kind.Unknown → ⊥) g.types
    covered_known t' new there unknown =
        elim (covered.types t' new there refl) [
          | inl comes ↦ comes.carried.known unknown
          | inr own ↦ let made = own.kind in cc
        ]

    -- its types, interfaces and worlds are good
    pub covered_items : HasGoodItems g
    covered_items =
        let are = IsGoodWhere-of_covered everything covered in
        record {
          types = λ t' new there. are.types_are t' new there refl;
          known = covered_known;
          interfaces = λ f' new there. are.interfaces_are f' new there refl;
          worlds = λ w' new there. good_world at g good carries w' new there (covered.worlds w' new there refl);
        }

    pub covered_things : HasGoodTables g → HasGoodThings g
    covered_things tables =
        let items = covered_items in
        record {
          types = items.types;
          known = items.known;
          interfaces = items.interfaces;
          worlds = items.worlds;
          packages = tables.packages;
          interfaces_in_tables = tables.interfaces;
          worlds_in_tables = tables.worlds;
        }

    -- a covered graph of good sources is valid
    pub IsValid-of_covered : HasGoodTables g → IsGoodAsAWhole g → IsValid g
    IsValid-of_covered tables whole = IsValid-from_good g (covered_things tables) whole
