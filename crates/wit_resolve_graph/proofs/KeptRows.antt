-- What is kept beside a graph, after a transformation of a world, after its imports are merged and after packages came.
use Rattle.std.proofs.Common.{◌≡◌, ◌∙◌, ℕ, List, [], Bool, Option, None, Some, slice_get, OnOk, OnErr, Result, Ok, Err, refl, sym, ap, subst}
use Rattle.std.specs.Option.{option_map_or}
use Rattle.wit_data.specs.declared.types.TypeDef.{TypeDef}
use Rattle.wit_data.specs.declared.world.World.{World}
use Rattle.wit_elaboration.specs.Elaboration.{graph_uses}
use Rattle.wit_elaboration.specs.Entries.{Entry}
use Rattle.wit_elaboration.specs.Valid.{IsValid}
use Rattle.wit_graph_data.specs.declared.graph.Graph.{Graph}
use Rattle.wit_remap.specs.Grown.{Grown}
use Rattle.wit_remap.specs.steps.Grown.{cut_at, mark_of}
use Rattle.wit_remap.specs.facts.GrownFacts.{cut_back}
use Rattle.wit_remap.specs.declared.mark.Mark.{Mark}
use Rattle.wit_queries.specs.ValidBits.{AreValidBits, AreValidBitsOf}
use Rattle.wit_queries.specs.facts.ValidBitsFacts.{flags_stay}
use Rattle.wit_transform.specs.Transformed.{WorldLists, transformed, transformed_at}
use Rattle.wit_link.specs.Caches.{AreCachesOf, HaveGrown}
use Rattle.wit_link.specs.declared.caches.CachesMark.{CachesMark}
use Rattle.wit_link.specs.declared.caches.GraphCaches.{GraphCaches}
use Rattle.wit_link.specs.facts.CachesFacts.{caches_back, caches_of_same}
use Rattle.wit_link.specs.steps.CachesMarks.{caches_cut_at, caches_mark_of}
use Rattle.wit_link_resources.specs.steps.Leading.{AreRight}
use Rattle.wit_semver.specs.steps.Replacing.{with_imports}
use Rattle.wit_resolve_graph.specs.State.{AreKept}
use Rattle.wit_resolve_graph.specs.declared.kept.Kept.{Kept}

-- a transformation leaves types and interfaces as they are
pub record LeavesTypes (g new : Graph) : Type 0 where
  pub uses : graph_uses new ≡ graph_uses g
  pub types : new.types ≡ g.types

pub transformed_leaves : (g : Graph) (w : ℕ) (turn : World → WorldLists) → LeavesTypes g (transformed g w turn)
transformed_leaves g w turn = of (slice_get g.worlds w)
  where
    of : (found : Option World) → LeavesTypes g (option_map_or (λ (world : World). transformed_at g w world (turn world)) found g)
    of None = record { uses = refl; types = refl }
    of (Some world) = record { uses = refl; types = refl }

-- what is kept, with these adjacency lists of interfaces
abbrev with_rows : Kept → List (List ℕ) → Kept
with_rows kept rows = record kept { caches = record kept.caches { elaborator = rows } }

-- what was kept of a graph is of another with the same types and uses, whose adjacency lists stay
module _ (g new : Graph) (kept : Kept) (uses : List (List ℕ)) (same_uses : uses ≡ kept.caches.elaborator) (of : AreKept g kept) (valid : IsValid new) where
  same_kept : LeavesTypes g new → AreKept new (with_rows kept uses)
  same_kept leaves = record {
    valid = valid;
    caches = record {
      uses = same_uses ∙ of.caches.uses ∙ sym leaves.uses;
      met = subst (λ (types : List TypeDef). AreRight types kept.caches.met) (sym leaves.types) of.caches.met;
    };
    bits = subst (λ (types : List TypeDef). AreValidBitsOf types kept.valid_bits) (sym leaves.types) of.bits;
  }

  -- and so where it is transformed or the turn is refused
  pub kept_after : {T E P : Type 0} (r : Result T E) → OnOk r P → (P → LeavesTypes g new) → OnErr r (new ≡ g) → AreKept new (with_rows kept uses)
  kept_after (Ok x) told leaves same = same_kept (leaves told)
  kept_after (Err e) told leaves same = same_kept (record { uses = ap graph_uses same; types = ap (λ (h : Graph). h.types) same })

  pub kept_transformed : {T E : Type 0} (r : Result T E) (w : ℕ) (turn : World → WorldLists) → OnOk r (new ≡ transformed g w turn) → OnErr r (new ≡ g) → AreKept new (with_rows kept uses)
  kept_transformed r w turn ok = kept_after r ok (λ is. subst (λ (h : Graph). LeavesTypes g h) (sym is) (transformed_leaves g w turn))

-- a world that lists other imports leaves them, too
pub kept_imports : (g : Graph) (w : ℕ) (imports : List Entry) (kept : Kept) → AreKept g kept → IsValid (with_imports g w imports) → AreKept (with_imports g w imports) kept
kept_imports g w imports kept of valid = same_kept g (with_imports g w imports) kept kept.caches.elaborator refl of valid (record { uses = refl; types = refl })

-- no flags tell nothing
pub none_known : (types : List TypeDef) (flags : List Bool) → flags ≡ [] → AreValidBits types flags
none_known types flags none = λ t flag at. absurd (no_flag flag (sym (ap (λ (l : List Bool). slice_get l t) none) ∙ at))
  where
    no_flag : (flag : Bool) → ◌≡◌ {A = Option Bool} None (Some flag) → ⊥
    no_flag flag same = cc

-- where packages came, the flags that there were are right yet
pub flags_known : (g new : Graph) (kept : Kept) → AreKept g kept → Grown g new → AreValidBits new.types kept.valid_bits
flags_known g new kept of grown = flags_stay g.types new.types of.valid.no_cycles.types grown.types kept.valid_bits of.bits

-- where flags came for what was added, all is kept
pub kept_followed : (new after : Graph) (left : Kept) (caches : GraphCaches) → IsValid new → AreCachesOf new caches → (after ≡ new) × ((left.caches ≡ caches) × AreValidBitsOf after.types left.valid_bits) → AreKept after left
kept_followed new after left caches valid of told = record {
  valid = subst IsValid (sym told.0) valid;
  caches = caches_of_same new after left.caches told.0 (subst (AreCachesOf new) (sym told.1.0) of);
  bits = told.1.1;
}

-- and where all is cut back, it is as it was
pub kept_cut : (g new after : Graph) (kept left : Kept) (mark : Mark) (known : CachesMark) (caches : GraphCaches) → AreKept g kept → Grown g new → mark ≡ mark_of g → HaveGrown kept.caches caches → known ≡ caches_mark_of kept.caches
    → (after ≡ cut_at mark new) × ((left.caches ≡ caches_cut_at known caches) × (left.valid_bits ≡ kept.valid_bits)) → AreKept after left
kept_cut g new after kept left mark known caches of grown marked more known_is cut =
    let back : after ≡ g = cut.0 ∙ ap (λ (m : Mark). cut_at m new) marked ∙ cut_back g new grown in
    let same : left.caches ≡ kept.caches = cut.1.0 ∙ ap (λ (m : CachesMark). caches_cut_at m caches) known_is ∙ caches_back kept.caches caches more in
    let flags : AreValidBitsOf g.types left.valid_bits = subst (λ (flags : List Bool). AreValidBitsOf g.types flags) (sym cut.1.1) of.bits in
    record {
      valid = subst IsValid (sym back) of.valid;
      caches = caches_of_same g after left.caches back (subst (AreCachesOf g) (sym same) of.caches);
      bits = subst (λ (h : Graph). AreValidBitsOf h.types left.valid_bits) (sym back) flags;
    }
