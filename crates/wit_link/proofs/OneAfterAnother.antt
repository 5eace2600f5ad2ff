-- Packages that are added one after another.
use Rattle.std.proofs.Common.{◌≡◌, ◌∙◌, ◌⊎◌, inl, inr, ℕ, List, [], ◌∷◌, ◌++◌, refl, sym, subst}
use Rattle.wit_graph_data.specs.declared.features.Features.{Features}
use Rattle.wit_graph_data.specs.declared.graph.Graph.{Graph}
use Rattle.wit_graph_data.specs.declared.error_kind.ResolveErrorKind.{ResolveErrorKind}
use Rattle.wit_graph_data.specs.declared.error_kind.ResolveErrorKind.TheVariants.{OutOfMemory}
use Rattle.wit_link.specs.GroupOrder.{Unresolved}
use Rattle.wit_link_spec.specs.Cause.{IsAdditionCause}
use Rattle.wit_link.specs.Appending.{AreAdded, IsAdded, IsOneRefused, addition}

-- one package more is added
pub pushed_more : (features : Features) (g : Graph) (ps : List Unresolved) (mid : Graph) (ids : List ℕ) (p : Unresolved) (new : Graph) (id : ℕ) → AreAdded features g ps mid ids → IsAdded (addition features mid p.0 p.1) new id
    → AreAdded features g (ps ++ p ∷ []) new (ids ++ id ∷ [])
pushed_more features g [] mid [] p new id same added = (new, subst (λ (x : Graph). IsAdded (addition features x p.0 p.1) new id) same added, refl)
pushed_more features g [] mid (i ∷ ids) p new id pushed added = absurd pushed
pushed_more features g (q ∷ ps) mid [] p new id pushed added = absurd pushed
pushed_more features g (q ∷ ps) mid (i ∷ ids) p new id pushed added = (pushed.0, pushed.1, pushed_more features pushed.0 ps mid ids p new id pushed.2 added)

-- where packages were added, none of them had a reason to be refused
none_refused : (features : Features) (g : Graph) (before : List Unresolved) (p : Unresolved) (after : List Unresolved) (new : Graph) (ids : List ℕ) → AreAdded features g (before ++ p ∷ after) new ids
    → (mid : Graph) (earlier : List ℕ) → AreAdded features g before mid earlier → (error : ResolveErrorKind) → IsAdditionCause (addition features mid p.0 p.1) error → ⊥
none_refused features g [] p after new [] pushed mid earlier first error cause = pushed
none_refused features g [] p after new (id ∷ ids) pushed mid [] first error cause = pushed.1.accepted error (subst (λ (x : Graph). IsAdditionCause (addition features x p.0 p.1) error) first cause)
none_refused features g [] p after new (id ∷ ids) pushed mid (e ∷ earlier) first error cause = first
none_refused features g (q ∷ before) p after new [] pushed mid earlier first error cause = pushed
none_refused features g (q ∷ before) p after new (id ∷ ids) pushed mid [] first error cause = first
none_refused features g (q ∷ before) p after new (id ∷ ids) pushed mid (e ∷ earlier) first error cause =
    let same : first.0 ≡ pushed.0 = first.1.graph_is ∙ sym pushed.1.graph_is in
    none_refused features pushed.0 before p after new ids pushed.2 mid earlier (subst (λ (x : Graph). AreAdded features x before mid earlier) same first.2) error cause

pub never_refused : (features : Features) (g : Graph) (packages : List Unresolved) (new : Graph) (ids : List ℕ) → AreAdded features g packages new ids → (error : ResolveErrorKind) → IsOneRefused features g packages error → ⊥
never_refused features g packages new ids pushed error is =
    none_refused features g is.before is.p is.after new ids (subst (λ (ps : List Unresolved). AreAdded features g ps new ids) is.packages_are pushed) is.mid is.ids is.pushed error is.cause

-- why one package is refused
pub refused_here : (features : Features) (g : Graph) (packages before after : List Unresolved) (p : Unresolved) (mid : Graph) (ids : List ℕ) → before ++ p ∷ after ≡ packages → AreAdded features g before mid ids → (error : ResolveErrorKind)
    → (error ≡ OutOfMemory) ⊎ IsAdditionCause (addition features mid p.0 p.1) error → (error ≡ OutOfMemory) ⊎ IsOneRefused features g packages error
refused_here features g packages before after p mid ids are pushed error (inl memory) = inl memory
refused_here features g packages before after p mid ids are pushed error (inr cause) = inr (record {
  before = before;
  p = p;
  after = after;
  packages_are = sym are;
  mid = mid;
  ids = ids;
  pushed = pushed;
  cause = cause;
})
