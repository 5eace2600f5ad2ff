-- The order of versions is total, being the same is an equivalence, and the two agree.
use Rattle.std.specs.Prelude.{◌≡◌, Bool, ◌&&◌, Some}
use Rattle.std.proofs.Common.{ap, ◌∙◌}
use Rattle.std.specs.Cmp.Lexicographic.{nat_list_eq_equiv}
use Rattle.std.specs.Ordering.{eq_by_cmp, is_eq, ordering_then}
use Rattle.std.specs.Cmp.{IsEquivalence, IsPartialOrder, IsTotalOrder, nat_cmp_total, on_total, then_total, po, nat_eq_equiv, on_equiv, and_equiv, unsigned_ties}
use Rattle.std.specs.declared.cmp.Ordering.{Ordering}
use Rattle.std.specs.declared.cmp.Ordering.TheVariants.{Less, Equal, Greater}
use Rattle.semver.specs.Order.{pre_cmp, build_cmp}
use Rattle.semver.specs.OrderLaws.{pre_total, build_total, pre-anti, build-anti, order_ties}
use Rattle.wit_values.specs.Version.{Parts, version_cmp, version_eq}

-- that order is total
pub version_cmp_total : IsTotalOrder version_cmp
version_cmp_total = then_total (on_total (λ (p : Parts). p.0) nat_cmp_total) (then_total (on_total (λ (p : Parts). p.1) nat_cmp_total)
    (then_total (on_total (λ (p : Parts). p.2) nat_cmp_total) (then_total (on_total (λ (p : Parts). p.3) pre_total) (on_total (λ (p : Parts). p.4) build_total))))

-- being the same is an equivalence
pub version_eq_equiv : IsEquivalence version_eq
version_eq_equiv = and_equiv (on_equiv (λ (p : Parts). p.0) nat_eq_equiv) (and_equiv (on_equiv (λ (p : Parts). p.1) nat_eq_equiv) (and_equiv (on_equiv (λ (p : Parts). p.2) nat_eq_equiv)
    (and_equiv (on_equiv (λ (p : Parts). p.3) nat_list_eq_equiv) (on_equiv (λ (p : Parts). p.4) nat_list_eq_equiv))))

-- a test and a comparison that agree, followed by others that agree
both_tie : (e f : Bool) (r s : Ordering) → e ≡ is_eq r → f ≡ is_eq s → (e && f) ≡ is_eq (ordering_then r s)
both_tie e f Less s p q = ap (λ b. b && f) p
both_tie e f Equal s p q = ap (λ b. b && f) p ∙ q
both_tie e f Greater s p q = ap (λ b. b && f) p

-- versions are the same exactly where neither comes before the other
pub version_ties : (a b : Parts) → version_eq a b ≡ eq_by_cmp version_cmp a b
version_ties a b =
    both_tie _ _ _ _ (unsigned_ties a.0 b.0) (both_tie _ _ _ _ (unsigned_ties a.1 b.1) (both_tie _ _ _ _ (unsigned_ties a.2 b.2)
    (both_tie _ _ _ _ (order_ties pre_cmp pre_total pre-anti a.3 b.3) (order_ties build_cmp build_total build-anti a.4 b.4))))

-- the order and being the same agree, as `PartialOrd` asks
pub version_po : IsPartialOrder version_eq (λ x y. Some (version_cmp x y))
version_po = po version_cmp_total version_ties
