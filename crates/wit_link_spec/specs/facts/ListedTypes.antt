-- An entry that lists a type.
use Rattle.std.proofs.Common.{◌≡◌, ◌∙◌, inl, inr, ℕ, List, [], Option, refl, sym, subst, Contains}
use Rattle.wit_digraph.specs.facts.MemberFacts.{Contains-cons_cases, Contains-here, Contains-nil}
use Rattle.wit_data.specs.Entries.{Entry}
use Rattle.wit_data.specs.Ownership.{entry_type}
use Rattle.wit_data.specs.declared.world.WorldItem.{WorldItem}
use Rattle.wit_data.specs.declared.world.WorldKey.{WorldKey}
use Rattle.wit_data.specs.declared.world.WorldItem.TheVariants as item
use Rattle.wit_data.specs.declared.world.WorldKey.TheVariants as key

-- an entry that lists a type is a type under that label
pub record ListsType (e : Entry) (name : List ℕ) (t : ℕ) : Type 0 where
  pub span : Option (ℕ × ℕ)
  pub key_is : e.0 ≡ key.Name name
  pub held_is : e.1 ≡ item.Type_ t span

pub lists_type : (e : Entry) (name : List ℕ) (t : ℕ) → Contains (entry_type e.0 e.1) (name, t) → ListsType e name t
lists_type e name t has = by e.0 e.1 refl refl has
  where
    by : (k : WorldKey) (held : WorldItem) → e.0 ≡ k → e.1 ≡ held → Contains (entry_type k held) (name, t) → ListsType e name t
    by (key.Name label) (item.Type_ u span) is holds has =
        elim (Contains-cons_cases (label, u) (name, t) [] has) [
          | inl same ↦ record { span = span; key_is = is ∙ (λ i. key.Name (same i).0); held_is = holds ∙ (λ i. item.Type_ (same i).1 span) }
          | inr none ↦ absurd (Contains-nil none)
        ]
    by (key.Name label) (item.Interface i stability docs span external_id) is holds has = absurd (Contains-nil has)
    by (key.Name label) (item.Function fn) is holds has = absurd (Contains-nil has)
    by (key.Interface f) held is holds has = absurd (Contains-nil has)

pub type_listed : (e : Entry) (name : List ℕ) (t : ℕ) → ListsType e name t → Contains (entry_type e.0 e.1) (name, t)
type_listed e name t is =
    subst (λ (k : WorldKey). Contains (entry_type k e.1) (name, t)) (sym is.key_is)
    (subst (λ (held : WorldItem). Contains (entry_type (key.Name name) held) (name, t)) (sym is.held_is) (Contains-here (name, t) []))
