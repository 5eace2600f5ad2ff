-- The keys of elaborated lists.
use Rattle.std.proofs.Common.{◌≡◌, ℕ, zero, suc, not, inl, inr, List, [], ◌∷◌, ◌++◌, filter, length, Some, slice_get, refl, sym, ap, subst, ◌∙◌, Contains}
use Rattle.std.specs.Map.{keys_of}
use Rattle.std.proofs.lemmas.Bool.{cases_Bool, false≢true}
use Rattle.std.proofs.lemmas.List.Elements.{Contains-append_cases, Contains-append_left, Contains-append_right}
use Rattle.wit_data.specs.declared.types.TypeDef.{TypeDef}
use Rattle.wit_data.specs.declared.world.World.{World}
use Rattle.wit_data.specs.declared.world.WorldKey.{WorldKey}
use Rattle.wit_digraph.specs.facts.MemberFacts.{Contains-nil, Contains-here, Contains-there, Contains-cons_cases, Contains-flat_map}
use Rattle.wit_digraph.specs.Relation.{IsAcyclic}
use Rattle.wit_elaboration.specs.Entries.{Entry, fresh_entries}
use Rattle.wit_elaboration.specs.Elaborated.{elaborated_imports, elaborated_exports}
use Rattle.wit_elaboration.specs.Imported.{is_exported}
use Rattle.wit_elaboration.specs.laws.KeptByElaboration.{ElaboratedOnce, ExportKeysStay}
use Rattle.wit_values.specs.Table.{HasDistinctKeys}
use Rattle.wit_elaboration.specs.facts.Classes.{by_class-new}
use Rattle.wit_elaboration.proofs.ExportedKeys.{exported_entry}
use Rattle.wit_elaboration.proofs.ExportsAgain.{walked, functions, kept, made, functions_other}
use Rattle.wit_elaboration.specs.facts.Filters.{Contains-filter, Contains-filtered}
use Rattle.wit_elaboration.specs.facts.FreshEntries.{AllNew, AllNew-apart, AllNew-append, AllNew-over, AllNew-filter, AllNew-one, Contains-keys, absent_from, keys-Contains, keys_of-append, fresh_entries_all, fresh_entries-AllNew}
use Rattle.wit_elaboration.proofs.ImportsAgain.{from_imports, from_exports}
use Rattle.wit_elaboration.proofs.Marking.{contains_at}
use Rattle.wit_elaboration.proofs.Roles.{InOrder, in_order, is_instance_from_role}
use Rattle.wit_elaboration.specs.steps.Parts.{export_with_needs, is_interface}

-- ---- distinct keys, by places and one after the other

-- a member has a place
place_of : (es : List Entry) (e : Entry) → Contains es e → (i : ℕ) × (slice_get es i ≡ Some e)
place_of [] e has = absurd (Contains-nil has)
place_of (x ∷ es) e has =
    elim (Contains-cons_cases x e es has) [ inl same ↦ (zero, ap (λ z. Some z) same) | inr there ↦ let more = place_of es e there in (suc more.0, more.1) ]

suc_inj : {i j : ℕ} → suc i ≡ suc j → i ≡ j
suc_inj same = cc

pub AllNew-distinct : (es : List Entry) (seen : List WorldKey) → AllNew seen es → HasDistinctKeys es
AllNew-distinct [] seen new i j e f first second same = cc
AllNew-distinct (x ∷ es) seen new zero zero e f first second same = refl
AllNew-distinct (x ∷ es) seen new zero (suc j) e f first second same =
    let here : x ≡ e = cc in
    absurd (AllNew-apart es (seen ++ x.0 ∷ []) f new.1 (contains_at es j f second) (Contains-append_right seen (x.0 ∷ []) f.0 (subst (λ k. Contains (x.0 ∷ []) k) (ap (λ (z : Entry). z.0) here ∙ same) (Contains-here x.0 []))))
AllNew-distinct (x ∷ es) seen new (suc i) zero e f first second same =
    let here : x ≡ f = cc in
    absurd (AllNew-apart es (seen ++ x.0 ∷ []) e new.1 (contains_at es i e first) (Contains-append_right seen (x.0 ∷ []) e.0 (subst (λ k. Contains (x.0 ∷ []) k) (ap (λ (z : Entry). z.0) here ∙ sym same) (Contains-here x.0 []))))
AllNew-distinct (x ∷ es) seen new (suc i) (suc j) e f first second same = ap suc (AllNew-distinct es (seen ++ x.0 ∷ []) new.1 i j e f first second same)

distinct_new : (es : List Entry) (seen : List WorldKey) → HasDistinctKeys es → ((k : WorldKey) → Contains (keys_of es) k → Contains seen k → ⊥) → AllNew seen es
distinct_new [] seen distinct apart = tt
distinct_new (x ∷ es) seen distinct apart = (
  absent_from x.0 seen (apart x.0 (Contains-here x.0 (keys_of es))),
  distinct_new es (seen ++ x.0 ∷ []) (λ i j e f first second same. suc_inj (distinct (suc i) (suc j) e f first second same)) (λ k has had. elim (Contains-append_cases seen (x.0 ∷ []) k had) [
    | inl old ↦ apart k (Contains-there x.0 k (keys_of es) has) old
    | inr own ↦ elim (Contains-cons_cases x.0 k [] own) [
      | inl same ↦ let e = Contains-keys es k has in
          let at = place_of es e.0 e.1.0 in
          zero_apart (distinct zero (suc at.0) x e.0 refl at.1 (same ∙ sym e.1.1))
      | inr none ↦ Contains-nil none
    ]
  ]),
)
  where
    zero_apart : {n : ℕ} → zero ≡ suc n → ⊥
    zero_apart same = cc

pub distinct-AllNew : (es : List Entry) → HasDistinctKeys es → AllNew [] es
distinct-AllNew es distinct = distinct_new es [] distinct (λ k has had. Contains-nil had)

-- ---- exports

module _ (types : List TypeDef) (uses : List (List ℕ)) (acyclic : IsAcyclic uses) (imports exports : List Entry) (listed : InOrder types (length uses) imports exports) where
  abbrev others : List Entry
  others = functions types uses acyclic imports exports listed

  abbrev interfaces : List Entry
  interfaces = kept types uses acyclic imports exports listed

  -- no function has the key of an interface that is exported
  keys_apart : AllNew [] exports → (g f : Entry) → Contains others g → Contains interfaces f → f.0 ≡ g.0 → ⊥
  keys_apart new g f has has' same =
      let is_other = functions_other types uses acyclic imports exports listed g has in
      let old : Contains exports g = (Contains-filter (λ (e : Entry). not (is_interface e)) exports g has).0 in
      elim (made types uses acyclic imports exports listed f has') [
        | inl own ↦ false≢true (sym is_other ∙ ap is_interface (AllNew-one exports [] g f new old own.0 (sym same)) ∙ own.1)
        | inr dep ↦ false≢true (sym is_other ∙ is_instance_from_role types g.1 dep.1 (listed.own_exports g dep.1 old (sym same ∙ sym (ap (λ (z : Entry). z.0) dep.2))))
      ]

  exports_new : AllNew [] exports → AllNew [] (others ++ interfaces)
  exports_new new =
      AllNew-append others interfaces [] (AllNew-filter (λ (e : Entry). not (is_interface e)) exports [] [] (λ k had. had) new)
      (AllNew-over interfaces [] (keys_of others) (fresh_entries-AllNew [] (walked types uses acyclic imports exports listed))
      (λ k had. let g = Contains-keys others k had in inr (λ f has same. keys_apart new g.0 f g.1.0 has (same ∙ sym g.1.1))))

  key_before : (k : WorldKey) → Contains (keys_of (others ++ interfaces)) k → Contains (keys_of exports) k
  key_before k has =
      let e = Contains-keys (others ++ interfaces) k has in
      subst (λ l. Contains (keys_of exports) l) e.1.1 (elim (Contains-append_cases others interfaces e.0 e.1.0) [
        | inl old ↦ keys-Contains exports e.0 (Contains-filter (λ (f : Entry). not (is_interface f)) exports e.0 old).0
        | inr new ↦ elim (made types uses acyclic imports exports listed e.0 new) [
          | inl own ↦ keys-Contains exports e.0 own.0
          | inr dep ↦ let d = exported_entry exports dep.1 dep.3 in
              subst (λ l. Contains (keys_of exports) l) (d.1.1 ∙ ap (λ (z : Entry). z.0) dep.2) (keys-Contains exports d.0 d.1.0)
        ]
      ])

  key_after : (k : WorldKey) → Contains (keys_of exports) k → Contains (keys_of (others ++ interfaces)) k
  key_after k has =
      let e = Contains-keys exports k has in
      rw (keys_of-append others interfaces) (subst (λ l. Contains (keys_of others ++ keys_of interfaces) l) e.1.1 (elim (cases_Bool (is_interface e.0)) [
        | inl yes_it_is ↦
            let root : Contains (filter is_interface exports) e.0 = Contains-filtered is_interface exports e.0 e.1.0 yes_it_is in
            let among : Contains (walked types uses acyclic imports exports listed) e.0 =
            Contains-flat_map (export_with_needs uses (is_exported exports)) (filter is_interface exports) e.0 e.0 root (Contains-append_right _ (e.0 ∷ []) e.0 (Contains-here e.0 [])) in
            Contains-append_right (keys_of others) (keys_of interfaces) e.0.0 (fresh_entries_all [] (walked types uses acyclic imports exports listed) e.0 among)
        | inr other ↦
            Contains-append_left (keys_of others) (keys_of interfaces) e.0.0 (keys-Contains others e.0 (Contains-filtered (λ (f : Entry). not (is_interface f)) exports e.0 e.1.0 (ap not other)))
      ]))

-- ---- the laws

pub elaborated_once : ElaboratedOnce
elaborated_once types uses old new acyclic listed is =
    let order = in_order types (length uses) old.imports old.exports listed in
    let imports_are : new.imports ≡ elaborated_imports types uses old.imports old.exports = ap (λ (w : World). w.imports) is.world_is in
    let exports_are : new.exports ≡ elaborated_exports uses old.exports = ap (λ (w : World). w.exports) is.world_is in
    let post_orders : List Entry = from_imports types uses acyclic old.imports old.exports order ++ from_exports types uses acyclic old.imports old.exports order in (
      subst (λ (es : List Entry). HasDistinctKeys es) (sym imports_are) (AllNew-distinct _ [] (by_class-new types (fresh_entries [] post_orders) (fresh_entries-AllNew [] post_orders)).new),
      λ distinct. subst (λ (es : List Entry). HasDistinctKeys es) (sym exports_are)
          (AllNew-distinct _ [] (exports_new types uses acyclic old.imports old.exports order (distinct-AllNew old.exports distinct))),
    )

pub export_keys_stay : ExportKeysStay
export_keys_stay types uses old new k acyclic listed is =
    let order = in_order types (length uses) old.imports old.exports listed in
    let exports_are : new.exports ≡ elaborated_exports uses old.exports = ap (λ (w : World). w.exports) is.world_is in (
      λ has. key_before types uses acyclic old.imports old.exports order k (subst (λ es. Contains (keys_of es) k) exports_are has),
      λ has. subst (λ es. Contains (keys_of es) k) (sym exports_are) (key_after types uses acyclic old.imports old.exports order k has),
    )
