-- What stands on a cycle, and the errors that tell of it.
use Rattle.std.proofs.Common.{◌≡◌, ◌∙◌, ◌⊎◌, inl, inr, ℕ, ◌+◌, ◌<◌, ◌≤◌, List, [], ◌∷◌, ◌++◌, length, Option, None, Some, IsSome, rules, get_or, slice_get, refl, sym, ap, subst, arith, All, Contains}
use Rattle.std.specs.List.{enumerate_from}
use Rattle.std.proofs.lemmas.Bool.{cases_lt}
use Rattle.std.proofs.lemmas.List.{get_or_default, get_or_past, length-map}
use Rattle.std.proofs.lemmas.List.FromFn.{length-enumerate_from}
use Rattle.std.proofs.lemmas.List.Elements.{All-from_get_or, Contains-append_cases, Contains-append_left, Contains-get_or, Contains-push}
use Rattle.wit_digraph.specs.Cycles.{IsOnCycle}
use Rattle.wit_digraph.specs.facts.MemberFacts.{Contains-nil, Contains-here, Contains-cons_cases}
use Rattle.wit_digraph.specs.Relation.{direct, IsInRange, IsPath}
use Rattle.wit_data.specs.declared.types.TypeDef.{TypeDef}
use Rattle.wit_data.specs.Kind.{referred, type_references}
use Rattle.wit_elaboration.specs.Elaboration.{graph_uses}
use Rattle.wit_graph_data.specs.declared.graph.Graph.{Graph}
use Rattle.wit_graph_data.specs.declared.graph.Package.{Package}
use Rattle.wit_graph_data.specs.declared.error_kind.ResolveErrorKind.{ResolveErrorKind}
use Rattle.wit_graph_data.specs.declared.error_kind.ResolveErrorKind.TheVariants.{OutOfMemory, PackageCycle}
use Rattle.wit_transform.specs.steps.Reasons.{CyclesHaveNames, ElaborationCause, IsInterfaceCycleError, IsRound, IsSomeNamed, IsTypeCycleError, interface_cycle_22, package_cycle_6, type_cycle_23}
use Rattle.wit_graph_data.specs.steps.Parts.{package_needs}
use Rattle.wit_elaboration.specs.steps.Parts.{graph_package_uses, interface_cycle_text, type_cycle_text}

-- ---- on a cycle

module _ (uses : List (List ℕ)) where
  -- what has a use is there
  pub user_there : (i j : ℕ) → Contains (direct uses i) j → i < length uses
  user_there i j edge =
      elim (cases_lt i (length uses)) [
        | inl there ↦ there
        | inr past ↦ absurd (Contains-nil (subst (λ (row : List ℕ). Contains row j) (get_or_past uses i [] past) edge))
      ]

  -- where a way ends that has a step is used
  end_used : (i k : ℕ) (path : List ℕ) (j : ℕ) → IsPath uses i (k ∷ path) j → (m : ℕ) × Contains (direct uses m) j
  end_used i k [] j leads = (i, subst (λ (x : ℕ). Contains (direct uses i) x) leads.1 leads.0)
  end_used i k (l ∷ path) j leads = end_used k l path j leads.1

  -- the user of a use on a cycle is used
  pub user_used : (i j : ℕ) → IsOnCycle uses i j → (m : ℕ) × Contains (direct uses m) i
  user_used i j on = end_used i j on.leads_back.0 i (on.is_used, on.leads_back.1)

  joined : (i : ℕ) (path : List ℕ) (k : ℕ) (more : List ℕ) (j : ℕ) → IsPath uses i path k → IsPath uses k more j → IsPath uses i (path ++ more) j
  joined i [] k more j same leads = subst (λ (x : ℕ). IsPath uses x more j) (sym same) leads
  joined i (x ∷ path) k more j first leads = (first.0, joined x path k more j first.1 leads)

  -- a way by a node is one to it and one from it
  parted : (i : ℕ) (path : List ℕ) (j n : ℕ) → IsPath uses i path j → Contains path n
      → (before : List ℕ) × (after : List ℕ) × IsPath uses i before n × IsPath uses n after j
  parted i [] j n leads has = absurd (Contains-nil has)
  parted i (k ∷ path) j n leads has =
      elim (Contains-cons_cases k n path has) [
        | inl same ↦ (k ∷ [], path, (leads.0, same), subst (λ (x : ℕ). IsPath uses x path j) same leads.1)
        | inr there ↦
            let rest = parted k path j n leads.1 there in
            (k ∷ rest.0, rest.1, (leads.0, rest.2), rest.3)
      ]

  -- a node to which a way leads back
  looped : (n : ℕ) (k : ℕ) (path : List ℕ) → IsPath uses n (k ∷ path) n → (m : ℕ) × IsOnCycle uses n m
  looped n k path leads = (k, record { is_used = leads.0; leads_back = (path, leads.1) })

  transformed : (t k : ℕ) (path : List ℕ) (n : ℕ) → IsPath uses t (k ∷ path) t → (before after : List ℕ) → IsPath uses t before n → IsPath uses n after t → (m : ℕ) × IsOnCycle uses n m
  transformed t k path n leads before (x ∷ after) to from = looped n x (after ++ before) (joined n (x ∷ after) t before n from to)
  transformed t k path n leads before [] to from = looped n k path (subst (λ (x : ℕ). IsPath uses x (k ∷ path) x) (sym from) leads)

  -- each node on the way of a cycle is on one
  on_way : (t k : ℕ) (path : List ℕ) (n : ℕ) → IsPath uses t (k ∷ path) t → Contains (k ∷ path) n → (m : ℕ) × IsOnCycle uses n m
  on_way t k path n leads has =
      let parts = parted t (k ∷ path) t n leads has in
      transformed t k path n leads parts.0 parts.1 parts.2 parts.3

-- each node of a round is on a cycle
pub on_round : (uses : List (List ℕ)) (nodes : List ℕ) (n : ℕ) → IsRound uses nodes → Contains nodes n → (m : ℕ) × IsOnCycle uses n m
on_round uses nodes n is has = around is.others (subst (λ (l : List ℕ). Contains l n) is.nodes_are has) is.leads_back
  where
    around : (others : List ℕ) → Contains (is.first ∷ others) n → IsPath uses is.first (others ++ is.first ∷ []) is.first → (m : ℕ) × IsOnCycle uses n m
    around [] among leads = on_way uses is.first is.first [] n leads among
    around (k ∷ others) among leads = on_way uses is.first k (others ++ is.first ∷ []) n leads
        (elim (Contains-cons_cases is.first n (k ∷ others) among) [
          | inl same ↦ subst (λ (x : ℕ). Contains (k ∷ others ++ is.first ∷ []) x) same (Contains-push (k ∷ others) is.first)
          | inr there ↦ Contains-append_left (k ∷ others) (is.first ∷ []) n there
        ])

-- ---- what is told

module _ (g : Graph) where
  pub package_there : (i j : ℕ) → IsOnCycle (graph_package_uses g) i j → i < length g.packages
  package_there i j on =
      let within = user_there (graph_package_uses g) i j on.is_used in
      omega (arith, within, length-map (enumerate_from 0 g.packages) (λ (e : ℕ × Package). package_needs g.types g.interfaces g.worlds e.0 e.1), length-enumerate_from 0 g.packages)

  pub package_told : (i j : ℕ) (there : Package) (e : ResolveErrorKind) → IsOnCycle (graph_package_uses g) i j → slice_get g.packages i ≡ Some there → e ≡ PackageCycle None there.name
      → (e ≡ OutOfMemory) ⊎ ElaborationCause g e
  package_told i j there e on at told =
      inr (subst (ElaborationCause g) (sym told) (package_cycle_6 there.name (record { p = i; q = j; on_cycle = on; there = there; is = at; home_is = refl })))

  pub interface_told : (i j : ℕ) (e : ResolveErrorKind) → IsOnCycle (graph_uses g) i j → IsInterfaceCycleError g i e → (e ≡ OutOfMemory) ⊎ ElaborationCause g e
  interface_told i j e on told =
      inr (subst (ElaborationCause g) (sym told.error_is) (interface_cycle_22 (interface_cycle_text told.id) (record { i = i; j = j; on_cycle = on; id = told.id; id_is = told.id_is; message_is = refl })))

  pub type_told : (ids : List ℕ) (e : ResolveErrorKind) → IsRound (type_references g.types) ids → IsTypeCycleError g.types ids e → (e ≡ OutOfMemory) ⊎ ElaborationCause g e
  type_told ids e round told =
      let on = on_round (type_references g.types) ids told.id round told.among in
      inr (subst (ElaborationCause g) (sym told.error_is)
      (type_cycle_23 (type_cycle_text told.name) (record { t = told.id; u = on.0; on_cycle = on.1; def = told.def; is = told.is; name = told.name; name_is = told.name_is; message_is = refl })))

-- ---- names on a cycle of types

-- the types of a round are there
pub round_there : (types : List TypeDef) (ids : List ℕ) → IsInRange (type_references types) → IsRound (type_references types) ids → All (λ id. id < length types) ids
round_there types ids in_range is = All-from_get_or (λ id. id < length types) ids 0 (λ i inside.
    let on = on_round (type_references types) ids (get_or ids i 0) is (Contains-get_or ids i 0 inside) in
    let within = user_there (type_references types) (get_or ids i 0) on.0 on.1.is_used in
    omega (arith, within, length-map types (λ (def : TypeDef). referred def.kind)))

-- some of them has a name
pub round_named : (types : List TypeDef) (ids : List ℕ) → CyclesHaveNames types → IsRound (type_references types) ids → IsSomeNamed types ids
round_named types ids named is = around is.others is.nodes_are is.leads_back
  where
    around : (others : List ℕ) → ids ≡ is.first ∷ others → IsPath (type_references types) is.first (others ++ is.first ∷ []) is.first → IsSomeNamed types ids
    around [] are leads =
        let some = named is.first is.first [] leads in
        let among : Contains (is.first ∷ []) some.id = elim (Contains-cons_cases is.first some.id (is.first ∷ []) some.among) [
          | inl same ↦ subst (λ (x : ℕ). Contains (is.first ∷ []) x) same (Contains-here is.first [])
          | inr there ↦ there
        ] in
        record { id = some.id; def = some.def; among = rw are among; is = some.is; named = some.named }
    around (k ∷ others) are leads =
        let some = named is.first k (others ++ is.first ∷ []) leads in
        let among : Contains (is.first ∷ k ∷ others) some.id = elim (Contains-append_cases (is.first ∷ k ∷ others) (is.first ∷ []) some.id some.among) [
          | inl before ↦ before
          | inr last ↦ elim (Contains-cons_cases is.first some.id [] last) [
            | inl same ↦ subst (λ (x : ℕ). Contains (is.first ∷ k ∷ others) x) same (Contains-here is.first (k ∷ others))
            | inr none ↦ absurd (Contains-nil none)
          ]
        ] in
        record { id = some.id; def = some.def; among = rw are among; is = some.is; named = some.named }

-- ---- no type with a name

-- so many of the ids are of types without a name
abbrev pub HaveNoName : List TypeDef → List ℕ → ℕ → Type 0
HaveNoName types ids n = (k : ℕ) → k < n → (def : TypeDef) → slice_get types (get_or ids k 0) ≡ Some def → def.name ≡ None

pub none_named : (types : List TypeDef) (ids : List ℕ) (n : ℕ) → HaveNoName types ids n → length ids ≤ n → IsSomeNamed types ids → ⊥
none_named types ids n none all some =
    let at = some.among in
    let one : get_or ids at.0 0 ≡ some.id = get_or_default ids at.0 0 some.id at.1 ∙ at.2 in
    let there : slice_get types (get_or ids at.0 0) ≡ Some some.def = ap (slice_get types) one ∙ some.is in
    let unnamed : some.def.name ≡ None = none at.0 (omega (arith, at.1, all)) some.def there in
    absurd_some some.def.name some.named unnamed
  where
    absurd_some : (o : Option (List ℕ)) → IsSome o → o ≡ None → ⊥
    absurd_some None some same = search rules
    absurd_some (Some x) some same = cc

-- one more has none
pub unnamed_next : (types : List TypeDef) (ids : List ℕ) (n id : ℕ) (def : TypeDef) → HaveNoName types ids n → get_or ids n 0 ≡ id → slice_get types id ≡ Some def → def.name ≡ None → HaveNoName types ids (n + 1)
unnamed_next types ids n id def none at is unnamed k below other there =
    elim (cases_lt k n) [
      | inl before ↦ none k before other there
      | inr reached ↦
          let same : k ≡ n = omega (arith, below, reached) in
          let here : get_or ids k 0 ≡ id = ap (λ (i : ℕ). get_or ids i 0) same ∙ at in
          let both : Some def ≡ Some other = sym is ∙ ap (slice_get types) (sym here) ∙ there in
          let one : def ≡ other = cc in
          subst (λ (d : TypeDef). d.name ≡ None) one unnamed
    ]
