-- Readings that succeed, one step after another.
use Rattle.std.proofs.Common.{◌≡◌, ◌∙◌, ℕ, suc, Bool, true, false, cond, List, [], ◌∷◌, ◌++◌, map, length, Option, Some, None, Ok, refl, sym, ap, subst, bytes_eq, append_assoc, slice_get, arith, append-nil, if◌then◌else◌}
use Rattle.std.proofs.lemmas.Option.{slice_get_within}
use Rattle.std.proofs.lemmas.Slice.Eq.{bytes_eq-Decides}
use Rattle.std.specs.Option.{option_map, option_map_or}
use Rattle.std.specs.Prelude.{IfSome, is_some}
use Rattle.std.specs.Map.{lookup}
use Rattle.json.specs.Find.{get}
use Rattle.json.specs.Json.{Json}
use Rattle.json.specs.Value.{items_of}
use Rattle.wit_values.specs.Table.{HasDistinctKeys}
use Rattle.wit_values.specs.facts.Lists.{slice_get-behind, slice_get-append}
use Rattle.wit_data.specs.Each.{Each}
use Rattle.wit_json.specs.Values.{members_of, object_under_names, pair, tagged}
use Rattle.wit_json.specs.Values as written
use Rattle.wit_json_reading.specs.Objects.{alone, read_pair, read_variant}
use Rattle.wit_json_reading.specs.Reading.{Reading, ◌>>=◌, instead_of, items_from, read_list, only, read_optional, read_required, under, read_leaving_out}
use Rattle.wit_json_reading.specs.Tables.{named_from, read_named}
use Rattle.wit_json_reading.specs.declared.fault.Expected.{Expected}
use Rattle.wit_json_reading.specs.declared.fault.Expected.TheVariants as expected
use Rattle.wit_json_reading.specs.declared.fault.Step.TheVariants as step

-- ---- steps

module _ {A B : Type 0} where
  -- something is read, and then something else
  pub followed : (m : Reading A) (k : A → Reading B) (x : A) (r : Reading B) → m ≡ Ok x → k x ≡ r → (m >>= k) ≡ r
  followed m k x r first next = ap (λ (it : Reading A). it >>= k) first ∙ next

-- so many things are read one after another, of which something is made
pub all_1 : {A R : Type 0} {m0 : Reading A} {v0 : A} (f : A → R) → m0 ≡ Ok v0
    → (m0 >>= λ x0. Ok (f x0)) ≡ Ok (f v0)
all_1 {m0 = m0} {v0 = v0} f e0 = followed m0 (λ x0. Ok (f x0)) v0 (Ok (f v0)) e0 refl

pub all_2 : {A B R : Type 0} {m0 : Reading A} {m1 : Reading B} {v0 : A} {v1 : B} (f : A → B → R) → m0 ≡ Ok v0 → m1 ≡ Ok v1
    → (m0 >>= λ x0. m1 >>= λ x1. Ok (f x0 x1)) ≡ Ok (f v0 v1)
all_2 {m0 = m0} {m1 = m1} {v0 = v0} {v1 = v1} f e0 e1 =
    followed m0 (λ x0. m1 >>= λ x1. Ok (f x0 x1)) v0 (Ok (f v0 v1)) e0 (all_1 {m0 = m1} (f v0) e1)

pub all_3 : {A B C R : Type 0} {m0 : Reading A} {m1 : Reading B} {m2 : Reading C} {v0 : A} {v1 : B} {v2 : C} (f : A → B → C → R) → m0 ≡ Ok v0 → m1 ≡ Ok v1 → m2 ≡ Ok v2
    → (m0 >>= λ x0. m1 >>= λ x1. m2 >>= λ x2. Ok (f x0 x1 x2)) ≡ Ok (f v0 v1 v2)
all_3 {m0 = m0} {m1 = m1} {m2 = m2} {v0 = v0} {v1 = v1} {v2 = v2} f e0 e1 e2 =
    followed m0 (λ x0. m1 >>= λ x1. m2 >>= λ x2. Ok (f x0 x1 x2)) v0 (Ok (f v0 v1 v2)) e0 (all_2 {m0 = m1} {m1 = m2} (f v0) e1 e2)

pub all_4 : {A B C D R : Type 0} {m0 : Reading A} {m1 : Reading B} {m2 : Reading C} {m3 : Reading D} {v0 : A} {v1 : B} {v2 : C} {v3 : D} (f : A → B → C → D → R) → m0 ≡ Ok v0 → m1 ≡ Ok v1 → m2 ≡ Ok v2 → m3 ≡ Ok v3
    → (m0 >>= λ x0. m1 >>= λ x1. m2 >>= λ x2. m3 >>= λ x3. Ok (f x0 x1 x2 x3)) ≡ Ok (f v0 v1 v2 v3)
all_4 {m0 = m0} {m1 = m1} {m2 = m2} {m3 = m3} {v0 = v0} {v1 = v1} {v2 = v2} {v3 = v3} f e0 e1 e2 e3 =
    followed m0 (λ x0. m1 >>= λ x1. m2 >>= λ x2. m3 >>= λ x3. Ok (f x0 x1 x2 x3)) v0 (Ok (f v0 v1 v2 v3)) e0 (all_3 {m0 = m1} {m1 = m2} {m2 = m3} (f v0) e1 e2 e3)

pub all_5 : {A B C D E R : Type 0} {m0 : Reading A} {m1 : Reading B} {m2 : Reading C} {m3 : Reading D} {m4 : Reading E} {v0 : A} {v1 : B} {v2 : C} {v3 : D} {v4 : E} (f : A → B → C → D → E → R) → m0 ≡ Ok v0 → m1 ≡ Ok v1 → m2 ≡ Ok v2 → m3 ≡ Ok v3 → m4 ≡ Ok v4
    → (m0 >>= λ x0. m1 >>= λ x1. m2 >>= λ x2. m3 >>= λ x3. m4 >>= λ x4. Ok (f x0 x1 x2 x3 x4)) ≡ Ok (f v0 v1 v2 v3 v4)
all_5 {m0 = m0} {m1 = m1} {m2 = m2} {m3 = m3} {m4 = m4} {v0 = v0} {v1 = v1} {v2 = v2} {v3 = v3} {v4 = v4} f e0 e1 e2 e3 e4 =
    followed m0 (λ x0. m1 >>= λ x1. m2 >>= λ x2. m3 >>= λ x3. m4 >>= λ x4. Ok (f x0 x1 x2 x3 x4)) v0 (Ok (f v0 v1 v2 v3 v4)) e0 (all_4 {m0 = m1} {m1 = m2} {m2 = m3} {m3 = m4} (f v0) e1 e2 e3 e4)

pub all_6 : {A B C D E F R : Type 0} {m0 : Reading A} {m1 : Reading B} {m2 : Reading C} {m3 : Reading D} {m4 : Reading E} {m5 : Reading F} {v0 : A} {v1 : B} {v2 : C} {v3 : D} {v4 : E} {v5 : F} (f : A → B → C → D → E → F → R) → m0 ≡ Ok v0 → m1 ≡ Ok v1 → m2 ≡ Ok v2 → m3 ≡ Ok v3 → m4 ≡ Ok v4 → m5 ≡ Ok v5
    → (m0 >>= λ x0. m1 >>= λ x1. m2 >>= λ x2. m3 >>= λ x3. m4 >>= λ x4. m5 >>= λ x5. Ok (f x0 x1 x2 x3 x4 x5)) ≡ Ok (f v0 v1 v2 v3 v4 v5)
all_6 {m0 = m0} {m1 = m1} {m2 = m2} {m3 = m3} {m4 = m4} {m5 = m5} {v0 = v0} {v1 = v1} {v2 = v2} {v3 = v3} {v4 = v4} {v5 = v5} f e0 e1 e2 e3 e4 e5 =
    followed m0 (λ x0. m1 >>= λ x1. m2 >>= λ x2. m3 >>= λ x3. m4 >>= λ x4. m5 >>= λ x5. Ok (f x0 x1 x2 x3 x4 x5)) v0 (Ok (f v0 v1 v2 v3 v4 v5)) e0 (all_5 {m0 = m1} {m1 = m2} {m2 = m3} {m3 = m4} {m4 = m5} (f v0) e1 e2 e3 e4 e5)

pub all_7 : {A B C D E F G R : Type 0} {m0 : Reading A} {m1 : Reading B} {m2 : Reading C} {m3 : Reading D} {m4 : Reading E} {m5 : Reading F} {m6 : Reading G} {v0 : A} {v1 : B} {v2 : C} {v3 : D} {v4 : E} {v5 : F} {v6 : G} (f : A → B → C → D → E → F → G → R) → m0 ≡ Ok v0 → m1 ≡ Ok v1 → m2 ≡ Ok v2 → m3 ≡ Ok v3 → m4 ≡ Ok v4 → m5 ≡ Ok v5 → m6 ≡ Ok v6
    → (m0 >>= λ x0. m1 >>= λ x1. m2 >>= λ x2. m3 >>= λ x3. m4 >>= λ x4. m5 >>= λ x5. m6 >>= λ x6. Ok (f x0 x1 x2 x3 x4 x5 x6)) ≡ Ok (f v0 v1 v2 v3 v4 v5 v6)
all_7 {m0 = m0} {m1 = m1} {m2 = m2} {m3 = m3} {m4 = m4} {m5 = m5} {m6 = m6} {v0 = v0} {v1 = v1} {v2 = v2} {v3 = v3} {v4 = v4} {v5 = v5} {v6 = v6} f e0 e1 e2 e3 e4 e5 e6 =
    followed m0 (λ x0. m1 >>= λ x1. m2 >>= λ x2. m3 >>= λ x3. m4 >>= λ x4. m5 >>= λ x5. m6 >>= λ x6. Ok (f x0 x1 x2 x3 x4 x5 x6)) v0 (Ok (f v0 v1 v2 v3 v4 v5 v6)) e0 (all_6 {m0 = m1} {m1 = m2} {m2 = m3} {m3 = m4} {m4 = m5} {m5 = m6} (f v0) e1 e2 e3 e4 e5 e6)

pub all_8 : {A B C D E F G H R : Type 0} {m0 : Reading A} {m1 : Reading B} {m2 : Reading C} {m3 : Reading D} {m4 : Reading E} {m5 : Reading F} {m6 : Reading G} {m7 : Reading H} {v0 : A} {v1 : B} {v2 : C} {v3 : D} {v4 : E} {v5 : F} {v6 : G} {v7 : H} (f : A → B → C → D → E → F → G → H → R) → m0 ≡ Ok v0 → m1 ≡ Ok v1 → m2 ≡ Ok v2 → m3 ≡ Ok v3 → m4 ≡ Ok v4 → m5 ≡ Ok v5 → m6 ≡ Ok v6 → m7 ≡ Ok v7
    → (m0 >>= λ x0. m1 >>= λ x1. m2 >>= λ x2. m3 >>= λ x3. m4 >>= λ x4. m5 >>= λ x5. m6 >>= λ x6. m7 >>= λ x7. Ok (f x0 x1 x2 x3 x4 x5 x6 x7)) ≡ Ok (f v0 v1 v2 v3 v4 v5 v6 v7)
all_8 {m0 = m0} {m1 = m1} {m2 = m2} {m3 = m3} {m4 = m4} {m5 = m5} {m6 = m6} {m7 = m7} {v0 = v0} {v1 = v1} {v2 = v2} {v3 = v3} {v4 = v4} {v5 = v5} {v6 = v6} {v7 = v7} f e0 e1 e2 e3 e4 e5 e6 e7 =
    followed m0 (λ x0. m1 >>= λ x1. m2 >>= λ x2. m3 >>= λ x3. m4 >>= λ x4. m5 >>= λ x5. m6 >>= λ x6. m7 >>= λ x7. Ok (f x0 x1 x2 x3 x4 x5 x6 x7)) v0 (Ok (f v0 v1 v2 v3 v4 v5 v6 v7)) e0 (all_7 {m0 = m1} {m1 = m2} {m2 = m3} {m3 = m4} {m4 = m5} {m5 = m6} {m6 = m7} (f v0) e1 e2 e3 e4 e5 e6 e7)

pub all_9 : {A B C D E F G H I R : Type 0} {m0 : Reading A} {m1 : Reading B} {m2 : Reading C} {m3 : Reading D} {m4 : Reading E} {m5 : Reading F} {m6 : Reading G} {m7 : Reading H} {m8 : Reading I} {v0 : A} {v1 : B} {v2 : C} {v3 : D} {v4 : E} {v5 : F} {v6 : G} {v7 : H} {v8 : I} (f : A → B → C → D → E → F → G → H → I → R) → m0 ≡ Ok v0 → m1 ≡ Ok v1 → m2 ≡ Ok v2 → m3 ≡ Ok v3 → m4 ≡ Ok v4 → m5 ≡ Ok v5 → m6 ≡ Ok v6 → m7 ≡ Ok v7 → m8 ≡ Ok v8
    → (m0 >>= λ x0. m1 >>= λ x1. m2 >>= λ x2. m3 >>= λ x3. m4 >>= λ x4. m5 >>= λ x5. m6 >>= λ x6. m7 >>= λ x7. m8 >>= λ x8. Ok (f x0 x1 x2 x3 x4 x5 x6 x7 x8)) ≡ Ok (f v0 v1 v2 v3 v4 v5 v6 v7 v8)
all_9 {m0 = m0} {m1 = m1} {m2 = m2} {m3 = m3} {m4 = m4} {m5 = m5} {m6 = m6} {m7 = m7} {m8 = m8} {v0 = v0} {v1 = v1} {v2 = v2} {v3 = v3} {v4 = v4} {v5 = v5} {v6 = v6} {v7 = v7} {v8 = v8} f e0 e1 e2 e3 e4 e5 e6 e7 e8 =
    followed m0 (λ x0. m1 >>= λ x1. m2 >>= λ x2. m3 >>= λ x3. m4 >>= λ x4. m5 >>= λ x5. m6 >>= λ x6. m7 >>= λ x7. m8 >>= λ x8. Ok (f x0 x1 x2 x3 x4 x5 x6 x7 x8)) v0 (Ok (f v0 v1 v2 v3 v4 v5 v6 v7 v8)) e0 (all_8 {m0 = m1} {m1 = m2} {m2 = m3} {m3 = m4} {m4 = m5} {m5 = m6} {m6 = m7} {m7 = m8} (f v0) e1 e2 e3 e4 e5 e6 e7 e8)

pub all_10 : {A B C D E F G H I J R : Type 0} {m0 : Reading A} {m1 : Reading B} {m2 : Reading C} {m3 : Reading D} {m4 : Reading E} {m5 : Reading F} {m6 : Reading G} {m7 : Reading H} {m8 : Reading I} {m9 : Reading J} {v0 : A} {v1 : B} {v2 : C} {v3 : D} {v4 : E} {v5 : F} {v6 : G} {v7 : H} {v8 : I} {v9 : J} (f : A → B → C → D → E → F → G → H → I → J → R) → m0 ≡ Ok v0 → m1 ≡ Ok v1 → m2 ≡ Ok v2 → m3 ≡ Ok v3 → m4 ≡ Ok v4 → m5 ≡ Ok v5 → m6 ≡ Ok v6 → m7 ≡ Ok v7 → m8 ≡ Ok v8 → m9 ≡ Ok v9
    → (m0 >>= λ x0. m1 >>= λ x1. m2 >>= λ x2. m3 >>= λ x3. m4 >>= λ x4. m5 >>= λ x5. m6 >>= λ x6. m7 >>= λ x7. m8 >>= λ x8. m9 >>= λ x9. Ok (f x0 x1 x2 x3 x4 x5 x6 x7 x8 x9)) ≡ Ok (f v0 v1 v2 v3 v4 v5 v6 v7 v8 v9)
all_10 {m0 = m0} {m1 = m1} {m2 = m2} {m3 = m3} {m4 = m4} {m5 = m5} {m6 = m6} {m7 = m7} {m8 = m8} {m9 = m9} {v0 = v0} {v1 = v1} {v2 = v2} {v3 = v3} {v4 = v4} {v5 = v5} {v6 = v6} {v7 = v7} {v8 = v8} {v9 = v9} f e0 e1 e2 e3 e4 e5 e6 e7 e8 e9 =
    followed m0 (λ x0. m1 >>= λ x1. m2 >>= λ x2. m3 >>= λ x3. m4 >>= λ x4. m5 >>= λ x5. m6 >>= λ x6. m7 >>= λ x7. m8 >>= λ x8. m9 >>= λ x9. Ok (f x0 x1 x2 x3 x4 x5 x6 x7 x8 x9)) v0 (Ok (f v0 v1 v2 v3 v4 v5 v6 v7 v8 v9)) e0 (all_9 {m0 = m1} {m1 = m2} {m2 = m3} {m3 = m4} {m4 = m5} {m5 = m6} {m6 = m7} {m7 = m8} {m8 = m9} (f v0) e1 e2 e3 e4 e5 e6 e7 e8 e9)

pub all_11 : {A B C D E F G H I J K R : Type 0} {m0 : Reading A} {m1 : Reading B} {m2 : Reading C} {m3 : Reading D} {m4 : Reading E} {m5 : Reading F} {m6 : Reading G} {m7 : Reading H} {m8 : Reading I} {m9 : Reading J} {m10 : Reading K} {v0 : A} {v1 : B} {v2 : C} {v3 : D} {v4 : E} {v5 : F} {v6 : G} {v7 : H} {v8 : I} {v9 : J} {v10 : K} (f : A → B → C → D → E → F → G → H → I → J → K → R) → m0 ≡ Ok v0 → m1 ≡ Ok v1 → m2 ≡ Ok v2 → m3 ≡ Ok v3 → m4 ≡ Ok v4 → m5 ≡ Ok v5 → m6 ≡ Ok v6 → m7 ≡ Ok v7 → m8 ≡ Ok v8 → m9 ≡ Ok v9 → m10 ≡ Ok v10
    → (m0 >>= λ x0. m1 >>= λ x1. m2 >>= λ x2. m3 >>= λ x3. m4 >>= λ x4. m5 >>= λ x5. m6 >>= λ x6. m7 >>= λ x7. m8 >>= λ x8. m9 >>= λ x9. m10 >>= λ x10. Ok (f x0 x1 x2 x3 x4 x5 x6 x7 x8 x9 x10)) ≡ Ok (f v0 v1 v2 v3 v4 v5 v6 v7 v8 v9 v10)
all_11 {m0 = m0} {m1 = m1} {m2 = m2} {m3 = m3} {m4 = m4} {m5 = m5} {m6 = m6} {m7 = m7} {m8 = m8} {m9 = m9} {m10 = m10} {v0 = v0} {v1 = v1} {v2 = v2} {v3 = v3} {v4 = v4} {v5 = v5} {v6 = v6} {v7 = v7} {v8 = v8} {v9 = v9} {v10 = v10} f e0 e1 e2 e3 e4 e5 e6 e7 e8 e9 e10 =
    followed m0 (λ x0. m1 >>= λ x1. m2 >>= λ x2. m3 >>= λ x3. m4 >>= λ x4. m5 >>= λ x5. m6 >>= λ x6. m7 >>= λ x7. m8 >>= λ x8. m9 >>= λ x9. m10 >>= λ x10. Ok (f x0 x1 x2 x3 x4 x5 x6 x7 x8 x9 x10)) v0 (Ok (f v0 v1 v2 v3 v4 v5 v6 v7 v8 v9 v10)) e0 (all_10 {m0 = m1} {m1 = m2} {m2 = m3} {m3 = m4} {m4 = m5} {m5 = m6} {m6 = m7} {m7 = m8} {m8 = m9} {m9 = m10} (f v0) e1 e2 e3 e4 e5 e6 e7 e8 e9 e10)

module _ {A : Type 0} where
  pub reads_required : (f : Json → Reading A) (name : List ℕ) (j v : Json) (x : A) → get name j ≡ Some v → f v ≡ Ok x → read_required f name j ≡ Ok x
  reads_required f name j v x there reads = ap (λ it. under (step.Member name) (option_map_or f it (instead_of expected.Member))) there ∙ ap (under (step.Member name)) reads

  reads_there : (f : Json → Reading A) (w : A → Json) (name : List ℕ) (o : Option A) → IfSome o (λ x. f (w x) ≡ Ok x) → option_map_or (λ it. under (step.Member name) (f it) >>= λ x. Ok (Some x)) (option_map w o) (Ok None) ≡ Ok o
  reads_there f w name None reads = refl
  reads_there f w name (Some x) reads = ap (λ (r : Reading A). under (step.Member name) r >>= λ y. Ok (Some y)) reads

  pub reads_optional : (f : Json → Reading A) (w : A → Json) (name : List ℕ) (j : Json) (o : Option A) → get name j ≡ option_map w o → IfSome o (λ x. f (w x) ≡ Ok x)
      → read_optional f name j ≡ Ok o
  reads_optional f w name j o there reads = ap (λ it. option_map_or (λ it. under (step.Member name) (f it) >>= λ x. Ok (Some x)) it (Ok None)) there ∙ reads_there f w name o reads

  pub reads_alone : (f : Json → Reading A) (name : List ℕ) (j : Json) (x : A) → only (name ∷ []) (tagged name j) ≡ Ok tt → get name (tagged name j) ≡ Some j → f j ≡ Ok x
      → alone f name (tagged name j) ≡ Ok x
  reads_alone f name j x known there reads = followed (only (name ∷ []) (tagged name j)) (λ _. read_required f name (tagged name j)) tt (Ok x) known (reads_required f name (tagged name j) j x there reads)

  pub reads_without : (f : Json → Reading A) (name : List ℕ) (j : Json) (x : A) → get name j ≡ None → f j ≡ Ok x → read_leaving_out name f j ≡ Ok x
  reads_without f name j x none reads =
      ap (λ (o : Option Json). if is_some o then under (step.Member name) (instead_of expected.NoMember) else f j) none ∙ reads

  pub reads_variant : (f : List ℕ → Json → Reading A) (e : Expected) (name : List ℕ) (j : Json) (x : A) → f name j ≡ Ok x → read_variant f e (tagged name j) ≡ Ok x
  reads_variant f e name j x reads = ap (under (step.Member name)) reads

-- ---- lists and pairs

module _ {A : Type 0} (f : Json → Reading A) (w : A → Json) where
  reads_items : (n : ℕ) (xs : List A) → Each (λ x. f (w x) ≡ Ok x) xs → items_from f n (items_of (map w xs)) ≡ Ok xs
  reads_items n [] each = refl
  reads_items n (x ∷ xs) each =
      followed (under (step.Item n) (f (w x))) _ x (Ok (x ∷ xs)) (ap (under (step.Item n)) (each 0 x refl))
      (followed (items_from f (suc n) (items_of (map w xs))) _ xs (Ok (x ∷ xs)) (reads_items (suc n) xs (λ i y at. each (suc i) y at)) refl)

  pub reads_list : (xs : List A) → Each (λ x. f (w x) ≡ Ok x) xs → read_list f (written.list_of w xs) ≡ Ok xs
  reads_list xs each = reads_items 0 xs each

module _ {A : Type 0} (f : Json → Reading A) (b : A → A) (w : A → Json) where
  reads_items_as : (n : ℕ) (xs : List A) → Each (λ x. f (w x) ≡ Ok (b x)) xs → items_from f n (items_of (map w xs)) ≡ Ok (map b xs)
  reads_items_as n [] each = refl
  reads_items_as n (x ∷ xs) each =
      followed (under (step.Item n) (f (w x))) _ (b x) (Ok (b x ∷ map b xs)) (ap (under (step.Item n)) (each 0 x refl))
      (followed (items_from f (suc n) (items_of (map w xs))) _ (map b xs) (Ok (b x ∷ map b xs)) (reads_items_as (suc n) xs (λ i y at. each (suc i) y at)) refl)

  -- what is written of each reads as something that is made of it
  pub reads_list_as : (xs : List A) → Each (λ x. f (w x) ≡ Ok (b x)) xs → read_list f (written.list_of w xs) ≡ Ok (map b xs)
  reads_list_as xs each = reads_items_as 0 xs each

module _ {A B : Type 0} where
  pub reads_pair : (f : Json → Reading A) (g : Json → Reading B) (a b : Json) (x : A) (y : B) → f a ≡ Ok x → g b ≡ Ok y → read_pair f g (pair a b) ≡ Ok (x, y)
  reads_pair f g a b x y first second =
      followed (under (step.Item 0) (f a)) _ x (Ok (x, y)) (ap (under (step.Item 0)) first) (followed (under (step.Item 1) (g b)) _ y (Ok (x, y)) (ap (under (step.Item 1)) second) refl)

-- ---- tables

module _ {K V : Type 0} {eq : K → K → Bool} (exact : (a b : K) → eq a b ≡ true → a ≡ b) where
  -- a key that no entry has isn't found
  not_there : (es : List (K × V)) (k : K) → ((i : ℕ) (e : K × V) → slice_get es i ≡ Some e → k ≡ e.0 → ⊥) → lookup (eq k) es ≡ None
  not_there [] k none = refl
  not_there (e ∷ es) k none = by (eq k e.0) refl (not_there es k (λ i d at. none (suc i) d at))
    where
      by : (b : Bool) → eq k e.0 ≡ b → lookup (eq k) es ≡ None → cond b (Some e.1) (lookup (eq k) es) ≡ None
      by true same others = absurd (none 0 e refl (exact k e.0 same))
      by false other others = others

  within : (es : List (K × V)) (i : ℕ) (e : K × V) → slice_get es i ≡ Some e → i ≡ length es → ⊥
  within es i e at same = omega (arith, slice_get_within es i e at, same)

  -- nor the one of the next entry among those before it
  pub is_new : (es fs : List (K × V)) (e : K × V) → HasDistinctKeys (es ++ e ∷ fs) → is_some (lookup (eq e.0) es) ≡ false
  is_new es fs e distinct =
      ap is_some (not_there es e.0 (λ i d at same. within es i d at
      (distinct i (length es) d e (slice_get-append es (e ∷ fs) i d at) (slice_get-behind es fs e) (sym same))))

module _ {A : Type 0} (f : Json → Reading A) (w : A → Json) where
  abbrev member_of : List ℕ × A → List ℕ × Json
  member_of e = (e.0, w e.1)

  reads_entries : (before es : List (List ℕ × A)) → HasDistinctKeys (before ++ es) → Each (λ (e : List ℕ × A). f (w e.1) ≡ Ok e.1) es
      → named_from f before (members_of (map member_of es)) ≡ Ok (before ++ es)
  reads_entries before [] distinct each = ap Ok (sym (append-nil before))
  reads_entries before (e ∷ es) distinct each =
      let new : is_some (lookup (bytes_eq e.0) before) ≡ false = is_new (λ a b. (bytes_eq-Decides a b).0) before es e distinct in
      let longer : (before ++ e ∷ []) ++ es ≡ before ++ e ∷ es = append_assoc before (e ∷ []) es in
      rw new (followed (under (step.Member e.0) (f (w e.1))) _ e.1 (Ok (before ++ e ∷ es)) (ap (under (step.Member e.0)) (each 0 e refl))
      (reads_entries (before ++ e ∷ []) es (subst (λ (all : List (List ℕ × A)). HasDistinctKeys all) (sym longer) distinct) (λ i y at. each (suc i) y at) ∙ ap Ok longer))

  pub reads_named : (es : List (List ℕ × A)) → HasDistinctKeys es → Each (λ (e : List ℕ × A). f (w e.1) ≡ Ok e.1) es → read_named f (object_under_names w es) ≡ Ok es
  reads_named es distinct each = reads_entries [] es distinct each
