-- What stands in braces, by one pass over the functions.
use Rattle.std.proofs.Common.{◌≡◌, ◌∙◌, ◌++◌, ◌∷◌, [], ℕ, List, Option, Some, Result, Ok, Err, OnOk, ap, append_assoc, refl, slice_get}
use Rattle.std.specs.List.{flat_map}
use Rattle.std.specs.Map.{values_of}
use Rattle.std.specs.Option.{option_map_or}
use Rattle.wit_data.specs.Entries.{Entry}
use Rattle.wit_data.specs.declared.function.Function.{Function}
use Rattle.wit_data.specs.declared.interface.Interface.{Interface}
use Rattle.wit_data.specs.declared.stability.Docs.{Docs}
use Rattle.wit_data.specs.declared.stability.Stability.{Stability}
use Rattle.wit_data.specs.declared.types.TypeDef.{TypeDef}
use Rattle.wit_data.specs.declared.world.World.{World}
use Rattle.wit_data.specs.declared.world.WorldItem.{WorldItem}
use Rattle.wit_data.specs.declared.world.WorldItem.TheVariants as item
use Rattle.wit_data.specs.declared.world.WorldKey.{WorldKey}
use Rattle.wit_graph_data.specs.declared.graph.Graph.{Graph}
use Rattle.wit_print.specs.Definitions.{definition_wit}
use Rattle.wit_print.specs.Functions.{free_wit}
use Rattle.wit_print.specs.Headings.{heading_wit}
use Rattle.wit_print.specs.Interfaces.{body_wit, methods_wit}
use Rattle.wit_print.specs.Worlds.{entries_wit, entry_wit, item_functions, label_wit, path_or_body, side_wit, word_before}
use Rattle.wit_print.specs.declared.worlds.Side.{Side}
use Rattle.wit_print.specs.declared.worlds.Side.TheVariants as side

each_same : {A : Type 0} (f g : A → List ℕ) → ((x : A) → f x ≡ g x) → (xs : List A) → flat_map f xs ≡ flat_map g xs
each_same f g same [] = refl
each_same f g same (x ∷ xs) = ap (λ l. l ++ flat_map f xs) (same x) ∙ ap (λ l. g x ++ l) (each_same f g same xs)

-- an interface, where `under` are the methods that were gathered
pub body_written : {X E : Type 0} (told : Result X E) (g inside : Graph) (home : Option ℕ) (indent further : List ℕ) (under : ℕ → List ℕ) (interface : Interface) (start middle end : List ℕ)
    → inside ≡ g → home ≡ interface.package → further ≡ indent → ((r : ℕ) → under r ≡ methods_wit g.types indent (values_of interface.functions) r)
    → middle ≡ start ++ flat_map (λ (e : List ℕ × ℕ). definition_wit inside home further e.1 (under e.1)) interface.types
    → OnOk told (end ≡ middle ++ flat_map (λ (e : List ℕ × Function). free_wit inside.types further [] e.1) interface.functions)
    → OnOk told (end ≡ start ++ body_wit g indent interface)
unfolding body_wit
body_written (Ok x) g inside home indent further under interface start middle end is-g is-home is-indent gathered types functions =
    let known = interface.types in
    let free = λ (ts : List TypeDef) (i : List ℕ). flat_map (λ (e : List ℕ × Function). free_wit ts i [] e.1) interface.functions in
    let defined = λ (o : Graph) (h : Option ℕ) (i : List ℕ) (m : ℕ → List ℕ). flat_map (λ (e : List ℕ × ℕ). definition_wit o h i e.1 (m e.1)) known in
    let methods : ℕ → List ℕ = methods_wit g.types indent (values_of interface.functions) in
    let gathered-is : defined g interface.package indent under ≡ defined g interface.package indent methods =
    each_same (λ (e : List ℕ × ℕ). definition_wit g interface.package indent e.1 (under e.1)) (λ (e : List ℕ × ℕ). definition_wit g interface.package indent e.1 (methods e.1))
    (λ e. ap (definition_wit g interface.package indent e.1) (gathered e.1)) known in
    let defined-is : defined inside home further under ≡ defined g interface.package indent methods =
    ap (λ (o : Graph). defined o home further under) is-g ∙ (ap (λ (h : Option ℕ). defined g h further under) is-home ∙ (ap (λ (i : List ℕ). defined g interface.package i under) is-indent ∙ gathered-is)) in
    let free-is : free inside.types further ≡ free g.types indent =
    ap (λ (o : Graph). free o.types further) is-g ∙ ap (free g.types) is-indent in
    functions
    ∙ (ap (λ l. l ++ free inside.types further) (types ∙ ap (λ l. start ++ l) defined-is)
    ∙ (append_assoc start (defined g interface.package indent methods) (free inside.types further)
    ∙ ap (λ l. start ++ (defined g interface.package indent methods ++ l)) free-is))
body_written (Err e) g inside home indent further under interface start middle end is-g is-home is-indent gathered types functions = tt

same_entry : (g : Graph) (home : Option ℕ) (indent : List ℕ) (under methods : ℕ → List ℕ) (s : Side) → ((r : ℕ) → under r ≡ methods r) → (k : WorldKey) (it : WorldItem)
    → entry_wit g home indent under s k it ≡ entry_wit g home indent methods s k it
same_entry g home indent under methods s gathered k (item.Interface i stability docs span external_id) = refl
same_entry g home indent under methods s gathered k (item.Function f) = refl
same_entry g home indent under methods s gathered k (item.Type_ t span) = ap (definition_wit g home indent t) (gathered t)

same_side : (g inside : Graph) (home package-of : Option ℕ) (indent further : List ℕ) (under methods : ℕ → List ℕ) (s : Side) (entries : List Entry) → inside ≡ g → home ≡ package-of → further ≡ indent
    → ((r : ℕ) → under r ≡ methods r) → side_wit inside home further under s entries ≡ side_wit g package-of indent methods s entries
same_side g inside home package-of indent further under methods s entries is-g is-home is-indent gathered =
    ap (λ (o : Graph). side_wit o home further under s entries) is-g
    ∙ (ap (λ (h : Option ℕ). side_wit g h further under s entries) is-home
    ∙ (ap (λ (i : List ℕ). side_wit g package-of i under s entries) is-indent
    ∙ each_same (λ (e : Entry). entry_wit g package-of indent under s e.0 e.1) (λ (e : Entry). entry_wit g package-of indent methods s e.0 e.1)
    (λ e. same_entry g package-of indent under methods s gathered e.0 e.1) entries))

-- a world
pub entries_written : {X E : Type 0} (told : Result X E) (g inside : Graph) (home : Option ℕ) (indent further : List ℕ) (under : ℕ → List ℕ) (world : World) (start middle end : List ℕ)
    → inside ≡ g → home ≡ world.package → further ≡ indent → ((r : ℕ) → under r ≡ methods_wit g.types indent (flat_map (λ (e : Entry). item_functions e.1) world.imports) r)
    → middle ≡ start ++ side_wit inside home further under side.Import world.imports
    → OnOk told (end ≡ middle ++ side_wit inside home further under side.Export world.exports)
    → OnOk told (end ≡ start ++ entries_wit g indent world)
unfolding entries_wit
entries_written (Ok x) g inside home indent further under world start middle end is-g is-home is-indent gathered imports exports =
    let methods : ℕ → List ℕ = methods_wit g.types indent (flat_map (λ (e : Entry). item_functions e.1) world.imports) in
    let imported = same_side g inside home world.package indent further under methods side.Import world.imports is-g is-home is-indent gathered in
    let exported = same_side g inside home world.package indent further under methods side.Export world.exports is-g is-home is-indent gathered in
    exports
    ∙ (ap (λ l. l ++ side_wit inside home further under side.Export world.exports) (imports ∙ ap (λ l. start ++ l) imported)
    ∙ (append_assoc start (side_wit g world.package indent methods side.Import world.imports) (side_wit inside home further under side.Export world.exports)
    ∙ ap (λ l. start ++ (side_wit g world.package indent methods side.Import world.imports ++ l)) exported))
entries_written (Err e) g inside home indent further under world start middle end is-g is-home is-indent gathered imports exports = tt

joined : (start heading indent word label rest : List ℕ)
    → ((start ++ heading) ++ (indent ++ (word ++ label))) ++ rest ≡ start ++ (heading ++ (indent ++ (word ++ (label ++ rest))))
joined start heading indent word label rest = simp append_assoc

-- the entry of an interface
pub entry_written : {X E : Type 0} (told : Result X E) (g : Graph) (home : Option ℕ) (indent : List ℕ) (methods : ℕ → List ℕ) (s : Side) (k : WorldKey) (i : ℕ) (stability : Stability) (docs : Docs) (span : Option (ℕ × ℕ)) (external_id : Option (List ℕ))
    (interface : Interface) (start headed labelled end : List ℕ) → slice_get g.interfaces i ≡ Some interface
    → headed ≡ start ++ heading_wit indent (option_map_or (λ name. docs) interface.name interface.docs) stability external_id
    → labelled ≡ headed ++ (indent ++ (word_before s ++ label_wit k))
    → OnOk told (end ≡ labelled ++ path_or_body g home indent i interface)
    → OnOk told (end ≡ start ++ entry_wit g home indent methods s k (item.Interface i stability docs span external_id))
entry_written (Ok x) g home indent methods s k i stability docs span external_id interface start headed labelled end there heading label rest =
    let above = heading_wit indent (option_map_or (λ name. docs) interface.name interface.docs) stability external_id in
    let behind = path_or_body g home indent i interface in
    let all : end ≡ start ++ (above ++ (indent ++ (word_before s ++ (label_wit k ++ behind)))) =
    rest ∙ (ap (λ l. l ++ behind) (label ∙ ap (λ l. l ++ (indent ++ (word_before s ++ label_wit k))) heading) ∙ joined start above indent (word_before s) (label_wit k) behind) in
    rw there all
entry_written (Err e) g home indent methods s k i stability docs span external_id interface start headed labelled end there heading label rest = tt

-- what stands between a line and a brace
pub braced : {X E : Type 0} (told : Result X E) (start first second third begin body shut : List ℕ) → first ≡ start ++ begin → second ≡ first ++ body → OnOk told (third ≡ second ++ shut)
    → OnOk told (third ≡ start ++ (begin ++ (body ++ shut)))
braced (Ok x) start first second third begin body shut opened written closed =
    let all : ((start ++ begin) ++ body) ++ shut ≡ start ++ (begin ++ (body ++ shut)) = simp append_assoc in
    closed ∙ (ap (λ l. l ++ shut) (written ∙ ap (λ l. l ++ body) opened) ∙ all)
braced (Err e) start first second third begin body shut opened written closed = tt

-- the parts of a function
pub signature_written : {X E : Type 0} (told : Result X E) (start t1 t2 t3 t4 t5 end above indent head begin params shut arrow last : List ℕ)
    → t1 ≡ start ++ above → t2 ≡ t1 ++ (indent ++ (head ++ begin)) → t3 ≡ t2 ++ params → t4 ≡ t3 ++ shut → t5 ≡ t4 ++ arrow → OnOk told (end ≡ t5 ++ last)
    → OnOk told (end ≡ start ++ (above ++ (indent ++ (head ++ (begin ++ (params ++ (shut ++ (arrow ++ last))))))))
signature_written (Ok x) start t1 t2 t3 t4 t5 end above indent head begin params shut arrow last e1 e2 e3 e4 e5 e6 =
    let all : (((((start ++ above) ++ (indent ++ (head ++ begin))) ++ params) ++ shut) ++ arrow) ++ last ≡ start ++ (above ++ (indent ++ (head ++ (begin ++ (params ++ (shut ++ (arrow ++ last))))))) = simp append_assoc in
    e6
    ∙ (ap (λ l. l ++ last) (e5
    ∙ ap (λ l. l ++ arrow) (e4
    ∙ ap (λ l. l ++ shut) (e3
    ∙ ap (λ l. l ++ params) (e2
    ∙ ap (λ l. l ++ (indent ++ (head ++ begin))) e1))))
    ∙ all)
signature_written (Err e) start t1 t2 t3 t4 t5 end above indent head begin params shut arrow last e1 e2 e3 e4 e5 e6 = tt
