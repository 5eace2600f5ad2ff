-- No two interfaces of a valid graph have one id text: it is a use path, which is read in one way, and names of packages
-- and of the interfaces of one package are told apart.
use Rattle.std.proofs.Common.{◌≡◌, ◌∙◌, ℕ, List, [], Option, None, Some, IfSome, slice_get, option_map, refl, ap, subst, Contains, IsSomeAnd}
use Rattle.std.specs.Option.{option_map_or}
use Rattle.wit_values.specs.Table.{HasDistinctKeys}
use Rattle.wit_data.specs.Each.{SomeAt}
use Rattle.wit_names.specs.UsePath.{IsKebabName, IsUsePath, use_path_of}
use Rattle.wit_names.proofs.UsePathGrammar.{use_path_of-grammar}
use Rattle.wit_names.specs.declared.package_name.PackageName.{PackageName}
use Rattle.wit_names.specs.declared.use_path.ParsedUsePath.TheVariants as path
use Rattle.wit_elaboration.specs.Valid.{IsValid}
use Rattle.wit_graph_data.specs.IdText.{id_text, interface_id_at}
use Rattle.wit_graph_data.specs.declared.graph.Graph.{Graph}
use Rattle.wit_graph_data.specs.declared.graph.Package.{Package}
use Rattle.wit_graph_theory.specs.laws.IdTexts.{IdTextsDiffer}
use Rattle.wit_graph_theory.specs.facts.ListFacts.{found_at, place_of, same_at}
use Rattle.wit_graph_theory.specs.facts.OptionFacts.{some_parts}
use Rattle.wit_graph_data.specs.steps.Parts.{id_text_in, interface_id_text}

-- ---- options and tables

mapped : {X : Type 0} (f : ℕ → X) (o : Option ℕ) (x : X) → option_map f o ≡ Some x → (n : ℕ) × (o ≡ Some n) × (x ≡ f n)
mapped f None x is = cc
mapped f (Some n) x is = let same : x ≡ f n = cc in (n, refl, same)

held : (o : Option ℕ) (P : ℕ → Type 0) (n : ℕ) → o ≡ Some n → IsSomeAnd o P → P n
held None P n is h = cc
held (Some m) P n is h = let same : m ≡ n = cc in subst P same h

named : (o : Option (List ℕ)) (P : List ℕ → Type 0) (name : List ℕ) → o ≡ Some name → IfSome o P → P name
named None P name is h = cc
named (Some m) P name is h = let same : m ≡ name = cc in subst P same h

-- under one key stands one thing
one_under : {K V : Type 0} (es : List (K × V)) → HasDistinctKeys es → (k : K) (v w : V) → Contains es (k, v) → Contains es (k, w) → v ≡ w
one_under {K} {V} es distinct k v w first second =
    let one = place_of es (k, v) first in
    let other = place_of es (k, w) second in
    let same = distinct one.0 other.0 (k, v) (k, w) one.1 other.1 refl in
    ap (λ (e : K × V). e.1) (same_at es one.0 other.0 (k, v) (k, w) same one.1 other.1)

-- ---- what an id text names

module _ (g : Graph) (valid : IsValid g) where
  -- interface i stands in the table of its package under its name, and the text is the use path of both names
  record Told (i : ℕ) (text : List ℕ) : Type 0 where
    pub name : List ℕ
    pub p : ℕ
    pub home : Package
    pub home_at : slice_get g.packages p ≡ Some home
    pub listed : Contains home.interfaces (name, i)
    pub is_path : IsUsePath text (path.Package home.name name)

  told : (i : ℕ) (text : List ℕ) → interface_id_at g.packages g.interfaces i ≡ Some text → Told i text
  told i text is =
      let one = some_parts (interface_id_text g.packages) (slice_get g.interfaces i) text is in
      let interface = one.0 in
      let two = some_parts (λ (name : List ℕ). option_map (λ owner. id_text g.packages owner name) interface.package) interface.name text one.2 in
      let name = two.0 in
      let three = mapped (λ owner. id_text g.packages owner name) interface.package text two.2 in
      let p = three.0 in
      let tabled = held interface.package (λ q. SomeAt g.packages q (λ (home : Package). IfSome interface.name (λ n. Contains home.interfaces (n, i)))) p three.1 (valid.well_formed.tables.interfaces_listed i interface one.1) in
      let home = found_at (λ (home : Package). IfSome interface.name (λ n. Contains home.interfaces (n, i))) g.packages p tabled in
      let text_is : text ≡ id_text_in home.0.name name = three.2 ∙ ap (λ (o : Option Package). option_map_or (λ (h : Package). id_text_in h.name name) o []) home.1 in
      record {
        name = name;
        p = p;
        home = home.0;
        home_at = home.1;
        listed = named interface.name (λ n. Contains home.0.interfaces (n, i)) name two.1 home.2;
        is_path = (
          valid.names.namespaces p home.0 home.1,
          valid.names.package_names p home.0 home.1,
          named interface.name IsKebabName name two.1 (valid.names.interface_names i interface one.1),
          valid.names.versions p home.0 home.1,
          text_is,
        );
      }

  one_interface : (i j : ℕ) (text : List ℕ) → Told i text → Told j text → i ≡ j
  one_interface i j text a b =
      let first : use_path_of text ≡ Some (path.Package a.home.name a.name) = (use_path_of-grammar text (path.Package a.home.name a.name)).1 a.is_path in
      let second : use_path_of text ≡ Some (path.Package b.home.name b.name) = (use_path_of-grammar text (path.Package b.home.name b.name)).1 b.is_path in
      let paths : path.Package a.home.name a.name ≡ path.Package b.home.name b.name = cc in
      let homes : a.home.name ≡ b.home.name = cc in
      let names : a.name ≡ b.name = cc in
      let listed = valid.well_formed.package_names.listed in
      let places : a.p ≡ b.p = one_under g.package_names valid.well_formed.package_names.distinct b.home.name a.p b.p
      (subst (λ (n : PackageName). Contains g.package_names (n, a.p)) homes (listed a.p a.home a.home_at)) (listed b.p b.home b.home_at) in
      let same : a.home ≡ b.home = same_at g.packages a.p b.p a.home b.home places a.home_at b.home_at in
      one_under b.home.interfaces (valid.well_formed.tables.distinct_interfaces b.p b.home b.home_at) b.name i j
      (subst (λ (n : List ℕ). Contains b.home.interfaces (n, i)) names (subst (λ (h : Package). Contains h.interfaces (a.name, i)) same a.listed)) b.listed

pub id_texts_differ : IdTextsDiffer
id_texts_differ g i j text valid first second = one_interface g valid i j text (told g valid i text first) (told g valid j text second)
