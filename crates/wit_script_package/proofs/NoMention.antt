-- Lines that mention nothing of another package, by their first token and by whether they have a `:`.
use Rattle.std.proofs.Common.{◌≡◌, ◌||◌, ◌&&◌, ◌==◌, not, ◌-◌, ◌+◌, ℕ, zero, suc, Bool, true, false, cond, List, [], ◌∷◌, Option, None, Some, codes, length, take, drop, filter, slice_get, refl, ap, sym, subst, ◌∙◌, bytes_eq, nat_lt}
use Rattle.std.specs.List.{AllByRecursion, after_first, before_first, list_any, onto_first, position_or_len, slice_split}
use Rattle.std.specs.Option.{option_and_then, option_map, option_map_or}
use Rattle.wit_names.specs.UsePath.{use_path_of}
use Rattle.wit_names.specs.declared.use_path.ParsedUsePath.{ParsedUsePath}
use Rattle.wit_data.specs.declared.stability.Stability.{Stability}
use Rattle.wit_names.specs.declared.use_path.ParsedUsePath.TheVariants as path
use Rattle.wit_script_lines.specs.Line.{tokens_of}
use Rattle.wit_script_lines.specs.PackageLine.{each_of, gate_of_line, is_gate, last_of, include_line_of, package_line_by, record_line_of, rename_of, type_line_of, typed_name_of, ungated_of, use_line_of, use_line_with}
use Rattle.wit_script_lines.specs.Statement.{gated_line_by, statement_of, statement_of_tokens}
use Rattle.wit_script_lines.specs.Token.{part_of, path_of, split_at}
use Rattle.wit_script_lines.specs.TypeText.{type_text_of}
use Rattle.wit_script_lines.specs.declared.package_line.PackageLine.{PackageLine}
use Rattle.wit_script_lines.specs.declared.package_line.PackageLine.TheVariants as says
use Rattle.wit_script_lines.specs.declared.statement.Statement.TheVariants as line
use Rattle.wit_script_package.specs.Mention.{mentions_of, path_mention}
use Rattle.wit_script_package.specs.steps.Mention.{MentionsNothing, takes_no_path, takes_path}
use Rattle.wit_script_package.specs.Naming.{OptionalSpan}
use Rattle.wit_script_package.specs.declared.mention.MentionKind.{MentionKind}
use Rattle.wit_script_package.specs.declared.mention.MentionKind.TheVariants as taken
use Rattle.wit_script_package.proofs.Same.{text-is}
use Rattle.wit_script_lines.specs.facts.OptionFacts.{same-some}
use Rattle.wit_script_lines.specs.steps.Parts.{named_line_of, signed_line_of, entry_by, entry_tokens}

-- ---- texts without a colon

abbrev pub IsColonFree : List ℕ → Type 0
IsColonFree text = list_any (λ b. b == 58) text ≡ false

neither : (a b : Bool) → (a || b) ≡ false → (a ≡ false) × (b ≡ false)
neither true b h = cc
neither false b h = (refl, h)

-- the parts of a line
colon-free-parts : (text : List ℕ) → IsColonFree text → AllByRecursion IsColonFree (slice_split (λ b. b == 32) text)
colon-free-parts [] free = (refl, tt)
colon-free-parts (b ∷ bs) free =
    let both : ((b == 58) ≡ false) × IsColonFree bs = neither (b == 58) (list_any (λ c. c == 58) bs) free in
    by (b == 32) (slice_split (λ c. c == 32) bs) both.0 (colon-free-parts bs both.1) where
      by : (cut : Bool) (rest : List (List ℕ)) → (b == 58) ≡ false → AllByRecursion IsColonFree rest → AllByRecursion IsColonFree (cond cut ([] ∷ rest) (onto_first b rest))
      by true rest other all = (refl, all)
      by false [] other all = (rw other refl, tt)
      by false (part ∷ parts) other all = (rw other all.0, all.1)

colon-free-kept : (keep : List ℕ → Bool) (xs : List (List ℕ)) → AllByRecursion IsColonFree xs → AllByRecursion IsColonFree (filter keep xs)
colon-free-kept keep [] all = tt
colon-free-kept keep (x ∷ xs) all = by (keep x) (colon-free-kept keep xs all.1) where
  by : (b : Bool) → AllByRecursion IsColonFree (filter keep xs) → AllByRecursion IsColonFree (cond b (x ∷ filter keep xs) (filter keep xs))
  by true rest = (all.0, rest)
  by false rest = rest

colon-free-taken : (n : ℕ) (xs : List (List ℕ)) → AllByRecursion IsColonFree xs → AllByRecursion IsColonFree (take n xs)
colon-free-taken zero xs all = tt
colon-free-taken (suc n) [] all = tt
colon-free-taken (suc n) (x ∷ xs) all = (all.0, colon-free-taken n xs all.1)

colon-free-ungated : (xs : List (List ℕ)) → AllByRecursion IsColonFree xs → AllByRecursion IsColonFree (ungated_of xs)
colon-free-ungated xs all = by (option_map_or is_gate (last_of xs) false) where
  by : (b : Bool) → AllByRecursion IsColonFree (cond b (take (length xs - 1) xs) xs)
  by true = colon-free-taken (length xs - 1) xs all
  by false = all

-- what stands after the first of a byte
colon-free-dropped : (n : ℕ) (xs : List ℕ) → IsColonFree xs → IsColonFree (drop n xs)
colon-free-dropped zero xs free = free
colon-free-dropped (suc n) [] free = refl
colon-free-dropped (suc n) (x ∷ xs) free = let both : ((x == 58) ≡ false) × IsColonFree xs = neither (x == 58) (list_any (λ c. c == 58) xs) free in colon-free-dropped n xs both.1

colon-free-after : (token : List ℕ) (parts : List ℕ × List ℕ) → IsColonFree token → split_at 61 token ≡ Some parts → IsColonFree parts.1
colon-free-after token parts free is = by (nat_lt (position_or_len (λ b. b == 61) token) (length token)) is where
  by : (b : Bool) → cond b (Some (before_first (λ b. b == 61) token, after_first (λ b. b == 61) token)) None ≡ Some parts → IsColonFree parts.1
  by true cut =
      subst (λ (p : List ℕ × List ℕ). IsColonFree p.1) (same-some (before_first (λ b. b == 61) token, after_first (λ b. b == 61) token) parts cut)
      (colon-free-dropped (position_or_len (λ b. b == 61) token + 1) token free)
  by false cut = cc

-- ---- what lines mention

-- a path that mentions nothing
abbrev pub IsOwnPath : ParsedUsePath → Type 0
IsOwnPath from = (takes : MentionKind) (gate : Stability) (span : OptionalSpan) → path_mention from takes gate span ≡ []

-- a line that mentions nothing, where there is one
abbrev pub LineMentionsNothing : Option PackageLine → Type 0
LineMentionsNothing said = (l : PackageLine) → said ≡ Some l → (gate : Stability) (span : OptionalSpan) → mentions_of l gate span ≡ []

nothing-map : {A : Type 0} (f : A → PackageLine) (o : Option A) → ((x : A) → o ≡ Some x → (gate : Stability) (span : OptionalSpan) → mentions_of (f x) gate span ≡ []) → LineMentionsNothing (option_map f o)
nothing-map f None each = λ l is gate span. cc
nothing-map f (Some x) each = λ l is gate span. ap (λ (m : PackageLine). mentions_of m gate span) (sym (same-some (f x) l is)) ∙ each x refl gate span

nothing-then : {A : Type 0} (f : A → Option PackageLine) (o : Option A) → ((x : A) → o ≡ Some x → LineMentionsNothing (f x)) → LineMentionsNothing (option_and_then f o)
nothing-then f None each = λ l is gate span. cc
nothing-then f (Some x) each = each x refl

own-path : (token : List ℕ) (from : ParsedUsePath) → IsColonFree token → path_of token ≡ Some from → IsOwnPath from
own-path token from free is = by (list_any (λ b. b == 58) token) free is where
  named : (o : Option (List ℕ)) → option_map path.Name o ≡ Some from → IsOwnPath from
  named None none = cc
  named (Some own) some = λ takes gate span. ap (λ (p : ParsedUsePath). path_mention p takes gate span) (sym (same-some (path.Name own) from some))

  by : (b : Bool) → b ≡ false → cond b (use_path_of token) (option_map path.Name (part_of token)) ≡ Some from → IsOwnPath from
  by true none read = cc
  by false none read = named (part_of token) read

nothing-of-type : (xs : List (List ℕ)) → LineMentionsNothing (type_line_of xs)
nothing-of-type [] = λ l is gate span. cc
nothing-of-type (name ∷ []) = λ l is gate span. cc
nothing-of-type (name ∷ ty ∷ []) = nothing-map (λ own. says.Type_ own (type_text_of ty)) (part_of name) (λ own is gate span. refl)
nothing-of-type (name ∷ ty ∷ next ∷ xs) = λ l is gate span. cc

nothing-of-record : (xs : List (List ℕ)) → LineMentionsNothing (record_line_of xs)
nothing-of-record [] = λ l is gate span. cc
nothing-of-record (name ∷ []) = λ l is gate span. cc
nothing-of-record (name ∷ field ∷ fields) =
    nothing-then (λ own. option_map (says.Record own) (each_of typed_name_of (field ∷ fields))) (part_of name)
    (λ own is. nothing-map (says.Record own) (each_of typed_name_of (field ∷ fields)) (λ made was gate span. refl))

nothing-of-named-use : (from name new : List ℕ) → IsColonFree from → LineMentionsNothing (use_line_with from name new)
nothing-of-named-use from name new free =
    nothing-then (λ there. option_and_then (λ own. option_map (says.Use there own) (part_of new)) (part_of name)) (path_of from)
    (λ there is. nothing-then (λ own. option_map (says.Use there own) (part_of new)) (part_of name)
    (λ own was. nothing-map (says.Use there own) (part_of new) (λ other has gate span. own-path from there free is (taken.Type_ own) gate span)))

nothing-of-use : (xs : List (List ℕ)) → AllByRecursion IsColonFree xs → LineMentionsNothing (use_line_of xs)
nothing-of-use [] all = λ l is gate span. cc
nothing-of-use (from ∷ []) all = λ l is gate span. cc
nothing-of-use (from ∷ name ∷ []) all = nothing-of-named-use from name name all.0
nothing-of-use (from ∷ name ∷ new ∷ []) all = nothing-of-named-use from name new all.0
nothing-of-use (from ∷ name ∷ new ∷ next ∷ xs) all = λ l is gate span. cc

nothing-of-include : (xs : List (List ℕ)) → AllByRecursion IsColonFree xs → LineMentionsNothing (include_line_of xs)
nothing-of-include [] all = λ l is gate span. cc
nothing-of-include (from ∷ names) all =
    nothing-then (λ there. option_map (says.Include there) (each_of rename_of names)) (path_of from)
    (λ there is. nothing-map (says.Include there) (each_of rename_of names) (λ made was gate span. own-path from there all.0 is taken.World gate span))

-- an entry whose path mentions nothing
abbrev pub IsOwnEntry : Option (Option (List ℕ) × ParsedUsePath) → Type 0
IsOwnEntry o = (e : Option (List ℕ) × ParsedUsePath) → o ≡ Some e → IsOwnPath e.1

own-path-entry : (token : List ℕ) (label : Option (List ℕ)) → IsColonFree token → IsOwnEntry (option_map (λ (from : ParsedUsePath). (label, from)) (path_of token))
own-path-entry token label free = by (path_of token) refl where
  by : (o : Option ParsedUsePath) → path_of token ≡ o → IsOwnEntry (option_map (λ (from : ParsedUsePath). (label, from)) o)
  by None is = λ e was. cc
  by (Some from) is = λ e was. subst (λ (p : Option (List ℕ) × ParsedUsePath). IsOwnPath p.1) (same-some (label, from) e was) (own-path token from free is)

entry-own : (token : List ℕ) → IsColonFree token → IsOwnEntry (entry_by token (split_at 61 token))
entry-own token free = by (split_at 61 token) refl where
  labelled : (parts : List ℕ × List ℕ) → IsColonFree parts.1 → (o : Option (List ℕ))
      → IsOwnEntry (option_and_then (λ (label : List ℕ). option_map (λ (from : ParsedUsePath). (Some label, from)) (path_of parts.1)) o)
  labelled parts tail None = λ e was. cc
  labelled parts tail (Some label) = own-path-entry parts.1 (Some label) tail

  by : (o : Option (List ℕ × List ℕ)) → split_at 61 token ≡ o → IsOwnEntry (entry_by token o)
  by None is = own-path-entry token None free
  by (Some parts) is = labelled parts (colon-free-after token parts free is) (part_of parts.0)

entries-own : (xs : List (List ℕ)) → AllByRecursion IsColonFree xs → IsOwnEntry (entry_tokens xs)
entries-own [] all = λ e was. cc
entries-own (token ∷ []) all = entry-own token all.0
entries-own (token ∷ next ∷ xs) all = λ e was. cc

-- ---- lines, by their first token

nothing-of-gated : (word : List ℕ) (xs : List (List ℕ)) → LineMentionsNothing (package_line_by word (ungated_of xs)) → MentionsNothing (option_map Some (gated_line_by word xs))
nothing-of-gated word xs nothing = by (gate_of_line xs) (package_line_by word (ungated_of xs)) nothing where
  by : (gate : Option Stability) (said : Option PackageLine) → LineMentionsNothing said → MentionsNothing (option_map Some (option_and_then (λ own. option_map (λ l. line.Line l own) said) gate))
  by None said none = tt
  by (Some gate) None none = tt
  by (Some gate) (Some l) none = λ span. none l refl gate span

-- the same of a token that is this one
at-word : (w word : List ℕ) (xs : List (List ℕ)) → bytes_eq word w ≡ true → MentionsNothing (statement_of_tokens (w ∷ xs)) → MentionsNothing (statement_of_tokens (word ∷ xs))
at-word w word xs same told = subst (λ (v : List ℕ). MentionsNothing (statement_of_tokens (v ∷ xs))) (sym (text-is word w same)) told

one-of : {P : Type 0} (a b : Bool) → (a || b) ≡ true → (a ≡ true → P) → (b ≡ true → P) → P
one-of true b h left right = left refl
one-of false b h left right = right h

module _ (word : List ℕ) (xs : List (List ℕ)) where
  -- the word is this one
  abbrev reads : List ℕ → Bool
  reads w = bytes_eq word w

  own-word : takes_no_path word ≡ true → MentionsNothing (statement_of_tokens (word ∷ xs))
  own-word own =
      let at_export : reads (codes "export-func") ≡ true → MentionsNothing (statement_of_tokens (word ∷ xs)) =
      λ same. at-word (codes "export-func") word xs same (nothing-of-gated (codes "export-func") xs (nothing-map says.ExportFunction (signed_line_of (ungated_of xs)) (λ said was gate span. refl))) in
      let at_import : reads (codes "import-func") ≡ true → MentionsNothing (statement_of_tokens (word ∷ xs)) =
      λ same. at-word (codes "import-func") word xs same (nothing-of-gated (codes "import-func") xs (nothing-map says.ImportFunction (signed_line_of (ungated_of xs)) (λ said was gate span. refl))) in
      let at_func : reads (codes "func") ≡ true → MentionsNothing (statement_of_tokens (word ∷ xs)) =
      λ same. at-word (codes "func") word xs same (nothing-of-gated (codes "func") xs (nothing-map says.Function (signed_line_of (ungated_of xs)) (λ said was gate span. refl))) in
      let at_resource : reads (codes "resource") ≡ true → MentionsNothing (statement_of_tokens (word ∷ xs)) =
      λ same. at-word (codes "resource") word xs same (nothing-of-gated (codes "resource") xs (nothing-map says.Resource (named_line_of (ungated_of xs)) (λ name was gate span. refl))) in
      let at_record : reads (codes "record") ≡ true → MentionsNothing (statement_of_tokens (word ∷ xs)) =
      λ same. at-word (codes "record") word xs same (nothing-of-gated (codes "record") xs (nothing-of-record (ungated_of xs))) in
      let at_type : reads (codes "type") ≡ true → MentionsNothing (statement_of_tokens (word ∷ xs)) =
      λ same. at-word (codes "type") word xs same (nothing-of-gated (codes "type") xs (nothing-of-type (ungated_of xs))) in
      let at_world : reads (codes "world") ≡ true → MentionsNothing (statement_of_tokens (word ∷ xs)) =
      λ same. at-word (codes "world") word xs same (nothing-of-gated (codes "world") xs (nothing-map says.World (named_line_of (ungated_of xs)) (λ name was gate span. refl))) in
      let at_interface : reads (codes "interface") ≡ true → MentionsNothing (statement_of_tokens (word ∷ xs)) =
      λ same. at-word (codes "interface") word xs same (nothing-of-gated (codes "interface") xs (nothing-map says.Interface (named_line_of (ungated_of xs)) (λ name was gate span. refl))) in
      one-of (reads (codes "interface")) (reads (codes "world") || (reads (codes "type") || (reads (codes "record") || (reads (codes "resource") || (reads (codes "func") || (reads (codes "import-func") || reads (codes "export-func"))))))) own at_interface
      (λ a. one-of (reads (codes "world")) (reads (codes "type") || (reads (codes "record") || (reads (codes "resource") || (reads (codes "func") || (reads (codes "import-func") || reads (codes "export-func")))))) a at_world
      (λ b. one-of (reads (codes "type")) (reads (codes "record") || (reads (codes "resource") || (reads (codes "func") || (reads (codes "import-func") || reads (codes "export-func"))))) b at_type
      (λ d. one-of (reads (codes "record")) (reads (codes "resource") || (reads (codes "func") || (reads (codes "import-func") || reads (codes "export-func")))) d at_record
      (λ e. one-of (reads (codes "resource")) (reads (codes "func") || (reads (codes "import-func") || reads (codes "export-func"))) e at_resource
      (λ f. one-of (reads (codes "func")) (reads (codes "import-func") || reads (codes "export-func")) f at_func
      (λ g. one-of (reads (codes "import-func")) (reads (codes "export-func")) g at_import at_export))))))

  path-word : AllByRecursion IsColonFree xs → takes_path word ≡ true → MentionsNothing (statement_of_tokens (word ∷ xs))
  path-word all has =
      let rest : AllByRecursion IsColonFree (ungated_of xs) = colon-free-ungated xs all in
      let at_include : reads (codes "include") ≡ true → MentionsNothing (statement_of_tokens (word ∷ xs)) =
      λ same. at-word (codes "include") word xs same (nothing-of-gated (codes "include") xs (nothing-of-include (ungated_of xs) rest)) in
      let at_export : reads (codes "export") ≡ true → MentionsNothing (statement_of_tokens (word ∷ xs)) =
      λ same. at-word (codes "export") word xs same (nothing-of-gated (codes "export") xs
      (nothing-map (λ (e : Option (List ℕ) × ParsedUsePath). says.Export e.0 e.1) (entry_tokens (ungated_of xs)) (λ e was gate span. entries-own (ungated_of xs) rest e was taken.Interface gate span))) in
      let at_import : reads (codes "import") ≡ true → MentionsNothing (statement_of_tokens (word ∷ xs)) =
      λ same. at-word (codes "import") word xs same (nothing-of-gated (codes "import") xs
      (nothing-map (λ (e : Option (List ℕ) × ParsedUsePath). says.Import e.0 e.1) (entry_tokens (ungated_of xs)) (λ e was gate span. entries-own (ungated_of xs) rest e was taken.Interface gate span))) in
      let at_use : reads (codes "use") ≡ true → MentionsNothing (statement_of_tokens (word ∷ xs)) =
      λ same. at-word (codes "use") word xs same (nothing-of-gated (codes "use") xs (nothing-of-use (ungated_of xs) rest)) in
      one-of (reads (codes "use")) (reads (codes "import") || (reads (codes "export") || reads (codes "include"))) has at_use
      (λ a. one-of (reads (codes "import")) (reads (codes "export") || reads (codes "include")) a at_import
      (λ b. one-of (reads (codes "export")) (reads (codes "include")) b at_export at_include))

-- a line of such a token
first-is : (tokens : List (List ℕ)) (word : List ℕ) → Some word ≡ slice_get tokens 0 → (P : List (List ℕ) → Type 0) → ((xs : List (List ℕ)) → tokens ≡ word ∷ xs → P (word ∷ xs)) → P tokens
first-is [] word is P each = cc
first-is (t ∷ xs) word is P each = let same : word ≡ t = same-some word t is in subst (λ (w : List ℕ). P (w ∷ xs)) same (each xs (ap (λ (w : List ℕ). w ∷ xs) (sym same)))

own-line : (text word : List ℕ) → Some word ≡ slice_get (tokens_of text) 0 → takes_no_path word ≡ true → MentionsNothing (statement_of text)
own-line text word is own = first-is (tokens_of text) word is (λ tokens. MentionsNothing (statement_of_tokens tokens)) (λ xs all. own-word word xs own)

path-line : (text word : List ℕ) → Some word ≡ slice_get (tokens_of text) 0 → takes_path word ≡ true → IsColonFree text → MentionsNothing (statement_of text)
path-line text word is has free =
    let parts : AllByRecursion IsColonFree (tokens_of text) = colon-free-kept (λ token. not (length token == 0)) (slice_split (λ b. b == 32) text) (colon-free-parts text free) in
    first-is (tokens_of text) word is (λ tokens. MentionsNothing (statement_of_tokens tokens))
    (λ xs all. let tokens : AllByRecursion IsColonFree (word ∷ xs) = subst (AllByRecursion IsColonFree) all parts in path-word word xs tokens.1 has)

both-of : (a b : Bool) → (a && not b) ≡ true → (a ≡ true) × (b ≡ false)
both-of true true h = cc
both-of true false h = (refl, refl)
both-of false b h = cc

pub line-told : (text word : List ℕ) (answer : Bool) → Some word ≡ slice_get (tokens_of text) 0
    → answer ≡ (takes_no_path word || (takes_path word && not (list_any (λ b. b == 58) text))) → answer ≡ true → MentionsNothing (statement_of text)
line-told text word answer is told holds =
    one-of (takes_no_path word) (takes_path word && not (list_any (λ b. b == 58) text)) (sym told ∙ holds) (own-line text word is)
    (λ h. let both : (takes_path word ≡ true) × IsColonFree text = both-of (takes_path word) (list_any (λ b. b == 58) text) h in path-line text word is both.0 both.1)
