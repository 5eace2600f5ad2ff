-- What commands and questions are read from, each as its text.
use Rattle.std.specs.Prelude.{◌≡◌, ℕ, List, [], ◌∷◌, ◌++◌, Some, None, Ok, codes, false, true}
use Rattle.wit_names.specs.declared.track.TrackRule.TheVariants.{WithPrereleases}
use Rattle.wit_json_commands.specs.Changes.{read_change_by}
use Rattle.wit_json_commands.specs.Orders.{read_document}
use Rattle.wit_json_commands.specs.Questions.{read_mangling, read_question_by}
use Rattle.wit_commands.specs.declared.change.Change.{Change}
use Rattle.wit_commands.specs.declared.change.Change.TheVariants as change
use Rattle.wit_json_commands.specs.declared.commands.questions.FunctionSite.TheVariants as site
use Rattle.wit_json_commands.specs.declared.commands.questions.Mangling.TheVariants.{LegacyAsyncCallback, LegacyAsyncStackful, LegacySync, Standard32}
use Rattle.wit_json_commands.specs.declared.commands.questions.Question.{Question}
use Rattle.wit_json_commands.specs.declared.commands.questions.Question.TheVariants as question
use Rattle.examples_json.specs.values.Gates.{release}
use Rattle.examples_json.specs.values.Graphs.{foo_bar}
use Rattle.examples_json.specs.values.ReadValues.{fault_at, to}
use Rattle.wit_json_reading.specs.Documents.{read_from}
use Rattle.wit_json_reading.specs.Objects.{read_variant}
use Rattle.wit_json_reading.specs.Reading.{Reading, instead_of}
use Rattle.wit_json_reading.specs.declared.fault.Expected.TheVariants as expected
use Rattle.wit_json_reading.specs.declared.fault.Step.TheVariants as step

abbrev pub read_change : List ℕ → Reading Change
read_change text = read_from (read_variant read_change_by expected.Command) text

pub record ExamplesOfReadChanges : Type 0 where
  pub feature : read_change (codes "{\"add-feature\":\"fast\"}")
      ≡ Ok (change.AddFeature (codes "fast"))
  pub no_feature : read_change (codes "{\"add-feature\":1}")
      ≡ fault_at (to (codes "add-feature") ∷ []) expected.Text
  pub all_features : read_change (codes "{\"set-all-features\":false}")
      ≡ Ok (change.SetAllFeatures false)
  pub not_null : read_change (codes "{\"set-all-features\":null}")
      ≡ fault_at (to (codes "set-all-features") ∷ []) expected.Boolean
  pub rule : read_change (codes "{\"set-track-rule\":\"with-prereleases\"}")
      ≡ Ok (change.SetTrackRule WithPrereleases)
  pub no_rule : read_change (codes "{\"set-track-rule\":\"semver\"}")
      ≡ fault_at (to (codes "set-track-rule") ∷ []) expected.TrackRule
  -- the name of the new world may be left out, and so may the keys of a filter, which may be none
  pub importize : read_change
      (codes "{\"importize\":{\"package\":\"foo:bar@1.0.0\",\"world\":\"w\"}}")
      ≡ Ok (change.Importize (foo_bar (Some (release 1 0 0))) (codes "w") None)
  pub importize_out : read_change
      (codes "{\"importize\":{\"out\":\"v\",\"world\":\"w\",\"package\":\"foo:bar\"}}")
      ≡ Ok (change.Importize (foo_bar None) (codes "w") (Some (codes "v")))
  pub exportize : read_change (codes "{\"exportize\":{\"package\":\"foo:bar\",\"world\":\"w\"}}")
      ≡ Ok (change.Exportize (foo_bar None) (codes "w") None None)
  pub exportize_none : read_change
      (codes "{\"exportize\":{\"package\":\"foo:bar\",\"world\":\"w\",\"keys\":[]}}")
      ≡ Ok (change.Exportize (foo_bar None) (codes "w") None (Some []))
  pub exportize_some : read_change (codes "{\"exportize\":{\"package\":\"foo:bar\","
      ++ codes "\"world\":\"w\",\"keys\":[\"f\",\"foo:bar/i\"]}}")
      ≡ Ok (change.Exportize (foo_bar None) (codes "w") None
      (Some (codes "f" ∷ codes "foo:bar/i" ∷ [])))
  -- only exportize takes keys
  pub importize_keys : read_change
      (codes "{\"importize\":{\"package\":\"foo:bar\",\"world\":\"w\",\"keys\":[]}}")
      ≡ fault_at (to (codes "keys") ∷ to (codes "importize") ∷ []) expected.NoMember
  pub semver : read_change (codes "{\"semver\":{\"package\":\"foo:bar\",\"world\":\"w\"}}")
      ≡ Ok (change.Semver (foo_bar None) (codes "w"))
  pub no_world : read_change (codes "{\"semver\":{\"package\":\"foo:bar\"}}")
      ≡ fault_at (to (codes "world") ∷ to (codes "semver") ∷ []) expected.Member
  pub no_deps : read_change (codes "{\"push-groups\":{\"deps\":[]}}")
      ≡ fault_at (to (codes "main") ∷ to (codes "push-groups") ∷ []) expected.Member
  -- one command at a time, by its own name
  pub two : read_change (codes "{\"add-feature\":\"fast\",\"add-feature\":\"new\"}")
      ≡ instead_of expected.Command
  pub unknown : read_change (codes "{\"remove-feature\":\"fast\"}")
      ≡ fault_at (to (codes "remove-feature") ∷ []) expected.Command
  pub upper_case : read_change (codes "{\"Semver\":{}}")
      ≡ fault_at (to (codes "Semver") ∷ []) expected.Command

abbrev pub read_question : List ℕ → Reading Question
read_question text = read_from (read_variant read_question_by expected.Command) text

pub record ExamplesOfReadQuestions : Type 0 where
  pub select : read_question (codes "{\"select\":{\"packages\":[\"foo:bar\"],\"world\":\"w\"}}")
      ≡ Ok (question.Select (foo_bar None ∷ []) (Some (codes "w")))
  pub no_name : read_question (codes "{\"select\":{\"packages\":[]}}")
      ≡ Ok (question.Select [] None)
  pub one_package : read_question (codes "{\"select\":{\"packages\":\"foo:bar\"}}")
      ≡ fault_at (to (codes "packages") ∷ to (codes "select") ∷ []) expected.List
  pub dependencies : read_question (codes "{\"package-dependencies\":{\"package\":\"foo:bar\"}}")
      ≡ Ok (question.PackageDependencies (foo_bar None))
  pub of_interface : read_question
      (codes "{\"interface-dependencies\":{\"package\":\"foo:bar\",\"interface\":\"i\"}}")
      ≡ Ok (question.InterfaceDependencies (foo_bar None) (codes "i"))
  pub not_world : read_question
      (codes "{\"interface-dependencies\":{\"package\":\"foo:bar\",\"world\":\"w\"}}")
      ≡ fault_at (to (codes "world") ∷ to (codes "interface-dependencies") ∷ []) expected.NoMember
  pub canonical : read_question
      (codes "{\"canonical-id\":{\"package\":\"foo:bar\",\"name\":\"i\"}}")
      ≡ Ok (question.CanonicalId (foo_bar None) (codes "i"))
  pub core_names : read_question (codes "{\"core-names\":{\"package\":\"foo:bar\","
      ++ codes "\"world\":\"w\",\"mangling\":\"legacy-sync\"}}")
      ≡ Ok (question.CoreNames (foo_bar None) (codes "w") LegacySync)
  pub standard : read_from read_mangling (codes "\"standard32\"") ≡ Ok Standard32
  pub callback : read_from read_mangling (codes "\"legacy-async-callback\"")
      ≡ Ok LegacyAsyncCallback
  pub stackful : read_from read_mangling (codes "\"legacy-async-stackful\"")
      ≡ Ok LegacyAsyncStackful
  pub no_mangling : read_from read_mangling (codes "\"legacy\"") ≡ instead_of expected.Mangling
  pub imported : read_question
      (codes "{\"futures-and-streams\":{\"import\":{\"package\":\"foo:bar\","
      ++ codes "\"name\":\"w\",\"function\":\"f\"}}}")
      ≡ Ok (question.FuturesAndStreams (record {
        site = site.Import;
        «package» = foo_bar None;
        name = codes "w";
        function = codes "f";
      }))
  pub no_place : read_question
      (codes "{\"futures-and-streams\":{\"world\":{\"package\":\"foo:bar\","
      ++ codes "\"name\":\"w\",\"function\":\"f\"}}}")
      ≡ fault_at (to (codes "world") ∷ to (codes "futures-and-streams") ∷ []) expected.FunctionPlace
  -- a document has commands, each of a known name
  pub no_commands : read_from read_document (codes "{}")
      ≡ fault_at (to (codes "commands") ∷ []) expected.Member
  pub no_list : read_from read_document (codes "{\"commands\":{}}")
      ≡ fault_at (to (codes "commands") ∷ []) expected.List
  pub no_word : read_from read_document (codes "{\"commands\":[\"package-orders\"]}")
      ≡ fault_at (step.Item 0 ∷ to (codes "commands") ∷ []) expected.Command
  pub no_resolve : read_from read_document (codes "{\"commands\":[],\"resolve\":null}")
      ≡ fault_at (to (codes "resolve") ∷ []) expected.Object
  -- a lenient reading passes over members that a graph hasn't, up to the next fault
  pub lenient : read_from read_document
      (codes "{\"lenient\":true,\"resolve\":{\"new\":1,\"graph\":"
      ++ codes "{\"new\":[],\"worlds\":1}},\"commands\":[]}")
      ≡ fault_at (to (codes "worlds") ∷ to (codes "graph") ∷ to (codes "resolve") ∷ [])
      expected.List
  pub not_lenient : read_from read_document
      (codes "{\"lenient\":false,\"resolve\":{\"new\":1,\"graph\":"
      ++ codes "{\"new\":[],\"worlds\":1}},\"commands\":[]}")
      ≡ fault_at (to (codes "new") ∷ to (codes "resolve") ∷ []) expected.NoMember
  pub not_of_commands : read_from read_document
      (codes "{\"lenient\":true,\"commands\":[],\"new\":1}")
      ≡ fault_at (to (codes "new") ∷ []) expected.NoMember
