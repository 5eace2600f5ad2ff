-- What is new of a graph with what stands beside it.
use Rattle.std.specs.Prelude.{◌≡◌, ◌≢◌, ◌++◌, codes}
use Rattle.wit_names.specs.declared.track.TrackRule.TheVariants.{WithPrereleases}
use Rattle.wit_json.specs.Graph.{compact}
use Rattle.wit_json.specs.News.{json_of_news}
use Rattle.wit_json.specs.declared.news.Told.{Told}
use Rattle.examples_json.specs.values.Details.{two_features, two_files}
use Rattle.examples_json.specs.values.Graphs.{small_graph}

-- a world, a type and a package were told, and a file
abbrev pub told_some : Told
told_some = record { worlds = 1; interfaces = 0; types = 1; packages = 1; files = 1 }

-- more than there is
abbrev pub told_more : Told
told_more = record { worlds = 2; interfaces = 2; types = 2; packages = 2; files = 3 }

pub record ExamplesOfNews : Type 0 where
  pub interface : compact
      (json_of_news told_some small_graph two_features WithPrereleases two_files)
      ≡ codes "{\"from\":{\"worlds\":1,\"interfaces\":0,\"types\":1,\"packages\":1,\"sources\":1},"
      ++ codes "\"graph\":{\"worlds\":[],\"interfaces\":[{\"name\":\"i\",\"types\":{},"
      ++ codes "\"functions\":{},\"package\":null}],\"types\":[],\"packages\":[]},"
      ++ codes "\"details\":{\"worlds\":[],\"interfaces\":[{\"functions\":{}}],\"types\":[]},"
      ++ codes "\"features\":{\"all\":false,\"names\":[\"fast\",\"new\"]},"
      ++ codes "\"track-rule\":\"with-prereleases\","
      ++ codes "\"sources\":[{\"path\":\"b.wit\",\"text\":\"\"}]}"
  -- what was told isn't told again, and the features are
  pub not_all_files : compact
      (json_of_news told_more small_graph two_features WithPrereleases two_files)
      ≢ codes "{\"from\":{\"worlds\":2,\"interfaces\":2,\"types\":2,\"packages\":2,\"sources\":3},"
      ++ codes "\"graph\":{\"worlds\":[],\"interfaces\":[],\"types\":[],\"packages\":[]},"
      ++ codes "\"details\":{\"worlds\":[],\"interfaces\":[],\"types\":[]},"
      ++ codes "\"features\":{\"all\":false,\"names\":[\"fast\",\"new\"]},"
      ++ codes "\"track-rule\":\"with-prereleases\","
      ++ codes "\"sources\":[{\"path\":\"b.wit\",\"text\":\"\"}]}"
  pub nothing : compact
      (json_of_news told_more small_graph two_features WithPrereleases two_files)
      ≡ codes "{\"from\":{\"worlds\":2,\"interfaces\":2,\"types\":2,\"packages\":2,\"sources\":3},"
      ++ codes "\"graph\":{\"worlds\":[],\"interfaces\":[],\"types\":[],\"packages\":[]},"
      ++ codes "\"details\":{\"worlds\":[],\"interfaces\":[],\"types\":[]},"
      ++ codes "\"features\":{\"all\":false,\"names\":[\"fast\",\"new\"]},"
      ++ codes "\"track-rule\":\"with-prereleases\",\"sources\":[]}"
