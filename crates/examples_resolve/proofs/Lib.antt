mod OfGraphs
mod OfMerges
mod OfScripts
