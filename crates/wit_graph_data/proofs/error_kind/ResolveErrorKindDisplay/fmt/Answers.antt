-- What each arm writes is the text of its kind.
use Rattle.wit_graph_data.proofs.error_kind.ResolveErrorKindDisplay.fmt.Goals as goal

pub returns-in-InterfaceNotFound-clause-writes : goal.returns-in-InterfaceNotFound-clause-writes
returns-in-InterfaceNotFound-clause-writes g c = λ plain ok. rw c.in-InterfaceNotFound.is (c.write-in-InterfaceNotFound.ensures.writes plain ok)

pub returns-in-InvalidTransitiveDependency-clause-writes : goal.returns-in-InvalidTransitiveDependency-clause-writes
returns-in-InvalidTransitiveDependency-clause-writes g c = λ plain ok. rw c.in-InvalidTransitiveDependency.is (c.write-in-InvalidTransitiveDependency.ensures.writes plain ok)

pub returns-in-DuplicatePackage-clause-writes : goal.returns-in-DuplicatePackage-clause-writes
returns-in-DuplicatePackage-clause-writes g c = λ plain ok. rw c.in-DuplicatePackage.is (c.write-in-DuplicatePackage.ensures.writes plain ok)

pub returns-in-PackageCycle-clause-writes : goal.returns-in-PackageCycle-clause-writes
returns-in-PackageCycle-clause-writes g c = λ plain ok. rw c.in-PackageCycle.is (c.write-in-PackageCycle.ensures.writes plain ok)

pub returns-in-ItemShadowing-clause-writes : goal.returns-in-ItemShadowing-clause-writes
returns-in-ItemShadowing-clause-writes g c = λ plain ok. rw c.in-ItemShadowing.is (c.write-in-ItemShadowing.ensures.writes plain ok)
