use Rattle.std.proofs.Common.{sym}
use Rattle.wit_data.proofs.types.TypeDefKindTryClone.try_clone.Goals as goal

pub returns-in-Resource : goal.returns-in-Resource
returns-in-Resource c = sym c.in-Resource.is

pub returns-in-Handle : goal.returns-in-Handle
returns-in-Handle c = sym c.in-Handle.is

pub returns-in-Option : goal.returns-in-Option
returns-in-Option c = sym c.in-Option.is

pub returns-in-Result_ : goal.returns-in-Result_
returns-in-Result_ c = sym c.in-Result_.is

pub returns-in-List : goal.returns-in-List
returns-in-List c = sym c.in-List.is

pub returns-in-Map : goal.returns-in-Map
returns-in-Map c = sym c.in-Map.is

pub returns-in-FixedLengthList : goal.returns-in-FixedLengthList
returns-in-FixedLengthList c = sym c.in-FixedLengthList.is

pub returns-in-Future : goal.returns-in-Future
returns-in-Future c = sym c.in-Future.is

pub returns-in-Stream : goal.returns-in-Stream
returns-in-Stream c = sym c.in-Stream.is

pub returns-in-Type_ : goal.returns-in-Type_
returns-in-Type_ c = sym c.in-Type_.is

pub returns-in-Unknown : goal.returns-in-Unknown
returns-in-Unknown c = sym c.in-Unknown.is

pub returns-in_ok-try_clone-in-Record : goal.returns-in_ok-try_clone-in-Record
returns-in_ok-try_clone-in-Record c = rw c.in_ok-try_clone-in-Record.ensures (sym c.in-Record.is)

pub returns-in_ok-try_clone-in-Flags : goal.returns-in_ok-try_clone-in-Flags
returns-in_ok-try_clone-in-Flags c = rw c.in_ok-try_clone-in-Flags.ensures (sym c.in-Flags.is)

pub returns-in_ok-try_clone-in-Tuple : goal.returns-in_ok-try_clone-in-Tuple
returns-in_ok-try_clone-in-Tuple c = rw c.in_ok-try_clone-in-Tuple.ensures (sym c.in-Tuple.is)

pub returns-in_ok-try_clone-in-Variant : goal.returns-in_ok-try_clone-in-Variant
returns-in_ok-try_clone-in-Variant c = rw c.in_ok-try_clone-in-Variant.ensures (sym c.in-Variant.is)

pub returns-in_ok-try_clone-in-Enum : goal.returns-in_ok-try_clone-in-Enum
returns-in_ok-try_clone-in-Enum c = rw c.in_ok-try_clone-in-Enum.ensures (sym c.in-Enum.is)
