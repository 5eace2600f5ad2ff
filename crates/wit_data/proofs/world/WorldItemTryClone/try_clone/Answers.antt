use Rattle.std.proofs.Common.{sym}
use Rattle.wit_data.proofs.world.WorldItemTryClone.try_clone.Goals as goal

pub returns-in_ok-stability-in-Interface : goal.returns-in_ok-stability-in-Interface
returns-in_ok-stability-in-Interface c =
    rw (c.in_ok-stability-in-Interface.ensures.0, c.in_ok-stability-in-Interface.ensures.1, c.in_ok-stability-in-Interface.ensures.2) (sym c.in-Interface.is)

pub returns-in_ok-try_clone-in-Function : goal.returns-in_ok-try_clone-in-Function
returns-in_ok-try_clone-in-Function c = rw c.in_ok-try_clone-in-Function.ensures (sym c.in-Function.is)

pub returns-in-Type_ : goal.returns-in-Type_
returns-in-Type_ c = sym c.in-Type_.is
