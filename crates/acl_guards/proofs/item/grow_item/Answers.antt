-- A form that is to hold, and the test of a type.
use Rattle.acl_guards.proofs.item.grow_item.Goals as goal

pub grow-requires-clause-known : goal.grow-requires-clause-known
grow-requires-clause-known g c = rw c.in-FormHolds.is at c.requires.known

pub grow_ready-requires-clause-known : goal.grow_ready-requires-clause-known
grow_ready-requires-clause-known g c = rw c.in-Meets.is at c.requires.known

pub returns-in-Err-clause-ends : goal.returns-in-Err-clause-ends
returns-in-Err-clause-ends g c = rw c.in-FormHolds.is c.in-Err.ensures.ends

pub returns-in-Ok-clause-ends : goal.returns-in-Ok-clause-ends
returns-in-Ok-clause-ends g c = rw c.in-FormHolds.is c.in-Ok.ensures.ends

pub returns-in-Err-grow_ready-clause-ends : goal.returns-in-Err-grow_ready-clause-ends
returns-in-Err-grow_ready-clause-ends g c = rw c.in-Meets.is c.in-Err-grow_ready.ensures.ends

pub returns-in-Ok-grow_ready-clause-ends : goal.returns-in-Ok-grow_ready-clause-ends
returns-in-Ok-grow_ready-clause-ends g c = rw c.in-Meets.is c.in-Ok-grow_ready.ensures.ends
