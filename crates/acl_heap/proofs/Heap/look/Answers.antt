use Rattle.acl_heap.proofs.Heap.look.Goals as goal

pub returns-in-Big-clause-small : goal.returns-in-Big-clause-small
returns-in-Big-clause-small c = c.look_at.ensures.small c.args.w

pub returns-in-Str-clause-small : goal.returns-in-Str-clause-small
returns-in-Str-clause-small c = c.look_at-in-Str.ensures.small c.args.w

pub returns-in-Cons-clause-small : goal.returns-in-Cons-clause-small
returns-in-Cons-clause-small c = c.look_at-in-Cons.ensures.small c.args.w
