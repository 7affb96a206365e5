-- The accessors of children that those of the program stand for.
use Rattle.model_terms.specs.Accessors as children
use Rattle.acl_nest.specs.declared.accessors.HeldStobjs.{HeldStobjs}
use Rattle.acl_nest.specs.declared.accessors.HeldStobjs.TheVariants as holds
use Rattle.acl_nest.specs.declared.accessors.ChildAccessor.{ChildAccessor}

abbrev pub seen_holds : HeldStobjs → children.HeldStobjs
seen_holds (holds.One x) = children.One x.0
seen_holds (holds.Many x) = children.Many x.0

abbrev pub seen_accessor : ChildAccessor → children.ChildAccessor
seen_accessor a = record { stobj = a.stobj.0; field = a.field; holds = seen_holds a.holds }
