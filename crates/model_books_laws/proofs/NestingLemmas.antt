-- Objects that nest in each other, computed.
use Rattle.std.specs.Prelude.{refl}
use Rattle.model_stobjs.specs.Descriptors.{nesting_within, shape_of}
use Rattle.model_books_laws.specs.Nesting.{NestingIsLimited, ladder}

pub nesting_is_limited : NestingIsLimited
unfolding ladder nesting_within shape_of
nesting_is_limited = record { accepted = refl; refused = refl }
