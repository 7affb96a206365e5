-- The terms of a world's functions are numbers of a table (those of macros are not asked for); the worlds in which they were checked.
use Rattle.std.specs.Prelude.{◌<◌, List, length, is_some, if◌then◌else◌}
use Rattle.std.specs.List.{AllByRecursion}
use Rattle.model_terms.specs.Worlds.{World}
use Rattle.model_slots.specs.Resolved.{number_in}
use Rattle.model_window.specs.Stands.{Origins}
use Rattle.acl_terms.specs.declared.definition.Definition.{Definition}
use Rattle.acl_terms.specs.declared.definition.Definition.TheVariants as definition
use Rattle.acl_code.specs.declared.term.Term.{Term}

abbrev pub TermsWithin : List Term → Definition → Type 0
TermsWithin ts (definition.Primitive name row arity) = Unit {0}
TermsWithin ts (definition.Function f) = (f.guard_term.0 < length ts) × (f.body_term.0 < length ts)
TermsWithin ts (definition.Macro m) = Unit {0}
TermsWithin ts (definition.Constant name value) = Unit {0}
TermsWithin ts (definition.Object descriptor layout class) = Unit {0}
TermsWithin ts (definition.Generated f) = Unit {0}
TermsWithin ts (definition.Abstract descriptor) = Unit {0}
TermsWithin ts (definition.OfAbstract f) = f.guard_term.0 < length ts
TermsWithin ts (definition.Named name formals) = Unit {0}
TermsWithin ts (definition.Signed name formals signature executable) = Unit {0}

abbrev pub AllWithin : List Term → List Definition → Type 0
AllWithin ts ds = AllByRecursion (TermsWithin ts) ds

-- what stands in the first world was checked where it was, and all else in the second
abbrev pub origins_with : World → Origins → World → Origins
origins_with w origins c = record {
  guard = λ x. if is_some (number_in w x) then origins.guard x else c;
  body = λ x. if is_some (number_in w x) then origins.body x else c;
}
