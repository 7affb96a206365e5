-- The commands that print the foundations of abstract stobjs, which abstract evaluation does not see (ACL2's manual, topic
-- DEFABSSTOBJ).
use Rattle.std.specs.Prelude.{ℕ, Bool, true, false, Option, Some, None, nat_eq, option_map}
use Rattle.std.specs.Map.{lookup}
use Rattle.model_objects.specs.Object.{Object}
use Rattle.model_terms.specs.Worlds.{Definition, Primitive, Defined, Macro, Constant, Concrete, Generated, Abstract, OfAbstract, Named, Signed, definition}
use Rattle.model_books.specs.Opening.{Session}
use Rattle.model_books.specs.Commands.{Ways, way_of}

abbrev pub is_abstract : Option Definition → Bool
is_abstract None = false
is_abstract (Some (Primitive name row)) = false
is_abstract (Some (Defined f)) = false
is_abstract (Some (Macro name formals body)) = false
is_abstract (Some (Constant name value)) = false
is_abstract (Some (Concrete d class)) = false
is_abstract (Some (Generated g)) = false
is_abstract (Some (Abstract d)) = true
is_abstract (Some (OfAbstract f)) = false
is_abstract (Some (Named name formals)) = false
is_abstract (Some (Signed name formals signature executable)) = false

abbrev pub foundation_ways : Session → Ways Bool
foundation_ways s = record {
  event = λ head d. false;
  skipped = false;
  refused = λ r. false;
  expression = λ form. false;
  show = λ x. option_map (λ l. is_abstract (definition s.environment.world x)) (lookup (nat_eq x) s.stobjs);
  cells = true;
}

-- `(:CELLS)`, and `(:SHOW st)` of a live abstract stobj
unfoldable pub prints_foundations : Session → Object ℕ → Bool
prints_foundations s form = way_of (foundation_ways s) s.symbols form
