-- The second half of the conditions on `WITH-LOCAL-STOBJ`: those of its `MV-LET`.
use Rattle.std.specs.Prelude.{ℕ, List, Bool, ◌&&◌}
use Rattle.model_terms.specs.Cores.{Core}
use Rattle.model_terms.specs.Worlds.{World, Out, Scope}
use Rattle.model_terms.specs.Scopes.{name_kinds, local_scope, other_names}
use Rattle.model_terms.specs.Outputs.{outs}
use Rattle.model_terms.specs.Nested.{stobjs_expected, same_kinds}

abbrev pub names_hold : World → Scope → List Out → ℕ → List ℕ → Core → Bool
names_hold w scope expected stobj names producer =
    stobjs_expected (name_kinds w (other_names stobj names)) expected && same_kinds (outs w (local_scope w scope stobj) producer) (name_kinds w names)
