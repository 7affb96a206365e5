-- A session whose table has grown.
use Rattle.std.specs.Prelude.{◌≡◌, Option, Some, None, IfSome, refl}
use Rattle.std.proofs.Common.{ap, arith}
use Rattle.std.specs.Option.{option_map}
use Rattle.model_symbols.specs.Symbols.{Table}
use Rattle.model_symbols.specs.Growth.{Extends}
use Rattle.model_output_so_far.specs.Sessions as model
use Rattle.acl_forms.specs.Growth.{symbol_later}
use Rattle.acl_answers.specs.declared.Session.{Session}
use Rattle.acl_answers.specs.declared.stobj.Stobj.{Stobj}
use Rattle.acl_answers.specs.Views.{session_view, stobj_view}
use Rattle.acl_answers.specs.Whole.{IsSession, IsKnownStobj}
use Rattle.acl_answers.proofs.NewNameLemmas.{views_later, fields_later}

object_later : (a b : Table) → Extends a b → (o : Option Stobj) → IfSome o (IsKnownStobj a) → option_map (stobj_view b) o ≡ option_map (stobj_view a) o
object_later a b g None k = refl
object_later a b g (Some o) k = rw (symbol_later g o.name.0 k.name, views_later a b g o.fields.items k.fields) refl

object_known_later : (a b : Table) → Extends a b → (o : Option Stobj) → IfSome o (IsKnownStobj a) → IfSome o (IsKnownStobj b)
object_known_later a b g None k = tt
object_known_later a b g (Some o) k = record { name = omega (arith, g.longer, k.name); fields = fields_later a b g o.fields.items k.fields; same = k.same }

-- its view is that of before, with the new table
pub session_grown : (a b : Table) (s : Session) → Extends a b → IsSession a s → session_view b s ≡ record { table = b; current = s.current.0; object = (session_view a s).object }
session_grown a b s g i = ap (λ (o : Option model.Stobj). record { table = b; current = s.current.0; object = o }) (object_later a b g s.object i.object)

-- that in which the new symbols are known
pub session_later : (a b : Table) (s : Session) → Extends a b → b.packages ≡ a.packages → IsSession a s → session_view b s ≡ model.knowing (session_view a s) b.symbols
session_later a b s g p i = rw (object_later a b g s.object i.object, ← p) refl

pub session_known_later : (a b : Table) (s : Session) → Extends a b → IsSession a s → IsSession b s
session_known_later a b s g i = record { current = omega (arith, g.more_packages, i.current); object = object_known_later a b g s.object i.object }
