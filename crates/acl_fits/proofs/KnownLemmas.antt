-- The constants of a form are known to an expansion and to a table of terms alike.
use Rattle.std.proofs.Common.{ℕ}
use Rattle.model_terms.specs.Cores.{Core, Cores, Var, Const, If, Let, Mv, MvLet, StobjLet, WithLocal, MustBeEqual, Call, none, more}
use Rattle.model_expansion_forms.specs.Nodes.{AllNodes, HasConstant, IsBelow}
use Rattle.model_expansion_parts.specs.Known.{KnowsForm}
use Rattle.acl_code.specs.Constants.{FormIsKnown, FormsAreKnown}
use Rattle.acl_fits.specs.Laws.{KnowledgeAgrees}

module _ (n : ℕ) where
  mutual
    known_form : (f : Core) → KnowsForm n f → FormIsKnown n f
    known_form (Var x) k = tt
    known_form (Const o) k = k
    known_form (If a b c) k = (known_form a k.1, known_form b k.2, known_form c k.3)
    known_form (Let names bound body) k = (known_parts bound k.1, known_form body k.2)
    known_form (Mv parts) k = known_parts parts k.1
    known_form (MvLet names bound body) k = (known_form bound k.1, known_form body k.2)
    known_form (StobjLet names bound vars producer consumer) k = (known_parts bound k.1, known_form producer k.2, known_form consumer k.3)
    known_form (WithLocal stobj names producer body) k = (known_form producer k.1, known_form body k.2)
    known_form (MustBeEqual logic exec) k = (known_form logic k.1, known_form exec k.2)
    known_form (Call f actuals) k = known_parts actuals k.1

    known_parts : (fs : Cores) → AllNodes (HasConstant (IsBelow n)) fs → FormsAreKnown n fs
    known_parts none k = tt
    known_parts (more f fs) k = (known_form f k.0, known_parts fs k.1)

  mutual
    form_knows : (f : Core) → FormIsKnown n f → KnowsForm n f
    form_knows (Var x) k = tt
    form_knows (Const o) k = k
    form_knows (If a b c) k = (tt, form_knows a k.0, form_knows b k.1, form_knows c k.2)
    form_knows (Let names bound body) k = (tt, parts_know bound k.0, form_knows body k.1)
    form_knows (Mv parts) k = (tt, parts_know parts k)
    form_knows (MvLet names bound body) k = (tt, form_knows bound k.0, form_knows body k.1)
    form_knows (StobjLet names bound vars producer consumer) k = (tt, parts_know bound k.0, form_knows producer k.1, form_knows consumer k.2)
    form_knows (WithLocal stobj names producer body) k = (tt, form_knows producer k.0, form_knows body k.1)
    form_knows (MustBeEqual logic exec) k = (tt, form_knows logic k.0, form_knows exec k.1)
    form_knows (Call f actuals) k = (tt, parts_know actuals k)

    parts_know : (fs : Cores) → FormsAreKnown n fs → AllNodes (HasConstant (IsBelow n)) fs
    parts_know none k = tt
    parts_know (more f fs) k = (form_knows f k.0, parts_know fs k.1)

pub knowledge_agrees : KnowledgeAgrees
knowledge_agrees = record { form = known_form; parts = known_parts; back = form_knows }
