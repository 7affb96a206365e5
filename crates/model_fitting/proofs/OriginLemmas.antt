-- A threaded world has origins: the worlds in which its functions were checked.
use Rattle.std.proofs.Common.{◌≡◌, ℕ, List, [], length, Bool, true, false, Option, Some, None, refl, sym, ap, ◌∙◌, subst}
use Rattle.model_terms.specs.declared.role.AbstractRole.{AbstractRole}
use Rattle.model_terms.specs.declared.role.AbstractRole.TheVariants as abstract_role
use Rattle.model_terms.specs.Cores.{Core}
use Rattle.model_terms.specs.Worlds.{World, Out, Definition, Function, FunctionOfAbstract, definition, Primitive, Defined, Macro, Constant, Concrete, Generated, Abstract, OfAbstract, Named, Signed}
use Rattle.model_terms.specs.Sites.{one_ordinary}
use Rattle.model_accepted.specs.Threaded.{IsChecked, IsThreaded}
use Rattle.model_accepted.proofs.AcceptLemmas.{true_false}
use Rattle.model_accepted.proofs.ScopeLemmas.{none_some}
use Rattle.model_window.specs.Stands.{Origins}
use Rattle.model_fitting.specs.Steps.{WasAccepted, AreOrigins}
use Rattle.model_fitting.specs.Laws.{OriginsExist}

was_accepted : (w : World) (formals : List ℕ) (ins : List Out) (form : Core) (expected : List Out) (i : IsChecked w formals ins form expected) → WasAccepted w i.world formals ins form expected
was_accepted w formals ins form expected i =
    record { suits = i.suits; accepted = i.accepted; formed = i.formed }

-- a world for each function that runs, and for each export
abbrev OfFunctions : Option Definition → Type 0
OfFunctions o = (f : Function) → o ≡ Some (Defined f) → f.executable ≡ true → World

abbrev OfExports : Option Definition → Type 0
OfExports o = (f : FunctionOfAbstract) → o ≡ Some (OfAbstract f) → f.role ≡ abstract_role.Export → World

abbrev by_test : (b : Bool) → (b ≡ true → World) → World
by_test true k = k refl
by_test false k = []

abbrev by_role : (r : AbstractRole) → (r ≡ abstract_role.Export → World) → World
by_role abstract_role.Recognizer k = []
by_role abstract_role.Creator k = []
by_role abstract_role.Export k = k refl

abbrev world_for : (o : Option Definition) → OfFunctions o → OfExports o → World
world_for None k l = []
world_for (Some (Primitive name row)) k l = []
world_for (Some (Defined f)) k l = by_test f.executable (k f refl)
world_for (Some (Macro name formals body)) k l = []
world_for (Some (Constant name value)) k l = []
world_for (Some (Concrete d class)) k l = []
world_for (Some (Generated g)) k l = []
world_for (Some (Abstract d)) k l = []
world_for (Some (OfAbstract f)) k l = by_role f.role (l f refl)
world_for (Some (Named name formals)) k l = []
world_for (Some (Signed name formals signature executable)) k l = []

test_holds : (Q : World → Type 0) (b : Bool) (k : b ≡ true → World) → ((e : b ≡ true) → Q (k e)) → b ≡ true → Q (by_test b k)
test_holds Q true k all e = all refl
test_holds Q false k all e = true_false (sym e)

role_holds : (Q : World → Type 0) (r : AbstractRole) (k : r ≡ abstract_role.Export → World) → ((e : r ≡ abstract_role.Export) → Q (k e)) → r ≡ abstract_role.Export → Q (by_role r k)
role_holds Q abstract_role.Recognizer k all e = cc
role_holds Q abstract_role.Creator k all e = cc
role_holds Q abstract_role.Export k all e = all refl

same_function : {f g : Function} → Some (Defined f) ≡ Some (Defined g) → f ≡ g
same_function e = cc

same_export : {f g : FunctionOfAbstract} → Some (OfAbstract f) ≡ Some (OfAbstract g) → f ≡ g
same_export e = cc

-- what holds of the world of each function, and of each export
function_world : (Q : Function → World → Type 0) (o : Option Definition) (k : OfFunctions o) (l : OfExports o) → ((f : Function) (e : o ≡ Some (Defined f)) (r : f.executable ≡ true) → Q f (k f e r))
    → (f : Function) → o ≡ Some (Defined f) → f.executable ≡ true → Q f (world_for o k l)
function_world Q None k l all f e r = none_some e
function_world Q (Some (Primitive name row)) k l all f e r = cc
function_world Q (Some (Defined g)) k l all f e r =
    let same : g ≡ f = same_function e in
    subst (λ (z : Function). Q z (by_test g.executable (k g refl))) same
    (test_holds (Q g) g.executable (k g refl) (all g refl) (ap (λ (z : Function). z.executable) same ∙ r))
function_world Q (Some (Macro name formals body)) k l all f e r = cc
function_world Q (Some (Constant name value)) k l all f e r = cc
function_world Q (Some (Concrete d class)) k l all f e r = cc
function_world Q (Some (Generated g)) k l all f e r = cc
function_world Q (Some (Abstract d)) k l all f e r = cc
function_world Q (Some (OfAbstract g)) k l all f e r = cc
function_world Q (Some (Named name formals)) k l all f e r = cc
function_world Q (Some (Signed name formals signature executable)) k l all f e r = cc

export_world : (Q : FunctionOfAbstract → World → Type 0) (o : Option Definition) (k : OfFunctions o) (l : OfExports o) → ((f : FunctionOfAbstract) (e : o ≡ Some (OfAbstract f)) (r : f.role ≡ abstract_role.Export) → Q f (l f e r))
    → (f : FunctionOfAbstract) → o ≡ Some (OfAbstract f) → f.role ≡ abstract_role.Export → Q f (world_for o k l)
export_world Q None k l all f e r = none_some e
export_world Q (Some (Primitive name row)) k l all f e r = cc
export_world Q (Some (Defined g)) k l all f e r = cc
export_world Q (Some (Macro name formals body)) k l all f e r = cc
export_world Q (Some (Constant name value)) k l all f e r = cc
export_world Q (Some (Concrete d class)) k l all f e r = cc
export_world Q (Some (Generated g)) k l all f e r = cc
export_world Q (Some (Abstract d)) k l all f e r = cc
export_world Q (Some (OfAbstract g)) k l all f e r =
    let same : g ≡ f = same_export e in
    subst (λ (z : FunctionOfAbstract). Q z (by_role g.role (l g refl))) same
    (role_holds (Q g) g.role (l g refl) (all g refl) (ap (λ (z : FunctionOfAbstract). z.role) same ∙ r))
export_world Q (Some (Named name formals)) k l all f e r = cc
export_world Q (Some (Signed name formals signature executable)) k l all f e r = cc

module _ (w : World) (threaded : IsThreaded w) where
  abbrev guards_of : (x : ℕ) → OfFunctions (definition w x)
  guards_of x f e r = (threaded.functions x f e r).guard.world

  abbrev bodies_of : (x : ℕ) → OfFunctions (definition w x)
  bodies_of x f e r = (threaded.functions x f e r).body.world

  abbrev exports_of : (x : ℕ) → OfExports (definition w x)
  exports_of x f e r = (threaded.exports x f e r).guard.world

  abbrev origins_of : Origins
  origins_of = record {
    guard = λ x. world_for (definition w x) (guards_of x) (exports_of x);
    body = λ x. world_for (definition w x) (bodies_of x) (exports_of x);
  }

  are_origins : ((x : ℕ) (f : FunctionOfAbstract) → definition w x ≡ Some (OfAbstract f) → length f.formals ≡ length f.signature.ins) → AreOrigins w origins_of
  are_origins lengths = record {
    guard = λ x.
        function_world (λ (f : Function) (c : World). WasAccepted w c f.formals f.signature.ins f.guard one_ordinary) (definition w x) (guards_of x) (exports_of x)
        (λ f e r. was_accepted w f.formals f.signature.ins f.guard one_ordinary (threaded.functions x f e r).guard);
    body = λ x.
        function_world (λ (f : Function) (c : World). WasAccepted w c f.formals f.signature.ins f.body f.signature.outs) (definition w x) (bodies_of x) (exports_of x)
        (λ f e r. was_accepted w f.formals f.signature.ins f.body f.signature.outs (threaded.functions x f e r).body);
    export = λ x.
        export_world (λ (f : FunctionOfAbstract) (c : World). WasAccepted w c f.formals f.signature.ins f.guard one_ordinary) (definition w x) (guards_of x) (exports_of x)
        (λ f e r. was_accepted w f.formals f.signature.ins f.guard one_ordinary (threaded.exports x f e r).guard);
    formals = lengths;
  }

pub origins_exist : OriginsExist
origins_exist = record { origins = origins_of; are = are_origins }
