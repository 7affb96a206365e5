-- Calls of a machine: what a call begins or gives is as its outputs say.
use Rattle.std.proofs.Common.{◌≡◌, ℕ, List, [], ◌∷◌, map, true, false, Option, Some, None, refl, sym, ap, ◌∙◌, subst}
use Rattle.std.specs.Prelude.{unwrap_or}
use Rattle.model_symbols.specs.Symbols.{Package}
use Rattle.model_prims.specs.Kinds.{by_number, truth_of}
use Rattle.model_prims.specs.Applied.{Applied, applied}
use Rattle.model_prims.specs.Applied as prims
use Rattle.model_lists.specs.Layouts.{field_layout}
use Rattle.model_lists.specs.Effects.{Effect, Refuses, Reads, Writes}
use Rattle.model_terms.specs.declared.rule.Mode.TheVariants.{Executable}
use Rattle.model_terms.specs.declared.role.AbstractRole.{AbstractRole}
use Rattle.model_terms.specs.declared.role.AbstractRole.TheVariants as abstract_role
use Rattle.model_terms.specs.Cores.{Core}
use Rattle.model_terms.specs.Worlds.{World, Definition, FunctionOfAbstract, GeneratedFunction, definition, Primitive, Defined, Macro, Constant, Concrete, Generated, Abstract, OfAbstract, Named, Signed, Out, Ordinary, Signature, Scope}
use Rattle.model_terms.specs.Worlds as worlds
use Rattle.model_terms.specs.Classes as classes
use Rattle.model_terms.specs.Classes.{repeats, renamed_out}
use Rattle.model_terms.specs.Outputs.{signature_in}
use Rattle.model_terms.specs.Accessors.{is_internal, is_executable}
use Rattle.model_terms.specs.Sites.{one_ordinary}
use Rattle.model_eval.specs.Outcomes.{Shown, Plain, StobjNamed, StateOf, OutcomeOf, Gives, Stops, Unknown}
use Rattle.model_eval.specs.Keeping.{Keeping}
use Rattle.model_eval.specs.Variables.{Variables, inner_variables, plain, ordinary, first_stobj}
use Rattle.model_eval.specs.GeneratedCalls.{effect, effected, list_or_none}
use Rattle.model_eval.specs.Evaluated.{RulesOf, evaluated, Evaluator, EvaluatorOf}
use Rattle.model_eval.specs.PlacesKeeping.{Store}
use Rattle.model_eval.specs.Checked.{checked_keeping, primitive_ended}
use Rattle.model_eval_laws.proofs.Lists.{same_number}
use Rattle.model_accepted.specs.Threaded.{layout_of, Suits, formal_entries, IsMade, IsAdmitted, IsThreaded, IsExport, AreOnly, abstracted}
use Rattle.model_accepted.specs.StobjScopes.{AreOutputs}
use Rattle.model_accepted.proofs.AcceptLemmas.{accepted_first}
use Rattle.model_accepted.proofs.ScopeLemmas.{some_same}
use Rattle.model_in_place.specs.Calls.{names_in, AreArguments}
use Rattle.model_in_place.proofs.FormalLemmas.{formal_variables}
use Rattle.model_in_place.proofs.EffectLemmas.{HasOuts, effect_outs}
use Rattle.model_in_place.proofs.CallMeeting.{on_lists, at_places, Meets, only_argument, plain_outputs}
use Rattle.model_in_place.proofs.FormMeeting.{meets_evaluated}
use Rattle.model_machine.specs.Frames.{Begun, Export, Guarding, Allowing, Last, Frame, Give, Turned}
use Rattle.model_machine.specs.Turns.{next, done, call_by_definition, call_of_abstract}
use Rattle.model_window.specs.Stands.{Origins}
use Rattle.model_window.specs.Following.{worlds_of}
use Rattle.model_fitting.specs.Steps.{IsReady, Surrounds, outs_at, IsCall, AreHanded, IsExported, Guarded, Allowed, Ends, FramesFit, Inside, TurnFits, WasAccepted, AreOrigins}

-- ---- exec functions

module _ (w : World) (scope : Scope) where
  exec_arguments : (stobj foundation : ℕ) (ins : List Out) (values : List (Shown ℕ)) → layout_of w stobj ≡ layout_of w foundation → AreOnly foundation ins → AreArguments w scope (map (abstracted stobj) ins) values → AreArguments w scope ins values
  exec_arguments stobj foundation [] values l o a = a
  exec_arguments stobj foundation (k ∷ ks) [] l o a = absurd a
  exec_arguments stobj foundation (Ordinary ∷ ks) (v ∷ vs) l o a = (a.0, exec_arguments stobj foundation ks vs l o a.1)
  exec_arguments stobj foundation (worlds.Stobj x ∷ ks) (Plain p ∷ vs) l o a = absurd a.0
  exec_arguments stobj foundation (worlds.Stobj x ∷ ks) (StobjNamed y ∷ vs) l o a =
      ((a.0.0, ap (layout_of w) o.0 ∙ (sym l ∙ a.0.1)), exec_arguments stobj foundation ks vs l o.1 a.1)

first_same : {x y : ℕ} {xs : List ℕ} → x ∷ xs ≡ y ∷ [] → x ≡ y
first_same g = cc

rest_same : {x y : ℕ} {xs : List ℕ} → x ∷ xs ≡ y ∷ [] → xs ≡ []
rest_same g = cc

only_objects : (foundation : ℕ) (ins : List Out) → classes.stobjs ins ≡ foundation ∷ [] → AreOnly foundation ins
only_objects foundation [] e = tt
only_objects foundation (Ordinary ∷ ks) e = only_objects foundation ks e
only_objects foundation (worlds.Stobj x ∷ ks) e = (first_same e, no_objects ks (rest_same e))
  where
    no_objects : (ks : List Out) → classes.stobjs ks ≡ [] → AreOnly foundation ks
    no_objects [] e = tt
    no_objects (Ordinary ∷ ks) e = no_objects ks e
    no_objects (worlds.Stobj x ∷ ks) e = cc

pub abstracted_objects : (stobj : ℕ) (ins : List Out) (foundation : ℕ) → classes.stobjs ins ≡ foundation ∷ [] → classes.stobjs (map (abstracted stobj) ins) ≡ stobj ∷ []
abstracted_objects stobj [] foundation e = cc
abstracted_objects stobj (Ordinary ∷ ks) foundation e = abstracted_objects stobj ks foundation e
abstracted_objects stobj (worlds.Stobj x ∷ ks) foundation e = ap (λ (xs : List ℕ). stobj ∷ xs) (none_more ks (rest_same e))
  where
    none_more : (ks : List Out) → classes.stobjs ks ≡ [] → classes.stobjs (map (abstracted stobj) ks) ≡ []
    none_more [] e = refl
    none_more (Ordinary ∷ ks) e = none_more ks e
    none_more (worlds.Stobj x ∷ ks) e = cc

renamed_alike : (stobj foundation y : ℕ) (outs : List Out) → AreOnly foundation outs → map (renamed_out ((foundation, y) ∷ [])) outs ≡ map (renamed_out ((stobj, y) ∷ [])) (map (abstracted stobj) outs)
renamed_alike stobj foundation y [] o = refl
renamed_alike stobj foundation y (Ordinary ∷ ks) o = ap (λ (ks : List Out). Ordinary ∷ ks) (renamed_alike stobj foundation y ks o)
renamed_alike stobj foundation y (worlds.Stobj x ∷ ks) o = rw (o.0, same_number foundation, same_number stobj, renamed_alike stobj foundation y ks o.1) refl

-- ---- definitions

-- what an outcome gives
abbrev GivesOuts : {O : Type 0} → Scope → List Out → OutcomeOf ℕ O → Type 0
GivesOuts scope given (Gives values state) = AreOutputs scope given values
GivesOuts scope given (Stops stop origin state) = Unit {0}
GivesOuts scope given Unknown = Unit {0}

module _ {O B : Type 0} (keeping : Keeping ℕ O B) (w : World) (threaded : IsThreaded w) (packages : List Package) (limit : ℕ) (origins : Origins) (checked : AreOrigins w origins) where
  abbrev pub rules : RulesOf keeping
  rules = checked_keeping keeping w packages limit

  abbrev ev : Evaluator ℕ
  ev = evaluated (on_lists w threaded packages limit) 0

  abbrev el : EvaluatorOf ℕ (Store ℕ)
  el = evaluated (at_places w threaded packages limit) 0

  h : Meets w threaded packages limit ev el
  h = meets_evaluated w threaded packages limit 0

  -- the call of an export as that of its exec function
  pub exec_call : (scope : Scope) (given : List Out) (f : FunctionOfAbstract) (values : List (Shown ℕ)) → IsExported w scope given f values → IsCall w scope given f.exec values
  exec_call scope given f values i =
      let x : IsExport w f = i.export in
      let b : AreArguments w scope x.signature.ins values =
      exec_arguments w scope f.stobj x.foundation x.signature.ins values x.alike (only_objects x.foundation x.signature.ins x.only) (subst (λ (ins : List Out). AreArguments w scope ins values) x.ins i.arguments) in
      let only = only_argument w threaded packages limit ev el h scope x.foundation x.signature.ins values b x.only in
      record {
        signature = x.signature;
        runs = x.runs;
        arguments = b;
        once = i.once;
        outs = alike x only.0 only.2 ∙ i.outs;
      }
    where
      alike : (x : IsExport w f) (y : ℕ) → names_in values ≡ y ∷ [] → outs_at x.signature.ins values x.signature.outs ≡ outs_at f.signature.ins values f.signature.outs
      alike x y n = rw (x.ins, x.outs, n, x.only, abstracted_objects f.stobj x.signature.ins x.foundation x.only) (renamed_alike f.stobj x.foundation y x.signature.outs x.only_outs)

  module _ (outer : Scope) (given : List Out) (cs : List World) (frames : List (Frame ℕ B)) (around : FramesFit w cs frames outer given) (room : ℕ) (variables : Variables ℕ) where
    pub last_gives : (c d : World) (export : Option (Export ℕ B)) (values : List (Shown ℕ)) (state : StateOf O) → AreOutputs outer given values → TurnFits w (worlds_of c cs d) (next rules room variables frames (Last export) (Give values) state)
    last_gives c d export values state a = record { scope = outer; outs = given; given = a; around = Inside c cs variables outer given (Last export) frames outer given (Ends export outer (λ x i. i)) around }

    done_fits : (c d : World) (export : Option (Export ℕ B)) (outcome : OutcomeOf ℕ O) → GivesOuts outer given outcome → TurnFits w (worlds_of c cs d) (done rules export room variables frames outcome)
    done_fits c d export (Gives values state) g = last_gives c d export values state g
    done_fits c d export (Stops stop origin state) g = tt
    done_fits c d export Unknown g = tt

    primitive_gives : (f : ℕ) (values : List (Shown ℕ)) (state : StateOf O) (a : Applied) → GivesOuts outer one_ordinary (primitive_ended f values state a)
    primitive_gives f values state (prims.Gives o symbols) = (tt, tt)
    primitive_gives f values state (prims.Stops prims.Guard) = tt
    primitive_gives f values state (prims.Stops prims.Range) = tt
    primitive_gives f values state (prims.Stops prims.Large) = tt
    primitive_gives f values state (prims.Stops prims.Symbols) = tt

    effect_gives : (g : GeneratedFunction) (values : List (Shown ℕ)) (state : StateOf O) → IsMade w g → AreArguments w outer g.signature.ins values → (e : Effect ℕ) → HasOuts g.stobj g.signature.outs e
        → GivesOuts outer (outs_at g.signature.ins values g.signature.outs) (effected keeping g.name values (first_stobj values) state e)
    effect_gives g values state made a Refuses o = tt
    effect_gives g values state made a (Reads os) o = plain_outputs w threaded packages limit ev el h outer g.signature.ins values g.signature.outs os o
    effect_gives g values state made a (Writes l) o =
        let only = only_argument w threaded packages limit ev el h outer g.stobj g.signature.ins values a (made.only o) in
        rw (only.1, renamed_only only.0 (made.only o) only.2) ((refl, only.3), tt)
      where
        renamed_only : (y : ℕ) → classes.stobjs g.signature.ins ≡ g.stobj ∷ [] → names_in values ≡ y ∷ [] → outs_at g.signature.ins values g.signature.outs ≡ worlds.Stobj y ∷ []
        renamed_only y i n = rw (i, n, o, same_number g.stobj) refl

    -- a guard or a body begins over formals
    pub handed_surrounds : (c : World) (formals : List ℕ) (ins : List Out) (values : List (Shown ℕ)) → Suits c w → AreHanded w outer formals ins values → Surrounds w c (formal_entries formals ins) (inner_variables formals values)
    handed_surrounds c formals ins values suits i =
        record { suits = suits; are = record { each = formal_variables w outer formals ins values i.formals_are i.distinct i.arguments } }

    ready_form : (c : World) (formals : List ℕ) (ins : List Out) (form : Core) (outs : List Out) → WasAccepted w c formals ins form outs → IsReady c (formal_entries formals ins) outs form
    ready_form c formals ins form outs i = record { formal = None; accepted = accepted_first c Executable (formal_entries formals ins) form outs i.accepted; formed = i.formed }

    -- a call, by the definition of its function
    module _ (name : ℕ) (values : List (Shown ℕ)) (export : Option (Export ℕ B)) (abstract : FunctionOfAbstract → StateOf O → Turned ℕ O B) (state : StateOf O) where
      pub definition_fits : (sig : Signature) (d : Definition) → definition w name ≡ Some d → signature_in d ≡ Some sig → is_internal w d ≡ false → is_executable d ≡ true
          → AreArguments w outer sig.ins values → repeats (names_in values) ≡ false → outs_at sig.ins values sig.outs ≡ given
          → ((f : FunctionOfAbstract) → d ≡ OfAbstract f → TurnFits w (worlds_of (origins.body name) cs (origins.guard name)) (abstract f state))
          → TurnFits w (worlds_of (origins.body name) cs (origins.guard name)) (call_by_definition rules export abstract room variables frames (Some d) name values state)
      definition_fits sig (Primitive f row) there signed kept runs a r outs k =
          done_fits (origins.body name) (origins.guard name) export (rules.primitive f row.prim values state)
          (subst (λ (os : List Out). GivesOuts outer os (rules.primitive f row.prim values state)) (ap (λ (z : Signature). outs_at z.ins values z.outs) (some_same signed) ∙ outs)
          (primitive_gives f values state (applied (record { packages = packages; symbols = state.symbols }) row.prim (ordinary values))))
      definition_fits sig (Defined f) there signed kept runs a r outs k =
          let admitted : IsAdmitted w f = threaded.functions name f there runs in
          let i : AreHanded w outer f.formals f.signature.ins values = record { formals_are = admitted.formals; distinct = admitted.distinct; arguments = subst (λ (z : Signature). AreArguments w outer z.ins values) (sym (some_same signed)) a } in
          let guard : WasAccepted w (origins.guard name) f.formals f.signature.ins f.guard one_ordinary = checked.guard name f there runs in
          let body : WasAccepted w (origins.body name) f.formals f.signature.ins f.body f.signature.outs = checked.body name f there runs in
          record {
            scope = formal_entries f.formals f.signature.ins;
            outs = one_ordinary;
            surrounds = handed_surrounds (origins.guard name) f.formals f.signature.ins values guard.suits i;
            ready = ready_form (origins.guard name) f.formals f.signature.ins f.guard one_ordinary guard;
            around =
                Inside (origins.body name) cs variables outer given (Guarding export f.name f.formals values f.body (keeping.behind state.stobjs)) frames (formal_entries f.formals f.signature.ins) one_ordinary
                (Guarded export f.name f.formals values f.body (keeping.behind state.stobjs) f.signature.ins f.signature.outs body.suits i (ready_form (origins.body name) f.formals f.signature.ins f.body f.signature.outs body) (ap (λ (z : Signature). outs_at z.ins values z.outs) (some_same signed) ∙ outs)) around;
          }
      definition_fits sig (Macro f formals body) there signed kept runs a r outs k = tt
      definition_fits sig (Constant f value) there signed kept runs a r outs k = tt
      definition_fits sig (Concrete d class) there signed kept runs a r outs k = tt
      definition_fits sig (Generated g) there signed kept runs a r outs k =
          let made : IsMade w g = threaded.made name g there kept in
          let e : Effect ℕ = effect by_number g.role (field_layout (unwrap_or g.field 0) (layout_of w g.stobj)) (unwrap_or g.field 0) (ordinary values) (list_or_none keeping state.stobjs (first_stobj values)) in
          done_fits (origins.body name) (origins.guard name) export (effected keeping g.name values (first_stobj values) state e)
          (subst (λ (os : List Out). GivesOuts outer os (effected keeping g.name values (first_stobj values) state e)) (ap (λ (z : Signature). outs_at z.ins values z.outs) (some_same signed) ∙ outs)
          (effect_gives g values state made (subst (λ (z : Signature). AreArguments w outer z.ins values) (sym (some_same signed)) a) e
          (subst (λ (os : List Out). HasOuts g.stobj os e) (sym made.outs)
          (effect_outs by_number g.stobj g.role (field_layout (unwrap_or g.field 0) (layout_of w g.stobj)) (unwrap_or g.field 0) (ordinary values) (list_or_none keeping state.stobjs (first_stobj values))))))
      definition_fits sig (Abstract d) there signed kept runs a r outs k = tt
      definition_fits sig (OfAbstract f) there signed kept runs a r outs k = k f refl
      definition_fits sig (Named f formals) there signed kept runs a r outs k = tt
      definition_fits sig (Signed f formals signature executable) there signed kept runs a r outs k = tt

    -- a function of an abstract stobj
    pub abstract_fits : (name : ℕ) (f : FunctionOfAbstract) (role : AbstractRole) (values : List (Shown ℕ)) (state : StateOf O) → definition w name ≡ Some (OfAbstract f) → f.role ≡ role
        → AreArguments w outer f.signature.ins values → repeats (names_in values) ≡ false → outs_at f.signature.ins values f.signature.outs ≡ given
        → TurnFits w (worlds_of (origins.body name) cs (origins.guard name)) (call_of_abstract rules room variables frames f role values state)
    abstract_fits name f abstract_role.Recognizer values state there is a r outs =
        last_gives (origins.body name) (origins.guard name) None (plain (truth_of by_number true ∷ [])) state
        (subst (λ (os : List Out). AreOutputs outer os (plain (truth_of by_number true ∷ []))) (ap (λ (os : List Out). outs_at f.signature.ins values os) (sym (threaded.recognizers name f there is).outs) ∙ outs) (tt, tt))
    abstract_fits name f abstract_role.Creator values state there is a r outs = tt
    abstract_fits name f abstract_role.Export values state there is a r outs =
        let x : IsExport w f = threaded.exports name f there is in
        let guard : WasAccepted w (origins.guard name) f.formals f.signature.ins f.guard one_ordinary = checked.export name f there is in
        let begun : Begun B = record { before = keeping.behind state.stobjs; number = state.outer } in
        record {
          scope = formal_entries f.formals f.signature.ins;
          outs = one_ordinary;
          surrounds = handed_surrounds (origins.guard name) f.formals f.signature.ins values guard.suits (record { formals_are = x.formals; distinct = x.distinct; arguments = a });
          ready = ready_form (origins.guard name) f.formals f.signature.ins f.guard one_ordinary guard;
          around =
              Inside (origins.body name) cs variables outer given (Allowing f values begun (keeping.behind state.stobjs)) frames (formal_entries f.formals f.signature.ins) one_ordinary
              (Allowed f values begun (keeping.behind state.stobjs) (formal_entries f.formals f.signature.ins) (record { export = x; arguments = a; once = r; outs = outs })) around;
        }
