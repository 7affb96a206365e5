-- Functions of abstract stobjs, and every call, in place and on lists.
use Rattle.std.proofs.Common.{◌≡◌, ℕ, List, [], ◌∷◌, map, true, false, Option, Some, refl, sym, ap, ◌∙◌, subst}
use Rattle.model_symbols.specs.Symbols.{Package}
use Rattle.model_prims.specs.Kinds.{by_number, truth_of}
use Rattle.model_terms.specs.declared.role.AbstractRole.{AbstractRole}
use Rattle.model_terms.specs.declared.role.AbstractRole.TheVariants as abstract_role
use Rattle.model_terms.specs.Worlds.{World, Definition, FunctionOfAbstract, definition, OfAbstract, Out, Ordinary, Scope, Signature}
use Rattle.model_terms.specs.Worlds as worlds
use Rattle.model_terms.specs.Classes as classes
use Rattle.model_terms.specs.Classes.{repeats, renamed_out}
use Rattle.model_terms.specs.Outputs.{signature_in}
use Rattle.model_terms.specs.Sites.{one_ordinary}
use Rattle.model_eval.specs.Outcomes.{Shown, Plain, StobjNamed, Stobjs, StateOf, State, OutcomeOf, Outcome, Gives, Stops, Unknown, inside_of, cut_before, cut_at, one_more_call}
use Rattle.model_eval.specs.Keeping.{beginning}
use Rattle.model_eval.specs.ListsKeeping.{list_restored, lists_keeping}
use Rattle.model_eval.specs.PlacesKeeping.{Places, Journal, Store, closed_journal, places_keeping}
use Rattle.model_eval.specs.Variables.{first_stobj, plain, list_of, with_list}
use Rattle.model_eval.specs.Evaluated.{RulesOf, Rules, EvaluatorOf, Evaluator, with_guard, refused, of_abstract, by_definition, exec_called, called}
use Rattle.model_eval.specs.Checked.{inside_after, checked_export}
use Rattle.model_eval_laws.proofs.Lists.{same_number}
use Rattle.model_accepted.specs.Threaded.{layout_of, Runs, abstracted, AreOnly, IsConcrete, IsExport, IsThreaded}
use Rattle.model_accepted.specs.StobjScopes.{IsStobj, AreOutputs}
use Rattle.model_in_place.specs.Standing.{Stands, AreSame}
use Rattle.model_in_place.specs.Writes.{Meet}
use Rattle.model_in_place.specs.Calls.{names_in, AreArguments}
use Rattle.model_accepted.proofs.ScopeLemmas.{some_same}
use Rattle.model_in_place.proofs.WriteLemmas.{stands_as, writes_wider, meets_give, meets_counting, meets_counted, outputs_wider, stands_less}
use Rattle.model_in_place.proofs.ExportLemmas.{only, only_is, only_arguments, closed_opened, back_at_stop, count_at_stop, list_is_back}
use Rattle.model_in_place.proofs.CallMeeting.{results, May, on_lists, at_places, Meets, MeetsCall, refused_call, only_argument, meets_guarded, meets_definition}

module _ (w : World) (threaded : IsThreaded w) (packages : List Package) (limit : ℕ) (ev : Evaluator ℕ) (el : EvaluatorOf ℕ (Store ℕ)) (h : Meets w threaded packages limit ev el) (scope : Scope) where
  abbrev rules : Rules ℕ
  rules = on_lists w threaded packages limit

  abbrev place_rules : RulesOf (places_keeping {S = ℕ})
  place_rules = at_places w threaded packages limit

  -- what is said of a call, where these stobjs are in scope
  abbrev MeetsIn : Scope → Signature → List (Shown ℕ) → State ℕ → StateOf (Store ℕ) → Outcome ℕ → OutcomeOf ℕ (Store ℕ) → Type 0
  MeetsIn around sig values s t p q = MeetsCall w threaded packages limit ev el h around sig values s t p q

  -- ---- exec functions

  not_abstract : (d : Definition) (f : FunctionOfAbstract) → IsConcrete d → d ≡ OfAbstract f → ⊥
  not_abstract d f i e = subst IsConcrete e i

  meets_exec : (around : Scope) (name : ℕ) (sig : Signature) (values : List (Shown ℕ)) (there : Runs w name sig) → IsConcrete there.there → AreArguments w around sig.ins values → repeats (names_in values) ≡ false
      → (s : State ℕ) (t : StateOf (Store ℕ)) → Stands w around s.stobjs t.stobjs → AreSame s t
      → MeetsIn around sig values s t (exec_called rules ev values name s) (exec_called place_rules el values name t)
  unfolding exec_called
  meets_exec around name sig values there i a r s t stands e =
      subst (λ (d : Option Definition). MeetsIn around sig values s t
      (by_definition rules ev (λ f after. refused rules name values after) d name values s) (by_definition place_rules el (λ f after. refused place_rules name values after) d name values t))
      (sym there.stands)
      (meets_definition w threaded packages limit ev el h around (λ f after. refused rules name values after) (λ f after. refused place_rules name values after) name sig values there.there there.stands there.signed there.callable there.executable a r s t stands e
      (λ f g. absurd (not_abstract there.there f i g)))

  exec_arguments : (stobj foundation : ℕ) (ins : List Out) (values : List (Shown ℕ)) → layout_of w stobj ≡ layout_of w foundation → AreOnly foundation ins → AreArguments w scope (map (abstracted stobj) ins) values → AreArguments w scope ins values
  exec_arguments stobj foundation [] values l o a = a
  exec_arguments stobj foundation (k ∷ ks) [] l o a = absurd a
  exec_arguments stobj foundation (Ordinary ∷ ks) (v ∷ vs) l o a = (a.0, exec_arguments stobj foundation ks vs l o a.1)
  exec_arguments stobj foundation (worlds.Stobj x ∷ ks) (Plain p ∷ vs) l o a = absurd a.0
  exec_arguments stobj foundation (worlds.Stobj x ∷ ks) (StobjNamed y ∷ vs) l o a =
      ((a.0.0, ap (layout_of w) o.0 ∙ (sym l ∙ a.0.1)), exec_arguments stobj foundation ks vs l o.1 a.1)

  only_objects : (foundation : ℕ) (ins : List Out) → classes.stobjs ins ≡ foundation ∷ [] → AreOnly foundation ins
  only_objects foundation [] e = tt
  only_objects foundation (Ordinary ∷ ks) e = only_objects foundation ks e
  only_objects foundation (worlds.Stobj x ∷ ks) e = (first_same e, no_objects ks (rest_same e))
    where
      rest_same : x ∷ classes.stobjs ks ≡ foundation ∷ [] → classes.stobjs ks ≡ []
      rest_same g = cc

      first_same : x ∷ classes.stobjs ks ≡ foundation ∷ [] → x ≡ foundation
      first_same g = cc

      no_objects : (ks : List Out) → classes.stobjs ks ≡ [] → AreOnly foundation ks
      no_objects [] e = tt
      no_objects (Ordinary ∷ ks) e = no_objects ks e
      no_objects (worlds.Stobj x ∷ ks) e = cc

  abstracted_objects : (stobj : ℕ) (ins : List Out) (foundation : ℕ) → classes.stobjs ins ≡ foundation ∷ [] → classes.stobjs (map (abstracted stobj) ins) ≡ stobj ∷ []
  abstracted_objects stobj [] foundation e = cc
  abstracted_objects stobj (Ordinary ∷ ks) foundation e = abstracted_objects stobj ks foundation e
  abstracted_objects stobj (worlds.Stobj x ∷ ks) foundation e = ap (λ (xs : List ℕ). stobj ∷ xs) (none_more ks (rest_same e))
    where
      rest_same : x ∷ classes.stobjs ks ≡ foundation ∷ [] → classes.stobjs ks ≡ []
      rest_same g = cc

      none_more : (ks : List Out) → classes.stobjs ks ≡ [] → classes.stobjs (map (abstracted stobj) ks) ≡ []
      none_more [] e = refl
      none_more (Ordinary ∷ ks) e = none_more ks e
      none_more (worlds.Stobj x ∷ ks) e = cc

  renamed_alike : (stobj foundation y : ℕ) (outs : List Out) → AreOnly foundation outs → map (renamed_out ((foundation, y) ∷ [])) outs ≡ map (renamed_out ((stobj, y) ∷ [])) (map (abstracted stobj) outs)
  renamed_alike stobj foundation y [] o = refl
  renamed_alike stobj foundation y (Ordinary ∷ ks) o = ap (λ (ks : List Out). Ordinary ∷ ks) (renamed_alike stobj foundation y ks o)
  renamed_alike stobj foundation y (worlds.Stobj x ∷ ks) o = rw (o.0, same_number foundation, same_number stobj, renamed_alike stobj foundation y ks o.1) refl

  -- an export and its exec function have the same results
  results_alike : (f : FunctionOfAbstract) (x : IsExport w f) (values : List (Shown ℕ)) → AreArguments w scope x.signature.ins values
      → results x.signature.ins values x.signature.outs ≡ results f.signature.ins values f.signature.outs
  results_alike f x values a =
      let only : (y : ℕ) × (first_stobj values ≡ Some y) × (names_in values ≡ y ∷ []) × IsStobj scope y × (layout_of w x.foundation ≡ layout_of w y)
      = only_argument w threaded packages limit ev el h scope x.foundation x.signature.ins values a x.only in
      rw (x.ins, x.outs, only.2, x.only, abstracted_objects f.stobj x.signature.ins x.foundation x.only) (renamed_alike f.stobj x.foundation only.0 x.signature.outs x.only_outs)

  -- ---- exports

  -- what is in scope while an exec function runs is in scope around it
  only_inside : (y : ℕ) → IsStobj scope y → (x : ℕ) → IsStobj (only y) x → IsStobj scope x
  only_inside y here x i = subst (IsStobj scope) (sym (only_is y x i)) here

  -- after the exec function, which had the stobj alone: values are committed, and at a stop all is as it was
  meets_inside : (y : ℕ) → IsStobj scope y → (outs : List Out) (values : List (Shown ℕ)) → first_stobj values ≡ Some y → (name : ℕ) (s : State ℕ) (t : StateOf (Store ℕ)) (before : Stobjs ℕ) (places : Places) → s.stobjs ≡ before → AreSame s t
      → (p : Outcome ℕ) (q : OutcomeOf ℕ (Store ℕ))
      → Meet w (AreOutputs (only y) outs) (May (only y) outs) (IsStobj (only y)) (beginning lists_keeping (one_more_call s)) (beginning places_keeping (one_more_call t)) p q
      → Meet w (AreOutputs scope outs) (May scope outs) (IsStobj scope) s t (inside_after lists_keeping values before name s.outer p) (inside_after places_keeping values places name t.outer q)
  meets_inside y here outs values first name s t before places k e (Gives vs u) (Gives ws v) m = (
    m.0,
    outputs_wider (only y) scope outs vs (only_inside y here) m.1,
    record {
      writes = m.2.writes;
      allowed = writes_wider w (May (only y) outs) (May scope outs) m.2.writes (λ x i. (i.0, only_inside y here x i.1)) m.2.allowed;
      stobjs = m.2.stobjs;
      roots = m.2.roots;
      count = m.2.count;
      places = m.2.places;
      journal = ap (λ (j : Journal ℕ). closed_journal j) m.2.journal ∙ closed_opened t.stobjs.roots t.stobjs.journal;
      same = record { symbols = m.2.same.symbols; calls = m.2.same.calls; outer = e.outer };
    },
  )
  meets_inside y here outs values first name s t before places k e (Gives vs u) (Stops stop origin v) m = absurd m
  meets_inside y here outs values first name s t before places k e (Gives vs u) Unknown m = absurd m
  meets_inside y here outs values first name s t before places k e (Stops stop origin u) (Gives ws v) m = absurd m
  meets_inside y here outs values first name s t before places k e (Stops stop origin u) (Stops other from v) m = (
    m.0,
    ap (inside_of name) m.1,
    record {
      writes = [];
      allowed = tt;
      stobjs =
          ap (λ (x : Option ℕ). list_restored x before u.stobjs) first
          ∙ (ap (λ (o : Stobjs ℕ). with_list y (list_of o y) u.stobjs) (sym k)
          ∙ (ap (with_list y (list_of s.stobjs y)) m.2.stobjs ∙ list_is_back w y m.2.writes s.stobjs (writes_wider w (IsStobj (only y)) (λ x. x ≡ y) m.2.writes (only_is y) m.2.allowed)));
      roots = λ c. back_at_stop t.stobjs.journal v.stobjs.journal t.stobjs.roots v.stobjs.roots m.2.journal c;
      count = count_at_stop t.stobjs.journal v.stobjs.journal t.stobjs.roots v.stobjs.roots m.2.journal m.2.count;
      places = m.2.places;
      journal = ap (λ (j : Journal ℕ). closed_journal j) m.2.journal ∙ closed_opened t.stobjs.roots t.stobjs.journal;
      same = record { symbols = m.2.same.symbols; calls = m.2.same.calls; outer = e.outer };
    },
  )
  meets_inside y here outs values first name s t before places k e (Stops stop origin u) Unknown m = absurd m
  meets_inside y here outs values first name s t before places k e Unknown q m = absurd m

  meets_export : (f : FunctionOfAbstract) (x : IsExport w f) (values : List (Shown ℕ)) → AreArguments w scope f.signature.ins values → repeats (names_in values) ≡ false
      → (s : State ℕ) (t : StateOf (Store ℕ)) (before : Stobjs ℕ) (places : Places) → s.stobjs ≡ before → Stands w scope s.stobjs t.stobjs → AreSame s t
      → MeetsIn scope f.signature values s t (checked_export lists_keeping limit f values before (exec_called rules ev values f.exec) s) (checked_export places_keeping limit f values places (exec_called place_rules el values f.exec) t)
  meets_export f x values a r s t before places k stands e =
      let b : AreArguments w scope x.signature.ins values =
      exec_arguments f.stobj x.foundation x.signature.ins values x.alike (only_objects x.foundation x.signature.ins x.only) (subst (λ (ins : List Out). AreArguments w scope ins values) x.ins a) in
      let one : (y : ℕ) × (first_stobj values ≡ Some y) × (names_in values ≡ y ∷ []) × IsStobj scope y × (layout_of w x.foundation ≡ layout_of w y)
      = only_argument w threaded packages limit ev el h scope x.foundation x.signature.ins values b x.only in
      let y : ℕ = one.0 in
      let outs : List Out = results f.signature.ins values f.signature.outs in
      meets_counting w (AreOutputs scope outs) (May scope outs) (IsStobj scope) limit s t
      (λ after. inside_after lists_keeping values before f.name s.outer (exec_called rules ev values f.exec (beginning lists_keeping after)))
      (λ after. inside_after places_keeping values places f.name t.outer (exec_called place_rules el values f.exec (beginning places_keeping after))) e
      (λ i.
      meets_inside y one.3 outs values one.1 f.name s t before places k e
      (exec_called rules ev values f.exec (beginning lists_keeping (one_more_call s))) (exec_called place_rules el values f.exec (beginning places_keeping (one_more_call t)))
      (subst (λ (zs : List Out). Meet w (AreOutputs (only y) zs) (May (only y) zs) (IsStobj (only y)) (beginning lists_keeping (one_more_call s)) (beginning places_keeping (one_more_call t))
      (exec_called rules ev values f.exec (beginning lists_keeping (one_more_call s))) (exec_called place_rules el values f.exec (beginning places_keeping (one_more_call t))))
      (results_alike f x values b)
      (meets_exec (only y) f.exec x.signature values x.runs x.concrete (only_arguments w scope y x.signature.ins values one.2 b) r (beginning lists_keeping (one_more_call s)) (beginning places_keeping (one_more_call t))
      (stands_as w (only y) s.stobjs t.stobjs (beginning places_keeping (one_more_call t)).stobjs refl refl (stands_less w (only y) scope s.stobjs t.stobjs (only_inside y one.3) stands))
      (record { symbols = i.symbols; calls = i.calls; outer = i.outer }))))

  meets_cut : (outs : List Out) (n m : ℕ) (s : State ℕ) (t : StateOf (Store ℕ)) (p : Outcome ℕ) (q : OutcomeOf ℕ (Store ℕ)) → m ≡ n
      → Meet w (AreOutputs scope outs) (May scope outs) (IsStobj scope) s t p q → Meet w (AreOutputs scope outs) (May scope outs) (IsStobj scope) s t (cut_at n p) (cut_at m q)
  meets_cut outs n m s t (Gives vs u) (Gives ws v) e h = h
  meets_cut outs n m s t (Gives vs u) (Stops stop origin v) e h = absurd h
  meets_cut outs n m s t (Gives vs u) Unknown e h = absurd h
  meets_cut outs n m s t (Stops stop origin u) (Gives ws v) e h = absurd h
  meets_cut outs n m s t (Stops stop origin u) (Stops other from v) e h = (h.0, ap (cut_before m) h.1 ∙ ap (λ (i : ℕ). cut_before i origin) e, h.2)
  meets_cut outs n m s t (Stops stop origin u) Unknown e h = absurd h
  meets_cut outs n m s t Unknown q e h = absurd h

  -- ---- functions of abstract stobjs

  meets_abstract : (name : ℕ) (f : FunctionOfAbstract) (role : AbstractRole) (values : List (Shown ℕ)) → definition w name ≡ Some (OfAbstract f) → f.role ≡ role → AreArguments w scope f.signature.ins values → repeats (names_in values) ≡ false
      → (s : State ℕ) (t : StateOf (Store ℕ)) → Stands w scope s.stobjs t.stobjs → AreSame s t
      → MeetsIn scope f.signature values s t (of_abstract rules ev (exec_called rules ev values) f role values s) (of_abstract place_rules el (exec_called place_rules el values) f role values t)
  meets_abstract name f abstract_role.Recognizer values there is a r s t stands e =
      subst (λ (outs : List Out). Meet w (AreOutputs scope (results f.signature.ins values outs)) (May scope (results f.signature.ins values outs)) (IsStobj scope) s t (Gives (plain (truth_of by_number true ∷ [])) s) (Gives (plain (truth_of by_number true ∷ [])) t))
      (sym (threaded.recognizers name f there is).outs)
      (meets_give w (AreOutputs scope one_ordinary) (May scope one_ordinary) (IsStobj scope) s t (plain (truth_of by_number true ∷ [])) (tt, tt) e)
  meets_abstract name f abstract_role.Creator values there is a r s t stands e = refused_call w threaded packages limit ev el h scope f.signature values f.name s t e
  meets_abstract name f abstract_role.Export values there is a r s t stands e =
      let x : IsExport w f = threaded.exports name f there is in
      let outs : List Out = results f.signature.ins values f.signature.outs in
      let on : (State ℕ → Outcome ℕ) = checked_export lists_keeping limit f values s.stobjs (exec_called rules ev values f.exec) in
      let at : (StateOf (Store ℕ) → OutcomeOf ℕ (Store ℕ)) = checked_export places_keeping limit f values t.stobjs.scope (exec_called place_rules el values f.exec) in
      meets_cut outs s.outer t.outer s t (with_guard rules ev f.name f.formals f.guard values on s) (with_guard place_rules el f.name f.formals f.guard values at t) e.outer
      (meets_guarded w threaded packages limit ev el h scope f.name f.formals f.signature.ins f.guard values (AreOutputs scope outs) outs on at
      x.formals x.distinct a r x.guard s t stands e (λ u v same i j. meets_export f x values a r u v s.stobjs t.stobjs.scope same i j))

  -- ---- calls

  abstract_call : (name : ℕ) (sig : Signature) (values : List (Shown ℕ)) (f : FunctionOfAbstract) (there : Runs w name sig) → there.there ≡ OfAbstract f → AreArguments w scope sig.ins values → repeats (names_in values) ≡ false
      → (s : State ℕ) (t : StateOf (Store ℕ)) → Stands w scope s.stobjs t.stobjs → AreSame s t
      → MeetsIn scope sig values s t (of_abstract rules ev (exec_called rules ev values) f f.role values s) (of_abstract place_rules el (exec_called place_rules el values) f f.role values t)
  abstract_call name sig values f there g a r s t stands e =
      let same : f.signature ≡ sig = some_same (subst (λ (d : Definition). signature_in d ≡ Some sig) g there.signed) in
      subst (λ (z : Signature). MeetsIn scope z values s t (of_abstract rules ev (exec_called rules ev values) f f.role values s) (of_abstract place_rules el (exec_called place_rules el values) f f.role values t)) same
      (meets_abstract name f f.role values (there.stands ∙ ap (λ (d : Definition). Some d) g) refl (subst (λ (z : Signature). AreArguments w scope z.ins values) (sym same) a) r s t stands e)

  pub meets_called : (name : ℕ) (sig : Signature) (values : List (Shown ℕ)) → Runs w name sig → AreArguments w scope sig.ins values → repeats (names_in values) ≡ false
      → (s : State ℕ) (t : StateOf (Store ℕ)) → Stands w scope s.stobjs t.stobjs → AreSame s t
      → MeetsIn scope sig values s t (called rules ev name values s) (called place_rules el name values t)
  unfolding called
  meets_called name sig values there a r s t stands e =
      let go : (FunctionOfAbstract → State ℕ → Outcome ℕ) = λ f after. of_abstract rules ev (exec_called rules ev values) f f.role values after in
      let to : (FunctionOfAbstract → StateOf (Store ℕ) → OutcomeOf ℕ (Store ℕ)) = λ f after. of_abstract place_rules el (exec_called place_rules el values) f f.role values after in
      meets_counting w (AreOutputs scope (results sig.ins values sig.outs)) (May scope (results sig.ins values sig.outs)) (IsStobj scope) limit s t
      (by_definition rules ev go (definition w name) name values) (by_definition place_rules el to (definition w name) name values) e
      (λ i. meets_counted w (AreOutputs scope (results sig.ins values sig.outs)) (May scope (results sig.ins values sig.outs)) (IsStobj scope) s t
      (by_definition rules ev go (definition w name) name values (one_more_call s)) (by_definition place_rules el to (definition w name) name values (one_more_call t))
      (subst (λ (d : Option Definition). MeetsIn scope sig values (one_more_call s) (one_more_call t) (by_definition rules ev go d name values (one_more_call s)) (by_definition place_rules el to d name values (one_more_call t)))
      (sym there.stands)
      (meets_definition w threaded packages limit ev el h scope go to name sig values there.there there.stands there.signed there.callable there.executable a r (one_more_call s) (one_more_call t) stands i
      (λ f g. abstract_call name sig values f there g a r (one_more_call s) (one_more_call t) stands i))))
