-- From variants and parts to forms and lists of parts.
use Rattle.std.specs.Prelude.{◌≡◌, ℕ, ◌+◌, ◌<◌, ◌≤◌, List, [], ◌∷◌, length, drop, Bool, true, false, ◌||◌, not, Option, Some, None, option_map, refl}
use Rattle.std.specs.Option.{option_or}
use Rattle.std.proofs.Common.{sym, ap, ◌∙◌, subst, arith, get_or}
use Rattle.std.proofs.Math.ListN.{drop_of_length-le}
use Rattle.acl_base.specs.declared.SymId.{SymId}
use Rattle.acl_heap.specs.Objects.{Objects}
use Rattle.model_terms.specs.declared.rule.Mode.{Mode}
use Rattle.model_terms.specs.Cores as cores
use Rattle.model_terms.specs.Worlds as worlds
use Rattle.model_terms.specs.Classes.{is_stobj_name}
use Rattle.model_terms.specs.Outputs.{outputs}
use Rattle.model_terms.specs.Scopes.{name_kind, name_kinds}
use Rattle.model_terms.specs.Sites.{first_kind, other_kinds, formal_stobj, actual_kind}
use Rattle.model_terms.specs.Rules.{gives_another, any_gives_another, s13_fails, s14_fails}
use Rattle.model_terms.specs.Nested.{stobj_let_holds, with_local_holds}
use Rattle.model_terms.specs.Faults as faults
use Rattle.model_terms_laws.specs.Parts.{fault_down, parts_fault, actuals_fault}
use Rattle.model_terms_laws.proofs.PartLemmas.{goes_down}
use Rattle.acl_terms.specs.declared.form.Core.{Core}
use Rattle.acl_terms.specs.declared.form.Core.TheViews as views
use Rattle.acl_terms.specs.FormLaws.{seen_stobj_let, seen_with_local}
use Rattle.acl_terms.specs.declared.signature.Out.{Out}
use Rattle.acl_terms.specs.declared.signature.Entry.{Entry}
use Rattle.acl_terms.specs.Forms.{numbers, bound_names, seen_core, seen_cores, seen_bound}
use Rattle.acl_terms.specs.Signatures.{seen_out, seen_outs, seen_scope}
use Rattle.acl_outputs.proofs.ListLemmas.{left_at}
use Rattle.acl_thread.specs.Own.{is_bound_wrongly}
use Rattle.acl_thread.specs.Sizes.{Fits}
use Rattle.acl_thread.specs.Walks.{IsWalked, PartsSoFar, ActualsSoFar, BoundSoFar}
use Rattle.acl_thread.proofs.PartLemmas.{others_on}

-- what holds of a variant holds of the form that it is
pub seen_walked : (w : worlds.World) (mode : Mode) (scope : worlds.Scope) (h : Objects) (formal : Option ℕ) (expected : List worlds.Out) (os : Option (List worlds.Out)) (found : Option faults.Fault)
    (core view : Core) (f : cores.Core) → core ≡ view → seen_core h view ≡ f → IsWalked w mode scope f formal expected os found → IsWalked w mode scope (seen_core h core) formal expected os found
seen_walked w mode scope h formal expected os found core view f e s i =
    subst (λ (g : cores.Core). IsWalked w mode scope g formal expected os found) (sym s ∙ ap (seen_core h) (sym e)) i

-- of a part, in a scope that is another by name
pub part_walked : (w : worlds.World) (mode : Mode) (now scope : worlds.Scope) (h : Objects) (formal : Option ℕ) (expected : List worlds.Out) (os : Option (List worlds.Out)) (found : Option faults.Fault)
    (x a : Core) → now ≡ scope → x ≡ a → IsWalked w mode now (seen_core h x) formal expected os found → IsWalked w mode scope (seen_core h a) formal expected os found
part_walked w mode now scope h formal expected os found x a s e i =
    subst (λ (t : worlds.Scope). IsWalked w mode t (seen_core h a) formal expected os found) s
    (subst (λ (y : Core). IsWalked w mode now (seen_core h y) formal expected os found) e i)

-- what is expected of it
pub expected_walked : (w : worlds.World) (mode : Mode) (scope : worlds.Scope) (f : cores.Core) (formal : Option ℕ) (given expected : List worlds.Out) (os : Option (List worlds.Out)) (found : Option faults.Fault)
    → given ≡ expected → IsWalked w mode scope f formal given os found → IsWalked w mode scope f formal expected os found
expected_walked w mode scope f formal given expected os found e i = subst (λ (ks : List worlds.Out). IsWalked w mode scope f formal ks os found) e i

-- a part of a variant fits where the form does
pub child_fits : (h : Objects) (core view x a : Core) → core ≡ view → x ≡ a → (Fits h view → Fits h a) → Fits h core → Fits h x
child_fits h core view x a e s g f = subst (Fits h) (sym s) (g (subst (Fits h) e f))

not_thrice : (b : Bool) → not (not (not b)) ≡ not b
not_thrice true = refl
not_thrice false = refl

pub s13_is : (w : worlds.World) (scope : worlds.Scope) (expected : List worlds.Out) (h : Objects) (core : Core) (bs : List (SymId × Core)) (vars : List SymId) (p c : Core) → core ≡ views.StobjLet bs vars p c
    → not (not (s13_fails w scope expected (seen_core h core))) ≡ not (stobj_let_holds w scope expected (bound_names bs) (cores.cores (seen_bound h bs)) (numbers vars))
s13_is w scope expected h core bs vars p c e =
    ap (λ (f : cores.Core). not (not (s13_fails w scope expected f))) (ap (seen_core h) e ∙ seen_stobj_let h bs vars p c)
    ∙ not_thrice (stobj_let_holds w scope expected (bound_names bs) (cores.cores (seen_bound h bs)) (numbers vars))

pub s14_is : (w : worlds.World) (scope : worlds.Scope) (expected : List worlds.Out) (h : Objects) (core : Core) (stobj : SymId) (names : List SymId) (a b : Core) → core ≡ views.WithLocal stobj names a b
    → not (not (s14_fails w scope expected (seen_core h core))) ≡ not (with_local_holds w scope expected stobj.0 (numbers names) (seen_core h a))
s14_is w scope expected h core stobj names a b e =
    ap (λ (f : cores.Core). not (not (s14_fails w scope expected f))) (ap (seen_core h) e ∙ seen_with_local h stobj names a b)
    ∙ not_thrice (with_local_holds w scope expected stobj.0 (numbers names) (seen_core h a))

or_again : (a b c : Option faults.Fault) → option_or a (option_or b c) ≡ option_or (option_or a b) c
or_again None b c = refl
or_again (Some f) b c = refl

or_nothing : (a : Option faults.Fault) → option_or a None ≡ a
or_nothing None = refl
or_nothing (Some f) = refl

-- ---- parts

module _ (w : worlds.World) (mode : Mode) (h : Objects) where
  pub parts_start : (start : List Entry) (ks : List worlds.Out) (fs : cores.Cores) → PartsSoFar w mode start start (parts_fault w mode (seen_scope start) ks 0 fs) None ks 0 fs
  parts_start start ks fs = record { same = refl; finds = refl }

  pub parts_step : (start now next : List Entry) (all found newer below one : Option faults.Fault) (os : Option (List worlds.Out)) (ks : List Out) (parts : List Core) (i : ℕ) (e : Core) (kind : worlds.Out)
      → PartsSoFar w mode start now all found (seen_outs (drop i ks)) i (cores.cores (seen_cores h (drop i parts)))
      → i < length parts → e ≡ get_or parts i e → kind ≡ first_kind (seen_outs (drop i ks))
      → IsWalked w mode (seen_scope now) (seen_core h e) None (kind ∷ []) os one → next ≡ now
      → below ≡ fault_down i one → newer ≡ option_or found below
      → PartsSoFar w mode start next all newer (seen_outs (drop (i + 1) ks)) (i + 1) (cores.cores (seen_cores h (drop (i + 1) parts)))
  parts_step start now next all found newer below one os ks parts i e kind s l at k walked n b r = record {
    same = n ∙ s.same;
    finds =
        let rest = parts_fault w mode (seen_scope start) (seen_outs (drop (i + 1) ks)) (i + 1) (cores.cores (seen_cores h (drop (i + 1) parts))) in
        s.finds
        ∙ (ap (λ (xs : List Core). option_or found (parts_fault w mode (seen_scope start) (seen_outs (drop i ks)) i (cores.cores (seen_cores h xs)))) (left_at parts i e l)
        ∙ (ap (λ (x : Core). option_or found (parts_fault w mode (seen_scope start) (seen_outs (drop i ks)) i (cores.more (seen_core h x) (cores.cores (seen_cores h (drop (i + 1) parts)))))) (sym at)
        ∙ (ap (option_or found) (goes_down.first_part w mode (seen_scope start) (seen_outs (drop i ks)) i (seen_core h e) (cores.cores (seen_cores h (drop (i + 1) parts))))
        ∙ (ap (λ (kinds : List worlds.Out). option_or found (option_or (fault_down i (faults.first_at w mode (seen_scope start) (seen_core h e) None (first_kind (seen_outs (drop i ks)) ∷ []))) (parts_fault w mode (seen_scope start) kinds (i + 1) (cores.cores (seen_cores h (drop (i + 1) parts)))))) (others_on ks i)
        ∙ (ap (λ (k : worlds.Out). option_or found (option_or (fault_down i (faults.first_at w mode (seen_scope start) (seen_core h e) None (k ∷ []))) rest)) (sym k)
        ∙ (ap (λ (t : List Entry). option_or found (option_or (fault_down i (faults.first_at w mode (seen_scope t) (seen_core h e) None (kind ∷ []))) rest)) (sym s.same)
        ∙ (ap (λ (f : Option faults.Fault). option_or found (option_or (fault_down i f) rest)) (sym walked.finds)
        ∙ (ap (λ (f : Option faults.Fault). option_or found (option_or f rest)) (sym b)
        ∙ (or_again found below rest ∙ ap (λ (f : Option faults.Fault). option_or f rest) (sym r))))))))));
  }

  pub parts_done : (start now : List Entry) (all found : Option faults.Fault) (ks : List worlds.Out) (parts : List Core) (i : ℕ)
      → PartsSoFar w mode start now all found ks i (cores.cores (seen_cores h (drop i parts))) → length parts ≤ i → found ≡ all
  parts_done start now all found ks parts i s l = sym
      (s.finds ∙ (ap (λ (xs : List Core). option_or found (parts_fault w mode (seen_scope start) ks i (cores.cores (seen_cores h xs)))) (drop_of_length-le parts l)
      ∙ (ap (option_or found) (goes_down.no_part w mode (seen_scope start) ks i) ∙ or_nothing found)))

  -- ---- actuals

  pub actuals_start : (start : List Entry) (ks : List worlds.Out) (fs : cores.Cores) → ActualsSoFar w mode start start (actuals_fault w mode (seen_scope start) ks 0 fs) None ks 0 fs
  actuals_start start ks fs = record { same = refl; finds = refl }

  pub actuals_step : (start now next : List Entry) (all found newer below one : Option faults.Fault) (os : Option (List worlds.Out)) (ks : List Out) (parts : List Core) (i : ℕ) (e : Core) (kind given : worlds.Out) (formal : Option ℕ)
      → ActualsSoFar w mode start now all found (seen_outs (drop i ks)) i (cores.cores (seen_cores h (drop i parts)))
      → i < length parts → e ≡ get_or parts i e → kind ≡ first_kind (seen_outs (drop i ks))
      → formal ≡ formal_stobj kind → given ≡ actual_kind kind (cores.variable (seen_core h e))
      → IsWalked w mode (seen_scope now) (seen_core h e) formal (given ∷ []) os one → next ≡ now
      → below ≡ fault_down i one → newer ≡ option_or found below
      → ActualsSoFar w mode start next all newer (seen_outs (drop (i + 1) ks)) (i + 1) (cores.cores (seen_cores h (drop (i + 1) parts)))
  actuals_step start now next all found newer below one os ks parts i e kind given formal s l at k fo gi walked n b r = record {
    same = n ∙ s.same;
    finds =
        let rest = actuals_fault w mode (seen_scope start) (seen_outs (drop (i + 1) ks)) (i + 1) (cores.cores (seen_cores h (drop (i + 1) parts))) in
        let v = cores.variable (seen_core h e) in
        s.finds
        ∙ (ap (λ (xs : List Core). option_or found (actuals_fault w mode (seen_scope start) (seen_outs (drop i ks)) i (cores.cores (seen_cores h xs)))) (left_at parts i e l)
        ∙ (ap (λ (x : Core). option_or found (actuals_fault w mode (seen_scope start) (seen_outs (drop i ks)) i (cores.more (seen_core h x) (cores.cores (seen_cores h (drop (i + 1) parts)))))) (sym at)
        ∙ (ap (option_or found) (goes_down.first_actual w mode (seen_scope start) (seen_outs (drop i ks)) i (seen_core h e) (cores.cores (seen_cores h (drop (i + 1) parts))))
        ∙ (ap (λ (kinds : List worlds.Out). option_or found (option_or (fault_down i (faults.first_at w mode (seen_scope start) (seen_core h e) (formal_stobj (first_kind (seen_outs (drop i ks)))) (actual_kind (first_kind (seen_outs (drop i ks))) v ∷ []))) (actuals_fault w mode (seen_scope start) kinds (i + 1) (cores.cores (seen_cores h (drop (i + 1) parts)))))) (others_on ks i)
        ∙ (ap (λ (k : worlds.Out). option_or found (option_or (fault_down i (faults.first_at w mode (seen_scope start) (seen_core h e) (formal_stobj k) (actual_kind k v ∷ []))) rest)) (sym k)
        ∙ (ap (λ (x : Option ℕ). option_or found (option_or (fault_down i (faults.first_at w mode (seen_scope start) (seen_core h e) x (actual_kind kind v ∷ []))) rest)) (sym fo)
        ∙ (ap (λ (k : worlds.Out). option_or found (option_or (fault_down i (faults.first_at w mode (seen_scope start) (seen_core h e) formal (k ∷ []))) rest)) (sym gi)
        ∙ (ap (λ (t : List Entry). option_or found (option_or (fault_down i (faults.first_at w mode (seen_scope t) (seen_core h e) formal (given ∷ []))) rest)) (sym s.same)
        ∙ (ap (λ (f : Option faults.Fault). option_or found (option_or (fault_down i f) rest)) (sym walked.finds)
        ∙ (ap (λ (f : Option faults.Fault). option_or found (option_or f rest)) (sym b)
        ∙ (or_again found below rest ∙ ap (λ (f : Option faults.Fault). option_or f rest) (sym r))))))))))));
  }

  pub actuals_done : (start now : List Entry) (all found : Option faults.Fault) (ks : List worlds.Out) (parts : List Core) (i : ℕ)
      → ActualsSoFar w mode start now all found ks i (cores.cores (seen_cores h (drop i parts))) → length parts ≤ i → found ≡ all
  actuals_done start now all found ks parts i s l = sym
      (s.finds ∙ (ap (λ (xs : List Core). option_or found (actuals_fault w mode (seen_scope start) ks i (cores.cores (seen_cores h xs)))) (drop_of_length-le parts l)
      ∙ (ap (option_or found) (goes_down.no_actual w mode (seen_scope start) ks i) ∙ or_nothing found)))

  -- ---- what is bound to names

  gives_bound : (scope : worlds.Scope) (x : ℕ) (f : cores.Core) → gives_another w scope x f ≡ is_bound_wrongly (name_kind w x) (outputs w [] scope f)
  gives_bound scope x f = go (is_stobj_name w x) refl
    where
      go : (b : Bool) → is_stobj_name w x ≡ b → gives_another w scope x f ≡ is_bound_wrongly (name_kind w x) (outputs w [] scope f)
      go true e = rw e refl
      go false e = rw e refl

  or_more : (a b c : Bool) → (a || (b || c)) ≡ ((a || b) || c)
  or_more true b c = refl
  or_more false b c = refl

  or_last : (a : Bool) → (a || false) ≡ a
  or_last true = refl
  or_last false = refl

  pub bound_start : (start : List Entry) (names : List ℕ) (fs : cores.Cores)
      → BoundSoFar w mode start start (parts_fault w mode (seen_scope start) (name_kinds w names) 0 fs) None (any_gives_another w (seen_scope start) names fs) false names 0 fs
  bound_start start names fs = record { same = refl; finds = refl; tells = refl }

  pub bound_step : (start now next : List Entry) (all found newer below one : Option faults.Fault) (any wrong worse here : Bool) (os : Option (List worlds.Out)) (bs : List (SymId × Core)) (i : ℕ) (e : SymId × Core) (kind : worlds.Out)
      → BoundSoFar w mode start now all found any wrong (bound_names (drop i bs)) i (cores.cores (seen_bound h (drop i bs)))
      → i < length bs → e ≡ get_or bs i e → kind ≡ name_kind w e.0.0
      → IsWalked w mode (seen_scope now) (seen_core h e.1) None (kind ∷ []) os one → next ≡ now
      → here ≡ is_bound_wrongly kind os → worse ≡ (wrong || here)
      → below ≡ fault_down i one → newer ≡ option_or found below
      → BoundSoFar w mode start next all newer any worse (bound_names (drop (i + 1) bs)) (i + 1) (cores.cores (seen_bound h (drop (i + 1) bs)))
  bound_step start now next all found newer below one any wrong worse here os bs i e kind s l at k walked n g v b r = record {
    same = n ∙ s.same;
    finds =
        let rest = parts_fault w mode (seen_scope start) (name_kinds w (bound_names (drop (i + 1) bs))) (i + 1) (cores.cores (seen_bound h (drop (i + 1) bs))) in
        s.finds
        ∙ (ap (λ (xs : List (SymId × Core)). option_or found (parts_fault w mode (seen_scope start) (name_kinds w (bound_names xs)) i (cores.cores (seen_bound h xs)))) (left_at bs i e l)
        ∙ (ap (λ (x : SymId × Core). option_or found (parts_fault w mode (seen_scope start) (name_kinds w (bound_names (x ∷ drop (i + 1) bs))) i (cores.cores (seen_bound h (x ∷ drop (i + 1) bs))))) (sym at)
        ∙ (ap (option_or found) (goes_down.first_part w mode (seen_scope start) (name_kinds w (bound_names (e ∷ drop (i + 1) bs))) i (seen_core h e.1) (cores.cores (seen_bound h (drop (i + 1) bs))))
        ∙ (ap (λ (k : worlds.Out). option_or found (option_or (fault_down i (faults.first_at w mode (seen_scope start) (seen_core h e.1) None (k ∷ []))) rest)) (sym k)
        ∙ (ap (λ (t : List Entry). option_or found (option_or (fault_down i (faults.first_at w mode (seen_scope t) (seen_core h e.1) None (kind ∷ []))) rest)) (sym s.same)
        ∙ (ap (λ (f : Option faults.Fault). option_or found (option_or (fault_down i f) rest)) (sym walked.finds)
        ∙ (ap (λ (f : Option faults.Fault). option_or found (option_or f rest)) (sym b)
        ∙ (or_again found below rest ∙ ap (λ (f : Option faults.Fault). option_or f rest) (sym r)))))))));
    tells =
        let rest = any_gives_another w (seen_scope start) (bound_names (drop (i + 1) bs)) (cores.cores (seen_bound h (drop (i + 1) bs))) in
        s.tells
        ∙ (ap (λ (xs : List (SymId × Core)). wrong || any_gives_another w (seen_scope start) (bound_names xs) (cores.cores (seen_bound h xs))) (left_at bs i e l)
        ∙ (ap (λ (x : SymId × Core). wrong || any_gives_another w (seen_scope start) (bound_names (x ∷ drop (i + 1) bs)) (cores.cores (seen_bound h (x ∷ drop (i + 1) bs)))) (sym at)
        ∙ (ap (λ (t : Bool). wrong || (t || rest)) (gives_bound (seen_scope start) e.0.0 (seen_core h e.1))
        ∙ (ap (λ (k : worlds.Out). wrong || (is_bound_wrongly k (outputs w [] (seen_scope start) (seen_core h e.1)) || rest)) (sym k)
        ∙ (ap (λ (t : List Entry). wrong || (is_bound_wrongly kind (outputs w [] (seen_scope t) (seen_core h e.1)) || rest)) (sym s.same)
        ∙ (ap (λ (o : Option (List worlds.Out)). wrong || (is_bound_wrongly kind o || rest)) (sym walked.gives)
        ∙ (ap (λ (t : Bool). wrong || (t || rest)) (sym g)
        ∙ (or_more wrong here rest ∙ ap (λ (t : Bool). t || rest) (sym v)))))))));
  }

  pub bound_done : (start now : List Entry) (all found : Option faults.Fault) (any wrong : Bool) (bs : List (SymId × Core)) (i : ℕ)
      → BoundSoFar w mode start now all found any wrong (bound_names (drop i bs)) i (cores.cores (seen_bound h (drop i bs))) → length bs ≤ i → found ≡ all
  bound_done start now all found any wrong bs i s l = sym
      (s.finds ∙ (ap (λ (xs : List (SymId × Core)). option_or found (parts_fault w mode (seen_scope start) (name_kinds w (bound_names xs)) i (cores.cores (seen_bound h xs)))) (drop_of_length-le bs l)
      ∙ (ap (option_or found) (goes_down.no_part w mode (seen_scope start) [] i) ∙ or_nothing found)))

  pub bound_told : (start now : List Entry) (all found : Option faults.Fault) (any wrong : Bool) (bs : List (SymId × Core)) (i : ℕ)
      → BoundSoFar w mode start now all found any wrong (bound_names (drop i bs)) i (cores.cores (seen_bound h (drop i bs))) → length bs ≤ i → wrong ≡ any
  bound_told start now all found any wrong bs i s l = sym
      (s.tells ∙ (ap (λ (xs : List (SymId × Core)). wrong || any_gives_another w (seen_scope start) (bound_names xs) (cores.cores (seen_bound h xs))) (drop_of_length-le bs l) ∙ or_last wrong))
