-- The outputs of a form rest on the definitions of its names alone, and on those of the stobjs in signatures.
use Rattle.std.proofs.Common.{◌≡◌, ℕ, List, [], ◌∷◌, ◌++◌, refl, ap, ◌∙◌}
use Rattle.std.specs.Prelude.{Option, Some, None, Bool, true, false, not, nat_eq, map, is_some, option_map, option_and_then}
use Rattle.std.specs.Option.{option_or, option_map_or}
use Rattle.std.specs.List.{AllByRecursion, filter}
use Rattle.std.proofs.lemmas.List.Folds.{find-append}
use Rattle.model_terms.specs.Cores.{Core, Cores, none, more, Var, Const, If, Let, Mv, MvLet, StobjLet, WithLocal, MustBeEqual, Call, variable}
use Rattle.model_terms.specs.Worlds.{World, Definition, Out, Ordinary, Stobj, Signature, Scope, definition_name, definition}
use Rattle.model_terms.specs.Classes.{class_in, is_stobj_name, stobjs, all_congruent, instance_of}
use Rattle.model_terms.specs.Scopes.{entry, binding, without, ordinary_names, consumer_scope, other_names, body_scope}
use Rattle.model_terms.specs.Outputs.{Known, signature_of, stobj_actuals, all_there, call_outs, outputs}
use Rattle.model_terms_laws.specs.Names.{Names, NamesOfAll}
use Rattle.model_terms_laws.specs.Laws.{KeepsOutputs}

-- both worlds have the same definition of a name
Same : World → World → ℕ → Type 0
Same v w x = definition v x ≡ definition w x

-- ---- scopes

object_same : (v w : World) (x : ℕ) → Same v w x → is_stobj_name v x ≡ is_stobj_name w x
unfolding Same
object_same v w x e = rw e refl

entry_same : (v w : World) (x : ℕ) → Same v w x → entry v x ≡ entry w x
unfolding Same
entry_same v w x e = rw e refl

entries_same : (v w : World) (xs : List ℕ) → AllByRecursion (Same v w) xs → map (entry v) xs ≡ map (entry w) xs
entries_same v w [] all = refl
entries_same v w (x ∷ xs) all = rw (entry_same v w x all.0, entries_same v w xs all.1) refl

bound_same : (v w : World) (scope : Scope) (xs : List ℕ) → AllByRecursion (Same v w) xs → binding v scope xs ≡ binding w scope xs
bound_same v w scope xs all = ap (λ es. scope ++ es) (entries_same v w xs all)

kept_if : (P : ℕ → Type 0) (test : ℕ → Bool) (x : ℕ) (xs : List ℕ) → P x → AllByRecursion P (filter test xs) → (b : Bool) → test x ≡ b → AllByRecursion P (filter test (x ∷ xs))
kept_if P test x xs p all true h = rw h (p, all)
kept_if P test x xs p all false h = rw h all

all_kept : (P : ℕ → Type 0) (test : ℕ → Bool) (xs : List ℕ) → AllByRecursion P xs → AllByRecursion P (filter test xs)
all_kept P test [] all = tt
all_kept P test (x ∷ xs) all = kept_if P test x xs all.0 (all_kept P test xs all.1) (test x) refl

ordinary_same : (v w : World) (xs : List ℕ) → AllByRecursion (Same v w) xs → ordinary_names v xs ≡ ordinary_names w xs
ordinary_same v w [] all = refl
ordinary_same v w (x ∷ xs) all = rw (object_same v w x all.0, ordinary_same v w xs all.1) refl

consumer_same : (v w : World) (scope : Scope) (children vars : List ℕ) → AllByRecursion (Same v w) vars → consumer_scope v scope children vars ≡ consumer_scope w scope children vars
consumer_same v w scope children vars all =
    ap (binding v (without children scope)) (ordinary_same v w vars all)
    ∙ bound_same v w (without children scope) (ordinary_names w vars) (all_kept (Same v w) (λ x. not (is_stobj_name w x)) vars all)

body_same : (v w : World) (scope : Scope) (stobj : ℕ) (names : List ℕ) → AllByRecursion (Same v w) names → body_scope v scope stobj names ≡ body_scope w scope stobj names
body_same v w scope stobj names all =
    bound_same v w (without (stobj ∷ []) scope) (other_names stobj names) (all_kept (Same v w) (λ x. not (nat_eq x stobj)) names all)

-- ---- calls

OfVariable : (ℕ → Type 0) → Option ℕ → Type 0
OfVariable P None = Unit {0}
OfVariable P (Some x) = P x

of_variable : (P : ℕ → Type 0) (f : Core) → Names P f → OfVariable P (variable f)
unfolding Names OfVariable
of_variable P (Var x) p = p
of_variable P f p = tt

OfEach : (ℕ → Type 0) → List (Option ℕ) → Type 0
OfEach P [] = Unit {0}
OfEach P (v ∷ vs) = OfVariable P v × OfEach P vs

of_actuals : (P : ℕ → Type 0) (ins : List Out) (fs : Cores) → NamesOfAll P fs → OfEach P (stobj_actuals ins fs)
unfolding NamesOfAll OfEach
of_actuals P [] fs all = tt
of_actuals P (k ∷ ins) none all = of_none P k ins
  where
    of_none : (P : ℕ → Type 0) (k : Out) (ins : List Out) → OfEach P (stobj_actuals (k ∷ ins) none)
    of_none P Ordinary ins = tt
    of_none P (Stobj x) ins = tt
of_actuals P (Ordinary ∷ ins) (more f fs) all = of_actuals P ins fs all.1
of_actuals P (Stobj x ∷ ins) (more f fs) all = (of_variable P f all.0, of_actuals P ins fs all.1)

OfAll : (ℕ → Type 0) → Option (List ℕ) → Type 0
OfAll P None = Unit {0}
OfAll P (Some xs) = AllByRecursion P xs

of_more : (P : ℕ → Type 0) (x : ℕ) (o : Option (List ℕ)) → P x → OfAll P o → OfAll P (option_map (λ xs. x ∷ xs) o)
unfolding OfAll
of_more P x None p all = tt
of_more P x (Some xs) p all = (p, all)

of_all : (P : ℕ → Type 0) (vs : List (Option ℕ)) → OfEach P vs → OfAll P (all_there vs)
unfolding OfEach OfVariable OfAll
of_all P [] all = tt
of_all P (None ∷ vs) all = tt
of_all P (Some x ∷ vs) all = of_more P x (all_there vs) all.0 (of_all P vs all.1)

congruent_same : (v w : World) (formals actuals : List ℕ) → AllByRecursion (Same v w) formals → AllByRecursion (Same v w) actuals → all_congruent v formals actuals ≡ all_congruent w formals actuals
unfolding Same
congruent_same v w [] [] fs acts = refl
congruent_same v w [] (a ∷ actuals) fs acts = refl
congruent_same v w (f ∷ formals) [] fs acts = refl
congruent_same v w (f ∷ formals) (a ∷ actuals) fs acts = rw (fs.0, acts.0, congruent_same v w formals actuals fs.1 acts.1) refl

instance_same : (v w : World) (s : Signature) (actuals : List ℕ) → AllByRecursion (Same v w) (stobjs s.ins) → AllByRecursion (Same v w) actuals → instance_of v s actuals ≡ instance_of w s actuals
instance_same v w s actuals fs acts = rw (congruent_same v w (stobjs s.ins) actuals fs acts) refl

found_same : (v w : World) (s : Signature) (o : Option (List ℕ)) → AllByRecursion (Same v w) (stobjs s.ins) → OfAll (Same v w) o
    → option_map_or (λ (i : Signature). i.outs) (option_and_then (instance_of v s) o) s.outs ≡ option_map_or (λ (i : Signature). i.outs) (option_and_then (instance_of w s) o) s.outs
unfolding OfAll
found_same v w s None fs acts = refl
found_same v w s (Some xs) fs acts = rw (instance_same v w s xs fs acts) refl

call_same : (v w : World) (s : Signature) (actuals : Cores) → AllByRecursion (Same v w) (stobjs s.ins) → NamesOfAll (Same v w) actuals → call_outs v s actuals ≡ call_outs w s actuals
call_same v w s actuals fs all = found_same v w s (all_there (stobj_actuals s.ins actuals)) fs (of_all (Same v w) (stobj_actuals s.ins actuals) (of_actuals (Same v w) s.ins actuals all))

signature_same : (v w : World) (known : Known) (f : ℕ) → Same v w f → signature_of v known f ≡ signature_of w known f
unfolding Same
signature_same v w known f e = rw e refl

called_same : (v w : World) (actuals : Cores) (o : Option Signature) → ((s : Signature) → o ≡ Some s → AllByRecursion (Same v w) (stobjs s.ins)) → NamesOfAll (Same v w) actuals
    → option_map (λ s. call_outs v s actuals) o ≡ option_map (λ s. call_outs w s actuals) o
called_same v w actuals None fs all = refl
called_same v w actuals (Some s) fs all = ap (λ os. Some os) (call_same v w s actuals (fs s refl) all)

-- ---- forms

outputs_same : (v w : World) (known : Known) (scope : Scope) (f : Core)
    → ((g : ℕ) (s : Signature) → signature_of w known g ≡ Some s → AllByRecursion (Same v w) (stobjs s.ins))
    → Names (Same v w) f → outputs v known scope f ≡ outputs w known scope f
unfolding outputs Names
outputs_same v w known scope (Var x) fs names = refl
outputs_same v w known scope (Const o) fs names = refl
outputs_same v w known scope (If a b c) fs names = rw (outputs_same v w known scope b fs names.1, outputs_same v w known scope c fs names.2) refl
outputs_same v w known scope (Let xs bound body) fs names =
    ap (λ s. outputs v known s body) (bound_same v w scope xs names.0) ∙ outputs_same v w known (binding w scope xs) body fs names.2
outputs_same v w known scope (Mv parts) fs names = refl
outputs_same v w known scope (MvLet xs bound body) fs names =
    ap (λ s. outputs v known s body) (bound_same v w scope xs names.0) ∙ outputs_same v w known (binding w scope xs) body fs names.2
outputs_same v w known scope (StobjLet xs bound vars producer consumer) fs names =
    ap (λ s. outputs v known s consumer) (consumer_same v w scope xs vars names.2) ∙ outputs_same v w known (consumer_scope w scope xs vars) consumer fs names.4
outputs_same v w known scope (WithLocal stobj xs producer body) fs names =
    ap (λ s. outputs v known s body) (body_same v w scope stobj xs names.1) ∙ outputs_same v w known (body_scope w scope stobj xs) body fs names.3
outputs_same v w known scope (MustBeEqual logic exec) fs names = outputs_same v w known scope logic fs names.0
outputs_same v w known scope (Call f actuals) fs names =
    ap (option_map (λ s. call_outs v s actuals)) (signature_same v w known f names.0)
    ∙ called_same v w actuals (signature_of w known f) (fs f) names.1

-- ---- growth

or_none : (o : Option Definition) → option_or o None ≡ o
or_none None = refl
or_none (Some d) = refl

new_same : (w new : World) (x : ℕ) → definition new x ≡ None → Same (w ++ new) w x
unfolding Same
new_same w new x e = find-append (λ d. nat_eq x (definition_name d)) w new ∙ (ap (option_or (definition w x)) e ∙ or_none (definition w x))

or_some : (o p : Option Definition) → is_some (option_and_then class_in o) ≡ true → option_or o p ≡ o
or_some None p h = cc
or_some (Some d) p h = refl

old_same : (w new : World) (x : ℕ) → is_stobj_name w x ≡ true → Same (w ++ new) w x
unfolding Same
old_same w new x h = find-append (λ d. nat_eq x (definition_name d)) w new ∙ or_some (definition w x) (definition new x) h

all_old : (w new : World) (xs : List ℕ) → AllByRecursion (λ x. is_stobj_name w x ≡ true) xs → AllByRecursion (Same (w ++ new) w) xs
all_old w new [] all = tt
all_old w new (x ∷ xs) all = (old_same w new x all.0, all_old w new xs all.1)

all_new : (w new : World) (xs : List ℕ) → AllByRecursion (λ x. definition new x ≡ None) xs → AllByRecursion (Same (w ++ new) w) xs
all_new w new [] all = tt
all_new w new (x ∷ xs) all = (new_same w new x all.0, all_new w new xs all.1)

mutual
  unfolding Names NamesOfAll

  names_same : (w new : World) (f : Core) → Names (λ x. definition new x ≡ None) f → Names (Same (w ++ new) w) f
  names_same w new (Var x) n = new_same w new x n
  names_same w new (Const o) n = tt
  names_same w new (If a b c) n = (names_same w new a n.0, names_same w new b n.1, names_same w new c n.2)
  names_same w new (Let xs bound body) n = (all_new w new xs n.0, all_names_same w new bound n.1, names_same w new body n.2)
  names_same w new (Mv parts) n = all_names_same w new parts n
  names_same w new (MvLet xs bound body) n = (all_new w new xs n.0, names_same w new bound n.1, names_same w new body n.2)
  names_same w new (StobjLet xs bound vars producer consumer) n =
      (all_new w new xs n.0, all_names_same w new bound n.1, all_new w new vars n.2, names_same w new producer n.3, names_same w new consumer n.4)
  names_same w new (WithLocal stobj xs producer body) n = (new_same w new stobj n.0, all_new w new xs n.1, names_same w new producer n.2, names_same w new body n.3)
  names_same w new (MustBeEqual logic exec) n = (names_same w new logic n.0, names_same w new exec n.1)
  names_same w new (Call f actuals) n = (new_same w new f n.0, all_names_same w new actuals n.1)

  all_names_same : (w new : World) (fs : Cores) → NamesOfAll (λ x. definition new x ≡ None) fs → NamesOfAll (Same (w ++ new) w) fs
  all_names_same w new none n = tt
  all_names_same w new (more f fs) n = (names_same w new f n.0, all_names_same w new fs n.1)

pub keeps_outputs : KeepsOutputs
keeps_outputs =
    record {
      kept = λ w new known scope f stobjs names.
          outputs_same (w ++ new) w known scope f (λ g s e. all_old w new _ (stobjs g s e)) (names_same w new f names);
    }
