-- The first fault and the outputs of each variant of a form, by those of its parts.
use Rattle.std.specs.Prelude.{◌≡◌, ℕ, List, [], ◌∷◌, length, Bool, true, false, ◌&&◌, ◌||◌, not, Option, Some, None, nat_eq, is_some, option_map, refl}
use Rattle.std.specs.Option.{option_or, option_map_or}
use Rattle.std.specs.List.{list_any}
use Rattle.std.proofs.Common.{sym, ap, ◌∙◌, subst}
use Rattle.model_objects.specs.Object.{Object}
use Rattle.model_terms.specs.declared.rule.Rule.{Rule}
use Rattle.model_terms.specs.declared.rule.Rule.TheVariants.{S1, S2, S3, S4, S5, S6, S7, S8, S9, S11, S12, S13, S14, S15, S16}
use Rattle.model_terms.specs.declared.rule.Mode.{Mode}
use Rattle.model_terms.specs.Cores.{Core, Cores, Var, Const, If, Let, Mv, MvLet, StobjLet, WithLocal, MustBeEqual, Call, count}
use Rattle.model_terms.specs.Worlds.{World, Out, Ordinary, Scope, definition}
use Rattle.model_terms.specs.Accessors.{is_internal, runs}
use Rattle.model_terms.specs.Classes.{is_stobj_name, repeats}
use Rattle.model_terms.specs.Nested.{same_kinds, stobjs_expected, stobj_let_holds, with_local_holds}
use Rattle.model_terms.specs.Outputs.{outputs, part_kinds, stobj_actuals}
use Rattle.model_terms.specs.Scopes.{kind_of, name_kinds, binding, producer_scope, consumer_scope, local_scope, body_scope}
use Rattle.model_terms.specs.Sites.{ins_of, one_ordinary, parent_in}
use Rattle.model_terms.specs.Rules.{any_gives_another, mv_fails}
use Rattle.model_terms.specs.Faults as faults
use Rattle.model_terms.specs.Faults.{first_at}
use Rattle.model_terms_laws.specs.Parts.{fault_down, own_fault, faults_below, parts_fault, actuals_fault}
use Rattle.model_terms_laws.proofs.PartLemmas.{goes_down}
use Rattle.acl_thread.specs.Own.{own_rule, full, when, known_or_one, object_variables}
use Rattle.acl_thread.specs.Walks.{at_form, IsWalked, AlikeIns}
use Rattle.acl_thread.proofs.RuleLemmas.{own_const, own_if, own_let, own_mv, own_mv_let, own_stobj_let, own_with_local, own_must_be_equal, own_call}

module _ (w : World) (mode : Mode) (scope : Scope) (formal : Option ℕ) (expected : List Out) where
  at_own : (f : Core) → own_fault w mode scope f formal expected ≡ at_form (own_rule w mode scope f formal expected)
  unfolding own_rule
  at_own f = refl

  settled : (f : Core) (rule : Option Rule) (below : Option faults.Fault) → own_rule w mode scope f formal expected ≡ rule → below ≡ faults_below w mode scope f expected
      → option_or (at_form rule) below ≡ first_at w mode scope f formal expected
  settled f rule below r b =
      ap (option_or (at_form rule)) b
      ∙ (ap (λ (r : Option Rule). option_or (at_form r) (faults_below w mode scope f expected)) (sym r)
      ∙ (ap (λ (o : Option faults.Fault). option_or o (faults_below w mode scope f expected)) (sym (at_own f))
      ∙ sym (goes_down.at_form w mode scope f formal expected)))

  gives_var : (x : ℕ) → Some (kind_of scope x ∷ []) ≡ outputs w [] scope (Var x)
  unfolding outputs
  gives_var x = refl

  pub var_arm : (x : ℕ) (os : Option (List Out)) (found : Option faults.Fault) → os ≡ Some (kind_of scope x ∷ [])
      → found ≡ option_or (at_form (own_rule w mode scope (Var x) formal expected)) None → IsWalked w mode scope (Var x) formal expected os found
  var_arm x os found o e = record { gives = o ∙ gives_var x; finds = e ∙ settled (Var x) _ None refl refl }

  gives_const : (v : Object ℕ) → Some (Ordinary ∷ []) ≡ outputs w [] scope (Const v)
  unfolding outputs
  gives_const v = refl

  pub const_arm : (v : Object ℕ) (os : Option (List Out)) (found : Option faults.Fault) → os ≡ Some (Ordinary ∷ [])
      → found ≡ option_or (at_form (when (full mode && is_some formal) S1 (when (full mode && not (same_kinds one_ordinary expected)) S8 None))) None
      → IsWalked w mode scope (Const v) formal expected os found
  const_arm v os found o e = record { gives = o ∙ gives_const v; finds = e ∙ settled (Const v) _ None (own_const w scope expected mode formal v) refl }

  gives_if : (a b c : Core) → option_or (outputs w [] scope b) (outputs w [] scope c) ≡ outputs w [] scope (If a b c)
  unfolding outputs
  gives_if a b c = refl

  pub if_arm : (a b c : Core) (o1 o2 o3 os : Option (List Out)) (f1 f2 f3 found : Option faults.Fault)
      → IsWalked w mode scope a None one_ordinary o1 f1 → IsWalked w mode scope b None expected o2 f2 → IsWalked w mode scope c None expected o3 f3
      → os ≡ option_or o2 o3
      → found ≡ option_or (at_form (when (full mode && is_some formal) S1 (when (full mode && not (same_kinds (known_or_one o2) (known_or_one o3))) S7 None))) (option_or (fault_down 0 f1) (option_or (fault_down 1 f2) (fault_down 2 f3)))
      → IsWalked w mode scope (If a b c) formal expected os found
  if_arm a b c o1 o2 o3 os f1 f2 f3 found i j k o e = record {
    gives = rw (o, j.gives, k.gives) (gives_if a b c);
    finds = rw (e, i.finds, j.finds, k.finds, j.gives, k.gives) (settled (If a b c) _ _ (own_if w scope expected mode formal a b c) refl);
  }

  gives_let : (names : List ℕ) (bound : Cores) (body : Core) → outputs w [] (binding w scope names) body ≡ outputs w [] scope (Let names bound body)
  unfolding outputs
  gives_let names bound body = refl

  pub let_arm : (names : List ℕ) (bound : Cores) (body : Core) (o1 os : Option (List Out)) (f1 f2 found : Option faults.Fault) (wrong : Bool) (n : ℕ)
      → f1 ≡ parts_fault w mode scope (name_kinds w names) 0 bound → wrong ≡ any_gives_another w scope names bound → n ≡ count bound
      → IsWalked w mode (binding w scope names) body None expected o1 f2
      → os ≡ o1
      → found ≡ option_or (at_form (when (full mode && is_some formal) S1 (when (full mode && (list_any (is_stobj_name w) names && not (nat_eq (length names) 1))) S4 (when (full mode && wrong) S5 (when (full mode && not (stobjs_expected (name_kinds w names) expected)) S6 None))))) (option_or f1 (fault_down n f2))
      → IsWalked w mode scope (Let names bound body) formal expected os found
  let_arm names bound body o1 os f1 f2 found wrong n p g m i o e = record {
    gives = o ∙ (i.gives ∙ gives_let names bound body);
    finds = rw (e, p, i.finds, g, m) (settled (Let names bound body) _ _ (own_let w scope expected mode formal names bound body) refl);
  }

  gives_mv : (parts : Cores) → Some (part_kinds scope parts) ≡ outputs w [] scope (Mv parts)
  unfolding outputs
  gives_mv parts = refl

  pub mv_arm : (parts : Cores) (os : Option (List Out)) (f1 found : Option faults.Fault) → f1 ≡ parts_fault w mode scope expected 0 parts
      → os ≡ Some (part_kinds scope parts)
      → found ≡ option_or (at_form (when (full mode && is_some formal) S1 (when (full mode && mv_fails expected parts) S9 None))) f1
      → IsWalked w mode scope (Mv parts) formal expected os found
  mv_arm parts os f1 found p o e = record {
    gives = o ∙ gives_mv parts;
    finds = rw (e, p) (settled (Mv parts) _ _ (own_mv w scope expected mode formal parts) refl);
  }

  gives_mv_let : (names : List ℕ) (bound body : Core) → outputs w [] (binding w scope names) body ≡ outputs w [] scope (MvLet names bound body)
  unfolding outputs
  gives_mv_let names bound body = refl

  pub mv_let_arm : (names : List ℕ) (kinds : List Out) (bound body : Core) (o1 o2 os : Option (List Out)) (f1 f2 found : Option faults.Fault)
      → kinds ≡ name_kinds w names
      → IsWalked w mode scope bound None kinds o1 f1 → IsWalked w mode (binding w scope names) body None expected o2 f2
      → os ≡ o2
      → found ≡ option_or (at_form (when (full mode && is_some formal) S1 (when (full mode && not (stobjs_expected kinds expected)) S6 (when (full mode && not (same_kinds (known_or_one o1) kinds)) S9 None)))) (option_or (fault_down 0 f1) (fault_down 1 f2))
      → IsWalked w mode scope (MvLet names bound body) formal expected os found
  mv_let_arm names kinds bound body o1 o2 os f1 f2 found k i j o e = record {
    gives = o ∙ (j.gives ∙ gives_mv_let names bound body);
    finds = rw (e, i.finds, j.finds, i.gives, k) (settled (MvLet names bound body) _ _ (own_mv_let w scope expected mode formal names bound body) refl);
  }

  gives_stobj_let : (names : List ℕ) (bound : Cores) (vars : List ℕ) (producer consumer : Core)
      → outputs w [] (consumer_scope w scope names vars) consumer ≡ outputs w [] scope (StobjLet names bound vars producer consumer)
  unfolding outputs
  gives_stobj_let names bound vars producer consumer = refl

  pub stobj_let_arm : (names : List ℕ) (bound : Cores) (vars : List ℕ) (producer consumer : Core) (kinds : List Out) (o1 o2 os : Option (List Out)) (f1 f2 found : Option faults.Fault)
      → kinds ≡ name_kinds w vars
      → IsWalked w mode (producer_scope w scope (parent_in bound) names) producer None kinds o1 f1
      → IsWalked w mode (consumer_scope w scope names vars) consumer None expected o2 f2
      → os ≡ o2
      → found ≡ option_or (at_form (when (full mode && is_some formal) S1 (when (full mode && not (stobj_let_holds w scope expected names bound vars)) S13 (when (not (full mode)) S16 None)))) (option_or (fault_down 0 f1) (fault_down 1 f2))
      → IsWalked w mode scope (StobjLet names bound vars producer consumer) formal expected os found
  stobj_let_arm names bound vars producer consumer kinds o1 o2 os f1 f2 found k i j o e = record {
    gives = o ∙ (j.gives ∙ gives_stobj_let names bound vars producer consumer);
    finds = rw (e, i.finds, j.finds, k) (settled (StobjLet names bound vars producer consumer) _ _ (own_stobj_let w scope expected mode formal names bound vars producer consumer) refl);
  }

  gives_with_local : (stobj : ℕ) (names : List ℕ) (producer body : Core) → outputs w [] (body_scope w scope stobj names) body ≡ outputs w [] scope (WithLocal stobj names producer body)
  unfolding outputs
  gives_with_local stobj names producer body = refl

  pub with_local_arm : (stobj : ℕ) (names : List ℕ) (producer body : Core) (kinds : List Out) (o1 o2 os : Option (List Out)) (f1 f2 found : Option faults.Fault)
      → kinds ≡ name_kinds w names
      → IsWalked w mode (local_scope w scope stobj) producer None kinds o1 f1
      → IsWalked w mode (body_scope w scope stobj names) body None expected o2 f2
      → os ≡ o2
      → found ≡ option_or (at_form (when (full mode && is_some formal) S1 (when (full mode && not (with_local_holds w scope expected stobj names producer)) S14 (when (not (full mode)) S16 None)))) (option_or (fault_down 0 f1) (fault_down 1 f2))
      → IsWalked w mode scope (WithLocal stobj names producer body) formal expected os found
  with_local_arm stobj names producer body kinds o1 o2 os f1 f2 found k i j o e = record {
    gives = o ∙ (j.gives ∙ gives_with_local stobj names producer body);
    finds = rw (e, i.finds, j.finds, k) (settled (WithLocal stobj names producer body) _ _ (own_with_local w scope expected mode formal stobj names producer body) refl);
  }

  gives_must_be_equal : (logic exec : Core) → outputs w [] scope logic ≡ outputs w [] scope (MustBeEqual logic exec)
  unfolding outputs
  gives_must_be_equal logic exec = refl

  pub must_be_equal_arm : (logic exec : Core) (o1 o2 os : Option (List Out)) (f1 f2 found : Option faults.Fault)
      → IsWalked w mode scope logic None expected o1 f1 → IsWalked w mode scope exec None expected o2 f2
      → os ≡ o1
      → found ≡ option_or (at_form (when (full mode && is_some formal) S1 (when (full mode && not (same_kinds (known_or_one o1) (known_or_one o2))) S7 None))) (option_or (fault_down 0 f1) (fault_down 1 f2))
      → IsWalked w mode scope (MustBeEqual logic exec) formal expected os found
  must_be_equal_arm logic exec o1 o2 os f1 f2 found i j o e = record {
    gives = o ∙ (i.gives ∙ gives_must_be_equal logic exec);
    finds = rw (e, i.finds, j.finds, i.gives, j.gives) (settled (MustBeEqual logic exec) _ _ (own_must_be_equal w scope expected mode formal logic exec) refl);
  }

  pub call_arm : (f : ℕ) (actuals : Cores) (ins : List Out) (os : Option (List Out)) (f1 found : Option faults.Fault)
      → AlikeIns ins (ins_of w f)
      → f1 ≡ actuals_fault w mode scope ins 0 actuals
      → os ≡ outputs w [] scope (Call f actuals)
      → found ≡ option_or (at_form (when (full mode && is_some formal) S1 (when (full mode && repeats (object_variables ins actuals)) S2 (when (full mode && not (same_kinds (known_or_one os) expected)) S8 (when (full mode && option_map_or (is_internal w) (definition w f) false) S12 (when (full mode && not (runs w f)) S16 None)))))) f1
      → IsWalked w mode scope (Call f actuals) formal expected os found
  call_arm f actuals ins os f1 found a p o e = record {
    gives = o;
    finds = rw (e, p, o, a.actuals actuals, a.faults w mode scope 0 actuals) (settled (Call f actuals) _ _ (own_call w scope expected mode formal f actuals) refl);
  }
