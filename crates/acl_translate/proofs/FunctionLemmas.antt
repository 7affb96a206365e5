-- Accepted forms have trees; the terms of a function from those of its guard and body, functions one after another, and the
-- body of a macro.
use Rattle.std.specs.Prelude.{◌≡◌, ℕ, zero, suc, ◌+◌, ◌<◌, ◌≤◌, List, [], ◌∷◌, ◌++◌, length, map, drop, true, false, Option, Some, None, option_map, is_some, refl}
use Rattle.std.specs.List.{AllByRecursion, All}
use Rattle.std.proofs.Common.{sym, ap, ◌∙◌, arith, subst, get_or, append_assoc}
use Rattle.std.proofs.Math.ListN.{drop_of_length-le}
use Rattle.std.proofs.lemmas.List.{append-nil, length-map, map-append}
use Rattle.acl_base.specs.declared.SymId.{SymId}
use Rattle.acl_base.specs.declared.TermId.{TermId}
use Rattle.acl_heap.specs.Objects.{Objects}
use Rattle.model_terms.specs.declared.rule.Mode.{Mode}
use Rattle.model_terms.specs.Cores as cores
use Rattle.model_terms.specs.Worlds.{World, Out, Scope, MacroFormals}
use Rattle.model_terms.specs.Faults.{first_fault, expression_fault, constant_fault, macro_fault, member_fault, clique_fault}
use Rattle.model_slots.specs.Trees.{Tree}
use Rattle.model_slots.specs.Environments.{formal_environment}
use Rattle.model_slots.specs.Resolved.{both, resolved}
use Rattle.model_slots_laws.specs.Standing.{functions_stand}
use Rattle.model_slots_laws.proofs.AcceptedLemmas.{none_first, none_second, accepted_have_trees}
use Rattle.acl_terms.specs.declared.form.Core.{Core}
use Rattle.acl_terms.specs.Forms.{numbers, seen_core}
use Rattle.acl_outputs.proofs.ListLemmas.{left_at}
use Rattle.acl_code.specs.declared.term.Term.{Term}
use Rattle.acl_code.specs.Constants.{ConstantsAreKnown}
use Rattle.acl_code.specs.Sizes.{Fits}
use Rattle.acl_code.specs.Tables.{tree_at, Grown, TermsLie, IsBuilt}
use Rattle.acl_code.proofs.TableLemmas.{tree_later, grown_same, grown_then}
use Rattle.acl_check.specs.declared.member.Member.{Member}
use Rattle.acl_check.specs.Members.{seen_member, seen_members}
use Rattle.acl_translate.specs.declared.function_terms.FunctionTerms.{FunctionTerms}
use Rattle.acl_translate.specs.Functions.{formal_tree, function_trees, all_function_trees, seen_function_terms, InTable, FunctionsStand, HasTrees, IsFunction, AreFunctions, MemberIsKnown}

-- ---- accepted forms have trees

module _ (w : World) (names : List ℕ) where
  pub form_there : (mode : Mode) (scope : Scope) (f : cores.Core) (expected : List Out) → first_fault w mode scope f expected ≡ None → functions_stand w f ≡ true
      → is_some (formal_tree w names f) ≡ true
  form_there mode scope f expected e k = accepted_have_trees.form w mode scope f expected e k (formal_environment names) (length names)

  pub expression_there : (scope : Scope) (f : cores.Core) → expression_fault w scope f ≡ None → functions_stand w f ≡ true → is_some (formal_tree w names f) ≡ true
  expression_there scope f e k = accepted_have_trees.expression w scope f e k (formal_environment names) (length names)

  pub constant_there : (f : cores.Core) → constant_fault w f ≡ None → functions_stand w f ≡ true → is_some (formal_tree w names f) ≡ true
  constant_there f e k = accepted_have_trees.constant w f e k (formal_environment names) (length names)

  pub macro_there : (formals : MacroFormals) (f : cores.Core) → macro_fault w formals f ≡ None → functions_stand w f ≡ true → is_some (formal_tree w names f) ≡ true
  macro_there formals f e k = accepted_have_trees.macro w formals f e k (formal_environment names) (length names)

member_there : (h : Objects) (w : World) (n : ℕ) (m : Member) → member_fault w n (seen_member h m) ≡ None → FunctionsStand h w m → HasTrees h w m
member_there h w n m e k = record {
  guard = accepted_have_trees.guard w n (seen_member h m) e k.guard (formal_environment (numbers m.formals)) (length (numbers m.formals));
  body = accepted_have_trees.body w n (seen_member h m) e k.body (formal_environment (numbers m.formals)) (length (numbers m.formals));
}

clique_at : (h : Objects) (w : World) (n : ℕ) (ms : List Member) → clique_fault w n (seen_members h ms) ≡ None → All (FunctionsStand h w) ms
    → (k : ℕ) (d : Member) → k < length ms → HasTrees h w (get_or ms k d)
clique_at h w n [] e s k d l = absurd (omega (arith, l))
clique_at h w n (m ∷ ms) e s zero d l = member_there h w n m (none_first _ _ e) (s zero d l)
clique_at h w n (m ∷ ms) e s (suc k) d l = clique_at h w (n + 1) ms (none_second _ _ e) (λ j c i. s (suc j) c (omega (arith, i))) k d (omega (arith, l))

pub clique_there : (h : Objects) (w : World) (ms : List Member) → clique_fault w 0 (seen_members h ms) ≡ None → All (FunctionsStand h w) ms → All (HasTrees h w) ms
clique_there h w ms e s = λ k d l. clique_at h w 0 ms e s k d l

-- ---- under formals

under_formals : (h : Objects) (w : World) (fs : List SymId) (f : Core) → resolved w (formal_environment (numbers fs)) (length fs) (seen_core h f) ≡ formal_tree w (numbers fs) (seen_core h f)
under_formals h w fs f = ap (λ n. resolved w (formal_environment (numbers fs)) n (seen_core h f)) (sym (length-map fs _))

pub term_built : (h : Objects) (w : World) (ts : List Term) (fs : List SymId) (f : Core) (r : Option TermId) → IsBuilt h ts r (resolved w (formal_environment (numbers fs)) (length fs) (seen_core h f))
    → IsBuilt h ts r (formal_tree w (numbers fs) (seen_core h f))
term_built h w ts fs f r b = record { within = b.within; is = b.is ∙ under_formals h w fs f }

-- where there is a tree there is a term
pub term_missing : (h : Objects) (w : World) (ts : List Term) (fs : List SymId) (f : Core) → IsBuilt h ts None (resolved w (formal_environment (numbers fs)) (length fs) (seen_core h f))
    → is_some (formal_tree w (numbers fs) (seen_core h f)) ≡ true → ⊥
term_missing h w ts fs f b k = let e : false ≡ true = ap is_some (b.is ∙ under_formals h w fs f) ∙ k in cc

pub macro_fits : (h : Objects) (names : List SymId) (formals : List ℕ) (f : Core) → numbers names ≡ formals → Fits h (length formals) f → Fits h (length names) f
macro_fits h names formals f e g = subst (λ n. Fits h n f) (ap length (sym e) ∙ length-map names _) g

pub macro_named : (h : Objects) (w : World) (names : List SymId) (formals : List ℕ) (f : Core) → numbers names ≡ formals → is_some (formal_tree w formals (seen_core h f)) ≡ true
    → is_some (formal_tree w (numbers names) (seen_core h f)) ≡ true
macro_named h w names formals f e k = ap (λ ns. is_some (formal_tree w ns (seen_core h f))) e ∙ k

pub macro_built : (h : Objects) (w : World) (ts : List Term) (names : List SymId) (formals : List ℕ) (f : Core) (r : Option TermId) → numbers names ≡ formals
    → IsBuilt h ts r (formal_tree w (numbers names) (seen_core h f)) → IsBuilt h ts r (formal_tree w formals (seen_core h f))
macro_built h w ts names formals f r e b = record { within = b.within; is = b.is ∙ ap (λ ns. formal_tree w ns (seen_core h f)) e }

-- ---- a function

pub function_built : (h : Objects) (w : World) (m : Member) (fs : List SymId) (old new : List Term) (g b : TermId) → fs ≡ m.formals → Grown old new
    → IsBuilt h old (Some g) (formal_tree w (numbers fs) (seen_core h m.guard)) → IsBuilt h new (Some b) (formal_tree w (numbers fs) (seen_core h m.body))
    → IsFunction h new (record { guard = g; body = b }) (function_trees w (seen_member h m))
function_built h w m fs old new g b e grows p q = record {
  within = (omega (arith, p.within, grows.longer), q.within);
  is = ap (λ (a : Tree). Some (a, tree_at h new b)) (tree_later h old new g grows p.within)
      ∙ (ap (λ o. both (λ guard body. (guard, body)) o (Some (tree_at h new b))) (p.is ∙ ap (λ ns. formal_tree w (numbers ns) (seen_core h m.guard)) e)
      ∙ ap (λ o. both (λ guard body. (guard, body)) (formal_tree w (numbers m.formals) (seen_core h m.guard)) o) (q.is ∙ ap (λ ns. formal_tree w (numbers ns) (seen_core h m.body)) e));
}

-- ---- functions one after another

-- pairs in front of the others
abbrev pub functions_then : List (Tree × Tree) → Option (List (Tree × Tree)) → Option (List (Tree × Tree))
functions_then ts rest = option_map (λ us. ts ++ us) rest

then_nothing : (o : Option (List (Tree × Tree))) → o ≡ functions_then [] o
then_nothing None = refl
then_nothing (Some us) = refl

then_one : (ts : List (Tree × Tree)) (t : Tree × Tree) (o : Option (List (Tree × Tree))) → functions_then ts (both (λ trees others. trees ∷ others) (Some t) o) ≡ functions_then (ts ++ t ∷ []) o
then_one ts t None = refl
then_one ts t (Some us) = ap Some (sym (append_assoc ts (t ∷ []) us))

all_in_later : (old new : List Term) (fs : List FunctionTerms) → Grown old new → AllByRecursion (InTable old) fs → AllByRecursion (InTable new) fs
all_in_later old new [] g l = tt
all_in_later old new (f ∷ fs) g l = ((omega (arith, l.0.0, g.longer), omega (arith, l.0.1, g.longer)), all_in_later old new fs g l.1)

all_seen_later : (h : Objects) (old new : List Term) (fs : List FunctionTerms) → Grown old new → AllByRecursion (InTable old) fs
    → map (seen_function_terms h new) fs ≡ map (seen_function_terms h old) fs
all_seen_later h old new [] g l = refl
all_seen_later h old new (f ∷ fs) g l = rw (tree_later h old new f.guard g l.0.0, tree_later h old new f.body g l.0.1, all_seen_later h old new fs g l.1) refl

in_push : (ts : List Term) (fs : List FunctionTerms) (f : FunctionTerms) → AllByRecursion (InTable ts) fs → InTable ts f → AllByRecursion (InTable ts) (fs ++ f ∷ [])
in_push ts [] f a l = (l, tt)
in_push ts (i ∷ fs) f a l = (a.0, in_push ts fs f a.1 l)

pub member_known : (n : ℕ) (h : Objects) (all : List Member) (i : ℕ) (m : Member) → i < length all → m ≡ get_or all i m → All (MemberIsKnown n h) all → MemberIsKnown n h m
member_known n h all i m l e k = subst (λ (x : Member). MemberIsKnown n h x) (sym e) (k i m l)

-- the terms of functions so far, and the functions that are left
pub record FunctionsSoFar (h : Objects) (w : World) (start now : List Term) (all left : List Member) (found : List FunctionTerms) : Type 0 where
  pub grows : Grown start now
  pub words : TermsLie h now
  pub known : (n : ℕ) → 1 < n → All (MemberIsKnown n h) all → ConstantsAreKnown n h start → ConstantsAreKnown n h now
  pub within : AllByRecursion (InTable now) found
  pub are : all_function_trees w (seen_members h all) ≡ functions_then (map (seen_function_terms h now) found) (all_function_trees w (seen_members h left))

pub functions_start : (h : Objects) (w : World) (start : List Term) (all : List Member) → TermsLie h start → FunctionsSoFar h w start start all all []
functions_start h w start all l = record {
  grows = grown_same start;
  words = l;
  known = λ n b k c. c;
  within = tt;
  are = then_nothing (all_function_trees w (seen_members h all));
}

module _ (h : Objects) (w : World) (start now new : List Term) (all : List Member) (i : ℕ) (found : List FunctionTerms) (m : Member) (f : FunctionTerms)
    (s : FunctionsSoFar h w start now all (drop i all) found) (l : i < length all) (em : m ≡ get_or all i m) (b : IsFunction h new f (function_trees w (seen_member h m))) where
  on : all_function_trees w (seen_members h all)
      ≡ functions_then (map (seen_function_terms h now) found) (both (λ trees others. trees ∷ others) (Some (seen_function_terms h new f)) (all_function_trees w (seen_members h (drop (i + 1) all))))
  on =
      s.are ∙ (ap (λ ms. functions_then (map (seen_function_terms h now) found) (all_function_trees w (seen_members h ms))) (left_at all i m l)
      ∙ (ap (λ k. functions_then (map (seen_function_terms h now) found) (all_function_trees w (seen_members h (k ∷ drop (i + 1) all)))) (sym em)
      ∙ ap (λ r. functions_then (map (seen_function_terms h now) found) (both (λ trees others. trees ∷ others) r (all_function_trees w (seen_members h (drop (i + 1) all))))) (sym b.is)))

  pub functions_step : (more_found : List FunctionTerms) → Grown now new → TermsLie h new
      → ((n : ℕ) → 1 < n → MemberIsKnown n h m → ConstantsAreKnown n h now → ConstantsAreKnown n h new) → more_found ≡ found ++ f ∷ []
      → FunctionsSoFar h w start new all (drop (i + 1) all) more_found
  functions_step more_found g lies known ef =
      let r : FunctionsSoFar h w start new all (drop (i + 1) all) (found ++ f ∷ []) = record {
        grows = grown_then start now new s.grows g;
        words = lies;
        known = λ n b k c. known n b (member_known n h all i m l em k) (s.known n b k c);
        within = in_push new found f (all_in_later now new found g s.within) b.within;
        are = on ∙ (then_one (map (seen_function_terms h now) found) (seen_function_terms h new f) (all_function_trees w (seen_members h (drop (i + 1) all)))
            ∙ (ap (λ ts. functions_then (ts ++ seen_function_terms h new f ∷ []) (all_function_trees w (seen_members h (drop (i + 1) all)))) (sym (all_seen_later h now new found g s.within))
            ∙ ap (λ ts. functions_then ts (all_function_trees w (seen_members h (drop (i + 1) all)))) (sym (map-append (seen_function_terms h new) found (f ∷ [])))));
      } in
      subst (λ fs. FunctionsSoFar h w start new all (drop (i + 1) all) fs) (sym ef) r

pub functions_end : (h : Objects) (w : World) (start now : List Term) (all : List Member) (i : ℕ) (found : List FunctionTerms)
    → length all ≤ i → FunctionsSoFar h w start now all (drop i all) found → AreFunctions h now found (all_function_trees w (seen_members h all))
functions_end h w start now all i found l s = record {
  within = s.within;
  are = sym (s.are ∙ (ap (λ ms. functions_then (map (seen_function_terms h now) found) (all_function_trees w (seen_members h ms))) (drop_of_length-le all l)
      ∙ ap Some (append-nil (map (seen_function_terms h now) found))));
}
