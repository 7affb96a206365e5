-- The tree of each variant of a form from those of its parts, and parts one after another.
use Rattle.std.specs.Prelude.{◌≡◌, ℕ, ◌+◌, ◌<◌, ◌≤◌, List, [], ◌∷◌, ◌++◌, length, map, drop, get_or, Option, Some, None, option_map, refl}
use Rattle.std.proofs.Common.{sym, ap, ◌∙◌, arith, subst, drop-cons, add-one}
use Rattle.std.proofs.Math.ListN.{drop_of_length-le}
use Rattle.std.proofs.lemmas.List.{length-map, map-append}
use Rattle.acl_base.specs.declared.FnId.{FnId}
use Rattle.acl_base.specs.declared.SymId.{SymId}
use Rattle.acl_base.specs.declared.TermId.{TermId}
use Rattle.acl_base.specs.declared.Word.{Word}
use Rattle.acl_heap.specs.Objects.{Objects, object_of}
use Rattle.model_terms.specs.Cores as cores
use Rattle.model_terms.specs.Worlds.{World}
use Rattle.model_slots.specs.Trees as trees
use Rattle.model_slots.specs.Trees.{Tree, Trees, none, more}
use Rattle.model_slots.specs.Environments.{Environment, all_bound, ordinary_bound, formal_environment}
use Rattle.model_slots.specs.Resolved.{variable_at, both, all_three, number_in, children_in, resolved, all_resolved}
use Rattle.acl_terms.specs.declared.form.Core.{Core}
use Rattle.acl_terms.specs.declared.form.Core.TheViews as views
use Rattle.acl_terms.specs.declared.form.Core.TheVariants as variants
use Rattle.acl_terms.specs.Forms.{numbers, bound_names, seen_core, seen_cores, seen_bound}
use Rattle.acl_terms.specs.FormLaws.{seen_var, seen_const, seen_if, seen_let, seen_mv, seen_mv_let, seen_stobj_let, seen_with_local, seen_must_be_equal, seen_call}
use Rattle.acl_code.specs.declared.environment.Binding.{Binding}
use Rattle.acl_code.specs.declared.term.Child.{Child}
use Rattle.acl_code.specs.declared.term.Operand.{Operand}
use Rattle.acl_code.specs.declared.term.Term.{Term}
use Rattle.acl_code.specs.Environments.{seen_environment}
use Rattle.acl_code.specs.Constants.{ConstantsAreKnown, FormsAreKnown}
use Rattle.acl_code.specs.Sizes.{Fits}
use Rattle.acl_code.specs.Tables.{tree_at, seen_operand, seen_child, seen_term, seen_parts, AllIn, AllWithin, Within, Grown, TermsLie, IsBuilt, AreBuilt}
use Rattle.acl_code.proofs.TableLemmas.{tree_later, grown_same, grown_then}

-- ---- of two and of three

alike_both : {A B C : Type 0} (f : A → B → C) (a a' : Option A) (b b' : Option B) → a ≡ a' → b ≡ b' → both f a b ≡ both f a' b'
alike_both f a a' b b' p q = rw (p, q) refl

alike_three : {A B C D : Type 0} (f : A → B → C → D) (a a' : Option A) (b b' : Option B) (c c' : Option C) → a ≡ a' → b ≡ b' → c ≡ c' → all_three f a b c ≡ all_three f a' b' c'
alike_three f a a' b b' c c' p q r = rw (p, q, r) refl

-- ---- what is built stays

pub within_later : (old new : List Term) (o : Option TermId) → Grown old new → Within old o → Within new o
within_later old new None g l = tt
within_later old new (Some t) g l = omega (arith, l, g.longer)

pub in_later : (old new : List Term) (ids : List TermId) → Grown old new → AllIn old ids → AllIn new ids
in_later old new [] g l = tt
in_later old new (t ∷ ts) g l = (omega (arith, l.0, g.longer), in_later old new ts g l.1)

pub all_later : (old new : List Term) (ids : Option (List TermId)) → Grown old new → AllWithin old ids → AllWithin new ids
all_later old new None g l = tt
all_later old new (Some ids) g l = in_later old new ids g l

pub grown_twice : (a b c d : List Term) → Grown a b → Grown b c → Grown c d → Grown a d
grown_twice a b c d p q r = grown_then a b d p (grown_then b c d q r)

module _ (h : Objects) where
  term_later : (old new : List Term) (o : Option TermId) → Grown old new → Within old o → seen_term h new o ≡ seen_term h old o
  term_later old new None g l = refl
  term_later old new (Some t) g l = ap Some (tree_later h old new t g l)

  trees_later : (old new : List Term) (ids : List TermId) → Grown old new → AllIn old ids → map (tree_at h new) ids ≡ map (tree_at h old) ids
  trees_later old new [] g l = refl
  trees_later old new (t ∷ ts) g l = rw (tree_later h old new t g l.0, trees_later old new ts g l.1) refl

  parts_later : (old new : List Term) (ids : Option (List TermId)) → Grown old new → AllWithin old ids → seen_parts h new ids ≡ seen_parts h old ids
  parts_later old new None g l = refl
  parts_later old new (Some ids) g l = ap (λ ts. Some (trees.trees ts)) (trees_later old new ids g l)

  is_later : (old new : List Term) (o : Option TermId) (tree : Option Tree) → Grown old new → IsBuilt h old o tree → seen_term h new o ≡ tree
  is_later old new o tree g b = term_later old new o g b.within ∙ b.is

  are_later : (old new : List Term) (ids : Option (List TermId)) (all : Option Trees) → Grown old new → AreBuilt h old ids all → seen_parts h new ids ≡ all
  are_later old new ids all g b = parts_later old new ids g b.within ∙ b.are

-- ---- the equations of trees on forms that are seen

module _ (h : Objects) (w : World) (env : Environment) (s : ℕ) where
  tree_var : (x : SymId) → resolved w env s (seen_core h (variants.Var x)) ≡ Some (trees.Leaf (variable_at env x.0))
  unfolding resolved
  tree_var x = ap (resolved w env s) (seen_var h x)

  tree_const : (v : Word) → resolved w env s (seen_core h (variants.Const v)) ≡ Some (trees.Leaf (trees.Const (object_of h v)))
  unfolding resolved
  tree_const v = ap (resolved w env s) (seen_const h v)

  tree_if : (a b c : Core) → resolved w env s (seen_core h (views.If a b c)) ≡ all_three (trees.If s) (resolved w env s (seen_core h a)) (resolved w env s (seen_core h b)) (resolved w env s (seen_core h c))
  unfolding resolved
  tree_if a b c = ap (resolved w env s) (seen_if h a b c)

  tree_let : (bs : List (SymId × Core)) (b : Core) → resolved w env s (seen_core h (views.Let bs b))
      ≡ both (trees.Let s) (all_resolved w env s (cores.cores (seen_bound h bs))) (resolved w (ordinary_bound w s (bound_names bs) env) (s + length (bound_names bs)) (seen_core h b))
  unfolding resolved
  tree_let bs b = ap (resolved w env s) (seen_let h bs b)

  tree_mv : (ps : List Core) → resolved w env s (seen_core h (views.Mv ps)) ≡ option_map (trees.Mv s) (all_resolved w env s (cores.cores (seen_cores h ps)))
  unfolding resolved
  tree_mv ps = ap (resolved w env s) (seen_mv h ps)

  tree_mv_let : (ns : List SymId) (a b : Core) → resolved w env s (seen_core h (views.MvLet ns a b))
      ≡ both (trees.MvLet s) (resolved w env s (seen_core h a)) (resolved w (ordinary_bound w s (numbers ns) env) (s + length (numbers ns)) (seen_core h b))
  unfolding resolved
  tree_mv_let ns a b = ap (resolved w env s) (seen_mv_let h ns a b)

  tree_stobj_let : (bs : List (SymId × Core)) (vs : List SymId) (p c : Core) → resolved w env s (seen_core h (views.StobjLet bs vs p c))
      ≡ all_three (trees.StobjLet s) (children_in w env (numbers vs) (bound_names bs) (cores.cores (seen_bound h bs)))
      (resolved w (all_bound s (bound_names bs) env) (s + length (bound_names bs)) (seen_core h p)) (resolved w (ordinary_bound w s (numbers vs) env) (s + length (numbers vs)) (seen_core h c))
  unfolding resolved
  tree_stobj_let bs vs p c = ap (resolved w env s) (seen_stobj_let h bs vs p c)

  tree_with_local : (o : SymId) (ns : List SymId) (p b : Core) → resolved w env s (seen_core h (views.WithLocal o ns p b))
      ≡ both (trees.WithLocal s o.0) (resolved w (all_bound s (o.0 ∷ []) env) (s + 1) (seen_core h p)) (resolved w (ordinary_bound w s (numbers ns) env) (s + length (numbers ns)) (seen_core h b))
  unfolding resolved
  tree_with_local o ns p b = ap (resolved w env s) (seen_with_local h o ns p b)

  tree_must_be_equal : (a b : Core) → resolved w env s (seen_core h (views.MustBeEqual a b)) ≡ option_map trees.MustBeEqual (resolved w env s (seen_core h a))
  unfolding resolved
  tree_must_be_equal a b = ap (resolved w env s) (seen_must_be_equal h a b)

  tree_call : (f : SymId) (ps : List Core) → resolved w env s (seen_core h (views.Call f ps)) ≡ both (trees.Call s) (number_in w f.0) (all_resolved w env s (cores.cores (seen_cores h ps)))
  unfolding resolved
  tree_call f ps = ap (resolved w env s) (seen_call h f ps)

  -- ---- lists of parts

  trees_none : all_resolved w env s cores.none ≡ Some none
  unfolding resolved
  trees_none = refl

  trees_more : (f : cores.Core) (fs : cores.Cores) → all_resolved w env s (cores.more f fs) ≡ both more (resolved w env s f) (all_resolved w env (s + 1) fs)
  unfolding resolved
  trees_more f fs = refl

-- ---- the variants, where `e` is the environment, and those behind it are the same after each part

module _ (h : Objects) (w : World) (at : ℕ) (e : List Binding) (core : Core) where
  abbrev Tree_of : List Term → Option TermId → Type 0
  Tree_of ts r = IsBuilt h ts r (resolved w (seen_environment e) at (seen_core h core))

  -- from a variant to the form that it is
  arm : (view : Core) (ts : List Term) (r : Option TermId) (tree : Option Tree) → core ≡ view → resolved w (seen_environment e) at (seen_core h view) ≡ tree
      → Within ts r → seen_term h ts r ≡ tree → Tree_of ts r
  arm view ts r tree ec q wi is = record { within = wi; is = is ∙ (sym q ∙ ap (λ f. resolved w (seen_environment e) at (seen_core h f)) (sym ec)) }

  pub var_arm : (x : SymId) (ts : List Term) (r : Option TermId) (operand : Operand) → core ≡ variants.Var x → seen_operand h operand ≡ variable_at (seen_environment e) x.0
      → Within ts r → seen_term h ts r ≡ Some (trees.Leaf (seen_operand h operand)) → Tree_of ts r
  var_arm x ts r operand ec eo wi is = arm (variants.Var x) ts r _ ec (tree_var h w (seen_environment e) at x) wi (is ∙ ap (λ o. Some (trees.Leaf o)) eo)

  pub const_arm : (v : Word) (ts : List Term) (r : Option TermId) → core ≡ variants.Const v
      → Within ts r → seen_term h ts r ≡ Some (trees.Leaf (trees.Const (object_of h v))) → Tree_of ts r
  const_arm v ts r ec wi is = arm (variants.Const v) ts r _ ec (tree_const h w (seen_environment e) at v) wi is

  pub if_arm : (a b c xa xb xc : Core) (e1 e2 : List Binding) (t1 t2 t3 t4 : List Term) (ra rb rc r : Option TermId)
      → core ≡ views.If a b c → xa ≡ a → xb ≡ b → xc ≡ c
      → IsBuilt h t1 ra (resolved w (seen_environment e) at (seen_core h xa)) → e1 ≡ e
      → Grown t1 t2 → IsBuilt h t2 rb (resolved w (seen_environment e1) at (seen_core h xb)) → e2 ≡ e1
      → Grown t2 t3 → IsBuilt h t3 rc (resolved w (seen_environment e2) at (seen_core h xc))
      → Within t4 r → seen_term h t4 r ≡ all_three (trees.If at) (seen_term h t3 ra) (seen_term h t3 rb) (seen_term h t3 rc) → Tree_of t4 r
  if_arm a b c xa xb xc e1 e2 t1 t2 t3 t4 ra rb rc r ec ea eb eo b1 n1 g2 b2 n2 g3 b3 wi is =
      arm (views.If a b c) t4 r _ ec (tree_if h w (seen_environment e) at a b c) wi
      (is ∙ alike_three (trees.If at) _ _ _ _ _ _
      (is_later h t1 t3 ra _ (grown_then t1 t2 t3 g2 g3) b1 ∙ ap (λ f. resolved w (seen_environment e) at (seen_core h f)) ea)
      (is_later h t2 t3 rb _ g3 b2 ∙ (ap (λ f. resolved w (seen_environment e1) at (seen_core h f)) eb ∙ ap (λ n. resolved w (seen_environment n) at (seen_core h b)) n1))
      (b3.is ∙ (ap (λ f. resolved w (seen_environment e2) at (seen_core h f)) eo ∙ ap (λ n. resolved w (seen_environment n) at (seen_core h c)) (n2 ∙ n1))))

  -- a body under names
  under : (e1 : List Binding) (ns ms : List ℕ) (xb b : Core) → e1 ≡ e → ns ≡ ms → xb ≡ b
      → resolved w (ordinary_bound w at ns (seen_environment e1)) (at + length ns) (seen_core h xb) ≡ resolved w (ordinary_bound w at ms (seen_environment e)) (at + length ms) (seen_core h b)
  under e1 ns ms xb b n p q =
      ap (λ f. resolved w (ordinary_bound w at ns (seen_environment e1)) (at + length ns) (seen_core h f)) q
      ∙ (ap (λ ks. resolved w (ordinary_bound w at ks (seen_environment e1)) (at + length ks) (seen_core h b)) p
      ∙ ap (λ k. resolved w (ordinary_bound w at ms (seen_environment k)) (at + length ms) (seen_core h b)) n)

  inside : (ns ms : List ℕ) (xb b : Core) → ns ≡ ms → xb ≡ b
      → resolved w (all_bound at ns (seen_environment e)) (at + length ns) (seen_core h xb) ≡ resolved w (all_bound at ms (seen_environment e)) (at + length ms) (seen_core h b)
  inside ns ms xb b p q =
      ap (λ f. resolved w (all_bound at ns (seen_environment e)) (at + length ns) (seen_core h f)) q
      ∙ ap (λ ks. resolved w (all_bound at ks (seen_environment e)) (at + length ks) (seen_core h b)) p

  pub let_arm : (bs xs : List (SymId × Core)) (ns : List SymId) (b xb : Core) (e1 : List Binding) (t1 t2 t3 : List Term) (ids : Option (List TermId)) (rb r : Option TermId)
      → core ≡ views.Let bs b → xs ≡ bs → numbers ns ≡ bound_names bs → xb ≡ b
      → AreBuilt h t1 ids (all_resolved w (seen_environment e) at (cores.cores (seen_bound h xs))) → e1 ≡ e
      → Grown t1 t2 → IsBuilt h t2 rb (resolved w (ordinary_bound w at (numbers ns) (seen_environment e1)) (at + length (numbers ns)) (seen_core h xb))
      → Within t3 r → seen_term h t3 r ≡ both (trees.Let at) (seen_parts h t2 ids) (seen_term h t2 rb) → Tree_of t3 r
  let_arm bs xs ns b xb e1 t1 t2 t3 ids rb r ec es en eb b1 n1 g2 b2 wi is =
      arm (views.Let bs b) t3 r _ ec (tree_let h w (seen_environment e) at bs b) wi
      (is ∙ alike_both (trees.Let at) _ _ _ _
      (are_later h t1 t2 ids _ g2 b1 ∙ ap (λ cs. all_resolved w (seen_environment e) at (cores.cores (seen_bound h cs))) es)
      (b2.is ∙ under e1 (numbers ns) (bound_names bs) xb b n1 en eb))

  pub mv_arm : (ps xs : List Core) (t1 t2 : List Term) (ids : Option (List TermId)) (r : Option TermId)
      → core ≡ views.Mv ps → xs ≡ ps → AreBuilt h t1 ids (all_resolved w (seen_environment e) at (cores.cores (seen_cores h xs)))
      → Within t2 r → seen_term h t2 r ≡ option_map (trees.Mv at) (seen_parts h t1 ids) → Tree_of t2 r
  mv_arm ps xs t1 t2 ids r ec es b1 wi is =
      arm (views.Mv ps) t2 r _ ec (tree_mv h w (seen_environment e) at ps) wi
      (is ∙ ap (option_map (trees.Mv at)) (b1.are ∙ ap (λ cs. all_resolved w (seen_environment e) at (cores.cores (seen_cores h cs))) es))

  pub mv_let_arm : (ns xs : List SymId) (a b xa xb : Core) (e1 : List Binding) (t1 t2 t3 : List Term) (ra rb r : Option TermId)
      → core ≡ views.MvLet ns a b → xs ≡ ns → xa ≡ a → xb ≡ b
      → IsBuilt h t1 ra (resolved w (seen_environment e) at (seen_core h xa)) → e1 ≡ e
      → Grown t1 t2 → IsBuilt h t2 rb (resolved w (ordinary_bound w at (numbers xs) (seen_environment e1)) (at + length (numbers xs)) (seen_core h xb))
      → Within t3 r → seen_term h t3 r ≡ both (trees.MvLet at) (seen_term h t2 ra) (seen_term h t2 rb) → Tree_of t3 r
  mv_let_arm ns xs a b xa xb e1 t1 t2 t3 ra rb r ec es ea eb b1 n1 g2 b2 wi is =
      arm (views.MvLet ns a b) t3 r _ ec (tree_mv_let h w (seen_environment e) at ns a b) wi
      (is ∙ alike_both (trees.MvLet at) _ _ _ _
      (is_later h t1 t2 ra _ g2 b1 ∙ ap (λ f. resolved w (seen_environment e) at (seen_core h f)) ea)
      (b2.is ∙ under e1 (numbers xs) (numbers ns) xb b n1 (ap numbers es) eb))

  pub stobj_let_arm : (bs xs : List (SymId × Core)) (vs us ns : List SymId) (p c xp xc : Core) (e1 : List Binding) (t1 t2 t3 : List Term) (lent : Option (List Child)) (rp rc r : Option TermId)
      → core ≡ views.StobjLet bs vs p c → xs ≡ bs → us ≡ vs → numbers ns ≡ bound_names xs → xp ≡ p → xc ≡ c
      → option_map (map (seen_child h)) lent ≡ children_in w (seen_environment e) (numbers us) (bound_names xs) (cores.cores (seen_bound h xs))
      → IsBuilt h t1 rp (resolved w (all_bound at (numbers ns) (seen_environment e)) (at + length (numbers ns)) (seen_core h xp)) → e1 ≡ e
      → Grown t1 t2 → IsBuilt h t2 rc (resolved w (ordinary_bound w at (numbers us) (seen_environment e1)) (at + length (numbers us)) (seen_core h xc))
      → Within t3 r → seen_term h t3 r ≡ all_three (trees.StobjLet at) (option_map (map (seen_child h)) lent) (seen_term h t2 rp) (seen_term h t2 rc) → Tree_of t3 r
  stobj_let_arm bs xs vs us ns p c xp xc e1 t1 t2 t3 lent rp rc r ec es ev en ep ex el b1 n1 g2 b2 wi is =
      arm (views.StobjLet bs vs p c) t3 r _ ec (tree_stobj_let h w (seen_environment e) at bs vs p c) wi
      (is ∙ alike_three (trees.StobjLet at) _ _ _ _ _ _
      (el ∙ (ap (λ cs. children_in w (seen_environment e) (numbers us) (bound_names cs) (cores.cores (seen_bound h cs))) es ∙ ap (λ ks. children_in w (seen_environment e) (numbers ks) (bound_names bs) (cores.cores (seen_bound h bs))) ev))
      (is_later h t1 t2 rp _ g2 b1 ∙ inside (numbers ns) (bound_names bs) xp p (en ∙ ap (λ (cs : List (SymId × Core)). bound_names cs) es) ep)
      (b2.is ∙ under e1 (numbers us) (numbers vs) xc c n1 (ap numbers ev) ex))

  pub with_local_arm : (o : SymId) (os ns xs : List SymId) (p b xp xb : Core) (e1 : List Binding) (t1 t2 t3 : List Term) (rp rb r : Option TermId)
      → core ≡ views.WithLocal o ns p b → os ≡ o ∷ [] → xs ≡ ns → xp ≡ p → xb ≡ b
      → IsBuilt h t1 rp (resolved w (all_bound at (numbers os) (seen_environment e)) (at + length (numbers os)) (seen_core h xp)) → e1 ≡ e
      → Grown t1 t2 → IsBuilt h t2 rb (resolved w (ordinary_bound w at (numbers xs) (seen_environment e1)) (at + length (numbers xs)) (seen_core h xb))
      → Within t3 r → seen_term h t3 r ≡ both (trees.WithLocal at o.0) (seen_term h t2 rp) (seen_term h t2 rb) → Tree_of t3 r
  with_local_arm o os ns xs p b xp xb e1 t1 t2 t3 rp rb r ec eo es ep eb b1 n1 g2 b2 wi is =
      arm (views.WithLocal o ns p b) t3 r _ ec (tree_with_local h w (seen_environment e) at o ns p b) wi
      (is ∙ alike_both (trees.WithLocal at o.0) _ _ _ _
      (is_later h t1 t2 rp _ g2 b1 ∙ inside (numbers os) (o.0 ∷ []) xp p (ap numbers eo) ep)
      (b2.is ∙ under e1 (numbers xs) (numbers ns) xb b n1 (ap numbers es) eb))

  pub must_be_equal_arm : (a b xa : Core) (t1 t2 : List Term) (ra r : Option TermId)
      → core ≡ views.MustBeEqual a b → xa ≡ a → IsBuilt h t1 ra (resolved w (seen_environment e) at (seen_core h xa))
      → Within t2 r → seen_term h t2 r ≡ option_map trees.MustBeEqual (seen_term h t1 ra) → Tree_of t2 r
  must_be_equal_arm a b xa t1 t2 ra r ec ea b1 wi is =
      arm (views.MustBeEqual a b) t2 r _ ec (tree_must_be_equal h w (seen_environment e) at a b) wi
      (is ∙ ap (option_map trees.MustBeEqual) (b1.is ∙ ap (λ f. resolved w (seen_environment e) at (seen_core h f)) ea))

  pub call_arm : (f : SymId) (ps xs : List Core) (n : Option FnId) (t1 t2 : List Term) (ids : Option (List TermId)) (r : Option TermId)
      → core ≡ views.Call f ps → xs ≡ ps → option_map (λ (k : FnId). k.0) n ≡ number_in w f.0
      → AreBuilt h t1 ids (all_resolved w (seen_environment e) at (cores.cores (seen_cores h xs)))
      → Within t2 r → seen_term h t2 r ≡ both (trees.Call at) (option_map (λ (k : FnId). k.0) n) (seen_parts h t1 ids) → Tree_of t2 r
  call_arm f ps xs n t1 t2 ids r ec es en b1 wi is =
      arm (views.Call f ps) t2 r _ ec (tree_call h w (seen_environment e) at f ps) wi
      (is ∙ alike_both (trees.Call at) _ _ _ _ en (b1.are ∙ ap (λ cs. all_resolved w (seen_environment e) at (cores.cores (seen_cores h cs))) es))

-- ---- under names

-- the environment behind the names that are bound, and its slot
pub behind_ordinary : (h : Objects) (w : World) (e e1 : List Binding) (ns : List SymId) (at s : ℕ) (f : Core) (ts : List Term) (r : Option TermId)
    → s ≡ at + length ns → seen_environment e1 ≡ ordinary_bound w at (numbers ns) (seen_environment e) → IsBuilt h ts r (resolved w (seen_environment e1) s (seen_core h f))
    → IsBuilt h ts r (resolved w (ordinary_bound w at (numbers ns) (seen_environment e)) (at + length (numbers ns)) (seen_core h f))
behind_ordinary h w e e1 ns at s f ts r es ee b =
    let n : s ≡ at + length (numbers ns) = let m : length (numbers ns) ≡ length ns = length-map ns _ in omega (arith, es, m) in
    record { within = b.within; is = b.is ∙ (ap (λ env. resolved w env s (seen_core h f)) ee ∙ ap (λ k. resolved w (ordinary_bound w at (numbers ns) (seen_environment e)) k (seen_core h f)) n) }

pub behind_all : (h : Objects) (w : World) (e e1 : List Binding) (ns : List SymId) (at s : ℕ) (f : Core) (ts : List Term) (r : Option TermId)
    → s ≡ at + length ns → seen_environment e1 ≡ all_bound at (numbers ns) (seen_environment e) → IsBuilt h ts r (resolved w (seen_environment e1) s (seen_core h f))
    → IsBuilt h ts r (resolved w (all_bound at (numbers ns) (seen_environment e)) (at + length (numbers ns)) (seen_core h f))
behind_all h w e e1 ns at s f ts r es ee b =
    let n : s ≡ at + length (numbers ns) = let m : length (numbers ns) ≡ length ns = length-map ns _ in omega (arith, es, m) in
    record { within = b.within; is = b.is ∙ (ap (λ env. resolved w env s (seen_core h f)) ee ∙ ap (λ k. resolved w (all_bound at (numbers ns) (seen_environment e)) k (seen_core h f)) n) }

pub fits_behind : (h : Objects) (at s : ℕ) (ns : List SymId) (f : Core) → s ≡ at + length ns → Fits h (at + length (numbers ns)) f → Fits h s f
fits_behind h at s ns f e g =
    let n : at + length (numbers ns) ≡ s = let m : length (numbers ns) ≡ length ns = length-map ns _ in omega (arith, e, m) in
    subst (λ k. Fits h k f) n g

pub fits_under : (h : Objects) (at : ℕ) (ns ms : List ℕ) (f : Core) → ns ≡ ms → Fits h (at + length ms) f → Fits h (at + length ns) f
fits_under h at ns ms f e g = subst (λ (ks : List ℕ). Fits h (at + length ks) f) (sym e) g

pub fits_as : (h : Objects) (s k : ℕ) (f : Core) → s ≡ k → Fits h s f → Fits h k f
fits_as h s k f e g = subst (λ i. Fits h i f) e g

-- a body under formals
pub body_built : (h : Objects) (w : World) (e : List Binding) (fs : List SymId) (f : Core) (ts : List Term) (r : Option TermId) → e ≡ []
    → IsBuilt h ts r (resolved w (all_bound 0 (numbers fs) (seen_environment e)) (0 + length (numbers fs)) (seen_core h f))
    → IsBuilt h ts r (resolved w (formal_environment (numbers fs)) (length fs) (seen_core h f))
body_built h w e fs f ts r ee b =
    let n : 0 + length (numbers fs) ≡ length fs = let m : length (numbers fs) ≡ length fs = length-map fs _ in omega (arith, m) in
    record { within = b.within; is = b.is ∙ (ap (λ k. resolved w (all_bound 0 (numbers fs) (seen_environment k)) (0 + length (numbers fs)) (seen_core h f)) ee ∙ ap (λ k. resolved w (all_bound 0 (numbers fs) []) k (seen_core h f)) n) }

pub body_fits : (h : Objects) (fs : List SymId) (f : Core) → Fits h (length fs) f → Fits h (0 + length (numbers fs)) f
body_fits h fs f g =
    let n : length fs ≡ 0 + length (numbers fs) = let m : length (numbers fs) ≡ length fs = length-map fs _ in omega (arith, m) in
    subst (λ k. Fits h k f) n g

-- ---- parts one after another

-- trees in front of the others
abbrev pub joined : List Tree → Trees → Trees
joined [] us = us
joined (t ∷ ts) us = more t (joined ts us)

abbrev pub parts_then : List Tree → Option Trees → Option Trees
parts_then ts rest = option_map (joined ts) rest

then_nothing : (o : Option Trees) → o ≡ parts_then [] o
then_nothing None = refl
then_nothing (Some us) = refl

joined_push : (ts : List Tree) (t : Tree) (us : Trees) → joined ts (more t us) ≡ joined (ts ++ t ∷ []) us
joined_push [] t us = refl
joined_push (u ∷ ts) t us = ap (λ vs. more u vs) (joined_push ts t us)

joined_end : (ts : List Tree) → joined ts none ≡ trees.trees ts
joined_end [] = refl
joined_end (t ∷ ts) = ap (λ us. more t us) (joined_end ts)

then_one : (ts : List Tree) (t : Tree) (o : Option Trees) → parts_then ts (both more (Some t) o) ≡ parts_then (ts ++ t ∷ []) o
then_one ts t None = refl
then_one ts t (Some us) = ap Some (joined_push ts t us)

-- the terms of parts so far, and the parts that are left
pub record BuiltSoFar (h : Objects) (w : World) (e now_e : List Binding) (at : ℕ) (start now : List Term) (all left : cores.Cores) (i : ℕ) (found : List TermId) : Type 0 where
  pub environment : now_e ≡ e
  pub grows : Grown start now
  pub words : TermsLie h now
  pub known : (n : ℕ) → 1 < n → FormsAreKnown n all → ConstantsAreKnown n h start → ConstantsAreKnown n h now
  pub within : AllIn now found
  pub are : all_resolved w (seen_environment e) at all ≡ parts_then (map (tree_at h now) found) (all_resolved w (seen_environment e) (at + i) left)

in_push : (ts : List Term) (ids : List TermId) (t : TermId) → AllIn ts ids → t.0 < length ts → AllIn ts (ids ++ t ∷ [])
in_push ts [] t a l = (l, tt)
in_push ts (i ∷ ids) t a l = (a.0, in_push ts ids t a.1 l)

pub parts_start : (h : Objects) (w : World) (e : List Binding) (at : ℕ) (start : List Term) (all : cores.Cores) → TermsLie h start → BuiltSoFar h w e e at start start all all 0 []
parts_start h w e at start all l =
    let z : at ≡ at + 0 = omega arith in
    record {
      environment = refl;
      grows = grown_same start;
      words = l;
      known = λ n b k c. c;
      within = tt;
      are = ap (λ k. all_resolved w (seen_environment e) k all) z ∙ then_nothing (all_resolved w (seen_environment e) (at + 0) all);
    }

module _ (h : Objects) (w : World) (e now_e : List Binding) (at : ℕ) (start now : List Term) (all left rest : cores.Cores) (f : cores.Core) (i : ℕ) (found : List TermId)
    (s : BuiltSoFar h w e now_e at start now all left i found) (el : left ≡ cores.more f rest) where
  on : all_resolved w (seen_environment e) at all
      ≡ parts_then (map (tree_at h now) found) (both more (resolved w (seen_environment e) (at + i) f) (all_resolved w (seen_environment e) (at + (i + 1)) rest))
  on =
      let n : (at + i) + 1 ≡ at + (i + 1) = omega arith in
      s.are ∙ (ap (λ fs. parts_then (map (tree_at h now) found) (all_resolved w (seen_environment e) (at + i) fs)) el
      ∙ (ap (parts_then (map (tree_at h now) found)) (trees_more h w (seen_environment e) (at + i) f rest)
      ∙ ap (λ k. parts_then (map (tree_at h now) found) (both more (resolved w (seen_environment e) (at + i) f) (all_resolved w (seen_environment e) k rest))) n))

  built_here : (new : List Term) (o : Option TermId) (k : ℕ) → k ≡ at + i → IsBuilt h new o (resolved w (seen_environment now_e) k f) → seen_term h new o ≡ resolved w (seen_environment e) (at + i) f
  built_here new o k ek b = b.is ∙ (ap (λ m. resolved w (seen_environment now_e) m f) ek ∙ ap (λ n. resolved w (seen_environment n) (at + i) f) s.environment)

  pub parts_step : (next_e : List Binding) (new : List Term) (o : Option TermId) (t : TermId) (k : ℕ) (more_found : List TermId) → k ≡ at + i → o ≡ Some t → next_e ≡ now_e → Grown now new → TermsLie h new
      → ((n : ℕ) → 1 < n → FormsAreKnown n all → ConstantsAreKnown n h now → ConstantsAreKnown n h new)
      → IsBuilt h new o (resolved w (seen_environment now_e) k f) → more_found ≡ found ++ t ∷ [] → BuiltSoFar h w e next_e at start new all rest (i + 1) more_found
  parts_step next_e new o t k more_found ek eo ee g l known b em =
      let lies : t.0 < length new = subst (Within new) eo b.within in
      let is : Some (tree_at h new t) ≡ resolved w (seen_environment e) (at + i) f = ap (seen_term h new) (sym eo) ∙ built_here new o k ek b in
      let r : BuiltSoFar h w e next_e at start new all rest (i + 1) (found ++ t ∷ []) = record {
        environment = ee ∙ s.environment;
        grows = grown_then start now new s.grows g;
        words = l;
        known = λ n m j c. known n m j (s.known n m j c);
        within = in_push new found t (in_later now new found g s.within) lies;
        are = on ∙ (ap (λ r. parts_then (map (tree_at h now) found) (both more r (all_resolved w (seen_environment e) (at + (i + 1)) rest))) (sym is)
            ∙ (then_one (map (tree_at h now) found) (tree_at h new t) (all_resolved w (seen_environment e) (at + (i + 1)) rest)
            ∙ (ap (λ ts. parts_then (ts ++ tree_at h new t ∷ []) (all_resolved w (seen_environment e) (at + (i + 1)) rest)) (sym (trees_later h now new found g s.within))
            ∙ ap (λ ts. parts_then ts (all_resolved w (seen_environment e) (at + (i + 1)) rest)) (sym (map-append (tree_at h new) found (t ∷ []))))));
      } in
      subst (λ ids. BuiltSoFar h w e next_e at start new all rest (i + 1) ids) (sym em) r

  pub parts_nothing : (new : List Term) (o : Option TermId) (k : ℕ) → k ≡ at + i → o ≡ None → IsBuilt h new o (resolved w (seen_environment now_e) k f)
      → AreBuilt h new None (all_resolved w (seen_environment e) at all)
  parts_nothing new o k ek eo b =
      let is : None ≡ resolved w (seen_environment e) (at + i) f = ap (seen_term h new) (sym eo) ∙ built_here new o k ek b in
      record {
        within = tt;
        are = sym (on ∙ ap (λ r. parts_then (map (tree_at h now) found) (both more r (all_resolved w (seen_environment e) (at + (i + 1)) rest))) (sym is));
      }

pub parts_end : (h : Objects) (w : World) (e now_e : List Binding) (at : ℕ) (start now : List Term) (all left : cores.Cores) (i : ℕ) (found : List TermId)
    → left ≡ cores.none → BuiltSoFar h w e now_e at start now all left i found → AreBuilt h now (Some found) (all_resolved w (seen_environment e) at all)
parts_end h w e now_e at start now all left i found el s = record {
  within = s.within;
  are = sym (s.are ∙ (ap (λ fs. parts_then (map (tree_at h now) found) (all_resolved w (seen_environment e) (at + i) fs)) el
      ∙ (ap (parts_then (map (tree_at h now) found)) (trees_none h w (seen_environment e) (at + i)) ∙ ap Some (joined_end (map (tree_at h now) found)))));
}

-- the parts and the bindings that are left
pub part_left : (h : Objects) (fs : List Core) (i : ℕ) (d : Core) → i < length fs → d ≡ get_or fs i d
    → cores.cores (seen_cores h (drop i fs)) ≡ cores.more (seen_core h d) (cores.cores (seen_cores h (drop (i + 1) fs)))
part_left h fs i d l s =
    let e : drop i fs ≡ get_or fs i d ∷ drop (i + 1) fs = rw (add-one i, drop-cons fs i d l) refl in
    ap (λ gs. cores.cores (seen_cores h gs)) e ∙ ap (λ g. cores.more (seen_core h g) (cores.cores (seen_cores h (drop (i + 1) fs)))) (sym s)

pub parts_past : (h : Objects) (fs : List Core) (i : ℕ) → length fs ≤ i → cores.cores (seen_cores h (drop i fs)) ≡ cores.none
parts_past h fs i l = rw (drop_of_length-le fs l) refl

pub binding_left : (h : Objects) (bs : List (SymId × Core)) (i : ℕ) (d : SymId × Core) → i < length bs → d ≡ get_or bs i d
    → cores.cores (seen_bound h (drop i bs)) ≡ cores.more (seen_core h d.1) (cores.cores (seen_bound h (drop (i + 1) bs)))
binding_left h bs i d l s =
    let e : drop i bs ≡ get_or bs i d ∷ drop (i + 1) bs = rw (add-one i, drop-cons bs i d l) refl in
    ap (λ cs. cores.cores (seen_bound h cs)) e ∙ ap (λ c. cores.more (seen_core h c.1) (cores.cores (seen_bound h (drop (i + 1) bs)))) (sym s)

pub bindings_past : (h : Objects) (bs : List (SymId × Core)) (i : ℕ) → length bs ≤ i → cores.cores (seen_bound h (drop i bs)) ≡ cores.none
bindings_past h bs i l = rw (drop_of_length-le bs l) refl
