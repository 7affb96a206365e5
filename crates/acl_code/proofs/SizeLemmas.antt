-- Parts of a form are no larger than it, and their words lie where its do.
use Rattle.std.specs.Prelude.{◌≡◌, ℕ, zero, suc, ◌+◌, ◌*◌, ◌^◌, ◌<◌, ◌≤◌, List, [], ◌∷◌, ◌++◌, map, max, length, refl}
use Rattle.std.proofs.Common.{sym, ap, ◌∙◌, arith, subst, get_or}
use Rattle.std.proofs.lemmas.List.{length-map}
use Rattle.acl_base.specs.declared.SymId.{SymId}
use Rattle.acl_base.specs.declared.Word.{Word}
use Rattle.acl_heap.specs.Objects.{Objects, reach}
use Rattle.model_terms.specs.Cores as cores
use Rattle.model_terms.specs.Cores.{count}
use Rattle.acl_terms.specs.declared.form.Core.{Core}
use Rattle.acl_terms.specs.declared.form.Core.TheOpen as layer
use Rattle.acl_terms.specs.declared.form.Core.TheShapes as shapes
use Rattle.acl_terms.specs.declared.form.Core.TheViews as views
use Rattle.acl_terms.specs.declared.form.Core.TheVariants as variants
use Rattle.acl_terms.specs.declared.form.Core.TheFolds.{fold-roll-Core}
use Rattle.acl_terms.specs.Depths.{depth_of, depth_of_all}
use Rattle.acl_terms.specs.Forms.{numbers, bound_names, bound_parts, most, CoreLies, core_reach, layer_reach, seen_core, seen_cores, seen_bound}
use Rattle.acl_terms.specs.FormLaws.{seen_if, seen_let, seen_mv, seen_mv_let, seen_stobj_let, seen_with_local, seen_must_be_equal, seen_call}
use Rattle.acl_code.specs.declared.term.Child.{Child}
use Rattle.acl_code.specs.Tables.{child_reach}
use Rattle.acl_code.specs.Children.{BoundLie}
use Rattle.acl_code.specs.Sizes.{slots_of, slots_of_all, longest_of, longest_of_all, Fits, FitParts, FitBound}
use Rattle.acl_code.proofs.TableLemmas.{most_push}

-- ---- words

const_reach : (w : Word) → core_reach (variants.Const w) ≡ reach w
const_reach w = ap core_reach (sym (variants.rolls-Const w)) ∙ fold-roll-Core ℕ layer_reach (layer.Const w)

if_reach : (a b c : Core) → core_reach (views.If a b c) ≡ max (core_reach a) (max (core_reach b) (core_reach c))
if_reach a b c = ap core_reach (sym (variants.rolls-If a b c)) ∙ fold-roll-Core ℕ layer_reach (layer.If a b c)

mv_reach : (parts : List Core) → core_reach (views.Mv parts) ≡ most (map core_reach parts)
mv_reach parts = ap core_reach (sym (variants.rolls-Mv parts)) ∙ fold-roll-Core ℕ layer_reach (layer.Mv parts)

mv_let_reach : (names : List SymId) (a b : Core) → core_reach (views.MvLet names a b) ≡ max (core_reach a) (core_reach b)
mv_let_reach names a b = ap core_reach (sym (variants.rolls-MvLet names a b)) ∙ fold-roll-Core ℕ layer_reach (layer.MvLet names a b)

with_local_reach : (stobj : SymId) (names : List SymId) (a b : Core) → core_reach (views.WithLocal stobj names a b) ≡ max (core_reach a) (core_reach b)
with_local_reach stobj names a b = ap core_reach (sym (variants.rolls-WithLocal stobj names a b)) ∙ fold-roll-Core ℕ layer_reach (layer.WithLocal stobj names a b)

must_be_equal_reach : (a b : Core) → core_reach (views.MustBeEqual a b) ≡ max (core_reach a) (core_reach b)
must_be_equal_reach a b = ap core_reach (sym (variants.rolls-MustBeEqual a b)) ∙ fold-roll-Core ℕ layer_reach (layer.MustBeEqual a b)

call_reach : (f : SymId) (parts : List Core) → core_reach (views.Call f parts) ≡ most (map core_reach parts)
call_reach f parts = ap core_reach (sym (variants.rolls-Call f parts)) ∙ fold-roll-Core ℕ layer_reach (layer.Call f parts)

abbrev reaches : List (SymId × Core) → List ℕ
reaches bs = bound_parts (map (shapes.former-Core-Let-0-at-2.map Core ℕ core_reach) bs)

same_reaches : (bs : List (SymId × Core)) → reaches bs ≡ map (λ (b : SymId × Core). core_reach b.1) bs
same_reaches [] = refl
same_reaches (b ∷ bs) = ap (λ ns. core_reach b.1 ∷ ns) (same_reaches bs)

let_reach : (bs : List (SymId × Core)) (b : Core) → core_reach (views.Let bs b) ≡ max (most (map (λ (b : SymId × Core). core_reach b.1) bs)) (core_reach b)
let_reach bs b =
    ap core_reach (sym (variants.rolls-Let bs b)) ∙ (fold-roll-Core ℕ layer_reach (layer.Let bs b) ∙ ap (λ ns. max (most ns) (core_reach b)) (same_reaches bs))

stobj_let_reach : (bs : List (SymId × Core)) (vars : List SymId) (p c : Core)
    → core_reach (views.StobjLet bs vars p c) ≡ max (most (map (λ (b : SymId × Core). core_reach b.1) bs)) (max (core_reach p) (core_reach c))
stobj_let_reach bs vars p c =
    ap core_reach (sym (variants.rolls-StobjLet bs vars p c)) ∙ (fold-roll-Core ℕ layer_reach (layer.StobjLet bs vars p c)
    ∙ ap (λ ns. max (most ns) (max (core_reach p) (core_reach c))) (same_reaches bs))

most_at : {X : Type 0} (reach_of : X → ℕ) (xs : List X) (i : ℕ) (d : X) → i < length xs → reach_of (get_or xs i d) ≤ most (map reach_of xs)
most_at reach_of [] i d l = absurd (omega (arith, l))
most_at reach_of (x ∷ xs) zero d l = omega arith
most_at reach_of (x ∷ xs) (suc i) d l = let e = most_at reach_of xs i d (omega (arith, l)) in omega (arith, e)

pub const_word : (n : ℕ) (w : Word) → core_reach (variants.Const w) ≤ n → reach w ≤ n
const_word n w l = omega (arith, l, const_reach w)

pub call_words : (n : ℕ) (f : SymId) (parts : List Core) → core_reach (views.Call f parts) ≤ n → most (map core_reach parts) ≤ n
call_words n f parts l = omega (arith, l, call_reach f parts)

pub first_lies : (n : ℕ) (parts : List Core) (i : ℕ) (d : Core) → most (map core_reach parts) ≤ n → i < length parts → core_reach (get_or parts i d) ≤ n
first_lies n parts i d m l = let e = most_at core_reach parts i d l in omega (arith, m, e)

pub bound_lies : (n : ℕ) (bs : List (SymId × Core)) (i : ℕ) (d : SymId × Core) → most (map (λ (b : SymId × Core). core_reach b.1) bs) ≤ n → i < length bs → core_reach (get_or bs i d).1 ≤ n
bound_lies n bs i d m l = let e = most_at (λ (b : SymId × Core). core_reach b.1) bs i d l in omega (arith, m, e)

pub children_push : (n : ℕ) (cs : List Child) (c : Child) → most (map child_reach cs) ≤ n → child_reach c ≤ n → most (map child_reach (cs ++ c ∷ [])) ≤ n
children_push n cs c l m = omega (arith, l, m, most_push child_reach cs c)

-- ---- parts of each variant

module _ (h : Objects) (at : ℕ) (core : Core) where
  pub if_test : (a : Core) (b : Core) (c : Core) (x : Core) → core ≡ views.If a b c → x ≡ a → Fits h at core → Fits h at x
  if_test a b c x e s f =
      let g : Fits h at (views.If a b c) = subst (λ y. Fits h at y) e f in
      let i = ap depth_of (seen_if h a b c) in
      let j = ap slots_of (seen_if h a b c) in
      let r : Fits h at a = record { deep = omega (arith, g.deep, i); room = omega (arith, g.room, j); lies = omega (arith, g.lies, if_reach a b c) } in
      subst (λ y. Fits h at y) (sym s) r

  pub if_then : (a : Core) (b : Core) (c : Core) (x : Core) → core ≡ views.If a b c → x ≡ b → Fits h at core → Fits h at x
  if_then a b c x e s f =
      let g : Fits h at (views.If a b c) = subst (λ y. Fits h at y) e f in
      let i = ap depth_of (seen_if h a b c) in
      let j = ap slots_of (seen_if h a b c) in
      let r : Fits h at b = record { deep = omega (arith, g.deep, i); room = omega (arith, g.room, j); lies = omega (arith, g.lies, if_reach a b c) } in
      subst (λ y. Fits h at y) (sym s) r

  pub if_other : (a : Core) (b : Core) (c : Core) (x : Core) → core ≡ views.If a b c → x ≡ c → Fits h at core → Fits h at x
  if_other a b c x e s f =
      let g : Fits h at (views.If a b c) = subst (λ y. Fits h at y) e f in
      let i = ap depth_of (seen_if h a b c) in
      let j = ap slots_of (seen_if h a b c) in
      let r : Fits h at c = record { deep = omega (arith, g.deep, i); room = omega (arith, g.room, j); lies = omega (arith, g.lies, if_reach a b c) } in
      subst (λ y. Fits h at y) (sym s) r

  pub let_bound : (bs : List (SymId × Core)) (b : Core) (x : List (SymId × Core)) → core ≡ views.Let bs b → x ≡ bs → Fits h at core → FitBound h at x
  let_bound bs b x e s f =
      let g : Fits h at (views.Let bs b) = subst (λ y. Fits h at y) e f in
      let i = ap depth_of (seen_let h bs b) in
      let j = ap slots_of (seen_let h bs b) in
      let r : FitBound h at bs = record { deep = omega (arith, g.deep, i); room = omega (arith, g.room, j); lies = omega (arith, g.lies, let_reach bs b) } in
      subst (λ y. FitBound h at y) (sym s) r

  pub let_body : (bs : List (SymId × Core)) (b : Core) (x : Core) → core ≡ views.Let bs b → x ≡ b → Fits h at core → Fits h (at + length (bound_names bs)) x
  let_body bs b x e s f =
      let g : Fits h at (views.Let bs b) = subst (λ y. Fits h at y) e f in
      let i = ap depth_of (seen_let h bs b) in
      let j = ap slots_of (seen_let h bs b) in
      let r : Fits h (at + length (bound_names bs)) b = record { deep = omega (arith, g.deep, i); room = omega (arith, g.room, j); lies = omega (arith, g.lies, let_reach bs b) } in
      subst (λ y. Fits h (at + length (bound_names bs)) y) (sym s) r

  pub mv_parts : (ps : List Core) (x : List Core) → core ≡ views.Mv ps → x ≡ ps → Fits h at core → FitParts h at x
  mv_parts ps x e s f =
      let g : Fits h at (views.Mv ps) = subst (λ y. Fits h at y) e f in
      let i = ap depth_of (seen_mv h ps) in
      let j = ap slots_of (seen_mv h ps) in
      let r : FitParts h at ps = record { deep = omega (arith, g.deep, i); room = omega (arith, g.room, j); lies = omega (arith, g.lies, mv_reach ps) } in
      subst (λ y. FitParts h at y) (sym s) r

  pub mv_let_bound : (ns : List SymId) (a : Core) (b : Core) (x : Core) → core ≡ views.MvLet ns a b → x ≡ a → Fits h at core → Fits h at x
  mv_let_bound ns a b x e s f =
      let g : Fits h at (views.MvLet ns a b) = subst (λ y. Fits h at y) e f in
      let i = ap depth_of (seen_mv_let h ns a b) in
      let j = ap slots_of (seen_mv_let h ns a b) in
      let r : Fits h at a = record { deep = omega (arith, g.deep, i); room = omega (arith, g.room, j); lies = omega (arith, g.lies, mv_let_reach ns a b) } in
      subst (λ y. Fits h at y) (sym s) r

  pub mv_let_body : (ns : List SymId) (a : Core) (b : Core) (x : Core) → core ≡ views.MvLet ns a b → x ≡ b → Fits h at core → Fits h (at + length (numbers ns)) x
  mv_let_body ns a b x e s f =
      let g : Fits h at (views.MvLet ns a b) = subst (λ y. Fits h at y) e f in
      let i = ap depth_of (seen_mv_let h ns a b) in
      let j = ap slots_of (seen_mv_let h ns a b) in
      let r : Fits h (at + length (numbers ns)) b = record { deep = omega (arith, g.deep, i); room = omega (arith, g.room, j); lies = omega (arith, g.lies, mv_let_reach ns a b) } in
      subst (λ y. Fits h (at + length (numbers ns)) y) (sym s) r

  pub stobj_let_producer : (bs : List (SymId × Core)) (vs : List SymId) (p : Core) (c : Core) (x : Core) → core ≡ views.StobjLet bs vs p c → x ≡ p → Fits h at core → Fits h (at + length (bound_names bs)) x
  stobj_let_producer bs vs p c x e s f =
      let g : Fits h at (views.StobjLet bs vs p c) = subst (λ y. Fits h at y) e f in
      let i = ap depth_of (seen_stobj_let h bs vs p c) in
      let j = ap slots_of (seen_stobj_let h bs vs p c) in
      let r : Fits h (at + length (bound_names bs)) p = record { deep = omega (arith, g.deep, i); room = omega (arith, g.room, j); lies = omega (arith, g.lies, stobj_let_reach bs vs p c) } in
      subst (λ y. Fits h (at + length (bound_names bs)) y) (sym s) r

  pub stobj_let_consumer : (bs : List (SymId × Core)) (vs : List SymId) (p : Core) (c : Core) (x : Core) → core ≡ views.StobjLet bs vs p c → x ≡ c → Fits h at core → Fits h (at + length (numbers vs)) x
  stobj_let_consumer bs vs p c x e s f =
      let g : Fits h at (views.StobjLet bs vs p c) = subst (λ y. Fits h at y) e f in
      let i = ap depth_of (seen_stobj_let h bs vs p c) in
      let j = ap slots_of (seen_stobj_let h bs vs p c) in
      let r : Fits h (at + length (numbers vs)) c = record { deep = omega (arith, g.deep, i); room = omega (arith, g.room, j); lies = omega (arith, g.lies, stobj_let_reach bs vs p c) } in
      subst (λ y. Fits h (at + length (numbers vs)) y) (sym s) r

  pub stobj_let_children : (bs : List (SymId × Core)) (vs : List SymId) (p c : Core) (x : List (SymId × Core)) → core ≡ views.StobjLet bs vs p c → x ≡ bs → Fits h at core → BoundLie h x
  stobj_let_children bs vs p c x e s f =
      let g : Fits h at (views.StobjLet bs vs p c) = subst (λ y. Fits h at y) e f in
      let r : BoundLie h bs = omega (arith, g.lies, stobj_let_reach bs vs p c) in
      subst (λ y. BoundLie h y) (sym s) r

  pub with_local_producer : (o : SymId) (ns : List SymId) (p : Core) (b : Core) (x : Core) → core ≡ views.WithLocal o ns p b → x ≡ p → Fits h at core → Fits h (at + 1) x
  with_local_producer o ns p b x e s f =
      let g : Fits h at (views.WithLocal o ns p b) = subst (λ y. Fits h at y) e f in
      let i = ap depth_of (seen_with_local h o ns p b) in
      let j = ap slots_of (seen_with_local h o ns p b) in
      let r : Fits h (at + 1) p = record { deep = omega (arith, g.deep, i); room = omega (arith, g.room, j); lies = omega (arith, g.lies, with_local_reach o ns p b) } in
      subst (λ y. Fits h (at + 1) y) (sym s) r

  pub with_local_body : (o : SymId) (ns : List SymId) (p : Core) (b : Core) (x : Core) → core ≡ views.WithLocal o ns p b → x ≡ b → Fits h at core → Fits h (at + length (numbers ns)) x
  with_local_body o ns p b x e s f =
      let g : Fits h at (views.WithLocal o ns p b) = subst (λ y. Fits h at y) e f in
      let i = ap depth_of (seen_with_local h o ns p b) in
      let j = ap slots_of (seen_with_local h o ns p b) in
      let r : Fits h (at + length (numbers ns)) b = record { deep = omega (arith, g.deep, i); room = omega (arith, g.room, j); lies = omega (arith, g.lies, with_local_reach o ns p b) } in
      subst (λ y. Fits h (at + length (numbers ns)) y) (sym s) r

  pub must_be_equal_logic : (a : Core) (b : Core) (x : Core) → core ≡ views.MustBeEqual a b → x ≡ a → Fits h at core → Fits h at x
  must_be_equal_logic a b x e s f =
      let g : Fits h at (views.MustBeEqual a b) = subst (λ y. Fits h at y) e f in
      let i = ap depth_of (seen_must_be_equal h a b) in
      let j = ap slots_of (seen_must_be_equal h a b) in
      let r : Fits h at a = record { deep = omega (arith, g.deep, i); room = omega (arith, g.room, j); lies = omega (arith, g.lies, must_be_equal_reach a b) } in
      subst (λ y. Fits h at y) (sym s) r

  pub call_actuals : (g0 : SymId) (ps : List Core) (x : List Core) → core ≡ views.Call g0 ps → x ≡ ps → Fits h at core → FitParts h at x
  call_actuals g0 ps x e s f =
      let g : Fits h at (views.Call g0 ps) = subst (λ y. Fits h at y) e f in
      let i = ap depth_of (seen_call h g0 ps) in
      let j = ap slots_of (seen_call h g0 ps) in
      let r : FitParts h at ps = record { deep = omega (arith, g.deep, i); room = omega (arith, g.room, j); lies = omega (arith, g.lies, call_reach g0 ps) } in
      subst (λ y. FitParts h at y) (sym s) r

  pub const_fits : (v : Word) → core ≡ variants.Const v → Fits h at core → reach v ≤ length h
  const_fits v e f =
      let g : Fits h at (variants.Const v) = subst (λ y. Fits h at y) e f in
      omega (arith, g.lies, const_reach v)

-- ---- one of many

module _ (h : Objects) where
  deep_at : (fs : List Core) (i : ℕ) (d : Core) → i < length fs → depth_of (seen_core h (get_or fs i d)) ≤ depth_of_all (cores.cores (seen_cores h fs))
  deep_at [] i d l = absurd (omega (arith, l))
  deep_at (f ∷ fs) zero d l = omega arith
  deep_at (f ∷ fs) (suc i) d l = let e = deep_at fs i d (omega (arith, l)) in omega (arith, e)

  room_at : (fs : List Core) (i : ℕ) (d : Core) → i < length fs → i + slots_of (seen_core h (get_or fs i d)) ≤ slots_of_all (cores.cores (seen_cores h fs))
  room_at [] i d l = absurd (omega (arith, l))
  room_at (f ∷ fs) zero d l = omega arith
  room_at (f ∷ fs) (suc i) d l = let e = room_at fs i d (omega (arith, l)) in omega (arith, e)

  pub part_fits : (at : ℕ) (fs : List Core) (i k : ℕ) (d : Core) → FitParts h at fs → i < length fs → d ≡ get_or fs i d → k ≡ at + i → Fits h k d
  part_fits at fs i k d f l e n =
      let g : Fits h (at + i) (get_or fs i d) = record {
        deep = omega (arith, f.deep, deep_at fs i d l);
        room = omega (arith, f.room, room_at fs i d l);
        lies = omega (arith, f.lies, most_at core_reach fs i d l);
      } in
      subst (λ j. Fits h j d) (sym n) (subst (λ x. Fits h (at + i) x) (sym e) g)

  pub part_slot : (at : ℕ) (fs : List Core) (i : ℕ) (d : Core) → FitParts h at fs → i < length fs → at + i < 2 ^ 64
  part_slot at fs i d f l = omega (arith, f.room, room_at fs i d l)

  deep_bound_at : (bs : List (SymId × Core)) (i : ℕ) (d : SymId × Core) → i < length bs → depth_of (seen_core h (get_or bs i d).1) ≤ depth_of_all (cores.cores (seen_bound h bs))
  deep_bound_at [] i d l = absurd (omega (arith, l))
  deep_bound_at (b ∷ bs) zero d l = omega arith
  deep_bound_at (b ∷ bs) (suc i) d l = let e = deep_bound_at bs i d (omega (arith, l)) in omega (arith, e)

  room_bound_at : (bs : List (SymId × Core)) (i : ℕ) (d : SymId × Core) → i < length bs → i + slots_of (seen_core h (get_or bs i d).1) ≤ slots_of_all (cores.cores (seen_bound h bs))
  room_bound_at [] i d l = absurd (omega (arith, l))
  room_bound_at (b ∷ bs) zero d l = omega arith
  room_bound_at (b ∷ bs) (suc i) d l = let e = room_bound_at bs i d (omega (arith, l)) in omega (arith, e)

  pub bound_fits : (at : ℕ) (bs : List (SymId × Core)) (i k : ℕ) (d : SymId × Core) → FitBound h at bs → i < length bs → d ≡ get_or bs i d → k ≡ at + i → Fits h k d.1
  bound_fits at bs i k d f l e n =
      let g : Fits h (at + i) (get_or bs i d).1 = record {
        deep = omega (arith, f.deep, deep_bound_at bs i d l);
        room = omega (arith, f.room, room_bound_at bs i d l);
        lies = omega (arith, f.lies, most_at (λ (b : SymId × Core). core_reach b.1) bs i d l);
      } in
      subst (λ j. Fits h j d.1) (sym n) (subst (λ (x : SymId × Core). Fits h (at + i) x.1) (sym e) g)

  pub bound_slot : (at : ℕ) (bs : List (SymId × Core)) (i : ℕ) (d : SymId × Core) → FitBound h at bs → i < length bs → at + i < 2 ^ 64
  bound_slot at bs i d f l = omega (arith, f.room, room_bound_at bs i d l)

-- a slot behind names that fit
pub names_room : (h : Objects) (at : ℕ) (ns : List SymId) (f : Core) → Fits h (at + length (numbers ns)) f → at + length ns < 2 ^ 64
names_room h at ns f g = let e : length (numbers ns) ≡ length ns = length-map ns _ in omega (arith, g.room, e)

-- ---- parts lie less deep

module _ (h : Objects) (core : Core) where
  pub if_test_below : (a : Core) (b : Core) (c : Core) (x : Core) → core ≡ views.If a b c → x ≡ a → depth_of (seen_core h x) < depth_of (seen_core h core)
  if_test_below a b c x e s =
      let i = ap depth_of (seen_if h a b c) in
      let j = ap (λ y. depth_of (seen_core h y)) e in
      let k = ap (λ (y : Core). depth_of (seen_core h y)) s in
      omega (arith, i, j, k)

  pub if_then_below : (a : Core) (b : Core) (c : Core) (x : Core) → core ≡ views.If a b c → x ≡ b → depth_of (seen_core h x) < depth_of (seen_core h core)
  if_then_below a b c x e s =
      let i = ap depth_of (seen_if h a b c) in
      let j = ap (λ y. depth_of (seen_core h y)) e in
      let k = ap (λ (y : Core). depth_of (seen_core h y)) s in
      omega (arith, i, j, k)

  pub if_other_below : (a : Core) (b : Core) (c : Core) (x : Core) → core ≡ views.If a b c → x ≡ c → depth_of (seen_core h x) < depth_of (seen_core h core)
  if_other_below a b c x e s =
      let i = ap depth_of (seen_if h a b c) in
      let j = ap (λ y. depth_of (seen_core h y)) e in
      let k = ap (λ (y : Core). depth_of (seen_core h y)) s in
      omega (arith, i, j, k)

  pub let_bound_below : (bs : List (SymId × Core)) (b : Core) (x : List (SymId × Core)) → core ≡ views.Let bs b → x ≡ bs → depth_of_all (cores.cores (seen_bound h x)) < depth_of (seen_core h core)
  let_bound_below bs b x e s =
      let i = ap depth_of (seen_let h bs b) in
      let j = ap (λ y. depth_of (seen_core h y)) e in
      let k = ap (λ (y : List (SymId × Core)). depth_of_all (cores.cores (seen_bound h y))) s in
      omega (arith, i, j, k)

  pub let_body_below : (bs : List (SymId × Core)) (b : Core) (x : Core) → core ≡ views.Let bs b → x ≡ b → depth_of (seen_core h x) < depth_of (seen_core h core)
  let_body_below bs b x e s =
      let i = ap depth_of (seen_let h bs b) in
      let j = ap (λ y. depth_of (seen_core h y)) e in
      let k = ap (λ (y : Core). depth_of (seen_core h y)) s in
      omega (arith, i, j, k)

  pub mv_parts_below : (ps : List Core) (x : List Core) → core ≡ views.Mv ps → x ≡ ps → depth_of_all (cores.cores (seen_cores h x)) < depth_of (seen_core h core)
  mv_parts_below ps x e s =
      let i = ap depth_of (seen_mv h ps) in
      let j = ap (λ y. depth_of (seen_core h y)) e in
      let k = ap (λ (y : List Core). depth_of_all (cores.cores (seen_cores h y))) s in
      omega (arith, i, j, k)

  pub mv_let_bound_below : (ns : List SymId) (a : Core) (b : Core) (x : Core) → core ≡ views.MvLet ns a b → x ≡ a → depth_of (seen_core h x) < depth_of (seen_core h core)
  mv_let_bound_below ns a b x e s =
      let i = ap depth_of (seen_mv_let h ns a b) in
      let j = ap (λ y. depth_of (seen_core h y)) e in
      let k = ap (λ (y : Core). depth_of (seen_core h y)) s in
      omega (arith, i, j, k)

  pub mv_let_body_below : (ns : List SymId) (a : Core) (b : Core) (x : Core) → core ≡ views.MvLet ns a b → x ≡ b → depth_of (seen_core h x) < depth_of (seen_core h core)
  mv_let_body_below ns a b x e s =
      let i = ap depth_of (seen_mv_let h ns a b) in
      let j = ap (λ y. depth_of (seen_core h y)) e in
      let k = ap (λ (y : Core). depth_of (seen_core h y)) s in
      omega (arith, i, j, k)

  pub stobj_let_producer_below : (bs : List (SymId × Core)) (vs : List SymId) (p : Core) (c : Core) (x : Core) → core ≡ views.StobjLet bs vs p c → x ≡ p → depth_of (seen_core h x) < depth_of (seen_core h core)
  stobj_let_producer_below bs vs p c x e s =
      let i = ap depth_of (seen_stobj_let h bs vs p c) in
      let j = ap (λ y. depth_of (seen_core h y)) e in
      let k = ap (λ (y : Core). depth_of (seen_core h y)) s in
      omega (arith, i, j, k)

  pub stobj_let_consumer_below : (bs : List (SymId × Core)) (vs : List SymId) (p : Core) (c : Core) (x : Core) → core ≡ views.StobjLet bs vs p c → x ≡ c → depth_of (seen_core h x) < depth_of (seen_core h core)
  stobj_let_consumer_below bs vs p c x e s =
      let i = ap depth_of (seen_stobj_let h bs vs p c) in
      let j = ap (λ y. depth_of (seen_core h y)) e in
      let k = ap (λ (y : Core). depth_of (seen_core h y)) s in
      omega (arith, i, j, k)

  pub with_local_producer_below : (o : SymId) (ns : List SymId) (p : Core) (b : Core) (x : Core) → core ≡ views.WithLocal o ns p b → x ≡ p → depth_of (seen_core h x) < depth_of (seen_core h core)
  with_local_producer_below o ns p b x e s =
      let i = ap depth_of (seen_with_local h o ns p b) in
      let j = ap (λ y. depth_of (seen_core h y)) e in
      let k = ap (λ (y : Core). depth_of (seen_core h y)) s in
      omega (arith, i, j, k)

  pub with_local_body_below : (o : SymId) (ns : List SymId) (p : Core) (b : Core) (x : Core) → core ≡ views.WithLocal o ns p b → x ≡ b → depth_of (seen_core h x) < depth_of (seen_core h core)
  with_local_body_below o ns p b x e s =
      let i = ap depth_of (seen_with_local h o ns p b) in
      let j = ap (λ y. depth_of (seen_core h y)) e in
      let k = ap (λ (y : Core). depth_of (seen_core h y)) s in
      omega (arith, i, j, k)

  pub must_be_equal_logic_below : (a : Core) (b : Core) (x : Core) → core ≡ views.MustBeEqual a b → x ≡ a → depth_of (seen_core h x) < depth_of (seen_core h core)
  must_be_equal_logic_below a b x e s =
      let i = ap depth_of (seen_must_be_equal h a b) in
      let j = ap (λ y. depth_of (seen_core h y)) e in
      let k = ap (λ (y : Core). depth_of (seen_core h y)) s in
      omega (arith, i, j, k)

  pub call_actuals_below : (g0 : SymId) (ps : List Core) (x : List Core) → core ≡ views.Call g0 ps → x ≡ ps → depth_of_all (cores.cores (seen_cores h x)) < depth_of (seen_core h core)
  call_actuals_below g0 ps x e s =
      let i = ap depth_of (seen_call h g0 ps) in
      let j = ap (λ y. depth_of (seen_core h y)) e in
      let k = ap (λ (y : List Core). depth_of_all (cores.cores (seen_cores h y))) s in
      omega (arith, i, j, k)

pub part_below : (h : Objects) (fs : List Core) (i : ℕ) (d : Core) → i < length fs → d ≡ get_or fs i d → depth_of (seen_core h d) ≤ depth_of_all (cores.cores (seen_cores h fs))
part_below h fs i d l e = omega (arith, deep_at h fs i d l, ap (λ x. depth_of (seen_core h x)) e)

pub binding_below : (h : Objects) (bs : List (SymId × Core)) (i : ℕ) (d : SymId × Core) → i < length bs → d ≡ get_or bs i d → depth_of (seen_core h d.1) ≤ depth_of_all (cores.cores (seen_bound h bs))
binding_below h bs i d l e = omega (arith, deep_bound_at h bs i d l, ap (λ (x : SymId × Core). depth_of (seen_core h x.1)) e)

-- ---- slots are few

mutual
  pub few_slots : (f : cores.Core) → longest_of f ≤ 2 ^ 32 → slots_of f ≤ depth_of f * 2 ^ 32
  few_slots (cores.Var x) l = omega arith
  few_slots (cores.Const o) l = omega arith
  few_slots (cores.If a b c) l = omega (arith, few_slots a (omega (arith, l)), few_slots b (omega (arith, l)), few_slots c (omega (arith, l)))
  few_slots (cores.Let names bound body) l = omega (arith, l, few_all bound (omega (arith, l)), few_slots body (omega (arith, l)))
  few_slots (cores.Mv parts) l = omega (arith, l, few_all parts (omega (arith, l)))
  few_slots (cores.MvLet names bound body) l = omega (arith, l, few_slots bound (omega (arith, l)), few_slots body (omega (arith, l)))
  few_slots (cores.StobjLet names bound vars producer consumer) l = omega (arith, l, few_slots producer (omega (arith, l)), few_slots consumer (omega (arith, l)))
  few_slots (cores.WithLocal stobj names producer body) l = omega (arith, l, few_slots producer (omega (arith, l)), few_slots body (omega (arith, l)))
  few_slots (cores.MustBeEqual logic exec) l = omega (arith, l, few_slots logic (omega (arith, l)))
  few_slots (cores.Call f actuals) l = omega (arith, l, few_all actuals (omega (arith, l)))

  few_all : (fs : cores.Cores) → longest_of_all fs ≤ 2 ^ 32 → slots_of_all fs ≤ count fs + depth_of_all fs * 2 ^ 32
  few_all cores.none l = omega arith
  few_all (cores.more f fs) l = omega (arith, few_slots f (omega (arith, l)), few_all fs (omega (arith, l)))

pub few_fit : (h : Objects) (at : ℕ) (f : Core) → at ≤ 2 ^ 32 → depth_of (seen_core h f) ≤ 2048 → longest_of (seen_core h f) ≤ 2 ^ 32 → CoreLies h f → Fits h at f
few_fit h at f a d l r = record { deep = d; room = omega (arith, a, d, few_slots (seen_core h f) l); lies = r }
