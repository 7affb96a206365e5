-- The words of actuals.
use Rattle.std.proofs.Common.{◌≡◌, ℕ, suc, ◌+◌, ◌-◌, ◌<◌, ◌≤◌, List, [], ◌∷◌, ◌++◌, refl, sym, ap, ◌∙◌, arith, subst}
use Rattle.std.proofs.lemmas.List.{append-nil, append_assoc}
use Rattle.model_objects.specs.Object.{Object}
use Rattle.model_symbols.specs.Symbols.{Table}
use Rattle.model_eval.specs.Variables.{ordinary}
use Rattle.acl_base.specs.declared.SymId.{SymId}
use Rattle.acl_base.specs.declared.Word.{Word}
use Rattle.acl_heap.specs.Objects.{Objects, object_of}
use Rattle.acl_terms.specs.declared.outcome.Shown.{Shown}
use Rattle.acl_terms.specs.declared.outcome.Shown.TheVariants as shown
use Rattle.acl_forms.specs.Forms.{IsWhole, AreWhole}
use Rattle.acl_prims.specs.Made.{objects_of}
use Rattle.acl_keep.specs.Seen.{all_seen}
use Rattle.acl_machine.specs.Cells.{cell, cells_from, ShownWhole, AreWholeCells, word_in}

abbrev pub actual_objects : Objects → List Shown → ℕ → ℕ → List (Object ℕ)
actual_objects h vs at n = ordinary (all_seen h (cells_from vs at n))

-- words so far, and the objects that are left
pub record Collects (t : Table) (h : Objects) (vs : List Shown) (at k count : ℕ) (ws : List Word) : Type 0 where
  pub are : objects_of h ws ++ actual_objects h vs (at + k) (count - k) ≡ actual_objects h vs at count
  pub whole : AreWhole t h ws

pub collects_start : (t : Table) (h : Objects) (vs : List Shown) (at count : ℕ) → Collects t h vs at 0 count []
collects_start t h vs at count =
    let one : at + 0 ≡ at = omega arith in
    let two : count - 0 ≡ count = omega arith in
    record { are = ap (λ n. actual_objects h vs n (count - 0)) one ∙ ap (λ n. actual_objects h vs at n) two; whole = tt }

one_more : (h : Objects) (vs : List Shown) (at k count : ℕ) → k < count → actual_objects h vs (at + k) (count - k) ≡ ordinary (all_seen h (cell vs (at + k) ∷ cells_from vs (at + (k + 1)) (count - (k + 1))))
one_more h vs at k count l =
    let n : count - k ≡ suc (count - (k + 1)) = omega arith in
    let m : (at + k) + 1 ≡ at + (k + 1) = omega arith in
    ap (actual_objects h vs (at + k)) n ∙ ap (λ i. ordinary (all_seen h (cell vs (at + k) ∷ cells_from vs i (count - (k + 1))))) m

objects_push : (h : Objects) (ws : List Word) (w : Word) → objects_of h (ws ++ w ∷ []) ≡ objects_of h ws ++ object_of h w ∷ []
objects_push h [] w = refl
objects_push h (x ∷ xs) w = ap (λ l. object_of h x ∷ l) (objects_push h xs w)

whole_push : (t : Table) (h : Objects) (ws : List Word) (w : Word) → AreWhole t h ws → IsWhole t h w → AreWhole t h (ws ++ w ∷ [])
whole_push t h [] w a i = (i, tt)
whole_push t h (x ∷ xs) w a i = (a.0, whole_push t h xs w a.1 i)

pub collects_value : (t : Table) (h : Objects) (vs : List Shown) (at k count : ℕ) (ws : List Word) (w : Word) → k < count → AreWholeCells t h vs → Collects t h vs at k count ws → cell vs (at + k) ≡ shown.Value w → Collects t h vs at (k + 1) count (ws ++ w ∷ [])
collects_value t h vs at k count ws w l a c e = record {
  are = ap (λ os. os ++ actual_objects h vs (at + (k + 1)) (count - (k + 1))) (objects_push h ws w)
      ∙ append_assoc (objects_of h ws) (object_of h w ∷ []) (actual_objects h vs (at + (k + 1)) (count - (k + 1)))
      ∙ ap (λ os. objects_of h ws ++ os) (sym (one_more h vs at k count l ∙ ap (λ v. ordinary (all_seen h (v ∷ cells_from vs (at + (k + 1)) (count - (k + 1))))) e))
      ∙ c.are;
  whole = whole_push t h ws w c.whole (subst (ShownWhole t h) e (a.whole (at + k)));
}

pub collects_object : (t : Table) (h : Objects) (vs : List Shown) (at k count : ℕ) (ws : List Word) (x : SymId) → k < count → Collects t h vs at k count ws → cell vs (at + k) ≡ shown.Object x → Collects t h vs at (k + 1) count ws
collects_object t h vs at k count ws x l c e = record {
  are = ap (λ os. objects_of h ws ++ os) (sym (one_more h vs at k count l ∙ ap (λ v. ordinary (all_seen h (v ∷ cells_from vs (at + (k + 1)) (count - (k + 1))))) e)) ∙ c.are;
  whole = c.whole;
}

pub collects_step : (t : Table) (h : Objects) (vs : List Shown) (at k count : ℕ) (ws new : List Word) (v : Shown) → k < count → AreWholeCells t h vs → Collects t h vs at k count ws → v ≡ cell vs (at + k) → new ≡ ws ++ word_in v → Collects t h vs at (k + 1) count new
collects_step t h vs at k count ws new v l a c e f = subst (Collects t h vs at (k + 1) count) (sym f) (by_value v (sym e))
  where
    by_value : (v : Shown) → cell vs (at + k) ≡ v → Collects t h vs at (k + 1) count (ws ++ word_in v)
    by_value (shown.Value w) e = collects_value t h vs at k count ws w l a c e
    by_value (shown.Object x) e = subst (Collects t h vs at (k + 1) count) (sym (append-nil ws)) (collects_object t h vs at k count ws x l c e)

pub collects_end : (t : Table) (h : Objects) (vs : List Shown) (at k count : ℕ) (ws : List Word) → count ≤ k → Collects t h vs at k count ws → objects_of h ws ≡ actual_objects h vs at count
collects_end t h vs at k count ws l c =
    let n : count - k ≡ 0 = omega arith in
    sym (append-nil (objects_of h ws)) ∙ ap (λ m. objects_of h ws ++ actual_objects h vs (at + k) m) (sym n) ∙ c.are

pub collects_whole : (t : Table) (h : Objects) (vs : List Shown) (at k count : ℕ) (ws : List Word) → Collects t h vs at k count ws → AreWhole t h ws
collects_whole t h vs at k count ws c = c.whole
