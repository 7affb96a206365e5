-- Children that are lent, and put back.
use Rattle.std.specs.Prelude.{◌≡◌, ℕ, zero, suc, ◌+◌, ◌-◌, ◌<◌, ◌≤◌, Bool, true, List, [], ◌∷◌, ◌++◌, length, drop, Option, Some, None, slice_get, option_map, refl}
use Rattle.std.specs.List.{cons_option}
use Rattle.std.proofs.Common.{sym, ap, ◌∙◌, subst, arith}
use Rattle.acl_base.specs.declared.SymId.{SymId}
use Rattle.acl_base.specs.declared.Word.{Word}
use Rattle.model_symbols.specs.Symbols.{Table}
use Rattle.acl_heap.specs.Objects.{Objects, object_of}
use Rattle.acl_forms.specs.Forms.{AreWhole}
use Rattle.model_lists.specs.Lists.{StobjList, End, size, item, with_item}
use Rattle.model_lists.specs.Effects.{is_index}
use Rattle.model_eval.specs.Outcomes.{Stobjs}
use Rattle.model_eval.specs.Variables.{list_of, with_list}
use Rattle.model_eval.specs.Lending as lending
use Rattle.acl_keep.specs.declared.effect.Loan.{Loan}
use Rattle.acl_keep.specs.Seen.{seen_loan, seen_loans, index_words, loan_words}
use Rattle.acl_lists.specs.declared.cell.ListId.{ListId}
use Rattle.acl_lists.specs.declared.cell.Cell.{Cell}
use Rattle.acl_lists.specs.Tables.{Grown}
use Rattle.acl_lists.specs.Pairs.{Within}
use Rattle.acl_list_parts.specs.Parts.{list_given, IndexLies}
use Rattle.acl_list_scope.specs.declared.binding.Binding.{Binding}
use Rattle.acl_list_scope.specs.Scopes.{last_first, named, scope, AreWithin}
use Rattle.acl_list_scope.proofs.ScopeLemmas.{first_join, get_here, scope_push, scope_empty, scope_later, within_push, within_none, within_later}

-- ---- indices

pub index_lies : (t : Table) (h : Objects) (x : Option Word) → AreWhole t h (index_words x) → IndexLies h x
index_lies t h None a = tt
index_lies t h (Some w) a = a.0.lies

pub one_index : (h : Objects) (x : Option Word) (w : Word) → x ≡ Some w → IndexLies h x → IndexLies h (Some w)
one_index h x w e l = subst (IndexLies h) e l

own_words : (t : Table) (h : Objects) (x : Option Word) (ws : List Word) → AreWhole t h (cons_option x ws) → AreWhole t h (index_words x)
own_words t h None ws a = tt
own_words t h (Some w) ws a = (a.0, tt)

other_words : (t : Table) (h : Objects) (x : Option Word) (ws : List Word) → AreWhole t h (cons_option x ws) → AreWhole t h ws
other_words t h None ws a = a
other_words t h (Some w) ws a = a.1

pub whole_index : (t : Table) (h : Objects) (loans : List Loan) (i : ℕ) (l : Loan) → slice_get loans i ≡ Some l → AreWhole t h (loan_words loans) → AreWhole t h (index_words l.index)
whole_index t h [] i l e a = cc
whole_index t h (x ∷ xs) zero l e a = let q : x ≡ l = cc in subst (λ (y : Loan). AreWhole t h (index_words y.index)) q (own_words t h x.index (loan_words xs) a)
whole_index t h (x ∷ xs) (suc i) l e a = whole_index t h xs i l e (other_words t h x.index (loan_words xs) a)

pub reached_always : (h : Objects) (x : Option Word) (field : StobjList ℕ) → x ≡ None → true ≡ lending.is_reached (option_map (object_of h) x) field
reached_always h x field e = ap (λ o. lending.is_reached (option_map (object_of h) o) field) (sym e)

pub reached_index : (cs : List Cell) (h : Objects) (x : Option Word) (w : Word) (whole part : Option ListId) (all : StobjList ℕ) (f count : ℕ) (b : Bool) → x ≡ Some w
    → b ≡ is_index (object_of h w) count → count ≡ size (list_given cs part) → list_given cs part ≡ item f (list_given cs whole) → list_given cs whole ≡ all
    → b ≡ lending.is_reached (option_map (object_of h) x) (item f all)
reached_index cs h x w whole part all f count b e i n p l =
    i
    ∙ (ap (is_index (object_of h w)) (n ∙ ap size (p ∙ ap (item f) l))
    ∙ ap (λ o. lending.is_reached (option_map (object_of h) o) (item f all)) (sym e))

-- ---- lent

pub child_named : (cs : List Cell) (h : Objects) (made : Binding) (child : SymId) (index : Option Word) (whole part : Option ListId) (all : StobjList ℕ) (f : ℕ) → made.variable ≡ child
    → list_given cs made.list ≡ lending.child_in (option_map (object_of h) index) (list_given cs part) → list_given cs part ≡ item f (list_given cs whole) → list_given cs whole ≡ all
    → named cs made ≡ (child.0, lending.child_in (option_map (object_of h) index) (item f all))
child_named cs h made child index whole part all f v i p l =
    ap (λ k. (made.variable.0, k)) (i ∙ ap (lending.child_in (option_map (object_of h) index)) (p ∙ ap (item f) l))
    ∙ ap (λ (y : SymId). (y.0, lending.child_in (option_map (object_of h) index) (item f all))) v

pub record LentSoFar (cs : List Cell) (h : Objects) (bs : List Binding) (loans : List Loan) (made : List Binding) (at : ℕ) : Type 0 where
  pub is : scope cs made ≡ lending.lent (seen_loans h (drop at loans)) (scope cs bs)
  pub within : AreWithin cs made

dropped_all : {X : Type 0} (xs : List X) → drop (length xs) xs ≡ []
dropped_all [] = refl
dropped_all (x ∷ xs) = dropped_all xs

pub lent_start : (cs : List Cell) (h : Objects) (bs : List Binding) (loans : List Loan) (at : ℕ) → at ≡ length loans → LentSoFar cs h bs loans [] at
lent_start cs h bs loans at e = record {
  is = scope_empty cs ∙ sym (ap (λ k. lending.lent (seen_loans h (drop k loans)) (scope cs bs)) e ∙ ap (λ ls. lending.lent (seen_loans h ls) (scope cs bs)) (dropped_all loans));
  within = within_none cs;
}

pub lent_more : (cs : List Cell) (h : Objects) (bs made more : List Binding) (loans : List Loan) (n at : ℕ) (l : Loan) (b : Binding) → n ≡ suc at → slice_get loans at ≡ Some l
    → named cs b ≡ (l.child.0, lending.child_in (option_map (object_of h) l.index) (item l.field (list_of (scope cs bs) l.parent.0))) → Within cs b.list → more ≡ made ++ b ∷ []
    → LentSoFar cs h bs loans made n → LentSoFar cs h bs loans more at
lent_more cs h bs made more loans n at l b e g i w m s = record {
  is = scope_push cs made more b m
      ∙ (ap (λ p. p ∷ scope cs made) i
      ∙ (ap (λ os. (l.child.0, lending.child_in (option_map (object_of h) l.index) (item l.field (list_of (scope cs bs) l.parent.0))) ∷ os)
      (s.is ∙ ap (λ k. lending.lent (seen_loans h (drop k loans)) (scope cs bs)) e)
      ∙ ap (λ ls. lending.lent (seen_loans h ls) (scope cs bs)) (sym (get_here loans at l g))));
  within = within_push cs made more b s.within w m;
}

pub lent_whole : (cs : List Cell) (h : Objects) (bs made : List Binding) (loans : List Loan) (at : ℕ) → at ≡ 0 → LentSoFar cs h bs loans made at
    → scope cs made ≡ lending.lent (seen_loans h loans) (scope cs bs)
lent_whole cs h bs made loans at e s = s.is ∙ ap (λ k. lending.lent (seen_loans h (drop k loans)) (scope cs bs)) e

-- those that are lent before those that were there
onto_others : {X Y : Type 0} (f : X → Y) (os ps : List Y) (xs : List X) → last_first f (ps ++ os) xs ≡ last_first f ps xs ++ os
onto_others f os ps [] = refl
onto_others f os ps (x ∷ xs) = onto_others f os (f x ∷ ps) xs

pub scope_join : (cs : List Cell) (xs ys : List Binding) → scope cs (xs ++ ys) ≡ scope cs ys ++ scope cs xs
unfolding scope
scope_join cs xs ys = first_join (named cs) [] xs ys ∙ onto_others (named cs) (last_first (named cs) [] xs) [] ys

pub within_join : (cs : List Cell) (xs ys : List Binding) → AreWithin cs xs → AreWithin cs ys → AreWithin cs (xs ++ ys)
within_join cs xs ys v w = record { each = λ i b h. each cs xs ys (λ j c g. v.each j c g) (λ j c g. w.each j c g) i b h } where
  each : (cs : List Cell) (xs ys : List Binding) → ((i : ℕ) (b : Binding) → slice_get xs i ≡ Some b → Within cs b.list) → ((i : ℕ) (b : Binding) → slice_get ys i ≡ Some b → Within cs b.list)
      → (i : ℕ) (b : Binding) → slice_get (xs ++ ys) i ≡ Some b → Within cs b.list
  each cs [] ys v w i b h = w i b h
  each cs (x ∷ xs) ys v w zero b h = v zero b h
  each cs (x ∷ xs) ys v w (suc i) b h = each cs xs ys (λ j c g. v (suc j) c g) w i b h

-- ---- put back

pub child_put : (old new : List Cell) (bs after : List Binding) (h : Objects) (loan : Loan) (parent child made : Option ListId) → Grown old new
    → (AreWithin old bs → list_given old parent ≡ list_of (scope old bs) loan.parent.0) → (AreWithin old bs → list_given old child ≡ list_of (scope old bs) loan.child.0)
    → list_given new made ≡ with_item loan.field (lending.with_child_in (option_map (object_of h) loan.index) (list_given old child) (item loan.field (list_given old parent))) (list_given old parent)
    → ((cs : List Cell) → scope cs after ≡ with_list loan.parent.0 (list_given cs made) (scope cs bs)) → AreWithin old bs
    → scope new after ≡ lending.put_into_parent (seen_loan h loan) (scope old bs)
child_put old new bs after h loan parent child made g p c i s w =
    s new
    ∙ (ap (λ l. with_list loan.parent.0 l (scope new bs)) i
    ∙ (ap (λ os. with_list loan.parent.0 (with_item loan.field (lending.with_child_in (option_map (object_of h) loan.index) (list_given old child) (item loan.field (list_given old parent))) (list_given old parent)) os) (scope_later old new bs g w)
    ∙ (ap (λ l. with_list loan.parent.0 (with_item loan.field (lending.with_child_in (option_map (object_of h) loan.index) l (item loan.field (list_given old parent))) (list_given old parent)) (scope old bs)) (c w)
    ∙ ap (λ l. with_list loan.parent.0 (with_item loan.field (lending.with_child_in (option_map (object_of h) loan.index) (list_of (scope old bs) loan.child.0) (item loan.field l)) l) (scope old bs)) (p w))))

pub put_within : (old new : List Cell) (bs after : List Binding) (made : Option ListId) → Grown old new → ((cs : List Cell) → AreWithin cs bs → Within cs made → AreWithin cs after) → Within new made
    → AreWithin old bs → AreWithin new after
put_within old new bs after made g s m w = s new (within_later old new bs g w) m
