-- What an export writes and gives, and its logic function alone.
use Rattle.std.proofs.Common.{◌≡◌, ℕ, List, [], ◌∷◌, map, length, Bool, true, false, Option, Some, None, refl, sym, ap, ◌∙◌, inl, inr, suc}
use Rattle.std.specs.Prelude.{◌⊎◌, ◌||◌, nat_eq, if◌then◌else◌}
use Rattle.std.specs.List.{zip}
use Rattle.model_terms.specs.Worlds.{Abstract, AbstractDescriptor, Concrete, Constant, Defined, Definition, FunctionOfAbstract, Generated, Macro, Named, OfAbstract, Ordinary, Out, Primitive, Scope, Signed, World, definition}
use Rattle.model_answers.proofs.Setting.{things}
use Rattle.model_follows.proofs.HeldThings.{Held, all_held}
use Rattle.model_accepted.specs.Threaded.{AreOnly, abstracted}
use Rattle.model_accepted.specs.StobjScopes.{AreOutputs}
use Rattle.model_in_place.specs.Writes.{AreWrites, Write, stobjs_after}
use Rattle.model_follows.specs.Costs.{caller}
use Rattle.model_logic.specs.Logic.{Theory, Thing, defined_value, logic_of_abstract}
use Rattle.model_eval.specs.Outcomes.{Plain, Shown, StobjNamed, Stobjs}
use Rattle.model_follows.proofs.ExportThings.{HaveShape}
use Rattle.model_symbols.specs.Symbols.{QualifiedName, form_of}
use Rattle.model_lists.specs.Lists.{StobjList, Value, as_object}
use Rattle.model_abstract.specs.Rules.{logic_actual, out_parts, out_stobjs, out_values}
use Rattle.model_prims.specs.Kinds.{by_name}
use Rattle.std.proofs.lemmas.Bool.{eqb-true}
use Rattle.model_accepted.proofs.AcceptLemmas.{false_true}
use Rattle.model_eval.specs.Variables.{list_of, with_list}
use Rattle.model_terms.specs.Classes.{has, renamed_out, repeats}
use Rattle.model_eval_laws.proofs.Lists.{same_number}
use Rattle.model_abstract_books.specs.Answers.{shown_named}
use Rattle.model_in_place.proofs.ObjectLemmas.{written_same, written_twice}
use Rattle.model_terms.specs.Rounds.{signed}
use Rattle.model_terms.specs.Worlds as worlds
use Rattle.model_terms.specs.Classes as classes

-- ---- lists that are written

pub with_twice : {S : Type 0} (x : ℕ) (l m : StobjList S) (os : Stobjs S) → with_list x l (with_list x m os) ≡ with_list x l os
with_twice x l m [] = refl
with_twice x l m (o ∷ os) = go (nat_eq x o.0) refl (with_twice x l m os)
  where
    go : (b : Bool) → nat_eq x o.0 ≡ b → with_list x l (with_list x m os) ≡ with_list x l os → with_list x l (if b then (o.0, m) ∷ os else o ∷ with_list x m os) ≡ (if b then (o.0, l) ∷ os else o ∷ with_list x l os)
    go true e later = rw e refl
    go false e later = rw (e, later) refl

-- writes to one stobj leave it one list
pub one_written : (w : World) (y : ℕ) (us : List Write) (os : Stobjs ℕ) → AreWrites w (λ x. x ≡ y) us → stobjs_after us os ≡ with_list y (list_of (stobjs_after us os) y) os
one_written w y [] os a = sym (written_same y os)
one_written w y (u ∷ us) os a =
    one_written w y us (with_list u.0 u.1 os) a.2
    ∙ (ap (λ (x : ℕ). with_list y (list_of (stobjs_after us (with_list u.0 u.1 os)) y) (with_list x u.1 os)) a.0 ∙ written_twice y (list_of (stobjs_after us (with_list u.0 u.1 os)) y) u.1 os)

-- ---- outputs of an export

-- each stobj among the outputs is this one
pub stobjs_only : (x y : ℕ) (ks : List Out) → AreOnly x ks → has (classes.stobjs ks) y ≡ true → y ≡ x
stobjs_only x y [] o h = false_true h
stobjs_only x y (Ordinary ∷ ks) o h = stobjs_only x y ks o h
stobjs_only x y (worlds.Stobj z ∷ ks) o h = go (nat_eq y z) refl h (stobjs_only x y ks o.1)
  where
    go : (b : Bool) → nat_eq y z ≡ b → (b || has (classes.stobjs ks) y) ≡ true → (has (classes.stobjs ks) y ≡ true → y ≡ x) → y ≡ x
    go true e i later = eqb-true y z e ∙ o.0
    go false e i later = later i

-- outputs that are renamed are this stobj
pub renamed_only : (stobj y : ℕ) (ks : List Out) → AreOnly stobj ks → AreOnly y (map (renamed_out ((stobj, y) ∷ [])) ks)
renamed_only stobj y [] o = tt
renamed_only stobj y (Ordinary ∷ ks) o = renamed_only stobj y ks o
renamed_only stobj y (worlds.Stobj x ∷ ks) o = rw (o.0, same_number stobj) (refl, renamed_only stobj y ks o.1)

pub only_abstracted : (stobj : ℕ) (ks : List Out) → AreOnly stobj (map (abstracted stobj) ks)
only_abstracted stobj [] = tt
only_abstracted stobj (Ordinary ∷ ks) = only_abstracted stobj ks
only_abstracted stobj (worlds.Stobj x ∷ ks) = (refl, only_abstracted stobj ks)

pub none_abstracted : (stobj : ℕ) (ks : List Out) → classes.stobjs ks ≡ [] → classes.stobjs (map (abstracted stobj) ks) ≡ []
none_abstracted stobj [] e = refl
none_abstracted stobj (Ordinary ∷ ks) e = none_abstracted stobj ks e
none_abstracted stobj (worlds.Stobj x ∷ ks) e = cc

pub one_abstracted : (stobj foundation : ℕ) (ins : List Out) → classes.stobjs ins ≡ foundation ∷ [] → classes.stobjs (map (abstracted stobj) ins) ≡ stobj ∷ []
one_abstracted stobj foundation [] e = cc
one_abstracted stobj foundation (Ordinary ∷ ks) e = one_abstracted stobj foundation ks e
one_abstracted stobj foundation (worlds.Stobj x ∷ ks) e = ap (λ (xs : List ℕ). stobj ∷ xs) (none_abstracted stobj ks (rest_same e))
  where
    rest_same : x ∷ classes.stobjs ks ≡ foundation ∷ [] → classes.stobjs ks ≡ []
    rest_same q = cc

pub one_pair : (stobj y : ℕ) (ins : List Out) (foundation : ℕ) (ns : List ℕ) → classes.stobjs ins ≡ foundation ∷ [] → ns ≡ y ∷ [] → zip (classes.stobjs (map (abstracted stobj) ins)) ns ≡ (stobj, y) ∷ []
one_pair stobj y ins foundation ns e n = rw (one_abstracted stobj foundation ins e, n) refl

pub actual_is : (stobj y : ℕ) → classes.actual_of ((stobj, y) ∷ []) stobj ≡ y
actual_is stobj y = rw (same_number stobj) refl

pub shape_of : (scope : Scope) (stobj y : ℕ) (ks : List Out) (vs : List (Shown ℕ)) → AreOnly stobj ks → AreOutputs scope (map (renamed_out ((stobj, y) ∷ [])) ks) vs → HaveShape y ks vs
shape_of scope stobj y [] [] o a = tt
shape_of scope stobj y [] (v ∷ vs) o a = absurd a
shape_of scope stobj y (k ∷ ks) [] o a = absurd a
shape_of scope stobj y (Ordinary ∷ ks) (Plain p ∷ vs) o a = shape_of scope stobj y ks vs o a.1
shape_of scope stobj y (Ordinary ∷ ks) (StobjNamed z ∷ vs) o a = absurd a.0
shape_of scope stobj y (worlds.Stobj x ∷ ks) (Plain p ∷ vs) o a = absurd a.0
shape_of scope stobj y (worlds.Stobj x ∷ ks) (StobjNamed z ∷ vs) o a =
    (a.0.0 ∙ (ap (λ (q : ℕ). classes.actual_of ((stobj, y) ∷ []) q) o.0 ∙ actual_is stobj y), shape_of scope stobj y ks vs o.1 a.1)

pub shape_count : (y : ℕ) (ks : List Out) (vs : List (Shown ℕ)) (symbols : List QualifiedName) (last : Held) → HaveShape y ks vs → length ks ≡ length (all_held symbols last vs)
shape_count y [] [] symbols last h = refl
shape_count y [] (v ∷ vs) symbols last h = absurd h
shape_count y (k ∷ ks) [] symbols last h = absurd h
shape_count y (Ordinary ∷ ks) (Plain o ∷ vs) symbols last h = ap (λ (n : ℕ). suc n) (shape_count y ks vs symbols last h)
shape_count y (Ordinary ∷ ks) (StobjNamed z ∷ vs) symbols last h = absurd h
shape_count y (worlds.Stobj x ∷ ks) (Plain o ∷ vs) symbols last h = absurd h
shape_count y (worlds.Stobj x ∷ ks) (StobjNamed z ∷ vs) symbols last h = ap (λ (n : ℕ). suc n) (shape_count y ks vs symbols last h.1)

-- what the logic gave, as values
pub values_out : (b : Theory) (m y : ℕ) (symbols : List QualifiedName) (last : Held) (ks : List Out) (vs : List (Shown ℕ)) → HaveShape y ks vs → out_values b m (Some y) ks (all_held symbols last vs) ≡ map (shown_named symbols) vs
values_out b m y symbols last [] [] h = refl
values_out b m y symbols last [] (v ∷ vs) h = absurd h
values_out b m y symbols last (k ∷ ks) [] h = absurd h
values_out b m y symbols last (Ordinary ∷ ks) (Plain o ∷ vs) h = ap (λ (r : List (Shown QualifiedName)). Plain (form_of symbols o) ∷ r) (values_out b m y symbols last ks vs h)
values_out b m y symbols last (Ordinary ∷ ks) (StobjNamed z ∷ vs) h = absurd h
values_out b m y symbols last (worlds.Stobj x ∷ ks) (Plain o ∷ vs) h = absurd h
values_out b m y symbols last (worlds.Stobj x ∷ ks) (StobjNamed z ∷ vs) h =
    ap (λ (q : ℕ). StobjNamed q ∷ out_values b m (Some y) ks (all_held symbols last vs)) (sym h.0) ∙ ap (λ (r : List (Shown QualifiedName)). StobjNamed z ∷ r) (values_out b m y symbols last ks vs h.1)

-- and what becomes of the lists
pub lists_out : (b : Theory) (m y : ℕ) (symbols : List QualifiedName) (last : Held) (ks : List Out) (vs : List (Shown ℕ)) (ms : Stobjs QualifiedName) → HaveShape y ks vs
    → ((classes.stobjs ks ≡ []) × (out_stobjs b m (Some y) ks (all_held symbols last vs) ms ≡ ms)) ⊎ (out_stobjs b m (Some y) ks (all_held symbols last vs) ms ≡ with_list y (Value (last y)) ms)
lists_out b m y symbols last [] [] ms h = inl (refl, refl)
lists_out b m y symbols last [] (v ∷ vs) ms h = absurd h
lists_out b m y symbols last (k ∷ ks) [] ms h = absurd h
lists_out b m y symbols last (Ordinary ∷ ks) (Plain o ∷ vs) ms h = lists_out b m y symbols last ks vs ms h
lists_out b m y symbols last (Ordinary ∷ ks) (StobjNamed z ∷ vs) ms h = absurd h
lists_out b m y symbols last (worlds.Stobj x ∷ ks) (Plain o ∷ vs) ms h = absurd h
lists_out b m y symbols last (worlds.Stobj x ∷ ks) (StobjNamed z ∷ vs) ms h =
    inr (ap (λ (q : ℕ). out_stobjs b m (Some y) ks (all_held symbols last vs) (with_list y (Value (last q)) ms)) h.0 ∙ go (lists_out b m y symbols last ks vs (with_list y (Value (last y)) ms) h.1))
  where
    go : ((classes.stobjs ks ≡ []) × (out_stobjs b m (Some y) ks (all_held symbols last vs) (with_list y (Value (last y)) ms) ≡ with_list y (Value (last y)) ms))
        ⊎ (out_stobjs b m (Some y) ks (all_held symbols last vs) (with_list y (Value (last y)) ms) ≡ with_list y (Value (last y)) (with_list y (Value (last y)) ms))
        → out_stobjs b m (Some y) ks (all_held symbols last vs) (with_list y (Value (last y)) ms) ≡ with_list y (Value (last y)) ms
    go (inl i) = i.1
    go (inr i) = i ∙ with_twice y (Value (last y)) (Value (last y)) ms

pub stobjs_same : (b : Theory) (m n : ℕ) (x : Option ℕ) (ks : List Out) (os : List Thing) (ms : Stobjs QualifiedName) → out_stobjs b m x ks os ms ≡ out_stobjs b n x ks os ms
stobjs_same b m n x [] os ms = refl
stobjs_same b m n x (k ∷ ks) [] ms = refl
stobjs_same b m n x (Ordinary ∷ ks) (o ∷ os) ms = stobjs_same b m n x ks os ms
stobjs_same b m n None (worlds.Stobj z ∷ ks) (o ∷ os) ms = stobjs_same b m n None ks os ms
stobjs_same b m n (Some x) (worlds.Stobj z ∷ ks) (o ∷ os) ms = stobjs_same b m n (Some x) ks os (with_list x (Value o) ms)

pub parts_same : (b : Theory) (m n : ℕ) (ks : List Out) (v : Thing) → out_parts b m ks v ≡ out_parts b n ks v
parts_same b m n [] v = refl
parts_same b m n (k ∷ []) v = refl
parts_same b m n (k ∷ (j ∷ ks)) v = refl

-- actuals in the logic
pub actuals_held : (b : Theory) (m : ℕ) (symbols : List QualifiedName) (ms : Stobjs QualifiedName) (vs : List (Shown ℕ)) → map (logic_actual b m ms) (map (shown_named symbols) vs) ≡ all_held symbols (things ms) vs
actuals_held b m symbols ms [] = refl
actuals_held b m symbols ms (Plain o ∷ vs) = ap (λ (r : List Thing). form_of symbols o ∷ r) (actuals_held b m symbols ms vs)
actuals_held b m symbols ms (StobjNamed y ∷ vs) = ap (λ (r : List Thing). as_object by_name (list_of ms y) ∷ r) (actuals_held b m symbols ms vs)

-- a logic function, which is of no abstract stobj, called by itself
pub logic_alone : (b : Theory) (budget nest start : ℕ) (args : List Thing) (q : Option Definition) → ((f : FunctionOfAbstract) → q ≡ Some (OfAbstract f) → ⊥)
    → defined_value b budget (caller b budget nest) (λ (name : ℕ) (os : List Thing) (n : ℕ). None) q args start ≡ defined_value b budget (caller b budget nest) (logic_of_abstract b budget (caller b budget nest)) q args start
logic_alone b budget nest start args None apart = refl
logic_alone b budget nest start args (Some (Primitive p row)) apart = refl
logic_alone b budget nest start args (Some (Defined f)) apart = refl
logic_alone b budget nest start args (Some (Macro m formals other)) apart = refl
logic_alone b budget nest start args (Some (Constant m value)) apart = refl
logic_alone b budget nest start args (Some (Concrete d class)) apart = refl
logic_alone b budget nest start args (Some (Generated g)) apart = refl
logic_alone b budget nest start args (Some (Abstract d)) apart = refl
logic_alone b budget nest start args (Some (OfAbstract f)) apart = absurd (apart f refl)
logic_alone b budget nest start args (Some (Named m formals)) apart = refl
logic_alone b budget nest start args (Some (Signed m formals signed executable)) apart = refl
