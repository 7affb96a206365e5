-- The arguments and the outputs of an export, of its exec function and of its logic function.
use Rattle.std.proofs.Common.{◌≡◌, ℕ, suc, List, [], ◌∷◌, map, length, false, refl, sym, ap, ◌∙◌, subst, inl, inr, arith}
use Rattle.std.specs.Prelude.{◌⊎◌, nat_eq}
use Rattle.model_objects.specs.Named.{Symbols}
use Rattle.model_symbols.specs.Symbols.{QualifiedName, form_of}
use Rattle.model_terms.specs.Worlds.{World, AbstractDescriptor, Out, Ordinary, Scope}
use Rattle.model_terms.specs.Worlds as worlds
use Rattle.model_terms.specs.Classes as classes
use Rattle.model_terms.specs.Classes.{has, repeats, renamed_out}
use Rattle.model_eval.specs.Outcomes.{Shown, Plain, StobjNamed}
use Rattle.model_eval.specs.Variables.{ordinary}
use Rattle.model_eval_laws.proofs.Lists.{same_number}
use Rattle.model_logic.specs.Logic.{Theory, Thing}
use Rattle.model_abstract.specs.Corresponding.{CallHolds, HasPackage}
use Rattle.model_accepted.specs.Threaded.{layout_of, AreOnly, abstracted}
use Rattle.model_accepted.specs.StobjScopes.{IsStobj, AreOutputs}
use Rattle.model_in_place.specs.Calls.{names_in, AreArguments}
use Rattle.model_accepted.proofs.AcceptLemmas.{true_false, neither}
use Rattle.model_in_place.proofs.ExportLemmas.{only, only_is}
use Rattle.model_follows.specs.Abstract.{arguments_with, OutputsCorrespond, IsWellFormed}
use Rattle.model_follows.proofs.HeldThings.{Ground, Held, all_held}
use Rattle.model_follows.proofs.FormalThings.{AreSeen}

-- ---- arguments

abbrev AreAllNamed : ℕ → List ℕ → Type 0
AreAllNamed y [] = Unit {0}
AreAllNamed y (n ∷ ns) = (n ≡ y) × AreAllNamed y ns

arguments_by : (w : World) (scope : Scope) (ins : List Out) (vs : List (Shown ℕ)) (y : ℕ) (symbols : List QualifiedName) (lists : Held) → AreArguments w scope ins vs → AreAllNamed y (names_in vs)
    → all_held symbols lists vs ≡ arguments_with ins (map (form_of symbols) (ordinary vs)) (lists y)
arguments_by w scope [] [] y symbols lists a n = refl
arguments_by w scope [] (v ∷ vs) y symbols lists a n = absurd a
arguments_by w scope (k ∷ ks) [] y symbols lists a n = absurd a
arguments_by w scope (Ordinary ∷ ks) (Plain o ∷ vs) y symbols lists a n = ap (λ (os : List Thing). form_of symbols o ∷ os) (arguments_by w scope ks vs y symbols lists a.1 n)
arguments_by w scope (Ordinary ∷ ks) (StobjNamed z ∷ vs) y symbols lists a n = absurd a.0
arguments_by w scope (worlds.Stobj x ∷ ks) (Plain o ∷ vs) y symbols lists a n = absurd a.0
arguments_by w scope (worlds.Stobj x ∷ ks) (StobjNamed z ∷ vs) y symbols lists a n = rw (n.0, arguments_by w scope ks vs y symbols lists a.1 n.1) refl

-- arguments of which this is the only stobj
pub arguments_are : (w : World) (scope : Scope) (ins : List Out) (vs : List (Shown ℕ)) (y : ℕ) (symbols : List QualifiedName) (lists : Held) → AreArguments w scope ins vs → names_in vs ≡ y ∷ []
    → all_held symbols lists vs ≡ arguments_with ins (map (form_of symbols) (ordinary vs)) (lists y)
arguments_are w scope ins vs y symbols lists a e = arguments_by w scope ins vs y symbols lists a (subst (AreAllNamed y) (sym e) (refl, tt))

pub exec_arguments : (w : World) (scope : Scope) (stobj foundation : ℕ) (ins : List Out) (vs : List (Shown ℕ)) → layout_of w stobj ≡ layout_of w foundation → AreOnly foundation ins → AreArguments w scope (map (abstracted stobj) ins) vs → AreArguments w scope ins vs
exec_arguments w scope stobj foundation [] vs l o a = a
exec_arguments w scope stobj foundation (k ∷ ks) [] l o a = absurd a
exec_arguments w scope stobj foundation (Ordinary ∷ ks) (v ∷ vs) l o a = (a.0, exec_arguments w scope stobj foundation ks vs l o a.1)
exec_arguments w scope stobj foundation (worlds.Stobj x ∷ ks) (Plain p ∷ vs) l o a = absurd a.0
exec_arguments w scope stobj foundation (worlds.Stobj x ∷ ks) (StobjNamed y ∷ vs) l o a =
    ((a.0.0, ap (layout_of w) o.0 ∙ (sym l ∙ a.0.1)), exec_arguments w scope stobj foundation ks vs l o.1 a.1)

pub only_objects : (foundation : ℕ) (ins : List Out) → classes.stobjs ins ≡ foundation ∷ [] → AreOnly foundation ins
only_objects foundation [] e = tt
only_objects foundation (Ordinary ∷ ks) e = only_objects foundation ks e
only_objects foundation (worlds.Stobj x ∷ ks) e = (first_same e, no_objects ks (rest_same e))
  where
    rest_same : x ∷ classes.stobjs ks ≡ foundation ∷ [] → classes.stobjs ks ≡ []
    rest_same g = cc

    first_same : x ∷ classes.stobjs ks ≡ foundation ∷ [] → x ≡ foundation
    first_same g = cc

    no_objects : (ks : List Out) → classes.stobjs ks ≡ [] → AreOnly foundation ks
    no_objects [] e = tt
    no_objects (Ordinary ∷ ks) e = no_objects ks e
    no_objects (worlds.Stobj x ∷ ks) e = cc

-- each stobj counts as the foundation
pub exec_seen : (g : Ground) (foundation : ℕ) (ins : List Out) (vs : List (Shown ℕ)) → AreOnly foundation ins → AreSeen g (λ x. foundation) ins vs
exec_seen g foundation [] vs o = tt
exec_seen g foundation (k ∷ ks) [] o = tt
exec_seen g foundation (Ordinary ∷ ks) (v ∷ vs) o = exec_seen g foundation ks vs o
exec_seen g foundation (worlds.Stobj x ∷ ks) (Plain p ∷ vs) o = exec_seen g foundation ks vs o.1
exec_seen g foundation (worlds.Stobj x ∷ ks) (StobjNamed y ∷ vs) o = (ap g.view o.0, exec_seen g foundation ks vs o.1)

-- the stobj of an export's call is seen as the abstract stobj
pub export_seen : (g : Ground) (scope : Scope) (w : World) (stobj : ℕ) (ins : List Out) (vs : List (Shown ℕ)) (y : ℕ) → AreArguments w scope (map (abstracted stobj) ins) vs → AreSeen g (λ x. x) (map (abstracted stobj) ins) vs → names_in vs ≡ y ∷ []
    → g.view stobj ≡ g.view y
export_seen g scope w stobj [] [] y a s e = cc
export_seen g scope w stobj [] (v ∷ vs) y a s e = absurd a
export_seen g scope w stobj (k ∷ ks) [] y a s e = absurd a
export_seen g scope w stobj (Ordinary ∷ ks) (Plain o ∷ vs) y a s e = export_seen g scope w stobj ks vs y a.1 s e
export_seen g scope w stobj (Ordinary ∷ ks) (StobjNamed z ∷ vs) y a s e = absurd a.0
export_seen g scope w stobj (worlds.Stobj x ∷ ks) (Plain o ∷ vs) y a s e = absurd a.0
export_seen g scope w stobj (worlds.Stobj x ∷ ks) (StobjNamed z ∷ vs) y a s e = s.0 ∙ ap g.view (first_same e)
  where
    first_same : z ∷ names_in vs ≡ y ∷ [] → z ≡ y
    first_same q = cc

-- ---- outputs

-- values for these outputs, of which each stobj is this one
abbrev pub HaveShape : ℕ → List Out → List (Shown ℕ) → Type 0
HaveShape y [] [] = Unit {0}
HaveShape y [] (v ∷ vs) = ⊥
HaveShape y (k ∷ ks) [] = ⊥
HaveShape y (Ordinary ∷ ks) (Plain o ∷ vs) = HaveShape y ks vs
HaveShape y (Ordinary ∷ ks) (StobjNamed z ∷ vs) = ⊥
HaveShape y (worlds.Stobj x ∷ ks) (Plain o ∷ vs) = ⊥
HaveShape y (worlds.Stobj x ∷ ks) (StobjNamed z ∷ vs) = (z ≡ y) × HaveShape y ks vs

pub shape_is : (y : ℕ) (ps : List (ℕ × ℕ)) (outs : List Out) (vs : List (Shown ℕ)) → AreOutputs (only y) (map (renamed_out ps) outs) vs → HaveShape y outs vs
shape_is y ps [] [] a = tt
shape_is y ps [] (v ∷ vs) a = absurd a
shape_is y ps (k ∷ ks) [] a = absurd a
shape_is y ps (Ordinary ∷ ks) (Plain o ∷ vs) a = shape_is y ps ks vs a.1
shape_is y ps (Ordinary ∷ ks) (StobjNamed z ∷ vs) a = absurd a.0
shape_is y ps (worlds.Stobj x ∷ ks) (Plain o ∷ vs) a = absurd a.0
shape_is y ps (worlds.Stobj x ∷ ks) (StobjNamed z ∷ vs) a = (only_is y z (subst (IsStobj (only y)) (sym a.0.0) a.0.1), shape_is y ps ks vs a.1)

pub shape_length : (y stobj : ℕ) (outs : List Out) (vs : List (Shown ℕ)) (symbols : List QualifiedName) (lists : Held) → HaveShape y outs vs → length (map (abstracted stobj) outs) ≡ length (all_held symbols lists vs)
shape_length y stobj [] [] symbols lists h = refl
shape_length y stobj [] (v ∷ vs) symbols lists h = absurd h
shape_length y stobj (k ∷ ks) [] symbols lists h = absurd h
shape_length y stobj (Ordinary ∷ ks) (Plain o ∷ vs) symbols lists h = ap (λ (n : ℕ). suc n) (shape_length y stobj ks vs symbols lists h)
shape_length y stobj (Ordinary ∷ ks) (StobjNamed z ∷ vs) symbols lists h = absurd h
shape_length y stobj (worlds.Stobj x ∷ ks) (Plain o ∷ vs) symbols lists h = absurd h
shape_length y stobj (worlds.Stobj x ∷ ks) (StobjNamed z ∷ vs) symbols lists h = ap (λ (n : ℕ). suc n) (shape_length y stobj ks vs symbols lists h.1)

-- ---- outputs in L

-- one stobj, which is not among these, is none of them
none_else : (x : ℕ) (ks : List Out) → AreOnly x ks → has (classes.stobjs ks) x ≡ false → classes.stobjs ks ≡ []
none_else x [] o h = refl
none_else x (Ordinary ∷ ks) o h = none_else x ks o h
none_else x (worlds.Stobj z ∷ ks) o h = true_false (sym (same_number x) ∙ (ap (λ (q : ℕ). nat_eq x q) (sym o.0) ∙ (neither (nat_eq x z) (has (classes.stobjs ks) x) h).0))

module _ (b : Theory) (d : AbstractDescriptor) (stobj y : ℕ) (symbols : List QualifiedName) (last : Held) where
  -- where none is a stobj, the lists are no matter
  plain_parts : (ks : List Out) (vs : List (Shown ℕ)) (ls : List Thing) (lists : Held) → classes.stobjs ks ≡ [] → HaveShape y ks vs → OutputsCorrespond b d (map (abstracted stobj) ks) (all_held symbols last vs) ls → all_held symbols lists vs ≡ ls
  plain_parts [] [] [] lists e h c = refl
  plain_parts [] [] (l ∷ ls) lists e h c = absurd c
  plain_parts [] (v ∷ vs) ls lists e h c = absurd h
  plain_parts (k ∷ ks) [] ls lists e h c = absurd h
  plain_parts (Ordinary ∷ ks) (Plain o ∷ vs) [] lists e h c = absurd c
  plain_parts (Ordinary ∷ ks) (Plain o ∷ vs) (l ∷ ls) lists e h c = rw (c.0, plain_parts ks vs ls lists e h c.1) refl
  plain_parts (Ordinary ∷ ks) (StobjNamed z ∷ vs) ls lists e h c = absurd h
  plain_parts (worlds.Stobj x ∷ ks) (Plain o ∷ vs) ls lists e h c = absurd h
  plain_parts (worlds.Stobj x ∷ ks) (StobjNamed z ∷ vs) ls lists e h c = cc

  -- the stobj's part of what the logic function gives
  pub record IsReturned (vs : List (Shown ℕ)) (ls : List Thing) : Type 0 where
    pub part : Thing
    pub all : (lists : Held) → lists y ≡ part → all_held symbols lists vs ≡ ls
    pub corresponding : CallHolds b d.corr (last y ∷ part ∷ [])
    pub well_formed : IsWellFormed b d part
    pub homes : Symbols (HasPackage b) part

  pub returned : (foundation : ℕ) (ks : List Out) (vs : List (Shown ℕ)) (ls : List Thing) → AreOnly foundation ks → repeats (classes.stobjs ks) ≡ false → HaveShape y ks vs → OutputsCorrespond b d (map (abstracted stobj) ks) (all_held symbols last vs) ls
      → IsReturned vs ls ⊎ ((classes.stobjs ks ≡ []) × ((lists : Held) → all_held symbols lists vs ≡ ls))
  returned f [] [] [] o r h c = inr (refl, λ lists. refl)
  returned f [] [] (l ∷ ls) o r h c = absurd c
  returned f [] (v ∷ vs) ls o r h c = absurd h
  returned f (k ∷ ks) [] ls o r h c = absurd h
  returned f (Ordinary ∷ ks) (Plain p ∷ vs) [] o r h c = absurd c
  returned f (Ordinary ∷ ks) (Plain p ∷ vs) (l ∷ ls) o r h c = go (returned f ks vs ls o r h c.1)
    where
      go : IsReturned vs ls ⊎ ((classes.stobjs ks ≡ []) × ((lists : Held) → all_held symbols lists vs ≡ ls)) → IsReturned (Plain p ∷ vs) (l ∷ ls) ⊎ ((classes.stobjs ks ≡ []) × ((lists : Held) → form_of symbols p ∷ all_held symbols lists vs ≡ l ∷ ls))
      go (inl i) = inl (record { part = i.part; all = λ lists e. rw (c.0, i.all lists e) refl; corresponding = i.corresponding; well_formed = i.well_formed; homes = i.homes })
      go (inr i) = inr (i.0, λ lists. rw (c.0, i.1 lists) refl)
  returned f (Ordinary ∷ ks) (StobjNamed z ∷ vs) ls o r h c = absurd h
  returned f (worlds.Stobj x ∷ ks) (Plain p ∷ vs) ls o r h c = absurd h
  returned f (worlds.Stobj x ∷ ks) (StobjNamed z ∷ vs) [] o r h c = absurd c
  returned f (worlds.Stobj x ∷ ks) (StobjNamed z ∷ vs) (l ∷ ls) o r h c =
      let both : (has (classes.stobjs ks) x ≡ false) × (repeats (classes.stobjs ks) ≡ false) = neither (has (classes.stobjs ks) x) (repeats (classes.stobjs ks)) r in
      let none : classes.stobjs ks ≡ [] = none_else x ks (subst (λ (q : ℕ). AreOnly q ks) (sym o.0) o.1) both.0 in
      inl (record {
        part = l;
        all = λ lists e. rw (h.0, e, plain_parts ks vs ls lists none h.1 c.3) refl;
        corresponding = subst (λ (q : ℕ). CallHolds b d.corr (last q ∷ l ∷ [])) h.0 c.0;
        well_formed = c.1;
        homes = c.2;
      })

pub no_objects_renamed : (ps : List (ℕ × ℕ)) (ks : List Out) → classes.stobjs ks ≡ [] → classes.stobjs (map (renamed_out ps) ks) ≡ []
no_objects_renamed ps [] e = refl
no_objects_renamed ps (Ordinary ∷ ks) e = no_objects_renamed ps ks e
no_objects_renamed ps (worlds.Stobj x ∷ ks) e = cc
