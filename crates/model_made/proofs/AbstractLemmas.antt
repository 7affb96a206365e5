-- The definition of an abstract stobj keeps a world lawful.
use Rattle.std.proofs.Common.{◌≡◌, ◌≢◌, ℕ, ◌≤◌, List, [], ◌∷◌, map, length, Bool, true, false, Option, Some, None, refl, sym, ap, ◌∙◌, subst, arith, inl, inr}
use Rattle.std.specs.Prelude.{nat_eq, ◌||◌, not, is_some, option_and_then, if◌then◌else◌}
use Rattle.std.specs.Option.{option_map_or}
use Rattle.std.proofs.lemmas.Bool.{eqb-true}
use Rattle.std.proofs.lemmas.List.{length-replicate}
use Rattle.model_terms.specs.Worlds.{World, Out, Ordinary, Stobj, Scope, Signature, Definition, AbstractDescriptor, definition, definition_name, Primitive, Defined, Macro, Constant, Concrete, Generated, Abstract, OfAbstract, Named, Signed}
use Rattle.model_terms.specs.Classes as classes
use Rattle.model_terms.specs.Classes.{class_in, has, repeats}
use Rattle.model_terms.specs.Outputs.{signature_in, signature_of}
use Rattle.model_eval_laws.proofs.Lists.{same_number}
use Rattle.model_accepted.specs.Threaded as threaded
use Rattle.model_accepted.specs.Threaded.{layout_of, AreFormals, formal_entries, AreOnly, IsConcrete, Runs}
use Rattle.model_accepted.proofs.AcceptLemmas.{both_true, not_true, false_true, neither}
use Rattle.model_expansion.specs.Expansion.{arity_of}
use Rattle.model_stobjs.specs.Heads.{name_in_use}
use Rattle.model_stobjs.specs.Abstracts.{with_stobj_named, abstracted, are_good_formals, is_good_formal, is_only, guard_scope}
use Rattle.model_made.specs.Lawful.{IsWellMade, IsLawfulWorld}
use Rattle.model_made.proofs.MemberLemmas.{IsIn}
use Rattle.model_made.proofs.DraftLemmas.{first_free}

-- ---- lists of kinds and formals

-- formals with the stobj's name in place of one
module _ (w : World) (st : ℕ) where
  pub named_length : (ks : List Out) (xs : List ℕ) → length ks ≡ length xs → length (with_stobj_named w st ks xs) ≡ length xs
  named_length [] [] e = refl
  named_length [] (x ∷ xs) e = omega (arith, e)
  named_length (k ∷ ks) [] e = omega (arith, e)
  named_length (k ∷ ks) (x ∷ xs) e = let h = named_length ks xs (omega (arith, e)) in omega (arith, h)

  pub are_formals : (ks : List Out) (xs : List ℕ) → length ks ≡ length xs → AreFormals (with_stobj_named w st ks xs) (map (abstracted w st) ks)
  are_formals [] [] e = tt
  are_formals [] (x ∷ xs) e = tt
  are_formals (k ∷ ks) [] e = absurd (let never : ⊥ = omega (arith, e) in never)
  are_formals (Ordinary ∷ ks) (x ∷ xs) e = are_formals ks xs (omega (arith, e))
  are_formals (Stobj c ∷ ks) (x ∷ xs) e = (refl, are_formals ks xs (omega (arith, e)))

  pub same_abstracted : (ks : List Out) → map (abstracted w st) ks ≡ map (threaded.abstracted st) ks
  same_abstracted [] = refl
  same_abstracted (Ordinary ∷ ks) = ap (λ (os : List Out). Ordinary ∷ os) (same_abstracted ks)
  same_abstracted (Stobj c ∷ ks) = ap (λ (os : List Out). Stobj st ∷ os) (same_abstracted ks)

  pub only_abstracted : (ks : List Out) → AreOnly st (map (abstracted w st) ks)
  only_abstracted [] = tt
  only_abstracted (Ordinary ∷ ks) = only_abstracted ks
  only_abstracted (Stobj c ∷ ks) = (refl, only_abstracted ks)

  pub some_abstracted : (ks : List Out) (c : ℕ) (cs : List ℕ) → classes.stobjs ks ≡ c ∷ cs → classes.stobjs (map (abstracted w st) ks) ≢ []
  some_abstracted [] c cs e = cc
  some_abstracted (Ordinary ∷ ks) c cs e = some_abstracted ks c cs e
  some_abstracted (Stobj b ∷ ks) c cs e = λ f. cc

  pub scope_is : (ks : List Out) (ys : List ℕ) → guard_scope w st ks ys ≡ formal_entries ys (map (abstracted w st) ks)
  scope_is [] [] = refl
  scope_is [] (y ∷ ys) = refl
  scope_is (k ∷ ks) [] = refl
  scope_is (k ∷ ks) (y ∷ ys) = ap (λ (es : Scope). record { name = y; kind = abstracted w st k } ∷ es) (scope_is ks ys)

  -- ---- they differ

  unchanged : (ks : List Out) (xs : List ℕ) → classes.stobjs ks ≡ [] → length ks ≡ length xs → with_stobj_named w st ks xs ≡ xs
  unchanged [] [] o e = refl
  unchanged [] (x ∷ xs) o e = absurd (let never : ⊥ = omega (arith, e) in never)
  unchanged (k ∷ ks) [] o e = absurd (let never : ⊥ = omega (arith, e) in never)
  unchanged (Ordinary ∷ ks) (x ∷ xs) o e = ap (λ (ys : List ℕ). x ∷ ys) (unchanged ks xs o (omega (arith, e)))
  unchanged (Stobj c ∷ ks) (x ∷ xs) o e = cc

  still_not : (ks : List Out) (xs : List ℕ) (y : ℕ) → nat_eq y st ≡ false → has xs y ≡ false → has (with_stobj_named w st ks xs) y ≡ false
  still_not [] xs y d h = refl
  still_not (k ∷ ks) [] y d h = refl
  still_not (Ordinary ∷ ks) (x ∷ xs) y d h =
      let both = neither (nat_eq y x) (has xs y) h in rw (both.0, still_not ks xs y d both.1) refl
  still_not (Stobj c ∷ ks) (x ∷ xs) y d h =
      let both = neither (nat_eq y x) (has xs y) h in rw (d, still_not ks xs y d both.1) refl

  -- no ordinary formal is the stobj
  abbrev pub OthersDiffer : List Out → List ℕ → Type 0
  OthersDiffer [] xs = Unit {0}
  OthersDiffer (k ∷ ks) [] = Unit {0}
  OthersDiffer (Ordinary ∷ ks) (x ∷ xs) = (nat_eq x st ≡ false) × OthersDiffer ks xs
  OthersDiffer (Stobj c ∷ ks) (x ∷ xs) = OthersDiffer ks xs

  turned : (x : ℕ) → nat_eq x st ≡ false → nat_eq st x ≡ false
  turned x e = go (nat_eq st x) refl
    where
      go : (b : Bool) → nat_eq st x ≡ b → b ≡ false
      go true f = false_true (sym e ∙ (ap (nat_eq x) (eqb-true st x f) ∙ same_number x))
      go false f = refl

  not_object : (ks : List Out) (xs : List ℕ) → classes.stobjs ks ≡ [] → length ks ≡ length xs → OthersDiffer ks xs → has xs st ≡ false
  not_object [] [] o e d = refl
  not_object [] (x ∷ xs) o e d = absurd (let never : ⊥ = omega (arith, e) in never)
  not_object (k ∷ ks) [] o e d = refl
  not_object (Ordinary ∷ ks) (x ∷ xs) o e d = rw (turned x d.0, not_object ks xs o (omega (arith, e)) d.1) refl
  not_object (Stobj c ∷ ks) (x ∷ xs) o e d = cc

  pub differ_still : (ks : List Out) (xs : List ℕ) (c : ℕ) → classes.stobjs ks ≡ c ∷ [] → length ks ≡ length xs → OthersDiffer ks xs → repeats xs ≡ false → repeats (with_stobj_named w st ks xs) ≡ false
  differ_still [] xs c o e d r = cc
  differ_still (k ∷ ks) [] c o e d r = refl
  differ_still (Ordinary ∷ ks) (x ∷ xs) c o e d r =
      let both = neither (has xs x) (repeats xs) r in
      rw (still_not ks xs x d.0 both.0, differ_still ks xs c o (omega (arith, e)) d.1 both.1) refl
  differ_still (Stobj b ∷ ks) (x ∷ xs) c o e d r =
      let both = neither (has xs x) (repeats xs) r in
      let none : classes.stobjs ks ≡ [] = rest o in
      rw (unchanged ks xs none (omega (arith, e)), not_object ks xs none (omega (arith, e)) d, both.1) refl
    where
      rest : (b ∷ classes.stobjs ks) ≡ (c ∷ []) → classes.stobjs ks ≡ []
      rest f = cc

pub few_differ : (xs : List ℕ) → length xs ≤ 1 → repeats xs ≡ false
few_differ [] h = refl
few_differ (x ∷ []) h = refl
few_differ (x ∷ (y ∷ xs)) h = absurd (let never : ⊥ = omega (arith, h) in never)

pub good_differ : (w : World) (d : AbstractDescriptor) (exec : Option Definition) (ks : List Out) (es xs : List ℕ) → length es ≡ length ks → are_good_formals w d exec ks es xs ≡ true → OthersDiffer w d.name ks xs
good_differ w d exec [] es xs l e = tt
good_differ w d exec (k ∷ ks) [] xs l e = absurd (let never : ⊥ = omega (arith, l) in never)
good_differ w d exec (k ∷ ks) (f ∷ es) [] l e = tt
good_differ w d exec (Ordinary ∷ ks) (f ∷ es) (x ∷ xs) l e =
    let both = both_true (is_good_formal w d exec x f) (are_good_formals w d exec ks es xs) e in
    (not_true (nat_eq x d.name) (both_true (not (nat_eq x d.name)) _ both.0).0, good_differ w d exec ks es xs (omega (arith, l)) both.1)
good_differ w d exec (Stobj c ∷ ks) (f ∷ es) (x ∷ xs) l e = good_differ w d exec ks es xs (omega (arith, l)) e

pub is_only_one : (w : World) (c : ℕ) (xs : List ℕ) → is_only w c xs ≡ true → xs ≡ c ∷ []
is_only_one w c [] e = false_true e
is_only_one w c (x ∷ []) e = ap (λ (y : ℕ). y ∷ []) (eqb-true x c e)
is_only_one w c (x ∷ (y ∷ ys)) e = false_true e

pub all_only : (c : ℕ) (os : List Out) → ((y : ℕ) → IsIn y (classes.stobjs os) → y ≡ c) → AreOnly c os
all_only c [] h = tt
all_only c (Ordinary ∷ os) h = all_only c os h
all_only c (Stobj y ∷ os) h = (h y (inl refl), all_only c os (λ z i. h z (inr i)))

pub only_is : (x c : ℕ) (os : List Out) → AreOnly x os → classes.stobjs os ≡ c ∷ [] → c ≡ x
only_is x c [] a e = cc
only_is x c (Ordinary ∷ os) a e = only_is x c os a e
only_is x c (Stobj y ∷ os) a e = first e ∙ a.0
  where
    first : (y ∷ classes.stobjs os) ≡ (c ∷ []) → c ≡ y
    first f = cc

-- ---- names of new definitions

in_names : (es : World) (e : Definition) → IsIn e es → has (map definition_name es) (definition_name e) ≡ true
in_names [] e i = absurd i
in_names (d ∷ es) e (inl same) = ap (λ (b : Bool). b || has (map definition_name es) (definition_name e)) (ap (λ (c : Definition). nat_eq (definition_name e) (definition_name c)) (sym same) ∙ same_number (definition_name e))
in_names (d ∷ es) e (inr i) = go (nat_eq (definition_name e) (definition_name d)) (in_names es e i)
  where
    go : (b : Bool) → has (map definition_name es) (definition_name e) ≡ true → (b || has (map definition_name es) (definition_name e)) ≡ true
    go true h = refl
    go false h = h

pub record IsThere (w es : World) (e : Definition) : Type 0 where
  pub nothing : definition w (definition_name e) ≡ None
  pub found : definition es (definition_name e) ≡ Some e

pub names_there : (w es : World) → name_in_use w (map definition_name es) ≡ None → (e : Definition) → IsIn e es → IsThere w es e
names_there w [] h e i = absurd i
names_there w (d ∷ es) h e (inl same) =
    let both = first_free w (definition_name d) (map definition_name es) h in
    subst (IsThere w (d ∷ es)) (sym same) (record { nothing = both.0.nothing; found = ap (λ (b : Bool). if b then Some d else definition es (definition_name d)) (same_number (definition_name d)) })
names_there w (d ∷ es) h e (inr i) =
    let both = first_free w (definition_name d) (map definition_name es) h in
    let later : IsThere w es e = names_there w es both.1 e i in
    record { nothing = later.nothing; found = go (nat_eq (definition_name e) (definition_name d)) refl both.0.once later.found }
  where
    go : (b : Bool) → nat_eq (definition_name e) (definition_name d) ≡ b → has (map definition_name es) (definition_name d) ≡ false → definition es (definition_name e) ≡ Some e → (if b then Some d else definition es (definition_name e)) ≡ Some e
    go true f once found = false_true (sym once ∙ (ap (λ (n : ℕ). has (map definition_name es) n) (sym (eqb-true (definition_name e) (definition_name d) f)) ∙ in_names es e i))
    go false f once found = found

-- ---- functions that are there

module _ (w : World) (l : IsLawfulWorld w) where
  -- a function with its signature
  pub record HasSignature (f : ℕ) : Type 0 where
    pub there : Definition
    pub stands : definition w f ≡ Some there
    pub signature : Signature
    pub signed : signature_in there ≡ Some signature

  pub has_signature_of : (f : ℕ) → is_some (signature_of w [] f) ≡ true → HasSignature f
  has_signature_of f e = go (definition w f) refl e
    where
      of : (d : Definition) → definition w f ≡ Some d → (v : Option Signature) → signature_in d ≡ v → is_some v ≡ true → HasSignature f
      of d e None s h = false_true h
      of d e (Some signature) s h = record { there = d; stands = e; signature = signature; signed = s }

      go : (d : Option Definition) → definition w f ≡ d → is_some (option_and_then signature_in d) ≡ true → HasSignature f
      go None e h = false_true h
      go (Some d) e h = of d e (signature_in d) refl h

  -- as many formals as inputs
  pub arity_is : (f : ℕ) (h : HasSignature f) → arity_of (definition w f) ≡ Some (length h.signature.ins)
  arity_is f h = ap arity_of h.stands ∙ go h.there h.signature (l.made f h.there h.stands) h.signed
    where
      inputs : {s t : Signature} → Some s ≡ Some t → length s.ins ≡ length t.ins
      inputs {s} {t} e = ap (λ (v : Option Signature). option_map_or (λ (u : Signature). length u.ins) v 0) e

      go : (d : Definition) (s : Signature) → IsWellMade w d → signature_in d ≡ Some s → arity_of (Some d) ≡ Some (length s.ins)
      go (Primitive name row) s m e = ap (λ (n : ℕ). Some n) (sym (length-replicate row.arity Ordinary) ∙ inputs e)
      go (Defined g) s m e = ap (λ (n : ℕ). Some n) (sym m.0 ∙ inputs e)
      go (Macro name formals body) s m e = cc
      go (Constant name value) s m e = cc
      go (Concrete d class) s m e = cc
      go (Generated g) s m e = ap (λ (n : ℕ). Some n) (inputs e)
      go (Abstract d) s m e = cc
      go (OfAbstract g) s m e = ap (λ (n : ℕ). Some n) (sym m.0 ∙ inputs e)
      go (Named name formals) s m e = absurd m
      go (Signed name formals signature executable) s m e = ap (λ (n : ℕ). Some n) (sym m ∙ inputs e)
