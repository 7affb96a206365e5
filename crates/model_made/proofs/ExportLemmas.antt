-- What an abstract stobj brings, once nothing is refused.
use Rattle.std.proofs.Common.{◌≡◌, ℕ, zero, suc, ◌+◌, ◌≤◌, List, [], ◌∷◌, ◌++◌, map, length, Bool, true, false, Option, Some, None, refl, sym, ap, ◌∙◌, subst, arith, inl, inr}
use Rattle.std.specs.Prelude.{◌⊎◌, nat_eq, not, is_some, unwrap_or, replicate, option_map, option_and_then, if◌then◌else◌}
use Rattle.std.specs.Option.{option_or, option_map_or}
use Rattle.std.specs.Map.{lookup}
use Rattle.std.specs.List.{flat_map, zip}
use Rattle.std.proofs.lemmas.Bool.{eqb-true}
use Rattle.std.proofs.lemmas.Bool.Decides.{nat_tests}
use Rattle.std.proofs.lemmas.List.{length-map, length-replicate}
use Rattle.model_objects.specs.Object.{Object}
use Rattle.model_symbols.specs.Symbols.{Package}
use Rattle.model_terms.specs.declared.rule.Mode.TheVariants.{Executable}
use Rattle.model_terms.specs.declared.role.AbstractRole.TheVariants as abstract_role
use Rattle.model_terms.specs.Worlds.{World, Out, Ordinary, Stobj, Field, Scope, Signature, Descriptor, Definition, AbstractFunction, AbstractDescriptor, FunctionOfAbstract, definition, definition_name, Primitive, Defined, Macro, Constant, Concrete, Generated, Abstract, OfAbstract, Named, Signed}
use Rattle.model_terms.specs.Classes as classes
use Rattle.model_terms.specs.Classes.{class_in, is_stobj_name, repeats}
use Rattle.model_terms.specs.Outputs.{signature_in, signature_of}
use Rattle.model_terms.specs.Accessors.{ChildAccessor, descriptor_of, accessor_in, is_internal, is_executable}
use Rattle.model_terms.specs.Nested.{same_kinds}
use Rattle.model_terms.specs.Faults.{first_fault}
use Rattle.model_terms.specs.Sites.{one_ordinary}
use Rattle.model_eval.specs.StobjLayouts.{layout_within, defined_layout}
use Rattle.model_eval_laws.specs.Agreement.{ClosedDefinition, StandsIn}
use Rattle.model_accepted.specs.Threaded.{layout_of, AreOnly, IsConcrete, Runs}
use Rattle.model_lawful.specs.Growth.{Becomes}
use Rattle.model_lawful.specs.Lawful.{WasChecked, WasExported, IsReady}
use Rattle.model_accepted.proofs.AcceptLemmas.{kinds_same, both_true, not_true, false_true}
use Rattle.model_expansion.specs.Expansion.{Progress, arity_of}
use Rattle.model_expansion.specs.Faults.{Refusal}
use Rattle.model_expansion.specs.TypeTerms.{true_core}
use Rattle.model_expansion_forms.specs.Nodes.{EachNode, IsOwnCall, HasForms}
use Rattle.model_expansion_forms.specs.Rows.{Takes}
use Rattle.model_expansion_forms.proofs.NodeLemmas.{each_wider, each_both}
use Rattle.model_stobjs.specs.Answers.{Grants, unless, first_given}
use Rattle.model_stobjs.specs.Heads.{name_in_use, bad_name}
use Rattle.model_stobjs.specs.Descriptors.{MadeNames, names_made, room_for, most_of, field_nesting, nesting_by, nesting_within, held_stobj}
use Rattle.model_stobjs.specs.Guards.{renamed_name}
use Rattle.model_stobjs.specs.Abstracts as abstracts
use Rattle.model_stobjs.specs.Abstracts.{WrittenAbstract, written_abstract, slots, makings, filled, made_then, abstract_then, abstract_read, new_names, wanted_functions, foundation_missing, missing_function, signature, signature_mismatch, may_be_exec_of, formals_in, exec_matches, logic_matches, export_matches, with_stobj_named, abstracted, export_formals, guard_in, logic_guard, event_functions, to_exports, export_guard, export_entry, abstract_entries, guard_scope, guard_fault, function_refusal}
use Rattle.model_made.specs.Lawful.{IsWellMade, IsAdmitted, HasStobjOrFew, IsConcreteStobj, FieldsNest, NestsIfAny, stobj_names, IsLawfulWorld}
use Rattle.model_made.proofs.WorldLemmas.{definition_old, definition_new, settled}
use Rattle.model_made.proofs.FormLemmas.{formed_of, closed_running}
use Rattle.model_made.proofs.GrowthLemmas.{Brings, suits, stands_still, takes_still, closed_grown, objects_grown, made_grown, grows}
use Rattle.model_made.proofs.EventLemmas.{IfGrants, grants_unless, grants_needing, none_some}
use Rattle.model_made.proofs.MemberLemmas.{IsIn}
use Rattle.model_made.proofs.NestingLemmas.{see, concrete_at, deep_enough, within_still}
use Rattle.model_made.proofs.DraftLemmas.{none_or, first_free}
use Rattle.model_made.proofs.GuardLemmas.{IsOwnNode, renamed_own, with_own}
use Rattle.model_made.proofs.AbstractLemmas.{named_length, are_formals, same_abstracted, only_abstracted, some_abstracted, scope_is, differ_still, few_differ, good_differ, is_only_one, all_only, only_is, IsThere, names_there, HasSignature, has_signature_of, arity_is}

-- ---- refusals that do not come

abbrev given_or : Option Refusal → Option Refusal → Option Refusal
given_or None later = later
given_or (Some y) later = Some y

none_given : {A : Type 0} (f : A → Option Refusal) (xs : List A) → first_given f xs ≡ None → (x : A) → IsIn x xs → f x ≡ None
none_given f [] e x i = absurd i
none_given f (y ∷ ys) e x i = go (f y) refl e i (none_given f ys)
  where
    go : (v : Option Refusal) → f y ≡ v → given_or v (first_given f ys) ≡ None → (x ≡ y) ⊎ IsIn x ys → (first_given f ys ≡ None → (x : _) → IsIn x ys → f x ≡ None) → f x ≡ None
    go None g h (inl same) later = ap f same ∙ g
    go None g h (inr j) later = later h x j
    go (Some r) g h j later = cc

unless_holds : (b : Bool) (r : Refusal) → (if b then None else Some r) ≡ None → b ≡ true
unless_holds true r e = refl
unless_holds false r e = cc

none_of : {A B : Type 0} (f : A → B) (v : Option A) → option_map f v ≡ None → v ≡ None
none_of f None e = refl
none_of f (Some a) e = cc

module _ (w : World) (l : IsLawfulWorld w) (d : AbstractDescriptor) (accepted : function_refusal w d ≡ None) where
  abbrev pub with_abstract : World
  with_abstract = w ++ abstract_entries w d

  -- ---- what was tested

  names_free : name_in_use w (new_names d) ≡ None
  names_free = (none_or (name_in_use w (new_names d)) _ accepted).0

  found_part : option_or (foundation_missing w d) (option_or (first_given (missing_function w) (wanted_functions d)) (option_or (signature_mismatch w d) (first_given (guard_fault w d) d.exports))) ≡ None
  found_part = (none_or (name_in_use w (new_names d)) _ accepted).1

  foundation_concrete : IsConcreteStobj w d.foundation
  foundation_concrete = go (descriptor_of w d.foundation) refl (unless_holds (is_some (descriptor_of w d.foundation)) _ (none_or (foundation_missing w d) _ found_part).0)
    where
      go : (v : Option Descriptor) → descriptor_of w d.foundation ≡ v → is_some v ≡ true → IsConcreteStobj w d.foundation
      go None e f = false_true f
      go (Some c) e f = (c, e)

  wanted_part : option_or (first_given (missing_function w) (wanted_functions d)) (option_or (signature_mismatch w d) (first_given (guard_fault w d) d.exports)) ≡ None
  wanted_part = (none_or (foundation_missing w d) _ found_part).1

  wanted_there : (f : ℕ) → IsIn f (wanted_functions d) → HasSignature w l f
  wanted_there f i =
      has_signature_of w l f (unless_holds (is_some (signature_of w [] f)) _ (none_given (missing_function w) (wanted_functions d) (none_or (first_given (missing_function w) (wanted_functions d)) _ wanted_part).0 f i))

  last_part : option_or (signature_mismatch w d) (first_given (guard_fault w d) d.exports) ≡ None
  last_part = (none_or (first_given (missing_function w) (wanted_functions d)) _ wanted_part).1

  -- the signature of a function that is there
  signature_is : (f : ℕ) (h : HasSignature w l f) → signature w f ≡ h.signature
  signature_is f h = ap (λ (c : Option Definition). unwrap_or (option_and_then signature_in c) (abstracts.no_signature w)) h.stands ∙ ap (λ (s : Option Signature). unwrap_or s (abstracts.no_signature w)) h.signed

  in_exports : (f : AbstractFunction) (fs : List AbstractFunction) → IsIn f fs → (rest : List ℕ) → IsIn f.logic (flat_map (λ (f : AbstractFunction). f.logic ∷ f.exec ∷ []) fs) × IsIn f.exec (flat_map (λ (f : AbstractFunction). f.logic ∷ f.exec ∷ []) fs)
  in_exports f [] i rest = absurd i
  in_exports f (g ∷ fs) (inl same) rest = (inl (ap (λ (q : AbstractFunction). q.logic) same), inr (inl (ap (λ (q : AbstractFunction). q.exec) same)))
  in_exports f (g ∷ fs) (inr i) rest = let h = in_exports f fs i rest in (inr (inr h.0), inr (inr h.1))

  logic_there : (f : AbstractFunction) → IsIn f d.exports → HasSignature w l f.logic
  logic_there f i = wanted_there f.logic (inr (inr (inr (inr (inr (in_exports f d.exports i []).0)))))

  exec_there : (f : AbstractFunction) → IsIn f d.exports → HasSignature w l f.exec
  exec_there f i = wanted_there f.exec (inr (inr (inr (inr (inr (in_exports f d.exports i []).1)))))

  -- ---- an export

  record Matches (f : AbstractFunction) : Type 0 where
    may_be : may_be_exec_of w (definition w f.exec) ≡ true
    one : classes.stobjs (signature w f.exec).ins ≡ d.foundation ∷ []
    outs : AreOnly d.foundation (signature w f.exec).outs
    no_primitive : abstracts.is_primitive w (definition w f.logic) ≡ false
    ordinary : (signature w f.logic).ins ≡ replicate (length (signature w f.exec).ins) Ordinary
    good : abstracts.are_good_formals w d (definition w f.exec) (signature w f.exec).ins (abstracts.formals w f.exec) (abstracts.formals w f.logic) ≡ true

  matches : (f : AbstractFunction) → IsIn f d.exports → Matches f
  matches f i =
      let mismatches = (none_or (signature_mismatch w d) _ last_part).0 in
      let recognizer = none_or (abstracts.mismatch_unless w d.recognizer.name (abstracts.recognizer_matches w d)) _ mismatches in
      let creator = none_or (abstracts.mismatch_unless w d.creator.name (abstracts.creator_matches w d)) _ recognizer.1 in
      let corr = none_or (abstracts.mismatch_unless w d.corr (abstracts.corr_matches w d)) _ creator.1 in
      let this : export_matches w d f ≡ true = unless_holds (export_matches w d f) _ (none_given (λ (f : AbstractFunction). abstracts.mismatch_unless w f.name (export_matches w d f)) d.exports corr.1 f i) in
      let exec = both_true (exec_matches w d.foundation f) _ this in
      let may = both_true (may_be_exec_of w (definition w f.exec)) _ exec.0 in
      let stobjs = both_true (abstracts.is_only w d.foundation (classes.stobjs (signature w f.exec).ins)) _ may.1 in
      let logic = both_true (logic_matches w f) _ exec.1 in
      let kinds = both_true (not (abstracts.is_primitive w (definition w f.logic))) _ logic.0 in
      let ins = both_true (same_kinds (signature w f.logic).ins (replicate (length (signature w f.exec).ins) Ordinary)) _ kinds.1 in
      record {
        may_be = may.0;
        one = is_only_one w d.foundation (classes.stobjs (signature w f.exec).ins) stobjs.0;
        outs = all_only d.foundation (signature w f.exec).outs (only_in (classes.stobjs (signature w f.exec).outs) stobjs.1);
        no_primitive = not_true (abstracts.is_primitive w (definition w f.logic)) kinds.0;
        ordinary = kinds_same (signature w f.logic).ins (replicate (length (signature w f.exec).ins) Ordinary) ins.0;
        good = logic.1;
      }
    where
      only_in : (xs : List ℕ) → abstracts.is_only_or_none w d.foundation xs ≡ true → (y : ℕ) → IsIn y xs → y ≡ d.foundation
      only_in [] e y i = absurd i
      only_in (x ∷ xs) e y i = in_one (is_only_one w d.foundation (x ∷ xs) e) i
        where
          in_one : (x ∷ xs) ≡ (d.foundation ∷ []) → IsIn y (x ∷ xs) → y ≡ d.foundation
          in_one f j = go (subst (λ (ys : List ℕ). IsIn y ys) f j)
            where
              go : (y ≡ d.foundation) ⊎ ⊥ → y ≡ d.foundation
              go (inl same) = same
              go (inr never) = absurd never

  -- as many formals as arguments
  formals_long : (f n : ℕ) → arity_of (definition w f) ≡ Some n → length (abstracts.formals w f) ≡ n
  formals_long f n e = go (definition w f) e
    where
      number : {a : ℕ} → Some a ≡ Some n → a ≡ n
      number h = cc

      go : (c : Option Definition) → arity_of c ≡ Some n → length (formals_in w c) ≡ n
      go None h = cc
      go (Some (Primitive name row)) h = length-replicate row.arity _ ∙ number h
      go (Some (Defined g)) h = number h
      go (Some (Macro name formals body)) h = cc
      go (Some (Constant name value)) h = cc
      go (Some (Concrete c class)) h = cc
      go (Some (Generated g)) h = length-replicate (length g.signature.ins) _ ∙ number h
      go (Some (Abstract c)) h = cc
      go (Some (OfAbstract g)) h = number h
      go (Some (Named name formals)) h = number h
      go (Some (Signed name formals signature executable)) h = number h

  exec_long : (f : AbstractFunction) → IsIn f d.exports → length (abstracts.formals w f.exec) ≡ length (signature w f.exec).ins
  exec_long f i =
      let h = exec_there f i in
      formals_long f.exec (length h.signature.ins) (arity_is w l f.exec h) ∙ ap (λ (s : Signature). length s.ins) (sym (signature_is f.exec h))

  logic_ins : (f : AbstractFunction) (i : IsIn f d.exports) → length (logic_there f i).signature.ins ≡ length (signature w f.exec).ins
  logic_ins f i =
      ap (λ (s : Signature). length s.ins) (sym (signature_is f.logic (logic_there f i))) ∙ (ap length (matches f i).ordinary ∙ length-replicate (length (signature w f.exec).ins) Ordinary)

  same_length : (f : AbstractFunction) → IsIn f d.exports → length (signature w f.exec).ins ≡ length (abstracts.formals w f.logic)
  same_length f i =
      let h = logic_there f i in
      sym (logic_ins f i) ∙ sym (formals_long f.logic (length h.signature.ins) (arity_is w l f.logic h))

  -- ---- formals differ

  no_objects : (n : ℕ) → classes.stobjs (replicate n Ordinary) ≡ []
  no_objects zero = refl
  no_objects (suc n) = no_objects n

  few_of : (ins : List Out) (n : ℕ) → ins ≡ replicate n Ordinary → HasStobjOrFew ins → length ins ≤ 1
  few_of ins n e (inl h) = h
  few_of ins n e (inr h) = absurd (h (ap classes.stobjs e ∙ no_objects n))

  differ_or_few : (f : AbstractFunction) → IsIn f d.exports → (repeats (abstracts.formals w f.logic) ≡ false) ⊎ (length (abstracts.formals w f.logic) ≤ 1)
  differ_or_few f i =
      let h = logic_there f i in
      go h.there h.stands (l.made f.logic h.there h.stands) (l.admitted f.logic h.there h.stands) h.signed
      (ap (abstracts.is_primitive w) (sym h.stands) ∙ (matches f i).no_primitive)
    where
      ins_are : (s : Signature) → definition w f.logic ≡ definition w f.logic → (logic_there f i).signature ≡ s → s.ins ≡ replicate (length (signature w f.exec).ins) Ordinary
      ins_are s e same = ap (λ (t : Signature). t.ins) (sym same) ∙ (ap (λ (t : Signature). t.ins) (sym (signature_is f.logic (logic_there f i))) ∙ (matches f i).ordinary)

      is : {s t : Signature} → Some s ≡ Some t → t ≡ s
      is e = cc

      long : (n : ℕ) (ins : List Out) → n ≡ length ins → length ins ≤ 1 → n ≤ 1
      long n ins e h = omega (arith, e, h)

      few : (c : Definition) (s : Signature) → definition w f.logic ≡ Some c → signature_in c ≡ Some s → Some s ≡ Some (logic_there f i).signature → HasStobjOrFew s.ins → length (abstracts.formals w f.logic) ≤ 1
      few c s e g same o =
          let same_signature : (logic_there f i).signature ≡ s = is same in
          long (length (abstracts.formals w f.logic)) s.ins (sym (same_length f i) ∙ (sym (logic_ins f i) ∙ ap (λ (t : Signature). length t.ins) same_signature))
          (few_of s.ins (length (signature w f.exec).ins) (ins_are s refl same_signature) o)

      go : (c : Definition) → definition w f.logic ≡ Some c → IsWellMade w c → IsAdmitted c → signature_in c ≡ Some (logic_there f i).signature → abstracts.is_primitive w (Some c) ≡ false
          → (repeats (abstracts.formals w f.logic) ≡ false) ⊎ (length (abstracts.formals w f.logic) ≤ 1)
      go (Primitive name row) e m a g p = false_true (sym p)
      go (Defined q) e m a g p = inl (ap (λ (c : Option Definition). repeats (formals_in w c)) e ∙ m.1)
      go (Macro name formals body) e m a g p = cc
      go (Constant name value) e m a g p = cc
      go (Concrete c class) e m a g p = cc
      go (Generated q) e m a g p = inr (few (Generated q) q.signature e refl g m)
      go (Abstract c) e m a g p = cc
      go (OfAbstract q) e m a g p = inr (few (OfAbstract q) q.signature e refl g m.3)
      go (Named name formals) e m a g p = absurd m
      go (Signed name formals s executable) e m a g p = absurd a

  export_differ : (f : AbstractFunction) → IsIn f d.exports → repeats (export_formals w d f) ≡ false
  export_differ f i = go (differ_or_few f i)
    where
      go : (repeats (abstracts.formals w f.logic) ≡ false) ⊎ (length (abstracts.formals w f.logic) ≤ 1) → repeats (export_formals w d f) ≡ false
      go (inl r) =
          differ_still w d.name (signature w f.exec).ins (abstracts.formals w f.logic) d.foundation (matches f i).one (same_length f i)
          (good_differ w d (definition w f.exec) (signature w f.exec).ins (abstracts.formals w f.exec) (abstracts.formals w f.logic) (exec_long f i) (matches f i).good) r
      go (inr few) =
          let long : length (export_formals w d f) ≡ length (abstracts.formals w f.logic) = named_length w d.name (signature w f.exec).ins (abstracts.formals w f.logic) (same_length f i) in
          few_differ (export_formals w d f) (omega (arith, long, few))

  -- ---- no formal is named like the foundation

  foundation_differs : nat_eq d.foundation d.name ≡ false
  foundation_differs = go (nat_eq d.foundation d.name) refl
    where
      go : (b : Bool) → nat_eq d.foundation d.name ≡ b → b ≡ false
      go true e =
          none_some (definition w d.foundation)
          (ap (definition w) (eqb-true d.foundation d.name e) ∙ (first_free w d.name (d.recognizer.name ∷ d.creator.name ∷ abstracts.export_names d) names_free).0.nothing) (concrete_at w d.foundation foundation_concrete).there
      go false e = refl

  formals_apart : (exec : Option Definition) (ks : List Out) (es xs : List ℕ) → length es ≡ length ks → abstracts.are_good_formals w d exec ks es xs ≡ true → classes.has (with_stobj_named w d.name ks xs) d.foundation ≡ false
  formals_apart exec [] es xs l e = refl
  formals_apart exec (k ∷ ks) [] xs l e = absurd (let never : ⊥ = omega (arith, l) in never)
  formals_apart exec (k ∷ ks) (g ∷ es) [] l e = refl
  formals_apart exec (Ordinary ∷ ks) (g ∷ es) (x ∷ xs) l e =
      let both = both_true (abstracts.is_good_formal w d exec x g) (abstracts.are_good_formals w d exec ks es xs) e in
      let apart = both_true (not (nat_eq x d.foundation)) _ (both_true (not (nat_eq x d.name)) _ both.0).1 in
      rw (turned x d.foundation (not_true (nat_eq x d.foundation) apart.0), formals_apart exec ks es xs (omega (arith, l)) both.1) refl
    where
      turned : (a b : ℕ) → nat_eq a b ≡ false → nat_eq b a ≡ false
      turned a b e = grind (arith, nat_tests)
  formals_apart exec (Stobj c ∷ ks) (g ∷ es) (x ∷ xs) l e = rw (foundation_differs, formals_apart exec ks es xs (omega (arith, l)) e) refl

  pub export_apart : (f : AbstractFunction) → IsIn f d.exports → classes.has (export_formals w d f) d.foundation ≡ false
  export_apart f i = formals_apart (definition w f.exec) (signature w f.exec).ins (abstracts.formals w f.exec) (abstracts.formals w f.logic) (exec_long f i) (matches f i).good

  -- ---- entries by their names

  abbrev recognizer_entry : Definition
  recognizer_entry = abstracts.function_of w d d.recognizer abstract_role.Recognizer (d.name ∷ []) (record { ins = Stobj d.name ∷ []; outs = Ordinary ∷ [] }) true_core

  abbrev creator_entry : Definition
  creator_entry = abstracts.function_of w d d.creator abstract_role.Creator [] (record { ins = []; outs = Stobj d.name ∷ [] }) true_core

  exports_named : (fs : List AbstractFunction) → map definition_name (map (export_entry w d) fs) ≡ map (λ (f : AbstractFunction). f.name) fs
  exports_named [] = refl
  exports_named (f ∷ fs) = ap (λ (ns : List ℕ). f.name ∷ ns) (exports_named fs)

  entries_free : name_in_use w (map definition_name (abstract_entries w d)) ≡ None
  entries_free = ap (λ (ns : List ℕ). name_in_use w (d.name ∷ d.recognizer.name ∷ d.creator.name ∷ ns)) (exports_named d.exports) ∙ names_free

  stands_new : (e : Definition) → IsIn e (abstract_entries w d) → definition with_abstract (definition_name e) ≡ Some e
  stands_new e i =
      let there : IsThere w (abstract_entries w d) e = names_there w (abstract_entries w d) entries_free e i in
      definition_new w (abstract_entries w d) (definition_name e) there.nothing ∙ there.found

  in_mapped : (f : AbstractFunction) (fs : List AbstractFunction) → IsIn f fs → IsIn (export_entry w d f) (map (export_entry w d) fs)
  in_mapped f [] i = absurd i
  in_mapped f (g ∷ fs) (inl same) = inl (ap (export_entry w d) same)
  in_mapped f (g ∷ fs) (inr i) = inr (in_mapped f fs i)

  stobj_there : definition with_abstract d.name ≡ Some (Abstract d)
  stobj_there = stands_new (Abstract d) (inl refl)

  -- ---- functions that stand for others take as many arguments

  takes_exactly : (x n m : ℕ) → Takes w x n → arity_of (definition w x) ≡ Some m → m ≡ n
  takes_exactly x n m t e = is (sym e ∙ t)
    where
      is : Some m ≡ Some n → m ≡ n
      is f = cc

  takes_by : (f : AbstractFunction) (h : HasSignature w l f.logic) (m : ℕ) → length h.signature.ins ≡ m → Takes with_abstract f.name m → (n : ℕ) → Takes w f.logic n → Takes with_abstract f.name n
  takes_by f h m e t n k = subst (Takes with_abstract f.name) (sym e ∙ takes_exactly f.logic n (length h.signature.ins) k (arity_is w l f.logic h)) t

  matched_length : (f m k : ℕ) (h : HasSignature w l f) → abstracts.has_signature w f m k ≡ true → length h.signature.ins ≡ m
  matched_length f m k h e =
      ap (λ (s : Signature). length s.ins) (sym (signature_is f h))
      ∙ (ap length (kinds_same (signature w f).ins (replicate m Ordinary) (both_true (same_kinds (signature w f).ins (replicate m Ordinary)) _ e).0) ∙ length-replicate m Ordinary)

  recognizer_takes : (n : ℕ) → Takes w d.recognizer.logic n → Takes with_abstract d.recognizer.name n
  recognizer_takes =
      let h = wanted_there d.recognizer.logic (inl refl) in
      let mismatches = (none_or (signature_mismatch w d) _ last_part).0 in
      let recognizer = none_or (abstracts.mismatch_unless w d.recognizer.name (abstracts.recognizer_matches w d)) _ mismatches in
      let match = both_true (nat_eq d.recognizer.exec (abstracts.foundations_recognizer w d.foundation)) _ (unless_holds (abstracts.recognizer_matches w d) _ recognizer.0) in
      takes_by d.recognizer h 1 (matched_length d.recognizer.logic 1 1 h match.1) (ap arity_of (stands_new recognizer_entry (inr (inl refl))))

  creator_takes : (n : ℕ) → Takes w d.creator.logic n → Takes with_abstract d.creator.name n
  creator_takes =
      let h = wanted_there d.creator.logic (inr (inr (inl refl))) in
      let mismatches = (none_or (signature_mismatch w d) _ last_part).0 in
      let recognizer = none_or (abstracts.mismatch_unless w d.recognizer.name (abstracts.recognizer_matches w d)) _ mismatches in
      let creator = none_or (abstracts.mismatch_unless w d.creator.name (abstracts.creator_matches w d)) _ recognizer.1 in
      let match = both_true (nat_eq d.creator.exec (abstracts.foundations_creator w d.foundation)) _ (unless_holds (abstracts.creator_matches w d) _ creator.0) in
      takes_by d.creator h 0 (matched_length d.creator.logic 0 1 h match.1) (ap arity_of (stands_new creator_entry (inr (inr (inl refl)))))

  export_takes : (f : AbstractFunction) → IsIn f d.exports → (n : ℕ) → Takes w f.logic n → Takes with_abstract f.name n
  export_takes f i =
      takes_by f (logic_there f i) (length (export_formals w d f))
      (logic_ins f i ∙ (same_length f i ∙ sym (named_length w d.name (signature w f.exec).ins (abstracts.formals w f.logic) (same_length f i))))
      (ap arity_of (stands_new (export_entry w d f) (inr (inr (inr (in_mapped f d.exports i))))))

  all_take : (f : AbstractFunction) → IsIn f (event_functions w d) → (n : ℕ) → Takes w f.logic n → Takes with_abstract f.name n
  all_take f (inl same) = subst (λ (q : AbstractFunction). (n : ℕ) → Takes w q.logic n → Takes with_abstract q.name n) (sym same) recognizer_takes
  all_take f (inr (inl same)) = subst (λ (q : AbstractFunction). (n : ℕ) → Takes w q.logic n → Takes with_abstract q.name n) (sym same) creator_takes
  all_take f (inr (inr i)) = export_takes f i

  renamed_takes : (fs : List AbstractFunction) → ((f : AbstractFunction) → IsIn f fs → (n : ℕ) → Takes w f.logic n → Takes with_abstract f.name n) → (x n : ℕ) → Takes w x n
      → Takes with_abstract (renamed_name (map (λ (f : AbstractFunction). (f.logic, f.name)) fs) x) n
  renamed_takes [] h x n t = takes_still w (abstract_entries w d) l x n t
  renamed_takes (f ∷ fs) h x n t = go (nat_eq x f.logic) refl (renamed_takes fs (λ g i. h g (inr i)) x n t)
    where
      go : (b : Bool) → nat_eq x f.logic ≡ b → Takes with_abstract (renamed_name (map (λ (f : AbstractFunction). (f.logic, f.name)) fs) x) n
          → Takes with_abstract (unwrap_or (if b then Some f.name else lookup (nat_eq x) (map (λ (f : AbstractFunction). (f.logic, f.name)) fs)) x) n
      go true e later = h f (inl refl) n (ap (λ (y : ℕ). arity_of (definition w y)) (sym (eqb-true x f.logic e)) ∙ t)
      go false e later = later

  -- ---- guards

  guard_own : (f : AbstractFunction) → EachNode (IsOwnNode w) (guard_in w (definition w f.logic))
  guard_own f = go (definition w f.logic) refl
    where
      always : EachNode (IsOwnNode w) true_core
      always = record { own = tt; forms = tt }

      go : (c : Option Definition) → definition w f.logic ≡ c → EachNode (IsOwnNode w) (guard_in w c)
      go None e = always
      go (Some (Primitive name row)) e = always
      go (Some (Defined g)) e =
          let made : IsWellMade w (Defined g) = l.made f.logic (Defined g) e in
          each_both (IsOwnCall w) HasForms (IsOwnNode w) (λ q a b. record { own = a; forms = b }) g.guard made.2 made.3
      go (Some (Macro name formals body)) e = always
      go (Some (Constant name value)) e = always
      go (Some (Concrete c class)) e = always
      go (Some (Generated g)) e = always
      go (Some (Abstract c)) e = always
      go (Some (OfAbstract g)) e = always
      go (Some (Named name formals)) e = always
      go (Some (Signed name formals s executable)) e = always

  export_own : (f : AbstractFunction) → EachNode (IsOwnNode with_abstract) (export_guard w d f)
  export_own f =
      with_own w with_abstract (to_exports w d) (renamed_takes (event_functions w d) all_take) (logic_guard w d f)
      (renamed_own w (guard_in w (definition w f.logic)) (zip (abstracts.formals w f.logic) (export_formals w d f)) (guard_own f))

  guard_accepted : (f : AbstractFunction) → IsIn f d.exports → first_fault with_abstract Executable (guard_scope w d.name (signature w f.exec).ins (export_formals w d f)) (export_guard w d f) one_ordinary ≡ None
  guard_accepted f i = none_of _ _ (none_given (guard_fault w d) d.exports (none_or (signature_mismatch w d) _ last_part).1 f i)

  -- ---- new definitions

  data IsNewDefinition (x : ℕ) (c : Definition) : Type 0 where
    the_object : x ≡ d.name → c ≡ Abstract d → IsNewDefinition x c
    the_recognizer : c ≡ recognizer_entry → IsNewDefinition x c
    the_creator : c ≡ creator_entry → IsNewDefinition x c
    an_export : (f : AbstractFunction) → IsIn f d.exports → c ≡ export_entry w d f → IsNewDefinition x c

  found_export : (fs : List AbstractFunction) (x : ℕ) (c : Definition) → definition (map (export_entry w d) fs) x ≡ Some c → (f : AbstractFunction) × IsIn f fs × (c ≡ export_entry w d f)
  found_export [] x c e = cc
  found_export (f ∷ fs) x c e = go (nat_eq x f.name) e (found_export fs x c)
    where
      is : Some (export_entry w d f) ≡ Some c → c ≡ export_entry w d f
      is g = cc

      go : (b : Bool) → (if b then Some (export_entry w d f) else definition (map (export_entry w d) fs) x) ≡ Some c → (definition (map (export_entry w d) fs) x ≡ Some c → (g : AbstractFunction) × IsIn g fs × (c ≡ export_entry w d g))
          → (g : AbstractFunction) × IsIn g (f ∷ fs) × (c ≡ export_entry w d g)
      go true g later = (f, inl refl, is g)
      go false g later = let h = later g in (h.0, inr h.1, h.2)

  is_new : (x : ℕ) (c : Definition) → definition (abstract_entries w d) x ≡ Some c → IsNewDefinition x c
  is_new x c e = first (nat_eq x d.name) refl e
    where
      is : {a b : Definition} → Some a ≡ Some b → b ≡ a
      is f = cc

      third : (b : Bool) → (if b then Some creator_entry else definition (map (export_entry w d) d.exports) x) ≡ Some c → IsNewDefinition x c
      third true g = the_creator (is g)
      third false g = let h = found_export d.exports x c g in an_export h.0 h.1 h.2

      second : (b : Bool) → (if b then Some recognizer_entry else definition (creator_entry ∷ map (export_entry w d) d.exports) x) ≡ Some c → IsNewDefinition x c
      second true g = the_recognizer (is g)
      second false g = third (nat_eq x d.creator.name) g

      first : (b : Bool) → nat_eq x d.name ≡ b → (if b then Some (Abstract d) else definition (recognizer_entry ∷ creator_entry ∷ map (export_entry w d) d.exports) x) ≡ Some c → IsNewDefinition x c
      first true f g = the_object (eqb-true x d.name f) (is g)
      first false f g = second (nat_eq x d.recognizer.name) g

  concrete_stands : StandsIn w d.foundation
  concrete_stands = let at = concrete_at w d.foundation foundation_concrete in (Concrete at.descriptor at.class, at.there)

  later_stands : (f : ℕ) → HasSignature w l f → StandsIn with_abstract f
  later_stands f h = stands_still w (abstract_entries w d) l f (h.there, h.stands)

  object_stands : (x : ℕ) → is_stobj_name with_abstract x ≡ true → StandsIn with_abstract x
  object_stands x e = go (definition with_abstract x) refl e
    where
      go : (c : Option Definition) → definition with_abstract x ≡ c → is_some (option_and_then class_in c) ≡ true → StandsIn with_abstract x
      go None f g = false_true g
      go (Some c) f g = (c, f)

  brings : Brings w (abstract_entries w d)
  brings = record {
    closed = λ x c none e. closed_new x c (is_new x c e);
    made = λ x c none e. made_new x c (is_new x c e);
    alike = λ x k c none e f. (class_new x c (is_new x c e) k f).0;
    there = λ x k c none e f. (class_new x c (is_new x c e) k f).1;
    accessors = λ x c a none e f. no_accessor x c (is_new x c e) a f;
    children = λ x class c none e. not_concrete x class c (is_new x (Concrete c class) e);
    nested = λ x class c none e. not_concrete x class c (is_new x (Concrete c class) e);
  }
    where
      closed_new : (x : ℕ) (c : Definition) → IsNewDefinition x c → ClosedDefinition (StandsIn with_abstract) c
      closed_new x c (the_object e f) = subst (ClosedDefinition (StandsIn with_abstract)) (sym f) (stands_still w (abstract_entries w d) l d.foundation concrete_stands)
      closed_new x c (the_recognizer e) = subst (ClosedDefinition (StandsIn with_abstract)) (sym e) (tt, later_stands d.recognizer.exec (wanted_there d.recognizer.exec (inr (inl refl))))
      closed_new x c (the_creator e) = subst (ClosedDefinition (StandsIn with_abstract)) (sym e) (tt, later_stands d.creator.exec (wanted_there d.creator.exec (inr (inr (inr (inl refl))))))
      closed_new x c (an_export f i e) =
          subst (ClosedDefinition (StandsIn with_abstract)) (sym e) (
            closed_running with_abstract with_abstract object_stands (guard_scope w d.name (signature w f.exec).ins (export_formals w d f)) (export_guard w d f) one_ordinary (guard_accepted f i)
                (each_wider (IsOwnNode with_abstract) (IsOwnCall with_abstract) (λ g k. k.own) (export_guard w d f) (export_own f)),
            later_stands f.exec (exec_there f i),
          )

      made_new : (x : ℕ) (c : Definition) → IsNewDefinition x c → IsWellMade with_abstract c
      made_new x c (the_object e f) = subst (IsWellMade with_abstract) (sym f) tt
      made_new x c (the_recognizer e) = subst (IsWellMade with_abstract) (sym e) (refl, (refl, tt), (d, stobj_there), inl (omega arith))
      made_new x c (the_creator e) = subst (IsWellMade with_abstract) (sym e) (refl, tt, (d, stobj_there), inl (omega arith))
      made_new x c (an_export f i e) =
          subst (IsWellMade with_abstract) (sym e) (
            length-map (signature w f.exec).ins (abstracted w d.name) ∙ (same_length f i ∙ sym (named_length w d.name (signature w f.exec).ins (abstracts.formals w f.logic) (same_length f i))),
            only_abstracted w d.name (signature w f.exec).ins,
            (d, stobj_there),
            inr (some_abstracted w d.name (signature w f.exec).ins d.foundation [] (matches f i).one),
          )

      number_is : {m n : ℕ} → Some m ≡ Some n → m ≡ n
      number_is e = cc

      class_new : (x : ℕ) (c : Definition) → IsNewDefinition x c → (k : ℕ) → class_in c ≡ Some k → (layout_of with_abstract x ≡ layout_of with_abstract k) × StandsIn with_abstract k
      class_new x c (the_object e f) k g =
          let same : d.name ≡ k = number_is (ap class_in (sym f) ∙ g) in
          (ap (layout_of with_abstract) (e ∙ same), subst (StandsIn with_abstract) same (Abstract d, stobj_there))
      class_new x c (the_recognizer e) k g = none_some (class_in c) (ap class_in e) g
      class_new x c (the_creator e) k g = none_some (class_in c) (ap class_in e) g
      class_new x c (an_export f i e) k g = none_some (class_in c) (ap class_in e) g

      no_accessor : {B : Type 0} (x : ℕ) (c : Definition) → IsNewDefinition x c → (a : ChildAccessor) → accessor_in with_abstract c ≡ Some a → B
      no_accessor x c (the_object e f) a g = none_some (accessor_in with_abstract c) (ap (accessor_in with_abstract) f) g
      no_accessor x c (the_recognizer e) a g = none_some (accessor_in with_abstract c) (ap (accessor_in with_abstract) e) g
      no_accessor x c (the_creator e) a g = none_some (accessor_in with_abstract c) (ap (accessor_in with_abstract) e) g
      no_accessor x c (an_export f i e) a g = none_some (accessor_in with_abstract c) (ap (accessor_in with_abstract) e) g

      differs : {B : Type 0} (c : Descriptor) (class : ℕ) (f : FunctionOfAbstract) → Concrete c class ≡ OfAbstract f → B
      differs c class f e = cc

      not_concrete : {B : Type 0} (x class : ℕ) (c : Descriptor) → IsNewDefinition x (Concrete c class) → B
      not_concrete x class c (the_object e f) = not_abstract f
        where
          not_abstract : {B : Type 0} → Concrete c class ≡ Abstract d → B
          not_abstract f = cc
      not_concrete x class c (the_recognizer e) = differs c class _ e
      not_concrete x class c (the_creator e) = differs c class _ e
      not_concrete x class c (an_export f i e) = differs c class _ e

  -- ---- the stobj has the layout of its foundation

  most_nest : (fs : List Field) → FieldsNest w fs → most_of (map (field_nesting (nesting_within w 64)) fs) ≤ 63
  most_nest [] h = omega arith
  most_nest (f ∷ fs) h = let here = go (held_stobj f.shape) h.0 in let later = most_nest fs h.1 in omega (arith, here, later)
    where
      go : (v : Option ℕ) → NestsIfAny w v → option_map_or (nesting_within w 64) v 0 ≤ 63
      go None k = omega arith
      go (Some x) k = omega (arith, k)

  foundation_nests : nesting_within w 65 d.foundation ≤ 64
  unfolding nesting_within
  foundation_nests =
      let at = concrete_at w d.foundation foundation_concrete in
      let here : nesting_by (nesting_within w 64) (descriptor_of w d.foundation) ≡ most_of (map (field_nesting (nesting_within w 64)) at.descriptor.fields) + 1 = ap (nesting_by (nesting_within w 64)) at.found in
      let most = most_nest at.descriptor.fields (l.nested d.foundation at.class at.descriptor at.there) in
      omega (arith, here, most)

  object_layout_is : layout_of with_abstract d.name ≡ layout_within see with_abstract 64 d.foundation
  unfolding layout_within
  object_layout_is = ap (defined_layout see (layout_within see with_abstract 64)) stobj_there

  alike_layout : layout_of with_abstract d.name ≡ layout_of with_abstract d.foundation
  alike_layout =
      object_layout_is
      ∙ (within_still w with_abstract l.lawful.closed (definition_old w (abstract_entries w d)) 64 d.foundation concrete_stands
      ∙ (deep_enough w l.children 64 d.foundation foundation_concrete foundation_nests ∙ sym (within_still w with_abstract l.lawful.closed (definition_old w (abstract_entries w d)) 65 d.foundation concrete_stands)))

  -- ---- exports are ready

  admitted_new : (x : ℕ) (c : Definition) → IsNewDefinition x c → IsAdmitted c
  admitted_new x c (the_object e f) = subst IsAdmitted (sym f) tt
  admitted_new x c (the_recognizer e) = subst IsAdmitted (sym e) tt
  admitted_new x c (the_creator e) = subst IsAdmitted (sym e) tt
  admitted_new x c (an_export f i e) = subst IsAdmitted (sym e) tt

  all_admitted : (x : ℕ) (c : Definition) → definition with_abstract x ≡ Some c → IsAdmitted c
  all_admitted x c e = go (definition w x) refl
    where
      is : {a b : Definition} → Some a ≡ Some b → a ≡ b
      is f = cc

      go : (v : Option Definition) → definition w x ≡ v → IsAdmitted c
      go None f = admitted_new x c (is_new x c (sym (definition_new w (abstract_entries w d) x f) ∙ e))
      go (Some b) f = subst IsAdmitted (is (sym (definition_old w (abstract_entries w d) x b f) ∙ e)) (l.admitted x b f)

  becomes_itself : Becomes with_abstract with_abstract
  becomes_itself = record { each = λ x c e. settled with_abstract x c (all_admitted x c e) e }

  exec_concrete : (f : AbstractFunction) → (i : IsIn f d.exports) → (c : Definition) → definition w f.exec ≡ Some c → signature_in c ≡ Some (exec_there f i).signature → IsConcrete c
  exec_concrete f i (Primitive name row) e s = tt
  exec_concrete f i (Defined g) e s = tt
  exec_concrete f i (Macro name formals body) e s = tt
  exec_concrete f i (Constant name value) e s = tt
  exec_concrete f i (Concrete c class) e s = tt
  exec_concrete f i (Generated g) e s = tt
  exec_concrete f i (Abstract c) e s = tt
  exec_concrete f i (OfAbstract g) e s =
      let made : IsWellMade w (OfAbstract g) = l.made f.exec (OfAbstract g) e in
      let at = concrete_at w d.foundation foundation_concrete in
      let same : d.foundation ≡ g.stobj = only_is g.stobj d.foundation g.signature.ins made.1 (ap (λ (t : Signature). classes.stobjs t.ins) (is s ∙ sym (signature_is f.exec (exec_there f i))) ∙ (matches f i).one) in
      clash (sym (ap (definition w) same ∙ made.2.1) ∙ at.there)
    where
      is : {a b : Signature} → Some a ≡ Some b → a ≡ b
      is h = cc

      clash : {B : Type 0} {c : AbstractDescriptor} {b : Descriptor} {class : ℕ} → Some (Abstract c) ≡ Some (Concrete b class) → B
      clash h = cc
  exec_concrete f i (Named name formals) e s = tt
  exec_concrete f i (Signed name formals t executable) e s = tt

  record RunsOf (f : AbstractFunction) (s : Signature) : Type 0 where
    runs : Runs with_abstract f.exec s
    concrete : IsConcrete runs.there

  -- what is run instead of an export
  record RunsInstead (f : AbstractFunction) : Type 0 where
    runs : Runs with_abstract f.exec (signature w f.exec)
    concrete : IsConcrete runs.there

  runs_instead : (f : AbstractFunction) → IsIn f d.exports → RunsInstead f
  runs_instead f i =
      let h = exec_there f i in
      let may : (is_executable h.there ≡ true) × (not (is_internal w h.there) ≡ true) = both_true (is_executable h.there) (not (is_internal w h.there)) (ap (may_be_exec_of w) (sym h.stands) ∙ (matches f i).may_be) in
      let runs : Runs with_abstract f.exec h.signature = (suits w (abstract_entries w d) l).called f.exec h.there h.signature h.stands h.signed (not_true (is_internal w h.there) may.1) may.0 in
      let there : h.there ≡ runs.there = is (sym (definition_old w (abstract_entries w d) f.exec h.there h.stands) ∙ runs.stands) in
      let all : RunsOf f h.signature = record { runs = runs; concrete = subst IsConcrete there (exec_concrete f i h.there h.stands h.signed) } in
      renamed f (subst (RunsOf f) (sym (signature_is f.exec h)) all)
    where
      is : {a b : Definition} → Some a ≡ Some b → a ≡ b
      is e = cc

      renamed : (f : AbstractFunction) → RunsOf f (signature w f.exec) → RunsInstead f
      renamed f r = record { runs = r.runs; concrete = r.concrete }

  guard_checked : (f : AbstractFunction) → IsIn f d.exports → WasChecked with_abstract (export_formals w d f) (map (abstracted w d.name) (signature w f.exec).ins) (export_guard w d f) one_ordinary
  guard_checked f i = record {
    world = with_abstract;
    closed = closed_grown w (abstract_entries w d) l brings;
    lawful = objects_grown w (abstract_entries w d) l brings;
    becomes = becomes_itself;
    accepted = ap (λ (scope : Scope). first_fault with_abstract Executable scope (export_guard w d f) one_ordinary) (sym (scope_is w d.name (signature w f.exec).ins (export_formals w d f))) ∙ guard_accepted f i;
    formed = formed_of with_abstract (made_grown w (abstract_entries w d) l brings) (export_guard w d f)
        (each_wider (IsOwnNode with_abstract) (IsOwnCall with_abstract) (λ g k. k.own) (export_guard w d f) (export_own f))
        (each_wider (IsOwnNode with_abstract) HasForms (λ g k. k.forms) (export_guard w d f) (export_own f));
  }

  abbrev exported : AbstractFunction → FunctionOfAbstract
  exported f = record {
    name = f.name;
    stobj = d.name;
    role = abstract_role.Export;
    formals = export_formals w d f;
    signature = abstracts.abstracted_signature w d.name (signature w f.exec);
    guard = export_guard w d f;
    logic = f.logic;
    exec = f.exec;
  }

  was_exported : (f : AbstractFunction) → IsIn f d.exports → WasExported with_abstract (exported f)
  was_exported f i =
      let instead : RunsInstead f = runs_instead f i in
      record {
        formals = are_formals w d.name (signature w f.exec).ins (abstracts.formals w f.logic) (same_length f i);
        distinct = export_differ f i;
        guard = guard_checked f i;
        foundation = d.foundation;
        stobj_there = (Abstract d, stobj_there);
        foundation_there = stands_still w (abstract_entries w d) l d.foundation concrete_stands;
        alike = alike_layout;
        signature = signature w f.exec;
        runs = instead.runs;
        concrete = instead.concrete;
        ins = same_abstracted w d.name (signature w f.exec).ins;
        outs = same_abstracted w d.name (signature w f.exec).outs;
        only = (matches f i).one;
        only_outs = (matches f i).outs;
      }

  ready_new : (x : ℕ) (c : Definition) → IsNewDefinition x c → IsReady with_abstract c
  ready_new x c (the_object e f) = subst (IsReady with_abstract) (sym f) tt
  ready_new x c (the_recognizer e) = subst (IsReady with_abstract) (sym e) ((λ r. no_export r), (λ r. record { outs = refl }))
    where
      no_export : {B : Type 0} → abstract_role.Recognizer ≡ abstract_role.Export → B
      no_export r = cc
  ready_new x c (the_creator e) = subst (IsReady with_abstract) (sym e) ((λ r. no_export r), (λ r. no_recognizer r))
    where
      no_export : {B : Type 0} → abstract_role.Creator ≡ abstract_role.Export → B
      no_export r = cc

      no_recognizer : {B : Type 0} → abstract_role.Creator ≡ abstract_role.Recognizer → B
      no_recognizer r = cc
  ready_new x c (an_export f i e) = subst (IsReady with_abstract) (sym e) ((λ r. was_exported f i), (λ r. no_recognizer r))
    where
      no_recognizer : {B : Type 0} → abstract_role.Export ≡ abstract_role.Recognizer → B
      no_recognizer r = cc

  pub abstract_lawful : IsLawfulWorld with_abstract
  abstract_lawful = grows w (abstract_entries w d) l brings (λ x c none e. ready_new x c (is_new x c e)) (λ x c none e. admitted_new x c (is_new x c e))

-- it brings one name of a stobj
pub abstract_names : (w : World) (d : AbstractDescriptor) → stobj_names (abstract_entries w d) ≡ d.name ∷ []
abstract_names w d = ap (λ (ns : List ℕ). d.name ∷ ns) (no_names d.exports)
  where
    no_names : (fs : List AbstractFunction) → stobj_names (map (export_entry w d) fs) ≡ []
    no_names [] = refl
    no_names (f ∷ fs) = no_names fs

-- ---- the event

-- a descriptor in which nothing was refused
abbrev pub IsAccepted : World → AbstractDescriptor → Type 0
IsAccepted w d = function_refusal w d ≡ None

abstract_made : (w : World) (a : WrittenAbstract) (m : MadeNames) (p : Progress) → IfGrants (IsAccepted w) (made_then w a m p)
abstract_made w a m p =
    let d : AbstractDescriptor = abstracts.descriptor_with w a (filled (slots p.symbols a) m.numbers) in
    grants_unless (IsAccepted w) (room_for m) (unless (function_refusal w d) (Grants d)) (record p { symbols = m.symbols }) (λ room.
    grants_unless (IsAccepted w) (function_refusal w d) (Grants d) (record p { symbols = m.symbols }) (λ e. e))

pub abstract_accepted : (w : World) (packages : List Package) (d : Object ℕ) (p : Progress) → IfGrants (IsAccepted w) (abstract_read w packages d p)
unfolding abstract_read
abstract_accepted w packages d p =
    grants_needing (IsAccepted w) (written_abstract p.symbols d) _ (abstract_then w packages) p (λ a same.
    grants_unless (IsAccepted w) (bad_name p.symbols (abstracts.names_tested packages p.symbols a))
    (λ after. made_then w a (names_made packages [] (makings (slots after.symbols a)) after.symbols) after) p (λ free.
    abstract_made w a (names_made packages [] (makings (slots p.symbols a)) p.symbols) p))
