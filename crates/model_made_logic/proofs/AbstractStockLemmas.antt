-- What an abstract stobj brings: its creator, and functions whose logic functions are of no abstract stobj.
use Rattle.std.proofs.Common.{◌≡◌, ℕ, zero, suc, List, [], ◌∷◌, ◌++◌, map, length, Bool, true, false, Option, Some, None, refl, sym, ap, ◌∙◌, subst, inl, inr}
use Rattle.std.specs.Prelude.{◌||◌, ◌&&◌, nat_eq, nat_lt, replicate, option_and_then, is_some, unwrap_or, if◌then◌else◌}
use Rattle.std.proofs.lemmas.Bool.Decides.{nat_tests}
use Rattle.std.proofs.Common.{arith}
use Rattle.model_terms.specs.declared.role.AbstractRole.TheVariants as abstract_role
use Rattle.model_terms.specs.Worlds.{World, AbstractFunction, AbstractDescriptor, Descriptor, FunctionOfAbstract, Definition, Out, Ordinary, Stobj, Signature, definition, definition_name, Primitive, Defined, Macro, Constant, Concrete, Generated, Abstract, OfAbstract, Named, Signed}
use Rattle.model_terms.specs.Classes.{stobjs, has, repeats}
use Rattle.model_terms.specs.Outputs.{signature_in}
use Rattle.model_terms.specs.Nested.{same_kinds}
use Rattle.model_eval_laws.proofs.Lists.{same_number}
use Rattle.model_accepted.specs.Threaded.{IsConcrete}
use Rattle.model_accepted.proofs.AcceptLemmas.{true_false, neither, both_true, kinds_same}
use Rattle.model_expansion.specs.Faults.{Refusal, FoundationNotConcrete}
use Rattle.model_expansion.specs.TypeTerms.{true_core}
use Rattle.model_expansion_forms.specs.Nodes.{EachNode, HasSeveral}
use Rattle.model_made_logic.proofs.SeveralLemmas.{renamed_several, other_several}
use Rattle.std.specs.List.{zip}
use Rattle.model_stobjs.specs.Answers.{first_given}
use Rattle.model_stobjs.specs.Heads.{name_in_use}
use Rattle.model_stobjs.specs.Abstracts.{new_names, export_names, no_signature, signature, ordinaries, has_signature, mismatch_unless, recognizer_matches, creator_matches, corr_matches, is_only, is_only_or_none, may_be_exec_of, exec_matches, outputs_match, is_logical, logic_matches, export_matches, signature_mismatch, abstracted, function_of, export_formals, formals, formals_in, with_stobj_named, abstracted_signature, export_guard, foundations_creator, guard_in, logic_guard, to_exports, export_entry, foundation_missing, missing_function, wanted_functions, function_refusal, abstract_entries}
use Rattle.model_made.proofs.WorldLemmas.{EachDefinition, definition_old, definition_new}
use Rattle.std.specs.Option.{option_map_or}
use Rattle.std.proofs.lemmas.Bool.{eqb-true}
use Rattle.model_symbols.specs.Opening.{nil}
use Rattle.model_terms.specs.Cores.{Core}
use Rattle.model_terms.specs.Nested.{is_stobj}
use Rattle.model_stobjs.specs.Guards.{Renaming, renamed_core, with_functions}
use Rattle.model_made_logic.specs.Exports.{IsAmong}
use Rattle.model_made.proofs.NestingLemmas.{IsConcreteAt, concrete_at}
use Rattle.model_made.proofs.AbstractLemmas.{is_only_one}
use Rattle.model_made.specs.Lawful.{IsLawfulWorld}
use Rattle.model_made.proofs.ExportLemmas.{export_apart}
use Rattle.model_made.proofs.MemberLemmas.{IsIn}
use Rattle.model_made_logic.proofs.OutputLemmas.{SignsOutput, map_output, world_output}
use Rattle.model_terms.specs.Accessors.{descriptor_of}
use Rattle.model_made.proofs.DraftLemmas.{none_or, first_free}
use Rattle.model_follows.specs.FollowedWorlds.{HasAbstractCreator}
use Rattle.model_follows.specs.Abstract.{IsOfAbstract}
use Rattle.model_logic.specs.Logic.{creator_of}
use Rattle.model_made_logic.proofs.StockLemmas.{HasOutput, StandsFor, AbstractThere, ExecThere, ExportThere, export_more, OfAbstractThere, StockedDefinition, IsStocked}

abbrev given_or : Option Refusal → Option Refusal → Option Refusal
given_or None later = later
given_or (Some y) later = Some y

-- a stobj is no ordinary output
no_plain : (o n : ℕ) → same_kinds (Stobj o ∷ []) (replicate n Ordinary) ≡ false
no_plain o zero = refl
no_plain o (suc n) = refl

and_false : (b : Bool) → (b && false) ≡ false
and_false true = refl
and_false false = refl

-- ---- what does not depend on the world

formals_alike : (w v : World) (d : Definition) → formals_in w (Some d) ≡ formals_in v (Some d)
formals_alike w v (Primitive name row) = refl
formals_alike w v (Defined f) = refl
formals_alike w v (Macro name formals body) = refl
formals_alike w v (Constant name value) = refl
formals_alike w v (Concrete d class) = refl
formals_alike w v (Generated g) = refl
formals_alike w v (Abstract d) = refl
formals_alike w v (OfAbstract f) = refl
formals_alike w v (Named name formals) = refl
formals_alike w v (Signed name formals signature executable) = refl

guard_alike : (w v : World) (d : Definition) → guard_in w (Some d) ≡ guard_in v (Some d)
guard_alike w v (Primitive name row) = refl
guard_alike w v (Defined f) = refl
guard_alike w v (Macro name formals body) = refl
guard_alike w v (Constant name value) = refl
guard_alike w v (Concrete d class) = refl
guard_alike w v (Generated g) = refl
guard_alike w v (Abstract d) = refl
guard_alike w v (OfAbstract f) = refl
guard_alike w v (Named name formals) = refl
guard_alike w v (Signed name formals signature executable) = refl

stobj_named_alike : (w v : World) (st : ℕ) (ks : List Out) (xs : List ℕ) → with_stobj_named w st ks xs ≡ with_stobj_named v st ks xs
stobj_named_alike w v st [] xs = refl
stobj_named_alike w v st (k ∷ ks) [] = refl
stobj_named_alike w v st (k ∷ ks) (x ∷ xs) = ap (λ (ys : List ℕ). (if is_stobj k then st else x) ∷ ys) (stobj_named_alike w v st ks xs)

abstracted_alike : (w v : World) (st : ℕ) (ks : List Out) → map (abstracted w st) ks ≡ map (abstracted v st) ks
abstracted_alike w v st [] = refl
abstracted_alike w v st (Ordinary ∷ ks) = ap (λ (os : List Out). Ordinary ∷ os) (abstracted_alike w v st ks)
abstracted_alike w v st (Stobj x ∷ ks) = ap (λ (os : List Out). Stobj st ∷ os) (abstracted_alike w v st ks)

-- ---- new names

-- the name of a definition is among the names
name_among : (ds : List Definition) (d : Definition) → IsIn d ds → has (map definition_name ds) (definition_name d) ≡ true
name_among [] d i = absurd i
name_among (c ∷ ds) d (inl same) = ap (λ (e : Definition). nat_eq (definition_name e) (definition_name c) || has (map definition_name ds) (definition_name e)) same ∙ ap (λ (b : Bool). b || has (map definition_name ds) (definition_name c)) (same_number (definition_name c))
name_among (c ∷ ds) d (inr i) = go (nat_eq (definition_name d) (definition_name c)) (name_among ds d i)
  where
    go : (b : Bool) → has (map definition_name ds) (definition_name d) ≡ true → (b || has (map definition_name ds) (definition_name d)) ≡ true
    go true e = refl
    go false e = e

-- definitions whose names are new and differ are found
found_new : (w : World) (ds : List Definition) → name_in_use w (map definition_name ds) ≡ None → (d : Definition) → IsIn d ds → (definition w (definition_name d) ≡ None) × (definition ds (definition_name d) ≡ Some d)
found_new w [] e d i = absurd i
found_new w (c ∷ ds) e d (inl same) =
    let first = first_free w (definition_name c) (map definition_name ds) e in
    subst (λ (k : Definition). (definition w (definition_name k) ≡ None) × ((if nat_eq (definition_name k) (definition_name c) then Some c else definition ds (definition_name k)) ≡ Some k)) (sym same)
    (first.0.nothing, ap (λ (b : Bool). if b then Some c else definition ds (definition_name c)) (same_number (definition_name c)))
found_new w (c ∷ ds) e d (inr i) =
    let first = first_free w (definition_name c) (map definition_name ds) e in
    let later = found_new w ds first.1 d i in
    (later.0, go (nat_eq (definition_name d) (definition_name c)) refl first.0.once later.1)
  where
    go : (b : Bool) → nat_eq (definition_name d) (definition_name c) ≡ b → has (map definition_name ds) (definition_name c) ≡ false → definition ds (definition_name d) ≡ Some d
        → (if b then Some c else definition ds (definition_name d)) ≡ Some d
    go true f once g = true_false (sym (ap (has (map definition_name ds)) (sym (eqb-true (definition_name d) (definition_name c) f)) ∙ name_among ds d i) ∙ once)
    go false f once g = g

module _ (w : World) (stocked : IsStocked w) where
  -- ---- logic functions

  signature_is : (x : ℕ) (v : Option Definition) → definition w x ≡ v → signature w x ≡ unwrap_or (option_and_then signature_in v) (no_signature w)
  signature_is x v e = ap (λ (u : Option Definition). unwrap_or (option_and_then signature_in u) (no_signature w)) e

  -- a function that is there and of no abstract stobj
  record IsPlainFunction (x : ℕ) : Type 0 where
    logic : Definition
    found : definition w x ≡ Some logic
    concrete : IsConcrete logic

  plain_function : (x : ℕ) → (definition w x ≡ None → ⊥) → ((g : FunctionOfAbstract) → definition w x ≡ Some (OfAbstract g) → ⊥) → IsPlainFunction x
  plain_function x none abstract = go (definition w x) refl
    where
      go : (v : Option Definition) → definition w x ≡ v → IsPlainFunction x
      go None e = absurd (none e)
      go (Some (Primitive name row)) e = record { logic = Primitive name row; found = e; concrete = tt }
      go (Some (Defined f)) e = record { logic = Defined f; found = e; concrete = tt }
      go (Some (Macro name formals body)) e = record { logic = Macro name formals body; found = e; concrete = tt }
      go (Some (Constant name value)) e = record { logic = Constant name value; found = e; concrete = tt }
      go (Some (Concrete d class)) e = record { logic = Concrete d class; found = e; concrete = tt }
      go (Some (Generated g)) e = record { logic = Generated g; found = e; concrete = tt }
      go (Some (Abstract d)) e = record { logic = Abstract d; found = e; concrete = tt }
      go (Some (OfAbstract g)) e = absurd (abstract g e)
      go (Some (Named name formals)) e = record { logic = Named name formals; found = e; concrete = tt }
      go (Some (Signed name formals s executable)) e = record { logic = Signed name formals s executable; found = e; concrete = tt }

  -- of an abstract stobj with ordinary inputs alone: it gives the stobj
  gives_object : (x n : ℕ) (g : FunctionOfAbstract) → definition w x ≡ Some (OfAbstract g) → same_kinds (signature w x).ins (ordinaries w n) ≡ true → (signature w x).outs ≡ Stobj g.stobj ∷ []
  gives_object x n g e h =
      let is : signature w x ≡ g.signature = signature_is x (Some (OfAbstract g)) e in
      let ins : (signature w x).ins ≡ replicate n Ordinary = kinds_same (signature w x).ins (replicate n Ordinary) h in
      ap (λ (s : Signature). s.outs) is ∙ (stocked.each x (OfAbstract g) e).plain n (sym (ap (λ (s : Signature). s.ins) is) ∙ ins)

  -- one ordinary output
  one_output : (x n : ℕ) → has_signature w x n 1 ≡ true → IsPlainFunction x
  one_output x n h = plain_function x none abstract
    where
      parts : (same_kinds (signature w x).ins (ordinaries w n) ≡ true) × (same_kinds (signature w x).outs (ordinaries w 1) ≡ true)
      parts = both_true (same_kinds (signature w x).ins (ordinaries w n)) (same_kinds (signature w x).outs (ordinaries w 1)) h

      none : definition w x ≡ None → ⊥
      none e = true_false (sym (sym (ap (λ (s : Signature). same_kinds s.outs (ordinaries w 1)) (signature_is x None e)) ∙ parts.1))

      abstract : (g : FunctionOfAbstract) → definition w x ≡ Some (OfAbstract g) → ⊥
      abstract g e = true_false (sym (sym (ap (λ (ks : List Out). same_kinds ks (ordinaries w 1)) (gives_object x n g e parts.0)) ∙ parts.1))

  module _ (l : IsLawfulWorld w) (d : AbstractDescriptor) (accepted : function_refusal w d ≡ None) where
    abbrev with_abstract : World
    with_abstract = w ++ abstract_entries w d

    free : name_in_use w (new_names d) ≡ None
    free = (none_or (name_in_use w (new_names d)) _ accepted).0

    matches : signature_mismatch w d ≡ None
    matches =
        let first = none_or (name_in_use w (new_names d)) _ accepted in
        let second = none_or (foundation_missing w d) _ first.1 in
        let third = none_or (first_given (missing_function w) (wanted_functions d)) _ second.1 in
        (none_or (signature_mismatch w d) _ third.1).0

    foundation_there : IsConcreteAt w d.foundation
    foundation_there =
        let first = none_or (name_in_use w (new_names d)) _ accepted in
        go (descriptor_of w d.foundation) refl (none_or (foundation_missing w d) _ first.1).0
      where
        go : (v : Option Descriptor) → descriptor_of w d.foundation ≡ v → (if is_some v then None else Some (FoundationNotConcrete d.foundation)) ≡ None → IsConcreteAt w d.foundation
        go None e f = cc
        go (Some c) e f = concrete_at w d.foundation (c, e)

    holds : (name : ℕ) (b : Bool) → mismatch_unless w name b ≡ None → b ≡ true
    holds name true e = refl
    holds name false e = cc

    recognizer_holds : recognizer_matches w d ≡ true
    recognizer_holds = holds d.recognizer.name (recognizer_matches w d) (none_or (mismatch_unless w d.recognizer.name (recognizer_matches w d)) _ matches).0

    creator_holds : creator_matches w d ≡ true
    creator_holds =
        let rest = none_or (mismatch_unless w d.recognizer.name (recognizer_matches w d)) _ matches in
        holds d.creator.name (creator_matches w d) (none_or (mismatch_unless w d.creator.name (creator_matches w d)) _ rest.1).0

    exports_hold : first_given (λ (f : AbstractFunction). mismatch_unless w f.name (export_matches w d f)) d.exports ≡ None
    exports_hold =
        let first = none_or (mismatch_unless w d.recognizer.name (recognizer_matches w d)) _ matches in
        let second = none_or (mismatch_unless w d.creator.name (creator_matches w d)) _ first.1 in
        (none_or (mismatch_unless w d.corr (corr_matches w d)) _ second.1).1

    -- ---- where they stand

    turned : (a b : ℕ) → nat_eq a b ≡ false → nat_eq b a ≡ false
    turned a b e = grind (arith, nat_tests)

    abbrev recognizing : Definition
    recognizing = function_of w d d.recognizer abstract_role.Recognizer (d.name ∷ []) (record { ins = Stobj d.name ∷ []; outs = Ordinary ∷ [] }) true_core

    abbrev recognizing_as : FunctionOfAbstract
    recognizing_as = record {
      name = d.recognizer.name;
      stobj = d.name;
      role = abstract_role.Recognizer;
      formals = d.name ∷ [];
      signature = record { ins = Stobj d.name ∷ []; outs = Ordinary ∷ [] };
      guard = true_core;
      logic = d.recognizer.logic;
      exec = d.recognizer.exec;
    }

    abbrev creating : FunctionOfAbstract
    creating = record {
      name = d.creator.name;
      stobj = d.name;
      role = abstract_role.Creator;
      formals = [];
      signature = record { ins = []; outs = Stobj d.name ∷ [] };
      guard = true_core;
      logic = d.creator.logic;
      exec = d.creator.exec;
    }

    abbrev exporting_as : AbstractFunction → FunctionOfAbstract
    exporting_as f = record {
      name = f.name;
      stobj = d.name;
      role = abstract_role.Export;
      formals = export_formals w d f;
      signature = abstracted_signature w d.name (signature w f.exec);
      guard = export_guard w d f;
      logic = f.logic;
      exec = f.exec;
    }

    abbrev exporting : World
    exporting = map (export_entry w d) d.exports

    stobj_there : definition with_abstract d.name ≡ Some (Abstract d)
    stobj_there =
        definition_new w (abstract_entries w d) d.name (first_free w d.name (d.recognizer.name ∷ d.creator.name ∷ export_names d) free).0.nothing
        ∙ ap (λ (b : Bool). if b then Some (Abstract d) else definition (recognizing ∷ OfAbstract creating ∷ exporting) d.name) (same_number d.name)

    -- each function under its name
    names_of : (fs : List AbstractFunction) → map definition_name (map (export_entry w d) fs) ≡ map (λ (f : AbstractFunction). f.name) fs
    names_of [] = refl
    names_of (f ∷ fs) = ap (λ (ns : List ℕ). f.name ∷ ns) (names_of fs)

    all_names : map definition_name (abstract_entries w d) ≡ new_names d
    all_names = ap (λ (ns : List ℕ). d.name ∷ d.recognizer.name ∷ d.creator.name ∷ ns) (names_of d.exports)

    new_there : (c : Definition) → IsIn c (abstract_entries w d) → definition with_abstract (definition_name c) ≡ Some c
    new_there c i =
        let h = found_new w (abstract_entries w d) (ap (name_in_use w) all_names ∙ free) c i in
        definition_new w (abstract_entries w d) (definition_name c) h.0 ∙ h.1

    export_in : (f : AbstractFunction) (fs : List AbstractFunction) → IsAmong f fs → IsIn (export_entry w d f) (map (export_entry w d) fs)
    export_in f [] i = absurd i
    export_in f (g ∷ fs) (inl same) = inl (ap (export_entry w d) same)
    export_in f (g ∷ fs) (inr i) = inr (export_in f fs i)

    functions_stand : (f : AbstractFunction) → IsAmong f (d.recognizer ∷ d.creator ∷ d.exports) → StandsFor with_abstract f
    functions_stand f (inl same) =
        subst (StandsFor with_abstract) (sym same) (record { function = recognizing_as; there = new_there recognizing (inr (inl refl)); logic = refl })
    functions_stand f (inr (inl same)) =
        subst (StandsFor with_abstract) (sym same) (record { function = creating; there = new_there (OfAbstract creating) (inr (inr (inl refl))); logic = refl })
    functions_stand f (inr (inr i)) = record { function = exporting_as f; there = new_there (export_entry w d f) (inr (inr (inr (export_in f d.exports i)))); logic = refl }

    creator_there : AbstractThere with_abstract d
    creator_there =
        let first = first_free w d.name (d.recognizer.name ∷ d.creator.name ∷ export_names d) free in
        let second = first_free w d.recognizer.name (d.creator.name ∷ export_names d) first.1 in
        let third = first_free w d.creator.name (export_names d) second.1 in
        let not_recognizer = neither (nat_eq d.name d.recognizer.name) (nat_eq d.name d.creator.name || has (export_names d) d.name) first.0.once in
        let not_creator = neither (nat_eq d.name d.creator.name) (has (export_names d) d.name) not_recognizer.1 in
        let apart = neither (nat_eq d.recognizer.name d.creator.name) (has (export_names d) d.recognizer.name) second.0.once in
        let foundation = foundation_there in
        record {
          foundation = record { descriptor = foundation.descriptor; class = foundation.class; there = definition_old w (abstract_entries w d) d.foundation (Concrete foundation.descriptor foundation.class) foundation.there };
          exec =
              eqb-true d.creator.exec (foundations_creator w d.foundation) (both_true (nat_eq d.creator.exec (foundations_creator w d.foundation)) _ creator_holds).0
              ∙ ap (λ (v : Option Descriptor). option_map_or (λ (c : Descriptor). c.creator) v nil) foundation.found;
          creator = creating;
          there =
              definition_new w (abstract_entries w d) d.creator.name third.0.nothing
              ∙ (ap (λ (b : Bool). if b then Some (Abstract d) else definition (recognizing ∷ OfAbstract creating ∷ exporting) d.creator.name) (turned d.name d.creator.name not_creator.0)
              ∙ (ap (λ (b : Bool). if b then Some recognizing else definition (OfAbstract creating ∷ exporting) d.creator.name) (turned d.recognizer.name d.creator.name apart.0)
              ∙ ap (λ (b : Bool). if b then Some (OfAbstract creating) else definition exporting d.creator.name) (same_number d.creator.name)));
          makes = refl;
          functions = functions_stand;
        }

    -- ---- each function

    stands : (f : FunctionOfAbstract) → f.stobj ≡ d.name → IsPlainFunction f.logic → (f.role ≡ abstract_role.Recognizer → (f.logic ≡ d.recognizer.logic) × (f.signature.ins ≡ Stobj f.stobj ∷ []))
        → ((k : ℕ) → f.signature.ins ≡ replicate k Ordinary → f.signature.outs ≡ Stobj f.stobj ∷ []) → EachNode HasSeveral f.guard → HasOutput f.signature.outs → (f.role ≡ abstract_role.Export → has f.formals d.foundation ≡ false)
        → (f.role ≡ abstract_role.Export → ExecThere w d.foundation f.exec) → (f.role ≡ abstract_role.Export → ExportThere w d f) → OfAbstractThere with_abstract f
    stands f same p r q several output apart exec export = record {
      descriptor = d;
      stobj = ap (definition with_abstract) same ∙ stobj_there;
      logic = p.logic;
      found = definition_old w (abstract_entries w d) f.logic p.logic p.found;
      concrete = p.concrete;
      recognizer = r;
      plain = q;
      several = several;
      output = output;
      apart = apart;
      exec = λ e.
          let x : ExecThere w d.foundation f.exec = exec e in
          record { function = x.function; found = definition_old w (abstract_entries w d) f.exec x.function x.found; signature = x.signature; signed = x.signed; ins = x.ins; outs = x.outs };
      export = λ e. export_more w (abstract_entries w d) d f (export e);
    }

    has_object : (k : ℕ) (ks : List Out) → Stobj d.name ∷ ks ≡ replicate k Ordinary → ⊥
    has_object zero ks e = cc
    has_object (suc k) ks e = cc

    -- inputs with a stobj has are them not all ordinary
    some_object : (c : ℕ) (ks : List Out) → is_only w c (stobjs ks) ≡ true → (k : ℕ) → map (abstracted w d.name) ks ≡ replicate k Ordinary → ⊥
    some_object c [] h k e = true_false (sym h)
    some_object c (Ordinary ∷ ks) h zero e = cc
    some_object c (Ordinary ∷ ks) h (suc k) e = some_object c ks h k (rest e)
      where
        rest : Ordinary ∷ map (abstracted w d.name) ks ≡ Ordinary ∷ replicate k Ordinary → map (abstracted w d.name) ks ≡ replicate k Ordinary
        rest e = cc
    some_object c (Stobj x ∷ ks) h k e = has_object k (map (abstracted w d.name) ks) e

    one_at_least : (c : ℕ) (ks : List Out) → is_only w c (stobjs ks) ≡ true → same_kinds [] (replicate (length ks) Ordinary) ≡ true → ⊥
    one_at_least c [] h e = true_false (sym h)
    one_at_least c (k ∷ ks) h e = go (length ks) e
      where
        go : (n : ℕ) → same_kinds [] (replicate (suc n) Ordinary) ≡ true → ⊥
        go n f = true_false (sym f)

    only_foundation : (f : AbstractFunction) → exec_matches w d.foundation f ≡ true → is_only w d.foundation (stobjs (signature w f.exec).ins) ≡ true
    only_foundation f h =
        let ins = is_only w d.foundation (stobjs (signature w f.exec).ins) in
        let outs = is_only_or_none w d.foundation (stobjs (signature w f.exec).outs) in
        (both_true ins outs (both_true (may_be_exec_of w (definition w f.exec)) (ins && outs) h).1).0

    export_logic : (f : AbstractFunction) → export_matches w d f ≡ true → IsPlainFunction f.logic
    export_logic f h = plain_function f.logic none abstract
      where
        only : is_only w d.foundation (stobjs (signature w f.exec).ins) ≡ true
        only = only_foundation f (both_true (exec_matches w d.foundation f) _ h).0

        kinds : (same_kinds (signature w f.logic).ins (ordinaries w (length (signature w f.exec).ins)) ≡ true) × (outputs_match w f ≡ true)
        kinds =
            both_true (same_kinds (signature w f.logic).ins (ordinaries w (length (signature w f.exec).ins))) (outputs_match w f)
            (both_true _ (same_kinds (signature w f.logic).ins (ordinaries w (length (signature w f.exec).ins)) && outputs_match w f) (both_true (logic_matches w f) _ (both_true (exec_matches w d.foundation f) _ h).1).0).1

        none : definition w f.logic ≡ None → ⊥
        none e = one_at_least d.foundation (signature w f.exec).ins only (sym (ap (λ (s : Signature). same_kinds s.ins (ordinaries w (length (signature w f.exec).ins))) (signature_is f.logic None e)) ∙ kinds.0)

        abstract : (g : FunctionOfAbstract) → definition w f.logic ≡ Some (OfAbstract g) → ⊥
        abstract g e =
            let n = length (signature w f.exec).outs in
            let outs : (signature w f.logic).outs ≡ Stobj g.stobj ∷ [] = gives_object f.logic (length (signature w f.exec).ins) g e kinds.0 in
            true_false (sym kinds.1 ∙
            (ap (λ (ks : List Out). same_kinds ks (ordinaries w n) || (nat_lt 1 n && (is_logical w (definition w f.logic) && nat_eq (length ks) 1))) outs
            ∙ (ap (λ (b : Bool). b || (nat_lt 1 n && (is_logical w (definition w f.logic) && nat_eq (length (Stobj g.stobj ∷ [])) 1))) (no_plain g.stobj n)
            ∙ (ap (λ (v : Option Definition). nat_lt 1 n && (is_logical w v && nat_eq (length (Stobj g.stobj ∷ [])) 1)) e ∙ and_false (nat_lt 1 n)))))

    -- what an export runs
    exec_there : (f : AbstractFunction) → exec_matches w d.foundation f ≡ true → ExecThere w d.foundation f.exec
    exec_there f h = go (definition w f.exec) refl
      where
        outs_only : is_only_or_none w d.foundation (stobjs (signature w f.exec).outs) ≡ true
        outs_only =
            (both_true (is_only w d.foundation (stobjs (signature w f.exec).ins)) _
            (both_true (may_be_exec_of w (definition w f.exec)) _ h).1).1

        nothing_in : (s : Signature) → signature w f.exec ≡ s → stobjs s.ins ≡ [] → ⊥
        nothing_in s e n = true_false (sym (sym (ap (λ (t : Signature). is_only w d.foundation (stobjs t.ins)) e ∙ ap (is_only w d.foundation) n) ∙ only_foundation f h))

        once : (xs : List ℕ) → is_only_or_none w d.foundation xs ≡ true → repeats xs ≡ false
        once [] e = refl
        once (x ∷ []) e = refl
        once (x ∷ (y ∷ ys)) e = true_false (sym e)

        go : (v : Option Definition) → definition w f.exec ≡ v → ExecThere w d.foundation f.exec
        go None e = absurd (nothing_in (no_signature w) (signature_is f.exec None e) refl)
        go (Some c) e = by_signature (signature_in c) refl
          where
            by_signature : (v : Option Signature) → signature_in c ≡ v → ExecThere w d.foundation f.exec
            by_signature None g = absurd (nothing_in (no_signature w) (signature_is f.exec (Some c) e ∙ ap (λ (u : Option Signature). unwrap_or u (no_signature w)) g) refl)
            by_signature (Some s) g =
                let is : signature w f.exec ≡ s = signature_is f.exec (Some c) e ∙ ap (λ (u : Option Signature). unwrap_or u (no_signature w)) g in
                record {
                  function = c;
                  found = e;
                  signature = s;
                  signed = g;
                  ins = is_only_one w d.foundation (stobjs s.ins) (sym (ap (λ (t : Signature). is_only w d.foundation (stobjs t.ins)) is) ∙ only_foundation f h);
                  outs = once (stobjs s.outs) (sym (ap (λ (t : Signature). is_only_or_none w d.foundation (stobjs t.outs)) is) ∙ outs_only);
                }

    -- the function as it was written
    export_there : (f : AbstractFunction) → IsAmong f d.exports → export_matches w d f ≡ true → ExportThere w d (exporting_as f)
    export_there f among h =
        let exec : ExecThere w d.foundation f.exec = exec_there f (both_true (exec_matches w d.foundation f) _ h).0 in
        let logic : IsPlainFunction f.logic = export_logic f h in
        record {
          export = f;
          among = among;
          logic = logic.logic;
          logic_there = logic.found;
          function = exec.function;
          function_there = exec.found;
          written = λ v l e.
              let formals_same : formals w f.logic ≡ formals v f.logic = ap (formals_in w) logic.found ∙ (formals_alike w v logic.logic ∙ sym (ap (formals_in v) l)) in
              let signed : signature w f.exec ≡ signature v f.exec
              = signature_is f.exec (Some exec.function) exec.found
              ∙ (ap (λ (u : Option Signature). unwrap_or u (no_signature w)) exec.signed
              ∙ sym (ap (λ (u : Option Definition). unwrap_or (option_and_then signature_in u) (no_signature v)) e ∙ ap (λ (u : Option Signature). unwrap_or u (no_signature v)) exec.signed)) in
              let named_same : export_formals w d f ≡ export_formals v d f
              = ap (λ (t : Signature). with_stobj_named w d.name t.ins (formals w f.logic)) signed
              ∙ (ap (with_stobj_named w d.name (signature v f.exec).ins) formals_same ∙ stobj_named_alike w v d.name (signature v f.exec).ins (formals v f.logic)) in
              let guards : guard_in w (definition w f.logic) ≡ guard_in v (definition v f.logic) = ap (guard_in w) logic.found ∙ (guard_alike w v logic.logic ∙ sym (ap (guard_in v) l)) in
              record {
                logic = refl;
                exec = refl;
                formals = named_same;
                ins = ap (λ (t : Signature). map (abstracted w d.name) t.ins) signed ∙ abstracted_alike w v d.name (signature v f.exec).ins;
                outs = ap (λ (t : Signature). map (abstracted w d.name) t.outs) signed ∙ abstracted_alike w v d.name (signature v f.exec).outs;
                guard =
                    ap (λ (g : Core). with_functions (renamed_core g (zip (formals w f.logic) (export_formals w d f))) (to_exports w d)) guards
                    ∙ ap (λ (r : Renaming). with_functions (renamed_core (guard_in v (definition v f.logic)) r) (to_exports w d)) (ap (λ (xs : List ℕ). zip xs (export_formals w d f)) formals_same ∙ ap (zip (formals v f.logic)) named_same);
              };
        }

    guard_several : (x : ℕ) (v : Option Definition) → definition w x ≡ v → EachNode HasSeveral (guard_in w v)
    guard_several x None e = tt
    guard_several x (Some (Primitive name row)) e = tt
    guard_several x (Some (Defined f)) e = (stocked.each x (Defined f) e).0
    guard_several x (Some (Macro name formals body)) e = tt
    guard_several x (Some (Constant name value)) e = tt
    guard_several x (Some (Concrete c class)) e = tt
    guard_several x (Some (Generated g)) e = tt
    guard_several x (Some (Abstract c)) e = tt
    guard_several x (Some (OfAbstract f)) e = tt
    guard_several x (Some (Named name formals)) e = tt
    guard_several x (Some (Signed name formals s executable)) e = tt

    as_in : (f : AbstractFunction) (fs : List AbstractFunction) → IsAmong f fs → IsIn f fs
    as_in f [] i = absurd i
    as_in f (g ∷ fs) (inl same) = inl same
    as_in f (g ∷ fs) (inr i) = inr (as_in f fs i)

    -- what an export gives is what its exec function does
    export_output : (f : AbstractFunction) → ExecThere w d.foundation f.exec → HasOutput (map (abstracted w d.name) (signature w f.exec).outs)
    export_output f x =
        let signs : option_and_then signature_in (definition w f.exec) ≡ Some x.signature = ap (option_and_then signature_in) x.found ∙ x.signed in
        let output : HasOutput x.signature.outs = subst (λ (v : Option Signature). SignsOutput v) signs (world_output w stocked f.exec) in
        let is : signature w f.exec ≡ x.signature = ap (λ (v : Option Signature). unwrap_or v (no_signature w)) signs in
        map_output (abstracted w d.name) (signature w f.exec).outs (subst (λ (s : Signature). HasOutput s.outs) (sym is) output)

    export_stands : (f : AbstractFunction) → IsAmong f d.exports → export_matches w d f ≡ true → StockedDefinition with_abstract (export_entry w d f)
    export_stands f among h =
        stands _ refl (export_logic f h) (λ e. not_recognizer e) (λ k e. absurd (some_object d.foundation (signature w f.exec).ins (only_foundation f (both_true (exec_matches w d.foundation f) _ h).0) k e))
        (other_several (logic_guard w d f) (to_exports w d) (renamed_several (guard_in w (definition w f.logic)) (zip (formals w f.logic) (export_formals w d f)) (guard_several f.logic (definition w f.logic) refl)))
        (export_output f (exec_there f (both_true (exec_matches w d.foundation f) _ h).0)) (λ e. export_apart w l d accepted f (as_in f d.exports among)) (λ e. exec_there f (both_true (exec_matches w d.foundation f) _ h).0)
        (λ e. export_there f among h)
      where
        not_recognizer : {A : Type 0} → abstract_role.Export ≡ abstract_role.Recognizer → A
        not_recognizer e = cc

    exports_stand : (fs : List AbstractFunction) → ((f : AbstractFunction) → IsAmong f fs → IsAmong f d.exports) → first_given (λ (f : AbstractFunction). mismatch_unless w f.name (export_matches w d f)) fs ≡ None → EachDefinition (StockedDefinition with_abstract) (map (export_entry w d) fs)
    exports_stand [] i e = tt
    exports_stand (f ∷ fs) i e = go (export_matches w d f) refl e (exports_stand fs (λ g j. i g (inr j)))
      where
        go : (b : Bool) → export_matches w d f ≡ b → given_or (mismatch_unless w f.name b) (first_given (λ (f : AbstractFunction). mismatch_unless w f.name (export_matches w d f)) fs) ≡ None
            → (first_given (λ (f : AbstractFunction). mismatch_unless w f.name (export_matches w d f)) fs ≡ None → EachDefinition (StockedDefinition with_abstract) (map (export_entry w d) fs))
            → EachDefinition (StockedDefinition with_abstract) (map (export_entry w d) (f ∷ fs))
        go true h g later = (export_stands f (i f (inl refl)) h, later g)
        go false h g later = cc

    pub abstract_stocked : EachDefinition (StockedDefinition with_abstract) (abstract_entries w d)
    abstract_stocked = (
      creator_there,
      (
        stands _ refl (one_output d.recognizer.logic 1 (both_true _ (has_signature w d.recognizer.logic 1 1) recognizer_holds).1) (λ e. (refl, refl)) (λ k e. absurd (has_object k [] e)) tt tt (λ e. no_recognizer e) (λ e. no_recognizer e) (λ e. no_recognizer e),
        (stands creating refl (one_output d.creator.logic 0 (both_true _ (has_signature w d.creator.logic 0 1) creator_holds).1) (λ e. not_recognizer e) (λ k e. refl) tt tt (λ e. no_creator e) (λ e. no_creator e) (λ e. no_creator e), exports_stand d.exports (λ f i. i) exports_hold),
      ),
    )
      where
        not_recognizer : {A : Type 0} → abstract_role.Creator ≡ abstract_role.Recognizer → A
        not_recognizer e = cc

        no_recognizer : {A : Type 0} → abstract_role.Recognizer ≡ abstract_role.Export → A
        no_recognizer e = cc

        no_creator : {A : Type 0} → abstract_role.Creator ≡ abstract_role.Export → A
        no_creator e = cc

  -- ---- in the words of the logic

  pub not_both : (c : Definition) → IsConcrete c → (g : FunctionOfAbstract) → Some c ≡ Some (OfAbstract g) → ⊥
  not_both (OfAbstract f) h g e = h
  not_both (Primitive name row) h g e = cc
  not_both (Defined f) h g e = cc
  not_both (Macro name formals body) h g e = cc
  not_both (Constant name value) h g e = cc
  not_both (Concrete c class) h g e = cc
  not_both (Generated f) h g e = cc
  not_both (Abstract c) h g e = cc
  not_both (Named name formals) h g e = cc
  not_both (Signed name formals s executable) h g e = cc

  pub functions_of_abstract : (x : ℕ) (f : FunctionOfAbstract) → definition w x ≡ Some (OfAbstract f) → IsOfAbstract w f
  functions_of_abstract x f e =
      let there = stocked.each x (OfAbstract f) e in
      record { descriptor = there.descriptor; stobj = there.stobj; logic = λ g h. not_both there.logic there.concrete g (sym there.found ∙ h); recognizer = there.recognizer }

  pub abstracts_made : (x : ℕ) (d : AbstractDescriptor) → definition w x ≡ Some (Abstract d) → HasAbstractCreator w x
  abstracts_made x d e =
      let c = stocked.each x (Abstract d) e in
      record {
        descriptor = d;
        stobj = e;
        creator = c.creator;
        there = ap (λ (v : Option Definition). definition w (creator_of v)) e ∙ c.there;
        makes = c.makes;
        logic = (functions_of_abstract d.creator.name c.creator c.there).logic;
      }
