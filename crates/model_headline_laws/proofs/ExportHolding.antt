-- What the printed obligations of an export of an abstract stobj say of values.
use Rattle.std.proofs.Common.{◌≡◌, ℕ, suc, ◌+◌, List, [], ◌∷◌, ◌++◌, map, length, Bool, true, false, Option, Some, None, refl, sym, ap, ◌∙◌, subst, inl, inr, arith}
use Rattle.std.specs.Prelude.{◌≢◌, ◌⊎◌, ◌||◌, nat_eq, slice_get, option_and_then, unwrap_or, if◌then◌else◌}
use Rattle.std.specs.Map.{lookup}
use Rattle.std.proofs.lemmas.Bool.{eqb-true}
use Rattle.std.proofs.lemmas.Bool.Decides.{nat_tests}
use Rattle.std.proofs.lemmas.List.{length-map}
use Rattle.model_objects.specs.Object.{Symbol}
use Rattle.model_objects.specs.Named.{Symbols}
use Rattle.model_symbols.specs.Symbols.{QualifiedName, Table, symbol_at, no_name}
use Rattle.model_symbols.specs.Opening.{nil, nil_name, truth, truth_name}
use Rattle.model_prims.specs.Kinds.{by_name, is_nil}
use Rattle.model_prims.specs.Rows.{Row}
use Rattle.model_prims.specs.declared.prim.Prim.{Prim}
use Rattle.model_terms.specs.declared.rule.Mode.TheVariants.{Logic, Executable}
use Rattle.model_terms.specs.declared.role.AbstractRole.TheVariants as abstract_role
use Rattle.model_terms.specs.Cores.{Core}
use Rattle.model_terms.specs.Worlds.{World, Definition, Out, Ordinary, Stobj, Signature, AbstractFunction, AbstractDescriptor, FunctionOfAbstract, definition, Primitive, Defined, Macro, Constant, Concrete, Generated, Abstract, OfAbstract, Named, Signed}
use Rattle.model_terms.specs.Classes.{stobjs, has, repeats}
use Rattle.model_terms.specs.Scopes.{kind_in}
use Rattle.model_terms.specs.Sites.{one_ordinary}
use Rattle.model_terms.specs.Outputs.{signature_in}
use Rattle.model_terms.specs.Accessors.{ChildAccessor, accessor_in, child_accessor}
use Rattle.model_logic.specs.Logic.{Theory, Thing, Values, value_in, bind, element_values, call_within, EndsWith, CallEndsWith}
use Rattle.model_abstract.specs.Rules.{out_parts}
use Rattle.model_abstract.specs.Corresponding.{CallHolds, HasPackage}
use Rattle.model_expansion.specs.Words.{equal_word, nth_word}
use Rattle.model_stobjs.specs.Guards.{Renaming, renamed_name}
use Rattle.model_stobjs.specs.Abstracts.{signature, no_signature, formals, with_stobj_named, abstracted, export_formals, logic_guard, to_exports}
use Rattle.model_stobjs.specs.Obligations.{Obligation, obligations, exec_actuals, logic_call, guard_obligation, exec_guard_of, preserved_from, preserved_obligation, export_obligations, all_export_obligations}
use Rattle.model_eval_laws.proofs.Lists.{same_number}
use Rattle.model_accepted.specs.Threaded.{AreOnly, IsFormed, formal_entries}
use Rattle.model_accepted.specs.Accepted.{Accepted}
use Rattle.model_accepted.proofs.AcceptLemmas.{accepted_first, neither, true_false}
use Rattle.model_lawful.specs.Lawful.{WasExported}
use Rattle.model_follows.specs.Abstract.{arguments_with, HaveHomes, IsWellFormed, OutputsCorrespond, ExportHolds}
use Rattle.model_follows.specs.Follows.{table_of}
use Rattle.model_books.specs.Opening.{Session}
use Rattle.model_abstract_books.specs.Commands.{theory_of}
use Rattle.model_abstract_books.specs.Holding.{AllHold, ObligationsHold}
use Rattle.model_made.specs.Made.{IsMade}
use Rattle.model_made.specs.Lawful.{IsLawfulWorld}
use Rattle.model_made.proofs.CommandLemmas.{made_sessions_lawful}
use Rattle.model_made_logic.specs.Exports.{IsAmong, IsWrittenAs, IsExportWritten, prim_of}
use Rattle.model_made_logic.specs.Followed.{IsFollowedHere}
use Rattle.model_made_logic.proofs.StockLemmas.{HasOutput, StandsFor, ExecThere, OfAbstractThere}
use Rattle.model_made_logic.proofs.LawLemmas.{made_stocked, made_sessions_known}
use Rattle.model_made_logic.proofs.FollowedLemmas.{made_worlds_followed_here, made_exports_written}
use Rattle.model_logic_laws.specs.Equations.{HasEqualAndNth, EndsTrue, OutputsMeet}
use Rattle.model_logic_laws.specs.Guards.{AgreeOn, CallsAlike}
use Rattle.model_logic_laws.specs.Arguments.{AreArgumentsOf, export_values}
use Rattle.model_logic_laws.proofs.LogicHomes.{calls_keep_homes}
use Rattle.model_logic_laws.proofs.PrimHomes.{element_homes}
use Rattle.model_logic_laws.proofs.GuardLemmas.{renamed_forms_agree}
use Rattle.model_logic_laws.proofs.CallLemmas.{exports_call_alike}
use Rattle.model_logic_laws.proofs.ExportLemmas.{obligations_tell_exports}
use Rattle.model_logic_laws.proofs.ArgumentLemmas.{formals_tell_arguments}
use Rattle.model_headline_laws.specs.Creators.{ObligationsTellValues}
use Rattle.model_headline_laws.proofs.CreatorLemmas.{obligations_tell_creators}

-- ---- lists of obligations

all_left : (b : Theory) (os ps : List Obligation) → AllHold b (os ++ ps) → AllHold b os
all_left b [] ps h = tt
all_left b (o ∷ os) ps h = (h.0, all_left b os ps h.1)

all_right : (b : Theory) (os ps : List Obligation) → AllHold b (os ++ ps) → AllHold b ps
all_right b [] ps h = h
all_right b (o ∷ os) ps h = all_right b os ps h.1

module _ (b : Theory) (d : AbstractDescriptor) where
  of_export : (f : AbstractFunction) (fs : List AbstractFunction) → IsAmong f fs → AllHold b (all_export_obligations b.world b.symbols d fs) → AllHold b (export_obligations b.world b.symbols d f)
  of_export f [] i h = absurd i
  of_export f (g ∷ fs) (inl same) h =
      subst (λ (q : AbstractFunction). AllHold b (export_obligations b.world b.symbols d q)) (sym same) (all_left b (export_obligations b.world b.symbols d g) (all_export_obligations b.world b.symbols d fs) h)
  of_export f (g ∷ fs) (inr i) h = of_export f fs i (all_right b (export_obligations b.world b.symbols d g) (all_export_obligations b.world b.symbols d fs) h)

-- ---- primitives

prim_found : (v : Option Definition) (p : Prim) → prim_of v ≡ Some p → (name : ℕ) × (row : Row) × (v ≡ Some (Primitive name row)) × (row.prim ≡ p)
prim_found None p e = cc
prim_found (Some (Primitive name row)) p e = (name, row, refl, is e)
  where
    is : Some row.prim ≡ Some p → row.prim ≡ p
    is f = cc
prim_found (Some (Defined f)) p e = cc
prim_found (Some (Macro name formals body)) p e = cc
prim_found (Some (Constant name value)) p e = cc
prim_found (Some (Concrete d class)) p e = cc
prim_found (Some (Generated g)) p e = cc
prim_found (Some (Abstract d)) p e = cc
prim_found (Some (OfAbstract f)) p e = cc
prim_found (Some (Named name formals)) p e = cc
prim_found (Some (Signed name formals signature executable)) p e = cc

-- ---- arguments and outputs

argument_homes : (b : Theory) (ks : List Out) (os : List Thing) (a : Thing) → HaveHomes b os → Symbols (HasPackage b) a → HaveHomes b (arguments_with ks os a)
argument_homes b [] os a h g = tt
argument_homes b (Ordinary ∷ ks) [] a h g = tt
argument_homes b (Ordinary ∷ ks) (o ∷ os) a h g = (h.0, argument_homes b ks os a h.1 g)
argument_homes b (Stobj x ∷ ks) os a h g = (g, argument_homes b ks os a h g)

-- each part of a value that is of a stobj is what its recognizer wants
abbrev AreWellFormed : Theory → AbstractDescriptor → List Out → List Thing → Type 0
AreWellFormed b d [] ls = Unit {0}
AreWellFormed b d (k ∷ ks) [] = Unit {0}
AreWellFormed b d (Ordinary ∷ ks) (l ∷ ls) = AreWellFormed b d ks ls
AreWellFormed b d (Stobj x ∷ ks) (l ∷ ls) = IsWellFormed b d l × AreWellFormed b d ks ls

all_plain : (b : Theory) (d : AbstractDescriptor) (ks : List Out) (ls : List Thing) → stobjs ks ≡ [] → AreWellFormed b d ks ls
all_plain b d [] ls e = tt
all_plain b d (k ∷ ks) [] e = tt
all_plain b d (Ordinary ∷ ks) (l ∷ ls) e = all_plain b d ks ls e
all_plain b d (Stobj x ∷ ks) (l ∷ ls) e = cc

outputs_meet : (b : Theory) (d : AbstractDescriptor) (w : World) (ks : List Out) (es ls : List Thing) → OutputsMeet b d.corr ks es ls → AreWellFormed b d ks ls → HaveHomes b ls → OutputsCorrespond b d (map (abstracted w d.name) ks) es ls
outputs_meet b d w [] [] [] h k g = tt
outputs_meet b d w [] [] (l ∷ ls) h k g = h
outputs_meet b d w [] (e ∷ es) ls h k g = h
outputs_meet b d w (k ∷ ks) [] ls h i g = absurd h
outputs_meet b d w (k ∷ ks) (e ∷ es) [] h i g = absurd h
outputs_meet b d w (Ordinary ∷ ks) (e ∷ es) (l ∷ ls) h k g = (h.0, outputs_meet b d w ks es ls h.1 k g.1)
outputs_meet b d w (Stobj x ∷ ks) (e ∷ es) (l ∷ ls) h k g = (h.0, k.0, g.0, outputs_meet b d w ks es ls h.1 k.1 g.1)

-- how many outputs there are is all that tells the parts
abbrev counted : List Out → List ℕ
counted ks = map (λ (q : Out). 0) ks

counted_alike : (w : World) (name : ℕ) (ks : List Out) → counted (map (abstracted w name) ks) ≡ counted ks
counted_alike w name [] = refl
counted_alike w name (k ∷ ks) = ap (λ (ns : List ℕ). 0 ∷ ns) (counted_alike w name ks)

parts_alike : (b : Theory) (w : World) (name : ℕ) (ks : List Out) (v : Thing) → out_parts b 0 (map (abstracted w name) ks) v ≡ out_parts b 0 ks v
parts_alike b w name [] v = refl
parts_alike b w name (k ∷ []) v = refl
parts_alike b w name (k ∷ (q ∷ ks)) v = ap (λ (ns : List ℕ). element_values (0 ∷ (0 ∷ ns)) 0 v) (counted_alike w name ks)

module _ (b : Theory) (at_truth : HasPackage b truth_name) (at_nil : HasPackage b nil_name) where
  elements_homes : (ns : List ℕ) (i : ℕ) (v : Thing) → Symbols (HasPackage b) v → HaveHomes b (element_values ns i v)
  elements_homes [] i v h = tt
  elements_homes (n ∷ ns) i v h = (element_homes (λ (q : QualifiedName). HasPackage b q) at_truth at_nil i v h, elements_homes ns (i + 1) v h)

  parts_homes : (ks : List Out) (v : Thing) → Symbols (HasPackage b) v → HaveHomes b (out_parts b 0 ks v)
  parts_homes [] v h = tt
  parts_homes (k ∷ []) v h = (h, tt)
  parts_homes (k ∷ (q ∷ ks)) v h = elements_homes (map (λ (o : Out). 0) (k ∷ (q ∷ ks))) 0 v h

-- a stobj that stands once leaves only ordinary ones
rest_plain : (c : ℕ) (ks : List Out) → AreOnly c ks → has (stobjs ks) c ≡ false → stobjs ks ≡ []
rest_plain c [] h e = refl
rest_plain c (Ordinary ∷ ks) h e = rest_plain c ks h e
rest_plain c (Stobj x ∷ ks) h e =
    let here : nat_eq c x ≡ true = ap (nat_eq c) h.0 ∙ same_number c in
    true_false (sym (ap (λ (t : Bool). t || has (stobjs ks) c) here) ∙ e)

-- ---- variables

not_in_scope : (xs : List ℕ) (ks : List Out) (x : ℕ) → has xs x ≡ false → kind_in (formal_entries xs ks) x ≡ None
not_in_scope [] ks x e = refl
not_in_scope (y ∷ xs) [] x e = refl
not_in_scope (y ∷ xs) (k ∷ ks) x e =
    let apart : (nat_eq x y ≡ false) × (has xs x ≡ false) = neither (nat_eq x y) (has xs x) e in
    rw (not_in_scope xs ks x apart.1, apart.0) refl

-- ---- an export in a session that commands have made

module _ (s : Session) (made : IsMade s) (hold : ObligationsHold (theory_of s.environment s.symbols)) (x : ℕ) (d : AbstractDescriptor) (f : FunctionOfAbstract) (e : definition s.environment.world x ≡ Some (OfAbstract f))
    (role : f.role ≡ abstract_role.Export) (there : definition s.environment.world f.stobj ≡ Some (Abstract d)) where
  abbrev b : Theory
  b = theory_of s.environment s.symbols

  abbrev w : World
  w = s.environment.world

  abbrev table : Table
  table = table_of s.environment.packages s.symbols

  here : IsFollowedHere w table
  here = made_worlds_followed_here.followed s made

  lawful : IsLawfulWorld w
  lawful = (made_sessions_lawful.lawful s made).world

  was : WasExported w f
  was = (lawful.lawful.each x (OfAbstract f) e).0 role

  of : OfAbstractThere w f
  of = (made_stocked s made).each x (OfAbstract f) e

  descriptor_same : of.descriptor ≡ d
  descriptor_same = is (sym of.stobj ∙ there)
    where
      is : {a c : AbstractDescriptor} → Some (Abstract a) ≡ Some (Abstract c) → a ≡ c
      is h = cc

  export_written : IsExportWritten w d f
  export_written = made_exports_written.exports s made x f e role d there

  abbrev g : AbstractFunction
  g = export_written.export

  written : IsWrittenAs w d g f
  written = export_written.written

  exec : ExecThere w d.foundation g.exec
  exec = subst (λ (c : ℕ). ExecThere w d.foundation c) written.exec (subst (λ (a : AbstractDescriptor). ExecThere w a.foundation f.exec) descriptor_same (of.exec role))

  signature_is : signature w g.exec ≡ exec.signature
  signature_is = ap (λ (v : Option Signature). unwrap_or v (no_signature w)) (ap (option_and_then signature_in) exec.found ∙ exec.signed)

  abbrev ins : List Out
  ins = (signature w g.exec).ins

  abbrev outs : List Out
  outs = (signature w g.exec).outs

  abbrev names : List ℕ
  names = with_stobj_named w d.name ins (formals w g.logic)

  -- ---- functions by the names of exports

  abbrev IsRenamed : ℕ → ℕ → Type 0
  IsRenamed n m = (m ≡ n) ⊎ ((h : FunctionOfAbstract) × (definition w m ≡ Some (OfAbstract h)) × (h.logic ≡ n))

  abbrev renaming : List AbstractFunction → Renaming
  renaming fs = map (λ (f : AbstractFunction). (f.logic, f.name)) fs

  renamed : (fs : List AbstractFunction) → ((q : AbstractFunction) → IsAmong q fs → StandsFor w q) → (n : ℕ) → IsRenamed n (renamed_name (renaming fs) n)
  renamed [] h n = inl refl
  renamed (q ∷ fs) h n = go (nat_eq n q.logic) refl (renamed fs (λ p i. h p (inr i)) n)
    where
      go : (t : Bool) → nat_eq n q.logic ≡ t → IsRenamed n (renamed_name (renaming fs) n) → IsRenamed n (unwrap_or (if t then Some q.name else lookup (nat_eq n) (renaming fs)) n)
      go true k later =
          let h : StandsFor w q = h q (inl refl) in
          inr (h.function, h.there, h.logic ∙ sym (eqb-true n q.logic k))
      go false k later = later

  exported : (n : ℕ) → IsRenamed n (renamed_name (to_exports w d) n)
  exported n = renamed (d.recognizer ∷ d.creator ∷ d.exports) ((made_stocked s made).each f.stobj (Abstract d) there).functions n

  no_accessor : (m : ℕ) (h : FunctionOfAbstract) → definition w m ≡ Some (OfAbstract h) → (a : ChildAccessor) → child_accessor was.guard.world m ≡ Some a → ⊥
  no_accessor m h k a q = go (definition was.guard.world m) refl q
    where
      go : (v : Option Definition) → definition was.guard.world m ≡ v → option_and_then (accessor_in was.guard.world) v ≡ Some a → ⊥
      go None i j = cc
      go (Some (Primitive name row)) i j = cc
      go (Some (Defined p)) i j = cc
      go (Some (Macro name formals body)) i j = cc
      go (Some (Constant name value)) i j = cc
      go (Some (Concrete c class)) i j = cc
      go (Some (Generated p)) i j = clash (sym k ∙ was.guard.becomes.each m (Generated p) i)
        where
          clash : Some (OfAbstract h) ≡ Some (Generated p) → ⊥
          clash r = cc
      go (Some (Abstract c)) i j = cc
      go (Some (OfAbstract p)) i j = cc
      go (Some (Named name formals)) i j = cc
      go (Some (Signed name formals signature executable)) i j = cc

  alike : CallsAlike b was.guard.world (to_exports w d)
  alike = record {
    calls = λ budget nest n args k. elim (exported n) [
      | inl same ↦ ap (λ (m : ℕ). call_within b budget nest m args k) same
      | inr h ↦ exports_call_alike.calls b (renamed_name (to_exports w d) n) h.0 h.1 (here.followed.abstracts (renamed_name (to_exports w d) n) h.0 h.1).logic budget nest args k
          ∙ ap (λ (m : ℕ). call_within b budget nest m args k) h.2
    ];
    accessors = λ n a q. elim (exported n) [ inl same ↦ same | inr h ↦ absurd (no_accessor (renamed_name (to_exports w d) n) h.0 h.1 a q) ];
  }

  -- ---- values of variables

  names_apart : has names d.foundation ≡ false
  names_apart = ap (λ (ys : List ℕ). has ys d.foundation) (sym written.formals) ∙ subst (λ (a : AbstractDescriptor). has f.formals a.foundation ≡ false) descriptor_same (of.apart role)

  as_many : length f.signature.ins ≡ length f.formals
  as_many = (lawful.made x (OfAbstract f) e).0

  names_long : length names ≡ length ins
  names_long = ap length (sym written.formals) ∙ (sym as_many ∙ (ap length written.ins ∙ length-map ins (abstracted w d.name)))

  module _ (os : List Thing) (c a : Thing) (long : length (arguments_with f.signature.ins os a) ≡ length f.signature.ins) where
    abbrev values : Values
    values = export_values w d.name d.foundation ins (formals w g.logic) os c a

    arguments : AreArgumentsOf w d.name d.foundation ins (formals w g.logic) os c a
    arguments =
        formals_tell_arguments.tell w d.name d.foundation ins (formals w g.logic) os c a (ap repeats (sym written.formals) ∙ was.distinct) names_apart
        (ap (λ (ks : List Out). length (arguments_with ks os a)) (sym written.ins) ∙ (long ∙ (as_many ∙ ap length written.formals))) names_long

    -- in front of what the guard is evaluated with, the foundation's list
    abbrev guard_values : Values
    guard_values = bind f.formals (arguments_with f.signature.ins os a) []

    values_same : (d.foundation, c) ∷ guard_values ≡ values
    values_same =
        ap (λ (xs : List ℕ). (d.foundation, c) ∷ bind xs (arguments_with f.signature.ins os a) []) written.formals
        ∙ ap (λ (ks : List Out). (d.foundation, c) ∷ bind names (arguments_with ks os a) []) written.ins

    agree : AgreeOn (formal_entries f.formals f.signature.ins) guard_values ((d.foundation, c) ∷ guard_values)
    agree = record { same = λ y k h. by_test y k h (nat_eq y d.foundation) refl }
      where
        none_some : {k : Out} → None ≡ Some k → ⊥
        none_some h = cc

        by_test : (y : ℕ) (k : Out) → kind_in (formal_entries f.formals f.signature.ins) y ≡ Some k → (t : Bool) → nat_eq y d.foundation ≡ t → value_in guard_values y ≡ (if t then c else value_in guard_values y)
        by_test y k h true i =
            absurd (none_some (sym (not_in_scope f.formals f.signature.ins d.foundation (ap (λ (ys : List ℕ). has ys d.foundation) written.formals ∙ names_apart))
            ∙ (ap (kind_in (formal_entries f.formals f.signature.ins)) (sym (eqb-true y d.foundation i)) ∙ h)))
        by_test y k h false i = refl

    guard_ends : (v : Thing) → EndsWith b f.guard guard_values v → EndsWith b (logic_guard w d g) values v
    guard_ends v h =
        let accepted : Accepted was.guard.world Executable (formal_entries f.formals f.signature.ins) f.guard None one_ordinary = accepted_first was.guard.world Executable (formal_entries f.formals f.signature.ins) f.guard one_ordinary was.guard.accepted in
        subst (λ (vs : Values). EndsWith b (logic_guard w d g) vs v) values_same
        (renamed_forms_agree.ends b was.guard.world (to_exports w d) alike Executable (formal_entries f.formals f.signature.ins) (logic_guard w d g) None one_ordinary runs
        (subst (λ (q : Core). Accepted was.guard.world Executable (formal_entries f.formals f.signature.ins) q None one_ordinary) written.guard accepted)
        (subst (λ (q : Core). IsFormed was.guard.world q) written.guard was.guard.formed) guard_values ((d.foundation, c) ∷ guard_values) agree v
        (subst (λ (q : Core). EndsWith b q guard_values v) written.guard h))
      where
        runs : Executable ≢ Logic
        runs q = cc

  -- ---- what the export runs

  was_is : was.signature ≡ signature w g.exec
  was_is = sym (ap (λ (v : Option Signature). unwrap_or v (no_signature w)) (ap (option_and_then signature_in) was.runs.stands ∙ was.runs.signed)) ∙ ap (signature w) written.exec

  only : AreOnly was.foundation outs
  only = subst (λ (t : Signature). AreOnly was.foundation t.outs) was_is was.only_outs

  once : repeats (stobjs outs) ≡ false
  once = ap (λ (t : Signature). repeats (stobjs t.outs)) signature_is ∙ exec.outs

  some_stobj : stobjs ins ≢ []
  some_stobj h = clash (sym h ∙ (ap (λ (t : Signature). stobjs t.ins) signature_is ∙ exec.ins))
    where
      clash : [] ≡ d.foundation ∷ [] → ⊥
      clash q = cc

  -- ---- its obligations

  prims : HasEqualAndNth b
  prims =
      let equal = prim_found (definition w equal_word) _ (made_exports_written.equal s made) in
      let nth = prim_found (definition w nth_word) _ (made_exports_written.nth s made) in
      record { equal_name = equal.0; equal_row = equal.1; equal = equal.2; is_equal = equal.3; nth_name = nth.0; nth_row = nth.1; nth = nth.2; is_nth = nth.3 }

  at_nil : symbol_at s.symbols nil ≡ nil_name
  at_nil = ap (λ (v : Option QualifiedName). unwrap_or v no_name) (made_sessions_known.truth s made).at_nil

  held : AllHold b (export_obligations w s.symbols d g)
  unfolding obligations
  held =
      let all : AllHold b (obligations w s.symbols d) = hold.hold f.stobj d there in
      of_export b d g d.exports export_written.among all.1.1

  -- what is asked of the list that the logic function gives
  abbrev Kept : ℕ → Bool → List Out → Type 0
  Kept i alone ks = AllHold b (preserved_obligation w s.symbols d g (preserved_from w s.symbols d i alone ks (logic_call w s.symbols d g)))

  kept : Kept 0 (nat_eq (length outs) 1) outs
  kept =
      all_right b (guard_obligation w s.symbols d g (exec_guard_of w s.symbols d g (definition w g.exec)))
      (preserved_obligation w s.symbols d g (preserved_from w s.symbols d 0 (nat_eq (length outs) 1) outs (logic_call w s.symbols d g))) held.1

  -- with these values of variables
  module _ (vs : Values) (well : CallEndsWith b d.recognizer.logic (value_in vs d.name ∷ []) (Symbol truth_name)) (guard : EndsTrue b (logic_guard w d g) vs) (l : Thing)
      (ends : CallEndsWith b g.logic (map (value_in vs) (export_formals w d g)) l) where
    several_kept : (i : ℕ) (ks : List Out) → AreOnly was.foundation ks → repeats (stobjs ks) ≡ false → Kept i false ks → AreWellFormed b d ks (element_values (counted ks) i l)
    several_kept i [] o r h = tt
    several_kept i (Ordinary ∷ ks) o r h = several_kept (i + 1) ks o r h
    several_kept i (Stobj y ∷ ks) o r h =
        let apart : has (stobjs ks) y ≡ false = (neither (has (stobjs ks) y) (repeats (stobjs ks)) r).0 in (
          obligations_tell_exports.preserved b d g prims i false h.0 vs well guard l ends,
          all_plain b d ks (element_values (counted ks) (i + 1) l) (rest_plain was.foundation ks o.1 (subst (λ (z : ℕ). has (stobjs ks) z ≡ false) o.0 apart)),
        )

    all_kept : (ks : List Out) → AreOnly was.foundation ks → repeats (stobjs ks) ≡ false → Kept 0 (nat_eq (length ks) 1) ks → AreWellFormed b d ks (out_parts b 0 ks l)
    all_kept [] o r h = tt
    all_kept (Ordinary ∷ []) o r h = tt
    all_kept (Stobj y ∷ []) o r h = (obligations_tell_exports.preserved b d g prims 0 true h.0 vs well guard l ends, tt)
    all_kept (k ∷ (q ∷ ks)) o r h =
        let more : nat_eq (length (k ∷ (q ∷ ks))) 1 ≡ false = longer (length ks) in
        several_kept 0 (k ∷ (q ∷ ks)) o r (subst (λ (t : Bool). Kept 0 t (k ∷ (q ∷ ks))) more h)
      where
        longer : (n : ℕ) → nat_eq (suc (suc n)) 1 ≡ false
        longer n = grind (arith, nat_tests)

  -- ---- both functions end, with outputs that correspond

  abbrev Agreed : List Thing → Thing → Thing → Type 0
  Agreed os c a =
      (e : Thing) × (l : Thing) × CallEndsWith b f.exec (arguments_with f.signature.ins os c) e × CallEndsWith b f.logic (arguments_with f.signature.ins os a) l
      × OutputsCorrespond b d f.signature.outs (out_parts b 0 f.signature.outs e) (out_parts b 0 f.signature.outs l)

  at_home : (q : ℕ) (n : QualifiedName) → slice_get s.symbols q ≡ Some n → HasPackage b n
  at_home q n h = (made_sessions_known.table s made).homes q n h

  module _ (os : List Thing) (c a v : Thing) (long : length (arguments_with f.signature.ins os a) ≡ length f.signature.ins) (homes : HaveHomes b os) (home : Symbols (HasPackage b) a) (corr : CallHolds b d.corr (c ∷ a ∷ []))
      (well : IsWellFormed b d a) (guard : EndsWith b f.guard (bind f.formals (arguments_with f.signature.ins os a) []) v) (not_nil : is_nil by_name v ≡ false) where
    abbrev given : Values
    given = values os c a long

    args : AreArgumentsOf w d.name d.foundation ins (formals w g.logic) os c a
    args = arguments os c a long

    name_is : value_in given d.name ≡ a
    name_is = args.abstract some_stobj

    given_corr : CallHolds b d.corr (value_in given d.foundation ∷ value_in given d.name ∷ [])
    given_corr =
        subst (λ (z : Thing). CallHolds b d.corr (z ∷ value_in given d.name ∷ [])) (sym args.concrete)
        (subst (λ (z : Thing). CallHolds b d.corr (c ∷ z ∷ [])) (sym name_is) corr)

    given_well : CallEndsWith b d.recognizer.logic (value_in given d.name ∷ []) (Symbol truth_name)
    given_well = subst (λ (z : Thing). CallEndsWith b d.recognizer.logic (z ∷ []) (Symbol truth_name)) (sym name_is) well

    given_guard : EndsTrue b (logic_guard w d g) given
    given_guard = (v, guard_ends os c a long v guard, not_nil)

    logic_args : map (value_in given) names ≡ arguments_with f.signature.ins os a
    logic_args = args.logic ∙ ap (λ (ks : List Out). arguments_with ks os a) (sym written.ins)

    exec_args : map (value_in given) (exec_actuals w s.symbols d g) ≡ arguments_with f.signature.ins os c
    exec_args = args.exec ∙ ap (λ (ks : List Out). arguments_with ks os c) (sym written.ins)

    -- as the functions are called
    in_exec : (y : Thing) → CallEndsWith b g.exec (map (value_in given) (exec_actuals w s.symbols d g)) y → CallEndsWith b f.exec (arguments_with f.signature.ins os c) y
    in_exec y h =
        subst (λ (n : ℕ). CallEndsWith b n (arguments_with f.signature.ins os c) y) (sym written.exec)
        (subst (λ (xs : List Thing). CallEndsWith b g.exec xs y) exec_args h)

    in_logic : (y : Thing) → CallEndsWith b g.logic (map (value_in given) names) y → CallEndsWith b f.logic (arguments_with f.signature.ins os a) y
    in_logic y h =
        subst (λ (n : ℕ). CallEndsWith b n (arguments_with f.signature.ins os a) y) (sym written.logic)
        (subst (λ (xs : List Thing). CallEndsWith b g.logic xs y) logic_args h)

    logic_homes : (y : Thing) → CallEndsWith b f.logic (arguments_with f.signature.ins os a) y → Symbols (HasPackage b) y
    logic_homes y h =
        calls_keep_homes.homes b (made_sessions_known.table s made) (made_sessions_known.truth s made) here.written f.logic (arguments_with f.signature.ins os a) y (argument_homes b f.signature.ins os a homes home) h

    corresponding : (ks : List Out) → outs ≡ ks → (y l : Thing) → OutputsMeet b d.corr ks (out_parts b 0 ks y) (out_parts b 0 ks l) → AreWellFormed b d ks (out_parts b 0 ks l) → Symbols (HasPackage b) l
        → OutputsCorrespond b d f.signature.outs (out_parts b 0 f.signature.outs y) (out_parts b 0 f.signature.outs l)
    corresponding ks q y l meet formed p =
        let all : OutputsCorrespond b d (map (abstracted w d.name) ks) (out_parts b 0 ks y) (out_parts b 0 ks l)
        = outputs_meet b d w ks (out_parts b 0 ks y) (out_parts b 0 ks l) meet formed
        (parts_homes b (at_home truth truth_name (made_sessions_known.truth s made).at_truth) (at_home nil nil_name (made_sessions_known.truth s made).at_nil) ks l p) in
        subst (λ (rs : List Out). OutputsCorrespond b d rs (out_parts b 0 rs y) (out_parts b 0 rs l)) (sym (written.outs ∙ ap (map (abstracted w d.name)) q))
        (subst (λ (es : List Thing). OutputsCorrespond b d (map (abstracted w d.name) ks) es (out_parts b 0 (map (abstracted w d.name) ks) l)) (sym (parts_alike b w d.name ks y))
        (subst (λ (ls : List Thing). OutputsCorrespond b d (map (abstracted w d.name) ks) (out_parts b 0 ks y) ls) (sym (parts_alike b w d.name ks l)) all))

    agreed : (ks : List Out) → outs ≡ ks → Agreed os c a
    agreed [] q = absurd (subst HasOutput (written.outs ∙ ap (map (abstracted w d.name)) q) of.output)
    agreed (first ∷ others) q =
        let found = obligations_tell_exports.correspondence b d g prims at_nil first others q held.0 given given_corr given_guard in
        let formed : AreWellFormed b d (first ∷ others) (out_parts b 0 (first ∷ others) found.1)
        = subst (λ (ks : List Out). AreWellFormed b d ks (out_parts b 0 ks found.1)) q (all_kept given given_well given_guard found.1 found.3 outs only once kept) in
        (found.0, found.1, in_exec found.0 found.2, in_logic found.1 found.3, corresponding (first ∷ others) q found.0 found.1 found.4 formed (logic_homes found.1 (in_logic found.1 found.3)))

  export_holds : ExportHolds b d f
  export_holds = record { holds = λ os c a v long homes home corr well guard not_nil. agreed os c a v long homes home corr well guard not_nil outs refl }

pub obligations_tell_values : ObligationsTellValues
obligations_tell_values = record {
  tell = λ s made hold. record {
    creators = obligations_tell_creators.creators s made hold;
    exports = λ x d f e role there. export_holds s made hold x d f e role there;
  };
}
